use Rattle.std.proofs.Common.{◌≡◌, ◌++◌, ◌∷◌, [], subst}
use Rattle.std.specs.Prelude.{OnOk}
use Rattle.pipe_plan.specs.Node.{node_of}
use Rattle.pipe_optimize.specs.Lists.{names_at}
use Rattle.pipe_optimize.specs.Sides.{output_by}
use Rattle.pipe_optimize.proofs.Fronts.{behind-front, own-alone}
use Rattle.pipe_optimize.proofs.outputs.push_names.Goals as goal

pub returns-in-Some : goal.returns-in-Some
returns-in-Some c =
    let lists = c.note_searched.new.lists in
    let frames = c.args.frames.now in
    let x = node_of c.args.node.now in
    let made = behind-front frames (names_at lists) x c.front_of.result c.in-Some.input c.in_ok-names.names c.front_of.ensures c.in-Some.is c.in_ok-names.ensures in
    let pushed = subst (λ l. OnOk c.push_behind.result (c.push_behind.new.self ≡ lists ++ l ∷ [])) made c.push_behind.ensures in
    subst (λ q. OnOk c.push_behind.result (c.push_behind.new.self ≡ q ++ output_by frames (names_at q) x ∷ [])) c.in_ok-note_searched.ensures pushed

pub returns-in-None : goal.returns-in-None
returns-in-None c =
    let lists = c.note_searched.new.lists in
    let frames = c.args.frames.now in
    let x = node_of c.args.node.now in
    let made = own-alone frames (names_at lists) x c.front_of.result c.in_ok-names.names c.front_of.ensures c.in-None.is c.in_ok-names.ensures in
    let pushed = subst (λ l. OnOk c.push.result (c.push.new.self ≡ lists ++ l ∷ [])) made c.push.ensures in
    subst (λ q. OnOk c.push.result (c.push.new.self ≡ q ++ output_by frames (names_at q) x ∷ [])) c.in_ok-note_searched.ensures pushed
