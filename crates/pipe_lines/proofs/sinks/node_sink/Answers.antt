use Rattle.std.proofs.Common.{◌≡◌, Some, None, refl, ap, sym, ◌∙◌}
use Rattle.pipe_plan.specs.Under.{node_at}
use Rattle.pipe_convert.specs.Nodes.{nodes_in}
use Rattle.pipe_lines.specs.Made.{own_sink}
use Rattle.pipe_lines.proofs.SinkLists.{own_there, sink_made, none_made}
use Rattle.pipe_lines.proofs.sinks.node_sink.Goals as goal

pub numbered-requires : goal.numbered-requires
numbered-requires g c = c.requires.under

pub get_sink-requires-clause-specs : goal.get_sink-requires-clause-specs
get_sink-requires-clause-specs g c = λ κs lives. c.requires.specs

pub get_sink-requires-clause-parts : goal.get_sink-requires-clause-parts
get_sink-requires-clause-parts g c = λ κs lives. c.requires.parts

pub get_sink-requires-clause-there : goal.get_sink-requires-clause-there
get_sink-requires-clause-there g c = λ κs lives. (
    let x = node_at (nodes_in c.args.plan.now) c.args.n in
    let e : own_sink x c.args.n ≡ Some c.in-Some.at = ap (λ y. own_sink y c.args.n) (sym c.numbered.ensures) ∙ sym c.node_place.ensures ∙ c.in-Some.is in
    own_there c.args.plan.now c.args.n x c.in-Some.at c.requires.under refl e)

pub returns-in_default : goal.returns-in_default
returns-in_default g c =
    let x = node_at (nodes_in c.args.plan.now) c.args.n in
    let e : own_sink x c.args.n ≡ None = ap (λ y. own_sink y c.args.n) (sym c.numbered.ensures) ∙ sym c.node_place.ensures ∙ c.in_default.is in
    none_made c.args.plan.now c.args.specs.now c.args.hasher c.args.parts c.args.n x refl e

pub returns : goal.returns
returns g c =
    let x = node_at (nodes_in c.args.plan.now) c.args.n in
    let e : own_sink x c.args.n ≡ Some c.in-Some.at = ap (λ y. own_sink y c.args.n) (sym c.numbered.ensures) ∙ sym c.node_place.ensures ∙ c.in-Some.is in
    sink_made c.args.plan.now c.args.specs.now c.args.hasher c.args.parts c.args.n x c.in-Some.at c.in_ok-sink.sink c.known_well_formed.ensures c.requires.under refl e c.in_ok-sink.ensures
