use Rattle.std.proofs.Common.{List, ◌∷◌, ◌++◌, [], map, ap, ◌∙◌}
use Rattle.std.specs.Global.{Vec}
use Rattle.pipe_engine.specs.Drives.{Line}
use Rattle.pipe_lines.specs.Cuts.{way_in}
use Rattle.pipe_lines.specs.declared.pipe_line.PipeLine.{PipeLine}
use Rattle.pipe_lines.proofs.lending.take_lines.Goals as goal

pub returns : goal.returns
returns g c =
    let rest = c.in_ok-rest.ensures ∙ ap (λ (v : Vec (PipeLine g.row.H.Denot)). map way_in v.items) c.replace.ensures.value in
    let first = c.in_ok-push.ensures.items ∙ ap (λ (ls : List (Line g.row.H.Denot)). ls ++ c.replace-way.result ∷ []) c.new-lines.ensures.items in
    c.in_ok-append.ensures.items ∙ ap (λ (ls : List (Line g.row.H.Denot)). ls ++ c.in_ok-rest.rest.items) first ∙ ap (λ (w : Line g.row.H.Denot). w ∷ c.in_ok-rest.rest.items) c.replace-way.ensures.value ∙ ap (λ (ls : List (Line g.row.H.Denot)). way_in c.args.first.now ∷ ls) rest
