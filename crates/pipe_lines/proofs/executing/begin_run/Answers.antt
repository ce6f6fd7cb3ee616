use Rattle.std.proofs.Common.{List, sym, subst, ap, ◌∙◌}
use Rattle.std.specs.Global.{Vec}
use Rattle.pipe_events.specs.declared.event.Event.{Event}
use Rattle.pipe_engine.specs.Drives.{Line}
use Rattle.pipe_engine.specs.Lent.{AreLent}
use Rattle.pipe_lines.proofs.executing.begin_run.Goals as goal

pub returns-clause-stand : goal.returns-clause-stand
returns-clause-stand g c = λ asked stand. (
    let hash_of = g.H.KeyHasher.hash_of in
    let L : List (Line g.row.H.Denot) → Type 0 = AreLent hash_of asked.settings asked.ask c.args.context c.args.slots c.args.counts in
    let made = rw c.as_slice.ensures.value at c.in_ok-run.ensures.stand in
    made hash_of asked.settings asked.ask (subst L (sym c.in_ok-lines.ensures) stand.lent))

pub returns-clause-journal : goal.returns-clause-journal
returns-clause-journal g c = ap (λ (v : Vec Event). v.items) c.in_ok-run.ensures.journal ∙ c.new-journal.ensures.items
