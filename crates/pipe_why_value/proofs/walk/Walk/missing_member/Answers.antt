use Rattle.std.proofs.Common.{sym}
use Rattle.pipe_value.specs.View.{view}
use Rattle.pipe_why_value.specs.declared.wrong.Wrong.TheVariants as wrong
use Rattle.pipe_why_value.proofs.Looks.{noted_good, on_ok}
use Rattle.pipe_why_value.proofs.walk.Walk.missing_member.Goals as goal

pub returns-in-None : goal.returns-in-None
returns-in-None c =
    let d = view c.args.value.now in
    on_ok c.note.result
    (λ noted w has t good. noted_good (w, d, t) (wrong.Missing c.args.member.now.0 c.args.member.now.1) c.args.self.now c.note.new.self noted (sym c.in-None.ensures)
    (λ root here. record { object = (w, d, t); stands = here; has = has }) good)
    c.note.ensures.noted
