use Rattle.std.proofs.Common.{refl, inl}
use Rattle.std.specs.Prelude.{slice_index_or}
use Rattle.serde_json.specs.Data.{null}
use Rattle.pipe_value.specs.Items.{elements}
use Rattle.pipe_why_text.specs.declared.want.Want.TheVariants as want
use Rattle.pipe_why_value.specs.Places.{Place}
use Rattle.pipe_why_value.proofs.Looks.{item_there, looked_none, looked_twice}
use Rattle.pipe_why_value.proofs.walk.Walk.bad_cell.Goals as goal

pub returns-clause-looked : goal.returns-clause-looked
returns-clause-looked c = λ d t bad before.
    let row = c.args.row in
    let p : Place = (want.Cells c.args.dtype, d, t) in
    looked_twice p c.args.self.now c.note_item.new.self _
    (c.in_ok-note_item.ensures.looked p (slice_index_or (elements d) row null) (item_there d row bad.0) before (λ steps. bad.1)
    (λ root above here. record { above = above; place = row; steps_are = refl; stands = inl (d, t, here) }) (λ root steps. tt))
    (looked_none p c.note_item.new.self _ refl refl)

pub returns-clause-some : goal.returns-clause-some
returns-clause-some c = c.in_ok-note_item.ensures.some
