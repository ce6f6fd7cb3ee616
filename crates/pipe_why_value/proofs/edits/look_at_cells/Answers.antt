use Rattle.std.proofs.Common.{refl, subst, inr}
use Rattle.pipe_value.specs.View.{view}
use Rattle.pipe_why_text.specs.declared.want.Want.TheVariants as want
use Rattle.pipe_why_text.specs.declared.want.Foreign.TheVariants as foreign
use Rattle.std.specs.Prelude.{IfSome, slice_index_or}
use Rattle.serde_json.specs.Data.{null}
use Rattle.pipe_value.specs.Items.{elements}
use Rattle.pipe_why_value.specs.Places.{IsBadPair}
use Rattle.pipe_why_value.proofs.Looks.{item_there, on_ok, row_cells}
use Rattle.pipe_why_value.proofs.edits.look_at_cells.Goals as goal

pub returns : goal.returns
returns c =
    let d = view c.args.row.now in
    let place = c.in-Some.place in
    let bad = subst (λ f. IfSome f (IsBadPair d)) c.in-Some.is c.in_ok-place.ensures in
    on_ok c.note_item.result
    (λ looked t. looked (want.Foreign foreign.Row, d, t) (slice_index_or (elements d) place null) (item_there d place bad.0) (λ none. row_cells d t place) (λ steps. bad.1)
    (λ root above here. record { above = above; place = place; steps_are = refl; stands = inr (d, t, here) }) (λ root steps. tt))
    c.note_item.ensures.looked
