use Rattle.std.proofs.Common.{◌≡◌, ap, subst, Some, None}
use Rattle.pipe_value.specs.View.{view}
use Rattle.pipe_why_text.specs.declared.want.Foreign.TheVariants as foreign
use Rattle.pipe_why_text.specs.declared.want.Want.TheVariants as want
use Rattle.pipe_why_value.specs.declared.wrong.Wrong.TheVariants as wrong
use Rattle.std.specs.Prelude.{MatchOption, is_some, false}
use Rattle.serde_json.specs.Find.{as_array}
use Rattle.pipe_value.specs.Items.{IsArrayOf}
use Rattle.pipe_why_value.proofs.Goods.{is_an_array, row_within}
use Rattle.pipe_why_value.proofs.Looks.{all_good, noted_good, ok_all, on_ok, some_none}
use Rattle.pipe_why_value.proofs.edits.look_at_row.Goals as goal

pub returns-in-None-clause-looked : goal.returns-in-None-clause-looked
returns-in-None-clause-looked c =
    let d = view c.args.row.now in
    let none : as_array d ≡ None = subst (λ f. MatchOption f (as_array d ≡ None) (IsArrayOf d)) c.in-None.is c.in_ok-cells.ensures in
    let bad : is_some (as_array d) ≡ false = ap is_some none in
    on_ok c.note.result
    (λ noted t. noted_good (want.Foreign foreign.Row, d, t) (wrong.Other (want.Foreign foreign.Row)) c.args.walk.now c.note.new.self noted bad (λ root here. (d, t, here)) (λ untold. row_within d t))
    c.note.ensures.noted

pub returns-in-None-clause-good : goal.returns-in-None-clause-good
returns-in-None-clause-good c = on_ok c.note.result (λ some t none. absurd (some_none c.note.new.self.first some none)) c.note.ensures.some

pub returns-in-Some-clause-good : goal.returns-in-Some-clause-good
returns-in-Some-clause-good c =
    let d = view c.args.row.now in
    let is : IsArrayOf d c.in-Some.cells = subst (λ f. MatchOption f (as_array d ≡ None) (IsArrayOf d)) c.in-Some.is c.in_ok-cells.ensures in
    ok_all c.look_at_width.result (λ t none. all_good (want.Foreign foreign.Row, d, t) (is_an_array d c.in-Some.cells is) (row_within d t))
