use Rattle.std.proofs.Common.{◌≡◌, ap, subst, Some, None}
use Rattle.std.specs.Prelude.{MatchOption, false}
use Rattle.serde_json.specs.Find.{as_array}
use Rattle.pipe_value.specs.Items.{IsArrayOf}
use Rattle.pipe_value.specs.View.{view}
use Rattle.pipe_why_text.specs.Wanted.{is_wanted}
use Rattle.pipe_why_text.specs.declared.want.Want.TheVariants as want
use Rattle.pipe_why_value.specs.declared.wrong.Wrong.TheVariants as wrong
use Rattle.pipe_why_value.proofs.Goods.{no_cells_within}
use Rattle.pipe_why_value.proofs.Looks.{no_cells, noted_good, on_ok, some_none}
use Rattle.pipe_why_value.proofs.walk.Walk.cells.Goals as goal

pub counted_cells-requires : goal.counted_cells-requires
counted_cells-requires c =
    let d = view c.args.value.now in
    subst (λ f. MatchOption f (as_array d ≡ None) (IsArrayOf d)) c.in-Some.is c.in_ok-count.ensures

pub returns-in-None-clause-looked : goal.returns-in-None-clause-looked
returns-in-None-clause-looked c =
    let d = view c.args.value.now in
    let none : as_array d ≡ None = subst (λ f. MatchOption f (as_array d ≡ None) (IsArrayOf d)) c.in-None.is c.in_ok-count.ensures in
    let bad : is_wanted (want.Cells c.args.dtype) d ≡ false = no_cells c.args.dtype d none in
    on_ok c.note.result
    (λ noted t. noted_good (want.Cells c.args.dtype, d, t) (wrong.Other (want.Cells c.args.dtype)) c.args.self.now c.note.new.self noted bad (λ root here. (d, t, here)) (λ untold. no_cells_within c.args.dtype d t none))
    c.note.ensures.noted

pub returns-in-None-clause-good : goal.returns-in-None-clause-good
returns-in-None-clause-good c = on_ok c.note.result (λ some t none. absurd (some_none c.note.new.self.first some none)) c.note.ensures.some
