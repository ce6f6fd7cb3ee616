use Rattle.std.proofs.Common.{◌≡◌, refl, sym, subst, Some, None}
use Rattle.serde_json.specs.Data.{Data}
use Rattle.pipe_value.specs.View.{view}
use Rattle.pipe_why_text.specs.declared.want.Want.{Want}
use Rattle.pipe_why_text.specs.declared.want.Want.TheVariants as want
use Rattle.pipe_why_text.specs.declared.want.Foreign.TheVariants as foreign
use Rattle.std.specs.Prelude.{MatchOption}
use Rattle.serde_json.specs.Find.{as_array}
use Rattle.pipe_value.specs.Items.{IsArrayOf}
use Rattle.pipe_why_value.specs.Places.{AreGoodBefore, Place}
use Rattle.pipe_why_value.proofs.Goods.{edit_parts, not_an_array}
use Rattle.pipe_why_value.proofs.Looks.{both_ok, looked_twice, none_before, noted_here, on_ok, one_more_good, some_none, was_untold}
use Rattle.pipe_why_value.proofs.edits.look_at_edit.Goals as goal

pub returns-clause-looked : goal.returns-clause-looked
returns-clause-looked c =
    on_ok c.look_at_third.result (λ third t.
    let p : Place = (want.Foreign foreign.Edit, view c.args.value.now, t) in
    let none : AreGoodBefore p 0 = none_before p in
    let side = c.in_ok-look_at_word.ensures.looked t refl (λ untold. none) in
    let one : c.look_at_word.new.walk.first ≡ None → AreGoodBefore p 1 = λ untold. one_more_good p 0 none (c.in_ok-look_at_word.ensures.good t refl untold) in
    let word = c.in_ok-look_at_word-2.ensures.looked t refl one in
    looked_twice p c.args.walk.now c.look_at_word-2.new.walk c.look_at_third.new.walk
    (looked_twice p c.args.walk.now c.look_at_word.new.walk c.look_at_word-2.new.walk side word)
    (third t (λ untold. one_more_good p 1 (one (was_untold c.look_at_word.new.walk.first c.look_at_word-2.new.walk.first word.kept untold)) (c.in_ok-look_at_word-2.ensures.good t refl untold))))
    c.look_at_third.ensures.looked

pub returns-clause-good : goal.returns-clause-good
returns-clause-good c =
    on_ok c.look_at_third.result (λ third t untold.
    let p : Place = (want.Foreign foreign.Edit, view c.args.value.now, t) in
    let none : AreGoodBefore p 0 = none_before p in
    let one : c.look_at_word.new.walk.first ≡ None → AreGoodBefore p 1 = λ untold. one_more_good p 0 none (c.in_ok-look_at_word.ensures.good t refl untold) in
    let word = c.in_ok-look_at_word-2.ensures.looked t refl one in
    let two : c.look_at_word-2.new.walk.first ≡ None → AreGoodBefore p 2 = λ untold. one_more_good p 1 (one (was_untold c.look_at_word.new.walk.first c.look_at_word-2.new.walk.first word.kept untold)) (c.in_ok-look_at_word-2.ensures.good t refl untold) in
    edit_parts (view c.args.value.now) t c.requires
    (one_more_good p 2 (two (was_untold c.look_at_word-2.new.walk.first c.look_at_third.new.walk.first (third.0 t two).kept untold)) (third.1 t untold)))
    (both_ok _ _ c.look_at_third.result c.look_at_third.ensures.looked c.look_at_third.ensures.good)

pub returns-then-count-ne3-clause-looked : goal.returns-then-count-ne3-clause-looked
returns-then-count-ne3-clause-looked c =
    let d = view c.args.value.now in
    let is : IsArrayOf d c.in-Some.count = subst (λ f. MatchOption f (as_array d ≡ None) (IsArrayOf d)) c.in-Some.is c.in_ok-count.ensures in
    on_ok c.note.result
    (λ noted t. noted_here (want.Foreign foreign.Edit, d, t) _ c.args.walk.now c.note.new.self noted (sym is.counted, c.if-count-ne3.true) (λ root here. (d, t, here)) (λ root here none. tt))
    c.note.ensures.noted

pub returns-then-count-ne3-clause-good : goal.returns-then-count-ne3-clause-good
returns-then-count-ne3-clause-good c = on_ok c.note.result (λ some t none. absurd (some_none c.note.new.self.first some none)) c.note.ensures.some

pub returns-in_default-clause-good : goal.returns-in_default-clause-good
returns-in_default-clause-good c = λ t none.
    let d = view c.args.value.now in
    not_an_array d c.requires (subst (λ f. MatchOption f (as_array d ≡ None) (IsArrayOf d)) c.in_default.is c.in_ok-count.ensures)
