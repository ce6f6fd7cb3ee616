use Rattle.std.proofs.Common.{◌≡◌, ◌<◌, ◌≤◌, ◌++◌, ◌∷◌, [], length, refl, sym, ap, ap₂, ◌∙◌, subst, arith, Option, Some, None, ℕ}
use Rattle.std.specs.Prelude.{MatchOption, IfSome, IfNone, IsSome, ◌↔◌, true, false, is_some, option_and_then, slice_get, slice_index_or}
use Rattle.json.specs.Json.{null}
use Rattle.serde_json.specs.Data.{Data, depth, object}
use Rattle.serde_json.specs.Find.{as_array, get}
use Rattle.pipe_value.specs.Items.{IsArrayOf, elements}
use Rattle.pipe_value.specs.View.{members_view, view}
use Rattle.pipe_schema.specs.declared.data_type.DataType.{DataType}
use Rattle.pipe_job.specs.Shape.{contains_text, is_object, is_single}
use Rattle.pipe_why_text.specs.declared.steps.Step.TheVariants as step
use Rattle.pipe_why_text.specs.Members.{beside, couple_items, members_in, members_of, type_of, want_in}
use Rattle.pipe_why_text.specs.Wanted.{form_words}
use Rattle.pipe_why_text.specs.declared.want.Foreign.TheVariants as foreign
use Rattle.pipe_why_text.specs.declared.want.Want.{Want}
use Rattle.pipe_why_text.specs.declared.want.Want.TheVariants as want
use Rattle.pipe_why_value.specs.Order.{AreLasts, IsLast, IsWritten, names_in, names_of, tree_part, written}
use Rattle.pipe_why_value.specs.Places.{AreGoodBefore, AreGoodParts, Place, last_name}
use Rattle.pipe_why_value.specs.Walks.{IsWantBy, Looked}
use Rattle.pipe_why_value.specs.declared.wrong.Wrong.TheVariants as wrong
use Rattle.pipe_why_value.proofs.Goods.{array_parts, couple_item, empty_table, items_good, members_good, no_parts, named_parts, no_table, none_lacking, not_an_array, object_parts}
use Rattle.pipe_why_value.proofs.Looks.{all_good, both_ok, couple_first, couple_second, couple_third, good_part, item_there, last_of, list_wanted, looked_behind, looked_inside, looked_none, looked_twice, none_before, none_wanted, not_in_table, not_single, not_there, not_wanted, noted_here, noted_within, object-view, on_ok, one_more_good, single, some_none, wanted_by, wanted_item, wanted_member, was_untold, within_looked, within_none}
use Rattle.pipe_why_value.proofs.Orders.{AreGoodLasts, count_names, no_lasts, one_more_last, passes_lasts, passes_single}
use Rattle.pipe_why_value.proofs.Writing.{member_deep, item_deep, part_written}
use Rattle.pipe_why_value.proofs.looking.+walk.Goals as goal

pub items-loop-i-init : goal.items-loop-i-init
items-loop-i-init t c = λ w may. record {
  looked = looked_none (w, view c.args.value.now, written c.args.tree) c.args.walk.now _ refl refl;
  good = λ untold. none_before (w, view c.args.value.now, written c.args.tree);
}

pub items-loop-i-preserved : goal.items-loop-i-preserved
items-loop-i-preserved t c = λ w may.
    let p : Place = (w, view c.args.value.now, written c.args.tree) in
    let i = c.loop-i.i in
    let before = c.loop-i.invariant w may in
    let here = c.in_ok-item.ensures.looked w (may i) before.good in
    record {
      looked = looked_twice p c.args.walk.now c.loop-i.walk _ before.looked here;
      good = λ untold. one_more_good p i (before.good (was_untold c.loop-i.walk.first c.item.new.walk.first here.kept untold)) (c.in_ok-item.ensures.good w (may i) untold);
    }

pub placed_members-loop-i-init : goal.placed_members-loop-i-init
placed_members-loop-i-init t c = λ w table. record {
  looked = looked_none (w, view c.args.value.now, written c.args.tree) c.args.walk.now _ refl refl;
  good = λ untold. no_lasts (w, view c.args.value.now, written c.args.tree) (names_in c.written_members-members.result.now);
}

pub placed_members-loop-i-preserved : goal.placed_members-loop-i-preserved
placed_members-loop-i-preserved t c = λ w table.
    let p : Place = (w, view c.args.value.now, written c.args.tree) in
    let members = c.written_members-members.result.now in
    let i = c.loop-i.i in
    let name = c.name_at-name.result.now in
    let before = c.loop-i.invariant w table in
    let count : length (names_in members) ≡ length members = count_names members in
    let inside : i < length (names_in members) = omega (arith, c.loop-i-test.true, count) in
    let at : slice_index_or (names_in members) i [] ≡ name = c.name_at-name.ensures in
    let are = subst (λ n. AreLasts (names_in members) n c.in_ok-lasts.lasts) (sym count) c.in_ok-lasts.ensures in
    let last : IsSome c.last_at.result ↔ IsLast (names_in members) i name = c.last_at.ensures (names_in members) are inside at in
    let same : names_in members ≡ names_of p.2 = c.written_members-members.ensures ∙ ap (λ o. names_of (written o)) (sym c.in-Some.is) in
    let here = c.in_ok-member.ensures.looked w table
    (λ untold some. passes_lasts p i name (subst (λ ns. AreGoodLasts p ns i) same (before.good untold)) (subst (λ ns. IsLast ns i name) same (last.0 some))) in
    record {
      looked = looked_twice p c.args.walk.now c.loop-i.walk _ before.looked here;
      good = λ untold. one_more_last p (names_in members) i name (before.good (was_untold c.loop-i.walk.first c.member.new.walk.first here.kept untold)) at
          (λ is. c.in_ok-member.ensures.good w table (last.1 is) untold);
    }

pub item-returns-clause-looked : goal.item-returns-clause-looked
item-returns-clause-looked t c = λ w may good.
    let d = view c.args.value.now in
    let e = view c.value.result.now in
    let u = written c.item_tree.result in
    looked_inside (step.Item c.args.i) (w, d, written c.args.tree) (c.args.want, e, u) c.args.walk.now c.enter_item.new.self c.look_at.new.walk c.leave.new.self
    (wanted_item w c.args.want d e (written c.args.tree) u c.args.i may (item_there d c.args.i c.requires.place ∙ ap Some (sym (c.value.ensures ∙ c.in_ok-found.ensures))) (sym c.item_tree.ensures))
    good c.in_ok-enter_item.ensures c.in_ok-look_at.ensures.looked c.leave.ensures

pub look_at-returns-then-is_some-clause-job : goal.look_at-returns-then-is_some-clause-job
look_at-returns-then-is_some-clause-job t c = λ none want. absurd (some_none c.parts.new.walk.first (sym c.is_some.ensures ∙ c.if-is_some.true) none)

pub member-returns-in-Some-clause-looked : goal.member-returns-in-Some-clause-looked
member-returns-in-Some-clause-looked t c =
    on_ok c.last_member.result (λ looked w table passes. looked w table (λ untold. passes untold (ap is_some c.in-Some.is))) c.last_member.ensures.looked

pub member-returns-in-Some-clause-good : goal.member-returns-in-Some-clause-good
member-returns-in-Some-clause-good t c = on_ok c.last_member.result (λ good w table some untold. good w table untold) c.last_member.ensures.good

pub member-returns-in-None-clause-looked : goal.member-returns-in-None-clause-looked
member-returns-in-None-clause-looked t c = λ w table passes. looked_none (w, view c.args.parent.now, written c.args.tree) c.args.walk.now _ refl refl

pub member-returns-in-None-clause-good : goal.member-returns-in-None-clause-good
member-returns-in-None-clause-good t c = λ w table some untold. absurd (some_none c.args.last some c.in-None.is)

pub last_member-returns-clause-looked : goal.last_member-returns-clause-looked
last_member-returns-clause-looked t c = λ w table passes.
    looked_behind (step.Member c.args.name.now) (w, view c.args.parent.now, written c.args.tree) c.args.walk.now c.enter_member.new.self c.member_value.new.walk c.leave_member.new.self c.in_ok-repeated.ensures
    (c.in_ok-member_value.ensures.looked w table (λ untold. passes (sym c.in_ok-repeated.ensures.first ∙ untold))) c.leave_member.ensures

pub last_member-returns-clause-good : goal.last_member-returns-clause-good
last_member-returns-clause-good t c = λ w table untold.
    c.in_ok-member_value.ensures.good w table (sym c.leave_member.ensures.first ∙ untold)

pub last_member-returns-in_default-clause-looked : goal.last_member-returns-in_default-clause-looked
last_member-returns-in_default-clause-looked t c = λ w table passes. looked_none (w, view c.args.parent.now, written c.args.tree) c.args.walk.now _ refl refl

pub last_member-returns-in_default-clause-good : goal.last_member-returns-in_default-clause-good
last_member-returns-in_default-clause-good t c = λ w table untold. not_there (w, view c.args.parent.now, written c.args.tree) (step.Member c.args.name.now) (sym c.in_default.ensures)

pub member_value-returns-in-Cells-clause-looked : goal.member_value-returns-in-Cells-clause-looked
member_value-returns-in-Cells-clause-looked t c =
    let name = c.args.name.now in
    let d = view c.args.parent.now in
    let e = view c.args.value.now in
    let known = members_in c.args.known.now in
    let v = want.Cells c.in-Cells.dtype in
    let k = written c.args.tree in
    let u = tree_part (step.Member name) k in
    let said : option_and_then (beside (type_of d)) (want_in known name) ≡ Some v = subst (λ r. IsWantBy (want_in known name) (type_of d) r) c.in-Cells.is c.member_want.ensures in
    on_ok c.cells.result
    (λ looked w table passes. within_looked (step.Member name) (w, d, k) (v, e, u) c.args.walk.now c.cells.new.self (wanted_by w v d e k u known name table said c.requires.1.1.1 refl) passes (looked u))
    c.cells.ensures.looked

pub member_value-returns-in-Cells-clause-good : goal.member_value-returns-in-Cells-clause-good
member_value-returns-in-Cells-clause-good t c =
    let name = c.args.name.now in
    let d = view c.args.parent.now in
    let e = view c.args.value.now in
    let known = members_in c.args.known.now in
    let v = want.Cells c.in-Cells.dtype in
    let k = written c.args.tree in
    let u = tree_part (step.Member name) k in
    let said : option_and_then (beside (type_of d)) (want_in known name) ≡ Some v = subst (λ r. IsWantBy (want_in known name) (type_of d) r) c.in-Cells.is c.member_want.ensures in
    on_ok c.cells.result
    (λ good w table untold. good_part (step.Member name) (w, d, k) (v, e, u) (wanted_by w v d e k u known name table said c.requires.1.1.1 refl) (good u untold))
    c.cells.ensures.good

pub member_value-returns-in-Is-clause-looked : goal.member_value-returns-in-Is-clause-looked
member_value-returns-in-Is-clause-looked t c =
    let name = c.args.name.now in
    let d = view c.args.parent.now in
    let e = view c.args.value.now in
    let known = members_in c.args.known.now in
    let v = c.in-Is.want in
    let k = written c.args.tree in
    let u = written c.member_tree.result in
    let said : option_and_then (beside (type_of d)) (want_in known name) ≡ Some v = subst (λ r. IsWantBy (want_in known name) (type_of d) r) c.in-Is.is c.member_want.ensures in
    on_ok c.look_at.result
    (λ looked w table passes. within_looked (step.Member name) (w, d, k) (v, e, u) c.args.walk.now c.look_at.new.walk (wanted_by w v d e k u known name table said c.requires.1.1.1 (sym c.member_tree.ensures)) passes looked)
    c.look_at.ensures.looked

pub member_value-returns-in-Is-clause-good : goal.member_value-returns-in-Is-clause-good
member_value-returns-in-Is-clause-good t c =
    let name = c.args.name.now in
    let d = view c.args.parent.now in
    let e = view c.args.value.now in
    let known = members_in c.args.known.now in
    let v = c.in-Is.want in
    let k = written c.args.tree in
    let u = written c.member_tree.result in
    let said : option_and_then (beside (type_of d)) (want_in known name) ≡ Some v = subst (λ r. IsWantBy (want_in known name) (type_of d) r) c.in-Is.is c.member_want.ensures in
    on_ok c.look_at.result
    (λ good w table untold. good_part (step.Member name) (w, d, k) (v, e, u) (wanted_by w v d e k u known name table said c.requires.1.1.1 (sym c.member_tree.ensures)) (good untold))
    c.look_at.ensures.good

pub member_value-returns-in-Untold-clause-looked : goal.member_value-returns-in-Untold-clause-looked
member_value-returns-in-Untold-clause-looked t c = λ w table passes. within_none (w, view c.args.parent.now, written c.args.tree) _ c.args.walk.now _ refl refl

pub member_value-returns-in-Untold-clause-good : goal.member_value-returns-in-Untold-clause-good
member_value-returns-in-Untold-clause-good t c = λ w table untold.
    let name = c.args.name.now in
    let d = view c.args.parent.now in
    let known = members_in c.args.known.now in
    not_in_table w d (written c.args.tree) known name table (subst (λ r. IsWantBy (want_in known name) (type_of d) r) c.in-Untold.is c.member_want.ensures)

pub member_value-returns-then-known-gt1-clause-looked : goal.member_value-returns-then-known-gt1-clause-looked
member_value-returns-then-known-gt1-clause-looked t c =
    let name = c.args.name.now in
    let d = view c.args.parent.now in
    let known = members_in c.args.known.now in
    let k = written c.args.tree in
    let said : want_in known name ≡ None = subst (λ r. IsWantBy (want_in known name) (type_of d) r) c.in-Unknown.is c.member_want.ensures in
    on_ok c.note.result
    (λ noted w table passes. noted_within (step.Member name) (w, d, k) (view c.args.value.now) (wrong.Unknown c.args.known) c.args.walk.now c.note.new.self noted c.requires.1.1.1 passes
    (λ above was. ap (want_in known) (ap last_name was ∙ last_of above name) ∙ said)
    (λ root above was here. record { above = above; name = name; object = (w, d, k); steps_are = was; stands = here; table_is = table }) (λ root steps. tt))
    c.note.ensures.noted

pub member_value-returns-then-known-gt1-clause-good : goal.member_value-returns-then-known-gt1-clause-good
member_value-returns-then-known-gt1-clause-good t c = on_ok c.note.result (λ some w table untold. absurd (some_none c.note.new.self.first some untold)) c.note.ensures.some

pub member_value-returns-else-known-gt1-clause-looked : goal.member_value-returns-else-known-gt1-clause-looked
member_value-returns-else-known-gt1-clause-looked t c = λ w table passes. within_none (w, view c.args.parent.now, written c.args.tree) _ c.args.walk.now _ refl refl

pub member_value-returns-else-known-gt1-clause-good : goal.member_value-returns-else-known-gt1-clause-good
member_value-returns-else-known-gt1-clause-good t c = λ w table untold.
    let name = c.args.name.now in
    let d = view c.args.parent.now in
    let known = members_in c.args.known.now in
    let said : want_in known name ≡ None = subst (λ r. IsWantBy (want_in known name) (type_of d) r) c.in-Unknown.is c.member_want.ensures in
    not_in_table w d (written c.args.tree) known name table (ap (option_and_then (beside (type_of d))) said)

pub items-returns-clause-looked : goal.items-returns-clause-looked
items-returns-clause-looked t c = λ w may. (c.loop-i.invariant w may).looked

pub items-returns-clause-good : goal.items-returns-clause-good
items-returns-clause-good t c = λ w may untold.
    let p : Place = (w, view c.args.value.now, written c.args.tree) in
    let before = (c.loop-i.invariant w may).good untold in
    λ j h. before j (omega (arith, h, c.loop-i-test.false))

pub placed_members-returns-clause-looked : goal.placed_members-returns-clause-looked
placed_members-returns-clause-looked t c = λ w table. (c.loop-i.invariant w table).looked

pub placed_members-returns-clause-good : goal.placed_members-returns-clause-good
placed_members-returns-clause-good t c = λ w table untold.
    let p : Place = (w, view c.args.value.now, written c.args.tree) in
    let members = c.written_members-members.result.now in
    let i = c.loop-i.i in
    let same : names_in members ≡ names_of p.2 = c.written_members-members.ensures ∙ ap (λ o. names_of (written o)) (sym c.in-Some.is) in
    let count : length (names_of p.2) ≤ i = omega (arith, c.loop-i-test.false, count_names members, ap length same) in
    object_parts p c.requires.object
    (members_good p i c.requires.written count (subst (λ ns. AreGoodLasts p ns i) same ((c.loop-i.invariant w table).good untold)))

pub placed_members-returns-in_default-clause-good : goal.placed_members-returns-in_default-clause-good
placed_members-returns-in_default-clause-good t c = λ w table untold.
    let p : Place = (w, view c.args.value.now, written c.args.tree) in
    let none : written c.args.tree ≡ null = ap written c.in_default.is in
    object_parts p c.requires.object (members_good p 0 c.requires.written (omega (arith, ap (λ j. length (names_of j)) none)) (no_lasts p (names_of p.2)))

pub form_member-returns-clause-looked : goal.form_member-returns-clause-looked
form_member-returns-clause-looked t c =
    let d = view c.args.value.now in
    looked_behind (step.Member c.args.name.now) (want.Expr, d, written c.args.tree) c.args.walk.now c.enter.new.self c.form_value.new.walk c.leave.new.self
    c.in_ok-enter.ensures (c.in_ok-form_value.ensures.looked d (written c.args.tree) (sym c.in-Some.ensures) (sym c.member_tree.ensures) c.requires.1.1.1) c.leave.ensures

pub form_member-returns-clause-good : goal.form_member-returns-clause-good
form_member-returns-clause-good t c = λ untold.
    c.in_ok-form_value.ensures.good (view c.args.value.now) (written c.args.tree) (sym c.in-Some.ensures) (sym c.member_tree.ensures) (sym c.leave.ensures.first ∙ untold)

pub form_member-returns-in_default-clause-good : goal.form_member-returns-in_default-clause-good
form_member-returns-in_default-clause-good t c = λ untold. not_there (want.Expr, view c.args.value.now, written c.args.tree) (step.Member c.args.name.now) (sym c.in_default.ensures)

pub form_value-returns-in-Some-clause-looked : goal.form_value-returns-in-Some-clause-looked
form_value-returns-in-Some-clause-looked t c =
    let name = c.args.name.now in
    let e = view c.args.value.now in
    let w = c.in-Some.want in
    on_ok c.look_at.result
    (λ looked d u there same one.
    let plain : beside (type_of d) w ≡ Some w = subst (λ f. IfSome f (λ v. (u : Option DataType) → beside u v ≡ Some v)) c.in-Some.is c.form.ensures.beside (type_of d) in
    within_looked (step.Member name) (want.Expr, d, u) (w, e, written c.args.tree) c.args.walk.now c.look_at.new.walk
    (wanted_member want.Expr w d e u (written c.args.tree) name (ap (option_and_then (beside (type_of d))) (sym c.form.ensures.want ∙ c.in-Some.is) ∙ plain) there same) (λ untold. passes_single want.Expr d e u name one there) looked)
    c.look_at.ensures.looked

pub form_value-returns-in-Some-clause-good : goal.form_value-returns-in-Some-clause-good
form_value-returns-in-Some-clause-good t c =
    let name = c.args.name.now in
    let e = view c.args.value.now in
    let w = c.in-Some.want in
    on_ok c.look_at.result
    (λ good d u there same untold.
    let plain : beside (type_of d) w ≡ Some w = subst (λ f. IfSome f (λ v. (u : Option DataType) → beside u v ≡ Some v)) c.in-Some.is c.form.ensures.beside (type_of d) in
    good_part (step.Member name) (want.Expr, d, u) (w, e, written c.args.tree)
    (wanted_member want.Expr w d e u (written c.args.tree) name (ap (option_and_then (beside (type_of d))) (sym c.form.ensures.want ∙ c.in-Some.is) ∙ plain) there same) (good untold))
    c.look_at.ensures.good

pub form_value-returns-in-None-clause-looked : goal.form_value-returns-in-None-clause-looked
form_value-returns-in-None-clause-looked t c =
    let name = c.args.name.now in
    let none : contains_text form_words name ≡ false = subst (λ f. IfNone f (contains_text form_words name ≡ false)) c.in-None.is c.form.ensures.none in
    on_ok c.note.result
    (λ noted d u there same one. noted_within (step.Member name) (want.Expr, d, u) (view c.args.value.now) wrong.UnknownForm c.args.walk.now c.note.new.self noted there
    (λ untold. passes_single want.Expr d (view c.args.value.now) u name one there)
    (λ above was. ap (contains_text form_words) (ap last_name was ∙ last_of above name) ∙ none)
    (λ root above was here. (above, name, was, (d, u, here))) (λ root steps. tt))
    c.note.ensures.noted

pub form_value-returns-in-None-clause-good : goal.form_value-returns-in-None-clause-good
form_value-returns-in-None-clause-good t c = on_ok c.note.result (λ some d u there same untold. absurd (some_none c.note.new.self.first some untold)) c.note.ensures.some

pub item-returns-clause-good : goal.item-returns-clause-good
item-returns-clause-good t c = λ w may untold.
    let d = view c.args.value.now in
    let e = view c.value.result.now in
    let u = written c.item_tree.result in
    good_part (step.Item c.args.i) (w, d, written c.args.tree) (c.args.want, e, u)
    (wanted_item w c.args.want d e (written c.args.tree) u c.args.i may (item_there d c.args.i c.requires.place ∙ ap Some (sym (c.value.ensures ∙ c.in_ok-found.ensures))) (sym c.item_tree.ensures))
    (c.in_ok-look_at.ensures.good (sym c.leave.ensures.first ∙ untold))

pub look_at-returns-then-is_some-clause-good : goal.look_at-returns-then-is_some-clause-good
look_at-returns-then-is_some-clause-good t c = λ none. absurd (some_none c.parts.new.walk.first (sym c.is_some.ensures ∙ c.if-is_some.true) none)

pub look_at-returns-clause-looked : goal.look_at-returns-clause-looked
look_at-returns-clause-looked t c =
    let p : Place = (c.args.want, view c.args.value.now, written c.args.tree) in
    on_ok c.judge.result (λ judged. looked_twice p c.args.walk.now c.parts.new.walk c.judge.new.self c.in_ok-parts.ensures.looked (judged (written c.args.tree) c.in_ok-parts.ensures.good)) c.judge.ensures.looked

pub look_at-returns-clause-good : goal.look_at-returns-clause-good
look_at-returns-clause-good t c =
    let p : Place = (c.args.want, view c.args.value.now, written c.args.tree) in
    on_ok c.judge.result
    (λ both untold.
    let judged = both.0 (written c.args.tree) c.in_ok-parts.ensures.good in
    all_good p (both.1 untold) (c.in_ok-parts.ensures.good (was_untold c.parts.new.walk.first c.judge.new.self.first judged.kept untold)))
    (both_ok _ _ c.judge.result c.judge.ensures.looked c.judge.ensures.good)

pub members-returns-clause-looked : goal.members-returns-clause-looked
members-returns-clause-looked t c =
    on_ok c.missing.result
    (λ looked w table. looked_twice (w, view c.args.value.now, written c.args.tree) c.args.walk.now c.placed_members.new.walk c.missing.new.self (c.in_ok-placed_members.ensures.looked w table)
    (looked w table (written c.args.tree) (c.in_ok-placed_members.ensures.good w table)))
    c.missing.ensures

pub members-returns-clause-good : goal.members-returns-clause-good
members-returns-clause-good t c =
    on_ok c.missing.result
    (λ looked w table untold.
    let good = c.in_ok-placed_members.ensures.good w table in
    good (was_untold c.placed_members.new.walk.first c.missing.new.self.first (looked w table (written c.args.tree) good).kept untold))
    c.missing.ensures

pub known_object-returns-in-Frame-clause-looked : goal.known_object-returns-in-Frame-clause-looked
known_object-returns-in-Frame-clause-looked t c =
    let d = view c.args.value.now in
    let k = written c.args.tree in
    let good = c.in_ok-members.ensures.good c.args.want c.known_members.ensures in
    on_ok c.look_at_table.result
    (λ looked. looked_twice (c.args.want, d, k) c.args.walk.now c.members.new.walk c.look_at_table.new.walk (c.in_ok-members.ensures.looked c.args.want c.known_members.ensures)
    (subst (λ w. Looked (w, d, k) c.members.new.walk c.look_at_table.new.walk) (sym c.in-Frame.is) (looked k (λ none. subst (λ w. AreGoodParts (w, d, k)) c.in-Frame.is (good none)))))
    c.look_at_table.ensures

pub known_object-returns-in-Frame-clause-good : goal.known_object-returns-in-Frame-clause-good
known_object-returns-in-Frame-clause-good t c =
    let d = view c.args.value.now in
    let k = written c.args.tree in
    let good = c.in_ok-members.ensures.good c.args.want c.known_members.ensures in
    on_ok c.look_at_table.result
    (λ looked untold. good (was_untold c.members.new.walk.first c.look_at_table.new.walk.first
    (looked k (λ none. subst (λ w. AreGoodParts (w, d, k)) c.in-Frame.is (good none))).kept untold))
    c.look_at_table.ensures

pub array-returns-then-is_edit-clause-looked : goal.array-returns-then-is_edit-clause-looked
array-returns-then-is_edit-clause-looked t c =
    let d = view c.args.value.now in
    let k = written c.args.tree in
    on_ok c.look_at_edit.result
    (λ looked. subst (λ w. Looked (w, d, k) c.args.walk.now c.look_at_edit.new.walk) (sym (c.is_edit.ensures.yes c.if-is_edit.true)) (looked k))
    c.look_at_edit.ensures.looked

pub array-returns-then-is_edit-clause-good : goal.array-returns-then-is_edit-clause-good
array-returns-then-is_edit-clause-good t c =
    let d = view c.args.value.now in
    let k = written c.args.tree in
    on_ok c.look_at_edit.result
    (λ good untold. subst (λ w. AreGoodParts (w, d, k)) (sym (c.is_edit.ensures.yes c.if-is_edit.true)) (good k untold))
    c.look_at_edit.ensures.good

pub expr-returns-then-len-ne1-clause-looked : goal.expr-returns-then-len-ne1-clause-looked
expr-returns-then-len-ne1-clause-looked t c =
    let d = view c.args.value.now in
    let bad : is_single d ≡ false = ap is_single c.requires.members ∙ not_single c.args.members.now.entries (λ one. c.if-len-ne1.true (c.len.ensures.len ∙ one)) in
    on_ok c.note.result (λ noted. noted_here (want.Expr, d, written c.args.tree) _ c.args.walk.now c.note.new.self noted bad (λ root here. (d, written c.args.tree, here)) (λ root here none. tt)) c.note.ensures.noted

pub expr-returns-then-len-ne1-clause-good : goal.expr-returns-then-len-ne1-clause-good
expr-returns-then-len-ne1-clause-good t c = on_ok c.note.result (λ some untold. absurd (some_none c.note.new.self.first some untold)) c.note.ensures.some

pub expr-returns-in-Some-clause-good : goal.expr-returns-in-Some-clause-good
expr-returns-in-Some-clause-good t c =
    let d = view c.args.value.now in
    let entries = c.args.members.now.entries in
    let first = subst (λ o. IfSome o (λ p. slice_get entries 0 ≡ Some (p.0.now, p.1.now))) c.in-Some.is c.first_key_value.ensures.first in
    on_ok c.form_member.result
    (λ good untold. named_parts want.Expr d (written c.args.tree) entries _ _ c.as_str.result.now (ap is_object c.requires.members) c.requires.members (sym c.len.ensures.len ∙ c.if-len-ne1.false) first c.as_str.ensures.value (good untold))
    c.form_member.ensures.good

pub expr-returns-in-None-clause-good : goal.expr-returns-in-None-clause-good
expr-returns-in-None-clause-good t c = λ untold.
    absurd (some_none c.first_key_value.result (c.first_key_value.ensures.variant.1 (omega (arith, c.len.ensures.len, c.if-len-ne1.false))) c.in-None.is)

pub array_items-returns-in_default-clause-good : goal.array_items-returns-in_default-clause-good
array_items-returns-in_default-clause-good t c =
    let d = view c.args.value.now in
    λ untold. not_an_array d c.requires.array (subst (λ f. MatchOption f (as_array d ≡ None) (IsArrayOf d)) c.in_default.is c.in_ok-count.ensures)

pub array_items-returns-then-count-ne2-clause-looked : goal.array_items-returns-then-count-ne2-clause-looked
array_items-returns-then-count-ne2-clause-looked t c =
    let d = view c.args.value.now in
    let k = written c.args.tree in
    let is : IsArrayOf d c.in-Some.count = subst (λ f. MatchOption f (as_array d ≡ None) (IsArrayOf d)) c.in-Some.is c.in_ok-count.ensures in
    let frames : c.args.want ≡ want.Foreign foreign.TwoFrames = c.are_frames.ensures c.if-are_frames.true in
    on_ok c.note.result
    (λ noted. noted_here (c.args.want, d, k) _ c.args.walk.now c.note.new.self noted (sym is.counted, c.if-count-ne2.true)
    (λ root here. (d, k, here ∙ ap (λ (w : Want). Some (w, d, k)) frames)) (λ root here none. tt))
    c.note.ensures.noted

pub array_items-returns-then-count-ne2-clause-good : goal.array_items-returns-then-count-ne2-clause-good
array_items-returns-then-count-ne2-clause-good t c = on_ok c.note.result (λ some untold. absurd (some_none c.note.new.self.first some untold)) c.note.ensures.some

pub array_items-returns-in-Some-couple_wants-clause-looked : goal.array_items-returns-in-Some-couple_wants-clause-looked
array_items-returns-in-Some-couple_wants-clause-looked t c =
    let w = c.args.want in
    let couple = sym c.couple_wants.ensures ∙ c.in-Some-couple_wants.is in
    on_ok c.couple.result (λ looked. looked w (couple_first w _ couple) (couple_second w _ couple)) c.couple.ensures.looked

pub array_items-returns-in-Some-couple_wants-clause-good : goal.array_items-returns-in-Some-couple_wants-clause-good
array_items-returns-in-Some-couple_wants-clause-good t c =
    let w = c.args.want in
    let p : Place = (w, view c.args.value.now, written c.args.tree) in
    let couple = sym c.couple_wants.ensures ∙ c.in-Some-couple_wants.is in
    on_ok c.couple.result
    (λ good untold. array_parts p c.requires.array (λ i. couple_item p i (λ k. couple_third w _ k couple) (good w (couple_first w _ couple) (couple_second w _ couple) untold)))
    c.couple.ensures.good

pub array_items-returns-in-Some-item_want-clause-looked : goal.array_items-returns-in-Some-item_want-clause-looked
array_items-returns-in-Some-item_want-clause-looked t c =
    let w = c.args.want in
    on_ok c.items.result
    (λ looked. looked w (list_wanted w c.in-Some-item_want.item (sym c.couple_wants.ensures ∙ c.in_default-couple_wants.is) (sym c.item_want.ensures ∙ c.in-Some-item_want.is)))
    c.items.ensures.looked

pub array_items-returns-in-Some-item_want-clause-good : goal.array_items-returns-in-Some-item_want-clause-good
array_items-returns-in-Some-item_want-clause-good t c =
    let w = c.args.want in
    let d = view c.args.value.now in
    let p : Place = (w, d, written c.args.tree) in
    let is : IsArrayOf d c.in-Some.count = subst (λ f. MatchOption f (as_array d ≡ None) (IsArrayOf d)) c.in-Some.is c.in_ok-count.ensures in
    on_ok c.items.result
    (λ good untold. array_parts p c.requires.array (items_good p c.in-Some.count (omega (arith, is.counted))
    (good w (list_wanted w c.in-Some-item_want.item (sym c.couple_wants.ensures ∙ c.in_default-couple_wants.is) (sym c.item_want.ensures ∙ c.in-Some-item_want.is)) untold)))
    c.items.ensures.good

pub array_items-returns-in-None-clause-good : goal.array_items-returns-in-None-clause-good
array_items-returns-in-None-clause-good t c = λ untold.
    let w = c.args.want in
    let p : Place = (w, view c.args.value.now, written c.args.tree) in
    array_parts p c.requires.array (λ i. not_wanted p (step.Item i) (none_wanted w (sym c.couple_wants.ensures ∙ c.in_default-couple_wants.is) (sym c.item_want.ensures ∙ c.in-None.is) c.requires.other i))

pub couple-returns-then-count-eq0-clause-looked : goal.couple-returns-then-count-eq0-clause-looked
couple-returns-then-count-eq0-clause-looked t c = λ w one two. looked_none (w, view c.args.value.now, written c.args.tree) c.args.walk.now _ refl refl

pub couple-returns-then-count-eq0-clause-good : goal.couple-returns-then-count-eq0-clause-good
couple-returns-then-count-eq0-clause-good t c = λ w one two untold.
    let p : Place = (w, view c.args.value.now, written c.args.tree) in
    none_lacking p 0 2 (omega (arith, c.requires.count, c.if-count-eq0.true)) (none_before p)

pub couple-returns-then-count-eq1-clause-looked : goal.couple-returns-then-count-eq1-clause-looked
couple-returns-then-count-eq1-clause-looked t c = λ w one two.
    let p : Place = (w, view c.args.value.now, written c.args.tree) in
    c.in_ok-item.ensures.looked w one (λ untold. none_before p)

pub couple-returns-then-count-eq1-clause-good : goal.couple-returns-then-count-eq1-clause-good
couple-returns-then-count-eq1-clause-good t c = λ w one two untold.
    let p : Place = (w, view c.args.value.now, written c.args.tree) in
    none_lacking p 1 2 (omega (arith, c.requires.count, c.if-count-eq1.true)) (one_more_good p 0 (none_before p) (c.in_ok-item.ensures.good w one untold))

pub couple-returns-clause-looked : goal.couple-returns-clause-looked
couple-returns-clause-looked t c =
    on_ok c.item-2.result
    (λ looked w one two.
    let p : Place = (w, view c.args.value.now, written c.args.tree) in
    looked_twice p c.args.walk.now c.item.new.walk c.item-2.new.walk (c.in_ok-item.ensures.looked w one (λ untold. none_before p))
    (looked w two (λ untold. one_more_good p 0 (none_before p) (c.in_ok-item.ensures.good w one untold))))
    c.item-2.ensures.looked

pub couple-returns-clause-good : goal.couple-returns-clause-good
couple-returns-clause-good t c =
    on_ok c.item-2.result
    (λ both w one two untold.
    let p : Place = (w, view c.args.value.now, written c.args.tree) in
    let before : c.item.new.walk.first ≡ None → AreGoodBefore p 1 = λ none. one_more_good p 0 (none_before p) (c.in_ok-item.ensures.good w one none) in
    one_more_good p 1 (before (was_untold c.item.new.walk.first c.item-2.new.walk.first (both.0 w two before).kept untold)) (both.1 w two untold))
    (both_ok _ _ c.item-2.result c.item-2.ensures.looked c.item-2.ensures.good)

pub members-returns-then-is_empty-clause-good : goal.members-returns-then-is_empty-clause-good
members-returns-then-is_empty-clause-good t c = λ w table untold.
    no_table w (view c.args.value.now) (written c.args.tree) c.requires.object (empty_table c.args.known.now (sym c.is_empty.ensures ∙ c.if-is_empty.true) ∙ table)

-- ---- calls: the measure, and what is asked for

pub look_at-parts-requires : goal.look_at-parts-requires
look_at-parts-requires t c = (omega arith, c.requires.written)

pub parts-object-requires : goal.parts-object-requires
parts-object-requires t c = (omega arith, (c.requires.written, ap view c.in-Object.is ∙ object-view c.in-Object.members))

pub object-expr-requires : goal.object-expr-requires
object-expr-requires t c = (omega arith, (c.requires.written, c.requires.members))

pub object-known_object-requires : goal.object-known_object-requires
object-known_object-requires t c = (omega arith, (c.requires.written, ap is_object c.requires.members))

pub known_object-members-requires : goal.known_object-members-requires
known_object-members-requires t c = (omega arith, (c.requires.written, c.requires.object))

pub members-placed_members-requires : goal.members-placed_members-requires
members-placed_members-requires t c = (omega arith, (c.requires.written, c.requires.object))

pub placed_members-member-requires : goal.placed_members-member-requires
placed_members-member-requires t c = (omega arith, c.requires.written)

pub member-last_member-requires : goal.member-last_member-requires
member-last_member-requires t c = (omega arith, c.requires.1.1)

pub last_member-member_value-requires : goal.last_member-member_value-requires
last_member-member_value-requires t c = (omega arith, (c.requires.1.1, sym c.in-Some.ensures))

pub member_value-look_at-requires : goal.member_value-look_at-requires
member_value-look_at-requires t c =
    let d = view c.args.parent.now in
    let e = view c.args.value.now in
    let less : depth e < depth d = member_deep c.args.name.now d e c.requires.1.1.1 in
    (omega arith, subst (λ j. IsWritten j e) (sym c.member_tree.ensures) (part_written (step.Member c.args.name.now) (written c.args.tree) d e c.requires.1.1.0 c.requires.1.1.1))

pub form_member-form_value-requires : goal.form_member-form_value-requires
form_member-form_value-requires t c =
    let d = view c.args.value.now in
    let e = view c.in-Some.inner.now in
    let there : get c.args.name.now d ≡ Some e = sym c.in-Some.ensures in
    let less : depth e < depth d = member_deep c.args.name.now d e there in
    (omega arith, subst (λ j. IsWritten j e) (sym c.member_tree.ensures) (part_written (step.Member c.args.name.now) (written c.args.tree) d e c.requires.1.1.0 there))

pub form_value-look_at-requires : goal.form_value-look_at-requires
form_value-look_at-requires t c = (omega arith, c.requires.1.1)

pub expr-form_member-requires : goal.expr-form_member-requires
expr-form_member-requires t c =
    (omega arith, (c.requires.written, ap is_single c.requires.members ∙ single c.args.members.now.entries (sym c.len.ensures.len ∙ c.if-len-ne1.false)))

pub array-array_items-requires : goal.array-array_items-requires
array-array_items-requires t c = (omega arith, (c.requires.written, (c.requires.array, c.is_edit.ensures.no c.if-is_edit.false)))

pub array_items-couple-requires : goal.array_items-couple-requires
array_items-couple-requires t c =
    let d = view c.args.value.now in
    let is : IsArrayOf d c.in-Some.count = subst (λ f. MatchOption f (as_array d ≡ None) (IsArrayOf d)) c.in-Some.is c.in_ok-count.ensures in
    (omega arith, (c.requires.written, is.counted))

pub array_items-items-requires : goal.array_items-items-requires
array_items-items-requires t c =
    let d = view c.args.value.now in
    let is : IsArrayOf d c.in-Some.count = subst (λ f. MatchOption f (as_array d ≡ None) (IsArrayOf d)) c.in-Some.is c.in_ok-count.ensures in
    (omega arith, (c.requires.written, omega (arith, is.counted)))

pub couple-item-requires : goal.couple-item-requires
couple-item-requires t c = (omega arith, (c.requires.written, omega (arith, c.requires.count, c.if-count-eq0.false)))

pub couple-item-requires-2 : goal.couple-item-requires-2
couple-item-requires-2 t c = (omega arith, (c.requires.written, omega (arith, c.requires.count, c.if-count-eq0.false, c.if-count-eq1.false)))

pub items-item-requires : goal.items-item-requires
items-item-requires t c = (omega arith, (c.requires.written, omega (arith, c.requires.count, c.loop-i-test.true)))

pub item-look_at-requires : goal.item-look_at-requires
item-look_at-requires t c =
    let d = view c.args.value.now in
    let e = view c.value.result.now in
    let there = item_there d c.args.i c.requires.place ∙ ap Some (sym (c.value.ensures ∙ c.in_ok-found.ensures)) in
    let less : depth e < depth d = item_deep c.args.i d e there in
    (omega arith, subst (λ j. IsWritten j e) (sym c.item_tree.ensures) (part_written (step.Item c.args.i) (written c.args.tree) d e c.requires.written there))

pub known_object-returns-in_default-clause-good : goal.known_object-returns-in_default-clause-good
known_object-returns-in_default-clause-good t c = c.in_ok-members.ensures.good c.args.want c.known_members.ensures

pub known_object-returns-in_default-2 : goal.known_object-returns-in_default-2
known_object-returns-in_default-2 t c = record {
  looked = c.in_ok-members.ensures.looked c.args.want c.known_members.ensures;
  good = c.in_ok-members.ensures.good c.args.want c.known_members.ensures;
}

pub object-returns-in-Expr-clause-good : goal.object-returns-in-Expr-clause-good
object-returns-in-Expr-clause-good t c =
    let d = view c.args.value.now in
    let k = written c.args.tree in
    on_ok c.expr.result (λ good untold. subst (λ (w : Want). AreGoodParts (w, d, k)) (sym c.in-Expr.is) (good untold)) c.expr.ensures.good
