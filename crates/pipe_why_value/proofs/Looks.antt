-- Parts of a walk one after another, and one inside another.
use Rattle.std.proofs.Common.{◌≡◌, ◌⊎◌, inl, inr, ap₂, ◌<◌, ◌≤◌, ◌+◌, ℕ, zero, suc, List, [], ◌∷◌, ◌++◌, ◌-◌, length, take, Option, Some, None, Result, Ok, Err, refl, sym, ap, ◌∙◌, subst, arith, true, true≢false, rules, BTreeMap, get_or}
use Rattle.std.proofs.lemmas.List.{append_assoc, length-append, take_at}
use Rattle.std.specs.Prelude.{◌&&◌, option_and_then, option_map, is_some, IfSome, IsSome, OnOk, slice_index_or, String, Bool, false, if◌then◌else◌}
use Rattle.std.specs.Borrow.{Bor}
use Rattle.std.specs.Option.{option_map_or, option_or}
use Rattle.std.specs.declared.alloc.Global.{Global}
use Rattle.serde_json.specs.Data.{Data, null, boolean, number, string, array, object, Items, no_items, item}
use Rattle.json.specs.Json.{Json}
use Rattle.serde_json.specs.Find.{as_array, as_str, at, get, get_item}
use Rattle.serde_json.specs.View.{items_of}
use Rattle.pipe_value.specs.View.{members_view, view}
use Rattle.pipe_value.specs.declared.value.Value.{Object, Value, the_lemmas}
use Rattle.pipe_value.specs.Items.{IsArrayOf, elements, list_of, nullable_text}
use Rattle.pipe_schema.specs.declared.data_type.DataType.{DataType}
use Rattle.pipe_job.specs.Shape.{all_items, is_cell, is_list, is_maybe, is_single, is_text, text_in}
use Rattle.pipe_why_text.specs.declared.steps.Step.{Step}
use Rattle.pipe_why_text.specs.declared.steps.Step.TheVariants as step
use Rattle.pipe_why_text.specs.Members.{HasMember, beside, couple_at, couple_items, edit_part, is_edit, item_wanted, list_item, member_wanted, plain_item, members_in, members_of, plain, type_of, want_in}
use Rattle.pipe_why_text.specs.Wanted.{is_wanted}
use Rattle.pipe_why_text.specs.declared.want.Foreign.TheVariants as foreign
use Rattle.pipe_why_text.specs.declared.want.Want.{Want}
use Rattle.pipe_why_text.specs.declared.want.Want.TheVariants as want
use Rattle.pipe_why_value.specs.Order.{tree_part}
use Rattle.pipe_why_value.specs.Places.{AreGoodBefore, AreGoodParts, IsBadCell, IsGood, IsGoodItem, IsGoodPart, IsInner, IsInnermost, IsOwn, IsTold, IsWrong, PassGoodParts, Passes, Place, both, last_name, part, part_at, wanted, wanted_at, wanted_part}
use Rattle.pipe_why_value.specs.Walks.{AreCellsBefore, IsFirstBad, Looked, Within, Noted, Entered, Left}
use Rattle.pipe_why_value.specs.declared.walk.Walk.{Walk}
use Rattle.pipe_why_value.specs.declared.wrong.Misfit.{Misfit}
use Rattle.pipe_why_value.specs.declared.wrong.Wrong.{Wrong}
use Rattle.pipe_why_value.specs.declared.wrong.Wrong.TheVariants as wrong

abbrev text_or_none : Option (List ℕ) → List ℕ
text_or_none None = []
text_or_none (Some s) = s

clash : (n : Misfit) → None ≡ Some n → ⊥
clash n h = cc

last_or_below : (k i : ℕ) → k < i + 1 → (k < i) ⊎ (k ≡ i)
last_or_below k i h = grind arith

further : {X : Type 0} (f g : X → Option X) (o : Option X) (d e : X) → ((x : X) → f x ≡ Some d → g x ≡ Some e)
    → option_and_then f o ≡ Some d → option_and_then g o ≡ Some e
further f g None d e each h = cc
further f g (Some x) d e each h = each x h

-- one step further
pub one_further : (steps : List Step) (s : Step) (root d e : Data) → part_at steps root ≡ Some d → part s d ≡ Some e → part_at (steps ++ s ∷ []) root ≡ Some e
one_further [] s root d e h k =
    let same : root ≡ d = cc in
    ap (λ (o : Option Data). option_and_then (part_at []) o) (ap (part s) same ∙ k)
one_further (t ∷ steps) s root d e h k =
    further (part_at steps) (part_at (steps ++ s ∷ [])) (part t root) d e (λ x at_x. one_further steps s x d e at_x k) h

abbrev value_of : Option Place → Option Data
value_of o = option_map (λ (p : Place). p.1) o

pub wanted_further : (steps : List Step) (s : Step) (root p q : Place) → wanted_at steps root ≡ Some p → wanted_part s p ≡ Some q → wanted_at (steps ++ s ∷ []) root ≡ Some q
wanted_further [] s root p q h k =
    let same : root ≡ p = cc in
    ap (λ (o : Option Place). option_and_then (wanted_at []) o) (ap (wanted_part s) same ∙ k)
wanted_further (t ∷ steps) s root p q h k =
    further (wanted_at steps) (wanted_at (steps ++ s ∷ [])) (wanted_part t root) p q (λ x at_x. wanted_further steps s x p q at_x k) h

-- where something may stand, something does
pub both_second : (a : Option Want) (b : Option Data) (t : Json) (q : Place) → both a b t ≡ Some q → b ≡ Some q.1
both_second None b t q h = cc
both_second (Some a) None t q h = cc
both_second (Some a) (Some b) t q h = ap value_of h

along : (steps : List Step) (p : Place) (o : Option Place) (e : Option Data)
    → ((q : Place) → wanted_at steps q ≡ Some p → part_at steps q.1 ≡ Some p.1)
    → ((q : Place) → o ≡ Some q → e ≡ Some q.1)
    → option_and_then (wanted_at steps) o ≡ Some p → option_and_then (part_at steps) e ≡ Some p.1
along steps p None e more one h = cc
along steps p (Some q) e more one h = ap (option_and_then (part_at steps)) (one q refl) ∙ more q h

pub part_of_wanted : (steps : List Step) (root p : Place) → wanted_at steps root ≡ Some p → part_at steps root.1 ≡ Some p.1
part_of_wanted [] root p h = ap value_of h
part_of_wanted (s ∷ steps) root p h =
    along steps p (wanted_part s root) (part s root.1) (λ q at_q. part_of_wanted steps q p at_q) (λ q at_q. both_second _ (part s root.1) _ q at_q) h

-- ---- parts that were passed

pub passed_further : (steps : List Step) (s : Step) (root p : Place) → wanted_at steps root ≡ Some p → PassGoodParts steps root → Passes s p → PassGoodParts (steps ++ s ∷ []) root
passed_further [] s root p h good passes =
    let same : root ≡ p = cc in
    (subst (Passes s) (sym same) passes, λ q there. tt)
passed_further (t ∷ steps) s root p h good passes =
    (good.0, λ q there. passed_further steps s q p (ap (option_and_then (wanted_at steps)) (sym there) ∙ h) (good.1 q there) passes)

-- nothing was told before
pub was_untold : (old new : Option Misfit) → ((m : Misfit) → old ≡ Some m → new ≡ Some m) → new ≡ None → old ≡ None
was_untold None new kept none = refl
was_untold (Some m) new kept none = absurd (clash m (sym none ∙ kept m refl))

pub none_before : (p : Place) → AreGoodBefore p 0
none_before p j h = absurd (omega (arith, h))

at_last : (p : Place) (i j : ℕ) → AreGoodBefore p i → IsGoodItem p i → (j < i) ⊎ (j ≡ i) → IsGoodItem p j
at_last p i j before here (inl below) = before j below
at_last p i j before here (inr same) = subst (IsGoodItem p) (sym same) here

pub one_more_good : (p : Place) (i : ℕ) → AreGoodBefore p i → IsGoodItem p i → AreGoodBefore p (i + 1)
one_more_good p i before here j h = at_last p i j before here (last_or_below j i h)

-- what may stand where something does is all that may
pub good_part : (s : Step) (p q : Place) → wanted_part s p ≡ Some q → IsGood q → IsGoodPart p s
good_part s p q there good r here =
    let same : Some r ≡ Some q = sym here ∙ there in
    let is : r ≡ q = cc in
    subst IsGood (sym is) good

-- the parts of a good place are good
pub good_parts : (p : Place) → IsGood p → AreGoodParts p
good_parts p good s q there steps r here = good (s ∷ steps) r (ap (option_and_then (wanted_at steps)) there ∙ here)

pub good_parts_at : (p q : Place) (s : Step) → AreGoodParts p → wanted_part s p ≡ Some q → AreGoodParts q
good_parts_at p q s good there = good_parts q (good s q there)

pub passes_good : (s : Step) (p : Place) → AreGoodParts p → Passes s p
passes_good (step.Member name) p good = λ other stands. good (step.Member other)
passes_good (step.Item i) p good = λ j h. good (step.Item j)

-- where a place is reached by more steps, it is by those that are left
rest_along : (f g : Place → Option Place) (o : Option Place) (p r : Place) (c : Option Place) → ((q : Place) → f q ≡ Some p → g q ≡ Some r → c ≡ Some r)
    → option_and_then f o ≡ Some p → option_and_then g o ≡ Some r → c ≡ Some r
rest_along f g None p r c each h k = cc
rest_along f g (Some q) p r c each h k = each q h k

pub wanted_rest : (above more : List Step) (root p r : Place) → wanted_at above root ≡ Some p → wanted_at (above ++ more) root ≡ Some r → wanted_at more p ≡ Some r
wanted_rest [] more root p r h k =
    let same : root ≡ p = cc in
    subst (λ (x : Place). wanted_at more x ≡ Some r) same k
wanted_rest (s ∷ above) more root p r h k =
    rest_along (wanted_at above) (wanted_at (above ++ more)) (wanted_part s root) p r (wanted_at more p) (λ q at_q. wanted_rest above more q p r at_q) h k

passed_last : (above : List Step) (s t : Step) (root p : Place) → wanted_at above root ≡ Some p → PassGoodParts (above ++ s ∷ []) root
    → ((q : Place) → wanted_part s p ≡ Some q → Passes t q) → PassGoodParts (above ++ s ∷ t ∷ []) root
passed_last [] s t root p here passed next =
    let same : root ≡ p = cc in
    (passed.0, λ q there. (next q (ap (wanted_part s) (sym same) ∙ there), λ r at_r. tt))
passed_last (u ∷ above) s t root p here passed next =
    (passed.0, λ q there. passed_last above s t q p (ap (option_and_then (wanted_at above)) (sym there) ∙ here) (passed.1 q there) next)

pub passed_two : (above : List Step) (s t : Step) (root p : Place) → wanted_at above root ≡ Some p → PassGoodParts above root → AreGoodParts p → PassGoodParts (above ++ s ∷ t ∷ []) root
passed_two above s t root p here passed good =
    passed_last above s t root p here (passed_further above s root p here passed (passes_good s p good))
    (λ q there. passes_good t q (good_parts_at p q s good there))

-- of a place whose parts are good none within is at fault
pub innermost : (steps : List Step) (root p : Place) → wanted_at steps root ≡ Some p → AreGoodParts p → IsInnermost root steps
innermost steps root p here good q there =
    let same : Some p ≡ Some q = sym here ∙ there in
    let is : p ≡ q = cc in
    subst AreGoodParts is good

no_place : (r : Place) → None ≡ Some r → ⊥
no_place r h = cc

-- the steps behind the first one
along_one : (t : Step) (steps : List Step) (q r x : Place) → wanted_at (t ∷ []) q ≡ Some r → wanted_at steps r ≡ Some x → wanted_at (t ∷ steps) q ≡ Some x
along_one t steps q r x h k = further (wanted_at []) (wanted_at steps) (wanted_part t q) r x (λ y at_y. ap (λ (o : Option Place). option_and_then (wanted_at steps) o) at_y ∙ k) h

reached : (s t : Step) (p r : Place) (o : Option Place) → AreGoodParts p → ((q : Place) → o ≡ Some q → wanted_part s p ≡ Some q) → option_and_then (wanted_at (t ∷ [])) o ≡ Some r → AreGoodParts r
reached s t p r None good each h = absurd (no_place r h)
reached s t p r (Some q) good each h =
    good_parts r (λ steps x at_x. good s q (each q refl) (t ∷ steps) x (along_one t steps q r x h at_x))

pub innermost_two : (above : List Step) (s t : Step) (root p : Place) → wanted_at above root ≡ Some p → AreGoodParts p → IsInnermost root (above ++ s ∷ t ∷ [])
innermost_two above s t root p here good r there =
    reached s t p r (wanted_part s p) good (λ q at_q. at_q) (wanted_rest above (s ∷ t ∷ []) root p r here there)

pub inner_of : (wrong : Wrong) (root : Place) (steps : List Step) → IsInnermost root steps → IsInner root wrong steps
inner_of (wrong.Other w) root steps h = h
inner_of (wrong.Missing name w) root steps h = h
inner_of (wrong.Unknown known) root steps h = tt
inner_of wrong.UnknownForm root steps h = tt
inner_of (wrong.Members count) root steps h = tt
inner_of (wrong.Cell t column count) root steps h = tt
inner_of wrong.Wide root steps h = tt
inner_of wrong.NoColumns root steps h = tt
inner_of (wrong.SecondName earlier) root steps h = tt
inner_of (wrong.Height cells wanted) root steps h = h
inner_of (wrong.Frames count) root steps h = tt
inner_of (wrong.Parts count) root steps h = tt
inner_of (wrong.Width cells columns) root steps h = tt

at_tree : (a : Option Want) (b : Option Data) (w : Want) (d : Data) (t u : Json) → a ≡ Some w → b ≡ Some d → t ≡ u → both a b t ≡ Some (w, d, u)
at_tree a b w d t u h k same = ap₂ (λ (x : Option Want) (y : Option Data). both x y t) h k ∙ ap (λ (s : Json). Some (w, d, s)) same

pub wanted_member : (w v : Want) (d e : Data) (t u : Json) (name : List ℕ) → member_wanted w d name ≡ Some v → get name d ≡ Some e → tree_part (step.Member name) t ≡ u
    → wanted_part (step.Member name) (w, d, t) ≡ Some (v, e, u)
wanted_member w v d e t u name h k same = at_tree (member_wanted w d name) (get name d) v e (tree_part (step.Member name) t) u h k same

pub wanted_item : (w v : Want) (d e : Data) (t u : Json) (i : ℕ) → item_wanted w i ≡ Some v → at i d ≡ Some e → tree_part (step.Item i) t ≡ u
    → wanted_part (step.Item i) (w, d, t) ≡ Some (v, e, u)
wanted_item w v d e t u i h k same = at_tree (item_wanted w i) (at i d) v e (tree_part (step.Item i) t) u h k same

-- what a table says of a member is what may stand there
pub wanted_by : (w v : Want) (d e : Data) (t u : Json) (table : List (List ℕ × Want)) (name : List ℕ) → table ≡ members_of w d
    → option_and_then (beside (type_of d)) (want_in table name) ≡ Some v → get name d ≡ Some e → tree_part (step.Member name) t ≡ u
    → wanted_part (step.Member name) (w, d, t) ≡ Some (v, e, u)
wanted_by w v d e t u table name is said there same =
    wanted_member w v d e t u name (ap (λ (k : List (List ℕ × Want)). option_and_then (beside (type_of d)) (want_in k name)) (sym is) ∙ said) there same

-- where nothing may stand, all that does is good
nowhere : (b : Option Data) (t : Json) (q : Place) → both None b t ≡ Some q → ⊥
nowhere b t q h = cc

pub not_wanted : (p : Place) (s : Step) → wanted s p ≡ None → IsGoodPart p s
not_wanted p s none q there = absurd (nowhere (part s p.1) (tree_part s p.2) q (ap (λ (o : Option Want). both o (part s p.1) (tree_part s p.2)) (sym none) ∙ there))

-- so is what isn't there
absent : (a : Option Want) (t : Json) (q : Place) → both a None t ≡ Some q → ⊥
absent None t q h = cc
absent (Some w) t q h = cc

pub not_there : (p : Place) (s : Step) → part s p.1 ≡ None → IsGoodPart p s
not_there p s none q there = absurd (absent (wanted s p) (tree_part s p.2) q (ap (λ (o : Option Data). both (wanted s p) o (tree_part s p.2)) (sym none) ∙ there))

pub not_in_table : (w : Want) (d : Data) (t : Json) (table : List (List ℕ × Want)) (name : List ℕ) → table ≡ members_of w d
    → option_and_then (beside (type_of d)) (want_in table name) ≡ None → IsGoodPart (w, d, t) (step.Member name)
not_in_table w d t table name is none =
    not_wanted (w, d, t) (step.Member name) (ap (λ (k : List (List ℕ × Want)). option_and_then (beside (type_of d)) (want_in k name)) (sym is) ∙ none)

pub couple_first : (w : Want) (p : Want × Want) → couple_items w ≡ Some p → item_wanted w 0 ≡ Some p.0
couple_first w p h = ap (λ (o : Option (Want × Want)). option_map_or (couple_at 0) o (plain_item w 0)) h

pub couple_second : (w : Want) (p : Want × Want) → couple_items w ≡ Some p → item_wanted w 1 ≡ Some p.1
couple_second w p h = ap (λ (o : Option (Want × Want)). option_map_or (couple_at 1) o (plain_item w 1)) h

pub couple_third : (w : Want) (p : Want × Want) (i : ℕ) → couple_items w ≡ Some p → item_wanted w (suc (suc i)) ≡ None
couple_third w p i h = ap (λ (o : Option (Want × Want)). option_map_or (couple_at (suc (suc i))) o (plain_item w (suc (suc i)))) h

pub list_wanted : (w v : Want) → couple_items w ≡ None → list_item w ≡ Some v → (i : ℕ) → item_wanted w i ≡ Some v
list_wanted w v single h i =
    ap₂ (λ (o : Option (Want × Want)) (l : Option Want). option_map_or (couple_at i) o (option_or l (if is_edit w then edit_part i else None))) single h

pub none_wanted : (w : Want) → couple_items w ≡ None → list_item w ≡ None → is_edit w ≡ false → (i : ℕ) → item_wanted w i ≡ None
none_wanted w single none other i =
    ap₂ (λ (o : Option (Want × Want)) (l : Option Want). option_map_or (couple_at i) o (option_or l (if is_edit w then edit_part i else None))) single none
    ∙ ap (λ (b : Bool). if b then edit_part i else None) other

-- the last step is the one that was made last
pub last_of : (steps : List Step) (name : List ℕ) → last_name (steps ++ step.Member name ∷ []) ≡ name
last_of [] name = refl
last_of (s ∷ []) name = refl
last_of (s ∷ t ∷ steps) name = last_of (t ∷ steps) name

-- nothing was done
pub looked_none : (p : Place) (old new : Walk) → new.steps.items ≡ old.steps.items → new.first ≡ old.first → Looked p old new
looked_none p old new back first = record {
  back = back;
  kept = λ m was. first ∙ was;
  told = λ root here passed told. subst (λ f. IfSome f (IsTold root)) (sym first) told;
}

pub within_none : (p : Place) (s : Step) (old new : Walk) → new.steps.items ≡ old.steps.items → new.first ≡ old.first → Within p s old new
within_none p s old new back first = record {
  back = back;
  kept = λ m was. first ∙ was;
  told = λ root above was here passed told. subst (λ f. IfSome f (IsTold root)) (sym first) told;
}

pub noted_none : (wrong : Wrong) (old new : Walk) → new.steps.items ≡ old.steps.items → new.first ≡ old.first → Noted wrong old new
noted_none wrong old new back first = record {
  back = back;
  kept = λ m was. first ∙ was;
  told = λ root d here bad own passed inner told. subst (λ f. IfSome f (IsTold root)) (sym first) told;
}

-- one part after another
pub looked_twice : (p : Place) (old mid new : Walk) → Looked p old mid → Looked p mid new → Looked p old new
looked_twice p old mid new a b = record {
  back = b.back ∙ a.back;
  kept = λ m was. b.kept m (a.kept m was);
  told = λ root here passed told.
      b.told root (ap (λ (s : List Step). wanted_at s root) a.back ∙ here)
      (λ none. subst (λ (s : List Step). PassGoodParts s root) (sym a.back) (passed (was_untold old.first mid.first a.kept none)))
      (a.told root here passed told);
}

-- a part that stands a step further
pub within_looked : (s : Step) (p q : Place) (old new : Walk) → wanted_part s p ≡ Some q → (old.first ≡ None → Passes s p) → Looked q old new → Within p s old new
within_looked s p q old new there passes look = record {
  back = look.back;
  kept = look.kept;
  told = λ root above was here passed told.
      look.told root (ap (λ (t : List Step). wanted_at t root) was ∙ wanted_further above s root p q here there)
      (λ none. subst (λ (t : List Step). PassGoodParts t root) (sym was) (passed_further above s root p here (passed none) (passes none)))
      told;
}

-- a part behind a step, and back
pub looked_behind : (s : Step) (p : Place) (old entered looked new : Walk)
    → Entered s old entered → Within p s entered looked → Left looked new → Looked p old new
looked_behind s p old entered looked new enter look leave = record {
  back = leave.steps old.steps.items s (look.back ∙ enter.steps);
  kept = λ m was. leave.first ∙ look.kept m (enter.first ∙ was);
  told = λ root here passed told.
      subst (λ f. IfSome f (IsTold root)) (sym leave.first)
      (look.told root old.steps.items enter.steps here (λ none. passed (sym enter.first ∙ none)) (subst (λ f. IfSome f (IsTold root)) (sym enter.first) told));
}

pub looked_inside : (s : Step) (p q : Place) (old entered looked new : Walk)
    → wanted_part s p ≡ Some q → (old.first ≡ None → Passes s p) → Entered s old entered → Looked q entered looked → Left looked new → Looked p old new
looked_inside s p q old entered looked new there passes enter look leave =
    looked_behind s p old entered looked new enter (within_looked s p q entered looked there (λ none. passes (sym enter.first ∙ none)) look) leave

-- something wrong noted where the walk stands, or a step further
pub noted_here : (p : Place) (wrong : Wrong) (old new : Walk) → Noted wrong old new → IsWrong wrong old.steps.items p.1
    → ((root : Place) → wanted_at old.steps.items root ≡ Some p → IsOwn root wrong old.steps.items)
    → ((root : Place) → wanted_at old.steps.items root ≡ Some p → old.first ≡ None → IsInner root wrong old.steps.items) → Looked p old new
noted_here p wrong old new note bad own inner = record {
  back = note.back;
  kept = note.kept;
  told = λ root here passed told.
      note.told root p.1 (part_of_wanted old.steps.items root p here) bad (own root here) passed (inner root here) told;
}

-- the same of a place whose parts are good
pub noted_good : (p : Place) (wrong : Wrong) (old new : Walk) → Noted wrong old new → IsWrong wrong old.steps.items p.1
    → ((root : Place) → wanted_at old.steps.items root ≡ Some p → IsOwn root wrong old.steps.items) → (old.first ≡ None → AreGoodParts p) → Looked p old new
noted_good p wrong old new note bad own good =
    noted_here p wrong old new note bad own (λ root here none. inner_of wrong root old.steps.items (innermost old.steps.items root p here (good none)))

pub noted_within : (s : Step) (p : Place) (e : Data) (wrong : Wrong) (old new : Walk) → Noted wrong old new → part s p.1 ≡ Some e → (old.first ≡ None → Passes s p)
    → ((above : List Step) → old.steps.items ≡ above ++ s ∷ [] → IsWrong wrong old.steps.items e)
    → ((root : Place) (above : List Step) → old.steps.items ≡ above ++ s ∷ [] → wanted_at above root ≡ Some p → IsOwn root wrong old.steps.items)
    → ((root : Place) (steps : List Step) → IsInner root wrong steps) → Within p s old new
noted_within s p e wrong old new note there passes bad own inner = record {
  back = note.back;
  kept = note.kept;
  told = λ root above was here passed told.
      note.told root e
      (ap (λ (t : List Step). part_at t root.1) was ∙ one_further above s root.1 p.1 e (part_of_wanted above root p here) there)
      (bad above was) (own root above was here)
      (λ none. subst (λ (t : List Step). PassGoodParts t root) (sym was) (passed_further above s root p here (passed none) (passes none)))
      (λ none. inner root old.steps.items)
      told;
}

-- something wrong noted two steps further
pub noted_deeper : (s t : Step) (p : Place) (e f : Data) (wrong : Wrong) (old a b n c d : Walk)
    → Entered s old a → Entered t a b → Noted wrong b n → Left n c → Left c d → part s p.1 ≡ Some e → part t e ≡ Some f
    → (old.first ≡ None → AreGoodParts p) → ((steps : List Step) → IsWrong wrong steps f)
    → ((root : Place) (above : List Step) → wanted_at above root ≡ Some p → IsOwn root wrong (above ++ s ∷ t ∷ [])) → Looked p old d
noted_deeper s t p e f wrong old a b n c d one two note leave leave_again there inner good bad own = record {
  back = leave_again.steps old.steps.items s (leave.steps a.steps.items t (note.back ∙ two.steps) ∙ one.steps);
  kept = λ m was. leave_again.first ∙ leave.first ∙ note.kept m (two.first ∙ one.first ∙ was);
  told = λ root here passed told.
      let at_a : part_at a.steps.items root.1 ≡ Some e =
      ap (λ (l : List Step). part_at l root.1) one.steps ∙ one_further old.steps.items s root.1 p.1 e (part_of_wanted old.steps.items root p here) there in
      let at_b : part_at b.steps.items root.1 ≡ Some f = ap (λ (l : List Step). part_at l root.1) two.steps ∙ one_further a.steps.items t root.1 e f at_a inner in
      let steps : b.steps.items ≡ old.steps.items ++ s ∷ t ∷ [] = two.steps ∙ ap (λ (l : List Step). l ++ t ∷ []) one.steps ∙ append_assoc old.steps.items (s ∷ []) (t ∷ []) in
      subst (λ g. IfSome g (IsTold root)) (sym (leave_again.first ∙ leave.first))
      (note.told root f at_b (bad b.steps.items) (subst (λ l. IsOwn root wrong l) (sym steps) (own root old.steps.items here))
      (λ none. subst (λ l. PassGoodParts l root) (sym steps) (passed_two old.steps.items s t root p here (passed (sym one.first ∙ sym two.first ∙ none)) (good (sym one.first ∙ sym two.first ∙ none))))
      (λ none. subst (λ l. IsInner root wrong l) (sym steps) (inner_of wrong root (old.steps.items ++ s ∷ t ∷ []) (innermost_two old.steps.items s t root p here (good (sym one.first ∙ sym two.first ∙ none)))))
      (subst (λ g. IfSome g (IsTold root)) (sym (two.first ∙ one.first)) told));
}

-- the item at a place is a part
item_of_list : (ds : Items) (i : ℕ) → i < length (list_of ds) → get_item i ds ≡ Some (slice_index_or (list_of ds) i null)
item_of_list no_items i h = grind (arith)
item_of_list (item d ds) zero h = refl
item_of_list (item d ds) (suc i) h =
    let inside : i < length (list_of ds) = omega arith in
    item_of_list ds i inside

pub item_there : (d : Data) (i : ℕ) → i < length (elements d) → at i d ≡ Some (slice_index_or (elements d) i null)
item_there null i h = grind (arith)
item_there (boolean b) i h = grind (arith)
item_there (number n) i h = grind (arith)
item_there (string s) i h = grind (arith)
item_there (array ds) i h = item_of_list ds i h
item_there (object ms) i h = grind (arith)

-- what a call ensures where it succeeds, mapped
pub on_ok : {X E A B : Type 0} (r : Result X E) → (A → B) → OnOk r A → OnOk r B
on_ok (Ok x) f a = f a
on_ok (Err e) f a = tt

pub ok_all : {X E A : Type 0} (r : Result X E) → A → OnOk r A
ok_all (Ok x) a = a
ok_all (Err e) a = tt

pair : (A B : Type 0) → A → B → A × B
pair A B a b = (a, b)

pub both_ok : {X E : Type 0} (A B : Type 0) (r : Result X E) → OnOk r A → OnOk r B → OnOk r (A × B)
both_ok A B (Ok x) a b = pair A B a b
both_ok A B (Err e) a b = tt

pub some_none : {X : Type 0} (o : Option X) → IsSome o → o ≡ None → ⊥
some_none None h e = absurd (true≢false (sym h))
some_none (Some x) h e = cc

pub was_none : {X : Type 0} (o : Option X) → is_some o ≡ false → o ≡ None
was_none None h = refl
was_none (Some x) h = absurd (true≢false h)

pub empty : {X : Type 0} (xs : List X) → length xs ≡ 0 → xs ≡ []
empty [] h = refl
empty (x ∷ xs) h = absurd (omega (arith, h))

-- what is noted where the walk stands
pub noted : (wrong : Wrong) (m : Misfit) (old new : Walk)
    → m.steps.items ≡ old.steps.items → m.wrong ≡ wrong → new.steps.items ≡ old.steps.items → old.first ≡ None → new.first ≡ Some m
    → Noted wrong old new
noted wrong m old new steps same back before first = record {
  back = back;
  kept = λ n was. absurd (clash n (sym before ∙ was));
  told = λ root d here bad own passed inner told. subst (λ f. IfSome f (IsTold root)) (sym first) (record {
    value = d;
    stands = ap (λ (t : List Step). part_at t root.1) steps ∙ here;
    wrong = subst (λ w. IsWrong w m.steps.items d) (sym same) (subst (λ t. IsWrong wrong t d) (sym steps) bad);
    own = subst (λ w. IsOwn root w m.steps.items) (sym same) (subst (λ t. IsOwn root wrong t) (sym steps) own);
    first = subst (λ t. PassGoodParts t root) (sym steps) (passed before);
    inner = subst (λ w. IsInner root w m.steps.items) (sym same) (subst (λ t. IsInner root wrong t) (sym steps) (inner before));
  });
}

-- the members of a table are among its members
among : (known : List (Bor (List ℕ) × Want)) (i : ℕ) (other : Bor (List ℕ) × Want) → i < length known → HasMember (members_in known) (plain (get_or known i other))
among [] i other h = absurd (omega (arith, h))
among (m ∷ ms) zero other h = inl refl
among (m ∷ ms) (suc i) other h = inr (among ms i other (omega (arith, h)))

among_slice : (known : List (Bor (List ℕ) × Want)) (i : ℕ) (other : Bor (List ℕ) × Want) → i < length known → HasMember (members_in known) (plain (slice_index_or known i other))
among_slice [] i other h = absurd (omega (arith, h))
among_slice (m ∷ ms) zero other h = inl refl
among_slice (m ∷ ms) (suc i) other h = inr (among_slice ms i other (omega (arith, h)))

pub member_there : (known : List (Bor (List ℕ) × Want)) (table : List (List ℕ × Want)) (i : ℕ) (other : Bor (List ℕ) × Want)
    → members_in known ≡ table → i < length known → HasMember table (plain (get_or known i other))
member_there known table i other is h = subst (λ (t : List (List ℕ × Want)). HasMember t (plain (get_or known i other))) is (among known i other h)

pub member_by_slice : (known : List (Bor (List ℕ) × Want)) (table : List (List ℕ × Want)) (i : ℕ) (other : Bor (List ℕ) × Want)
    → members_in known ≡ table → i < length known → HasMember table (plain (slice_index_or known i other))
member_by_slice known table i other is h = subst (λ (t : List (List ℕ × Want)). HasMember t (plain (slice_index_or known i other))) is (among_slice known i other h)

-- a further cell, which is bad or isn't
pub bad_found : (t : DataType) (d : Data) (row : ℕ) (old : Option ℕ) → IsBadCell t d row → IsFirstBad t d row old → IsFirstBad t d (row + 1) (option_or old (Some row))
bad_found t d row None bad before = (bad, before)
bad_found t d row (Some n) bad first = first

one_more_cell : (t : DataType) (d : Data) (row j : ℕ) → AreCellsBefore t d row → is_cell t (slice_index_or (elements d) row null) ≡ true
    → (j < row) ⊎ (j ≡ row) → is_cell t (slice_index_or (elements d) j null) ≡ true
one_more_cell t d row j before here (inl below) = before j below
one_more_cell t d row j before here (inr same) = ap (λ (k : ℕ). is_cell t (slice_index_or (elements d) k null)) same ∙ here

pub none_found : (t : DataType) (d : Data) (row : ℕ) (old : Option ℕ) → is_cell t (slice_index_or (elements d) row null) ≡ true → IsFirstBad t d row old → IsFirstBad t d (row + 1) old
none_found t d row None here before = λ j h. one_more_cell t d row j before here (last_or_below j row h)
none_found t d row (Some n) here first = first

pub none_looked_at : (t : DataType) (d : Data) → AreCellsBefore t d 0
none_looked_at t d j h = absurd (omega (arith, h))

behind : (steps : List Step) (o : Option Place) (q : Place) → ((r : Place) → o ≡ Some r → IsGood r) → option_and_then (wanted_at steps) o ≡ Some q → is_wanted q.0 q.1 ≡ true
behind steps None q each h = absurd (no_place q h)
behind steps (Some r) q each h = each r refl steps q h

-- a place that spells what may stand there is good if its parts are
pub all_good : (p : Place) → is_wanted p.0 p.1 ≡ true → AreGoodParts p → IsGood p
all_good p here parts [] q at =
    let is : p ≡ q = cc in
    subst (λ (r : Place). is_wanted r.0 r.1 ≡ true) is here
all_good p here parts (s ∷ steps) q at = behind steps (wanted_part s p) q (λ r there. parts s r there) at

-- of what has no parts of which anything is wanted all are good
pub none_within : (w : Want) (d : Data) (t : Json) → ((i : ℕ) → item_wanted w i ≡ None) → ((name : List ℕ) → member_wanted w d name ≡ None) → AreGoodParts (w, d, t)
none_within w d t items members (step.Member name) = not_wanted (w, d, t) (step.Member name) (members name)
none_within w d t items members (step.Item i) = not_wanted (w, d, t) (step.Item i) (items i)

pub good_cell : (t : DataType) (d : Data) (k : Json) → is_cell t d ≡ true → IsGood (want.Cell t, d, k)
good_cell t d k h = all_good (want.Cell t, d, k) h (none_within (want.Cell t) d k (λ i. refl) (λ name. refl))

-- the cells of a column before a place
pub good_cells : (t : DataType) (d : Data) (k : Json) (row : ℕ) → row ≤ length (elements d) → AreCellsBefore t d row → AreGoodBefore (want.Cells t, d, k) row
good_cells t d k row inside before j h =
    good_part (step.Item j) (want.Cells t, d, k) (want.Cell t, slice_index_or (elements d) j null, tree_part (step.Item j) k)
    (wanted_item (want.Cells t) (want.Cell t) d (slice_index_or (elements d) j null) k (tree_part (step.Item j) k) j refl (item_there d j (omega (arith, inside, h))) refl)
    (good_cell t (slice_index_or (elements d) j null) (tree_part (step.Item j) k) (before j h))

all_cells : (t : DataType) (ds : Items) → ((j : ℕ) → j < length (list_of ds) → is_cell t (slice_index_or (list_of ds) j null) ≡ true) → all_items (is_cell t) ds ≡ true
all_cells t no_items each = refl
all_cells t (item d ds) each =
    ap₂ (λ (a b : Bool). a && b) (each 0 (omega arith)) (all_cells t ds (λ j h. each (suc j) (omega (arith, h))))

-- where each item is a cell, the array spells cells
pub cells_spelled : (t : DataType) (d : Data) (count : ℕ) → IsArrayOf d count → AreCellsBefore t d count → is_wanted (want.Cells t) d ≡ true
cells_spelled t null count is before = let apart : null ≡ array (items_of (elements null)) = is.is_array in cc
cells_spelled t (boolean b) count is before = let apart : boolean b ≡ array (items_of (elements (boolean b))) = is.is_array in cc
cells_spelled t (number n) count is before = let apart : number n ≡ array (items_of (elements (number n))) = is.is_array in cc
cells_spelled t (string s) count is before = let apart : string s ≡ array (items_of (elements (string s))) = is.is_array in cc
cells_spelled t (array ds) count is before = all_cells t ds (λ j h. before j (omega (arith, h, is.counted)))
cells_spelled t (object ms) count is before = let apart : object ms ≡ array (items_of (elements (object ms))) = is.is_array in cc

-- what is no array spells none
pub no_cells : (t : DataType) (d : Data) → as_array d ≡ None → is_wanted (want.Cells t) d ≡ false
no_cells t null h = refl
no_cells t (boolean b) h = refl
no_cells t (number n) h = refl
no_cells t (string s) h = refl
no_cells t (array ds) h = cc
no_cells t (object ms) h = refl

-- nothing is said of the cells of an edit's row
pub row_cells : (d : Data) (t : Json) (place : ℕ) → AreGoodBefore (want.Foreign foreign.Row, d, t) place
row_cells d t place j h = not_wanted (want.Foreign foreign.Row, d, t) (step.Item j) refl

-- taking the last step back leaves those before it
pub left_steps : (steps : List Step) (s : Step) (old new : List Step) → new ≡ take (length old - 1) old → old ≡ steps ++ s ∷ [] → new ≡ steps
left_steps steps s old new cut was =
    let count : length steps ≡ length (steps ++ s ∷ []) - 1 = omega (arith, length-append steps (s ∷ [])) in
    cut ∙ ap (λ (l : List Step). take (length l - 1) l) was ∙ take_at steps (s ∷ []) (length (steps ++ s ∷ []) - 1) count

-- an object's members in its data
pub object-view : (m : BTreeMap (String Global) Value) → view (Object m) ≡ object (members_view m.entries)
object-view m = search (rules, the_lemmas)

-- an object of another count of members has not one alone
pub not_single : (ms : List (String Global × Value)) → (length ms ≡ 1 → ⊥) → is_single (object (members_view ms)) ≡ false
not_single [] h = refl
not_single (m ∷ []) h = absurd (h refl)
not_single (m ∷ n ∷ ms) h = refl

pub single : (ms : List (String Global × Value)) → length ms ≡ 1 → is_single (object (members_view ms)) ≡ true
single [] h = absurd (omega (arith, h))
single (m ∷ []) h = refl
single (m ∷ n ∷ ms) h = absurd (omega (arith, h))

-- what is null or a text is a cell of texts
pub text_found : (d : Data) → is_some (nullable_text d) ≡ true → is_maybe is_text d ≡ true
text_found null h = refl
text_found (boolean b) h = absurd (true≢false (sym h))
text_found (number n) h = absurd (true≢false (sym h))
text_found (string s) h = refl
text_found (array ds) h = absurd (true≢false (sym h))
text_found (object ms) h = absurd (true≢false (sym h))

-- what is neither null nor a text is no cell of texts
pub no_text : (d : Data) → nullable_text d ≡ None → is_maybe is_text d ≡ false
no_text null h = cc
no_text (boolean b) h = refl
no_text (number n) h = refl
no_text (string s) h = cc
no_text (array ds) h = refl
no_text (object ms) h = refl

-- the text that a value is
pub text_there : (d : Data) (s : List ℕ) → as_str d ≡ Some s → text_in (Some d) ≡ s
text_there null s h = cc
text_there (boolean b) s h = cc
text_there (number n) s h = cc
text_there (string t) s h = ap text_or_none h
text_there (array ds) s h = cc
text_there (object ms) s h = cc

pub no_text_in : (d : Data) → as_str d ≡ None → text_in (Some d) ≡ []
no_text_in null h = refl
no_text_in (boolean b) h = refl
no_text_in (number n) h = refl
no_text_in (string t) h = cc
no_text_in (array ds) h = refl
no_text_in (object ms) h = refl

pub is_some_mapped : {X Y : Type 0} (f : X → Y) (o : Option X) → is_some (option_map f o) ≡ is_some o
is_some_mapped f None = refl
is_some_mapped f (Some x) = refl

-- the first place that is told, where one is
pub told_first : (root : Place) (first : Option Misfit) (m : Misfit) → IfSome first (IsTold root) → (first ≡ None → ⊥) → ((n : Misfit) → first ≡ Some n → m ≡ n) → IsTold root m
told_first root None m told some same = absurd (some refl)
told_first root (Some n) m told some same = subst (IsTold root) (sym (same n refl)) told

pub ruleset looks = (looked_none, looked_twice, looked_inside, item_there)
