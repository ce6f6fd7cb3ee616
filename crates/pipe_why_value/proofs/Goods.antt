-- Places all of whose parts spell what may stand there.
use Rattle.std.proofs.Common.{◌≡◌, ◌==◌, ◌⊎◌, inl, inr, ◌<◌, ◌≤◌, ℕ, zero, suc, List, [], ◌∷◌, length, Option, Some, None, refl, sym, ap, ◌∙◌, subst, arith, true, false, true≢false, Bool}
use Rattle.std.proofs.lemmas.Bool.Decides.{Decides-eqb}
use Rattle.std.specs.Prelude.{is_some, option_and_then, IfSome, String, string_bytes, slice_get}
use Rattle.std.specs.Borrow.{Bor}
use Rattle.std.specs.Cmp.Lexicographic.{slice_cmp}
use Rattle.std.specs.Ordering.{nat_cmp}
use Rattle.std.specs.declared.alloc.Global.{Global}
use Rattle.json.specs.Json.{Json}
use Rattle.serde_json.specs.Data.{Data, null, boolean, number, string, array, object, Items, no_items, item, no_members, member}
use Rattle.serde_json.specs.Find.{as_array, at, get, get_item}
use Rattle.pipe_value.specs.View.{members_view, view}
use Rattle.pipe_value.specs.declared.value.Value.{Value}
use Rattle.pipe_value.specs.Items.{IsArrayOf, elements, list_of}
use Rattle.pipe_schema.specs.declared.data_type.DataType.{DataType}
use Rattle.pipe_job.specs.Shape.{is_object}
use Rattle.pipe_why_text.specs.declared.steps.Step.{Step}
use Rattle.pipe_why_text.specs.declared.steps.Step.TheVariants as step
use Rattle.pipe_why_text.specs.Members.{beside, item_wanted, member_wanted, members_in, members_of, type_of, want_in}
use Rattle.pipe_why_text.specs.Wanted.{is_wanted}
use Rattle.pipe_why_text.specs.declared.want.Foreign.{Foreign}
use Rattle.pipe_why_text.specs.declared.want.Foreign.TheVariants as foreign
use Rattle.pipe_why_text.specs.declared.want.Want.{Want}
use Rattle.pipe_why_text.specs.declared.want.Want.TheVariants as want
use Rattle.pipe_why_value.specs.Order.{IsLast, IsWritten, names_of, tree_part}
use Rattle.pipe_why_value.specs.Places.{AreGoodBefore, AreGoodParts, IsGood, IsGoodItem, IsGoodPart, IsTold, PassGoodParts, Place, TellsInner, part, wanted, wanted_at, wanted_part}
use Rattle.pipe_why_value.specs.Walks.{AreCellsBefore, Looked}
use Rattle.pipe_why_value.specs.declared.walk.Walk.{Walk}
use Rattle.pipe_why_value.specs.declared.wrong.Misfit.{Misfit}
use Rattle.pipe_why_value.proofs.Looks.{all_good, both_second, cells_spelled, good_cells, none_within, not_there, not_wanted, one_more_good}
use Rattle.pipe_why_value.proofs.Orders.{AreGoodLasts, same_text, tie_of}
use Rattle.pipe_why_value.proofs.Writing.{HasLast, name_written}

-- what is no array has no items
no_items_in : (d : Data) (i : ℕ) → as_array d ≡ None → at i d ≡ None
no_items_in null i h = refl
no_items_in (boolean b) i h = refl
no_items_in (number n) i h = refl
no_items_in (string s) i h = refl
no_items_in (array ds) i h = cc
no_items_in (object ms) i h = refl

-- an array has no members
no_members_in : (d : Data) (name : List ℕ) → is_some (as_array d) ≡ true → get name d ≡ None
no_members_in null name h = refl
no_members_in (boolean b) name h = refl
no_members_in (number n) name h = refl
no_members_in (string s) name h = refl
no_members_in (array ds) name h = refl
no_members_in (object ms) name h = absurd (true≢false (sym h))

object_items : (d : Data) (i : ℕ) → is_object d ≡ true → at i d ≡ None
object_items null i h = refl
object_items (boolean b) i h = refl
object_items (number n) i h = refl
object_items (string s) i h = refl
object_items (array ds) i h = absurd (true≢false (sym h))
object_items (object ms) i h = refl

behind_last : (ds : Items) (i : ℕ) → length (list_of ds) ≤ i → get_item i ds ≡ None
behind_last no_items i h = refl
behind_last (item d ds) zero h = absurd (omega (arith, h))
behind_last (item d ds) (suc i) h = behind_last ds i (omega (arith, h))

no_item : (d : Data) (i : ℕ) → length (elements d) ≤ i → at i d ≡ None
no_item null i h = refl
no_item (boolean b) i h = refl
no_item (number n) i h = refl
no_item (string s) i h = refl
no_item (array ds) i h = behind_last ds i h
no_item (object ms) i h = refl

by_count : (i n : ℕ) → (i < n) ⊎ (n ≤ i)
by_count i n = grind arith

item_by_count : (p : Place) (n i : ℕ) → length (elements p.1) ≤ n → AreGoodBefore p n → (i < n) ⊎ (n ≤ i) → IsGoodItem p i
item_by_count p n i all before (inl below) = before i below
item_by_count p n i all before (inr behind) = not_there p (step.Item i) (no_item p.1 i (omega (arith, all, behind)))

-- where the items before a place are good, and none stands behind it, all are
pub items_good : (p : Place) (n : ℕ) → length (elements p.1) ≤ n → AreGoodBefore p n → (i : ℕ) → IsGoodItem p i
items_good p n all before i = item_by_count p n i all before (by_count i n)

-- the parts of an array are its items
pub array_parts : (p : Place) → is_some (as_array p.1) ≡ true → ((i : ℕ) → IsGoodItem p i) → AreGoodParts p
array_parts p is items (step.Member name) = not_there p (step.Member name) (no_members_in p.1 name is)
array_parts p is items (step.Item i) = items i

-- the parts of an object are its members
pub object_parts : (p : Place) → is_object p.1 ≡ true → ((name : List ℕ) → IsGoodPart p (step.Member name)) → AreGoodParts p
object_parts p is members (step.Member name) = members name
object_parts p is members (step.Item i) = not_there p (step.Item i) (object_items p.1 i is)

-- what is neither has no parts
pub no_parts : (p : Place) → as_array p.1 ≡ None → ((name : List ℕ) → get name p.1 ≡ None) → AreGoodParts p
no_parts p none members (step.Member name) = not_there p (step.Member name) (members name)
no_parts p none members (step.Item i) = not_there p (step.Item i) (no_items_in p.1 i none)

pub is_an_array : (d : Data) (n : ℕ) → IsArrayOf d n → is_some (as_array d) ≡ true
is_an_array d n is = ap (λ (e : Data). is_some (as_array e)) is.is_array

some_array : (d : Data) → is_some (as_array d) ≡ true → as_array d ≡ None → ⊥
some_array d is none = true≢false (sym is ∙ ap is_some none)

pub not_an_array : {A : Type 0} (d : Data) → is_some (as_array d) ≡ true → as_array d ≡ None → A
not_an_array d is none = absurd (some_array d is none)

-- ---- members

by_part : (p : Place) (name : List ℕ) (o : Option Data) → get name p.1 ≡ o → (HasLast (names_of p.2) name → IsGoodPart p (step.Member name))
    → ((e : Data) → get name p.1 ≡ Some e → HasLast (names_of p.2) name) → IsGoodPart p (step.Member name)
by_part p name None none good last = not_there p (step.Member name) none
by_part p name (Some e) there good last = good (last e there)

-- where the last member of each name of the text is good, all members are
pub members_good : (p : Place) (n : ℕ) → IsWritten p.2 p.1 → length (names_of p.2) ≤ n → AreGoodLasts p (names_of p.2) n → (name : List ℕ) → IsGoodPart p (step.Member name)
members_good p n is all lasts name =
    by_part p name (get name p.1) refl (λ last. lasts name last.0 (omega (arith, all, last.1.0)) last.1) (λ e there. name_written name p.2 p.1 e is there)

-- of an object that may have no members
pub no_table : (w : Want) (d : Data) (t : Json) → is_object d ≡ true → [] ≡ members_of w d → AreGoodParts (w, d, t)
no_table w d t is none =
    object_parts (w, d, t) is (λ name. not_wanted (w, d, t) (step.Member name)
    (ap (λ (k : List (List ℕ × Want)). option_and_then (beside (type_of d)) (want_in k name)) (sym none)))

named_alone : (k other : List ℕ) (v e : Data) → get other (object (member k v no_members)) ≡ Some e → other ≡ k
named_alone k other v e there = same_text other k (tie_of (slice_cmp nat_cmp other k) v e there)

same_pair : (m n : String Global × Value) → Some m ≡ Some n → m ≡ n
same_pair m n h = cc

one_entry : (w : Want) (d : Data) (t : Json) (ms : List (String Global × Value)) (name : String Global) (v : Value) → is_object d ≡ true → d ≡ object (members_view ms) → length ms ≡ 1
    → slice_get ms 0 ≡ Some (name, v) → IsGoodPart (w, d, t) (step.Member (string_bytes name)) → AreGoodParts (w, d, t)
one_entry w d t [] name v is same one first good = absurd (omega (arith, one))
one_entry w d t (m ∷ []) name v is same one first good =
    let is_first : m.0 ≡ name = ap (λ (x : String Global × Value). x.0) (same_pair m (name, v) first) in
    object_parts (w, d, t) is (λ other q at_q.
    let there : get other d ≡ Some q.1 = both_second (wanted (step.Member other) (w, d, t)) (get other d) _ q at_q in
    let named : other ≡ string_bytes name = named_alone (string_bytes m.0) other (view m.1) q.1 (ap (get other) (sym same) ∙ there) ∙ ap string_bytes is_first in
    subst (λ (n : List ℕ). IsGoodPart (w, d, t) (step.Member n)) (sym named) good q at_q)
one_entry w d t (m ∷ n ∷ ms) name v is same one first good = absurd (omega (arith, one))

-- the parts of an object of one member
pub named_parts : (w : Want) (d : Data) (t : Json) (ms : List (String Global × Value)) (name : String Global) (v : Value) (text : List ℕ) → is_object d ≡ true → d ≡ object (members_view ms)
    → length ms ≡ 1 → slice_get ms 0 ≡ Some (name, v) → text ≡ string_bytes name → IsGoodPart (w, d, t) (step.Member text) → AreGoodParts (w, d, t)
named_parts w d t ms name v text is same one first named good =
    one_entry w d t ms name v is same one first (subst (λ (n : List ℕ). IsGoodPart (w, d, t) (step.Member n)) named good)

-- ---- cells, and the parts of edits

pub no_cells_within : (t : DataType) (d : Data) (k : Json) → as_array d ≡ None → AreGoodParts (want.Cells t, d, k)
no_cells_within t d k none (step.Member name) = not_wanted (want.Cells t, d, k) (step.Member name) refl
no_cells_within t d k none (step.Item i) = not_there (want.Cells t, d, k) (step.Item i) (no_items_in d i none)

pub cells_good : (t : DataType) (d : Data) (k : Json) (count : ℕ) → IsArrayOf d count → AreCellsBefore t d count → IsGood (want.Cells t, d, k)
cells_good t d k count is before =
    all_good (want.Cells t, d, k) (cells_spelled t d count is before)
    (array_parts (want.Cells t, d, k) (is_an_array d count is)
    (items_good (want.Cells t, d, k) count (omega (arith, is.counted)) (good_cells t d k count (omega (arith, is.counted)) before)))

pub side_within : (d : Data) (t : Json) → AreGoodParts (want.Foreign foreign.Side, d, t)
side_within d t = none_within (want.Foreign foreign.Side) d t (λ i. refl) (λ name. refl)

pub word_within : (d : Data) (t : Json) → AreGoodParts (want.Foreign foreign.Word, d, t)
word_within d t = none_within (want.Foreign foreign.Word) d t (λ i. refl) (λ name. refl)

pub row_within : (d : Data) (t : Json) → AreGoodParts (want.Foreign foreign.Row, d, t)
row_within d t = none_within (want.Foreign foreign.Row) d t (λ i. refl) (λ name. refl)

no_want : (v : Want) → None ≡ Some v → ⊥
no_want v h = cc

same_parts : (w v : Want) (d : Data) (t : Json) → Some w ≡ Some v → AreGoodParts (w, d, t) → AreGoodParts (v, d, t)
same_parts w v d t h good =
    let is : w ≡ v = cc in
    subst (λ (u : Want). AreGoodParts (u, d, t)) is good

-- nothing is wanted within a part of an edit
pub edit_within : (place : ℕ) (v : Want) (d : Data) (t : Json) → item_wanted (want.Foreign foreign.Edit) place ≡ Some v → AreGoodParts (v, d, t)
edit_within zero v d t h = same_parts (want.Foreign foreign.Side) v d t h (side_within d t)
edit_within (suc zero) v d t h = same_parts (want.Foreign foreign.Word) v d t h (word_within d t)
edit_within (suc (suc zero)) v d t h = same_parts (want.Foreign foreign.Row) v d t h (row_within d t)
edit_within (suc (suc (suc i))) v d t h = absurd (no_want v h)

edit_item : (d : Data) (t : Json) (i : ℕ) → AreGoodBefore (want.Foreign foreign.Edit, d, t) 3 → IsGoodItem (want.Foreign foreign.Edit, d, t) i
edit_item d t zero before = before 0 (omega arith)
edit_item d t (suc zero) before = before 1 (omega arith)
edit_item d t (suc (suc zero)) before = before 2 (omega arith)
edit_item d t (suc (suc (suc i))) before = not_wanted (want.Foreign foreign.Edit, d, t) (step.Item (suc (suc (suc i)))) refl

-- an edit has three parts
pub edit_parts : (d : Data) (t : Json) → is_some (as_array d) ≡ true → AreGoodBefore (want.Foreign foreign.Edit, d, t) 3 → AreGoodParts (want.Foreign foreign.Edit, d, t)
edit_parts d t is before = array_parts (want.Foreign foreign.Edit, d, t) is (λ i. edit_item d t i before)

-- so has what should have two items, two
pub couple_item : (p : Place) (i : ℕ) → ((k : ℕ) → item_wanted p.0 (suc (suc k)) ≡ None) → AreGoodBefore p 2 → IsGoodItem p i
couple_item p zero none before = before 0 (omega arith)
couple_item p (suc zero) none before = before 1 (omega arith)
couple_item p (suc (suc i)) none before = not_wanted p (step.Item (suc (suc i))) (none i)

-- the items that an array lacks are none that are wrong
pub none_lacking : (p : Place) (n m : ℕ) → length (elements p.1) ≤ n → AreGoodBefore p n → AreGoodBefore p m
none_lacking p n m all before i h = items_good p n all before i

-- ---- the whole

-- what is told by a walk that began at the whole
pub told_whole : (root p : Place) (old new : Walk) → Looked p old new → old.steps.items ≡ [] → old.first ≡ None → root ≡ p → IfSome new.first (IsTold root)
told_whole root p old new look steps first same =
    look.told root (ap (λ (s : List Step). wanted_at s root) steps ∙ ap Some same) (λ none. subst (λ (s : List Step). PassGoodParts s root) (sym steps) tt)
    (subst (λ f. IfSome f (IsTold root)) (sym first) tt)

pub inner_told : (root : Place) (first : Option Misfit) → IfSome first (IsTold root) → IfSome first (TellsInner root)
inner_told root None told = tt
inner_told root (Some m) told = told.inner

-- a table without members
pub empty_table : (known : List (Bor (List ℕ) × Want)) → (length known == 0) ≡ true → [] ≡ members_in known
empty_table [] h = refl
empty_table (m ∷ ms) h = absurd (omega (arith, (Decides-eqb (length (m ∷ ms)) 0).0 h))
