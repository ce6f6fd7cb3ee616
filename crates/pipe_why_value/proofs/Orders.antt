-- The members of an object in the order of its text.
use Rattle.std.proofs.Common.{◌≡◌, ◌≢◌, ◌⊎◌, inl, inr, ◌<◌, ◌+◌, ℕ, zero, suc, List, [], ◌∷◌, map, length, Bool, true, false, true≢false, cond, Option, Some, None, refl, sym, ap, ◌∙◌, subst, arith, rules, String, BTreeMap, Ordering, Less, Equal, Greater, is_eq, Bor}
use Rattle.std.specs.Prelude.{codes, if◌then◌else◌, slice_index_or, string_bytes, option_and_then, option_map}
use Rattle.std.specs.BTreeMap.{get_by_text, is_at}
use Rattle.std.specs.Map.{lookup}
use Rattle.std.specs.Cmp.Lexicographic.{bytes_decides, slice_cmp, texts_ties}
use Rattle.std.specs.Ordering.{match_ordering, nat_cmp}
use Rattle.std.specs.Str.{bytes_eq}
use Rattle.std.specs.declared.alloc.Global.{Global}
use Rattle.json.specs.Json as json
use Rattle.json.specs.Json.{Json}
use Rattle.json.specs.Value.{members_of, value_view}
use Rattle.json.specs.declared.value.Value.{Value as Tree}
use Rattle.serde_json.specs.Data.{Data, null, boolean, number, string, array, object, Members, no_members, member}
use Rattle.serde_json.specs.Find.{get}
use Rattle.pipe_schema.specs.declared.data_type.DataType.{DataType}
use Rattle.pipe_job.specs.Shape.{is_single}
use Rattle.pipe_why_text.specs.declared.steps.Step.TheVariants as step
use Rattle.pipe_why_text.specs.Members.{type_of, beside}
use Rattle.pipe_why_text.specs.declared.want.Want.{Want}
use Rattle.pipe_why_text.specs.declared.want.Want.TheVariants as want
use Rattle.pipe_why_value.specs.Order.{AreLasts, IsLast, StandsBefore, names, names_in, names_of, or_null, written}
use Rattle.pipe_why_value.specs.Places.{IsGoodPart, Passes, Place, both, part, wanted, wanted_part}
use Rattle.pipe_why_value.specs.declared.order.Last.{Last}
use Rattle.pipe_why_value.proofs.Looks.{both_second}

last_or_below : (k i : ℕ) → k < i + 1 → (k < i) ⊎ (k ≡ i)
last_or_below k i h = grind arith

by_places : (i j : ℕ) → (i < j) ⊎ ((i ≡ j) ⊎ (j < i))
by_places i j = grind arith

-- a name has one last place
one_last : (names : List (List ℕ)) (i j : ℕ) (name : List ℕ) → IsLast names i name → IsLast names j name → i < j → ⊥
one_last names i j name a b less = a.2 j less b.0 b.1

abbrev pub AreGoodLasts : Place → List (List ℕ) → ℕ → Type 0
AreGoodLasts p names i = (other : List ℕ) (k : ℕ) → k < i → IsLast names k other → IsGoodPart p (step.Member other)

pub no_lasts : (p : Place) (names : List (List ℕ)) → AreGoodLasts p names 0
no_lasts p names other k h last = absurd (omega (arith, h))

further_last : (p : Place) (names : List (List ℕ)) (i k : ℕ) (name other : List ℕ) → AreGoodLasts p names i → slice_index_or names i [] ≡ name
    → (IsLast names i name → IsGoodPart p (step.Member name)) → IsLast names k other → (k < i) ⊎ (k ≡ i) → IsGoodPart p (step.Member other)
further_last p names i k name other before at here last (inl below) = before other k below last
further_last p names i k name other before at here last (inr same) =
    let at_i : IsLast names i other = subst (λ j. IsLast names j other) same last in
    let is : other ≡ name = sym at_i.1 ∙ at in
    subst (λ n. IsGoodPart p (step.Member n)) (sym is) (here (subst (λ n. IsLast names i n) is at_i))

-- a further member, which is good where it is the last of its name
pub one_more_last : (p : Place) (names : List (List ℕ)) (i : ℕ) (name : List ℕ) → AreGoodLasts p names i → slice_index_or names i [] ≡ name
    → (IsLast names i name → IsGoodPart p (step.Member name)) → AreGoodLasts p names (i + 1)
one_more_last p names i name before at here other k h last = further_last p names i k name other before at here last (last_or_below k i h)

before_last : (p : Place) (i j k : ℕ) (name other : List ℕ) → AreGoodLasts p (names_of p.2) i → IsLast (names_of p.2) i name → k < j → IsLast (names_of p.2) k other
    → IsLast (names_of p.2) j name → (i < j) ⊎ ((i ≡ j) ⊎ (j < i)) → IsGoodPart p (step.Member other)
before_last p i j k name other before here less first second (inl after) = absurd (one_last (names_of p.2) i j name here second after)
before_last p i j k name other before here less first second (inr (inl same)) = before other k (omega (arith, less, same)) first
before_last p i j k name other before here less first second (inr (inr after)) = absurd (one_last (names_of p.2) j i name second here after)

-- where all members before the last one of a name are good, a step to it passes good ones
pub passes_lasts : (p : Place) (i : ℕ) (name : List ℕ) → AreGoodLasts p (names_of p.2) i → IsLast (names_of p.2) i name → Passes (step.Member name) p
passes_lasts p i name before here other stands =
    before_last p i stands.1 stands.0 name other before here stands.2 stands.3 stands.4 (by_places i stands.1)

not_before_itself : (t : Json) (name other : List ℕ) → StandsBefore t other name → other ≡ name → ⊥
not_before_itself t name other stands same =
    one_last (names_of t) stands.0 stands.1 name (subst (λ n. IsLast (names_of t) stands.0 n) same stands.3) stands.4 stands.2

-- ---- objects of one member

pub tie_of : (o : Ordering) (d e : Data) → match_ordering o None (Some d) None ≡ Some e → o ≡ Equal
tie_of Less d e h = cc
tie_of Equal d e h = refl
tie_of Greater d e h = cc

pub same_text : (a b : List ℕ) → slice_cmp nat_cmp a b ≡ Equal → a ≡ b
same_text a b e = (bytes_decides a b).0 (texts_ties a b ∙ ap is_eq e)

one_member : (ms : Members) (a b : List ℕ) (d e : Data) → is_single (object ms) ≡ true → get a (object ms) ≡ Some d → get b (object ms) ≡ Some e → a ≡ b
one_member no_members a b d e one x y = cc
one_member (member k v no_members) a b d e one x y =
    same_text a k (tie_of (slice_cmp nat_cmp a k) v d x) ∙ sym (same_text b k (tie_of (slice_cmp nat_cmp b k) v e y))
one_member (member k v (member l w ms)) a b d e one x y = absurd (true≢false (sym one))

single_get : (o : Data) (a b : List ℕ) (d e : Data) → is_single o ≡ true → get a o ≡ Some d → get b o ≡ Some e → a ≡ b
single_get null a b d e one x y = cc
single_get (boolean c) a b d e one x y = cc
single_get (number n) a b d e one x y = cc
single_get (string s) a b d e one x y = cc
single_get (array ds) a b d e one x y = cc
single_get (object ms) a b d e one x y = one_member ms a b d e one x y

-- before the one member of an object stands none
pub passes_single : (w : Want) (o d : Data) (t : Json) (name : List ℕ) → is_single o ≡ true → get name o ≡ Some d → Passes (step.Member name) (w, o, t)
passes_single w o d t name one there other stands q at_q =
    absurd (not_before_itself t name other stands (single_get o other name q.1 d one (both_second (wanted (step.Member other) (w, o, t)) (get other o) _ q at_q) there))

-- of a frame's members one is wanted
frame_name : (b : Bool) (u : Option DataType) (s : Option Data) (t : Json) (q : Place) → both (option_and_then (beside u) (if b then Some want.Columns else None)) s t ≡ Some q → b ≡ true
frame_name true u s t q h = refl
frame_name false u s t q h = cc

pub passes_columns : (d : Data) (t : Json) → Passes (step.Member (codes "columns")) (want.Frame, d, t)
passes_columns d t other stands q at_q =
    absurd (not_before_itself t (codes "columns") other stands
    ((bytes_decides other (codes "columns")).0 (frame_name (bytes_eq other (codes "columns")) (type_of d) (get other d) _ q at_q)))

-- ---- the last members of names

abbrev place_in : Option Last → ℕ
place_in None = 0
place_in (Some l) = l.place

no_last : (l : Last) → None ≡ Some l → ⊥
no_last l h = cc

some_last : (l : Last) → Some l ≡ None → ⊥
some_last l h = cc

-- no name was read
pub none_read : (names : List (List ℕ)) (lasts : BTreeMap (String Global) Last) → lasts.entries ≡ [] → AreLasts names 0 lasts
none_read names lasts empty = record {
  last = λ name l found. absurd (no_last l (sym (ap (λ (es : List (String Global × Last)). lookup (is_at (λ (k : String Global). slice_cmp nat_cmp name (string_bytes k))) es) empty) ∙ found));
  each = λ j h none. omega (arith, h);
}

abbrev IsLastOf : List (List ℕ) → ℕ → List ℕ → Last → Type 0
IsLastOf names n name l = (l.place < n) × (slice_index_or names l.place [] ≡ name) × ((j : ℕ) → l.place < j → j < n → slice_index_or names j [] ≢ name)

still_last : (names : List (List ℕ)) (i j : ℕ) (put name : List ℕ) → slice_index_or names i [] ≡ put → bytes_eq put name ≡ false
    → (j < i) ⊎ (j ≡ i) → (j < i → slice_index_or names j [] ≢ name) → slice_index_or names j [] ≡ name → ⊥
still_last names i j put name at other (inl below) before is = before below is
still_last names i j put name at other (inr same) before is =
    let equal : put ≡ name = sym at ∙ ap (λ k. slice_index_or names k []) (sym same) ∙ is in
    absurd (true≢false (sym ((bytes_decides put name).1 equal) ∙ other))

last_put : (b : Bool) (names : List (List ℕ)) (i : ℕ) (put name : List ℕ) (l found : Last) (old : BTreeMap (String Global) Last)
    → AreLasts names i old → slice_index_or names i [] ≡ put → l.place ≡ i → bytes_eq put name ≡ b
    → cond b (Some l) (get_by_text old name) ≡ Some found → IsLastOf names (i + 1) name found
last_put true names i put name l found old were at place same there =
    let is : i ≡ found.place = sym place ∙ ap place_in there in
    (omega (arith, is), ap (λ k. slice_index_or names k []) (sym is) ∙ at ∙ (bytes_decides put name).0 same, λ j after h e. omega (arith, is, after, h))
last_put false names i put name l found old were at place other there =
    let was = were.last name found there in
    (omega (arith, was.0), was.1, λ j after h. still_last names i j put name at other (last_or_below j i h) (was.2 j after))

each_put : (b : Bool) (names : List (List ℕ)) (i j : ℕ) (put : List ℕ) (l : Last) (old : BTreeMap (String Global) Last)
    → AreLasts names i old → slice_index_or names i [] ≡ put → bytes_eq put (slice_index_or names j []) ≡ b
    → (j < i) ⊎ (j ≡ i) → cond b (Some l) (get_by_text old (slice_index_or names j [])) ≡ None → ⊥
each_put true names i j put l old were at same where_ none = some_last l none
each_put false names i j put l old were at other (inl below) none = were.each j below none
each_put false names i j put l old were at other (inr same) none =
    let equal : put ≡ slice_index_or names j [] = sym at ∙ ap (λ k. slice_index_or names k []) (sym same) in
    true≢false (sym ((bytes_decides put (slice_index_or names j [])).1 equal) ∙ other)

-- a further name was read
pub name_read : (names : List (List ℕ)) (i : ℕ) (put : List ℕ) (l : Last) (old new : BTreeMap (String Global) Last) → AreLasts names i old → slice_index_or names i [] ≡ put → l.place ≡ i
    → ((name : List ℕ) → get_by_text new name ≡ cond (bytes_eq put name) (Some l) (get_by_text old name)) → AreLasts names (i + 1) new
name_read names i put l old new were at place updates = record {
  last = λ name found there. last_put (bytes_eq put name) names i put name l found old were at place refl (sym (updates name) ∙ there);
  each = λ j h none. each_put (bytes_eq put (slice_index_or names j [])) names i j put l old were at refl (last_or_below j i h) (sym (updates (slice_index_or names j [])) ∙ none);
}

-- ---- what is asked of a place

-- the last member of a name stands at the place that is asked
pub is_last_here : (names : List (List ℕ)) (lasts : BTreeMap (String Global) Last) (name : List ℕ) (l : Last) (place : ℕ) → AreLasts names (length names) lasts
    → get_by_text lasts name ≡ Some l → l.place ≡ place → IsLast names place name
is_last_here names lasts name l place are found here =
    subst (λ p. IsLast names p name) here (are.last name l found)

elsewhere : (names : List (List ℕ)) (name : List ℕ) (i j : ℕ) → IsLast names i name → IsLast names j name → (i < j) ⊎ ((i ≡ j) ⊎ (j < i)) → i ≡ j
elsewhere names name i j a b (inl less) = absurd (one_last names i j name a b less)
elsewhere names name i j a b (inr (inl same)) = same
elsewhere names name i j a b (inr (inr less)) = absurd (one_last names j i name b a less)

-- it stands elsewhere
pub is_last_there : (names : List (List ℕ)) (lasts : BTreeMap (String Global) Last) (name : List ℕ) (l : Last) (place : ℕ) → AreLasts names (length names) lasts
    → get_by_text lasts name ≡ Some l → (l.place ≡ place → ⊥) → IsLast names place name → ⊥
is_last_there names lasts name l place are found there here =
    there (elsewhere names name l.place place (are.last name l found) here (by_places l.place place))

-- a name that was read has a last member
pub has_last : (names : List (List ℕ)) (lasts : BTreeMap (String Global) Last) (name : List ℕ) (place : ℕ) → AreLasts names (length names) lasts
    → get_by_text lasts name ≡ None → IsLast names place name → ⊥
has_last names lasts name place are none here =
    are.each place here.0 (ap (get_by_text lasts) here.1 ∙ none)

-- ---- what is written

pub tree_item : (r : Option (Bor (Tree Global))) (o : Option Json) → option_map (λ v. value_view v.now) r ≡ o → written r ≡ or_null o
tree_item None o h = ap or_null h
tree_item (Some v) o h = ap or_null h

pub names_read : (ms : List (Bor (List ℕ) × Tree Global)) → names_in ms ≡ names (members_of (map (λ m. (m.0, value_view m.1)) ms))
names_read [] = refl
names_read (m ∷ ms) = ap (λ (rest : List (List ℕ)). m.0.now ∷ rest) (names_read ms)

pub count_names : (ms : List (Bor (List ℕ) × Tree Global)) → length (names_in ms) ≡ length ms
count_names [] = refl
count_names (m ∷ ms) = ap suc (count_names ms)

pub name_there : (ms : List (Bor (List ℕ) × Tree Global)) (i : ℕ) (other : Bor (List ℕ) × Tree Global) → i < length ms → slice_index_or (names_in ms) i [] ≡ (slice_index_or ms i other).0.now
name_there [] i other h = absurd (omega (arith, h))
name_there (m ∷ ms) zero other h = refl
name_there (m ∷ ms) (suc i) other h = name_there ms i other (omega (arith, h))
