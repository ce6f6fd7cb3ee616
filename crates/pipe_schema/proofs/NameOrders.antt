-- The order of a schema's names: how it comes from a sort, and what a search by halves finds.
use Rattle.std.proofs.Common.{◌≡◌, ℕ, zero, suc, ◌+◌, ◌<◌, ◌≤◌, Bool, true, false, List, [], ◌∷◌, ◌++◌, Some, None, length, map, get_or, refl, ap, sym, ◌∙◌, arith, Bor}
use Rattle.std.specs.Prelude.{All}
use Rattle.std.specs.Cmp.{IsStrictWeakOrder}
use Rattle.std.specs.Cmp.Lexicographic.{slice_cmp, bytes_decides}
use Rattle.std.specs.List.{Contains, range_with_len}
use Rattle.std.specs.List.Sorted.{IsPermutation, IsSortedBy}
use Rattle.std.specs.Ordering.{is_lt, is_eq, nat_cmp, ordering_then, ordering_reverse}
use Rattle.std.specs.Str.{bytes_eq}
use Rattle.std.specs.declared.cmp.Ordering.{Ordering}
use Rattle.std.specs.declared.cmp.Ordering.TheVariants.{Less, Equal, Greater}
use Rattle.std.proofs.lemmas.Cmp.{nat_list_cmp_total}
use Rattle.std.proofs.lemmas.Map.Text.{is_eq-slice_cmp}
use Rattle.std.proofs.lemmas.List.{length-map, get_or-map, get_or_default}
use Rattle.std.proofs.lemmas.List.Elements.{All-map}
use Rattle.std.proofs.lemmas.List.FromFn.{length-range_with_len, get_or-range_with_len}
use Rattle.std.proofs.lemmas.List.Sorted.{ranks_by, sorted_far, IsPermutation-map, All-permutation, Contains-permutation}
use Rattle.pipe_schema.specs.Schema.{name_of, place_from, place_of, IsSchema}
use Rattle.pipe_schema.specs.NameOrder.{name_at, place_lt, IsNameOrder, IsNamePlace, place_in_pair}
use Rattle.pipe_schema.specs.declared.field.Field.{Field}
use Rattle.pipe_schema.proofs.NamePlaces.{place_of-name}

-- ---- from a sort

name_first : (x y : Ordering) → is_lt (ordering_then x y) ≡ false → is_lt x ≡ false
name_first Less y h = h
name_first Equal y h = refl
name_first Greater y h = refl

contains-range : (n place : ℕ) → place < n → Contains (range_with_len 0 n) place
contains-range n place lt = (place, rw length-range_with_len lt, get_or-range_with_len 0 n place place lt ∙ (let e : 0 + place ≡ place = omega arith in e))

no_pair : Bor (List ℕ) × ℕ
no_pair = (record { ref_ptr = (0, 0); now = [] }, 0)

range-more : (a n : ℕ) → range_with_len a (suc n) ≡ range_with_len a n ++ (a + n) ∷ []
range-more a zero = ap (λ k. k ∷ []) (let e : a ≡ a + 0 = omega arith in e)
range-more a (suc n) = ap (λ l. a ∷ l) (range-more (a + 1) n ∙ ap (λ k. range_with_len (a + 1) n ++ k ∷ []) (let e : a + 1 + n ≡ a + suc n = omega arith in e))

map-push : (pairs : List (Bor (List ℕ) × ℕ)) (pair : Bor (List ℕ) × ℕ) → map place_in_pair (pairs ++ pair ∷ []) ≡ map place_in_pair pairs ++ pair.1 ∷ []
map-push [] pair = refl
map-push (p ∷ pairs) pair = ap (λ l. p.1 ∷ l) (map-push pairs pair)

-- one more pair
pub places_push : (pairs : List (Bor (List ℕ) × ℕ)) (name : Bor (List ℕ)) (n : ℕ) → map place_in_pair pairs ≡ range_with_len 0 n → map place_in_pair (pairs ++ (name, n) ∷ []) ≡ range_with_len 0 (n + 1)
places_push pairs name n h = map-push pairs (name, n) ∙ ap (λ l. l ++ n ∷ []) h ∙ ap (λ k. range_with_len 0 n ++ k ∷ []) (let e : n ≡ 0 + n = omega arith in e) ∙ sym (range-more 0 n) ∙ ap (range_with_len 0) (let e : suc n ≡ n + 1 = omega arith in e)

pub ordered_by_sort : (fields : List Field) (before after : List (Bor (List ℕ) × ℕ)) (order : List ℕ) → All (IsNamePlace fields) before → map place_in_pair before ≡ range_with_len 0 (length fields) → IsPermutation before after → IsSortedBy (λ a b. is_lt (ordering_then (slice_cmp nat_cmp a.0.now b.0.now) (nat_cmp a.1 b.1))) after → order ≡ map place_in_pair after → IsNameOrder fields order
ordered_by_sort fields before after order names places moved rises is =
    let named : All (IsNamePlace fields) after = All-permutation (IsNamePlace fields) before after moved names in
    let Inside : ℕ → Type 0 = λ place. place < length fields in
    let inside : All Inside (map place_in_pair after) = All-map Inside place_in_pair after (λ k d lt. (named k d lt).0) in
    let each : (place : ℕ) → place < length fields → Contains (map place_in_pair after) place = λ place lt.
    Contains-permutation (map place_in_pair before) (map place_in_pair after) place (IsPermutation-map place_in_pair before after moved) (rw places (contains-range (length fields) place lt)) in
    let at : (k : ℕ) (d : ℕ) → k < length after → get_or (map place_in_pair after) k d ≡ (get_or after k no_pair).1 = λ k d lt. get_or-map place_in_pair after k no_pair d lt in
    let sorted : IsSortedBy (place_lt fields) (map place_in_pair after) = λ k d low lt.
    let below : k + 1 < length after = omega (arith, length-map after place_in_pair) in
    let first = named k no_pair (omega arith) in
    let next = named (k + 1) no_pair below in
    let apart : is_lt (slice_cmp nat_cmp (get_or after (k + 1) no_pair).0.now (get_or after k no_pair).0.now) ≡ false = name_first _ _ (rises k no_pair low below) in
    rw (at k d (omega arith), at (k + 1) d below) (rw (first.1, next.1) at apart) in
    rw is (record { inside = inside; each = each; sorted = sorted })

-- ---- what a search finds

place_lt_weak : (fields : List Field) → IsStrictWeakOrder (place_lt fields)
place_lt_weak fields = ranks_by nat_list_cmp_total (name_at fields)

split_eq : (b : Bool) → (b ≡ true → ⊥) → b ≡ false
split_eq true h = absurd (h refl)
split_eq false h = refl

-- what is before a lesser name isn't the name
pub others_before : (fields : List Field) (order name : List ℕ) (middle place : ℕ) → IsNameOrder fields order → middle < length order → place ≡ get_or order middle 0 → slice_cmp nat_cmp (name_at fields place) name ≡ Less → (k : ℕ) → k < middle + 1 → bytes_eq (name_at fields (get_or order k 0)) name ≡ false
others_before fields order name middle place h lt is less k below =
    split_eq _ (λ same.
    let here : name_at fields (get_or order k 0) ≡ name = (bytes_decides _ name).0 same in
    let far : is_lt (slice_cmp nat_cmp (name_at fields (get_or order middle 0)) (name_at fields (get_or order k 0))) ≡ false = sorted_far (place_lt fields) (place_lt_weak fields) order h.sorted k middle 0 (omega arith) lt in
    let again : is_lt (slice_cmp nat_cmp (name_at fields place) name) ≡ false = rw (is, ← here) far in
    let yes : is_lt (slice_cmp nat_cmp (name_at fields place) name) ≡ true = ap is_lt less in
    cc)

-- what is behind a greater name isn't the name
pub others_behind : (fields : List Field) (order name : List ℕ) (middle place : ℕ) → IsNameOrder fields order → place ≡ get_or order middle 0 → slice_cmp nat_cmp (name_at fields place) name ≡ Greater → (k : ℕ) → middle ≤ k → k < length order → bytes_eq (name_at fields (get_or order k 0)) name ≡ false
others_behind fields order name middle place h is greater k above lt =
    split_eq _ (λ same.
    let here : name_at fields (get_or order k 0) ≡ name = (bytes_decides _ name).0 same in
    let far : is_lt (slice_cmp nat_cmp (name_at fields (get_or order k 0)) (name_at fields (get_or order middle 0))) ≡ false = sorted_far (place_lt fields) (place_lt_weak fields) order h.sorted middle k 0 above lt in
    let again : is_lt (slice_cmp nat_cmp name (name_at fields place)) ≡ false = rw (is, ← here) far in
    let yes : is_lt (slice_cmp nat_cmp name (name_at fields place)) ≡ true = ap is_lt (nat_list_cmp_total.antisymm name (name_at fields place) ∙ ap ordering_reverse greater) in
    cc)

no_place : (n : ℕ) (name : List ℕ) (fields : List Field) → ((i : ℕ) → i < length fields → bytes_eq (name_at fields i) name ≡ false) → place_from n name fields ≡ None
no_place n name [] h = refl
no_place n name (field ∷ fields) h = rw (h 0 (omega arith)) (no_place (n + 1) name fields (λ i lt. h (suc i) (omega arith)))

-- a name that is nowhere in the order has no place
pub absent : (fields : List Field) (order name : List ℕ) → IsNameOrder fields order → ((k : ℕ) → k < length order → bytes_eq (name_at fields (get_or order k 0)) name ≡ false) → place_of name fields ≡ None
absent fields order name h other =
    no_place 0 name fields (λ place lt.
    let found = h.each place lt in
    let here : get_or order found.0 0 ≡ place = get_or_default order found.0 0 place found.1 ∙ found.2 in
    rw here at (other found.0 found.1))

pub same_by_cmp : (a b : List ℕ) → slice_cmp nat_cmp a b ≡ Equal → a ≡ b
same_by_cmp a b e = (bytes_decides a b).0 (sym (is_eq-slice_cmp a b) ∙ ap is_eq e)

-- the place of a name in a schema is the place where it was found
pub found_place : (fields : List Field) (name : List ℕ) (place : ℕ) (d : Field) → IsSchema fields → place < length fields → (get_or fields place d).name ≡ name → place_of name fields ≡ Some place
found_place fields name place d h lt same = ap (λ n. place_of n fields) (sym same) ∙ place_of-name fields place d h lt

-- the name of a field is the name at its place
pub name_of_field : (fields : List Field) (place : ℕ) (d : Field) → place < length fields → name_at fields place ≡ (get_or fields place d).name
name_of_field fields place d lt = get_or-map name_of fields place d [] lt
