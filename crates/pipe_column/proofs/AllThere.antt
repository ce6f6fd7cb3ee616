-- Marks that are all true.
use Rattle.std.proofs.Common.{◌≡◌, ℕ, zero, suc, ◌+◌, ◌-◌, ◌<◌, ◌≤◌, ◌⊎◌, inl, inr, min, Bool, true, false, ◌&&◌, nat_lt, lt-ltb, le-ltb, List, [], ◌∷◌, ◌++◌, Option, Some, None, length, get_or, map, take, drop, replicate, refl, ap, sym, subst, ◌∙◌, arith}
use Rattle.std.proofs.lemmas.List.{length-map, length-replicate, get_or-replicate, get_or_past, take-replicate, drop-replicate, replicate-append-replicate, take_all, take_more, map_more, map_push}
use Rattle.std.proofs.lemmas.Bool.{cases_lt}
use Rattle.pipe_column.specs.Column.{nullables, value_at}
use Rattle.pipe_column.specs.Validity.{validities, all_true}
use Rattle.pipe_column.specs.declared.validities.Validities.{Validities}
use Rattle.pipe_column.specs.declared.validities.Validities.TheVariants as shown

-- one more mark
all_true-push : (marks : List Bool) (mark : Bool) → (all_true marks && mark) ≡ all_true (marks ++ mark ∷ [])
all_true-push [] true = refl
all_true-push [] false = refl
all_true-push (true ∷ marks) mark = all_true-push marks mark
all_true-push (false ∷ marks) mark = refl

pub all_true-more : (marks : List Bool) (i : ℕ) → i < length marks → (all_true (take i marks) && get_or marks i false) ≡ all_true (take (i + 1) marks)
all_true-more marks i lt = all_true-push (take i marks) (get_or marks i false) ∙ sym (ap all_true (take_more marks i false lt))

-- the same of what is read at places
pub all_true-place : {P Q : Type 0} (f : Q → Bool) (g : P → Q) (places : List P) (i : ℕ) (place : P) (mark : Bool) → i < length places → place ≡ get_or places i place → mark ≡ f (g place) → (all_true (map f (map g (take i places))) && mark) ≡ all_true (map f (map g (take (i + 1) places)))
all_true-place f g places i place mark lt at is =
    let front = map g (take i places) in
    let last = g (get_or places i place) in
    ap (λ m. all_true (map f front) && m) (is ∙ ap (λ p. f (g p)) at)
    ∙ all_true-push (map f front) (f last)
    ∙ sym (ap all_true (ap (map f) (map_more g places i place lt) ∙ map_push f front last))

-- marks that are all true are one mark, so many times
pub replicate-all_true : (marks : List Bool) → all_true marks ≡ true → replicate (length marks) true ≡ marks
replicate-all_true [] h = refl
replicate-all_true (true ∷ marks) h = ap (λ l. true ∷ l) (replicate-all_true marks h)
replicate-all_true (false ∷ marks) h = cc

pub replicate_of-places : {P Q : Type 0} (f : Q → Bool) (g : P → Q) (places : List P) → all_true (map f (map g places)) ≡ true → replicate (length places) true ≡ map f (map g places)
replicate_of-places f g places h = ap (λ n. replicate n true) (sym (length-map (map g places) f ∙ length-map places g)) ∙ replicate-all_true (map f (map g places)) h

-- further ones behind them
pub there-append : (n m k : ℕ) → k ≡ n + m → replicate k true ≡ replicate n true ++ replicate m true
there-append n m k e = ap (λ j. replicate j true) e ∙ sym (replicate-append-replicate n m true)

-- the mark at a place of them
pub there : (n i : ℕ) → i < length (replicate n true) → true ≡ get_or (replicate n true) i false
there n i lt = sym (get_or-replicate n i true false (omega (arith, lt, length-replicate n true)))

pub is_there : (n i : ℕ) → nat_lt i n ≡ get_or (replicate n true) i false
is_there n i =
    let split : (i < n) ⊎ (n ≤ i) → nat_lt i n ≡ get_or (replicate n true) i false = elim [
      | inl lt ↦ lt-ltb i n lt ∙ sym (get_or-replicate n i true false lt)
      | inr le ↦ le-ltb i n le ∙ sym (get_or_past (replicate n true) i false (omega (arith, le, length-replicate n true)))
    ] in split (cases_lt i n)

-- the first of them, and a part of them
pub there-take : (count n : ℕ) → replicate (min n count) true ≡ take count (replicate n true)
there-take zero n = let e : min n zero ≡ zero = omega arith in ap (λ k. replicate k true) e
there-take (suc count) zero = let e : min zero (suc count) ≡ zero = omega arith in ap (λ k. replicate k true) e
there-take (suc count) (suc n) = let e : min (suc n) (suc count) ≡ suc (min n count) = omega arith in ap (λ k. replicate k true) e ∙ ap (λ l. true ∷ l) (there-take count n)

pub there-part : (from count n : ℕ) → from + count ≤ length (replicate n true) → replicate count true ≡ take count (drop from (replicate n true))
there-part from count n within = let left : count ≤ n - from = omega (arith, within, length-replicate n true) in sym (ap (take count) (drop-replicate from n true) ∙ take-replicate count (n - from) true left)

-- values that are all there
pub nullables-there : {T : Type 0} (n : ℕ) (xs : List T) → length (replicate n true) ≡ length xs → nullables (replicate n true) xs ≡ map Some xs
nullables-there zero [] h = refl
nullables-there zero (x ∷ xs) h = absurd (omega arith)
nullables-there (suc n) [] h = absurd (omega arith)
nullables-there (suc n) (x ∷ xs) h = ap (λ l. Some x ∷ l) (nullables-there n xs (omega arith))

-- the same of the column that they are seen as, where its marks are lent
pub values-there : {T : Type 0} (v : Validities) {n : ℕ} (marks : List Bool) (xs : List T) {ys : List T} {now : List (Option T)} → nullables marks xs ≡ now → length marks ≡ length xs → validities v ≡ marks → v ≡ shown.All n → ys ≡ xs → map Some ys ≡ now
values-there {T = T} v {n = n} marks xs w h same is e =
    let Long : List Bool → Type 0 = λ l. length l ≡ length xs in
    let all : replicate n true ≡ marks = sym (ap validities is) ∙ same in
    ap (map Some) e ∙ sym (nullables-there n xs (subst Long (sym all) h)) ∙ ap (λ l. nullables l xs) all ∙ w

-- so many copies behind a list that grows by their number
pub copies_behind : {T : Type 0} (xs : List T) (x : T) (count n : ℕ) → n ≡ length xs + count → take n xs ++ replicate (n - length xs) x ≡ xs ++ replicate count x
copies_behind xs x count n e =
    let more : n - length xs ≡ count = omega (arith, e) in
    ap (λ l. l ++ replicate (n - length xs) x) (take_all n xs (omega (arith, e))) ∙ ap (λ k. xs ++ replicate k x) more

-- for the methods of a column's validity
pub ruleset there_rules = (all_true-more, all_true-place, replicate-all_true, replicate_of-places, there-append, there, is_there, there-take, there-part, length-replicate)
