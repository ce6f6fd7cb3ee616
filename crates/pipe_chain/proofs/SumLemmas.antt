-- Sums over lists that change at one place, and the winners of flags.
use Rattle.std.proofs.Common.{◌≡◌, ℕ, zero, suc, ◌+◌, ◌*◌, ◌<◌, ◌≤◌, ◌≢◌, List, [], ◌∷◌, ◌++◌, length, get_or, set, drop, map, add-one, replicate, sym, refl, ap, ◌∙◌, arith, cond, eqb, eq-eqb, ne_eqb, true, not}
use Rattle.std.proofs.lemmas.Bool.{false≢true}
use Rattle.std.specs.List.{range_with_len}
use mathlib.Core.Option.{some, some-injective, some-ne-none}
use lib.ListN.{get_elem?}
use Rattle.pipe_chain.specs.Sums.{total, one_at}
use Rattle.pipe_chain.specs.Flags.{flag_of, winner, winners_from, is_marked}

module _ {A : Type 0} (g : A → ℕ) where
  pub total-append : (l m : List A) → total g (l ++ m) ≡ total g l + total g m
  total-append [] m = omega arith
  total-append (x ∷ xs) m = omega (arith, total-append xs m)

  -- one item is replaced
  pub total-set : (l : List A) (j : ℕ) (v w : A) → get_elem? l j ≡ some v → total g (set l j w) + g v ≡ total g l + g w
  total-set [] j v w e = absurd (some-ne-none v (sym e))
  total-set (x ∷ xs) zero v w e = omega (arith, ap g (some-injective x v e))
  total-set (x ∷ xs) (suc j) v w e = omega (arith, total-set xs j v w e)

  pub one_within : (l : List A) (j : ℕ) (v : A) → get_elem? l j ≡ some v → g v ≤ total g l
  one_within [] j v e = absurd (some-ne-none v (sym e))
  one_within (x ∷ xs) zero v e = omega (arith, ap g (some-injective x v e))
  one_within (x ∷ xs) (suc j) v e = omega (arith, one_within xs j v e)

  pub two_within : (l : List A) (j k : ℕ) (v u : A) → k ≢ j → get_elem? l j ≡ some v → get_elem? l k ≡ some u → g v + g u ≤ total g l
  two_within [] j k v u n e d = absurd (some-ne-none v (sym e))
  two_within (x ∷ xs) zero zero v u n e d = absurd (n refl)
  two_within (x ∷ xs) zero (suc k) v u n e d = omega (arith, ap g (some-injective x v e), one_within xs k u d)
  two_within (x ∷ xs) (suc j) zero v u n e d = omega (arith, ap g (some-injective x u d), one_within xs j v e)
  two_within (x ∷ xs) (suc j) (suc k) v u n e d = omega (arith, two_within xs j k v u (λ h. n (ap suc h)) e d)

  none_weigh : (l : List A) → ((k : ℕ) (u : A) → get_elem? l k ≡ some u → g u ≡ 0) → total g l ≡ 0
  none_weigh [] all = refl
  none_weigh (x ∷ xs) all = omega (arith, all 0 x refl, none_weigh xs (λ k u d. all (suc k) u d))

  -- where all others weigh nothing, the total is that of the one
  pub total-alone : (l : List A) (j : ℕ) (v : A) → get_elem? l j ≡ some v → ((k : ℕ) (u : A) → k ≢ j → get_elem? l k ≡ some u → g u ≡ 0) → total g l ≡ g v
  total-alone [] j v e none = absurd (some-ne-none v (sym e))
  total-alone (x ∷ xs) zero v e none = omega (arith, ap g (some-injective x v e), none_weigh xs (λ k u d. none (suc k) u (λ h. omega arith) d))
  total-alone (x ∷ xs) (suc j) v e none = omega (arith, none 0 x (λ h. omega arith) refl, total-alone xs j v e (λ k u n d. none (suc k) u (λ h. n (omega arith)) d))

-- item by item at most n times as much
pub total_within : {A : Type 0} (f g : A → ℕ) (n : ℕ) (l : List A) → ((j : ℕ) (v : A) → get_elem? l j ≡ some v → f v ≤ n * g v) → total f l ≤ n * total g l
total_within f g n [] h = omega arith
total_within f g n (x ∷ xs) h = omega (arith, h 0 x refl, total_within f g n xs (λ j v e. h (suc j) v e))

pub one_at-same : (k : ℕ) → one_at k k ≡ 1
one_at-same k = ap (λ b. cond b 1 0) (eq-eqb k k refl)

pub one_at-other : (k x : ℕ) → x ≢ k → one_at k x ≡ 0
one_at-other k x n = ap (λ b. cond b 1 0) (ne_eqb x k n)

-- one flag is replaced
pub winners-set : (h : ℕ × ℕ → ℕ) (ws : List ℕ) (k i n : ℕ) → i < length ws
    → total h (winners_from k (map flag_of (set ws i n))) + total h (winner (i + k) (flag_of (get_or ws i 0))) ≡ total h (winners_from k (map flag_of ws)) + total h (winner (i + k) (flag_of n))
winners-set h [] k i n lt = absurd (omega arith)
winners-set h (x ∷ xs) k zero n lt =
    let rest = winners_from (suc k) (map flag_of xs) in
    let e : 0 + k ≡ k = omega arith in
    rw e (omega (arith, total-append h (winner k (flag_of n)) rest, total-append h (winner k (flag_of x)) rest))
winners-set h (x ∷ xs) k (suc i) n lt =
    let e : suc i + k ≡ i + suc k = omega arith in
    rw e (omega (
      arith,
      total-append h (winner k (flag_of x)) (winners_from (suc k) (map flag_of (set xs i n))),
      total-append h (winner k (flag_of x)) (winners_from (suc k) (map flag_of xs)),
      winners-set h xs (suc k) i n (omega arith),
    ))

-- the word of a key lies behind word 0
pub word_of : (ws : List ℕ) (k n : ℕ) → get_elem? ws (k + 1) ≡ some n → get_or (drop 1 ws) k 0 ≡ n
word_of ws k n e = at_rest ws k n (ap (λ i. get_elem? ws i) (sym (add-one k)) ∙ e)
  where
    at : (ws : List ℕ) (k n : ℕ) → get_elem? ws k ≡ some n → get_or ws k 0 ≡ n
    at [] k n e = absurd (some-ne-none n (sym e))
    at (x ∷ xs) zero n e = some-injective x n e
    at (x ∷ xs) (suc k) n e = at xs k n e

    at_rest : (ws : List ℕ) (k n : ℕ) → get_elem? ws (suc k) ≡ some n → get_or (drop 1 ws) k 0 ≡ n
    at_rest [] k n e = absurd (some-ne-none n (sym e))
    at_rest (x ∷ xs) k n e = at xs k n e

pub no_winners : (n k : ℕ) → winners_from k (map flag_of (replicate n 0)) ≡ []
no_winners zero k = refl
no_winners (suc n) k = no_winners n (suc k)

-- a flag stands where its word isn't 0
pub is_marked-set : (ws : List ℕ) (k : ℕ) → get_or ws k 0 ≢ 0 → is_marked (map flag_of ws) k ≡ true
is_marked-set [] k n = absurd (n refl)
is_marked-set (zero ∷ ws) zero n = absurd (n refl)
is_marked-set (suc w ∷ ws) zero n = refl
is_marked-set (w ∷ ws) (suc k) n = is_marked-set ws k n

-- is_set's answer
pub is_marked-word : (ws : List ℕ) (k n : ℕ) → get_elem? ws (k + 1) ≡ some n → not (eqb n 0) ≡ is_marked (map flag_of (drop 1 ws)) k
is_marked-word ws k n e = ap (λ i. not (eqb i 0)) (sym (word_of ws k n e)) ∙ answer (drop 1 ws) k
  where
    answer : (ws : List ℕ) (k : ℕ) → not (eqb (get_or ws k 0) 0) ≡ is_marked (map flag_of ws) k
    answer [] k = refl
    answer (zero ∷ ws) zero = refl
    answer (suc w ∷ ws) zero = ap not (ne_eqb (suc w) 0 (λ e. omega arith))
    answer (w ∷ ws) (suc k) = answer ws k

pub is_marked-unset : (ws : List ℕ) (k : ℕ) → get_or ws k 0 ≡ 0 → is_marked (map flag_of ws) k ≢ true
is_marked-unset [] k z = false≢true
is_marked-unset (zero ∷ ws) zero z = false≢true
is_marked-unset (suc w ∷ ws) zero z = absurd (omega arith)
is_marked-unset (w ∷ ws) (suc k) z = is_marked-unset ws k z

pub none_left : {A : Type 0} (l : List A) → length l ≤ 0 → l ≡ []
none_left [] h = refl
none_left (x ∷ xs) h = absurd (omega arith)

pub range_more : (a n j : ℕ) → j ≡ a + n → range_with_len a (suc n) ≡ range_with_len a n ++ j ∷ []
range_more a zero j e = ap (λ i. i ∷ []) (sym (omega arith))
range_more a (suc n) j e = ap (λ l. a ∷ l) (range_more (a + 1) n j (omega arith))
