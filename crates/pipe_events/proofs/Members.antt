-- Members of lists of numbers, and how often they stand there.
use Rattle.std.proofs.Common.{◌≡◌, ℕ, ◌+◌, ◌≤◌, Bool, true, false, cond, eqb, ◌||◌, List, [], ◌∷◌, ◌++◌, refl, sym, ◌∙◌, subst, arith, ◌⊎◌, inl, inr}
use Rattle.std.proofs.lemmas.Bool.Decides.{Decides-eqb}
use Rattle.std.specs.List.{flat_map, list_any}
use Rattle.pipe_schema.proofs.Weights.{total-append}
use Rattle.pipe_events.specs.Worlds.{count}
use Rattle.pipe_events.proofs.Tests.{any-append, any-none, any-some}

pub either : {A B C : Type 0} → (A → C) → (B → C) → A ⊎ B → C
either f g (inl a) = f a
either f g (inr b) = g b

pub decide : (b : Bool) → (b ≡ true) ⊎ (b ≡ false)
decide true = inl refl
decide false = inr refl

pub or_cases : (a b : Bool) → (a || b) ≡ true → (a ≡ true) ⊎ (b ≡ true)
or_cases true b e = inl refl
or_cases false b e = inr e

pub or_left : (a b : Bool) → a ≡ true → (a || b) ≡ true
or_left true b e = refl
or_left false b e = cc

pub or_right : (a b : Bool) → b ≡ true → (a || b) ≡ true
or_right true b e = refl
or_right false b e = e

pub same_number : (n : ℕ) → eqb n n ≡ true
same_number n = (Decides-eqb n n).1 refl

-- ---- members

abbrev pub mem : ℕ → List ℕ → Bool
mem n ns = list_any (λ m. eqb m n) ns

-- one of a list that passes
pub record Passing (f : ℕ → Bool) (ns : List ℕ) : Type 0 where
  pub at : ℕ
  pub member : mem at ns ≡ true
  pub passes : f at ≡ true

pub head : (n : ℕ) (ns : List ℕ) → mem n (n ∷ ns) ≡ true
head n ns = or_left (eqb n n) (mem n ns) (same_number n)

pub behind : (n m : ℕ) (ns : List ℕ) → mem n ns ≡ true → mem n (m ∷ ns) ≡ true
behind n m ns e = or_right (eqb m n) (mem n ns) e

pub only_one : (n m : ℕ) → mem n (m ∷ []) ≡ true → m ≡ n
only_one n m e = either (λ same. (Decides-eqb m n).0 same) (λ none. cc) (or_cases (eqb m n) false e)

pub passing : (f : ℕ → Bool) (ns : List ℕ) → list_any f ns ≡ true → Passing f ns
passing f [] e = cc
passing f (n ∷ ns) e =
    either
    (λ here. record { at = n; member = head n ns; passes = here })
    (λ there. let h = passing f ns there in record { at = h.at; member = behind h.at n ns h.member; passes = h.passes })
    (or_cases (f n) (list_any f ns) e)

pub any_at : (f : ℕ → Bool) (i : ℕ) (ns : List ℕ) → mem i ns ≡ true → f i ≡ true → list_any f ns ≡ true
any_at f i [] e h = cc
any_at f i (n ∷ ns) e h =
    either
    (λ same. or_left (f n) (list_any f ns) (subst (λ k. f k ≡ true) (sym ((Decides-eqb n i).0 same)) h))
    (λ rest. or_right (f n) (list_any f ns) (any_at f i ns rest h))
    (or_cases (eqb n i) (mem i ns) e)

pub in_first : (n : ℕ) (a b : List ℕ) → mem n a ≡ true → mem n (a ++ b) ≡ true
in_first n a b e = any-append (λ m. eqb m n) a b ∙ or_left (mem n a) (mem n b) e

pub in_second : (n : ℕ) (a b : List ℕ) → mem n b ≡ true → mem n (a ++ b) ≡ true
in_second n a b e = any-append (λ m. eqb m n) a b ∙ or_right (mem n a) (mem n b) e

pub in_which : (n : ℕ) (a b : List ℕ) → mem n (a ++ b) ≡ true → (mem n a ≡ true) ⊎ (mem n b ≡ true)
in_which n a b e = or_cases (mem n a) (mem n b) (sym (any-append (λ m. eqb m n) a b) ∙ e)

pub in_all : (f : ℕ → List ℕ) (n i : ℕ) (is : List ℕ) → mem i is ≡ true → mem n (f i) ≡ true → mem n (flat_map f is) ≡ true
in_all f n i [] e h = cc
in_all f n i (k ∷ is) e h =
    either
    (λ same. in_first n (f k) (flat_map f is) (subst (λ m. mem n (f m) ≡ true) (sym ((Decides-eqb k i).0 same)) h))
    (λ rest. in_second n (f k) (flat_map f is) (in_all f n i is rest h))
    (or_cases (eqb k i) (mem i is) e)

pub of_which : (f : ℕ → List ℕ) (n : ℕ) (is : List ℕ) → mem n (flat_map f is) ≡ true → Passing (λ i. mem n (f i)) is
of_which f n [] e = cc
of_which f n (k ∷ is) e =
    either
    (λ here. record { at = k; member = head k is; passes = here })
    (λ there. let h = of_which f n is there in record { at = h.at; member = behind h.at k is h.member; passes = h.passes })
    (in_which n (f k) (flat_map f is) e)

-- functions that agree on the members
pub any_alike : (a b : ℕ → Bool) (is : List ℕ) → ((i : ℕ) → mem i is ≡ true → a i ≡ b i) → list_any a is ≡ list_any b is
any_alike a b [] h = refl
any_alike a b (i ∷ is) h =
    let here = h i (head i is) in
    let rest = any_alike a b is (λ k e. h k (behind k i is e)) in
    rw (here, rest) refl

pub all_alike : {X : Type 0} (a b : ℕ → List X) (is : List ℕ) → ((i : ℕ) → mem i is ≡ true → a i ≡ b i) → flat_map a is ≡ flat_map b is
all_alike a b [] h = refl
all_alike a b (i ∷ is) h =
    let here = h i (head i is) in
    let rest = all_alike a b is (λ k e. h k (behind k i is e)) in
    rw (here, rest) refl

-- ---- how often

pub count_append : (n : ℕ) (a b : List ℕ) → count n (a ++ b) ≡ count n a + count n b
count_append n a b = total-append (λ q. cond (eqb q n) 1 0) a b

pub stands_there : (n : ℕ) (ns : List ℕ) → mem n ns ≡ true → 1 ≤ count n ns
stands_there n ns e = any-some (λ m. eqb m n) ns e

pub stands_not : (n : ℕ) (ns : List ℕ) → mem n ns ≡ false → count n ns ≡ 0
stands_not n ns e = any-none (λ m. eqb m n) ns e

pub count_head : (n : ℕ) (ns : List ℕ) → count n (n ∷ ns) ≡ 1 + count n ns
count_head n ns = let self = same_number n in rw self refl

-- each stands once among what the members of a list give, where no two give the same
pub once_in_all : (f : ℕ → List ℕ) (n : ℕ) (is : List ℕ) → ((i : ℕ) → mem i is ≡ true → count n (f i) ≤ 1) → ((i k : ℕ) → mem i is ≡ true → mem k is ≡ true → mem n (f i) ≡ true → mem n (f k) ≡ true → i ≡ k) → ((i : ℕ) → count i is ≤ 1) → count n (flat_map f is) ≤ 1
once_in_all f n [] each apart once = omega arith
once_in_all f n (i ∷ is) each apart once =
    let split = count_append n (f i) (flat_map f is) in
    let once_i = once i in
    let counted = count_head i is in
    let fewer : (k : ℕ) → count k is ≤ 1 = λ k. (let all = once k in let le : count k is ≤ count k (i ∷ is) = omega arith in omega (arith, all, le)) in
    either
    (λ here.
    let none : mem n (flat_map f is) ≡ false =
    either
    (λ there.
    let h = of_which f n is there in
    let same : i ≡ h.at = apart i h.at (head i is) (behind h.at i is h.member) here h.passes in
    let again : 1 ≤ count i is = stands_there i is (subst (λ k. mem k is ≡ true) (sym same) h.member) in
    absurd (omega (arith, once_i, counted, again)))
    (λ e. e)
    (decide (mem n (flat_map f is))) in
    let zero = stands_not n (flat_map f is) none in
    let one = each i (head i is) in
    omega (arith, split, zero, one))
    (λ not_here.
    let zero = stands_not n (f i) not_here in
    let rest = once_in_all f n is (λ k e. each k (behind k i is e)) (λ k m e d. apart k m (behind k i is e) (behind m i is d)) fewer in
    omega (arith, split, zero, rest))
    (decide (mem n (f i)))
