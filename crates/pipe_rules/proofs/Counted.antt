-- A node with all that it reads is no more than the nodes under the root, since each is read once.
use Rattle.std.proofs.Common.{◌≡◌, ℕ, zero, suc, ◌+◌, ◌<◌, ◌≤◌, Bool, true, false, not, ◌&&◌, ◌||◌, cond, eqb, List, [], ◌∷◌, ◌++◌, length, refl, ap, sym, ◌∙◌, arith, ◌⊎◌, inl, inr}
use Rattle.std.specs.List.{list_any, range_with_len}
use Rattle.std.proofs.lemmas.Bool.{cases_lt}
use Rattle.std.proofs.Math.Bool.{or-true}
use Rattle.pipe_plan.specs.Walk.{walk}
use Rattle.pipe_plan.specs.Node.{Node}
use Rattle.pipe_plan.specs.Plan.{Plan}
use Rattle.pipe_plan.specs.Under.{inputs_of, node_at, is_under}
use Rattle.pipe_plan.specs.Faults.{has_input, is_reader, is_read_below, repeats, IsWellFormed}
use Rattle.pipe_check.proofs.Walks.{member, different, itself, walk-at, walk-below, none-member}
use Rattle.pipe_check.proofs.WellFormed.{root_there, root_under}
use Rattle.pipe_rules.specs.Sizes.{sum_of, size_at, size_of, under_to, count_under}
use Rattle.pipe_rules.proofs.Granted.{granted, first_false, second_false}

-- ---- sums below a number

abbrev weigh : (ℕ → ℕ) → ℕ → ℕ
weigh f zero = 0
weigh f (suc k) = weigh f k + f k

weigh-less : (f g : ℕ → ℕ) (k : ℕ) → ((i : ℕ) → i < k → f i ≤ g i) → weigh f k ≤ weigh g k
weigh-less f g zero h = omega arith
weigh-less f g (suc k) h = (let below = weigh-less f g k (λ i lt. h i (omega arith)) in let here = h k (omega arith) in omega arith)

weigh-one : (f : ℕ → ℕ) (x k : ℕ) → x < k → f x ≤ weigh f k
weigh-one f x zero lt = absurd (omega arith)
weigh-one f x (suc k) lt =
    let split : (x < k) ⊎ (k ≤ x) → f x ≤ weigh f k + f k = elim [
      | inl l ↦ (let below = weigh-one f x k l in omega arith)
      | inr g ↦ (let same : k ≡ x = omega arith in let here : f k ≡ f x = ap f same in omega arith)
    ] in split (cases_lt x k)

-- all but one number
abbrev but : ℕ → (ℕ → ℕ) → ℕ → ℕ
but x f i = cond (eqb x i) 0 (f i)

but-past : (f : ℕ → ℕ) (x k : ℕ) → k ≤ x → weigh (but x f) k ≡ weigh f k
but-past f x zero le = refl
but-past f x (suc k) le = (let e = different x k (λ same. omega arith) in let here : but x f k ≡ f k = rw e refl in let below = but-past f x k (omega arith) in omega arith)

without-one : (f : ℕ → ℕ) (x k : ℕ) → x < k → weigh (but x f) k + f x ≡ weigh f k
without-one f x zero lt = absurd (omega arith)
without-one f x (suc k) lt =
    let split : (x < k) ⊎ (k ≤ x) → (weigh (but x f) k + but x f k) + f x ≡ weigh f k + f k = elim [
      | inl l ↦ (let e = different x k (λ same. omega arith) in let here : but x f k ≡ f k = rw e refl in let below = without-one f x k l in omega arith)
      | inr g ↦ (let same : x ≡ k = omega arith in let e : eqb x k ≡ true = ap (eqb x) (sym same) ∙ itself x in let here : but x f k ≡ 0 = rw e refl in let below = but-past f x k (omega arith) in let at : f x ≡ f k = ap f same in omega arith)
    ] in split (cases_lt x k)

-- all but some numbers
abbrev but_all : List ℕ → (ℕ → ℕ) → ℕ → ℕ
but_all [] f = f
but_all (x ∷ xs) f = but x (but_all xs f)

unless-member : (f : ℕ → ℕ) (xs : List ℕ) (i : ℕ) → member i xs ≡ false → but_all xs f i ≡ f i
unless-member f [] i e = refl
unless-member f (x ∷ xs) i e = (let here : eqb x i ≡ false = first_false (eqb x i) (member i xs) e in rw here (unless-member f xs i (second_false (eqb x i) (member i xs) e)))

at-member : (f : ℕ → ℕ) (xs : List ℕ) (i : ℕ) → member i xs ≡ true → but_all xs f i ≡ 0
at-member f [] i e = cc
at-member f (x ∷ xs) i e =
    let split : (b : Bool) → (b || member i xs) ≡ true → cond b 0 (but_all xs f i) ≡ 0 = elim [
      | true ↦ λ h. refl
      | false ↦ λ h. at-member f xs i h
    ] in split (eqb x i) e

without-all : (f : ℕ → ℕ) (xs : List ℕ) (k : ℕ) → repeats xs ≡ false → ((i : ℕ) → member i xs ≡ true → i < k) → weigh (but_all xs f) k + sum_of f xs ≡ weigh f k
without-all f [] k once below = omega arith
without-all f (x ∷ xs) k once below =
    let alone : member x xs ≡ false = first_false (member x xs) (repeats xs) once in
    let x_below : x < k = below x (let e = itself x in rw e refl) in
    let rest = without-all f xs k (second_false (member x xs) (repeats xs) once) (λ i m. below i (let split : (b : Bool) → (b || member i xs) ≡ true = elim [ true ↦ refl | false ↦ m ] in split (eqb x i))) in
    let one = without-one (but_all xs f) x k x_below in
    let at = unless-member f xs x alone in
    omega arith

-- ---- what is read below a number

or-none : (b : Bool) → (b || false) ≡ b
or-none true = refl
or-none false = refl

or-assoc : (a b c : Bool) → ((a || b) || c) ≡ (a || (b || c))
or-assoc true b c = refl
or-assoc false b c = refl

pub any-last : (p : ℕ → Bool) (xs : List ℕ) (x : ℕ) → list_any p (xs ++ x ∷ []) ≡ (list_any p xs || p x)
any-last p [] x = or-none (p x)
any-last p (y ∷ xs) x = ap (λ b. p y || b) (any-last p xs x) ∙ sym (or-assoc (p y) (list_any p xs) (p x))

range-last : (a n j : ℕ) → a + n ≡ j → range_with_len a (suc n) ≡ range_with_len a n ++ j ∷ []
range-last a zero j e = let is : a ≡ j = omega arith in ap (λ k. k ∷ []) is
range-last a (suc n) j e = ap (λ l. a ∷ l) (range-last (a + 1) n j (omega arith))

pub read-next : (nodes : List Node) (root k i : ℕ) → is_read_below nodes root (suc k) i ≡ (is_read_below nodes root k i || is_reader nodes root i k)
read-next nodes root k i =
    ap (list_any (is_reader nodes root i)) (range-last 0 k k (omega arith))
    ∙ any-last (is_reader nodes root i) (range_with_len 0 k) k

-- ---- nodes that nobody below a number reads

abbrev top : List Node → ℕ → ℕ → ℕ → ℕ
top nodes root k i = cond (is_under nodes root i && not (is_read_below nodes root k i)) (size_of nodes i) 0

fewer : (u r m : Bool) (t : ℕ) → cond (u && not (r || m)) t 0 ≤ cond (u && not r) t 0
fewer true true m t = omega arith
fewer true false true t = omega arith
fewer true false false t = omega arith
fewer false true m t = omega arith
fewer false false true t = omega arith
fewer false false false t = omega arith

closed : (u : Bool) (t : ℕ) → cond (u && not true) t 0 ≡ 0
closed true t = refl
closed false t = refl

at-most : (b : Bool) (t : ℕ) → cond b t 0 ≤ t
at-most true t = omega arith
at-most false t = omega arith

open_ : (u r : Bool) (t : ℕ) → u ≡ true → r ≡ false → cond (u && not r) t 0 ≡ t
open_ true false t e f = refl
open_ true true t e f = cc
open_ false r t e f = cc

top-fewer : (nodes : List Node) (root k i : ℕ) → top nodes root (suc k) i ≤ top nodes root k i
top-fewer nodes root k i =
    let next : top nodes root (suc k) i ≡ cond (is_under nodes root i && not (is_read_below nodes root k i || is_reader nodes root i k)) (size_of nodes i) 0 = ap (λ b. cond (is_under nodes root i && not b) (size_of nodes i) 0) (read-next nodes root k i) in
    let less = fewer (is_under nodes root i) (is_read_below nodes root k i) (is_reader nodes root i k) (size_of nodes i) in
    omega arith

top-read : (nodes : List Node) (root k i : ℕ) → is_under nodes root k ≡ true → member i (inputs_of (node_at nodes k)) ≡ true → top nodes root (suc k) i ≡ 0
top-read nodes root k i under m =
    let reads : is_reader nodes root i k ≡ true = ap (λ b. b && has_input nodes i k) under ∙ m in
    let read : is_read_below nodes root (suc k) i ≡ true = read-next nodes root k i ∙ ap (λ b. is_read_below nodes root k i || b) reads ∙ or-true (is_read_below nodes root k i) in
    ap (λ b. cond (is_under nodes root i && not b) (size_of nodes i) 0) read ∙ closed (is_under nodes root i) (size_of nodes i)

not-under : (nodes : List Node) (root k i : ℕ) → is_under nodes root i ≡ false → top nodes root k i ≡ 0
not-under nodes root k i e = ap (λ b. cond (b && not (is_read_below nodes root k i)) (size_of nodes i) 0) e

sum-same : (f g : ℕ → ℕ) (xs : List ℕ) → ((i : ℕ) → member i xs ≡ true → f i ≡ g i) → sum_of f xs ≡ sum_of g xs
sum-same f g [] h = refl
sum-same f g (x ∷ xs) h =
    let here : f x ≡ g x = h x (let e = itself x in rw e refl) in
    let rest = sum-same f g xs (λ i m. h i (let split : (b : Bool) → (b || member i xs) ≡ true = elim [ true ↦ refl | false ↦ m ] in split (eqb x i))) in
    omega arith

module _ (plan : Plan) (root : ℕ) (good : IsWellFormed plan root) where
  pub size-made : (k : ℕ) → is_under plan.nodes root k ≡ true → size_of plan.nodes k ≡ suc (sum_of (size_of plan.nodes) (inputs_of (node_at plan.nodes k)))
  size-made k under =
      let g = granted plan root k good under in
      walk-at 0 (size_at plan.nodes) (length plan.nodes) k g.there
      ∙ ap suc (sum-same (walk 0 (size_at plan.nodes) k) (size_of plan.nodes) (inputs_of (node_at plan.nodes k)) (λ i m. (let lt = (g.fed i m).0 in let there = g.there in walk-below 0 (size_at plan.nodes) k (length plan.nodes) i lt (omega arith))))

  -- the tops below a number weigh no more than the nodes there
  tops : (k : ℕ) → k ≤ length plan.nodes → weigh (top plan.nodes root k) k ≤ under_to plan.nodes root k
  tops zero le = omega arith
  tops (suc k) le =
      let nodes = plan.nodes in
      let before = tops k (omega arith) in
      let split : (b : Bool) → is_under nodes root k ≡ b → weigh (top nodes root (suc k)) k + top nodes root (suc k) k ≤ cond b (suc (under_to nodes root k)) (under_to nodes root k) = elim [
        | true ↦ λ under. (
            let g = granted plan root k good under in
            let inputs = inputs_of (node_at nodes k) in
            let below : (i : ℕ) → member i inputs ≡ true → i < k = λ i m. (g.fed i m).0 in
            let without = without-all (top nodes root k) inputs k g.once below in
            let less = weigh-less (top nodes root (suc k)) (but_all inputs (top nodes root k)) k (λ i lt. (
            let cases : (b : Bool) → member i inputs ≡ b → top nodes root (suc k) i ≤ but_all inputs (top nodes root k) i = elim [
              | true ↦ λ m. (let none = top-read nodes root k i under m in omega arith)
              | false ↦ λ m. (let same = unless-member (top nodes root k) inputs i m in let fewer = top-fewer nodes root k i in omega arith)
            ] in cases (member i inputs) refl)) in
            let whole = sum-same (top nodes root k) (size_of nodes) inputs (λ i m. open_ (is_under nodes root i) (is_read_below nodes root k i) (size_of nodes i) (g.fed i m).1 (none-member (is_read_below nodes root k) inputs i g.unread m)) in
            let made = size-made k under in
            let most : top nodes root (suc k) k ≤ size_of nodes k = at-most (is_under nodes root k && not (is_read_below nodes root (suc k) k)) (size_of nodes k) in
            omega arith)
        | false ↦ λ under. (
            let none = not-under nodes root (suc k) k under in
            let less = weigh-less (top nodes root (suc k)) (top nodes root k) k (λ i lt. top-fewer nodes root k i) in
            omega arith)
      ] in split (is_under nodes root k) refl

  -- nobody up to the root reads it
  unread : (n : ℕ) → n ≤ suc root → is_read_below plan.nodes root n root ≡ false
  unread zero le = refl
  unread (suc n) le =
      let nodes = plan.nodes in
      let here : is_reader nodes root root n ≡ false =
      (let split : (u h : Bool) → is_under nodes root n ≡ u → has_input nodes root n ≡ h → (u && h) ≡ false = elim [
        | true ↦ elim [
          | true ↦ λ under m. absurd (let lt = ((granted plan root n good under).fed root m).0 in omega arith)
          | false ↦ λ under m. refl
        ]
        | false ↦ λ h under m. refl
      ] in split (is_under nodes root n) (has_input nodes root n) refl refl) in
      read-next nodes root n root ∙ ap (λ b. b || is_reader nodes root root n) (unread n (omega arith)) ∙ here

  under-more : (a b : ℕ) → a ≤ b → under_to plan.nodes root a ≤ under_to plan.nodes root b
  under-more a zero le = (let z : a ≡ 0 = omega arith in let is : under_to plan.nodes root a ≡ under_to plan.nodes root 0 = ap (under_to plan.nodes root) z in omega arith)
  under-more a (suc b) le =
      let to = under_to plan.nodes root in
      let split : (b < a) ⊎ (a ≤ b) → to a ≤ to (suc b) = elim [
        | inl l ↦ (let z : a ≡ suc b = omega arith in let is : to a ≡ to (suc b) = ap to z in omega arith)
        | inr g ↦ (
            let before = under-more a b g in
            let next : (c : Bool) → to a ≤ cond c (suc (to b)) (to b) = elim [ true ↦ omega arith | false ↦ before ] in
            next (is_under plan.nodes root b))
      ] in split (cases_lt b a)

  pub no-more : size_of plan.nodes root ≤ count_under plan.nodes root
  no-more =
      let nodes = plan.nodes in
      let there = root_there plan root good.faultless in
      let all = tops (suc root) (omega arith) in
      let one = weigh-one (top nodes root (suc root)) root (suc root) (omega arith) in
      let whole = open_ (is_under nodes root root) (is_read_below nodes root (suc root) root) (size_of nodes root) (root_under plan root good) (unread (suc root) (omega arith)) in
      let more = under-more (suc root) (length nodes) (omega arith) in
      omega arith
