-- Positions of a list: each taken at most once, and all of them.
use Rattle.std.proofs.Common.{◌≡◌, ℕ, zero, suc, ◌+◌, ◌<◌, ◌≤◌, Bool, true, false, cond, eqb, get_or, length, List, [], ◌∷◌, ◌++◌, refl, ap, sym, ◌∙◌, subst, arith}
use Rattle.std.specs.List.{range_with_len}
use Rattle.std.proofs.lemmas.Bool.Decides.{Decides-eqb}
use Rattle.std.proofs.lemmas.List.FromFn.{fill_by_all}
use Rattle.pipe_schema.specs.Rows.{Row}
use Rattle.pipe_schema.specs.Weights.{total}
use Rattle.pipe_schema.proofs.Weights.{SameBag, WithinBag, total-map}
use Rattle.pipe_expr.proofs.PairSums.{total-swap}
use Rattle.pipe_events.specs.Worlds.{picked, put, count}
use Rattle.pipe_events.proofs.WalkLemmas.{Decides-no}

-- of a range, the one number
pick_none : (F : ℕ → ℕ) (n a m : ℕ) → n < a → total (λ k. cond (eqb n k) (F k) 0) (range_with_len a m) ≡ 0
pick_none F n a zero h = refl
pick_none F n a (suc m) h =
    let no = Decides-no n a (λ same. omega arith) in
    let rest = pick_none F n (a + 1) m (omega arith) in rw no (omega arith)

pick : (F : ℕ → ℕ) (n a m : ℕ) → a ≤ n → n < a + m → total (λ k. cond (eqb n k) (F k) 0) (range_with_len a m) ≡ F n
pick F n a zero low high = absurd (omega arith)
pick F n a (suc m) low high =
    let split : (b : Bool) → eqb n a ≡ b → cond b (F a) 0 + total (λ k. cond (eqb n k) (F k) 0) (range_with_len (a + 1) m) ≡ F n =
    elim [
      | true ↦ λ e. let same : n ≡ a = (Decides-eqb n a).0 e in let none = pick_none F n (a + 1) m (omega arith) in ap (λ z. F a + z) none ∙ omega arith ∙ ap F (sym same)
      | false ↦ λ e. let apart : n ≡ a → ⊥ = λ same. (let yes = (Decides-eqb n a).1 same in cc) in let rest = pick F n (a + 1) m (omega arith) (omega arith) in omega arith
    ]
    in split (eqb n a) refl

total-range : (f g : ℕ → ℕ) (a m : ℕ) → ((i : ℕ) → i < a + m → f i ≡ g i) → total f (range_with_len a m) ≡ total g (range_with_len a m)
total-range f g a zero h = refl
total-range f g a (suc m) h = omega (arith, h a (omega arith), total-range f g (a + 1) m (λ i lt. h i (omega arith)))

below-range : (f g : ℕ → ℕ) (a m : ℕ) → ((i : ℕ) → f i ≤ g i) → total f (range_with_len a m) ≤ total g (range_with_len a m)
below-range f g a zero h = omega arith
below-range f g a (suc m) h = omega (arith, h a, below-range f g (a + 1) m h)

-- all places are below a bound
abbrev pub AllBelow : List ℕ → ℕ → Type 0
AllBelow [] n = Unit {0}
AllBelow (p ∷ ps) n = (p < n) × AllBelow ps n

pub AllBelow-append : (ps qs : List ℕ) (n : ℕ) → AllBelow ps n → AllBelow qs n → AllBelow (ps ++ qs) n
AllBelow-append [] qs n h k = k
AllBelow-append (p ∷ ps) qs n h k = (h.0, AllBelow-append ps qs n h.1 k)

pub AllBelow-range : (a m n : ℕ) → a + m ≤ n → AllBelow (range_with_len a m) n
AllBelow-range a zero n h = tt
AllBelow-range a (suc m) n h = (omega arith, AllBelow-range (a + 1) m n (omega arith))

count-range_none : (p a m : ℕ) → p < a → count p (range_with_len a m) ≡ 0
count-range_none p a zero h = refl
count-range_none p a (suc m) h = let no = Decides-no a p (λ same. omega arith) in let rest = count-range_none p (a + 1) m (omega arith) in rw no (omega arith)

-- a range has each of its numbers once, and no other
pub count-range : (p a m : ℕ) → count p (range_with_len a m) ≤ 1
count-range p a zero = omega arith
count-range p a (suc m) =
    let split : (b : Bool) → eqb a p ≡ b → cond b 1 0 + count p (range_with_len (a + 1) m) ≤ 1 =
    elim [ true ↦ λ e. (let same = (Decides-eqb a p).0 e in omega (arith, count-range_none p (a + 1) m (omega arith))) | false ↦ λ _. omega (arith, count-range p (a + 1) m) ]
    in split (eqb a p) refl

pub count-range_out : (p a m : ℕ) → ((a ≤ p) → p < a + m → ⊥) → count p (range_with_len a m) ≡ 0
count-range_out p a zero h = refl
count-range_out p a (suc m) h =
    let no = Decides-no a p (λ same. h (omega arith) (omega arith)) in
    let rest = count-range_out p (a + 1) m (λ lo hi. h (omega arith) (omega arith)) in rw no (omega arith)

at_one : (c i : ℕ) (ps : List ℕ) → count i ps ≡ 0 → total (λ p. cond (eqb p i) c 0) ps ≡ 0
at_one c i [] h = refl
at_one c i (p ∷ ps) h =
    elim (eqb p i) as (λ b. cond b 1 0 + count i ps ≡ 0 → cond b c 0 + total (λ q. cond (eqb q i) c 0) ps ≡ 0)
    [ true ↦ λ e. absurd (omega arith) | false ↦ λ e. omega (arith, at_one c i ps (omega arith)) ] h

at_most : (c i : ℕ) (ps : List ℕ) → count i ps ≤ 1 → total (λ p. cond (eqb p i) c 0) ps ≤ c
at_most c i [] h = omega arith
at_most c i (p ∷ ps) h =
    elim (eqb p i) as (λ b. cond b 1 0 + count i ps ≤ 1 → cond b c 0 + total (λ q. cond (eqb q i) c 0) ps ≤ c)
    [ true ↦ λ e. omega (arith, at_one c i ps (omega arith)) | false ↦ λ e. omega (arith, at_most c i ps (omega arith)) ] h

at_least : (c i : ℕ) (ps : List ℕ) → 1 ≤ count i ps → c ≤ total (λ p. cond (eqb p i) c 0) ps
at_least c i [] h = absurd (omega arith)
at_least c i (p ∷ ps) h =
    elim (eqb p i) as (λ b. 1 ≤ cond b 1 0 + count i ps → c ≤ cond b c 0 + total (λ q. cond (eqb q i) c 0) ps)
    [ true ↦ λ e. omega arith | false ↦ λ e. omega (arith, at_least c i ps (omega arith)) ] h

by_places : (f : Row → ℕ) (rows : List Row) (ps : List ℕ) → AllBelow ps (length rows) → total f (picked rows ps) ≡ total (λ p. total (λ i. cond (eqb p i) (f (get_or rows i [])) 0) (range_with_len 0 (length rows))) ps
by_places f rows [] h = refl
by_places f rows (p ∷ ps) h = omega (arith, pick (λ i. f (get_or rows i [])) p 0 (length rows) (omega arith) (let lt = h.0 in omega arith), by_places f rows ps h.1)

in_order : (f : Row → ℕ) (rows : List Row) → total (λ i. f (get_or rows i [])) (range_with_len 0 (length rows)) ≡ total f rows
in_order f rows = sym (ap (total f) (fill_by_all (λ i. get_or rows i []) rows (length rows) [] refl (λ k lt. refl)) ∙ total-map (λ i. get_or rows i []) f (range_with_len 0 (length rows)))

module _ (rows : List Row) (ps : List ℕ) (inside : AllBelow ps (length rows)) (once : (p : ℕ) → count p ps ≤ 1) where
  pub picked_within : WithinBag (picked rows ps) rows
  picked_within = record {
    sums = λ f. omega (
      arith,
      by_places f rows ps inside,
      total-swap (λ p i. cond (eqb p i) (f (get_or rows i [])) 0) ps (range_with_len 0 (length rows)),
      in_order f rows,
      below-range (λ i. total (λ p. cond (eqb p i) (f (get_or rows i [])) 0) ps) (λ i. f (get_or rows i [])) 0 (length rows) (λ i. at_most (f (get_or rows i [])) i ps (once i)),
    );
  }

  pub picked_all : ((p : ℕ) → p < length rows → 1 ≤ count p ps) → SameBag (picked rows ps) rows
  picked_all every = record {
    sums = λ f. by_places f rows ps inside ∙ total-swap (λ p i. cond (eqb p i) (f (get_or rows i [])) 0) ps (range_with_len 0 (length rows))
        ∙ total-range _ (λ i. f (get_or rows i [])) 0 (length rows) (λ i lt. omega (arith, at_most (f (get_or rows i [])) i ps (once i), at_least (f (get_or rows i [])) i ps (every i (omega arith))))
        ∙ in_order f rows;
  }

-- ---- functions with one value changed

pub put-here : {X : Type 0} (f : ℕ → X) (k : ℕ) (v : X) → put f k v k ≡ v
put-here f k v = let e : eqb k k ≡ true = (Decides-eqb k k).1 refl in rw e refl

pub put_cases : {X : Type 0} (P : ℕ → X → Type 0) (f : ℕ → X) (k : ℕ) (v : X) → P k v → ((n : ℕ) → eqb n k ≡ false → P n (f n)) → (n : ℕ) → P n (put f k v n)
put_cases P f k v here there n =
    let split : (b : Bool) → eqb n k ≡ b → P n (cond b v (f n)) =
    elim [ true ↦ λ e. subst (λ m. P m v) (sym ((Decides-eqb n k).0 e)) here | false ↦ λ e. there n e ]
    in split (eqb n k) refl
