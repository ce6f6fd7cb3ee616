-- Same rows by weights: two lists hold the same elements where each weight sums to the same over both.
use Rattle.std.proofs.Common.{◌≡◌, ℕ, ◌+◌, ◌<◌, ◌≤◌, Bool, true, false, cond, List, [], ◌∷◌, ◌++◌, map, refl, ap, sym, ◌∙◌, arith}
use Rattle.std.specs.Prelude.{sum_by, filter}
use Rattle.std.specs.Bool.{Decides}
use Rattle.std.specs.Str.{bytes_eq}
use Rattle.std.specs.List.{flat_map}
use Rattle.std.specs.List.Sorted.{IsPermutation}
use Rattle.std.specs.Cmp.Lexicographic.{bytes_decides}
use Rattle.std.proofs.lemmas.List.Sums.{sum_by-cons}
use Rattle.std.proofs.lemmas.List.Sorted.{sum_by-IsPermutation}
use Rattle.std.proofs.lemmas.Slice.Eq.{slice_eq-Decides}
use Rattle.pipe_schema.specs.Weights.{total}
use Rattle.pipe_schema.specs.Rows.{Row, eq_row, times, Same, Within, SameLines}
use Rattle.pipe_schema.proofs.Cells.{eq_cell-sound, eq_cell-refl}

-- each weight sums to the same over the one list as over the other
pub record SameBag {X : Type 0} (a b : List X) : Type 0 where
  pub sums : (f : X → ℕ) → total f a ≡ total f b

-- no weight sums to more over the one list than over the other
pub record WithinBag {X : Type 0} (a b : List X) : Type 0 where
  pub sums : (f : X → ℕ) → total f a ≤ total f b

-- ---- sums

pub total-append : {X : Type 0} (f : X → ℕ) (a b : List X) → total f (a ++ b) ≡ total f a + total f b
total-append f [] b = omega arith
total-append f (x ∷ a) b = omega (arith, total-append f a b)

pub total-map : {X Y : Type 0} (f : X → Y) (g : Y → ℕ) (xs : List X) → total g (map f xs) ≡ total (λ x. g (f x)) xs
total-map f g [] = refl
total-map f g (x ∷ xs) = ap (λ n. g (f x) + n) (total-map f g xs)

pub total-filter : {X : Type 0} (p : X → Bool) (g : X → ℕ) (xs : List X) → total g (filter p xs) ≡ total (λ x. cond (p x) (g x) 0) xs
total-filter p g [] = refl
total-filter p g (x ∷ xs) =
    elim (p x) as (λ b. total g (cond b (x ∷ filter p xs) (filter p xs)) ≡ cond b (g x) 0 + total (λ y. cond (p y) (g y) 0) xs)
    [ true ↦ omega (arith, total-filter p g xs) | false ↦ omega (arith, total-filter p g xs) ]

pub total-flat_map : {X Y : Type 0} (f : X → List Y) (g : Y → ℕ) (xs : List X) → total g (flat_map f xs) ≡ total (λ x. total g (f x)) xs
total-flat_map f g [] = refl
total-flat_map f g (x ∷ xs) = omega (arith, total-append g (f x) (flat_map f xs), total-flat_map f g xs)

-- two weights that agree at each element
pub total-same : {X : Type 0} (f g : X → ℕ) (xs : List X) → ((x : X) → f x ≡ g x) → total f xs ≡ total g xs
total-same f g [] h = refl
total-same f g (x ∷ xs) h = omega (arith, h x, total-same f g xs h)

-- the sum of two weights
pub total-plus : {X : Type 0} (f g : X → ℕ) (xs : List X) → total (λ x. f x + g x) xs ≡ total f xs + total g xs
total-plus f g [] = refl
total-plus f g (x ∷ xs) = omega (arith, total-plus f g xs)

pub total-sum_by : {X : Type 0} (f : X → ℕ) (xs : List X) → total f xs ≡ sum_by f xs
total-sum_by f [] = refl
total-sum_by f (x ∷ xs) = ap (λ n. f x + n) (total-sum_by f xs) ∙ sym (sum_by-cons f x xs)

-- ---- the laws of lists with the same elements

pub SameBag-refl : {X : Type 0} (a : List X) → SameBag a a
SameBag-refl a = record { sums = λ f. refl }

pub SameBag-from_equal : {X : Type 0} {a b : List X} → a ≡ b → SameBag a b
SameBag-from_equal e = record { sums = λ f. ap (total f) e }

pub SameBag-sym : {X : Type 0} {a b : List X} → SameBag a b → SameBag b a
SameBag-sym h = record { sums = λ f. sym (h.sums f) }

pub SameBag-trans : {X : Type 0} {a b c : List X} → SameBag a b → SameBag b c → SameBag a c
SameBag-trans h k = record { sums = λ f. h.sums f ∙ k.sums f }

pub SameBag-append : {X : Type 0} {a b c d : List X} → SameBag a b → SameBag c d → SameBag (a ++ c) (b ++ d)
SameBag-append h k = record { sums = λ f. simp (total-append, h.sums f, k.sums f) }

pub SameBag-append_comm : {X : Type 0} (a b : List X) → SameBag (a ++ b) (b ++ a)
SameBag-append_comm a b = record { sums = λ f. simp total-append (omega arith) }

pub SameBag-map : {X Y : Type 0} (f : X → Y) {a b : List X} → SameBag a b → SameBag (map f a) (map f b)
SameBag-map f {a = a} {b = b} h = record { sums = λ g. total-map f g a ∙ h.sums (λ x. g (f x)) ∙ sym (total-map f g b) }

pub SameBag-filter : {X : Type 0} (p : X → Bool) {a b : List X} → SameBag a b → SameBag (filter p a) (filter p b)
SameBag-filter p {a = a} {b = b} h = record { sums = λ g. total-filter p g a ∙ h.sums (λ x. cond (p x) (g x) 0) ∙ sym (total-filter p g b) }

pub SameBag-flat_map : {X Y : Type 0} (f : X → List Y) {a b : List X} → SameBag a b → SameBag (flat_map f a) (flat_map f b)
SameBag-flat_map f {a = a} {b = b} h = record { sums = λ g. total-flat_map f g a ∙ h.sums (λ x. total g (f x)) ∙ sym (total-flat_map f g b) }

-- the same elements in each piece
pub SameBag-pieces : {X Y : Type 0} (f g : X → List Y) (xs : List X) → ((x : X) → SameBag (f x) (g x)) → SameBag (flat_map f xs) (flat_map g xs)
SameBag-pieces f g xs h = record { sums = λ w. total-flat_map f w xs ∙ total-same _ _ xs (λ x. (h x).sums w) ∙ sym (total-flat_map g w xs) }

-- pieces in two parts, and the parts apart
pub SameBag-pieces_apart : {X Y : Type 0} (f g : X → List Y) (xs : List X) → SameBag (flat_map (λ x. f x ++ g x) xs) (flat_map f xs ++ flat_map g xs)
SameBag-pieces_apart f g xs = record {
  sums = λ w. total-flat_map (λ x. f x ++ g x) w xs ∙ total-same _ _ xs (λ x. total-append w (f x) (g x)) ∙ total-plus _ _ xs
      ∙ sym (total-append w (flat_map f xs) (flat_map g xs) ∙ ap (λ n. n + total w (flat_map g xs)) (total-flat_map f w xs) ∙ ap (λ n. total (λ x. total w (f x)) xs + n) (total-flat_map g w xs));
}

-- what a test keeps and what it drops
pub SameBag-split : {X : Type 0} (p : X → Bool) (xs : List X) → SameBag xs (filter p xs ++ filter (λ x. cond (p x) false true) xs)
SameBag-split {X = X} p xs = record {
  sums = λ f.
      let kept : (x : X) → f x ≡ cond (p x) (f x) 0 + cond (cond (p x) false true) (f x) 0 = λ x. elim (p x) as (λ b. f x ≡ cond b (f x) 0 + cond (cond b false true) (f x) 0) [ true ↦ omega arith | false ↦ omega arith ] in
      total-same f _ xs kept ∙ total-plus _ _ xs ∙ sym (total-append f (filter p xs) _ ∙ ap (λ n. n + total f (filter (λ x. cond (p x) false true) xs)) (total-filter p f xs) ∙ ap (λ n. total (λ x. cond (p x) (f x) 0) xs + n) (total-filter (λ x. cond (p x) false true) f xs));
}

pub SameBag-from_permutation : {X : Type 0} {a b : List X} → IsPermutation a b → SameBag a b
SameBag-from_permutation {a = a} {b = b} h = record { sums = λ f. total-sum_by f a ∙ sym (sum_by-IsPermutation f _ _ h) ∙ sym (total-sum_by f b) }

-- ---- counting and weights

module _ {X : Type 0} (eq : X → X → Bool) (sound : (x y : X) → eq x y ≡ true → x ≡ y) (same : (x : X) → eq x x ≡ true) where
  -- the list without the first such element
  abbrev without : X → List X → List X
  without x [] = []
  without x (y ∷ ys) = cond (eq x y) ys (y ∷ without x ys)

  total-without : (f : X → ℕ) (x : X) (b : List X) → 0 < times eq x b → total f b ≡ f x + total f (without x b)
  total-without f x [] h = absurd (omega arith)
  total-without f x (y ∷ ys) h =
      let split : (t : Bool) → eq x y ≡ t → 0 < cond t 1 0 + times eq x ys → f y + total f ys ≡ f x + total f (cond t ys (y ∷ without x ys)) =
      elim [ true ↦ λ e _. ap (λ z. f z + total f ys) (sym (sound x y e)) | false ↦ λ e lt. omega (arith, total-without f x ys (omega arith)) ]
      in split (eq x y) refl h

  -- how often an element stands in a list is the sum of a weight
  times-total : (x : X) (xs : List X) → times eq x xs ≡ total (λ y. cond (eq x y) 1 0) xs
  times-total x [] = refl
  times-total x (y ∷ ys) = ap (λ n. cond (eq x y) 1 0 + n) (times-total x ys)

  times-without : (z x : X) (b : List X) → 0 < times eq x b → times eq z b ≡ cond (eq z x) 1 0 + times eq z (without x b)
  times-without z x b h = times-total z b ∙ total-without (λ y. cond (eq z y) 1 0) x b h ∙ ap (λ n. cond (eq z x) 1 0 + n) (sym (times-total z (without x b)))

  total-within_times : (f : X → ℕ) (a b : List X) → ((x : X) → times eq x a ≤ times eq x b) → total f a ≤ total f b
  total-within_times f [] b h = omega arith
  total-within_times f (x ∷ xs) b h =
      let more : 1 + times eq x xs ≤ times eq x b = rw (same x) at (h x) in
      let some : 0 < times eq x b = omega arith in
      let rest = total-within_times f xs (without x b) (λ z. let e = h z in let k = times-without z x b some in omega arith) in
      omega (arith, total-without f x b some)

  total-from_times : (f : X → ℕ) (a b : List X) → ((x : X) → times eq x a ≡ times eq x b) → total f a ≡ total f b
  total-from_times f a b h =
      let up = total-within_times f a b (λ x. omega (arith, h x)) in
      let down = total-within_times f b a (λ x. omega (arith, h x)) in
      omega arith

  times-from_total : (x : X) (a b : List X) → total (λ y. cond (eq x y) 1 0) a ≡ total (λ y. cond (eq x y) 1 0) b → times eq x a ≡ times eq x b
  times-from_total x a b h = times-total x a ∙ h ∙ sym (times-total x b)

  times-within_total : (x : X) (a b : List X) → total (λ y. cond (eq x y) 1 0) a ≤ total (λ y. cond (eq x y) 1 0) b → times eq x a ≤ times eq x b
  times-within_total x a b h = omega (arith, times-total x a, times-total x b)

-- the test of two rows decides whether they are one
pub eq_row-decides : (a b : Row) → Decides (eq_row a b) (a ≡ b)
eq_row-decides a b = slice_eq-Decides (λ x y. (eq_cell-sound x y, λ e. rw e (eq_cell-refl y))) a b (eq_row a b) refl

pub eq_row-sound : (a b : Row) → eq_row a b ≡ true → a ≡ b
eq_row-sound a b = (eq_row-decides a b).0

pub eq_row-refl : (a : Row) → eq_row a a ≡ true
eq_row-refl a = (eq_row-decides a a).1 refl

-- rows that stand as often have the same sums, and the other way round
pub SameBag-from_rows : {a b : List Row} → Same a b → SameBag a b
SameBag-from_rows {a = a} {b = b} h = record { sums = λ f. total-from_times eq_row eq_row-sound eq_row-refl f a b h.each }

pub Same-from_bag : {a b : List Row} → SameBag a b → Same a b
Same-from_bag {a = a} {b = b} h = record { each = λ row. times-from_total eq_row eq_row-sound eq_row-refl row a b (h.sums (λ r. cond (eq_row row r) 1 0)) }

pub WithinBag-from_rows : {a b : List Row} → Within a b → WithinBag a b
WithinBag-from_rows {a = a} {b = b} h = record { sums = λ f. total-within_times eq_row eq_row-sound eq_row-refl f a b h.each }

pub Within-from_bag : {a b : List Row} → WithinBag a b → Within a b
Within-from_bag {a = a} {b = b} h = record { each = λ row. times-within_total eq_row eq_row-sound eq_row-refl row a b (h.sums (λ r. cond (eq_row row r) 1 0)) }

-- the same of lines
line-sound : (a b : List ℕ) → bytes_eq a b ≡ true → a ≡ b
line-sound a b = (bytes_decides a b).0

line-refl : (a : List ℕ) → bytes_eq a a ≡ true
line-refl a = (bytes_decides a a).1 refl

pub SameBag-from_lines : {a b : List (List ℕ)} → SameLines a b → SameBag a b
SameBag-from_lines {a = a} {b = b} h = record { sums = λ f. total-from_times bytes_eq line-sound line-refl f a b h.each }

pub SameLines-from_bag : {a b : List (List ℕ)} → SameBag a b → SameLines a b
SameLines-from_bag {a = a} {b = b} h = record { each = λ line. times-from_total bytes_eq line-sound line-refl line a b (h.sums (λ r. cond (bytes_eq line r) 1 0)) }
