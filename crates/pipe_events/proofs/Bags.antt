-- Lists with the same elements, and lists within others: laws beside those of the frames' crate.
use Rattle.std.proofs.Common.{◌≡◌, ℕ, ◌≤◌, Bool, true, false, cond, List, [], ◌∷◌, ◌++◌, map, refl, ap, arith}
use Rattle.std.specs.Prelude.{filter}
use Rattle.std.specs.List.{flat_map}
use Rattle.std.proofs.lemmas.List.Concat.{flat_map-append}
use Rattle.pipe_schema.specs.Weights.{total}
use Rattle.pipe_schema.proofs.Weights.{SameBag, WithinBag, total-append, total-map, total-filter, total-flat_map}

pub SameBag-nil : {X : Type 0} (a : List X) → SameBag (a ++ []) a
SameBag-nil a = record { sums = λ f. omega (arith, total-append f a []) }

pub SameBag-flat_map_append : {X Y : Type 0} (f : X → List Y) (a b : List X) → SameBag (flat_map f (a ++ b)) (flat_map f a ++ flat_map f b)
SameBag-flat_map_append f a b = record { sums = λ w. ap (total w) (flat_map-append f a b) }

pub WithinBag-refl : {X : Type 0} (a : List X) → WithinBag a a
WithinBag-refl a = record { sums = λ f. omega arith }

pub WithinBag-nothing : {X : Type 0} (a : List X) → WithinBag [] a
WithinBag-nothing a = record { sums = λ f. omega arith }

pub WithinBag-from_SameBag : {X : Type 0} {a b : List X} → SameBag a b → WithinBag a b
WithinBag-from_SameBag h = record { sums = λ f. omega (arith, h.sums f) }

pub WithinBag-trans : {X : Type 0} {a b c : List X} → WithinBag a b → WithinBag b c → WithinBag a c
WithinBag-trans h k = record { sums = λ f. omega (arith, h.sums f, k.sums f) }

pub WithinBag-append : {X : Type 0} {a b c d : List X} → WithinBag a b → WithinBag c d → WithinBag (a ++ c) (b ++ d)
WithinBag-append {a = a} {b = b} {c = c} {d = d} h k = record { sums = λ f. omega (arith, total-append f a c, total-append f b d, h.sums f, k.sums f) }

pub WithinBag-first : {X : Type 0} (a b : List X) → WithinBag a (a ++ b)
WithinBag-first a b = record { sums = λ f. omega (arith, total-append f a b) }

pub WithinBag-flat_map : {X Y : Type 0} (f : X → List Y) {a b : List X} → WithinBag a b → WithinBag (flat_map f a) (flat_map f b)
WithinBag-flat_map f {a = a} {b = b} h = record { sums = λ g. omega (arith, total-flat_map f g a, h.sums (λ x. total g (f x)), total-flat_map f g b) }

total-below : {X : Type 0} (f g : X → ℕ) (xs : List X) → ((x : X) → f x ≤ g x) → total f xs ≤ total g xs
total-below f g [] h = omega arith
total-below f g (x ∷ xs) h = omega (arith, h x, total-below f g xs h)

pub WithinBag-pieces : {X Y : Type 0} (f g : X → List Y) (xs : List X) → ((x : X) → WithinBag (f x) (g x)) → WithinBag (flat_map f xs) (flat_map g xs)
WithinBag-pieces f g xs h = record { sums = λ w. omega (arith, total-flat_map f w xs, total-below (λ x. total w (f x)) (λ x. total w (g x)) xs (λ x. (h x).sums w), total-flat_map g w xs) }

pub WithinBag-map : {X Y : Type 0} (f : X → Y) {a b : List X} → WithinBag a b → WithinBag (map f a) (map f b)
WithinBag-map f {a = a} {b = b} h = record { sums = λ g. omega (arith, total-map f g a, h.sums (λ x. g (f x)), total-map f g b) }

-- a test and a weaker one
pub WithinBag-tests : {X : Type 0} (p q : X → Bool) (xs : List X) → ((x : X) → p x ≡ true → q x ≡ true) → WithinBag (filter p xs) (filter q xs)
WithinBag-tests p q xs h = record {
  sums = λ f.
      let one : (x : _) → cond (p x) (f x) 0 ≤ cond (q x) (f x) 0 =
      λ x. let split : (a b : Bool) → p x ≡ a → q x ≡ b → cond a (f x) 0 ≤ cond b (f x) 0 =
      elim [ true ↦ elim [ true ↦ λ _ _. omega arith | false ↦ λ s t. (let u = h x s in cc) ] | false ↦ λ b _ _. omega arith ]
      in split (p x) (q x) refl refl in
      omega (arith, total-filter p f xs, total-below (λ x. cond (p x) (f x) 0) (λ x. cond (q x) (f x) 0) xs one, total-filter q f xs);
}

-- four bags in another order
pub middle : {X : Type 0} (a b c d : List X) → SameBag ((a ++ b) ++ (c ++ d)) ((a ++ c) ++ (b ++ d))
middle a b c d = record { sums = λ f. omega (arith, total-append f (a ++ b) (c ++ d), total-append f a b, total-append f c d, total-append f (a ++ c) (b ++ d), total-append f a c, total-append f b d) }

pub flat_nil : {X Y : Type 0} (f : X → List Y) (xs : List X) → ((x : X) → f x ≡ []) → flat_map f xs ≡ []
flat_nil f [] h = refl
flat_nil f (x ∷ xs) h = let e = h x in rw e (flat_nil f xs h)
