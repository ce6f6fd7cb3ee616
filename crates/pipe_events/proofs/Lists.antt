-- What holds of all of a list's elements holds of what lists are made of them.
use Rattle.std.proofs.Common.{◌≡◌, ℕ, zero, suc, Bool, true, false, cond, ◌||◌, List, [], ◌∷◌, ◌++◌, map, take, drop, refl}
use Rattle.std.specs.Prelude.{filter}
use Rattle.std.specs.List.{AllByRecursion, flat_map}

pub all-append : {X : Type 0} (P : X → Type 0) (a b : List X) → AllByRecursion P a → AllByRecursion P b → AllByRecursion P (a ++ b)
all-append P [] b ha hb = hb
all-append P (x ∷ a) b ha hb = (ha.0, all-append P a b ha.1 hb)

pub all-map : {X Y : Type 0} (P : X → Type 0) (Q : Y → Type 0) (f : X → Y) → ((x : X) → P x → Q (f x)) → (a : List X) → AllByRecursion P a → AllByRecursion Q (map f a)
all-map P Q f h [] all = tt
all-map P Q f h (x ∷ a) all = (h x all.0, all-map P Q f h a all.1)

pub all-flat : {X Y : Type 0} (P : X → Type 0) (Q : Y → Type 0) (f : X → List Y) → ((x : X) → P x → AllByRecursion Q (f x)) → (a : List X) → AllByRecursion P a → AllByRecursion Q (flat_map f a)
all-flat P Q f h [] all = tt
all-flat P Q f h (x ∷ a) all = all-append Q (f x) (flat_map f a) (h x all.0) (all-flat P Q f h a all.1)

pub all-filter : {X : Type 0} (P : X → Type 0) (test : X → Bool) (a : List X) → AllByRecursion P a → AllByRecursion P (filter test a)
all-filter P test [] all = tt
all-filter P test (x ∷ a) all = elim (test x) as (λ b. AllByRecursion P (cond b (x ∷ filter test a) (filter test a))) [ true ↦ (all.0, all-filter P test a all.1) | false ↦ all-filter P test a all.1 ]

pub all-take : {X : Type 0} (P : X → Type 0) (n : ℕ) (a : List X) → AllByRecursion P a → AllByRecursion P (take n a)
all-take P zero a all = tt
all-take P (suc n) [] all = tt
all-take P (suc n) (x ∷ a) all = (all.0, all-take P n a all.1)

pub all-drop : {X : Type 0} (P : X → Type 0) (n : ℕ) (a : List X) → AllByRecursion P a → AllByRecursion P (drop n a)
all-drop P zero a all = all
all-drop P (suc n) [] all = tt
all-drop P (suc n) (x ∷ a) all = all-drop P n a all.1

pub or-first : (a b : Bool) → (a || b) ≡ false → a ≡ false
or-first true b e = cc
or-first false b e = refl

pub or-second : (a b : Bool) → (a || b) ≡ false → b ≡ false
or-second true b e = cc
or-second false b e = e
