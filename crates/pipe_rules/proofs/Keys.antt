-- Plain columns among keys, one key at a time; conjuncts, one at a time.
use Rattle.std.proofs.Common.{◌≡◌, ℕ, zero, suc, ◌<◌, Bool, true, false, List, [], ◌∷◌, ◌++◌, map, take, get_or, length, refl, ap, sym, ◌∙◌, arith, append_assoc, append-nil}
use Rattle.std.specs.Prelude.{◌||◌}
use Rattle.std.specs.List.{flat_map}
use Rattle.std.specs.Str.{bytes_eq}
use Rattle.pipe_schema.specs.Schema.{has_name}
use Rattle.pipe_expr.specs.Formula.{Formula, Column}
use Rattle.pipe_expr.specs.Joins.{column_names}
use Rattle.pipe_rules.specs.Conjuncts.{conjuncts_of, all_conjuncts}

or-none : (b c : Bool) → (b || false) ≡ false → (b || c) ≡ c
or-none true c e = cc
or-none false c e = refl

or-some : (b c : Bool) → (b || false) ≡ true → (b || c) ≡ true
or-some true c e = refl
or-some false c e = cc

pub key-missed : (f : Formula) (fs : List Formula) (name : List ℕ) → has_name (column_names (f ∷ [])) name ≡ false → has_name (column_names (f ∷ fs)) name ≡ has_name (column_names fs) name
key-missed (Column n) fs name e = or-none (bytes_eq n name) (has_name (column_names fs) name) e
key-missed _ fs name e = refl

pub key-met : (f : Formula) (fs : List Formula) (name : List ℕ) → has_name (column_names (f ∷ [])) name ≡ true → has_name (column_names (f ∷ fs)) name ≡ true
key-met (Column n) fs name e = or-some (bytes_eq n name) (has_name (column_names fs) name) e
key-met _ fs name e = cc

flat-take : {A : Type 0} (f : A → List Formula) (xs : List A) (i : ℕ) (d : A) → i < length xs → flat_map f (take i xs) ++ f (get_or xs i d) ≡ flat_map f (take (suc i) xs)
flat-take f [] i d h = absurd (omega arith)
flat-take f (x ∷ xs) zero d h = sym (append-nil (f x))
flat-take f (x ∷ xs) (suc i) d h = append_assoc (f x) (flat_map f (take i xs)) (f (get_or xs i d)) ∙ ap (λ l. f x ++ l) (flat-take f xs i d (omega arith))

flat-of-map : {A : Type 0} (g : A → Formula) (xs : List A) → all_conjuncts (map g xs) ≡ flat_map (λ x. conjuncts_of (g x)) xs
flat-of-map g [] = refl
flat-of-map g (x ∷ xs) = ap (λ l. conjuncts_of (g x) ++ l) (flat-of-map g xs)

-- the conjuncts so far, and those of the next
pub next-conjuncts : {A : Type 0} (g : A → Formula) (xs : List A) (i : ℕ) (x : A) (so_far : List Formula) → so_far ≡ all_conjuncts (map g (take i xs)) → i < length xs → x ≡ get_or xs i x → so_far ++ conjuncts_of (g x) ≡ all_conjuncts (map g (take (suc i) xs))
next-conjuncts g xs i x so_far e lt is =
    ap (λ l. l ++ conjuncts_of (g x)) (e ∙ flat-of-map g (take i xs))
    ∙ ap (λ y. flat_map (λ x. conjuncts_of (g x)) (take i xs) ++ conjuncts_of (g y)) is
    ∙ flat-take (λ x. conjuncts_of (g x)) xs i x lt
    ∙ sym (flat-of-map g (take (suc i) xs))

map-push : {A : Type 0} (g : A → Formula) (xs : List A) (c : A) → map g (xs ++ c ∷ []) ≡ map g xs ++ g c ∷ []
map-push g [] c = refl
map-push g (x ∷ xs) c = ap (λ l. g x ∷ l) (map-push g xs c)

-- one conjunct behind others
pub one-pushed : {A : Type 0} (g : A → Formula) (xs ys : List A) (c : A) (f : Formula) (cs : List Formula) → ys ≡ xs ++ c ∷ [] → g c ≡ f → cs ≡ f ∷ [] → map g ys ≡ map g xs ++ cs
one-pushed g xs ys c f cs pushed copy alone =
    ap (map g) pushed ∙ map-push g xs c ∙ ap (λ h. map g xs ++ h ∷ []) copy ∙ ap (λ l. map g xs ++ l) (sym alone)

-- those of two sides, one side after the other
pub two-pushed : (a b c x y : List Formula) → b ≡ a ++ x → c ≡ b ++ y → c ≡ a ++ (x ++ y)
two-pushed a b c x y first second = second ∙ ap (λ l. l ++ y) first ∙ append_assoc a x y

pub ruleset push_rules = (one-pushed, two-pushed)

pub ruleset key_rules = (key-missed, key-met, next-conjuncts)
