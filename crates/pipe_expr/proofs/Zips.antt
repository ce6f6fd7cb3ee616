-- An operator on cells, through the values in them.
use Rattle.std.proofs.Common.{◌≡◌, List, [], ◌∷◌, Option, map, refl, ap, ◌∙◌}
use Rattle.pipe_schema.specs.declared.any_value.AnyValue.{AnyValue}
use Rattle.pipe_expr.specs.Nullables.{zip_with}
use Rattle.pipe_expr.specs.Operands.{Zips}

pub zip_cells : {A B C : Type 0} (f : Option A → AnyValue) (g : Option B → AnyValue) (h : Option C → AnyValue) (on_values : Option A → Option B → Option C) (on_cells : AnyValue → AnyValue → AnyValue) → ((a : Option A) (b : Option B) → h (on_values a b) ≡ on_cells (f a) (g b)) → (xs : List (Option A)) (ys : List (Option B)) → map h (zip_with on_values xs ys) ≡ zip_with on_cells (map f xs) (map g ys)
zip_cells f g h v c e [] ys = refl
zip_cells f g h v c e (x ∷ xs) [] = refl
zip_cells f g h v c e (x ∷ xs) (y ∷ ys) = ap (λ z. z ∷ map h (zip_with v xs ys)) (e x y) ∙ ap (λ l. c (f x) (g y) ∷ l) (zip_cells f g h v c e xs ys)

pub zips-cells : {A B : Type 0} (of : Option A → AnyValue) (to : Option B → AnyValue) (gives : Option A → Option A → Option B) (on_cells : AnyValue → AnyValue → AnyValue) → ((a b : Option A) → to (gives a b) ≡ on_cells (of a) (of b)) → {left right zipped : List AnyValue} → Zips of to gives left right zipped → zipped ≡ zip_with on_cells left right
zips-cells of to gives on_cells e z = z.is_zipped ∙ rw (z.is_left, z.is_right) (zip_cells of of to gives on_cells e z.a z.b)
