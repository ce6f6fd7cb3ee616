-- Reading the cells of a column is reading its values.
use Rattle.std.proofs.Common.{◌≡◌, ℕ, List, [], ◌∷◌, Option, Some, None, map, take, drop, refl, ap, sym, ◌∙◌, suc, zero}
use Rattle.std.proofs.lemmas.List.{length-map, take-map, drop-map, map-append}
use Rattle.pipe_column.specs.Column.{nullable_at, nullable_in}
use Rattle.pipe_column.specs.Series.{chosen_cells, cell_at, cell_or_null}
use Rattle.pipe_schema.specs.declared.any_value.AnyValue.{AnyValue}
use Rattle.pipe_schema.specs.declared.any_value.AnyValue.TheVariants as cell

pub cell_at-map : {T : Type 0} (f : Option T → AnyValue) (xs : List (Option T)) (i : ℕ) → f None ≡ cell.Null → cell_at (map f xs) i ≡ f (nullable_at xs i)
cell_at-map f [] i h = sym h
cell_at-map f (x ∷ xs) zero h = refl
cell_at-map f (x ∷ xs) (suc i) h = cell_at-map f xs i h

cell_or_null-map : {T : Type 0} (f : Option T → AnyValue) (xs : List (Option T)) (place : Option ℕ) → f None ≡ cell.Null → f (nullable_in xs place) ≡ cell_or_null (map f xs) place
cell_or_null-map f xs (Some i) h = sym (cell_at-map f xs i h)
cell_or_null-map f xs None h = h

pub taken_cells-map : {T : Type 0} (f : Option T → AnyValue) (xs : List (Option T)) (places : List (Option ℕ)) → f None ≡ cell.Null → map f (map (nullable_in xs) places) ≡ map (cell_or_null (map f xs)) places
taken_cells-map f xs [] h = refl
taken_cells-map f xs (place ∷ places) h = ap (λ c. c ∷ map f (map (nullable_in xs) places)) (cell_or_null-map f xs place h) ∙ ap (λ l. cell_or_null (map f xs) place ∷ l) (taken_cells-map f xs places h)

-- a place for each row number
pub taken-chosen : (cells : List AnyValue) (rows : List ℕ) → map (cell_or_null cells) (map Some rows) ≡ chosen_cells cells rows
taken-chosen cells [] = refl
taken-chosen cells (i ∷ rows) = ap (λ l. cell_at cells i ∷ l) (taken-chosen cells rows)

-- a part of the cells
pub part-map : {T : Type 0} (f : Option T → AnyValue) (from count : ℕ) (xs : List (Option T)) → map f (take count (drop from xs)) ≡ take count (drop from (map f xs))
part-map f from count xs = sym (take-map f count (drop from xs)) ∙ ap (take count) (sym (drop-map f from xs))

pub front-map : {T : Type 0} (f : Option T → AnyValue) (count : ℕ) (xs : List (Option T)) → map f (take count xs) ≡ take count (map f xs)
front-map f count xs = sym (take-map f count xs)

pub ruleset series_rules = (taken_cells-map, cell_at-map, length-map, part-map, front-map, map-append)
