-- Columns by their validity and their values.
use Rattle.std.specs.Borrow.{Bor}
use Rattle.std.specs.Prelude.{◌≡◌, ℕ, ◌≤◌, List, Option, length, map}
use Rattle.pipe_column.specs.Column.{nullables, nullable_at}
use Rattle.pipe_column.specs.Validity.{validities}
use Rattle.pipe_schema.specs.declared.any_value.AnyValue.{AnyValue}
use Rattle.pipe_column.specs.declared.validities.Validities.{Validities}

-- the validity and the values of a column
abbrev pub Parts : Type 0 → Type 0
Parts T = Validities × Bor (List T)

-- the nullable values, and their cells
abbrev pub part_values : {T : Type 0} → Parts T → List (Option T)
part_values parts = nullables (validities parts.0) parts.1.now

abbrev pub part_cells : {T : Type 0} → (Option T → AnyValue) → Parts T → List AnyValue
part_cells cell parts = map cell (part_values parts)

-- what stands at a place of some columns
abbrev pub part_at : {T : Type 0} → ℕ → Parts T → Option T
part_at i parts = nullable_at (part_values parts) i

abbrev pub parts_at : {T : Type 0} → List (Parts T) → ℕ → List (Option T)
parts_at all i = map (part_at i) all

-- as many values as places
abbrev pub IsEven : {T : Type 0} → Parts T → Type 0
IsEven parts = length (validities parts.0) ≡ length parts.1.now

-- so many places or more
abbrev pub HasPlaces : {T : Type 0} → ℕ → Parts T → Type 0
HasPlaces count parts = IsEven parts × (count ≤ length (validities parts.0))
