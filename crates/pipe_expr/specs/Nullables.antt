-- What operators give on nullable values, and on columns of them.
use Rattle.std.specs.Prelude.{◌≡◌, List, [], ◌∷◌, Bool, true, false, not, Option, Some, None}
use Rattle.std.specs.declared.cmp.Ordering.{Ordering}
use Rattle.pipe_schema.specs.Cell.{is_null_cell}
use Rattle.pipe_column.specs.Column.{nullable, nullables}
use Rattle.pipe_schema.specs.declared.any_value.AnyValue.{AnyValue}

-- two lists, item by item
abbrev pub zip_with : {A B C : Type 0} → (A → B → C) → List A → List B → List C
zip_with f (a ∷ as_) (b ∷ bs) = f a b ∷ zip_with f as_ bs
zip_with f _ _ = []

-- an operator where both values are there, and else none
abbrev pub strictly : {A B C : Type 0} → (A → B → C) → Option A → Option B → Option C
strictly f (Some a) (Some b) = Some (f a b)
strictly f _ _ = None

-- a test of how two values compare
abbrev pub tested : {T : Type 0} → (T → T → Ordering) → (Ordering → Bool) → T → T → Bool
tested cmp test a b = test (cmp a b)

-- three-valued `and` (Kleene): false if a side is false, else none if a side is missing
abbrev pub both : Option Bool → Option Bool → Option Bool
both (Some false) _ = Some false
both _ (Some false) = Some false
both (Some true) (Some true) = Some true
both _ _ = None

-- three-valued `or`: true if a side is true, else none if a side is missing
abbrev pub either : Option Bool → Option Bool → Option Bool
either (Some true) _ = Some true
either _ (Some true) = Some true
either (Some false) (Some false) = Some false
either _ _ = None

-- three-valued `not`: none where the value is missing
abbrev pub opposite : Option Bool → Option Bool
opposite (Some b) = Some (not b)
opposite None = None

-- whether a cell is null, where null is wanted, or isn't, where no null is
abbrev pub null_test : Bool → AnyValue → Bool
null_test true c = is_null_cell c
null_test false c = not (is_null_cell c)

abbrev pub null_found : Bool → AnyValue → Option Bool
null_found wanted c = Some (null_test wanted c)

-- a value with its validity is what a kernel gives of two others
abbrev pub Applies : {A B : Type 0} → (Option A → Option A → Option B) → Bool × A → Bool × A → Bool × B → Type 0
Applies gives left right result = nullable result.0 result.1 ≡ gives (nullable left.0 left.1) (nullable right.0 right.1)

-- a column, told by its validity and its values, was replaced by what a kernel gives of it and of nullable values
abbrev pub IsZip : {A : Type 0} → (Option A → Option A → Option A) → List (Option A) → List Bool → List A → List Bool → List A → Type 0
IsZip gives right valid values new_valid new_values =
    nullables new_valid new_values ≡ zip_with gives (nullables valid values) right

-- an operation on values is one on cells
abbrev pub IsOnCells : {T : Type 0} → (Option T → AnyValue) → (T → T → T) → (AnyValue → AnyValue → AnyValue) → Type 0
IsOnCells {T = T} cell operation of = (a b : Option T) → cell (strictly operation a b) ≡ of (cell a) (cell b)
