-- Why two tables can't be reconciled: the first of these faults. The left table is number 0, the right one 1, and their
-- join 2.
--
-- Worked cases, by the columns k and v: a left table with k alone lacks v; a table with k and v on both sides, of which
-- v is a text on one side and a number on the other, differs; the names k and k name a column twice.
use Rattle.std.specs.Prelude.{ℕ, List, [], ◌∷◌, Bool, false, not, ◌||◌, Option, Some, ◌≡◌, ◌⊎◌}
use Rattle.pipe_frame.specs.Frame.{Table}
use Rattle.pipe_schema.specs.Schema.{first_unknown}
use Rattle.pipe_schema.specs.declared.field.Field.{Field}
use Rattle.pipe_expr.specs.Types.{type_of_column}
use Rattle.pipe_plan.specs.Faults.{eq_types, is_empty, or_else, repeats_name, told, told_name}
use Rattle.pipe_plan.specs.declared.error.PipeError.{PipeError}
use Rattle.pipe_plan.specs.declared.error.PipeError.TheVariants as error

-- whether a column of one of these names has different types in two tables
abbrev pub types_differ : List Field → List Field → List (List ℕ) → Bool
types_differ left right [] = false
types_differ left right (name ∷ on) =
    not (eq_types (type_of_column name left) (type_of_column name right))
    || types_differ left right on

-- whether names are no key: there is none, or one stands twice
abbrev pub is_bad_key : List (List ℕ) → Bool
is_bad_key on = is_empty on || repeats_name on

-- a name that a table of this number lacks: the first
abbrev pub lacks_name : ℕ → List Field → List (List ℕ) → Option PipeError
lacks_name table schema on = told_name (error.UnknownColumn table) (first_unknown schema on)

abbrev pub types_fault : List Field → List Field → List (List ℕ) → Option PipeError
types_fault left right on = told (types_differ left right on) (error.TypeMismatch 2)

abbrev pub has_no_key : List (List ℕ) → Option PipeError
has_no_key on = told (is_bad_key on) (error.BadJoin 2)

-- the first fault: a name that the left table lacks, one that the right table lacks, different types, no key
abbrev pub recon_fault : Table → Table → List (List ℕ) → Option PipeError
recon_fault left right on =
    or_else (lacks_name 0 left.schema on)
    (or_else (lacks_name 1 right.schema on)
    (or_else (types_fault left.schema right.schema on) (has_no_key on)))

-- an error tells want of memory, or a fault
abbrev pub IsTold : Option PipeError → PipeError → Type 0
IsTold fault e = (e ≡ error.Memory) ⊎ (fault ≡ Some e)
