-- The errors of a node that tell no name, but for BadNode.
use Rattle.std.specs.Prelude.{ℕ, List, Option}
use Rattle.pipe_schema.specs.declared.field.Field.{Field}
use Rattle.pipe_plan.specs.Node.{Node}
use Rattle.pipe_plan.specs.Faults.{told, or_else, is_mistyped, is_bad_join, is_bad_sort}
use Rattle.pipe_plan.specs.declared.error.PipeError.{PipeError}
use Rattle.pipe_plan.specs.declared.error.PipeError.TheVariants as error

-- the least of them
abbrev pub nameless_fault : (ℕ → List Field) → ℕ → Node → Option PipeError
nameless_fault schema n x =
    or_else (told (is_mistyped schema x) (error.TypeMismatch n))
    (or_else (told (is_bad_join x) (error.BadJoin n)) (told (is_bad_sort x) (error.BadSort n)))
