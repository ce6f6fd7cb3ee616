-- A plan that was checked, and why one is refused.
use Rattle.std.specs.Prelude.{◌≡◌, ◌⊎◌, ℕ, ◌<◌, List, true, nat_le, if◌then◌else◌, Option, Some, None, length, slice_index_or}
use Rattle.pipe_schema.specs.declared.field.Field.{Field}
use Rattle.pipe_plan.specs.Plan.{Plan, plan_of}
use Rattle.pipe_plan.specs.Under.{is_under}
use Rattle.pipe_plan.specs.Schemas.{schema_of}
use Rattle.pipe_plan.specs.Faults.{plan_fault, most_nodes, IsWellFormed}
use Rattle.pipe_plan.specs.declared.arena.Arena.{Arena}
use Rattle.pipe_plan.specs.declared.error.PipeError.{PipeError}
use Rattle.pipe_plan.specs.declared.error.PipeError.TheVariants as error

-- why a plan isn't run: too many nodes, else its fault
abbrev pub check_fault : Plan → ℕ → Option PipeError
check_fault plan root =
    if nat_le (length plan.nodes) most_nodes then plan_fault plan root
    else Some (error.TooMany most_nodes)

-- an error tells want of memory, or a fault
abbrev pub MemoryOr : Option PipeError → PipeError → Type 0
MemoryOr fault e = (e ≡ error.Memory) ⊎ (fault ≡ Some e)

-- a plan that was checked: its arena and its root
pub record Checked : Type 0 where
  pub arena : Arena
  pub root : ℕ

-- a schema is kept for each of the first nodes that is under the root
abbrev pub AreKept : Plan → ℕ → ℕ → List (Option (List Field)) → Type 0
AreKept plan root k schemas =
    (n : ℕ) → n < k → is_under plan.nodes root n ≡ true
    → slice_index_or schemas n None ≡ Some (schema_of plan n)

-- what a checked plan knows of itself
abbrev pub IsChecked : Arena → ℕ → List (Option (List Field)) → Type 0
IsChecked arena root schemas =
    IsWellFormed (plan_of arena) root
    × AreKept (plan_of arena) root (length arena.nodes) schemas
