-- A well-formed plan has its root, which is under itself.
use Rattle.std.proofs.Common.{◌≡◌, ℕ, ◌<◌, Bool, true, false, cond, List, Option, Some, None, length, refl, arith}
use Rattle.std.specs.Prelude.{nat_lt, slice_index_or}
use Rattle.std.specs.List.{range_with_len}
use Rattle.std.proofs.lemmas.Bool.{ltb-true}
use Rattle.pipe_plan.specs.Plan.{Plan}
use Rattle.pipe_plan.specs.Under.{is_under}
use Rattle.pipe_schema.specs.declared.field.Field.{Field}
use Rattle.pipe_plan.specs.Schemas.{schema_of}
use Rattle.pipe_check.specs.Checked.{AreKept}
use Rattle.pipe_plan.specs.Faults.{first_fault, plan_fault, IsWellFormed}
use Rattle.pipe_plan.specs.declared.error.PipeError.TheVariants as error
use Rattle.pipe_check.proofs.Walks.{under-self, under-there}

pub root_there : (plan : Plan) (root : ℕ) → plan_fault plan root ≡ None → root < length plan.nodes
root_there plan root e =
    let split : (b : Bool) → nat_lt root (length plan.nodes) ≡ b → cond b (first_fault plan root (range_with_len 0 (length plan.nodes))) (Some (error.BadNode root)) ≡ None → root < length plan.nodes = elim [
      | true ↦ λ is h. ltb-true root (length plan.nodes) is
      | false ↦ λ is h. cc
    ] in split (nat_lt root (length plan.nodes)) refl e

pub root_under : (plan : Plan) (root : ℕ) → IsWellFormed plan root → is_under plan.nodes root root ≡ true
root_under plan root good = under-self plan.nodes root (root_there plan root good.faultless)

-- the schema that is kept for a node under the root
pub kept_under : (plan : Plan) (root n k : ℕ) (schemas : List (Option (List Field))) → k ≡ length plan.nodes → IsWellFormed plan root → AreKept plan root k schemas → is_under plan.nodes root n ≡ true → slice_index_or schemas n None ≡ Some (schema_of plan n)
kept_under plan root n k schemas e good kept u =
    let there = under-there plan.nodes n (length plan.nodes) root (root_there plan root good.faultless) (omega arith) u in
    kept n (omega arith) u
