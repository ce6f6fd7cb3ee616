-- Why there is no reconciliation: the numbers of the run are looked at first, then the key, and then rows are counted.
use Rattle.std.specs.Prelude.{ℕ, ◌≡◌, ◌⊎◌, List, All, None, Some}
use Rattle.pipe_frame.specs.Frame.{Table}
use Rattle.pipe_plan.specs.Config.{IsConfig}
use Rattle.pipe_plan.specs.declared.config.PipeConfig.{PipeConfig}
use Rattle.pipe_plan.specs.declared.error.PipeError.{PipeError}
use Rattle.pipe_plan.specs.declared.error.PipeError.TheVariants as error
use Rattle.pipe_recon.specs.Codes.{Code, HasTypedKey, codes_of}
use Rattle.pipe_recon.specs.FullJoin.{HasTooMany}
use Rattle.pipe_recon.specs.Refusals.{recon_fault}
use Rattle.pipe_recon.specs.declared.recon_spec.ReconSpec.{ReconSpec}

-- the numbers are good, and so is the key
pub record IsSoundReconciliation (left right : Table) (spec : ReconSpec) (config : PipeConfig) : Type 0 where
  pub numbers : IsConfig config
  pub good : recon_fault left right spec.on ≡ None

-- the codes of both sides, of a key that is good
pub record AreCodes (left right : Table) (spec : ReconSpec) (lefts rights : List Code) : Type 0 where
  pub good : recon_fault left right spec.on ≡ None
  pub left_codes : lefts ≡ codes_of left.schema spec left.rows
  pub right_codes : rights ≡ codes_of right.schema spec right.rows
  pub left_typed : All (HasTypedKey left.schema spec.on) left.rows
  pub right_typed : All (HasTypedKey right.schema spec.on) right.rows

-- a number is out of its range
pub record HasBadNumber (config : PipeConfig) (e : PipeError) : Type 0 where
  pub bad : IsConfig config → ⊥
  pub told : e ≡ error.BadConfig

-- the numbers are good, and the tables and the key have this fault
pub record HasFault (left right : Table) (spec : ReconSpec) (config : PipeConfig) (e : PipeError) : Type 0 where
  pub numbers : IsConfig config
  pub told : recon_fault left right spec.on ≡ Some e

-- what an error says of a sound reconciliation: a table or the full join has too many rows, a stop, or no memory
abbrev pub ReconciliationEndsWith : ℕ → Table → Table → ReconSpec → PipeError → Type 0
ReconciliationEndsWith limit left right spec error.BadConfig = ⊥
ReconciliationEndsWith limit left right spec (error.BadNode n) = ⊥
ReconciliationEndsWith limit left right spec (error.UnknownColumn n name) = ⊥
ReconciliationEndsWith limit left right spec (error.DuplicateName n name) = ⊥
ReconciliationEndsWith limit left right spec (error.TypeMismatch n) = ⊥
ReconciliationEndsWith limit left right spec (error.BadJoin n) = ⊥
ReconciliationEndsWith limit left right spec (error.BadSort n) = ⊥
ReconciliationEndsWith limit left right spec (error.TooMany n) = HasTooMany limit left right spec n
ReconciliationEndsWith limit left right spec error.Stopped = Unit {0}
ReconciliationEndsWith limit left right spec error.Memory = Unit {0}

pub record ReconciliationFails (left right : Table) (spec : ReconSpec) (config : PipeConfig) (e : PipeError) : Type 0 where
  pub sound : IsSoundReconciliation left right spec config
  pub ends : ReconciliationEndsWith config.row_limit left right spec e

-- the error by which two tables and their key are refused
abbrev pub IsRefusedReconciliation : Table → Table → ReconSpec → PipeConfig → PipeError → Type 0
IsRefusedReconciliation left right spec config e = HasBadNumber config e ⊎ HasFault left right spec config e

-- what an error says: want of memory, why they are refused, or how a sound reconciliation ends
abbrev pub ReconCauses : Table → Table → ReconSpec → PipeConfig → PipeError → Type 0
ReconCauses left right spec config e =
    (e ≡ error.Memory)
    ⊎ (IsRefusedReconciliation left right spec config e ⊎ ReconciliationFails left right spec config e)
