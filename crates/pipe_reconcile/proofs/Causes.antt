-- Why there is no reconciliation, and that there is one else.
use Rattle.std.proofs.Common.{◌≡◌, ℕ, zero, suc, ◌+◌, ◌≤◌, ◌<◌, Bool, true, false, List, [], ◌∷◌, Option, Some, None, Result, Ok, Err, inl, inr, length, map, refl, ap, sym, subst, ◌∙◌, arith}
use Rattle.std.specs.Prelude.{All, IfErr, IfOk, OnOk, IsErrOf, ◌⊎◌}
use Rattle.std.proofs.lemmas.List.{length-map}
use Rattle.std.proofs.lemmas.Option.{none-some}
use Rattle.pipe_driver.specs.Within.{AllWithin}
use Rattle.pipe_exec.specs.Evaluated.{stop_of, stops}
use Rattle.pipe_exec.specs.Evaluated as plans
use Rattle.pipe_exec.specs.Runs.{IsMemory, Stays}
use Rattle.pipe_schema.specs.Counts.{Counts}
use Rattle.pipe_frame.specs.Frame.{Table, select_fault}
use Rattle.pipe_schema.specs.Rows.{Row, Same}
use Rattle.pipe_schema.specs.declared.field.Field.{Field}
use Rattle.pipe_plan.specs.Config.{IsConfig}
use Rattle.pipe_plan.specs.Faults.{or_else, told, told_name}
use Rattle.pipe_plan.specs.PlanRows.{rows_of}
use Rattle.pipe_plan.specs.declared.config.PipeConfig.{PipeConfig}
use Rattle.pipe_plan.specs.declared.error.PipeError.{PipeError}
use Rattle.pipe_plan.specs.declared.error.PipeError.TheVariants as error
use Rattle.pipe_recon.specs.Codes.{Code, HasTypedKey, code_of, codes_of, partner_among, recon_by}
use Rattle.pipe_recon.specs.Ends.{AreCodes, ReconciliationEndsWith, ReconciliationFails, HasBadNumber, HasFault, IsRefusedReconciliation, IsSoundReconciliation, ReconCauses}
use Rattle.pipe_recon.specs.FullJoin.{IsWithin, height_at}
use Rattle.pipe_recon.specs.JoinPlan.{join_plan, join_root}
use Rattle.pipe_recon.specs.Least.{AreLeastIn}
use Rattle.pipe_recon.specs.Reconciliation.{reconciliation}
use Rattle.pipe_recon.specs.Refusals.{IsTold, has_no_key, is_bad_key, lacks_name, recon_fault, types_differ, types_fault}
use Rattle.pipe_recon.specs.declared.recon.Partner.{Partner}
use Rattle.pipe_recon.specs.declared.recon.Recon.{Recon}
use Rattle.pipe_recon.specs.declared.recon_spec.ReconSpec.{ReconSpec}
use Rattle.pipe_recon.proofs.Classes.{left_classes, right_classes}
use Rattle.pipe_reconcile.proofs.Ending.{all_within, ends_are, within_are}
use Rattle.pipe_recon.proofs.JoinRows.{rows_are}
use Rattle.pipe_recon.proofs.Known.{known}
use Rattle.pipe_recon.proofs.Partners.{coded_is}

-- ---- before the run

pub bad_number : (left right : Table) (spec : ReconSpec) (config : PipeConfig) → (IsConfig config → ⊥) → ReconCauses left right spec config error.BadConfig
bad_number left right spec config bad = inr (inl (inl (record { bad = bad; told = refl })))

pub told_cause : (left right : Table) (spec : ReconSpec) (config : PipeConfig) (e : PipeError) → IsTold (recon_fault left right spec.on) e → IsConfig config → ReconCauses left right spec config e
told_cause left right spec config e (inl memory) numbers = inl memory
told_cause left right spec config e (inr fault) numbers = inr (inl (inr (record { numbers = numbers; told = fault })))

pub too_many_left : (left right : Table) (spec : ReconSpec) (config : PipeConfig) → IsConfig config → recon_fault left right spec.on ≡ None → config.row_limit < length left.rows → ReconCauses left right spec config (error.TooMany 0)
too_many_left left right spec config numbers good many = inr (inr (record { sound = record { numbers = numbers; good = good }; ends = many }))

pub too_many_right : (left right : Table) (spec : ReconSpec) (config : PipeConfig) → IsConfig config → recon_fault left right spec.on ≡ None → config.row_limit < length right.rows → ReconCauses left right spec config (error.TooMany 1)
too_many_right left right spec config numbers good many = inr (inr (record { sound = record { numbers = numbers; good = good }; ends = many }))

-- no fault says that a run was stopped
abbrev Unstopped : Option PipeError → Type 0
Unstopped None = Unit {0}
Unstopped (Some e) = e ≡ error.Stopped → ⊥

of_else : (a b : Option PipeError) → Unstopped a → Unstopped b → Unstopped (or_else a b)
of_else (Some e) b h k = h
of_else None b h k = k

of_told : (holds : Bool) (e : PipeError) → (e ≡ error.Stopped → ⊥) → Unstopped (told holds e)
of_told true e h = h
of_told false e h = tt

of_name : (e : List ℕ → PipeError) (name : Option (List ℕ)) → ((n : List ℕ) → e n ≡ error.Stopped → ⊥) → Unstopped (told_name e name)
of_name e None h = tt
of_name e (Some n) h = h n

of_fault : (left right : Table) (on : List (List ℕ)) → Unstopped (recon_fault left right on)
of_fault left right on =
    of_else (lacks_name 0 left.schema on) (or_else (lacks_name 1 right.schema on) (or_else (types_fault left.schema right.schema on) (has_no_key on))) (of_name (error.UnknownColumn 0) _ (λ n same. cc))
    (of_else (lacks_name 1 right.schema on) (or_else (types_fault left.schema right.schema on) (has_no_key on)) (of_name (error.UnknownColumn 1) _ (λ n same. cc))
    (of_else (types_fault left.schema right.schema on) (has_no_key on) (of_told (types_differ left.schema right.schema on) (error.TypeMismatch 2) (λ same. cc)) (of_told (is_bad_key on) (error.BadJoin 2) (λ same. cc))))

pub told_unstopped : (left right : Table) (on : List (List ℕ)) (e : PipeError) → IsTold (recon_fault left right on) e → e ≡ error.Stopped → ⊥
told_unstopped left right on e (inl memory) same = cc
told_unstopped left right on e (inr fault) same = (subst (λ (o : Option PipeError). Unstopped o) fault (of_fault left right on)) same

-- ---- a refusal before the run, and the count of yes

pub quiet : (e : PipeError) (n : ℕ) → (e ≡ error.Stopped → ⊥) → Counts (stop_of e) n n
quiet error.BadConfig n h = inl (omega arith)
quiet (error.BadNode m) n h = inl (omega arith)
quiet (error.UnknownColumn m name) n h = inl (omega arith)
quiet (error.DuplicateName m name) n h = inl (omega arith)
quiet (error.TypeMismatch m) n h = inl (omega arith)
quiet (error.BadJoin m) n h = inl (omega arith)
quiet (error.BadSort m) n h = inl (omega arith)
quiet (error.TooMany m) n h = inl (omega arith)
quiet error.Stopped n h = absurd (h refl)
quiet error.Memory n h = inl (omega arith)

never_many : (left right : Table) (spec : ReconSpec) (limit : ℕ) → IsWithin limit left right spec → (n : ℕ) → limit < height_at left right spec n → ⊥
never_many left right spec limit within zero h = omega (arith, h, within.left_rows)
never_many left right spec limit within (suc zero) h = omega (arith, h, within.right_rows)
never_many left right spec limit within (suc (suc zero)) h = omega (arith, h, within.join_rows)
never_many left right spec limit within (suc (suc (suc n))) h = omega (arith, h)

ended_memory : (left right : Table) (spec : ReconSpec) (limit : ℕ) (e : PipeError) → IsWithin limit left right spec → ReconciliationEndsWith limit left right spec e → (e ≡ error.Stopped → ⊥) → e ≡ error.Memory
ended_memory left right spec limit error.BadConfig within h alone = absurd h
ended_memory left right spec limit (error.BadNode n) within h alone = absurd h
ended_memory left right spec limit (error.UnknownColumn n name) within h alone = absurd h
ended_memory left right spec limit (error.DuplicateName n name) within h alone = absurd h
ended_memory left right spec limit (error.TypeMismatch n) within h alone = absurd h
ended_memory left right spec limit (error.BadJoin n) within h alone = absurd h
ended_memory left right spec limit (error.BadSort n) within h alone = absurd h
ended_memory left right spec limit (error.TooMany n) within h alone = absurd (never_many left right spec limit within n h)
ended_memory left right spec limit error.Stopped within h alone = absurd (alone refl)
ended_memory left right spec limit error.Memory within h alone = refl

fault_none : (fault : Option PipeError) (e : PipeError) → fault ≡ None → fault ≡ Some e → ⊥
fault_none fault e none some = none-some e (sym none ∙ some)

pub early_memory : (left right : Table) (spec : ReconSpec) (config : PipeConfig) (e : PipeError) → ReconCauses left right spec config e → (e ≡ error.Stopped → ⊥) → IsSoundReconciliation left right spec config → IsWithin config.row_limit left right spec → e ≡ error.Memory
early_memory left right spec config e (inl memory) alone sound within = memory
early_memory left right spec config e (inr (inl (inl bad))) alone sound within = absurd (bad.bad sound.numbers)
early_memory left right spec config e (inr (inl (inr fault))) alone sound within = absurd (fault_none (recon_fault left right spec.on) e sound.good fault.told)
early_memory left right spec config e (inr (inr fails)) alone sound within = ended_memory left right spec config.row_limit e within fails.ends alone

-- ---- the run

pub few_codes : (schema : List Field) (spec : ReconSpec) (rows : List Row) (codes : List Code) (config : PipeConfig) → codes ≡ codes_of schema spec rows → length rows ≤ config.row_limit → IsConfig config → length codes ≤ 4294967294
few_codes schema spec rows codes config e few numbers =
    let many : length codes ≡ length rows = ap length e ∙ length-map rows (code_of schema spec) in
    omega (arith, many, few, numbers.small_limit)

pub recon_told : (lefts rights : List Code) (rows : List Row) (recon : Recon) (m n : ℕ) → Same rows (rows_of (join_plan lefts rights) join_root) → m ≡ length lefts → n ≡ length rights → AreLeastIn rows 1 3 m recon.left → AreLeastIn rows 3 1 n recon.right → recon ≡ recon_by lefts rights
recon_told lefts rights rows recon m n same e f left right =
    let joined = subst (λ (l : List Row). Same rows l) (rows_are lefts rights) same in
    let a : recon.left ≡ map (partner_among rights) lefts = left_classes lefts rights rows joined recon.left (subst (λ (k : ℕ). AreLeastIn rows 1 3 k recon.left) e left) in
    let b : recon.right ≡ map (partner_among lefts) rights = right_classes lefts rights rows joined recon.right (subst (λ (k : ℕ). AreLeastIn rows 3 1 k recon.right) f right) in
    ap (λ (ps : List Partner). record { left = ps; right = recon.right }) a
    ∙ ap (λ (ps : List Partner). record { left = map (partner_among rights) lefts; right = ps }) b

module _ (left right : Table) (spec : ReconSpec) (config : PipeConfig) (lefts rights : List Code) (coded : AreCodes left right spec lefts rights) where
  pub recon_is : (r : Result Recon PipeError) → IfOk r (λ recon. recon ≡ recon_by lefts rights) → IfOk r (λ recon. recon ≡ reconciliation left right spec)
  recon_is (Ok recon) h = h ∙ sym (coded_is left right spec lefts rights coded)
  recon_is (Err e) h = tt

  pub within_is : (r : Result Recon PipeError) → OnOk r (AllWithin config.row_limit (join_plan lefts rights) join_root) → OnOk r (IsWithin config.row_limit left right spec)
  within_is (Ok recon) h = within_are left right spec lefts rights coded config.row_limit h
  within_is (Err e) h = tt

  pub causes_are : (r : Result Recon PipeError) → IsSoundReconciliation left right spec config → IfErr r (plans.PlanEndsWith config.row_limit (join_plan lefts rights) join_root) → IfErr r (ReconCauses left right spec config)
  causes_are (Ok recon) sound h = tt
  causes_are (Err e) sound h = inr (inr (record { sound = sound; ends = ends_are left right spec lefts rights coded config.row_limit e h }))

  pub only_memory : (r : Result Recon PipeError) (stays : Type 0) → (AllWithin config.row_limit (join_plan lefts rights) join_root → stays → IfErr r IsMemory) → IsWithin config.row_limit left right spec → stays → IfErr r IsMemory
  only_memory r stays h within s = h (all_within left right spec lefts rights coded config.row_limit within) s

-- what is true is true where there is a value
pub always : (r : Result Recon PipeError) (P : Type 0) → P → OnOk r P
always (Ok recon) P p = p
always (Err e) P p = tt
