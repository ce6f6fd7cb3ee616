-- The plan's fault, found node by node.
use Rattle.std.proofs.Common.{◌≡◌, ℕ, suc, ◌+◌, ◌-◌, ◌<◌, ◌≤◌, true, cond, ◌∷◌, Option, Some, None, length, ap, sym, ◌∙◌, arith, inl, inr}
use Rattle.std.specs.Prelude.{nat_lt}
use Rattle.std.specs.List.{range_with_len}
use Rattle.std.proofs.lemmas.Bool.{lt-ltb}
use Rattle.pipe_plan.specs.Plan.{Plan}
use Rattle.pipe_plan.specs.Faults.{or_else, fault_under, first_fault, plan_fault}
use Rattle.pipe_check.specs.Checked.{MemoryOr}
use Rattle.pipe_plan.specs.declared.error.PipeError.{PipeError}
use Rattle.pipe_plan.specs.declared.error.PipeError.TheVariants as error

range-next : (m n : ℕ) → m < n → range_with_len m (n - m) ≡ m ∷ range_with_len (m + 1) (n - (m + 1))
range-next m n lt = let e : n - m ≡ suc (n - (m + 1)) = omega arith in ap (range_with_len m) e

-- what is left to look at
abbrev pub faults_from : Plan → ℕ → ℕ → Option PipeError
faults_from plan root n = first_fault plan root (range_with_len n (length plan.nodes - n))

pub faults-start : (plan : Plan) (root : ℕ) → root < length plan.nodes → faults_from plan root 0 ≡ plan_fault plan root
faults-start plan root lt =
    let n = length plan.nodes in
    let there : nat_lt root n ≡ true = lt-ltb root n lt in
    let all : n - 0 ≡ n = omega arith in
    ap (λ m. first_fault plan root (range_with_len 0 m)) all ∙ sym (ap (λ b. cond b (first_fault plan root (range_with_len 0 n)) (Some (error.BadNode root))) there)

faults-next : (plan : Plan) (root n : ℕ) → n < length plan.nodes → faults_from plan root n ≡ or_else (fault_under plan root n) (faults_from plan root (n + 1))
faults-next plan root n lt = ap (first_fault plan root) (range-next n (length plan.nodes) lt)

pub faults-passed : (plan : Plan) (root n : ℕ) → n < length plan.nodes → fault_under plan root n ≡ None → faults_from plan root (n + 1) ≡ faults_from plan root n
faults-passed plan root n lt none = sym (faults-next plan root n lt ∙ ap (λ f. or_else f (faults_from plan root (n + 1))) none)

pub faults-told : (plan : Plan) (root n : ℕ) (e : PipeError) → n < length plan.nodes → faults_from plan root n ≡ plan_fault plan root → MemoryOr (fault_under plan root n) e → MemoryOr (plan_fault plan root) e
faults-told plan root n e lt rest (inl m) = inl m
faults-told plan root n e lt rest (inr h) = inr (sym rest ∙ faults-next plan root n lt ∙ ap (λ f. or_else f (faults_from plan root (n + 1))) h)

pub faults-end : (plan : Plan) (root n : ℕ) → length plan.nodes ≤ n → faults_from plan root n ≡ plan_fault plan root → plan_fault plan root ≡ None
faults-end plan root n le rest =
    let none : length plan.nodes - n ≡ 0 = omega arith in
    sym rest ∙ ap (λ m. first_fault plan root (range_with_len n m)) none

pub memory-same : (a b : Option PipeError) (e : PipeError) → a ≡ b → MemoryOr a e → MemoryOr b e
memory-same a b e same (inl m) = inl m
memory-same a b e same (inr h) = inr (sym same ∙ h)
