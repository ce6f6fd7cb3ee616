-- No check says that a run was stopped.
use Rattle.std.proofs.Common.{◌≡◌, ℕ, Bool, true, false, List, [], ◌∷◌, Option, Some, None, Result, inl, inr, refl, subst, length}
use Rattle.std.specs.Prelude.{if◌then◌else◌, nat_le, nat_lt, IfErr, IsErrOf, ⊤}
use Rattle.std.specs.List.{range_with_len}
use Rattle.pipe_check.specs.Checked.{MemoryOr, check_fault}
use Rattle.pipe_exec.specs.Sound.{CheckCauses}
use Rattle.pipe_schema.specs.declared.field.Field.{Field}
use Rattle.pipe_plan.specs.Faults.{duplicate_in, first_fault, fault_at, fault_under, is_bad_join, is_bad_node, is_bad_sort, is_mistyped, most_nodes, or_else, plan_fault, told, told_name, unknown_in}
use Rattle.pipe_plan.specs.Node.{Node}
use Rattle.pipe_plan.specs.Schemas.{schemas_to}
use Rattle.pipe_plan.specs.Under.{is_under, node_at}
use Rattle.pipe_plan.specs.Plan.{Plan}
use Rattle.pipe_plan.specs.declared.config.PipeConfig.{PipeConfig}
use Rattle.pipe_plan.specs.declared.error.PipeError.{PipeError}
use Rattle.pipe_plan.specs.declared.error.PipeError.TheVariants as error

-- no error, or one that isn't Stopped
abbrev Unstopped : Option PipeError → Type 0
Unstopped None = ⊤
Unstopped (Some e) = e ≡ error.Stopped → ⊥

of_else : (a b : Option PipeError) → Unstopped a → Unstopped b → Unstopped (or_else a b)
of_else (Some e) b h k = h
of_else None b h k = k

of_told : (holds : Bool) (e : PipeError) → (e ≡ error.Stopped → ⊥) → Unstopped (told holds e)
of_told true e h = h
of_told false e h = tt

of_name : (e : List ℕ → PipeError) (name : Option (List ℕ)) → ((n : List ℕ) → e n ≡ error.Stopped → ⊥) → Unstopped (told_name e name)
of_name e None h = tt
of_name e (Some n) h = h n

of_choice : (b : Bool) (x y : Option PipeError) → Unstopped x → Unstopped y → Unstopped (if b then x else y)
of_choice true x y h k = h
of_choice false x y h k = k

of_node : (plan : Plan) (root n : ℕ) → Unstopped (fault_at plan root n)
of_node plan root n =
    let x : Node = node_at plan.nodes n in
    let schema : ℕ → List Field = schemas_to plan n in
    let first : Option PipeError = told (is_bad_node plan root n) (error.BadNode n) in
    let second : Option PipeError = told_name (error.UnknownColumn n) (unknown_in plan.frames schema x) in
    let third : Option PipeError = told_name (error.DuplicateName n) (duplicate_in plan.frames schema x) in
    let fourth : Option PipeError = told (is_mistyped schema x) (error.TypeMismatch n) in
    let fifth : Option PipeError = told (is_bad_join x) (error.BadJoin n) in
    let sixth : Option PipeError = told (is_bad_sort x) (error.BadSort n) in
    of_else first (or_else second (or_else third (or_else fourth (or_else fifth sixth)))) (of_told (is_bad_node plan root n) (error.BadNode n) (λ same. cc))
    (of_else second (or_else third (or_else fourth (or_else fifth sixth))) (of_name (error.UnknownColumn n) (unknown_in plan.frames schema x) (λ name same. cc))
    (of_else third (or_else fourth (or_else fifth sixth)) (of_name (error.DuplicateName n) (duplicate_in plan.frames schema x) (λ name same. cc))
    (of_else fourth (or_else fifth sixth) (of_told (is_mistyped schema x) (error.TypeMismatch n) (λ same. cc))
    (of_else fifth sixth (of_told (is_bad_join x) (error.BadJoin n) (λ same. cc))
    (of_told (is_bad_sort x) (error.BadSort n) (λ same. cc))))))

of_first : (plan : Plan) (root : ℕ) (ns : List ℕ) → Unstopped (first_fault plan root ns)
of_first plan root [] = tt
of_first plan root (n ∷ ns) = of_else (fault_under plan root n) (first_fault plan root ns) (of_choice (is_under plan.nodes root n) (fault_at plan root n) None (of_node plan root n) tt) (of_first plan root ns)

of_plan : (plan : Plan) (root : ℕ) → Unstopped (plan_fault plan root)
of_plan plan root =
    let nodes : List ℕ = range_with_len 0 (length plan.nodes) in
    of_choice (nat_lt root (length plan.nodes)) (first_fault plan root nodes) (Some (error.BadNode root)) (of_first plan root nodes) (λ same. cc)

of_check : (plan : Plan) (root : ℕ) → Unstopped (check_fault plan root)
of_check plan root = of_choice (nat_le (length plan.nodes) most_nodes) (plan_fault plan root) (Some (error.TooMany most_nodes)) (of_plan plan root) (λ same. cc)

memory_or : (plan : Plan) (root : ℕ) (e : PipeError) → MemoryOr (check_fault plan root) e → e ≡ error.Stopped → ⊥
memory_or plan root e (inl memory) same = cc
memory_or plan root e (inr fault) same =
    let none : Unstopped (Some e) = subst (λ (o : Option PipeError). Unstopped o) fault (of_check plan root) in
    none same

pub checked_unstopped : {T : Type 0} (r : Result T PipeError) (plan : Plan) (root : ℕ) → IfErr r (MemoryOr (check_fault plan root)) → IsErrOf r error.Stopped → ⊥
checked_unstopped {T} r plan root h k =
    let here : MemoryOr (check_fault plan root) error.Stopped = subst (λ (q : Result T PipeError). IfErr q (MemoryOr (check_fault plan root))) k h in
    memory_or plan root error.Stopped here refl

pub refused_unstopped : (plan : Plan) (root : ℕ) (config : PipeConfig) (e : PipeError) → CheckCauses plan root config e → e ≡ error.Stopped → ⊥
refused_unstopped plan root config e (inl memory) same = cc
refused_unstopped plan root config e (inr (inl bad)) same = let told = bad.told in cc
refused_unstopped plan root config e (inr (inr fault)) same = memory_or plan root e (inr fault.told) same
