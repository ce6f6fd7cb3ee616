-- What the check of a plan grants at each node under the root.
use Rattle.std.proofs.Common.{◌≡◌, ℕ, zero, suc, ◌+◌, ◌<◌, Bool, true, false, cond, ◌||◌, List, length, refl, ap, sym, subst, ◌∙◌, arith, Option, Some, None}
use Rattle.std.specs.Prelude.{nat_lt, nat_le}
use Rattle.std.specs.List.{list_any, range_with_len}
use Rattle.std.proofs.lemmas.Bool.{leb-false}
use Rattle.pipe_schema.specs.Schema.{names_of, first_repeated}
use Rattle.pipe_plan.specs.Node.{Node}
use Rattle.pipe_plan.specs.Plan.{Plan}
use Rattle.pipe_plan.specs.Under.{node_at, inputs_of, is_under}
use Rattle.pipe_plan.specs.Schemas.{node_schema, schemas_to, schema_of}
use Rattle.pipe_plan.specs.Faults.{or_else, told, told_name, is_bad_node, is_read_below, is_void, repeats, unknown_in, duplicate_in, is_mistyped, fault_at, fault_under, first_fault, plan_fault, IsWellFormed}
use Rattle.pipe_plan.specs.declared.error.PipeError.{PipeError}
use Rattle.pipe_plan.specs.declared.error.PipeError.TheVariants as error
use Rattle.pipe_check.specs.Checking.{fault_with}
use Rattle.pipe_check.proofs.Agree.{Agree, agree-members, schema-agree, fault-agree}
use Rattle.pipe_check.proofs.Walks.{member, none-member, schema-own, schema-below, under-input, under-there}
use Rattle.pipe_check.proofs.WellFormed.{root_there}

pub record Granted (plan : Plan) (root n : ℕ) (x : Node) : Type 0 where
  pub there : n < length plan.nodes
  pub fed : (i : ℕ) → member i (inputs_of x) ≡ true → (i < n) × (is_under plan.nodes root i ≡ true)
  pub made : schema_of plan n ≡ node_schema plan.frames (schema_of plan) x
  pub distinct : first_repeated (names_of (schema_of plan n)) ≡ None
  pub known : unknown_in plan.frames (schema_of plan) x ≡ None
  pub typed : is_mistyped (schema_of plan) x ≡ false

-- ---- parts of what isn't there

first_none : {X : Type 0} (a b : Option X) → or_else a b ≡ None → a ≡ None
first_none (Some x) b e = cc
first_none None b e = refl

second_none : {X : Type 0} (a b : Option X) → or_else a b ≡ None → b ≡ None
second_none (Some x) b e = cc
second_none None b e = e

untold : (b : Bool) (e : PipeError) → told b e ≡ None → b ≡ false
untold true e h = cc
untold false e h = refl

unnamed : (e : List ℕ → PipeError) (o : Option (List ℕ)) → told_name e o ≡ None → o ≡ None
unnamed e (Some name) h = cc
unnamed e None h = refl

first_false : (a b : Bool) → (a || b) ≡ false → a ≡ false
first_false true b e = cc
first_false false b e = refl

-- ---- the fault of a node

each_unfaulted : (plan : Plan) (root a n k i : ℕ) → k ≡ a + i → i < n → first_fault plan root (range_with_len a n) ≡ None → fault_under plan root k ≡ None
each_unfaulted plan root a zero k i e lt none = absurd (omega arith)
each_unfaulted plan root a (suc n) k zero e lt none = let is : a ≡ k = omega arith in subst (λ m. fault_under plan root m ≡ None) is (first_none (fault_under plan root a) _ none)
each_unfaulted plan root a (suc n) k (suc i) e lt none = each_unfaulted plan root (a + 1) n k i (omega arith) (omega arith) (second_none (fault_under plan root a) _ none)

faults_there : (plan : Plan) (root : ℕ) → plan_fault plan root ≡ None → first_fault plan root (range_with_len 0 (length plan.nodes)) ≡ None
faults_there plan root e =
    let split : (b : Bool) → cond b (first_fault plan root (range_with_len 0 (length plan.nodes))) (Some (error.BadNode root)) ≡ None → first_fault plan root (range_with_len 0 (length plan.nodes)) ≡ None = elim [
      | true ↦ λ h. h
      | false ↦ λ h. cc
    ] in split (nat_lt root (length plan.nodes)) e

unfaulted : (plan : Plan) (root n : ℕ) → plan_fault plan root ≡ None → n < length plan.nodes → is_under plan.nodes root n ≡ true → fault_at plan root n ≡ None
unfaulted plan root n none lt under =
    let here : fault_under plan root n ≡ None = each_unfaulted plan root 0 (length plan.nodes) n n (omega arith) lt (faults_there plan root none) in
    rw under at here

-- ---- all of it

pub granted : (plan : Plan) (root n : ℕ) → IsWellFormed plan root → is_under plan.nodes root n ≡ true → Granted plan root n (node_at plan.nodes n)
granted plan root n good under =
    let nodes = plan.nodes in
    let x = node_at nodes n in
    let rooted : root < length nodes = root_there plan root good.faultless in
    let there : n < length nodes = under-there nodes n (length nodes) root rooted (omega arith) under in
    let none : fault_at plan root n ≡ None = unfaulted plan root n good.faultless there under in
    let sound : is_bad_node plan root n ≡ false = untold (is_bad_node plan root n) (error.BadNode n) (first_none (told (is_bad_node plan root n) (error.BadNode n)) _ none) in
    let three : (list_any (nat_le n) (inputs_of x) || repeats (inputs_of x) || list_any (is_read_below nodes root n) (inputs_of x)) ≡ false = first_false _ (is_void plan.frames x) sound in
    let smaller : list_any (nat_le n) (inputs_of x) ≡ false = first_false _ (repeats (inputs_of x)) (first_false _ (list_any (is_read_below nodes root n) (inputs_of x)) three) in
    let below : (i : ℕ) → member i (inputs_of x) ≡ true → i < n = λ i m. leb-false n i (none-member (nat_le n) (inputs_of x) i smaller m) in
    let same : Agree (schemas_to plan n) (schema_of plan) (inputs_of x) = agree-members (schemas_to plan n) (schema_of plan) (inputs_of x) (λ i m. schema-below plan n i (below i m) there) in
    let now : fault_with (is_bad_node plan root n) plan.frames (schema_of plan) n x ≡ None = sym (fault-agree (is_bad_node plan root n) plan.frames (schemas_to plan n) (schema_of plan) n x same) ∙ none in
    let from_names = second_none (told (is_bad_node plan root n) (error.BadNode n)) _ now in
    let from_once = second_none (told_name (error.UnknownColumn n) (unknown_in plan.frames (schema_of plan) x)) _ from_names in
    let from_types = second_none (told_name (error.DuplicateName n) (duplicate_in plan.frames (schema_of plan) x)) _ from_once in
    let made : schema_of plan n ≡ node_schema plan.frames (schema_of plan) x = schema-own plan n there ∙ schema-agree plan.frames (schemas_to plan n) (schema_of plan) x same in
    let twice : duplicate_in plan.frames (schema_of plan) x ≡ None = unnamed (error.DuplicateName n) (duplicate_in plan.frames (schema_of plan) x) (first_none (told_name (error.DuplicateName n) (duplicate_in plan.frames (schema_of plan) x)) _ from_once) in
    record {
      there = there;
      fed = λ i m. (below i m, under-input nodes root n i rooted there under (below i m) m);
      made = made;
      distinct = ap (λ s. first_repeated (names_of s)) made ∙ first_none (first_repeated (names_of (node_schema plan.frames (schema_of plan) x))) _ twice;
      known = unnamed (error.UnknownColumn n) (unknown_in plan.frames (schema_of plan) x) (first_none (told_name (error.UnknownColumn n) (unknown_in plan.frames (schema_of plan) x)) _ from_names);
      typed = untold (is_mistyped (schema_of plan) x) (error.TypeMismatch n) (first_none (told (is_mistyped (schema_of plan) x) (error.TypeMismatch n)) _ from_types);
    }
