-- What the check of a plan grants at each node under the root.
use Rattle.std.proofs.Common.{◌≡◌, ℕ, zero, suc, ◌+◌, ◌<◌, Bool, true, false, cond, eqb, ◌||◌, List, [], ◌∷◌, map, length, refl, ap, sym, subst, ◌∙◌, arith, Option, Some, None}
use Rattle.std.specs.Prelude.{nat_lt, nat_le}
use Rattle.std.specs.List.{list_any, range_with_len}
use Rattle.std.proofs.lemmas.Bool.{leb-false}
use Rattle.pipe_schema.specs.Schema.{names_of, first_repeated}
use Rattle.pipe_plan.specs.Node.{Node}
use Rattle.pipe_plan.specs.Plan.{Plan}
use Rattle.pipe_plan.specs.Under.{node_at, inputs_of, is_under}
use Rattle.pipe_plan.specs.Schemas.{node_schema, schemas_to, schema_of}
use Rattle.pipe_plan.specs.Faults.{or_else, told, told_name, is_bad_node, is_read_below, is_void, repeats, unknown_in, duplicate_in, is_mistyped, is_bad_join, is_bad_sort, fault_at, fault_under, first_fault, plan_fault, IsWellFormed}
use Rattle.pipe_plan.specs.declared.error.PipeError.{PipeError}
use Rattle.pipe_plan.specs.declared.error.PipeError.TheVariants as error
use Rattle.pipe_check.specs.Checking.{fault_with}
use Rattle.pipe_check.proofs.Agree.{Agree, agree-members, schema-agree, fault-agree}
use Rattle.pipe_check.proofs.Walks.{member, none-member, itself, walk-at, walk-below, schema-own, schema-below, under-input, under-there}
use Rattle.pipe_check.proofs.WellFormed.{root_there}
use Rattle.pipe_plan.specs.PlanRows.{node_rows, rows_at, rows_to, rows_of}
use Rattle.pipe_events.specs.Fits.{FramesFit}
use Rattle.pipe_events.proofs.Plans.{rows_fit}
use Rattle.pipe_rules.specs.Placed.{IsReady}
use Rattle.pipe_rules.proofs.Renumber.{own-inputs, rows-renumbered}

pub map-members : {A : Type 0} (f g : ℕ → A) (xs : List ℕ) → ((i : ℕ) → member i xs ≡ true → f i ≡ g i) → map f xs ≡ map g xs
map-members f g [] h = refl
map-members f g (x ∷ xs) h =
    let self : eqb x x ≡ true = itself x in
    ap (λ a. a ∷ map f xs) (h x (rw self refl))
    ∙ ap (λ l. g x ∷ l) (map-members f g xs (λ i m. h i (elim (eqb x i) as (λ b. (b || member i xs) ≡ true) [ true ↦ refl | false ↦ m ])))

pub record Granted (plan : Plan) (root n : ℕ) (x : Node) : Type 0 where
  pub there : n < length plan.nodes
  pub fed : (i : ℕ) → member i (inputs_of x) ≡ true → (i < n) × (is_under plan.nodes root i ≡ true)
  pub made : schema_of plan n ≡ node_schema plan.frames (schema_of plan) x
  pub twice : duplicate_in plan.frames (schema_of plan) x ≡ None
  pub distinct : first_repeated (names_of (schema_of plan n)) ≡ None
  pub once : repeats (inputs_of x) ≡ false
  pub unread : list_any (is_read_below plan.nodes root n) (inputs_of x) ≡ false
  pub whole : is_void plan.frames x ≡ false
  pub known : unknown_in plan.frames (schema_of plan) x ≡ None
  pub typed : is_mistyped (schema_of plan) x ≡ false
  pub joinable : is_bad_join x ≡ false
  pub sortable : is_bad_sort x ≡ false

-- ---- parts of what isn't there

first_none : {X : Type 0} (a b : Option X) → or_else a b ≡ None → a ≡ None
first_none (Some x) b e = cc
first_none None b e = refl

second_none : {X : Type 0} (a b : Option X) → or_else a b ≡ None → b ≡ None
second_none (Some x) b e = cc
second_none None b e = e

untold : (b : Bool) (e : PipeError) → told b e ≡ None → b ≡ false
untold true e h = cc
untold false e h = refl

unnamed : (e : List ℕ → PipeError) (o : Option (List ℕ)) → told_name e o ≡ None → o ≡ None
unnamed e (Some name) h = cc
unnamed e None h = refl

pub first_false : (a b : Bool) → (a || b) ≡ false → a ≡ false
first_false true b e = cc
first_false false b e = refl

pub second_false : (a b : Bool) → (a || b) ≡ false → b ≡ false
second_false true b e = cc
second_false false b e = e

-- ---- the fault of a node

each_unfaulted : (plan : Plan) (root a n k i : ℕ) → k ≡ a + i → i < n → first_fault plan root (range_with_len a n) ≡ None → fault_under plan root k ≡ None
each_unfaulted plan root a zero k i e lt none = absurd (omega arith)
each_unfaulted plan root a (suc n) k zero e lt none = let is : a ≡ k = omega arith in subst (λ m. fault_under plan root m ≡ None) is (first_none (fault_under plan root a) _ none)
each_unfaulted plan root a (suc n) k (suc i) e lt none = each_unfaulted plan root (a + 1) n k i (omega arith) (omega arith) (second_none (fault_under plan root a) _ none)

faults_there : (plan : Plan) (root : ℕ) → plan_fault plan root ≡ None → first_fault plan root (range_with_len 0 (length plan.nodes)) ≡ None
faults_there plan root e =
    let split : (b : Bool) → cond b (first_fault plan root (range_with_len 0 (length plan.nodes))) (Some (error.BadNode root)) ≡ None → first_fault plan root (range_with_len 0 (length plan.nodes)) ≡ None = elim [
      | true ↦ λ h. h
      | false ↦ λ h. cc
    ] in split (nat_lt root (length plan.nodes)) e

unfaulted : (plan : Plan) (root n : ℕ) → plan_fault plan root ≡ None → n < length plan.nodes → is_under plan.nodes root n ≡ true → fault_at plan root n ≡ None
unfaulted plan root n none lt under =
    let here : fault_under plan root n ≡ None = each_unfaulted plan root 0 (length plan.nodes) n n (omega arith) lt (faults_there plan root none) in
    rw under at here

-- ---- all of it

pub granted : (plan : Plan) (root n : ℕ) → IsWellFormed plan root → is_under plan.nodes root n ≡ true → Granted plan root n (node_at plan.nodes n)
granted plan root n good under =
    let nodes = plan.nodes in
    let x = node_at nodes n in
    let rooted : root < length nodes = root_there plan root good.faultless in
    let there : n < length nodes = under-there nodes n (length nodes) root rooted (omega arith) under in
    let none : fault_at plan root n ≡ None = unfaulted plan root n good.faultless there under in
    let sound : is_bad_node plan root n ≡ false = untold (is_bad_node plan root n) (error.BadNode n) (first_none (told (is_bad_node plan root n) (error.BadNode n)) _ none) in
    let three : (list_any (nat_le n) (inputs_of x) || repeats (inputs_of x) || list_any (is_read_below nodes root n) (inputs_of x)) ≡ false = first_false _ (is_void plan.frames x) sound in
    let smaller : list_any (nat_le n) (inputs_of x) ≡ false = first_false _ (repeats (inputs_of x)) (first_false _ (list_any (is_read_below nodes root n) (inputs_of x)) three) in
    let below : (i : ℕ) → member i (inputs_of x) ≡ true → i < n = λ i m. leb-false n i (none-member (nat_le n) (inputs_of x) i smaller m) in
    let same : Agree (schemas_to plan n) (schema_of plan) (inputs_of x) = agree-members (schemas_to plan n) (schema_of plan) (inputs_of x) (λ i m. schema-below plan n i (below i m) there) in
    let now : fault_with (is_bad_node plan root n) plan.frames (schema_of plan) n x ≡ None = sym (fault-agree (is_bad_node plan root n) plan.frames (schemas_to plan n) (schema_of plan) n x same) ∙ none in
    let from_names = second_none (told (is_bad_node plan root n) (error.BadNode n)) _ now in
    let from_once = second_none (told_name (error.UnknownColumn n) (unknown_in plan.frames (schema_of plan) x)) _ from_names in
    let from_types = second_none (told_name (error.DuplicateName n) (duplicate_in plan.frames (schema_of plan) x)) _ from_once in
    let from_joins = second_none (told (is_mistyped (schema_of plan) x) (error.TypeMismatch n)) _ from_types in
    let from_sorts = second_none (told (is_bad_join x) (error.BadJoin n)) _ from_joins in
    let made : schema_of plan n ≡ node_schema plan.frames (schema_of plan) x = schema-own plan n there ∙ schema-agree plan.frames (schemas_to plan n) (schema_of plan) x same in
    let twice : duplicate_in plan.frames (schema_of plan) x ≡ None = unnamed (error.DuplicateName n) (duplicate_in plan.frames (schema_of plan) x) (first_none (told_name (error.DuplicateName n) (duplicate_in plan.frames (schema_of plan) x)) _ from_once) in
    record {
      there = there;
      fed = λ i m. (below i m, under-input nodes root n i rooted there under (below i m) m);
      made = made;
      twice = twice;
      distinct = ap (λ s. first_repeated (names_of s)) made ∙ first_none (first_repeated (names_of (node_schema plan.frames (schema_of plan) x))) _ twice;
      once = second_false (list_any (nat_le n) (inputs_of x)) (repeats (inputs_of x)) (first_false _ (list_any (is_read_below nodes root n) (inputs_of x)) three);
      unread = second_false _ (list_any (is_read_below nodes root n) (inputs_of x)) three;
      whole = second_false _ (is_void plan.frames x) sound;
      known = unnamed (error.UnknownColumn n) (unknown_in plan.frames (schema_of plan) x) (first_none (told_name (error.UnknownColumn n) (unknown_in plan.frames (schema_of plan) x)) _ from_names);
      typed = untold (is_mistyped (schema_of plan) x) (error.TypeMismatch n) (first_none (told (is_mistyped (schema_of plan) x) (error.TypeMismatch n)) _ from_types);
      joinable = untold (is_bad_join x) (error.BadJoin n) (first_none (told (is_bad_join x) (error.BadJoin n)) _ from_joins);
      sortable = untold (is_bad_sort x) (error.BadSort n) from_sorts;
    }

-- the rows of a node are made of those of its inputs
pub rows-granted : (plan : Plan) (root n : ℕ) → IsWellFormed plan root → is_under plan.nodes root n ≡ true → rows_of plan n ≡ node_rows plan.frames (schema_of plan) (rows_of plan) (node_at plan.nodes n)
rows-granted plan root n good under =
    let x = node_at plan.nodes n in
    let g = granted plan root n good under in
    let same_schemas : map (schemas_to plan n) (inputs_of x) ≡ map (schema_of plan) (inputs_of x) = map-members (schemas_to plan n) (schema_of plan) (inputs_of x) (λ i m. schema-below plan n i (g.fed i m).0 g.there) in
    let same_rows : map (rows_to plan n) (inputs_of x) ≡ map (rows_of plan) (inputs_of x) = map-members (rows_to plan n) (rows_of plan) (inputs_of x) (λ i m. (let lt = (g.fed i m).0 in let there = g.there in walk-below [] (rows_at plan) n (length plan.nodes) i lt (omega arith))) in
    walk-at [] (rows_at plan) (length plan.nodes) n g.there
    ∙ ap (node_rows plan.frames (schemas_to plan n) (rows_to plan n)) (sym (own-inputs x))
    ∙ rows-renumbered plan.frames (schemas_to plan n) (schema_of plan) (rows_to plan n) (rows_of plan) x (inputs_of x) same_schemas same_rows

-- a node is ready for filters to go below it
pub ready : (plan : Plan) (root n : ℕ) → IsWellFormed plan root → FramesFit plan → is_under plan.nodes root n ≡ true → IsReady plan.frames (schema_of plan) (rows_of plan) (node_at plan.nodes n)
ready plan root n good frames under =
    let g = granted plan root n good under in
    record {
      known = g.known;
      typed = g.typed;
      apart = g.once;
      fit = λ i m. rows_fit plan root good.faultless frames i (g.fed i m).1;
      once = λ i m. (granted plan root i good (g.fed i m).1).distinct;
    }
