-- What a plan without a fault grants.
use Rattle.std.proofs.Common.{◌≡◌, ℕ, zero, suc, ◌+◌, ◌<◌, Bool, true, false, cond, ◌||◌, length, refl, subst, arith, Option, Some, None}
use Rattle.std.specs.Prelude.{nat_lt, nat_le}
use Rattle.std.specs.List.{list_any, range_with_len}
use Rattle.std.proofs.lemmas.Bool.Decides.{Decides-ltb}
use Rattle.pipe_plan.specs.Plan.{Plan}
use Rattle.pipe_plan.specs.Under.{node_at, inputs_of, is_under}
use Rattle.pipe_plan.specs.Faults.{or_else, told, is_bad_node, fault_at, fault_under, first_fault, plan_fault}
use Rattle.pipe_plan.specs.declared.error.PipeError.{PipeError}
use Rattle.pipe_plan.specs.declared.error.PipeError.TheVariants as error
use Rattle.pipe_events.specs.PlanStages.{PlansWithoutFault}

first_none : {X : Type 0} (a b : Option X) → or_else a b ≡ None → a ≡ None
first_none (Some x) b e = cc
first_none None b e = refl

second_none : {X : Type 0} (a b : Option X) → or_else a b ≡ None → b ≡ None
second_none (Some x) b e = cc
second_none None b e = e

untold : (b : Bool) (e : PipeError) → told b e ≡ None → b ≡ false
untold true e h = cc
untold false e h = refl

first_false : (a b : Bool) → (a || b) ≡ false → a ≡ false
first_false true b e = cc
first_false false b e = refl

module _ (plan : Plan) (root : ℕ) where
  -- no node of a range has a fault
  each_unfaulted : (a n k i : ℕ) → k ≡ a + i → i < n → first_fault plan root (range_with_len a n) ≡ None → fault_under plan root k ≡ None
  each_unfaulted a zero k i e lt none = absurd (omega arith)
  each_unfaulted a (suc n) k zero e lt none = let is : a ≡ k = omega arith in subst (λ m. fault_under plan root m ≡ None) is (first_none (fault_under plan root a) _ none)
  each_unfaulted a (suc n) k (suc i) e lt none = each_unfaulted (a + 1) n k i (omega arith) (omega arith) (second_none (fault_under plan root a) _ none)

  root_there : plan_fault plan root ≡ None → (root < length plan.nodes) × (first_fault plan root (range_with_len 0 (length plan.nodes)) ≡ None)
  root_there =
      elim (nat_lt root (length plan.nodes)) as (λ b. nat_lt root (length plan.nodes) ≡ b → cond b (first_fault plan root (range_with_len 0 (length plan.nodes))) (Some (error.BadNode root)) ≡ None → (root < length plan.nodes) × (first_fault plan root (range_with_len 0 (length plan.nodes)) ≡ None)) [
        | true ↦ λ e none. ((Decides-ltb root (length plan.nodes)).0 e, none)
        | false ↦ λ _ none. cc
      ] refl

  smaller : first_fault plan root (range_with_len 0 (length plan.nodes)) ≡ None → (k : ℕ) → k < length plan.nodes → is_under plan.nodes root k ≡ true → list_any (nat_le k) (inputs_of (node_at plan.nodes k)) ≡ false
  smaller none k lt under =
      let here : fault_under plan root k ≡ None = each_unfaulted 0 (length plan.nodes) k k (omega arith) lt none in
      let at_k : fault_at plan root k ≡ None = rw under at here in
      let good : is_bad_node plan root k ≡ false = untold (is_bad_node plan root k) (error.BadNode k) (first_none (told (is_bad_node plan root k) (error.BadNode k)) _ at_k) in
      first_false (list_any (nat_le k) (inputs_of (node_at plan.nodes k))) _ (first_false _ _ (first_false _ _ good))

pub without_fault : PlansWithoutFault
without_fault plan root none = let there = root_there plan root none in (there.0, smaller plan root there.1)
