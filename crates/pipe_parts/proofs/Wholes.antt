-- A node wished whole has one choice: each scan under it whole.
use Rattle.std.proofs.Common.{◌≡◌, ℕ, zero, suc, ◌<◌, true, List, [], ◌∷◌, ◌++◌, Option, Some, None, refl, ap, sym, subst, ◌∙◌, arith, inl, inr}
use Rattle.std.specs.List.{flat_map}
use Rattle.pipe_schema.specs.declared.field.Field.{Field}
use Rattle.pipe_plan.specs.Node.{Node}
use Rattle.pipe_plan.specs.Node as node
use Rattle.pipe_plan.specs.Plan.{Plan}
use Rattle.pipe_plan.specs.Under.{inputs_of, is_under, node_at}
use Rattle.pipe_plan.specs.Schemas.{schema_of}
use Rattle.pipe_plan.specs.Faults.{IsWellFormed}
use Rattle.pipe_plan.specs.declared.ir.PlanSlice.{PlanSlice}
use Rattle.pipe_check.proofs.Walks.{member}
use Rattle.pipe_rules.specs.Placed.{first_input}
use Rattle.pipe_parts.specs.Wishes.{alike, slice_ways, ways}
use Rattle.pipe_parts.specs.Choices.{Choice, IsIn, choices_for, choices_of, in_pairs, node_choices}
use Rattle.pipe_parts.specs.declared.wish.Wish.{Wish}
use Rattle.pipe_parts.specs.declared.wish.Wish.TheVariants.{Whole}
use Rattle.pipe_parts.proofs.Granted.{granted}
use Rattle.pipe_parts.proofs.Own.{own, first-member, later-member}

record IsOne (xs : List Choice) : Type 0 where
  pub choice : Choice
  pub one : xs ≡ choice ∷ []

pairs-one : (xs ys : List Choice) → IsOne xs → IsOne ys → IsOne (in_pairs xs ys)
pairs-one xs ys a b = record {
  choice = a.choice ++ b.choice;
  one = ap (λ l. in_pairs l ys) a.one ∙ ap (in_pairs (a.choice ∷ [])) b.one;
}

for-one : (C : ℕ → Wish → List Choice) (is : List ℕ) → ((i : ℕ) → member i is ≡ true → IsOne (C i Whole)) → IsOne (choices_for C is (alike Whole is))
for-one C [] h = record { choice = []; one = refl }
for-one C (i ∷ is) h = pairs-one (C i Whole) (choices_for C is (alike Whole is)) (h i (first-member i is)) (for-one C is (λ k m. h k (later-member i k is m)))

way-one : (f : List Wish → List Choice) (way : List Wish) → IsOne (f way) → IsOne (flat_map f (way ∷ []))
way-one f way h = record { choice = h.choice; one = ap (λ l. l ++ []) h.one }

module _ (C : ℕ → Wish → List Choice) (input : List Field) (n : ℕ) where
  sorted-one : (i : ℕ) (slice : Option PlanSlice) → IsOne (choices_for C (i ∷ []) (Whole ∷ [])) → IsOne (flat_map (choices_for C (i ∷ [])) (slice_ways slice Whole))
  sorted-one i None h = way-one (choices_for C (i ∷ [])) (Whole ∷ []) h
  sorted-one i (Some slice) h = way-one (choices_for C (i ∷ [])) (Whole ∷ []) h

  node-one : (x : Node) → ((i : ℕ) → member i (inputs_of x) ≡ true → IsOne (C i Whole)) → IsOne (node_choices C n x (ways input n x Whole) Whole)
  node-one (node.DataFrameScan frame columns) h = record { choice = record { scan = n; cut = Whole } ∷ []; one = refl }
  node-one (node.Filter below predicate) h = way-one (choices_for C (below ∷ [])) (Whole ∷ []) (for-one C (below ∷ []) h)
  node-one (node.SimpleProjection below columns) h = way-one (choices_for C (below ∷ [])) (Whole ∷ []) (for-one C (below ∷ []) h)
  node-one (node.Select below exprs) h = way-one (choices_for C (below ∷ [])) (Whole ∷ []) (for-one C (below ∷ []) h)
  node-one (node.HStack below exprs) h = way-one (choices_for C (below ∷ [])) (Whole ∷ []) (for-one C (below ∷ []) h)
  node-one (node.MapFunction below function) h = way-one (choices_for C (below ∷ [])) (Whole ∷ []) (for-one C (below ∷ []) h)
  node-one (node.Union inputs) h = way-one (choices_for C inputs) (alike Whole inputs) (for-one C inputs h)
  node-one (node.Join left right lo ro options) h = way-one (choices_for C (left ∷ right ∷ [])) (Whole ∷ Whole ∷ []) (for-one C (left ∷ right ∷ []) h)
  node-one (node.Sort below by options) h = sorted-one below options.slice (for-one C (below ∷ []) h)

module _ (plan : Plan) (root : ℕ) (good : IsWellFormed plan root) where
  whole-to : (k n : ℕ) → n < k → is_under plan.nodes root n ≡ true → IsOne (choices_of plan n Whole)
  whole-to zero n lt under = absurd (omega arith)
  whole-to (suc k) n lt under =
      let x = node_at plan.nodes n in
      let g = granted plan root n good under in
      subst IsOne (sym (own plan root good n under x refl Whole)) (node-one (choices_of plan) (schema_of plan (first_input (inputs_of x))) n x (λ i m. (let below = (g.fed i m).0 in whole-to k i (omega arith) (g.fed i m).1)))

  -- a choice that the rules allow for a node wished whole is the only one
  pub only-whole : (n : ℕ) → is_under plan.nodes root n ≡ true → (choice : Choice) → IsIn choice (choices_of plan n Whole) → choices_of plan n Whole ≡ choice ∷ []
  only-whole n under choice h =
      let w = whole-to (suc n) n (omega arith) under in
      let split : IsIn choice (w.choice ∷ []) → choices_of plan n Whole ≡ choice ∷ [] = elim [
        | inl e ↦ w.one ∙ ap (λ c. c ∷ []) e
        | inr no_ ↦ absurd no_
      ] in split (subst (IsIn choice) w.one h)

  -- and there is one
  pub some-whole : (n : ℕ) → is_under plan.nodes root n ≡ true → choices_of plan n Whole ≡ [] → ⊥
  some-whole n under e =
      let w = whole-to (suc n) n (omega arith) under in
      let both : w.choice ∷ [] ≡ [] = sym w.one ∙ e in cc
