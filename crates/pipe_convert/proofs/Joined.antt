-- The settings of a node's join are those of a spec, by the check's grants.
use Rattle.std.proofs.Common.{◌≡◌, ℕ, Bool, true, false, ◌||◌, List, [], ◌∷◌, Option, Some, None, is_some, length, refl, ap, sym, subst, ◌∙◌}
use Rattle.std.specs.Prelude.{is_none}
use Rattle.std.specs.List.{list_any, AllByRecursion}
use Rattle.std.proofs.lemmas.List.{length-map}
use Rattle.pipe_schema.specs.Schema.{IsSchema}
use Rattle.pipe_schema.specs.declared.data_type.DataType.{DataType}
use Rattle.pipe_schema.specs.declared.field.Field.{Field}
use Rattle.pipe_expr.specs.Formula.{Formula}
use Rattle.pipe_expr.specs.Joins.{Join, coalesces, join_fields}
use Rattle.pipe_expr.specs.Physical.{Physical}
use Rattle.pipe_expr.specs.Types.{type_of}
use Rattle.pipe_expr.specs.declared.join_words.JoinType.{JoinType}
use Rattle.pipe_expr.specs.declared.join_words.JoinType.TheVariants as how
use Rattle.pipe_plan.specs.Node as node
use Rattle.pipe_plan.specs.Plan.{plan_of}
use Rattle.pipe_plan.specs.Under.{is_under}
use Rattle.pipe_plan.specs.Swap.{swaps, swaps_by}
use Rattle.pipe_plan.specs.Schemas.{join_over}
use Rattle.pipe_plan.specs.Faults.{IsWellFormed, has_no_type, bad_counts, keys_mistyped, keys_differ}
use Rattle.pipe_plan.specs.declared.ir.JoinOptions.{JoinOptions}
use Rattle.pipe_check.specs.Checked.{Checked}
use Rattle.pipe_check.proofs.Walks.{itself, member}
use Rattle.pipe_table.specs.Spec.{IsSpec, IsMadeFor, settings_of, formulas_in, formula_in, fits_side, coalesces_badly}
use Rattle.pipe_table.specs.declared.spec.JoinSpec.{JoinSpec}
use Rattle.pipe_convert.specs.Converted.{IsNode, schema_in}
use Rattle.pipe_convert.specs.Keys.{AreKeys}
use Rattle.pipe_convert.proofs.Granted.{first_false, second_false}
use Rattle.pipe_convert.proofs.Operators.{grants}

-- ---- the inputs are under the root

or-true : (a b : Bool) → b ≡ true → (a || b) ≡ true
or-true true b h = refl
or-true false b h = h

module _ (plan : Checked) (n left right : ℕ) (left_on right_on : List Formula) (options : JoinOptions) (good : IsWellFormed (plan_of plan.arena) plan.root) (at_n : IsNode plan n (node.Join left right left_on right_on options)) where
  pub left_under : is_under (plan_of plan.arena).nodes plan.root left ≡ true
  left_under = let g = grants plan n (node.Join left right left_on right_on options) good at_n in (g.fed left (ap (λ b. b || member left (right ∷ [])) (itself left))).1

  pub right_under : is_under (plan_of plan.arena).nodes plan.root right ≡ true
  right_under = let g = grants plan n (node.Join left right left_on right_on options) good at_n in (g.fed right (or-true _ _ (ap (λ b. b || false) (itself right)))).1

-- ---- keys have types

there-or : (o : Option DataType) → is_none o ≡ false → is_some o ≡ true
there-or None h = cc
there-or (Some t) h = refl

keys-typed : (schema : List Field) (on : List Formula) → list_any (has_no_type schema) on ≡ false → AreKeys schema on
keys-typed schema [] h = tt
keys-typed schema (formula ∷ on) h =
    (there-or (type_of formula schema) (first_false _ (list_any (has_no_type schema) on) h), keys-typed schema on (second_false (has_no_type schema formula) _ h))

module _ (plan : Checked) (n left right : ℕ) (left_on right_on : List Formula) (options : JoinOptions) (good : IsWellFormed (plan_of plan.arena) plan.root) (at_n : IsNode plan n (node.Join left right left_on right_on options)) where
  typed : keys_mistyped (schema_in plan left) (schema_in plan right) left_on right_on ≡ false
  typed = (grants plan n (node.Join left right left_on right_on options) good at_n).typed

  both_typed : (list_any (has_no_type (schema_in plan left)) left_on || list_any (has_no_type (schema_in plan right)) right_on) ≡ false
  both_typed = first_false (list_any (has_no_type (schema_in plan left)) left_on || list_any (has_no_type (schema_in plan right)) right_on) (keys_differ (schema_in plan left) (schema_in plan right) left_on right_on) typed

  pub left_typed : AreKeys (schema_in plan left) left_on
  left_typed = keys-typed (schema_in plan left) left_on (first_false _ (list_any (has_no_type (schema_in plan right)) right_on) both_typed)

  pub right_typed : AreKeys (schema_in plan right) right_on
  right_typed = keys-typed (schema_in plan right) right_on (second_false (list_any (has_no_type (schema_in plan left)) left_on) _ both_typed)

-- ---- which side is built

fits : (kind : JoinType) (larger : Bool) → fits_side kind (swaps_by kind larger) ≡ true
fits how.Inner larger = refl
fits how.Left larger = refl
fits how.Full larger = refl
fits how.Cross larger = refl
fits how.Semi larger = refl
fits how.Anti larger = refl

-- ---- all of it

pub spec_of : (plan : Checked) (n left right : ℕ) (left_on right_on : List Formula) (options : JoinOptions) (spec : JoinSpec) → IsWellFormed (plan_of plan.arena) plan.root → IsNode plan n (node.Join left right left_on right_on options)
    → settings_of spec ≡ join_over (schema_in plan left) (schema_in plan right) left_on right_on options → spec.swapped ≡ swaps options
    → AllByRecursion (IsMadeFor spec.left_schema) spec.left_keys → AllByRecursion (IsMadeFor spec.right_schema) spec.right_keys
    → IsSchema (schema_in plan left) → IsSchema (schema_in plan right) → IsSchema (schema_in plan n) → IsSpec spec
spec_of plan n left right left_on right_on options spec good at_n same side left_made right_made left_whole right_whole whole =
    let g = grants plan n (node.Join left right left_on right_on options) good at_n in
    let whole_join : IsSchema (join_fields (join_over (schema_in plan left) (schema_in plan right) left_on right_on options)) = subst IsSchema g.made whole in
    let bad = bad_counts options.how (length left_on) (length right_on) in
    record {
      left = subst (λ (j : Join). IsSchema j.left) (sym same) left_whole;
      right = subst (λ (j : Join). IsSchema j.right) (sym same) right_whole;
      left_made = left_made;
      right_made = right_made;
      typed = ap (λ (j : Join). keys_mistyped j.left j.right j.left_on j.right_on) same ∙ g.typed;
      counts =
          ap (λ m. bad_counts spec.how m (length spec.right_keys)) (sym (length-map spec.left_keys formula_in)) ∙ ap (λ m. bad_counts spec.how (length (formulas_in spec.left_keys)) m) (sym (length-map spec.right_keys formula_in))
          ∙ ap (λ (j : Join). bad_counts j.how (length j.left_on) (length j.right_on)) same ∙ first_false bad _ g.joinable;
      plain = ap (λ (j : Join). coalesces_badly j.coalesced j.left_on j.right_on) same ∙ second_false bad _ g.joinable;
      side = ap (λ k. fits_side k spec.swapped) (ap (λ (j : Join). j.how) same) ∙ ap (fits_side options.how) side ∙ fits options.how _;
      output = subst (λ (j : Join). IsSchema (join_fields j)) (sym same) whole_join;
    }

-- what is made of a node's members
pub settings-made : (plan : Checked) (left right : ℕ) (left_on right_on : List Formula) (options : JoinOptions) (coalesced swapped : Bool) (suffix : List ℕ) (l r : List Field) (l_keys r_keys : List Physical)
    → coalesced ≡ coalesces options.how options.coalesce → suffix ≡ options.suffix → l ≡ schema_in plan left → r ≡ schema_in plan right → formulas_in l_keys ≡ left_on → formulas_in r_keys ≡ right_on
    → settings_of (record { how = options.how; join_nulls = options.join_nulls; coalesced = coalesced; swapped = swapped; suffix = suffix; left_schema = l; right_schema = r; left_keys = l_keys; right_keys = r_keys }) ≡ join_over (schema_in plan left) (schema_in plan right) left_on right_on options
settings-made plan left right left_on right_on options coalesced swapped suffix l r l_keys r_keys c s le re lk rk =
    let Made : Bool → List ℕ → List Field → List Field → List Formula → List Formula → Join = λ b s l r lo ro. record { how = options.how; join_nulls = options.join_nulls; coalesced = b; suffix = s; left = l; right = r; left_on = lo; right_on = ro } in
    ap (λ x. Made x suffix l r (formulas_in l_keys) (formulas_in r_keys)) c ∙ ap (λ x. Made (coalesces options.how options.coalesce) x l r (formulas_in l_keys) (formulas_in r_keys)) s
    ∙ ap (λ x. Made (coalesces options.how options.coalesce) options.suffix x r (formulas_in l_keys) (formulas_in r_keys)) le ∙ ap (λ x. Made (coalesces options.how options.coalesce) options.suffix (schema_in plan left) x (formulas_in l_keys) (formulas_in r_keys)) re
    ∙ ap (λ x. Made (coalesces options.how options.coalesce) options.suffix (schema_in plan left) (schema_in plan right) x (formulas_in r_keys)) lk ∙ ap (λ x. Made (coalesces options.how options.coalesce) options.suffix (schema_in plan left) (schema_in plan right) left_on x) rk
