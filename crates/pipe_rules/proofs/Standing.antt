-- A node over rewritten inputs is sound, and so is a filter of what stays above it.
use Rattle.std.proofs.Common.{◌≡◌, ℕ, suc, ◌≤◌, true, false, List, [], ◌∷◌, ◌++◌, length, Some, refl, ap, sym, ◌∙◌, subst, arith, length-append}
use Rattle.std.specs.Prelude.{not}
use Rattle.std.specs.List.{AllByRecursion}
use Rattle.pipe_schema.specs.Schema.{names_of, first_repeated}
use Rattle.pipe_schema.specs.declared.data_type.DataType.TheVariants as dtype
use Rattle.pipe_schema.specs.declared.field.Field.{Field}
use Rattle.pipe_expr.specs.Formula.{Formula}
use Rattle.pipe_expr.specs.Types.{type_of}
use Rattle.pipe_plan.specs.Node.{Node}
use Rattle.pipe_plan.specs.Node as node
use Rattle.pipe_plan.specs.Plan.{Plan}
use Rattle.pipe_plan.specs.Under.{node_at, inputs_of, is_under}
use Rattle.pipe_plan.specs.Schemas.{node_schema, schema_of}
use Rattle.pipe_plan.specs.PlanRows.{rows_of}
use Rattle.pipe_plan.specs.Faults.{or_else, eq_types, repeats, is_void, IsWellFormed}
use Rattle.pipe_check.specs.Checking.{fault_with}
use Rattle.pipe_check.proofs.Agree.{Agree, agree-members, fault-agree}
use Rattle.pipe_check.proofs.Walks.{member}
use Rattle.pipe_events.specs.Fits.{FramesFit}
use Rattle.pipe_rules.specs.Conjuncts.{conjuncts_of, all_conjuncts}
use Rattle.pipe_rules.specs.Parted.{Parts, parted}
use Rattle.pipe_rules.proofs.Filters.{all-of}
use Rattle.pipe_rules.specs.Renumbered.{with_inputs}
use Rattle.pipe_rules.specs.Low.{is_and, is_filter, Stays, IsConjunct, IsLow}
use Rattle.pipe_rules.specs.Grown.{over, IsSoundNode, AreSound, IsFree, AreRewritten}
use Rattle.pipe_rules.proofs.Growing.{node-before, node-new, schema-stays, schema-new}
use Rattle.pipe_rules.proofs.Granted.{granted, ready}
use Rattle.pipe_rules.proofs.Renumber.{schema-renumbered}
use Rattle.pipe_rules.proofs.Faultless.{inputs-given, void-renumbered, placing-renumbered, filter-renumbered, no-filter, no-fault, fault-renumbered}
use Rattle.pipe_rules.proofs.Sounding.{placing-agree, at-free, one-sound, last-free}
use Rattle.pipe_rules.proofs.Typed.{IsKept, predicate-known, whole-typed, all-alone, above-kept}

-- the parts of conjuncts that stay
conjuncts-kept : (out : List Field) (schema : ℕ → List Field) (x : Node) (fs : List Formula) → AllByRecursion (IsKept out schema x) fs → AllByRecursion (IsKept out schema x) (all_conjuncts fs)
conjuncts-kept out schema x fs all = all-alone (IsKept out schema x) fs (all-of (IsKept out schema x) (λ f. is_and f ≡ false) (λ f k. k.conjunct.single) fs all) all

-- what stays above a node under the root
pub kept-above : (plan : Plan) (root : ℕ) (good : IsWellFormed plan root) (frames : FramesFit plan) (n : ℕ) (under : is_under plan.nodes root n ≡ true) (cs : List Formula) → AllByRecursion (IsConjunct (schema_of plan n)) cs → AllByRecursion (IsKept (schema_of plan n) (schema_of plan) (node_at plan.nodes n)) (all_conjuncts (parted (schema_of plan) (node_at plan.nodes n) cs).above)
kept-above plan root good frames n under cs typed =
    let x = node_at plan.nodes n in
    let g = granted plan root n good under in
    let s = schema_of plan in
    let above = (parted s x cs).above in
    let out = node_schema plan.frames s x in
    conjuncts-kept (s n) s x above
    (subst (λ f. AllByRecursion (IsKept f s x) above) (sym g.made)
    (above-kept plan.frames s (rows_of plan) x (ready plan root n good frames under) cs (subst (λ f. AllByRecursion (IsConjunct f) cs) g.made typed)))

module _ (plan : Plan) (root : ℕ) (good : IsWellFormed plan root) (n : ℕ) (under : is_under plan.nodes root n ≡ true) (old new : List Node) (parts : Parts) (ks : List ℕ) (inputs : AreRewritten plan old new (node_at plan.nodes n) parts (inputs_of (node_at plan.nodes n)) ks) where
  abbrev x : Node
  x = node_at plan.nodes n

  abbrev y : Node
  y = with_inputs x ks

  abbrev made : List Node
  made = new ++ y ∷ []

  reads : inputs_of y ≡ ks
  reads = inputs-given plan.frames (schema_of (over plan.frames new)) (schema_of plan) x ks inputs.schemas

  pub long : length made ≡ suc (length new)
  long = (let e = length-append new (y ∷ []) in let z : length (y ∷ []) ≡ 1 = refl in omega arith)

  le : length old ≤ length new
  le = (let e = length-append old inputs.grows.more in let f : length new ≡ length (old ++ inputs.grows.more) = ap length inputs.grows.grown in omega arith)

  -- the schemas below a new number are those that it had
  below-made : Agree (schema_of (over plan.frames made)) (schema_of (over plan.frames new)) (inputs_of y)
  below-made = agree-members (schema_of (over plan.frames made)) (schema_of (over plan.frames new)) (inputs_of y) (λ i m. schema-stays plan.frames new (y ∷ []) i (at-free (IsFree old new) ks i inputs.free (sym (ap (member i) reads) ∙ m)).there)

  pub copy-schema : schema_of (over plan.frames made) (length new) ≡ schema_of plan n
  copy-schema =
      schema-new plan.frames new y
      ∙ schema-renumbered plan.frames (schema_of (over plan.frames new)) (schema_of plan) x ks inputs.schemas
      ∙ sym (granted plan root n good under).made

  module _ (plain : is_filter x ≡ false) where
    copy-one : IsSoundNode plan.frames made (length new)
    copy-one =
        let g = granted plan root n good under in
        let at = node-new new y [] in
        let s = schema_of (over plan.frames made) in record {
          once = ap (λ z. repeats (inputs_of z)) at ∙ ap repeats reads ∙ inputs.once;
          whole = ap (is_void plan.frames) at ∙ void-renumbered plan.frames (schema_of (over plan.frames new)) (schema_of plan) x ks inputs.schemas ∙ g.whole;
          faultless =
              ap (fault_with false plan.frames s (length new)) at
              ∙ fault-agree false plan.frames s (schema_of (over plan.frames new)) (length new) y below-made
              ∙ fault-renumbered plan.frames (schema_of (over plan.frames new)) (schema_of plan) (length new) x ks inputs.schemas g.known g.twice g.typed g.joinable g.sortable;
          low = no-filter s made (node_at made (length new)) (ap is_filter at ∙ filter-renumbered x ks ∙ plain);
        }

    pub copy-sound : AreSound plan.frames old made
    copy-sound = one-sound plan.frames old new y ks inputs.sound le inputs.free reads copy-one

    module _ (p : Formula) (kept : AllByRecursion (IsKept (schema_of plan n) (schema_of plan) x) (conjuncts_of p)) where
      abbrev f : Node
      f = node.Filter (length new) p

      abbrev whole : List Node
      whole = made ++ f ∷ []

      under-filter : node_at whole (length new) ≡ y
      under-filter = node-before made (f ∷ []) (length new) (let e = long in omega arith) ∙ node-new new y []

      filter-schema : schema_of (over plan.frames whole) (length new) ≡ schema_of plan n
      filter-schema = schema-stays plan.frames made (f ∷ []) (length new) (let e = long in omega arith) ∙ copy-schema

      below-whole : Agree (schema_of (over plan.frames whole)) (schema_of (over plan.frames new)) (inputs_of y)
      below-whole = agree-members (schema_of (over plan.frames whole)) (schema_of (over plan.frames new)) (inputs_of y) (λ i m. (
          let lt = (at-free (IsFree old new) ks i inputs.free (sym (ap (member i) reads) ∙ m)).there in
          schema-stays plan.frames made (f ∷ []) i (let e = long in omega arith) ∙ schema-stays plan.frames new (y ∷ []) i lt))

      stays-here : (c : Formula) → IsKept (schema_of plan n) (schema_of plan) x c → Stays (schema_of (over plan.frames whole)) y c
      stays-here c k =
          placing-agree (schema_of (over plan.frames whole)) (schema_of (over plan.frames new)) y c below-whole
          ∙ placing-renumbered plan.frames (schema_of (over plan.frames new)) (schema_of plan) x ks inputs.schemas c
          ∙ k.stays

      filter-one : IsSoundNode plan.frames whole (length made)
      filter-one =
          let g = granted plan root n good under in
          let at : node_at whole (length made) ≡ f = node-new made f [] in
          let s = schema_of (over plan.frames whole) in
          let boolean : type_of p (s (length new)) ≡ Some dtype.Boolean =
          ap (type_of p) filter-schema ∙ whole-typed (schema_of plan n) p (all-of (IsKept (schema_of plan n) (schema_of plan) x) (IsConjunct (schema_of plan n)) (λ c k. k.conjunct) (conjuncts_of p) kept) in
          let on_none : is_filter (node_at whole (length new)) ≡ false = ap is_filter under-filter ∙ filter-renumbered x ks ∙ plain in
          let all_stay : AllByRecursion (Stays s (node_at whole (length new))) (conjuncts_of p) = subst (λ z. AllByRecursion (Stays s z) (conjuncts_of p)) (sym under-filter) (all-of (IsKept (schema_of plan n) (schema_of plan) x) (Stays s y) stays-here (conjuncts_of p) kept) in
          let low : IsLow s whole f = (on_none, all_stay) in
          record {
            once = ap (λ z. repeats (inputs_of z)) at;
            whole = ap (is_void plan.frames) at;
            faultless =
                ap (fault_with false plan.frames s (length made)) at
                ∙ no-fault plan.frames s (length made) f
                (predicate-known (s (length new)) p boolean)
                (ap (λ q. or_else (first_repeated (names_of q)) (first_repeated [])) filter-schema ∙ ap (λ o. or_else o (first_repeated [])) g.distinct)
                (ap (λ t. not (eq_types t (Some dtype.Boolean))) boolean)
                refl
                refl;
            low = subst (IsLow s whole) (sym at) low;
          }

      pub filter-sound : AreSound plan.frames old whole
      filter-sound =
          one-sound plan.frames old made f (length new ∷ []) copy-sound (let e = long in let l = le in omega arith)
          (last-free plan.frames old new made (record { more = y ∷ []; grown = refl }) (length new) le (omega arith) (sym long) copy-sound, tt)
          refl filter-one
