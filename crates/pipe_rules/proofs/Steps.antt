-- What the calls of the rewriting need and give.
use Rattle.std.proofs.Common.{◌≡◌, inl, inr, ℕ, zero, suc, ◌+◌, ◌<◌, ◌≤◌, Bool, true, false, eqb, List, [], ◌∷◌, ◌++◌, Option, Some, None, ◌*◌, length, take, get_or, refl, ap, sym, ◌∙◌, subst, arith}
use Rattle.std.specs.Prelude.{not}
use Rattle.std.specs.List.{AllByRecursion}
use Rattle.pipe_schema.specs.Cell.{eq_dtype}
use Rattle.pipe_schema.specs.declared.data_type.DataType.{DataType}
use Rattle.pipe_schema.specs.declared.data_type.DataType.TheVariants as dtype
use Rattle.pipe_expr.specs.Formula.{Formula}
use Rattle.pipe_expr.specs.Types.{type_of}
use Rattle.pipe_plan.specs.Node.{Node}
use Rattle.pipe_plan.specs.Node as node
use Rattle.pipe_plan.specs.Plan.{Plan}
use Rattle.pipe_plan.specs.Under.{node_at, inputs_of, is_under}
use Rattle.pipe_plan.specs.Schemas.{node_schema, schema_of}
use Rattle.pipe_plan.specs.PlanRows.{rows_of}
use Rattle.pipe_plan.specs.Faults.{eq_types, is_mistyped, IsWellFormed}
use Rattle.pipe_check.proofs.Walks.{member, itself, under-there}
use Rattle.pipe_events.specs.Fits.{FramesFit}
use Rattle.pipe_events.proofs.Lists.{all-append}
use Rattle.pipe_events.proofs.Rows.{same-dtype}
use Rattle.pipe_rules.specs.Conjuncts.{conjuncts_of, all_conjuncts}
use Rattle.pipe_rules.specs.Placed.{is_input}
use Rattle.pipe_rules.specs.FilterLaws.{IsPredicate}
use Rattle.pipe_rules.specs.Parted.{Parts, part_for, parted}
use Rattle.pipe_rules.specs.Renumbered.{with_inputs}
use Rattle.pipe_rules.specs.Low.{is_filter, is_sort, IsConjunct, AreLow}
use Rattle.pipe_rules.specs.Sorts.{sorting_of}
use Rattle.pipe_rules.specs.Literals.{AddsNoLiteral}
use Rattle.pipe_rules.specs.Sizes.{sum_of, size_of, count_under}
use Rattle.pipe_rules.specs.Grown.{over, AreWithin, AreUnder, IsPut, IsRewritten, AreRewritten}
use Rattle.pipe_rules.proofs.Granted.{granted, ready}
use Rattle.pipe_rules.proofs.Remade.{remade-bare, remade-under}
use Rattle.pipe_rules.proofs.Counted.{size-made, no-more}
use Rattle.pipe_rules.proofs.Whole.{whole-plan}
use Rattle.pipe_rules.proofs.Parts.{each-none}
use Rattle.pipe_rules.proofs.Typed.{conjuncts-typed, part-typed}

boolean : (t : Option DataType) → not (eq_types t (Some dtype.Boolean)) ≡ false → t ≡ Some dtype.Boolean
boolean None e = cc
boolean (Some t) e =
    let split : (b : Bool) → eq_dtype t dtype.Boolean ≡ b → not b ≡ false → Some t ≡ Some dtype.Boolean = elim [
      | true ↦ λ f _. ap Some (same-dtype t dtype.Boolean f)
      | false ↦ λ f h. cc
    ]
    in split (eq_dtype t dtype.Boolean) refl e

only : (input : ℕ) → member input (input ∷ []) ≡ true
only input = let self : eqb input input ≡ true = itself input in rw self refl

module _ (plan : Plan) (root : ℕ) (good : IsWellFormed plan root) (n : ℕ) (under : is_under plan.nodes root n ≡ true) where
  pub there : n < length plan.nodes
  there = (granted plan root n good under).there

  -- ---- a filter

  pub filter-input : (input : ℕ) (predicate : Formula) → node_at plan.nodes n ≡ node.Filter input predicate → (input < n) × (is_under plan.nodes root input ≡ true)
  filter-input input predicate at = (granted plan root n good under).fed input (ap (λ x. member input (inputs_of x)) at ∙ only input)

  pub filter-typed : (input : ℕ) (predicate : Formula) (cs all : List Formula) → node_at plan.nodes n ≡ node.Filter input predicate → AllByRecursion (IsConjunct (schema_of plan n)) cs → all ≡ cs ++ conjuncts_of predicate → AllByRecursion (IsConjunct (schema_of plan input)) all
  filter-typed input predicate cs all at typed is =
      let g = granted plan root n good under in
      let s : schema_of plan n ≡ schema_of plan input = g.made ∙ ap (node_schema plan.frames (schema_of plan)) at in
      let own : IsPredicate (schema_of plan input) predicate = boolean (type_of predicate (schema_of plan input)) (sym (ap (is_mistyped (schema_of plan)) at) ∙ g.typed) in
      let others : AllByRecursion (IsConjunct (schema_of plan input)) cs = subst (λ f. AllByRecursion (IsConjunct f) cs) s typed in
      subst (AllByRecursion (IsConjunct (schema_of plan input))) (sym is) (all-append (IsConjunct (schema_of plan input)) cs (conjuncts_of predicate) others (conjuncts-typed (schema_of plan input) predicate own))

  -- ---- the inputs

  pub input-below : (x : Node) (i : ℕ) → node_at plan.nodes n ≡ x → member i (inputs_of x) ≡ true → (i < n) × (is_under plan.nodes root i ≡ true)
  input-below x i at m = (granted plan root n good under).fed i (ap (λ z. member i (inputs_of z)) at ∙ m)

  module _ (frames : FramesFit plan) where
    own-typed : (cs : List Formula) → AllByRecursion (IsConjunct (schema_of plan n)) cs → (i : ℕ) → is_input (node_at plan.nodes n) i ≡ true → AllByRecursion (IsConjunct (schema_of plan i)) (part_for (node_at plan.nodes n) (parted (schema_of plan) (node_at plan.nodes n) cs) i)
    own-typed cs typed i m =
        let x = node_at plan.nodes n in
        let g = granted plan root n good under in
        part-typed plan.frames (schema_of plan) (rows_of plan) x (ready plan root n good frames under) cs (subst (λ f. AllByRecursion (IsConjunct f) cs) g.made typed) i m

    pub inputs-typed : (x : Node) (parts : Parts) (cs : List Formula) → node_at plan.nodes n ≡ x → parts ≡ parted (schema_of plan) x cs → AllByRecursion (IsConjunct (schema_of plan n)) cs → (i : ℕ) → is_input x i ≡ true → AllByRecursion (IsConjunct (schema_of plan i)) (part_for x parts i)
    inputs-typed x parts cs at is typed i m =
        let own = own-typed cs typed i (ap (λ z. is_input z i) at ∙ m) in
        subst (λ q. AllByRecursion (IsConjunct (schema_of plan i)) (part_for x q i)) (sym is)
        (subst (λ z. AllByRecursion (IsConjunct (schema_of plan i)) (part_for z (parted (schema_of plan) z cs) i)) at own)

    moved : (old new : List Node) (x : Node) (parts : Parts) (cs : List Formula) (ns ks : List ℕ) → node_at plan.nodes n ≡ x → ns ≡ inputs_of x → parts ≡ parted (schema_of plan) x cs → AreRewritten plan old new x parts ns ks → AreRewritten plan old new (node_at plan.nodes n) (parted (schema_of plan) (node_at plan.nodes n) cs) (inputs_of (node_at plan.nodes n)) ks
    moved old new x parts cs ns ks at ns_is parts_is inputs =
        let a = subst (λ q. AreRewritten plan old new x q ns ks) parts_is inputs in
        let b = subst (λ l. AreRewritten plan old new x (parted (schema_of plan) x cs) l ks) ns_is a in
        subst (λ z. AreRewritten plan old new z (parted (schema_of plan) z cs) (inputs_of z) ks) (sym at) b

    bare : (old new made : List Node) (x copy : Node) (parts : Parts) (cs : List Formula) (ns ks : List ℕ) (k : ℕ) → AllByRecursion (IsConjunct (schema_of plan n)) cs → is_filter x ≡ false → node_at plan.nodes n ≡ x → ns ≡ inputs_of x → parts ≡ parted (schema_of plan) x cs → AreRewritten plan old new x parts ns ks → copy ≡ with_inputs x ks → made ≡ new ++ copy ∷ [] → k ≡ length new → parts.above ≡ [] → IsRewritten plan old made n cs k
    bare old new made x copy parts cs ns ks k typed plain at ns_is parts_is inputs copy_is made_is k_is none =
        remade-bare plan root good frames old new made n cs ks k under (ap is_filter at ∙ plain) typed
        (moved old new x parts cs ns ks at ns_is parts_is inputs)
        (made_is ∙ ap (λ y. new ++ y ∷ []) (copy_is ∙ ap (λ z. with_inputs z ks) (sym at)))
        k_is
        (ap (λ z. (parted (schema_of plan) z cs).above) at ∙ sym (ap (λ q. q.above) parts_is) ∙ none)

    filtered : (old new made whole : List Node) (x copy : Node) (parts : Parts) (cs : List Formula) (ns ks : List ℕ) (input k : ℕ) (p : Formula) → AllByRecursion (IsConjunct (schema_of plan n)) cs → is_filter x ≡ false → node_at plan.nodes n ≡ x → ns ≡ inputs_of x → parts ≡ parted (schema_of plan) x cs → AreRewritten plan old new x parts ns ks → copy ≡ with_inputs x ks → made ≡ new ++ copy ∷ [] → input ≡ length new → whole ≡ made ++ node.Filter input p ∷ [] → k ≡ length made → conjuncts_of p ≡ all_conjuncts parts.above → IsRewritten plan old whole n cs k
    filtered old new made whole x copy parts cs ns ks input k p typed plain at ns_is parts_is inputs copy_is made_is input_is whole_is k_is conjuncts =
        remade-under plan root good frames old new made whole n cs ks k p under (ap is_filter at ∙ plain) typed
        (moved old new x parts cs ns ks at ns_is parts_is inputs)
        (made_is ∙ ap (λ y. new ++ y ∷ []) (copy_is ∙ ap (λ z. with_inputs z ks) (sym at)))
        (whole_is ∙ ap (λ i. made ++ node.Filter i p ∷ []) input_is)
        k_is
        (conjuncts ∙ ap (λ q. all_conjuncts q.above) parts_is ∙ ap (λ z. all_conjuncts (parted (schema_of plan) z cs).above) (sym at))

    pub put-over : (old new made : List Node) (x : Node) (parts : Parts) (cs : List Formula) (ns ks : List ℕ) (k : ℕ) → AllByRecursion (IsConjunct (schema_of plan n)) cs → is_filter x ≡ false → node_at plan.nodes n ≡ x → ns ≡ inputs_of x → parts ≡ parted (schema_of plan) x cs → AreRewritten plan old new x parts ns ks → IsPut new made (with_inputs x ks) parts.above k → IsRewritten plan old made n cs k
    put-over old new made x parts cs ns ks k typed plain at ns_is parts_is inputs put =
        let y = with_inputs x ks in
        let split : IsPut new made y parts.above k → IsRewritten plan old made n cs k = elim [
          | inl a ↦ bare old new made x y parts cs ns ks k typed plain at ns_is parts_is inputs refl a.made a.last a.none
          | inr f ↦ filtered old new (new ++ y ∷ []) made x y parts cs ns ks (length new) k f.predicate typed plain at ns_is parts_is inputs refl refl refl f.made f.last f.joins
        ] in split put

  -- ---- room for what is added

  pub filter-room : (limit more input : ℕ) (predicate : Formula) → node_at plan.nodes n ≡ node.Filter input predicate → more + 2 * size_of plan.nodes n ≤ limit → more + 2 * size_of plan.nodes input ≤ limit
  filter-room limit more input predicate at room =
      let z = size-made plan root good n under in
      let i : sum_of (size_of plan.nodes) (inputs_of (node_at plan.nodes n)) ≡ size_of plan.nodes input + 0 = ap (λ x. sum_of (size_of plan.nodes) (inputs_of x)) at in
      omega arith

  own-size : (x : Node) (ns : List ℕ) → node_at plan.nodes n ≡ x → ns ≡ inputs_of x → size_of plan.nodes n ≡ suc (sum_of (size_of plan.nodes) ns)
  own-size x ns at is = size-made plan root good n under ∙ ap (λ y. suc (sum_of (size_of plan.nodes) (inputs_of y))) at ∙ ap (λ l. suc (sum_of (size_of plan.nodes) l)) (sym is)

  pub inputs-room : (limit more : ℕ) (x : Node) (ns : List ℕ) → node_at plan.nodes n ≡ x → ns ≡ inputs_of x → more + 2 * size_of plan.nodes n ≤ limit → more + 2 * sum_of (size_of plan.nodes) ns ≤ limit
  inputs-room limit more x ns at is room = (let z = own-size x ns at is in omega arith)

  pub push-room : (limit : ℕ) (old new : List Node) (x : Node) (parts : Parts) (ns ks : List ℕ) → node_at plan.nodes n ≡ x → ns ≡ inputs_of x → length old + 2 * size_of plan.nodes n ≤ limit → AreRewritten plan old new x parts ns ks → suc (length new) < limit
  push-room limit old new x parts ns ks at is room inputs = (let z = own-size x ns at is in let f = inputs.few in omega arith)

-- ---- one input after another

sum-part : (f : ℕ → ℕ) (xs : List ℕ) (i : ℕ) → sum_of f (take i xs) ≤ sum_of f xs
sum-part f xs zero = omega arith
sum-part f [] (suc i) = omega arith
sum-part f (y ∷ xs) (suc i) = (let rest = sum-part f xs i in omega arith)

sum-both : (f : ℕ → ℕ) (xs : List ℕ) (i : ℕ) (d : ℕ) → i < length xs → sum_of f (take i xs) + f (get_or xs i d) ≤ sum_of f xs
sum-both f [] i d h = absurd (omega arith)
sum-both f (y ∷ xs) zero d h = omega arith
sum-both f (y ∷ xs) (suc i) d h = (let rest = sum-both f xs i d (omega arith) in omega arith)

pub next-room : (limit : ℕ) (plan : Plan) (old middle : List Node) (x : Node) (parts : Parts) (ns ks : List ℕ) (i n : ℕ) → AreRewritten plan old middle x parts (take i ns) ks → i < length ns → n ≡ get_or ns i n → length old + 2 * sum_of (size_of plan.nodes) ns ≤ limit → length middle + 2 * size_of plan.nodes n ≤ limit
next-room limit plan old middle x parts ns ks i n before lt is room =
    let a = before.few in
    let b = sum-both (size_of plan.nodes) ns i n lt in
    let c : size_of plan.nodes n ≡ size_of plan.nodes (get_or ns i n) = ap (size_of plan.nodes) is in
    omega arith

-- ---- the whole plan

module _ (plan : Plan) (root : ℕ) (good : IsWellFormed plan root) where
  pub first-room : (limit half : ℕ) → 2 * half ≤ limit → count_under plan.nodes root ≤ half → 2 * size_of plan.nodes root ≤ limit
  first-room limit half double few = (let z = no-more plan root good in omega arith)

  module _ (new : List Node) (k : ℕ) (made : IsRewritten plan [] new root [] k) where
    pub made-few : length new ≤ 2 * count_under plan.nodes root
    made-few = (let f = made.few in let z = no-more plan root good in omega arith)

    pub made-good : count_under plan.nodes root ≤ 2048 → IsWellFormed (over plan.frames new) k
    made-good few = whole-plan plan.frames new made.sound k made.last (let f = made-few in omega arith)

    pub made-low : AreLow (schema_of (over plan.frames new)) new
    made-low m below = (made.sound.each m (omega arith) below).low

    pub made-rows : rows_of (over plan.frames new) k ≡ rows_of plan root
    made-rows = made.rows ∙ each-none (schema_of plan root) (rows_of plan root)

    pub made-whole : AreUnder new k
    made-whole m below = made.whole m (omega arith) below

    pub made-sorts : is_sort (node_at plan.nodes root) ≡ true → sorting_of (node_at new k) ≡ sorting_of (node_at plan.nodes root)
    made-sorts sort = made.sorts refl sort

    pub made-literals : AddsNoLiteral plan.nodes new
    made-literals test all = made.literals test all refl refl

    pub made-within : (limit : ℕ) → AreWithin plan root limit → AreWithin (over plan.frames new) k limit
    made-within limit within m under = made.within limit within m (omega arith) (let last = made.last in under-there new m (length new) k (omega arith) (omega arith) under)
