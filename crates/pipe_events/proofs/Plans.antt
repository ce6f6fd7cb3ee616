-- The rows of a plan without a fault fit the schemas of its nodes.
use Rattle.std.proofs.Common.{◌≡◌, ℕ, zero, suc, ◌+◌, ◌<◌, ◌≤◌, Bool, true, false, cond, eqb, ◌||◌, length, List, [], ◌∷◌, drop, refl, ap, sym, ◌∙◌, subst, arith, Option, Some, None, ◌⊎◌, inl, inr}
use Rattle.std.specs.Prelude.{nat_lt, nat_le, not}
use Rattle.std.specs.List.{AllByRecursion, flat_map, list_any, range_with_len}
use Rattle.std.specs.Cmp.Lexicographic.{pointwise}
use Rattle.std.proofs.lemmas.Bool.{cases_lt, le-leb}
use Rattle.std.proofs.lemmas.Bool.Decides.{Decides-eqb}
use Rattle.pipe_frame.specs.Frame.{Table}
use Rattle.pipe_schema.specs.Rows.{Row}
use Rattle.pipe_schema.specs.Schema.{names_of, first_repeated}
use Rattle.pipe_schema.specs.declared.field.Field.{Field}
use Rattle.pipe_rows.specs.SortOrder.{sorted}
use Rattle.pipe_expr.specs.Projections.{passes, row_named, select_row, hstack_row, function_rows, fields_named}
use Rattle.pipe_plan.specs.Walk.{walk}
use Rattle.pipe_plan.specs.Node.{Node}
use Rattle.pipe_plan.specs.Node as node
use Rattle.pipe_plan.specs.Plan.{Plan}
use Rattle.pipe_plan.specs.Under.{node_at, inputs_of, is_under, reaches_at}
use Rattle.pipe_plan.specs.Schemas.{frame_at, join_over, node_schema, schema_at, schemas_to}
use Rattle.pipe_plan.specs.PlanRows.{sort_keys, slice_rows, skipped, node_rows, rows_at, rows_to, rows_of}
use Rattle.pipe_plan.specs.Faults.{or_else, told, told_name, is_bad_node, unknown_in, duplicate_in, is_mistyped, keys_differ, eq_field, fault_at, fault_under, first_fault, plan_fault}
use Rattle.pipe_plan.specs.declared.error.PipeError.{PipeError}
use Rattle.pipe_plan.specs.declared.error.PipeError.TheVariants as error
use Rattle.pipe_plan.specs.declared.ir.SortOptions.{SortOptions}
use Rattle.pipe_plan.specs.declared.ir.PlanSlice.{PlanSlice}
use Rattle.pipe_events.specs.PlanStages.{SortsAlike, sorted_slice}
use Rattle.pipe_events.proofs.WalkLemmas.{walk_is, walk_stays, Decides-no}
use Rattle.pipe_events.proofs.Unfaulted.{without_fault}
use Rattle.pipe_events.specs.Fits.{FitsRow, FitRows, FramesFit, RowsFitSchemas, SortsGiveOneList}
use Rattle.pipe_events.proofs.Lists.{all-append, all-map, all-flat, all-filter, all-take, all-drop, or-first, or-second}
use Rattle.pipe_events.proofs.Rows.{named-row, selected-row, hstack-row, function-rows, united-row, joined-rows}
use Rattle.pipe_events.proofs.Orders.{typed-sorted, sorts-alike}

-- ---- the nodes under a root, and their faults

walk_past : {X : Type 0} (none : X) (f : (ℕ → X) → ℕ → X) (k n : ℕ) → k ≤ n → walk none f k n ≡ none
walk_past none f zero n le = refl
walk_past none f (suc k) n le = let apart = Decides-no n k (λ same. omega arith) in rw apart (walk_past none f k n (omega arith))

any_at : (f : ℕ → Bool) (i : ℕ) (is : List ℕ) → list_any (λ m. eqb m i) is ≡ true → f i ≡ true → list_any f is ≡ true
any_at f i [] e h = cc
any_at f i (m ∷ is) e h =
    let split : (b : Bool) → eqb m i ≡ b → (b || list_any (λ k. eqb k i) is) ≡ true → (f m || list_any f is) ≡ true =
    elim [
      | true ↦ λ s _. let here : f m ≡ true = subst (λ k. f k ≡ true) (sym ((Decides-eqb m i).0 s)) h in rw here refl
      | false ↦ λ _ rest. elim (f m) as (λ b. (b || list_any f is) ≡ true) [ true ↦ refl | false ↦ any_at f i is rest h ]
    ]
    in split (eqb m i) refl e

any-more : (f g : ℕ → Bool) (is : List ℕ) → ((i : ℕ) → f i ≡ true → g i ≡ true) → list_any f is ≡ true → list_any g is ≡ true
any-more f g [] h e = cc
any-more f g (i ∷ is) h e =
    let split : (b : Bool) → f i ≡ b → (b || list_any f is) ≡ true → (g i || list_any g is) ≡ true =
    elim [
      | true ↦ λ s _. let here = h i s in rw here refl
      | false ↦ λ _ rest. elim (g i) as (λ b. (b || list_any g is) ≡ true) [ true ↦ refl | false ↦ any-more f g is h rest ]
    ]
    in split (f i) refl e

module _ (nodes : List Node) where
  -- what is under an input is under the node
  through_input : (k i : ℕ) → list_any (λ m. eqb m i) (inputs_of (node_at nodes k)) ≡ true → i < k → (s t : ℕ) → walk false (reaches_at nodes k) s t ≡ true → walk false (reaches_at nodes i) s t ≡ true
  through_input k i member lt zero t e = cc
  through_input k i member lt (suc s) t e =
      let inputs = inputs_of (node_at nodes s) in
      let low_k = walk false (reaches_at nodes k) s in
      let low_i = walk false (reaches_at nodes i) s in
      let ih = through_input k i member lt s in
      let split : (b : Bool) → eqb t s ≡ b → cond b (reaches_at nodes k low_k s) (low_k t) ≡ true → cond b (reaches_at nodes i low_i s) (low_i t) ≡ true =
      elim [
        | true ↦ λ _ r.
            let inner : (b : Bool) → eqb s k ≡ b → (b || list_any low_k inputs) ≡ true → (eqb s i || list_any low_i inputs) ≡ true =
            elim [
              | true ↦ λ same _.
                  let is : s ≡ k = (Decides-eqb s k).0 same in
                  let self : eqb i i ≡ true = (Decides-eqb i i).1 refl in
                  let at_i : low_i i ≡ true = walk_is false (reaches_at nodes i) s i (omega arith) ∙ rw self refl in
                  let some : list_any low_i inputs ≡ true = any_at low_i i inputs (subst (λ n. list_any (λ m. eqb m i) (inputs_of (node_at nodes n)) ≡ true) (sym is) member) at_i in
                  elim (eqb s i) as (λ b. (b || list_any low_i inputs) ≡ true) [ true ↦ refl | false ↦ some ]
              | false ↦ λ _ f.
                  let some : list_any low_i inputs ≡ true = any-more low_k low_i inputs ih f in
                  elim (eqb s i) as (λ b. (b || list_any low_i inputs) ≡ true) [ true ↦ refl | false ↦ some ]
            ]
            in inner (eqb s k) refl r
        | false ↦ λ _ r. ih t r
      ]
      in split (eqb t s) refl e

first_none : {X : Type 0} (a b : Option X) → or_else a b ≡ None → a ≡ None
first_none (Some x) b e = cc
first_none None b e = refl

second_none : {X : Type 0} (a b : Option X) → or_else a b ≡ None → b ≡ None
second_none (Some x) b e = cc
second_none None b e = e

untold : (b : Bool) (e : PipeError) → told b e ≡ None → b ≡ false
untold true e h = cc
untold false e h = refl

unnamed : (e : List ℕ → PipeError) (o : Option (List ℕ)) → told_name e o ≡ None → o ≡ None
unnamed e (Some name) h = cc
unnamed e None h = refl

module _ (plan : Plan) (root : ℕ) where
  each_unfaulted : (a n k i : ℕ) → k ≡ a + i → i < n → first_fault plan root (range_with_len a n) ≡ None → fault_under plan root k ≡ None
  each_unfaulted a zero k i e lt none = absurd (omega arith)
  each_unfaulted a (suc n) k zero e lt none = let is : a ≡ k = omega arith in subst (λ m. fault_under plan root m ≡ None) is (first_none (fault_under plan root a) _ none)
  each_unfaulted a (suc n) k (suc i) e lt none = each_unfaulted (a + 1) n k i (omega arith) (omega arith) (second_none (fault_under plan root a) _ none)

  all_unfaulted : plan_fault plan root ≡ None → first_fault plan root (range_with_len 0 (length plan.nodes)) ≡ None
  all_unfaulted =
      elim (nat_lt root (length plan.nodes)) as (λ b. cond b (first_fault plan root (range_with_len 0 (length plan.nodes))) (Some (error.BadNode root)) ≡ None → first_fault plan root (range_with_len 0 (length plan.nodes)) ≡ None) [
        | true ↦ λ none. none
        | false ↦ λ none. cc
      ]

  unfaulted : plan_fault plan root ≡ None → (k : ℕ) → k < length plan.nodes → is_under plan.nodes root k ≡ true → fault_at plan root k ≡ None
  unfaulted none k lt under = let here : fault_under plan root k ≡ None = each_unfaulted 0 (length plan.nodes) k k (omega arith) lt (all_unfaulted none) in rw under at here

-- ---- one node

first_of : (i : ℕ) (is : List ℕ) → list_any (λ m. eqb m i) (i ∷ is) ≡ true
first_of i is = let self : eqb i i ≡ true = (Decides-eqb i i).1 refl in rw self refl

later_of : (h i : ℕ) (is : List ℕ) → list_any (λ m. eqb m i) is ≡ true → list_any (λ m. eqb m i) (h ∷ is) ≡ true
later_of h i is e = elim (eqb h i) as (λ b. (b || list_any (λ m. eqb m i) is) ≡ true) [ true ↦ refl | false ↦ e ]

not-no : (b : Bool) → not b ≡ false → b ≡ true
not-no true e = refl
not-no false e = cc

weaker : {X : Type 0} {P Q : X → Type 0} (a : List X) → ((x : X) → P x → Q x) → AllByRecursion P a → AllByRecursion Q a
weaker [] h all = tt
weaker (x ∷ a) h all = (h x all.0, weaker a h all.1)

sliced-fits : (slice : Option PlanSlice) (fields : List Field) (rows : List Row) → FitRows fields rows → FitRows fields (slice_rows slice rows)
sliced-fits None fields rows h = h
sliced-fits (Some slice) fields rows h = all-take (FitsRow fields) slice.len (drop (skipped slice.offset) rows) (all-drop (FitsRow fields) (skipped slice.offset) rows h)

module _ (frames : List Table) (schema : ℕ → List Field) (rows : ℕ → List Row) where
  -- a node's rows fit its schema, and no name stands twice in it
  record IsGood (i : ℕ) : Type 0 where
    fits : FitRows (schema i) (rows i)
    once : first_repeated (names_of (schema i)) ≡ None

  united : (first : ℕ) (is : List ℕ) → list_any (λ i. not (pointwise eq_field (schema first) (schema i))) is ≡ false → ((i : ℕ) → list_any (λ m. eqb m i) is ≡ true → IsGood i) → FitRows (schema first) (flat_map rows is)
  united first [] e h = tt
  united first (i ∷ is) e h =
      let same = not-no (pointwise eq_field (schema first) (schema i)) (or-first (not (pointwise eq_field (schema first) (schema i))) _ e) in
      let here : FitRows (schema first) (rows i) = weaker (rows i) (λ row. united-row (schema first) (schema i) row same) (h i (first_of i is)).fits in
      all-append (FitsRow (schema first)) (rows i) (flat_map rows is) here (united first is (or-second (not (pointwise eq_field (schema first) (schema i))) _ e) (λ k m. h k (later_of i k is m)))

  node-fits : ((i : ℕ) → FitRows (frame_at frames i).schema (frame_at frames i).rows) → (x : Node) → is_mistyped schema x ≡ false → ((i : ℕ) → list_any (λ m. eqb m i) (inputs_of x) ≡ true → IsGood i) → FitRows (node_schema frames schema x) (node_rows frames schema rows x)
  node-fits f (node.DataFrameScan frame None) e h = f frame
  node-fits f (node.DataFrameScan frame (Some names)) e h = all-map (FitsRow (frame_at frames frame).schema) (FitsRow (fields_named (frame_at frames frame).schema names)) (row_named (frame_at frames frame).schema names) (named-row (frame_at frames frame).schema names) (frame_at frames frame).rows (f frame)
  node-fits f (node.Filter input predicate) e h = all-filter (FitsRow (schema input)) (passes predicate (schema input)) (rows input) (h input (first_of input [])).fits
  node-fits f (node.SimpleProjection input columns) e h = all-map (FitsRow (schema input)) _ (row_named (schema input) columns) (named-row (schema input) columns) (rows input) (h input (first_of input [])).fits
  node-fits f (node.Select input exprs) e h = all-map (FitsRow (schema input)) _ (select_row (schema input) exprs) (λ row k. selected-row (schema input) exprs row e k) (rows input) (h input (first_of input [])).fits
  node-fits f (node.HStack input exprs) e h = all-map (FitsRow (schema input)) _ (hstack_row (schema input) exprs) (λ row k. hstack-row (schema input) exprs row e (h input (first_of input [])).once k) (rows input) (h input (first_of input [])).fits
  node-fits f (node.MapFunction input function) e h = all-flat (FitsRow (schema input)) _ (function_rows function (schema input)) (λ row k. function-rows function (schema input) row e k) (rows input) (h input (first_of input [])).fits
  node-fits f (node.Union []) e h = tt
  node-fits f (node.Union (input ∷ inputs)) e h = all-append (FitsRow (schema input)) (rows input) (flat_map rows inputs) (h input (first_of input inputs)).fits (united input inputs e (λ i m. h i (later_of input i inputs m)))
  node-fits f (node.Join left right left_on right_on options) e h =
      let l = h left (first_of left (right ∷ [])) in
      let r = h right (later_of left right (right ∷ []) (first_of right [])) in
      joined-rows (join_over (schema left) (schema right) left_on right_on options) (rows left) (rows right) l.fits r.fits l.once (or-second _ (keys_differ (schema left) (schema right) left_on right_on) e)
  node-fits f (node.Sort input by options) e h = sliced-fits options.slice (schema input) (sorted (sort_keys (schema input) by options) (rows input)) (typed-sorted (sort_keys (schema input) by options) (schema input) (rows input) (h input (first_of input [])).fits)

-- ---- all nodes

module _ (plan : Plan) (root : ℕ) (none : plan_fault plan root ≡ None) (frames : FramesFit plan) where
  mistyped : (k : ℕ) → k < length plan.nodes → is_under plan.nodes root k ≡ true → (is_mistyped (schemas_to plan k) (node_at plan.nodes k) ≡ false) × (first_repeated (names_of (node_schema plan.frames (schemas_to plan k) (node_at plan.nodes k))) ≡ None)
  mistyped k lt under =
      let x = node_at plan.nodes k in
      let schema = schemas_to plan k in
      let after_bad = second_none (told (is_bad_node plan root k) (error.BadNode k)) _ (unfaulted plan root none k lt under) in
      let after_unknown = second_none (told_name (error.UnknownColumn k) (unknown_in plan.frames schema x)) _ after_bad in
      let twice = first_none (told_name (error.DuplicateName k) (duplicate_in plan.frames schema x)) _ after_unknown in
      let after_twice = second_none (told_name (error.DuplicateName k) (duplicate_in plan.frames schema x)) _ after_unknown in
      let types = first_none (told (is_mistyped schema x) (error.TypeMismatch k)) _ after_twice in (
        untold (is_mistyped schema x) (error.TypeMismatch k) types,
        first_none (first_repeated (names_of (node_schema plan.frames schema x))) _ (unnamed (error.DuplicateName k) (duplicate_in plan.frames schema x) twice),
      )

  under_input : (k i : ℕ) → is_under plan.nodes root k ≡ true → list_any (λ m. eqb m i) (inputs_of (node_at plan.nodes k)) ≡ true → i < k → is_under plan.nodes root i ≡ true
  under_input k i under member lt = through_input plan.nodes k i member lt (length plan.nodes) root under

  good : (k n : ℕ) → k ≤ length plan.nodes → is_under plan.nodes root n ≡ true → IsGood plan.frames (schemas_to plan k) (rows_to plan k) n
  good zero n le under = record { fits = tt; once = refl }
  good (suc k) n le under =
      let split : (b : Bool) → eqb n k ≡ b → FitRows (cond b (schema_at plan (schemas_to plan k) k) (schemas_to plan k n)) (cond b (rows_at plan (rows_to plan k) k) (rows_to plan k n)) × (first_repeated (names_of (cond b (schema_at plan (schemas_to plan k) k) (schemas_to plan k n))) ≡ None) =
      elim [
        | true ↦ λ e.
            let under_k : is_under plan.nodes root k ≡ true = subst (λ i. is_under plan.nodes root i ≡ true) ((Decides-eqb n k).0 e) under in
            let told_of = mistyped k (omega arith) under_k in
            let inputs : (i : ℕ) → list_any (λ m. eqb m i) (inputs_of (node_at plan.nodes k)) ≡ true → IsGood plan.frames (schemas_to plan k) (rows_to plan k) i =
            λ i member.
            let cases : (i < k) ⊎ (k ≤ i) → IsGood plan.frames (schemas_to plan k) (rows_to plan k) i =
            elim [
              | inl lt ↦ good k i (omega arith) (under_input k i under_k member lt)
              | inr past ↦
                  let no_schema = walk_past [] (schema_at plan) k i past in
                  let no_rows = walk_past [] (rows_at plan) k i past in
                  record { fits = rw (no_schema, no_rows) tt; once = rw no_schema refl }
            ]
            in cases (cases_lt i k) in
            (node-fits plan.frames (schemas_to plan k) (rows_to plan k) frames (node_at plan.nodes k) told_of.0 inputs, told_of.1)
        | false ↦ λ _. let low = good k n (omega arith) under in (low.fits, low.once)
      ] in
      let both = split (eqb n k) refl in record { fits = both.0; once = both.1 }

  sure : (k input : ℕ) (by : List (List ℕ)) (options : SortOptions) → k < length plan.nodes → is_under plan.nodes root k ≡ true → node_at plan.nodes k ≡ node.Sort input by options → SortsAlike (sorted_slice (schemas_to plan k input) by options) (rows_of plan input)
  sure k input by options lt under is bag same =
      let member : list_any (λ m. eqb m input) (inputs_of (node_at plan.nodes k)) ≡ true = subst (λ x. list_any (λ m. eqb m input) (inputs_of x) ≡ true) (sym is) (first_of input []) in
      let smaller : list_any (nat_le k) (inputs_of (node_at plan.nodes k)) ≡ false = (without_fault plan root none).1 k lt under in
      let below : input < k =
      (let split : (input < k) ⊎ (k ≤ input) → input < k = elim [
        | inl less ↦ less
        | inr past ↦ (let at_input : nat_le k input ≡ true = le-leb k input past in let some = any_at (nat_le k) input (inputs_of (node_at plan.nodes k)) member at_input in cc)
      ] in split (cases_lt input k)) in
      let fit = (good (length plan.nodes) input (omega arith) (under_input k input under member below)).fits in
      let stays : schemas_to plan (length plan.nodes) input ≡ schemas_to plan k input = walk_stays [] (schema_at plan) (length plan.nodes) k input below (omega arith) in
      let here : FitRows (schemas_to plan k input) (rows_of plan input) = subst (λ s. FitRows s (rows_of plan input)) stays fit in
      ap (slice_rows options.slice) (sym (sorts-alike (sort_keys (schemas_to plan k input) by options) (schemas_to plan k input) (rows_of plan input) bag here (record { each = λ r. sym (same.each r) })))

pub rows_fit : RowsFitSchemas
rows_fit plan root none frames n under = (good plan root none frames (length plan.nodes) n (omega arith) under).fits

pub sorts_sure : SortsGiveOneList
sorts_sure = sure
