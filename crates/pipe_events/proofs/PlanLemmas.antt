-- The stages of a plan have the plan's rows, and are what the laws of schedules ask.
use Rattle.std.proofs.Common.{◌≡◌, ℕ, zero, suc, ◌<◌, ◌≤◌, Bool, true, false, cond, eqb, ◌||◌, length, List, [], ◌∷◌, ◌++◌, map, refl, ap, sym, ◌∙◌, subst, arith, ◌⊎◌, inl, inr}
use Rattle.std.specs.Prelude.{filter, nat_le}
use Rattle.std.specs.List.{flat_map, list_any}
use Rattle.std.proofs.lemmas.Bool.{cases_lt, le-leb}
use Rattle.std.proofs.lemmas.Bool.Decides.{Decides-eqb}
use Rattle.pipe_frame.specs.Frame.{Table}
use Rattle.pipe_schema.specs.Rows.{Row}
use Rattle.pipe_schema.specs.declared.field.Field.{Field}
use Rattle.pipe_expr.specs.Joins.{Join, join_rows}
use Rattle.pipe_expr.specs.Projections.{passes, row_named, select_row, hstack_row, function_rows}
use Rattle.pipe_expr.specs.declared.join_words.JoinType.{JoinType}
use Rattle.pipe_expr.specs.declared.join_words.JoinType.TheVariants as how
use Rattle.pipe_plan.specs.Walk.{walk}
use Rattle.pipe_plan.specs.Node.{Node}
use Rattle.pipe_plan.specs.Node as node
use Rattle.pipe_plan.specs.Plan.{Plan}
use Rattle.pipe_plan.specs.Under.{node_at, inputs_of, is_under, reaches_at}
use Rattle.pipe_plan.specs.Schemas.{join_over, schemas_to}
use Rattle.pipe_plan.specs.PlanRows as plan_rows
use Rattle.pipe_plan.specs.PlanRows.{node_rows, rows_of}
use Rattle.pipe_plan.specs.Swap.{swaps, swaps_by}
use Rattle.pipe_events.specs.Stages.{Stages, Union, IsStages, IsBelow, GivesOneList, IsBuiltRight, is_built_by, stage_rows, rows, rows_at, rows_to}
use Rattle.pipe_events.specs.Worlds.{Event, start}
use Rattle.pipe_events.specs.Schedules.{AllAllowed, GivesTheRows}
use Rattle.pipe_events.specs.PlanStages.{one_row, sorted_slice, stage_of, Setting, stages_of, IsSoundPlan, EveryScheduleOfAPlan, StagesHaveTheRows}
use Rattle.pipe_events.proofs.WalkLemmas.{walk_is, Decides-no}
use Rattle.pipe_events.proofs.Tests.{any-stronger}
use Rattle.pipe_events.proofs.Every.{every}

-- a walk says nothing of the nodes above it
walk_past : {X : Type 0} (none : X) (f : (ℕ → X) → ℕ → X) (k n : ℕ) → k ≤ n → walk none f k n ≡ none
walk_past none f zero n le = refl
walk_past none f (suc k) n le = let apart = Decides-no n k (λ same. omega arith) in rw apart (walk_past none f k n (omega arith))

-- what passes at one of the numbers
any_at : (f : ℕ → Bool) (i : ℕ) (is : List ℕ) → list_any (λ m. eqb m i) is ≡ true → f i ≡ true → list_any f is ≡ true
any_at f i [] e h = cc
any_at f i (m ∷ is) e h =
    let split : (b : Bool) → eqb m i ≡ b → (b || list_any (λ k. eqb k i) is) ≡ true → (f m || list_any f is) ≡ true =
    elim [
      | true ↦ λ s _. let here : f m ≡ true = subst (λ k. f k ≡ true) (sym ((Decides-eqb m i).0 s)) h in rw here refl
      | false ↦ λ _ rest. elim (f m) as (λ b. (b || list_any f is) ≡ true) [ true ↦ refl | false ↦ any_at f i is rest h ]
    ]
    in split (eqb m i) refl e

module _ (nodes : List Node) where
  -- what is under an input is under the node
  through_input : (k i : ℕ) → list_any (λ m. eqb m i) (inputs_of (node_at nodes k)) ≡ true → i < k → (s t : ℕ) → walk false (reaches_at nodes k) s t ≡ true → walk false (reaches_at nodes i) s t ≡ true
  through_input k i member lt zero t e = cc
  through_input k i member lt (suc s) t e =
      let inputs = inputs_of (node_at nodes s) in
      let low_k = walk false (reaches_at nodes k) s in
      let low_i = walk false (reaches_at nodes i) s in
      let ih = through_input k i member lt s in
      let split : (b : Bool) → eqb t s ≡ b → cond b (reaches_at nodes k low_k s) (low_k t) ≡ true → cond b (reaches_at nodes i low_i s) (low_i t) ≡ true =
      elim [
        | true ↦ λ _ r.
            let inner : (b : Bool) → eqb s k ≡ b → (b || list_any low_k inputs) ≡ true → (eqb s i || list_any low_i inputs) ≡ true =
            elim [
              | true ↦ λ same _.
                  let is : s ≡ k = (Decides-eqb s k).0 same in
                  let self : eqb i i ≡ true = (Decides-eqb i i).1 refl in
                  let at_i : low_i i ≡ true = walk_is false (reaches_at nodes i) s i (omega arith) ∙ rw self refl in
                  let some : list_any low_i inputs ≡ true = any_at low_i i inputs (subst (λ n. list_any (λ m. eqb m i) (inputs_of (node_at nodes n)) ≡ true) (sym is) member) at_i in
                  elim (eqb s i) as (λ b. (b || list_any low_i inputs) ≡ true) [ true ↦ refl | false ↦ some ]
              | false ↦ λ _ f.
                  let some : list_any low_i inputs ≡ true = any-stronger low_k low_i inputs ih f in
                  elim (eqb s i) as (λ b. (b || list_any low_i inputs) ≡ true) [ true ↦ refl | false ↦ some ]
            ]
            in inner (eqb s k) refl r
        | false ↦ λ _ r. ih t r
      ]
      in split (eqb t s) refl e

-- one row at a time
by_row : (f : Row → Row) (l : List Row) → flat_map (one_row f) l ≡ map f l
by_row f [] = refl
by_row f (r ∷ l) = ap (λ rest. f r ∷ rest) (by_row f l)

by_test : (p : Row → Bool) (l : List Row) → flat_map (λ r. filter p (r ∷ [])) l ≡ filter p l
by_test p [] = refl
by_test p (r ∷ l) = elim (p r) as (λ b. cond b (r ∷ []) [] ++ flat_map (λ x. filter p (x ∷ [])) l ≡ cond b (r ∷ filter p l) (filter p l)) [ true ↦ ap (λ rest. r ∷ rest) (by_test p l) | false ↦ by_test p l ]

over_inputs : (a b : ℕ → List Row) (is : List ℕ) → ((i : ℕ) → list_any (λ m. eqb m i) is ≡ true → a i ≡ b i) → flat_map a is ≡ flat_map b is
over_inputs a b [] h = refl
over_inputs a b (i ∷ is) h =
    let self : eqb i i ≡ true = (Decides-eqb i i).1 refl in
    let here : a i ≡ b i = h i (rw self refl) in
    let rest : flat_map a is ≡ flat_map b is = over_inputs a b is (λ k e. h k (elim (eqb i k) as (λ t. (t || list_any (λ m. eqb m k) is) ≡ true) [ true ↦ refl | false ↦ e ])) in
    rw (here, rest) refl

-- either side built, the rows of a join are those of its left and right inputs
either_side : (right_built : Bool) (j : Join) (l r : ℕ) (a : ℕ → List Row) →
    cond right_built (join_rows j (a (cond right_built l r)) (a (cond right_built r l))) (join_rows j (a (cond right_built r l)) (a (cond right_built l r))) ≡ join_rows j (a l) (a r)
either_side true j l r a = refl
either_side false j l r a = refl

first_of : (i : ℕ) (is : List ℕ) → list_any (λ m. eqb m i) (i ∷ is) ≡ true
first_of i is = let self : eqb i i ≡ true = (Decides-eqb i i).1 refl in rw self refl

second_of : (h i : ℕ) (is : List ℕ) → list_any (λ m. eqb m i) (h ∷ i ∷ is) ≡ true
second_of h i is = elim (eqb h i) as (λ b. (b || list_any (λ m. eqb m i) (i ∷ is)) ≡ true) [ true ↦ refl | false ↦ first_of i is ]

-- the rows of a stage over the same rows: one case for each kind of node
node_agrees : (frames : List Table) (schema : ℕ → List Field) (x : Node) (a b : ℕ → List Row) → ((i : ℕ) → list_any (λ m. eqb m i) (inputs_of x) ≡ true → a i ≡ b i) → stage_rows a (stage_of frames schema x) ≡ node_rows frames schema b x
node_agrees frames schema (node.DataFrameScan frame columns) a b h = refl
node_agrees frames schema (node.Filter input predicate) a b h = by_test (passes predicate (schema input)) (a input) ∙ ap (filter (passes predicate (schema input))) (h input (first_of input []))
node_agrees frames schema (node.SimpleProjection input columns) a b h = by_row (row_named (schema input) columns) (a input) ∙ ap (map (row_named (schema input) columns)) (h input (first_of input []))
node_agrees frames schema (node.Select input exprs) a b h = by_row (select_row (schema input) exprs) (a input) ∙ ap (map (select_row (schema input) exprs)) (h input (first_of input []))
node_agrees frames schema (node.HStack input exprs) a b h = by_row (hstack_row (schema input) exprs) (a input) ∙ ap (map (hstack_row (schema input) exprs)) (h input (first_of input []))
node_agrees frames schema (node.MapFunction input function) a b h = ap (flat_map (function_rows function (schema input))) (h input (first_of input []))
node_agrees frames schema (node.Union inputs) a b h = over_inputs a b inputs h
node_agrees frames schema (node.Join left right left_on right_on options) a b h =
    let j = join_over (schema left) (schema right) left_on right_on options in
    either_side (swaps options) j left right a ∙ ap (λ rows. join_rows j rows (a right)) (h left (first_of left (right ∷ []))) ∙ ap (join_rows j (b left)) (h right (second_of left right []))
node_agrees frames schema (node.Sort input by options) a b h = ap (sorted_slice (schema input) by options) (h input (first_of input []))

module _ (plan : Plan) (root : ℕ) (setting : Setting) where
  abbrev stages : Stages
  stages = stages_of plan root setting

  under_input : (k i : ℕ) → is_under plan.nodes root k ≡ true → list_any (λ m. eqb m i) (inputs_of (node_at plan.nodes k)) ≡ true → i < k → is_under plan.nodes root i ≡ true
  under_input k i under member lt = through_input plan.nodes k i member lt (length plan.nodes) root under

  -- node by node, upwards
  agree : (k n : ℕ) → is_under plan.nodes root n ≡ true → rows_to stages k n ≡ plan_rows.rows_to plan k n
  agree zero n under = refl
  agree (suc k) n under =
      let split : (b : Bool) → eqb n k ≡ b → cond b (rows_at stages (rows_to stages k) k) (rows_to stages k n) ≡ cond b (plan_rows.rows_at plan (plan_rows.rows_to plan k) k) (plan_rows.rows_to plan k n) =
      elim [
        | true ↦ λ e.
            let under_k : is_under plan.nodes root k ≡ true = subst (λ i. is_under plan.nodes root i ≡ true) ((Decides-eqb n k).0 e) under in
            let inputs_agree : (i : ℕ) → list_any (λ m. eqb m i) (inputs_of (node_at plan.nodes k)) ≡ true → rows_to stages k i ≡ plan_rows.rows_to plan k i =
            λ i member.
            let cases : (i < k) ⊎ (k ≤ i) → rows_to stages k i ≡ plan_rows.rows_to plan k i =
            elim [
              | inl lt ↦ agree k i (under_input k i under_k member lt)
              | inr le ↦ walk_past [] (rows_at stages) k i le ∙ sym (walk_past [] (plan_rows.rows_at plan) k i le)
            ]
            in cases (cases_lt i k) in
            rw under_k (node_agrees plan.frames (schemas_to plan k) (node_at plan.nodes k) (rows_to stages k) (plan_rows.rows_to plan k) inputs_agree)
        | false ↦ λ _. agree k n under
      ]
      in split (eqb n k) refl

  pub agrees : (n : ℕ) → is_under plan.nodes root n ≡ true → rows stages n ≡ rows_of plan n
  agrees n under = agree (length plan.nodes) n under

  -- ---- what the laws ask

  is_smaller : (k i : ℕ) (is : List ℕ) → list_any (nat_le k) is ≡ false → list_any (λ m. eqb m i) is ≡ true → i < k
  is_smaller k i is none member =
      let split : (i < k) ⊎ (k ≤ i) → i < k =
      elim [
        | inl lt ↦ lt
        | inr le ↦ (let at_i : nat_le k i ≡ true = le-leb k i le in let some = any_at (nat_le k) i is member at_i in cc)
      ]
      in split (cases_lt i k)

  two_below : (k l r : ℕ) (right_built : Bool) → l < k → r < k → (cond right_built l r < k) × (cond right_built r l < k)
  two_below k l r true h h' = (h, h')
  two_below k l r false h h' = (h', h)

  stage_below : (schema : ℕ → List Field) (k : ℕ) (x : Node) → list_any (nat_le k) (inputs_of x) ≡ false → IsBelow k (stage_of plan.frames schema x)
  stage_below schema k (node.DataFrameScan frame columns) h = tt
  stage_below schema k (node.Filter input predicate) h = tt
  stage_below schema k (node.SimpleProjection input columns) h = tt
  stage_below schema k (node.Select input exprs) h = tt
  stage_below schema k (node.HStack input exprs) h = tt
  stage_below schema k (node.MapFunction input function) h = tt
  stage_below schema k (node.Union inputs) h = tt
  stage_below schema k (node.Join left right left_on right_on options) h = two_below k left right (swaps options) (is_smaller k left (left ∷ right ∷ []) h (first_of left (right ∷ []))) (is_smaller k right (left ∷ right ∷ []) h (second_of left right []))
  stage_below schema k (node.Sort input by options) h = is_smaller k input (input ∷ []) h (first_of input [])

  built_by : (kind : JoinType) (larger : Bool) → is_built_by kind (swaps_by kind larger) ≡ true
  built_by how.Inner larger = refl
  built_by how.Left larger = refl
  built_by how.Full larger = refl
  built_by how.Cross larger = refl
  built_by how.Semi larger = refl
  built_by how.Anti larger = refl

  stage_built : (schema : ℕ → List Field) (x : Node) → IsBuiltRight (stage_of plan.frames schema x)
  stage_built schema (node.DataFrameScan frame columns) = tt
  stage_built schema (node.Filter input predicate) = tt
  stage_built schema (node.SimpleProjection input columns) = tt
  stage_built schema (node.Select input exprs) = tt
  stage_built schema (node.HStack input exprs) = tt
  stage_built schema (node.MapFunction input function) = tt
  stage_built schema (node.Union inputs) = tt
  stage_built schema (node.Join left right left_on right_on options) = built_by options.how _
  stage_built schema (node.Sort input by options) = tt

  module _ (sound : IsSoundPlan plan root setting) where
    stage_one_list : (k : ℕ) → k < length plan.nodes → is_under plan.nodes root k ≡ true → (x : Node) → node_at plan.nodes k ≡ x → GivesOneList (rows stages) (stage_of plan.frames (schemas_to plan k) x)
    stage_one_list k inside under (node.DataFrameScan frame columns) e = tt
    stage_one_list k inside under (node.Filter input predicate) e = tt
    stage_one_list k inside under (node.SimpleProjection input columns) e = tt
    stage_one_list k inside under (node.Select input exprs) e = tt
    stage_one_list k inside under (node.HStack input exprs) e = tt
    stage_one_list k inside under (node.MapFunction input function) e = tt
    stage_one_list k inside under (node.Union inputs) e = tt
    stage_one_list k inside under (node.Join left right left_on right_on options) e = tt
    stage_one_list k inside under (node.Sort input by options) e =
        let member : list_any (λ m. eqb m input) (inputs_of (node_at plan.nodes k)) ≡ true = subst (λ x. list_any (λ m. eqb m input) (inputs_of x) ≡ true) (sym e) (first_of input []) in
        let lt : input < k = is_smaller k input (inputs_of (node_at plan.nodes k)) (sound.smaller k inside under) member in
        let same_rows : rows stages input ≡ rows_of plan input = agrees input (under_input k input under member lt) in
        rw same_rows (sound.one_list k input by options inside under e)

    pub are_stages : IsStages stages
    are_stages = record {
      below = λ k lt. elim (is_under plan.nodes root k) as (λ b. is_under plan.nodes root k ≡ b → IsBelow k (cond b (stage_of plan.frames (schemas_to plan k) (node_at plan.nodes k)) (Union []))) [
        | true ↦ λ under. stage_below (schemas_to plan k) k (node_at plan.nodes k) (sound.smaller k lt under)
        | false ↦ λ _. tt
      ] refl;
      one_list = λ k lt. elim (is_under plan.nodes root k) as (λ b. is_under plan.nodes root k ≡ b → GivesOneList (rows stages) (cond b (stage_of plan.frames (schemas_to plan k) (node_at plan.nodes k)) (Union []))) [
        | true ↦ λ under. stage_one_list k lt under (node_at plan.nodes k) refl
        | false ↦ λ _. tt
      ] refl;
      built_right = λ k. elim (is_under plan.nodes root k) as (λ b. IsBuiltRight (cond b (stage_of plan.frames (schemas_to plan k) (node_at plan.nodes k)) (Union []))) [
        | true ↦ stage_built (schemas_to plan k) (node_at plan.nodes k)
        | false ↦ tt
      ];
      rooted = sound.rooted;
      parted = sound.parted;
    }

    root_under : is_under plan.nodes root root ≡ true
    root_under = let self : eqb root root ≡ true = (Decides-eqb root root).1 refl in walk_is false (reaches_at plan.nodes root) (length plan.nodes) root sound.rooted ∙ rw self refl

    pub every_of : (events : List Event) → AllAllowed stages start events →
        GivesTheRows stages events (rows_of plan root)
    every_of events allowed =
        let same_rows = agrees root root_under in
        let h = every stages are_stages events allowed in
        subst (GivesTheRows stages events) same_rows h

pub every_of_a_plan : EveryScheduleOfAPlan
every_of_a_plan = every_of

pub stages_have_rows : StagesHaveTheRows
stages_have_rows = agrees
