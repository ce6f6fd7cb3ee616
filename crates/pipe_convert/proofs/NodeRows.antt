-- The rows of a node under the root are made of those of its inputs.
use Rattle.std.proofs.Common.{◌≡◌, ℕ, true, false, eqb, ◌||◌, List, [], ◌∷◌, length, refl, ap, sym, ◌∙◌, arith}
use Rattle.std.specs.List.{flat_map}
use Rattle.pipe_schema.specs.Rows.{Row}
use Rattle.pipe_plan.specs.Node.{Node}
use Rattle.pipe_plan.specs.Node as node
use Rattle.pipe_plan.specs.Plan.{Plan}
use Rattle.pipe_plan.specs.PlanRows.{rows_of}
use Rattle.pipe_plan.specs.Schemas.{schema_of}
use Rattle.pipe_plan.specs.Under.{inputs_of, is_under, node_at}
use Rattle.pipe_plan.specs.Faults.{IsWellFormed}
use Rattle.pipe_events.specs.Stages.{Stages, Scan, Sort, stage_rows, rows_at, rows_to}
use Rattle.pipe_events.specs.PlanStages.{Setting, stage_of, stage_at, stages_of}
use Rattle.pipe_events.proofs.PlanLemmas.{stages_have_rows}
use Rattle.pipe_check.proofs.Walks.{walk-at, walk-below, member, itself}
use Rattle.pipe_convert.proofs.Granted.{Granted, granted}

abbrev setting : Setting
setting = record { workers = 1; parts = 1; part = λ _. 0 }

module _ (plan : Plan) (root n : ℕ) (good : IsWellFormed plan root) (under : is_under plan.nodes root n ≡ true) where
  abbrev stages : Stages
  stages = stages_of plan root setting

  -- the rows of the nodes below
  abbrev below : ℕ → List Row
  below = rows_to stages n

  grants : Granted plan root n (node_at plan.nodes n)
  grants = granted plan root n (node_at plan.nodes n) good under refl

  -- those of its inputs
  fed : (i : ℕ) → member i (inputs_of (node_at plan.nodes n)) ≡ true → below i ≡ rows_of plan i
  fed i m =
      let g = grants.fed i m in
      walk-below [] (rows_at stages) n (length plan.nodes) i g.0 (omega (arith, g.0, grants.there)) ∙ stages_have_rows plan root setting i g.1

  -- the node's own
  own : rows_of plan n ≡ stage_rows below (stage_at plan root n)
  own = sym (stages_have_rows plan root setting n under) ∙ walk-at [] (rows_at stages) (length plan.nodes) n grants.there

  pub scan_rows : (kept : List Row) → stage_at plan root n ≡ Scan kept → rows_of plan n ≡ kept
  scan_rows kept e = own ∙ ap (stage_rows below) e

  is_member : (x : Node) (i : ℕ) (is : List ℕ) → node_at plan.nodes n ≡ x → inputs_of x ≡ i ∷ is → member i (inputs_of (node_at plan.nodes n)) ≡ true
  is_member x i is e f = let at = ap inputs_of e ∙ f in let self = itself i in rw (at, self) refl

  pub sort_rows : (x : Node) (input : ℕ) (sorting : List Row → List Row) → node_at plan.nodes n ≡ x → inputs_of x ≡ input ∷ [] → stage_at plan root n ≡ Sort input sorting → rows_of plan n ≡ sorting (rows_of plan input)
  sort_rows x input sorting e one f = own ∙ ap (stage_rows below) f ∙ ap sorting (fed input (is_member x input [] e one))

  over : (is : List ℕ) → ((i : ℕ) → member i is ≡ true → below i ≡ rows_of plan i) → flat_map below is ≡ flat_map (rows_of plan) is
  over [] h = refl
  over (i ∷ is) h =
      let self = itself i in
      let here : below i ≡ rows_of plan i = h i (rw self refl) in
      let rest : flat_map below is ≡ flat_map (rows_of plan) is = over is (λ k m. h k (elim (eqb i k) as (λ t. (t || member k is) ≡ true) [ true ↦ refl | false ↦ m ])) in
      rw (here, rest) refl

  pub union_rows : (inputs : List ℕ) → node_at plan.nodes n ≡ node.Union inputs → rows_of plan n ≡ flat_map (rows_of plan) inputs
  union_rows inputs e =
      let staged = grants.staged ∙ ap (stage_of plan.frames (schema_of plan)) e in
      own ∙ ap (stage_rows below) staged ∙ over inputs (λ i m. fed i (ap (λ x. member i (inputs_of x)) e ∙ m))
