-- Tables made one node at a time.
use Rattle.std.proofs.Common.{◌≡◌, ℕ, zero, suc, ◌+◌, ◌<◌, ◌≤◌, Bool, true, false, cond, eqb, get_or, length, List, [], ◌∷◌, ◌++◌, take, map, refl, ap, sym, ◌∙◌, arith, ◌⊎◌, inl, inr}
use Rattle.std.specs.Prelude.{if◌then◌else◌}
use Rattle.std.specs.List.{list_any}
use Rattle.std.proofs.lemmas.Bool.{cases_lt}
use Rattle.std.proofs.lemmas.List.{get_or-take, get_or_past, length-take}
use Rattle.pipe_frame.specs.Frame.{Table}
use Rattle.pipe_schema.specs.declared.field.Field.{Field}
use Rattle.pipe_plan.specs.Node.{Node}
use Rattle.pipe_plan.specs.Plan.{Plan}
use Rattle.pipe_plan.specs.Under.{node_at, inputs_of, is_under, reaches_at}
use Rattle.pipe_plan.specs.Schemas.{schemas_to}
use Rattle.pipe_events.specs.Stages.{Stage, Union}
use Rattle.pipe_events.specs.PlanStages.{stage_of, stage_at}
use Rattle.pipe_events.proofs.Tests.{any-never}
use Rattle.pipe_events.proofs.WalkLemmas.{walk_stays, Decides-no}
use Rattle.pipe_plan.specs.Walk.{walk}
use Rattle.pipe_plain.specs.Tables.{table, at_place}
use Rattle.pipe_plain.proofs.Walks.{table-walks, table-tells, table-more, walk-past}

-- one node more
pub more : {X : Type 0} (none : X) (f : (ℕ → X) → ℕ → X) (k : ℕ) (xs : List X) (made : X) → xs ≡ table none f k → made ≡ f (at_place none xs) k → xs ++ made ∷ [] ≡ table none f (k + 1)
more none f k xs made t e =
    let below : at_place none xs ≡ walk none f k = ap (at_place none) t ∙ table-walks none f k in
    let here : made ≡ f (walk none f k) k = e ∙ ap (λ b. f b k) below in
    rw (here, t) (sym (table-more none f k))

-- the first of a table
first-tells : {X : Type 0} (none : X) (f : (ℕ → X) → ℕ → X) (n k i : ℕ) → k ≤ n → get_or (take k (table none f n)) i none ≡ walk none f k i
first-tells none f n k i le =
    let split : (i < k) ⊎ (k ≤ i) → get_or (take k (table none f n)) i none ≡ walk none f k i =
    elim [
      | inl lt ↦ get_or-take k (table none f n) i none lt ∙ table-tells none f n i ∙ walk_stays none f n k i lt le
      | inr past ↦ (let e = length-take k (table none f n) in get_or_past (take k (table none f n)) i none (omega arith)) ∙ sym (walk-past none f k i past)
    ]
    in split (cases_lt i k)

pub first-walks : {X : Type 0} (none : X) (f : (ℕ → X) → ℕ → X) (n k : ℕ) (xs : List X) → k ≤ n → xs ≡ table none f n → at_place none (take k xs) ≡ walk none f k
first-walks none f n k xs le e = ap (λ l. at_place none (take k l)) e ∙ (λ i. λ m. first-tells none f n k m le i)

-- the stage of a node, from what it is made of
pub stage-there : (plan : Plan) (root k : ℕ) (frames : List Table) (schema : ℕ → List Field) (x : Node) (under : Bool) (s : Stage) → under ≡ is_under plan.nodes root k → frames ≡ plan.frames → schema ≡ schemas_to plan k → x ≡ node_at plan.nodes k → s ≡ stage_of frames schema x → (if under then s else Union []) ≡ stage_at plan root k
stage-there plan root k frames schema x under s u f fields there e =
    let made : s ≡ stage_of plan.frames (schemas_to plan k) (node_at plan.nodes k) =
    e ∙ ap (λ t. stage_of t schema x) f ∙ ap (λ t. stage_of plan.frames t x) fields ∙ ap (stage_of plan.frames (schemas_to plan k)) there in
    ap (λ t. if under then t else Union []) made ∙ ap (λ b. if b then stage_of plan.frames (schemas_to plan k) (node_at plan.nodes k) else Union []) u

-- a node past the end is under none
never-under : (nodes : List Node) (k s t : ℕ) → s ≤ k → walk false (reaches_at nodes k) s t ≡ false
never-under nodes k zero t le = refl
never-under nodes k (suc s) t le =
    let low = walk false (reaches_at nodes k) s in
    let apart : eqb s k ≡ false = Decides-no s k (λ same. omega arith) in
    let none : list_any low (inputs_of (node_at nodes s)) ≡ false = any-never low (inputs_of (node_at nodes s)) (λ i. never-under nodes k s i (omega arith)) in
    elim (eqb t s) as (λ b. cond b (reaches_at nodes k low s) (low t) ≡ false) [ true ↦ rw (apart, none) refl | false ↦ never-under nodes k s t (omega arith) ]

pub stage-past : (plan : Plan) (root k : ℕ) → length plan.nodes ≤ k → stage_at plan root k ≡ Union []
stage-past plan root k le = let e : is_under plan.nodes root k ≡ false = never-under plan.nodes k (length plan.nodes) root le in rw e refl
