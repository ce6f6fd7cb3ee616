-- The node below a side stands below the side's node, in a plan without a fault.
use Rattle.std.proofs.Common.{◌≡◌, ℕ, ◌<◌, ◌≤◌, Bool, true, false, cond, ◌||◌, List, [], refl, arith, Some, None, ◌⊎◌, inl, inr}
use Rattle.std.specs.Prelude.{nat_le}
use Rattle.std.specs.List.{list_any}
use Rattle.std.proofs.lemmas.Bool.{cases_lt, le-leb}
use Rattle.pipe_frame.specs.Frame.{Table}
use Rattle.pipe_schema.specs.declared.field.Field.{Field}
use Rattle.pipe_plan.specs.Node.{Node}
use Rattle.pipe_plan.specs.Node as node
use Rattle.pipe_plan.specs.Plan.{plan_of}
use Rattle.pipe_plan.specs.Swap.{swaps}
use Rattle.pipe_plan.specs.Under.{node_at, inputs_of, is_under}
use Rattle.pipe_plan.specs.Schemas.{schemas_to}
use Rattle.pipe_plan.specs.Faults.{plan_fault}
use Rattle.pipe_events.specs.Stages.{Stage, Stages, Scan, Each, Union, Sort, Joined, IsBelow, flushes}
use Rattle.pipe_events.specs.Worlds.{World, Side, OfSort, OfBuild, OfProbe, Take, Mark, Close, Flush, side_below}
use Rattle.pipe_events.specs.Decided.{is_allowed}
use Rattle.pipe_events.specs.PlanStages.{stage_of}
use Rattle.pipe_events.proofs.Deciding.{events_decided}
use Rattle.pipe_events.proofs.Unfaulted.{without_fault}
use Rattle.pipe_world.specs.Staged.{Staging, size_in, stage_in, staged}
use Rattle.pipe_replay.specs.Replayed.{AreBelow}

some-is : (a b n : ℕ) → Some a ≡ Some b → a < n → b < n
some-is a b n e lt = let is : a ≡ b = cc in omega (arith, is)

probe-is : (b : Bool) (a t n : ℕ) → cond b (Some a) None ≡ Some t → a < n → t < n
probe-is true a t n e lt = some-is a t n e lt
probe-is false a t n e lt = cc

pub side-within : (x : Stage) (side : Side) (n t : ℕ) → IsBelow n x → side_below x side ≡ Some t → t < n
side-within (Scan rows) side n t h e = cc
side-within (Each input op) side n t h e = cc
side-within (Union inputs) side n t h e = cc
side-within (Sort input sorted) OfSort n t h e = some-is input t n e h
side-within (Sort input sorted) OfBuild n t h e = cc
side-within (Sort input sorted) OfProbe n t h e = cc
side-within (Joined j) OfSort n t h e = cc
side-within (Joined j) OfBuild n t h e = some-is j.build t n e h.1
side-within (Joined j) OfProbe n t h e = probe-is (flushes j) j.probe t n e h.0

-- ---- what an allowed event names is there

module _ (plan : Stages) (w : World) where
  pub take-inside : (worker source from amount : ℕ) → is_allowed plan w (Take worker source from amount) ≡ true → source < plan.size
  take-inside worker source from amount e = ((events_decided plan w (Take worker source from amount)).0 e).inside

  pub mark-inside : (worker k : ℕ) (key : _) → is_allowed plan w (Mark worker k key) ≡ true → k < plan.size
  mark-inside worker k key e = ((events_decided plan w (Mark worker k key)).0 e).inside

  pub flush-inside : (worker k part : ℕ) → is_allowed plan w (Flush worker k part) ≡ true → k < plan.size
  flush-inside worker k part e = ((events_decided plan w (Flush worker k part)).0 e).inside

  pub close-inside : (n : ℕ) (side : Side) → is_allowed plan w (Close n side) ≡ true → n < plan.size
  close-inside n side e = ((events_decided plan w (Close n side)).0 e).1.inside

  pub close-within : ((k : ℕ) → k < plan.size → IsBelow k (plan.stage k)) → (n : ℕ) (side : Side) (t : ℕ) → is_allowed plan w (Close n side) ≡ true → side_below (plan.stage n) side ≡ Some t → t < plan.size
  close-within below n side t e is =
      let inside = close-inside n side e in
      let less = side-within (plan.stage n) side n t (below n inside) is in
      omega (arith, inside, less)

-- ---- the stages of a plan without a fault

is-smaller : (k i : ℕ) → nat_le k i ≡ false → i < k
is-smaller k i none =
    let split : (i < k) ⊎ (k ≤ i) → i < k = elim [
      | inl lt ↦ lt
      | inr le ↦ (let yes : nat_le k i ≡ true = le-leb k i le in cc)
    ]
    in split (cases_lt i k)

or-first : (a b : Bool) → (a || b) ≡ false → a ≡ false
or-first true b e = cc
or-first false b e = refl

or-second : (a b : Bool) → (a || b) ≡ false → b ≡ false
or-second true b e = cc
or-second false b e = e

two-below : (k l r : ℕ) (right_built : Bool) → l < k → r < k → (cond right_built l r < k) × (cond right_built r l < k)
two-below k l r true h h' = (h, h')
two-below k l r false h h' = (h', h)

stage-below : (frames : List Table) (schema : ℕ → List Field) (k : ℕ) (x : Node) → list_any (nat_le k) (inputs_of x) ≡ false → IsBelow k (stage_of frames schema x)
stage-below frames schema k (node.DataFrameScan frame columns) h = tt
stage-below frames schema k (node.Filter input predicate) h = tt
stage-below frames schema k (node.SimpleProjection input columns) h = tt
stage-below frames schema k (node.Select input exprs) h = tt
stage-below frames schema k (node.HStack input exprs) h = tt
stage-below frames schema k (node.MapFunction input function) h = tt
stage-below frames schema k (node.Union inputs) h = tt
stage-below frames schema k (node.Join left right left_on right_on options) h =
    two-below k left right (swaps options) (is-smaller k left (or-first (nat_le k left) _ h)) (is-smaller k right (or-first (nat_le k right) _ (or-second (nat_le k left) _ h)))
stage-below frames schema k (node.Sort input by options) h = is-smaller k input (or-first (nat_le k input) _ h)

pub are-below : (plan : Staging) → plan_fault (plan_of plan.arena) plan.root ≡ None → AreBelow (staged plan)
unfolding size_in stage_in
are-below plan none k lt =
    let whole = plan_of plan.arena in
    let smaller = (without_fault whole plan.root none).1 k lt in
    elim (is_under whole.nodes plan.root k) as (λ b. is_under whole.nodes plan.root k ≡ b → IsBelow k (cond b (stage_of whole.frames (schemas_to whole k) (node_at whole.nodes k)) (Union []))) [
      | true ↦ λ under. stage-below whole.frames (schemas_to whole k) k (node_at whole.nodes k) (smaller under)
      | false ↦ λ _. tt
    ] refl
