-- How many rows the sources of a plan's pipelines have: no fewer than the sources under its root.
use Rattle.std.proofs.Common.{◌≡◌, ◌≤◌, ℕ, ◌+◌, Bool, true, false, if◌then◌else◌, List, [], ◌∷◌, length, Option, Some, None, refl, ap, subst, arith}
use Rattle.std.specs.List.{AllByRecursion, flat_map}
use Rattle.std.specs.Prelude.{Result, Ok, Err, OnOk}
use Rattle.pipe_schema.specs.Weights.{total}
use Rattle.pipe_schema.proofs.Weights.{SameBag, total-append}
use Rattle.pipe_ops.specs.declared.context.PExecutionContext.{PExecutionContext}
use Rattle.pipe_source.specs.declared.phys_source.PhysSource.{PhysSource}
use Rattle.pipe_driver.specs.Legs.{Leg, Way, ways_of}
use Rattle.pipe_driver.specs.Meaning.{Meaning}
use Rattle.pipe_driver.specs.Ways.{AreLegs, IsWay, MayGoOn, starts_from, starts_of}
use Rattle.pipe_driver.proofs.Runnable.{are_chains, at_sources}
use Rattle.pipe_driver.specs.Lines.{IsLine, SourceHas, Task, ways_as}
use Rattle.pipe_driver.specs.Plans.{task_of}
use Rattle.pipe_driver.specs.declared.sink_counts.SinkCounts.{SinkCounts}
use Rattle.pipe_check.specs.Checked.{Checked}
use Rattle.pipe_convert.specs.Nodes.{plan_in, meaning_in}
use Rattle.pipe_slots.specs.declared.slots.Slots.{Slots}
use Rattle.pipe_engine.specs.Drives.{Line}
use Rattle.pipe_engine.specs.Engine.{engine_words}
use Rattle.pipe_engine.specs.Lent.{AreLent}
use Rattle.pipe_engine.specs.Paced.{TakesPaced, most_of, rows_due_from, rows_due_of}
use Rattle.pipe_engine.specs.Stands.{Settings}
use Rattle.pipe_lines.specs.Standing.{ask_in, rows_scanned, scanned_at}

abbrev once : {X : Type 0} → X → ℕ
once x = 1

total-once : {X : Type 0} (xs : List X) → total once xs ≡ length xs
total-once [] = refl
total-once (x ∷ xs) = omega (arith, total-once xs)

-- as many rows, whatever their order
same-long : {X : Type 0} (a b : List X) → SameBag a b → length a ≡ length b
same-long a b same = omega (arith, same.sums once, total-once a, total-once b)

-- ---- where legs begin

-- how many rows the nodes have where ways begin
abbrev rows_begun : Meaning → List Way → ℕ
rows_begun m [] = 0
rows_begun m (w ∷ ws) = length (m.rows w.start) + rows_begun m ws

unless : (t : Bool) (n : ℕ) → (if t then 0 else n) ≤ n
unless true n = omega arith
unless false n = omega arith

module _ (m : Meaning) where
  scanned-few : (n : ℕ) → scanned_at m n ≤ length (m.rows n)
  scanned-few n = unless (m.is_sort n) (length (m.rows n))

  -- a further leg begins at a sort
  none-later : (start : ℕ) (legs : List Leg) → MayGoOn m start legs → AreLegs m start legs → total (scanned_at m) (starts_from start legs) ≡ 0
  none-later start [] on are = refl
  none-later start (leg ∷ legs) on are =
      let here : scanned_at m start ≡ 0 = ap (λ (t : Bool). if t then 0 else length (m.rows start)) on in
      let rest = none-later leg.sink legs are.0.on are.1 in
      omega (arith, here, rest)

  legs-few : (start : ℕ) (legs : List Leg) → AreLegs m start legs → total (scanned_at m) (starts_from start legs) ≤ length (m.rows start)
  legs-few start [] are = omega arith
  legs-few start (leg ∷ legs) are = omega (arith, scanned-few start, none-later leg.sink legs are.0.on are.1)

  ways-few : (ws : List Way) → AllByRecursion (IsWay m) ws → total (scanned_at m) (flat_map starts_of ws) ≤ rows_begun m ws
  ways-few [] are = omega arith
  ways-few (w ∷ ws) are = omega (arith, total-append (scanned_at m) (starts_of w) (flat_map starts_of ws), legs-few w.start w.legs are.0.legs, ways-few ws are.1)

-- ---- sources

module _ {H : Type 0} (hash_of : H → List ℕ → ℕ) (x : Settings H) (k : Task) where
  due_from : (start : ℕ) (source : Option PhysSource) → SourceHas (engine_words hash_of x) k start source → rows_due_from source ≡ length (k.m.rows start)
  due_from start None has = absurd has
  due_from start (Some source) has = same-long _ _ has.rows

  due_of : (o : ℕ) (ps : List (Line H)) → AllByRecursion (IsLine (engine_words hash_of x) k) ps → rows_due_of ps ≡ rows_begun k.m (ways_as o ps)
  due_of o [] lines = refl
  due_of o (p ∷ ps) lines = omega (arith, due_from p.start p.source lines.0.source, due_of o ps lines.1)

-- the sources of a plan's pipelines have no fewer rows
pub due_enough : {H : Type 0} (hash_of : H → List ℕ → ℕ) (x : Settings H) (plan : Checked) (context : PExecutionContext) (slots : Slots H) (counts : SinkCounts) (ps : List (Line H)) → AreLent hash_of x (ask_in plan) context slots counts ps → rows_scanned plan ≤ rows_due_of ps
due_enough hash_of x plan context slots counts ps is =
    let k = task_of (ask_in plan) in
    let m = meaning_in plan in
    let ws = ways_of (plan_in plan) plan.root in
    let due = due_of hash_of x k (length (plan_in plan).nodes) ps is.are in
    let begun = ap (rows_begun m) is.ways in
    let sources = at_sources (plan_in plan) plan.root is.well (scanned_at m) in
    let few = ways-few m ws (are_chains (plan_in plan) plan.root is.well) in
    omega (arith, due, begun, sources, few)

-- at the same pace, by what these numbers are
pub paced_as : {T E : Type 0} (r : Result T E) (was now : PExecutionContext) (d e a b : ℕ) → was ≡ now → e ≤ d → OnOk r (TakesPaced (most_of was) d 0 a b) → OnOk r (TakesPaced (most_of now) e 0 a b)
paced_as (Ok value) was now d e a b same less paced =
    let P : PExecutionContext → Type 0 = λ context. TakesPaced (most_of context) d 0 a b in
    let h = subst P same paced in
    record { questions = h.questions; asked = h.asked; few = omega (arith, less, h.few) }
paced_as (Err error) was now d e a b same less paced = tt
