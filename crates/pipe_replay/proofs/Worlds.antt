-- Worlds of a plan: what their steps ask, and what they leave.
use Rattle.std.proofs.Common.{◌≡◌, ℕ, ◌<◌, List, length, ap, sym, ◌∙◌, subst, Option}
use Rattle.std.proofs.lemmas.List.{length-map}
use Rattle.pipe_schema.specs.Rows.{Row}
use Rattle.pipe_rows.specs.Partition.{IsPartitionCount}
use Rattle.pipe_plan.specs.Faults.{IsWellFormed}
use Rattle.pipe_plan.specs.Node.{node_of}
use Rattle.pipe_plan.specs.Plan.{plan_of}
use Rattle.pipe_plan.specs.declared.arena.Arena.{Arena}
use Rattle.pipe_check.specs.Checked.{Checked}
use Rattle.pipe_events.specs.Stages.{Stages}
use Rattle.pipe_world.specs.Staged.{Staging, AreTables, size_in, staged}
use Rattle.pipe_world.specs.declared.plan_tables.PlanTables.{PlanTables}
use Rattle.pipe_world.specs.Shown.{Shown, IsFor, world_of}
use Rattle.pipe_replay.specs.KeptLists.{AreKept}
use Rattle.pipe_replay.specs.KeptWorld.{KeptWorld, world_in, stages_for, stages_in, staging, IsOf}
use Rattle.pipe_replay.specs.Replayed.{AreBelow}
use Rattle.pipe_replay.specs.declared.lists.SortedList.{SortedList}
use Rattle.pipe_replay.proofs.Parts.{some-parts, same-parts}
use Rattle.pipe_replay.proofs.Sides.{are-below}

-- what is made for a plan at the start is of it
module _ (plan : Checked) (arena : Arena) (root workers parts nodes : ℕ) (tables : PlanTables) (lists : List (Option SortedList)) (shown : Shown) (arena_is : arena ≡ plan.arena) (root_is : root ≡ plan.root) (many : nodes ≡ length arena.nodes) where
  abbrev pub made : KeptWorld
  made = record { tables = tables; workers = workers; parts = parts; lists = lists; shown = shown }

  all-nodes : nodes ≡ length (plan_of plan.arena).nodes
  all-nodes = many ∙ ap (λ (a : Arena). length a.nodes) arena_is ∙ sym (length-map plan.arena.nodes node_of)

  pub starts : AreTables (plan_of arena) tables → tables.root ≡ root → IsPartitionCount workers parts → IsFor nodes shown → ((p : Stages) (bag : ℕ → List Row) → p.size ≡ nodes → AreKept p bag lists) → IsOf plan made
  unfolding size_in
  starts are is count sized none = record {
    tables = subst (λ (a : Arena). AreTables (plan_of a) tables) arena_is are;
    root = is ∙ root_is;
    parts = count;
    nodes = subst (λ (n : ℕ). IsFor n shown) all-nodes sized;
    kept = none (staged (staging plan made)) (world_in made).bag (sym all-nodes);
  }

-- the stages that are made of a world of a plan
module _ (plan : Checked) (w : KeptWorld) (is : IsOf plan w) where
  pub is-staging : (arena : Arena) (s : Staging) → arena ≡ plan.arena → s ≡ record { arena = arena; root = w.tables.root; workers = w.workers; parts = w.parts } → s ≡ staging plan w
  is-staging arena s arena_is made = made ∙ (λ i. record { arena = arena_is i; root = is.root i; workers = w.workers; parts = w.parts })

  pub tables-of : (arena : Arena) → arena ≡ plan.arena → AreTables (plan_of arena) w.tables
  tables-of arena arena_is = subst (λ (a : Arena). AreTables (plan_of a) w.tables) (sym arena_is) is.tables

  module _ (s : Staging) (same : s ≡ staging plan w) where
    pub has-nodes : IsFor (staged s).size w.shown
    unfolding size_in
    has-nodes = subst (λ (x : Staging). IsFor (staged x).size w.shown) (sym same) is.nodes

    pub has-parts : 0 < s.parts
    has-parts = subst (λ (x : Staging). 0 < x.parts) (sym same) (some-parts w.workers w.parts is.parts)

    pub has-below : IsWellFormed (plan_of plan.arena) plan.root → AreBelow (staged s)
    has-below good = subst (λ (x : Staging). AreBelow (staged x)) (sym same) (are-below (staging plan w) good.faultless)

    pub has-kept : AreKept (staged s) (world_in w).bag w.lists
    has-kept = subst (λ (x : Staging). AreKept (staged x) (world_in w).bag w.lists) (sym same) is.kept

    -- a world of the plan after a step
    pub stays : (lists : List (Option SortedList)) (shown : Shown) → IsFor (staged s).size shown → AreKept (staged s) (world_of shown).bag lists → IsOf plan (record { tables = w.tables; workers = w.workers; parts = w.parts; lists = lists; shown = shown })
    unfolding size_in
    stays lists shown sized kept = record {
      tables = is.tables;
      root = is.root;
      parts = is.parts;
      nodes = subst (λ (x : Staging). IsFor (staged x).size shown) same sized;
      kept = subst (λ (x : Staging). AreKept (staged x) (world_of shown).bag lists) same kept;
    }

-- there is one number of partitions for so many workers
pub for-parts : (hash_of : List ℕ → ℕ) (plan : Checked) (w : KeptWorld) (workers parts : ℕ) → w.workers ≡ workers → IsPartitionCount w.workers w.parts → IsPartitionCount workers parts → stages_in hash_of plan w ≡ stages_for hash_of plan workers parts
for-parts hash_of plan w workers parts same count given =
    let one : w.parts ≡ parts = same-parts workers w.parts parts (subst (λ (k : ℕ). IsPartitionCount k w.parts) same count) given in
    λ i. stages_for hash_of plan (same i) (one i)
