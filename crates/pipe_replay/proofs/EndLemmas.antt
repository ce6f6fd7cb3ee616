-- A replay of the events of a plan without a fault ends with the plan's rows.
use Rattle.std.proofs.Common.{◌≡◌, ℕ, ◌<◌, List, take, sym, subst, None}
use Rattle.std.proofs.lemmas.Nat.{mod_below}
use Rattle.pipe_rows.specs.Equality.{equality_row}
use Rattle.pipe_plan.specs.Plan.{Plan}
use Rattle.pipe_plan.specs.PlanRows.{rows_of}
use Rattle.pipe_plan.specs.Faults.{plan_fault}
use Rattle.pipe_events.specs.Worlds.{Event, World, start}
use Rattle.pipe_events.specs.Schedules.{run}
use Rattle.pipe_events.specs.PlanStages.{stages_of, IsSoundPlan}
use Rattle.pipe_events.proofs.PlanLemmas.{every_of_a_plan}
use Rattle.pipe_events.proofs.Deciding.{lists_decided, completeness_decided}
use Rattle.pipe_events.proofs.Unfaulted.{without_fault}
use Rattle.pipe_events.specs.Fits.{FramesFit}
use Rattle.pipe_events.proofs.Plans.{sorts_sure}
use Rattle.pipe_replay.specs.KeptWorld.{setting_by}
use Rattle.pipe_replay.specs.Replayed.{IsPlayed}
use Rattle.pipe_replay.specs.Ends.{HasTheRows}

module _ (hash_of : List ℕ → ℕ) (plan : Plan) (root workers parts : ℕ) (some : 0 < parts) (none : plan_fault plan root ≡ None) (fit : FramesFit plan) where
  sound : IsSoundPlan plan root (setting_by hash_of workers parts)
  sound = let there = without_fault plan root none in record {
    rooted = there.0;
    smaller = there.1;
    one_list = sorts_sure plan root none fit;
    parted = λ key. mod_below (hash_of (equality_row key)) parts some;
  }

  pub has-the-rows : (events : List Event) (w : World) (count : ℕ) → IsPlayed (stages_of plan root (setting_by hash_of workers parts)) events w count → HasTheRows (stages_of plan root (setting_by hash_of workers parts)) (rows_of plan root) w
  has-the-rows events w count played =
      let p = stages_of plan root (setting_by hash_of workers parts) in
      let front = take count events in
      let ends = every_of_a_plan plan root (setting_by hash_of workers parts) sound front ((lists_decided p start front).0 played.allowed) in
      let here : HasTheRows p (rows_of plan root) (run p start front) = record {
        within = ends.0;
        whole = λ done. ends.1 ((completeness_decided p (run p start front)).0 done);
      }
      in subst (HasTheRows p (rows_of plan root)) (sym played.world) here
