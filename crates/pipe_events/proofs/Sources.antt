-- Sources that are ready have their rows, and are spent where all is taken.
use Rattle.std.proofs.Common.{◌≡◌, ℕ, ◌<◌, ◌≤◌, List, length, refl, subst}
use Rattle.pipe_events.specs.Stages.{Stage, Stages, Scan, Each, Union, Sort, Joined, IsStages, GivesOneList, rows, own_rows}
use Rattle.pipe_events.specs.Worlds.{World, Event, start, IsReady, IsSpent, count, source_rows}
use Rattle.pipe_events.specs.Schedules.{AllAllowed, run}
use Rattle.pipe_events.proofs.Tied.{closed_sides}
use Rattle.pipe_events.proofs.Ways.{sink_sort}
use Rattle.pipe_events.specs.Sources.{ReadySourcesHaveTheirRows, TakenSourcesAreSpent}

module _ (plan : Stages) (ok : IsStages plan) (events : List Event) (allowed : AllAllowed plan start events) (n : ℕ) (inside : n < plan.size) where
  own : (x : Stage) → plan.stage n ≡ x → IsReady (run plan start events).closed x → source_rows (run plan start events).bag x ≡ own_rows (rows plan) x
  own (Scan rows) is ready = refl
  own (Each input op) is ready = absurd ready
  own (Union inputs) is ready = absurd ready
  own (Sort input sorted) is ready =
      let one : GivesOneList (rows plan) (Sort input sorted) = subst (GivesOneList (rows plan)) is (ok.one_list n inside) in
      one ((run plan start events).bag input) (closed_sides plan ok events allowed input (sink_sort plan n input sorted inside is) ready)
  own (Joined j) is ready = absurd ready

pub ready_sources : ReadySourcesHaveTheirRows
ready_sources plan ok events allowed n inside ready = own plan ok events allowed n inside (plan.stage n) refl ready

spent : (plan : Stages) (w : World) (n : ℕ) (x : Stage) → IsReady w.closed x → ((p : ℕ) → p < length (source_rows w.bag x) → 1 ≤ count p (w.taken n)) → IsSpent plan w n x
spent plan w n (Scan rows) ready taken = taken
spent plan w n (Each input op) ready taken = absurd ready
spent plan w n (Union inputs) ready taken = absurd ready
spent plan w n (Sort input sorted) ready taken = (ready, taken)
spent plan w n (Joined j) ready taken = absurd ready

pub taken_sources : TakenSourcesAreSpent
taken_sources plan w n ready taken = spent plan w n (plan.stage n) ready taken
