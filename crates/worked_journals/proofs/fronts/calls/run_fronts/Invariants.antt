use Rattle.std.proofs.Common.{length}
use Rattle.pipe_engine.specs.Stands.{Settings}
use Rattle.pipe_lines.specs.Fronts.{StandForLeft}
use Rattle.pipe_lines.specs.Standing.{asked_in}
use Rattle.pipe_rows.specs.declared.hasher.Fnv.{Fnv}
use Rattle.pipe_rows.specs.Fnv.{fnv1a}
use Rattle.worked_journals.proofs.fronts.calls.run_fronts.Given as goal

abbrev pub invariant-fronts : goal.invariant-fronts
invariant-fronts g l = record {
  settings : Settings Fnv;
  stand : StandForLeft (λ h. fnv1a) (asked_in l.plan settings) l.context l.pipelines.items l.slots l.counts;
}

abbrev pub decreases-fronts : goal.decreases-fronts
decreases-fronts g l = length l.pipelines.items
