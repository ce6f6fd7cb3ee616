use Rattle.std.proofs.Common.{◌+◌, ◌<◌, ◌^◌, drop, length}
use Rattle.pipe_source.specs.Law.{all_rows}
use Rattle.pipe_source.specs.Supplies.{all_left}
use Rattle.pipe_convert.specs.Sources.{AreScans}
use Rattle.pipe_convert.proofs.SourceLemmas.{ScansBehind}
use Rattle.pipe_convert.proofs.source.union_source.Given as goal

abbrev pub invariant-loop-input : goal.invariant-loop-input
invariant-loop-input l = record {
  scans : AreScans l.plan (drop l.input-index l.inputs);
  few : l.rows_left + length (all_rows (all_left l.sources.items)) < 2 ^ 62;
  behind : ScansBehind l.plan l.inputs (drop l.input-index l.inputs) l.sources.items;
}
