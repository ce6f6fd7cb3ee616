use Rattle.std.proofs.Common.{◌≡◌, map, take}
use Rattle.serde_json.specs.Data.{boolean}
use Rattle.pipe_job.specs.Spelling.{maybe}
use Rattle.pipe_value.specs.View.{view}
use Rattle.pipe_spell.proofs.columns.truths_value.Given as goal

abbrev pub invariant-loop-i : goal.invariant-loop-i
invariant-loop-i l = map view l.values.items ≡ map (maybe boolean) (take l.i l.column)
