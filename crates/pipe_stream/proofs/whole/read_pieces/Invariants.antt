use Rattle.std.proofs.Common.{◌≤◌, ◌-◌, ◌+◌, length, vec_len}
use Rattle.pipe_stream.specs.Whole.{ReadAndCounted}
use Rattle.pipe_stream.proofs.whole.read_pieces.Given as goal

abbrev pub invariant-loop-input : goal.invariant-loop-input
invariant-loop-input g l = record {
  reading : ReadAndCounted l.text.items (g.R.JobReader.seen l.initial.input) (g.R.JobReader.seen l.input);
  few : length l.text.items ≤ 33554432 + length l.initial.buffer;
  faults : (g.R.JobReader.seen l.initial.input).faults ≤ (g.R.JobReader.seen l.input).faults;
}

abbrev pub decreases-loop-input : goal.decreases-loop-input
decreases-loop-input g l = 33554433 - vec_len l.text
