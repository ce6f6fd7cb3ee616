use Rattle.std.proofs.Common.{◌≡◌, ℕ, length, drop}
use Rattle.pipe_check.specs.Checking.{is_misread, is_read_after}
use Rattle.pipe_check.proofs.bad_node.are_misread.Given as goal

abbrev pub invariant-loop-input : goal.invariant-loop-input
invariant-loop-input l = record {
  sized : length l.read ≡ length l.initial.read;
  bad : is_misread l.read l.n (drop l.input-index l.inputs) ≡ is_misread l.initial.read l.n l.inputs;
  marked : (i : ℕ) → is_read_after l.read (drop l.input-index l.inputs) i ≡ is_read_after l.initial.read l.inputs i;
}
