use Rattle.std.proofs.Common.{◌≡◌, ◌++◌, deque_len}
use Rattle.std.specs.List.{AllByRecursion}
use Rattle.pipe_lines.specs.Cuts.{IsLineFor}
use Rattle.pipe_lines.specs.Running.{ways_in}
use Rattle.pipe_lines.proofs.lending.wrap_lines.Given as goal

abbrev pub invariant-ways : goal.invariant-ways
invariant-ways g l = record {
  ways : ways_in l.lines.items ++ l.ways.items ≡ l.fn.ways.items;
  made_for : AllByRecursion (IsLineFor l.workers) l.lines.items;
}

abbrev pub decreases-ways : goal.decreases-ways
decreases-ways g l = deque_len l.ways
