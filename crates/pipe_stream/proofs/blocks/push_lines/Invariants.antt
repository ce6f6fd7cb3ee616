use Rattle.std.proofs.Common.{◌≡◌, ◌-◌, ◌++◌, flat_map}
use Rattle.std.specs.List.{range_with_len}
use Rattle.pipe_stream.proofs.blocks.push_lines.Given as goal

abbrev pub invariant-loop-i : goal.invariant-loop-i
invariant-loop-i g l =
    l.text.items ++ flat_map (g.R.Lines.line_at l.render l.frame) (range_with_len l.i (l.to - l.i))
    ≡ l.fn.text.items ++ flat_map (g.R.Lines.line_at l.render l.frame) (range_with_len l.from (l.to - l.from))
