use Rattle.std.proofs.Common.{◌≡◌, take}
use Rattle.std.specs.List.{flat_map}
use Rattle.pipe_cli.specs.Jobs.{ended}
use Rattle.pipe_cli.proofs.commands.explain.ended_lines.Given as goal

abbrev pub invariant-loop-text : goal.invariant-loop-text
invariant-loop-text l = l.lines.items ≡ flat_map ended (take l.text-index l.texts)
