use Rattle.std.proofs.Common.{◌≡◌, drop}
use Rattle.std.specs.List.{list_all}
use Rattle.pipe_cli.specs.Commands.PartsCommand.{has_no_row}
use Rattle.pipe_cli.proofs.commands.parts.are_empty.Given as goal

abbrev pub invariant-loop-frame : goal.invariant-loop-frame
invariant-loop-frame l = list_all has_no_row (drop l.frame-index l.frames) ≡ list_all has_no_row l.frames
