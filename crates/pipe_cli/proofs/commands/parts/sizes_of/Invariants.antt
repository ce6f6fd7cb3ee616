use Rattle.std.proofs.Common.{◌≡◌, map, take}
use Rattle.pipe_cli.specs.Commands.PartsCommand.{frame_size}
use Rattle.pipe_cli.proofs.commands.parts.sizes_of.Given as goal

abbrev pub invariant-loop-frame : goal.invariant-loop-frame
invariant-loop-frame l = l.sizes.items ≡ map (frame_size l.empty) (take l.frame-index l.frames)
