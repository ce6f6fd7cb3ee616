use Rattle.std.proofs.Common.{◌≡◌, length}
use Rattle.std.specs.Prelude.{IsUtf8, is_some}
use Rattle.pipe_cli.specs.Heights.{heights_in}
use Rattle.pipe_cli.proofs.heights.are_heights.Given as goal

abbrev pub invariant-pieces : goal.invariant-pieces
invariant-pieces l = record {
  text : IsUtf8 l.rest;
  known : is_some (heights_in l.rest) ≡ is_some (heights_in l.word);
}

abbrev pub decreases-pieces : goal.decreases-pieces
decreases-pieces l = length l.rest
