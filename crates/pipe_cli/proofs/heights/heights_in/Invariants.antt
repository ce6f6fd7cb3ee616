use Rattle.std.proofs.Common.{◌≡◌, length}
use Rattle.std.specs.Prelude.{IsUtf8}
use Rattle.pipe_cli.specs.Heights.{heights_in}
use Rattle.pipe_cli.proofs.HeightLemmas.{after}
use Rattle.pipe_cli.proofs.heights.heights_in.Given as goal

abbrev pub invariant-pieces : goal.invariant-pieces
invariant-pieces l = record {
  text : IsUtf8 l.rest;
  known : after l.heights.items (heights_in l.rest) ≡ heights_in l.word;
}

abbrev pub decreases-pieces : goal.decreases-pieces
decreases-pieces l = length l.rest
