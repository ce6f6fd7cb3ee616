-- `replay-edits`: a join that is kept while its tables are edited. A view or an edit of it that is too long is refused as
-- its faults are, so no sound one has a node of too many rows.
use Rattle.std.specs.Prelude.{[], ◌∷◌, false}
use Rattle.pipe_view.specs.ReplayEnds.{AreReplayLines, IsRefusedReplay, IsSoundReplay}
use Rattle.pipe_cli.specs.Contract.{Contract}
use Rattle.pipe_cli.specs.Replays.{replay_kind}

abbrev pub replay_edits : Contract
replay_edits = record {
  kind = replay_kind;
  IsSound = IsSoundReplay;
  IsRefused = IsRefusedReplay;
  HasMany = λ task n. ⊥;
  IsWithin = λ task. Unit {0};
  IsAnswer = AreReplayLines;
  asks = false;
  statuses = 0 ∷ 2 ∷ 3 ∷ 4 ∷ 5 ∷ 6 ∷ 7 ∷ 9 ∷ 10 ∷ [];
}
