-- Frames have columns.
use Rattle.std.specs.Prelude.{◌≡◌, ◌<◌, ℕ, List, false, length}
use Rattle.pipe_frame.specs.Frame.{Table}
use Rattle.pipe_plan.specs.Schemas.{frame_at}
use Rattle.pipe_plan.specs.Faults.{is_empty}

abbrev pub AreFull : List Table → Type 0
AreFull frames =
    (i : ℕ) → i < length frames → is_empty (frame_at frames i).schema ≡ false
