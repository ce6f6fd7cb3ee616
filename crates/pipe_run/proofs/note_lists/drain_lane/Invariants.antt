use Rattle.std.proofs.Common.{◌≡◌, ◌++◌, take}
use Rattle.pipe_run.specs.Notes.{notes_of}
use Rattle.pipe_run.proofs.note_lists.drain_lane.Given as goal

abbrev pub invariant-loop-entry : goal.invariant-loop-entry
invariant-loop-entry g l = l.notes.items ≡ l.fn.notes.items ++ notes_of l.worker (take l.entry-index l.entry-items)
