use Rattle.std.proofs.Common.{◌≡◌, ◌++◌, map, take}
use Rattle.pipe_events.specs.EventValues.{event_value}
use Rattle.pipe_run.specs.Notes.{events_of}
use Rattle.pipe_run.proofs.writing.write_notes.Given as goal

abbrev pub invariant-loop-note : goal.invariant-loop-note
invariant-loop-note l = map event_value l.journal.items ≡ map event_value l.initial.journal.items ++ events_of l.nodes l.join (take l.note-index l.notes)
