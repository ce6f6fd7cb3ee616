-- What a refusal says of an error, of reading and of writing.
use Rattle.std.specs.Prelude.{ℕ, ◌≡◌, List, Option}
use Rattle.pipe_cli.specs.FaultLine.{fault_line, fault_status}
use Rattle.pipe_plan.specs.declared.error.PipeError.{PipeError}
use Rattle.pipe_plan.specs.declared.error.PipeError.TheVariants as error
use Rattle.pipe_stream.specs.Outside.{InputSeen, OutputSeen, ReadFails, WriteFails}
use Rattle.pipe_cli.specs.Sources.{IsLongOn}
use Rattle.pipe_cli.specs.declared.status.Refusal.{Refusal}
use Rattle.pipe_cli.specs.declared.status.Refusal.TheVariants as refusal

-- it tells an error; for want of memory it tells that there is none, but never of a stop
abbrev pub Tells : Refusal → PipeError → Type 0
Tells (refusal.Fault line) e = (6 ≡ fault_status e) × (line ≡ fault_line e)
Tells (refusal.TooMany line) e = (7 ≡ fault_status e) × (line ≡ fault_line e)
Tells refusal.Stopped e = e ≡ error.Stopped
Tells refusal.Memory e = e ≡ error.Stopped → ⊥
Tells refusal.NotJson e = ⊥
Tells refusal.NotJob e = ⊥
Tells refusal.BadWords e = ⊥
Tells refusal.ReadFault e = ⊥
Tells refusal.TooLong e = ⊥
Tells refusal.WriteFault e = ⊥

-- of reading the bytes that are told
abbrev pub OfReading : Refusal → Option (List ℕ) → InputSeen → InputSeen → Type 0
OfReading refusal.ReadFault told input now = ReadFails input now
OfReading refusal.TooLong told input now = IsLongOn told input now
OfReading refusal.BadWords told input now = Unit {0}
OfReading refusal.NotJson told input now = Unit {0}
OfReading refusal.NotJob told input now = Unit {0}
OfReading (refusal.Fault line) told input now = Unit {0}
OfReading (refusal.TooMany line) told input now = Unit {0}
OfReading refusal.Stopped told input now = Unit {0}
OfReading refusal.WriteFault told input now = Unit {0}
OfReading refusal.Memory told input now = Unit {0}

-- of the output, of which some front may be written
abbrev pub OfWriting : Refusal → Type 0 → OutputSeen → OutputSeen → Type 0
OfWriting refusal.WriteFault front out now = WriteFails out now × front
OfWriting refusal.BadWords front out now = now.written ≡ out.written
OfWriting refusal.ReadFault front out now = now.written ≡ out.written
OfWriting refusal.TooLong front out now = now.written ≡ out.written
OfWriting refusal.NotJson front out now = now.written ≡ out.written
OfWriting refusal.NotJob front out now = now.written ≡ out.written
OfWriting (refusal.Fault line) front out now = now.written ≡ out.written
OfWriting (refusal.TooMany line) front out now = now.written ≡ out.written
OfWriting refusal.Stopped front out now = now.written ≡ out.written
OfWriting refusal.Memory front out now = now.written ≡ out.written
