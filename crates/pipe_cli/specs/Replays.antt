-- Views and their edits, a kind of inputs.
use Rattle.pipe_job.specs.Reading.{ReadsNothing}
use Rattle.pipe_view.specs.ReplaySpelling.{ReadsNoReplay, ReadsReplay, ReplayTask}
use Rattle.pipe_cli.specs.Contract.{Kind}

-- bytes spell two tables, their join, a limit and edits by the JSON value that is read of them
abbrev pub replay_kind : Kind
replay_kind = record { Input = ReplayTask; Reads = ReadsReplay; ReadsNothing = ReadsNothing; ReadsNone = ReadsNoReplay }
