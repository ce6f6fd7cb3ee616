use Rattle.std.proofs.Common.{◌≡◌, ◌++◌, drop, map}
use Rattle.serde_json.specs.Data.{string}
use Rattle.serde_json.specs.View.{items_of}
use Rattle.serde_json.specs.Written.{items_text, compact_text}
use Rattle.pipe_schema.specs.Schema.{names_of}
use Rattle.pipe_job.specs.Spelling.{list}
use Rattle.pipe_job.proofs.lines.push_names.Given as goal

abbrev pub invariant-loop-field : goal.invariant-loop-field
invariant-loop-field l = l.out.items ++ items_text l.later (items_of (map string (names_of (drop l.field-index l.fields)))) ≡ l.fn.out.items ++ compact_text (list string (names_of l.fields))
