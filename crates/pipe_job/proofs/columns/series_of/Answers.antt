use Rattle.pipe_job.proofs.TypedColumns.{typed_string, typed_binary}
use Rattle.pipe_job.proofs.columns.series_of.Goals as goal

pub returns-in_ok-texts_of-in-String : goal.returns-in_ok-texts_of-in-String
returns-in_ok-texts_of-in-String c = typed_string _ _ _ _ _ c.in-String.is c.from_string.ensures c.in_ok-texts_of-in-String.ensures

pub returns-in_ok-bytes_of-in-Binary : goal.returns-in_ok-bytes_of-in-Binary
returns-in_ok-bytes_of-in-Binary c = typed_binary _ _ _ _ _ c.in-Binary.is c.from_binary.ensures c.in_ok-bytes_of-in-Binary.ensures.0 c.in_ok-bytes_of-in-Binary.ensures.1
