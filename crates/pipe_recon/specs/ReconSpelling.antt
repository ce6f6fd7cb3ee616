-- The spelling of what is reconciled: a value spells two tables, a key and the numbers of a run where it is their
-- spelling and they fit. Frames, numbers and the version are spelled as those of a job are.
--
-- A worked case: {"version":1,"workers":3,"chunk_rows":2,"row_limit":100,"frames":[FRAME,FRAME],"on":["k"],
-- "join_nulls":false}, by the order of the members' names.
use Rattle.std.specs.Prelude.{ℕ, ◌≡◌, List, Bool, false, ◌||◌, codes}
use Rattle.serde_json.specs.Data.{Data, boolean, string, object, Members, member}
use Rattle.pipe_frame.specs.Frame.{Table}
use Rattle.pipe_job.specs.FrameSpelling.{frame_spelling, FrameFits}
use Rattle.pipe_job.specs.JobSpelling.{job_back}
use Rattle.pipe_job.specs.NodeSpelling.{Fits32}
use Rattle.pipe_job.specs.Spelling.{couple, list, whole}
use Rattle.pipe_job.specs.Version.{VersionFits, table_has_int128}
use Rattle.pipe_recon.specs.declared.recon_spec.ReconSpec.{ReconSpec}
use Rattle.pipe_recon.specs.declared.recon_job.ReconJob.{ReconJob}

-- an array of the left and the right table
abbrev pub frames_spelling : (left right : Table) → Data
frames_spelling left right = couple (frame_spelling left) (frame_spelling right)

-- the members of a key, and then others
abbrev pub key_members : ReconSpec → Members → Members
key_members spec rest =
    member (codes "join_nulls") (boolean spec.join_nulls)
    (member (codes "on") (list string spec.on) rest)

abbrev pub recon_spelling : ReconJob → Data
recon_spelling job =
    object (member (codes "chunk_rows") (whole job.config.chunk_rows)
    (member (codes "frames") (frames_spelling job.left job.right)
    (key_members job.spec
    (job_back job.config.row_limit job.version job.config.workers))))

-- each number is within its range, and the tables fit
pub record PartsFit (job : ReconJob) : Type 0 where
  pub version : VersionFits job.version
  pub workers : Fits32 job.config.workers
  pub chunk_rows : Fits32 job.config.chunk_rows
  pub row_limit : Fits32 job.config.row_limit
  pub left : FrameFits job.left
  pub right : FrameFits job.right

-- whether a column of a table has the type Int128
abbrev pub has_int128 : ReconJob → Bool
has_int128 job = table_has_int128 job.left || table_has_int128 job.right

-- the parts fit, and the types are those of the version
pub record JobFits (job : ReconJob) : Type 0 where
  pub parts : PartsFit job
  pub types : job.version ≡ 1 → has_int128 job ≡ false

-- the value is the spelling of what is reconciled
pub record Spells (v : Data) (job : ReconJob) : Type 0 where
  pub spelled : v ≡ recon_spelling job
  pub fits : JobFits job
