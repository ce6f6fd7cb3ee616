-- The spelling of jobs: a value spells a job where it is the job's spelling and the job fits.
use Rattle.std.specs.Prelude.{ℕ, ◌≡◌, codes}
use Rattle.std.specs.List.{AllByRecursion}
use Rattle.serde_json.specs.Data.{Data, object, Members, no_members, member}
use Rattle.pipe_plan.specs.Plan.{Plan, plan_of}
use Rattle.pipe_plan.specs.declared.config.PipeConfig.{PipeConfig}
use Rattle.pipe_job.specs.Spelling.{list, whole}
use Rattle.pipe_job.specs.NodeSpelling.{node_spelling, NodeFits, Fits32}
use Rattle.pipe_job.specs.FrameSpelling.{frame_spelling, FrameFits}
use Rattle.pipe_job.specs.Version.{KnowsTypes, VersionFits}
use Rattle.pipe_job.specs.declared.jobs.Job.{Job}
use Rattle.pipe_job.specs.declared.jobs.JobBack.{JobBack}

-- what a job asks for: a plan, the number of its root, and how it is run
pub record Task : Type 0 where
  pub version : ℕ
  pub config : PipeConfig
  pub plan : Plan
  pub root : ℕ

-- the task of a job of the code
abbrev pub task_of : Job → Task
task_of job = record { version = job.version; config = job.config; plan = plan_of job.arena; root = job.root }

-- the last members of a job
abbrev pub job_back : ℕ → ℕ → ℕ → Members
job_back row_limit version workers =
    member (codes "row_limit") (whole row_limit)
    (member (codes "version") (whole version)
    (member (codes "workers") (whole workers) no_members))

abbrev pub task_spelling : Task → Data
task_spelling t =
    object (member (codes "chunk_rows") (whole t.config.chunk_rows)
    (member (codes "frames") (list frame_spelling t.plan.frames)
    (member (codes "plan") (list node_spelling t.plan.nodes)
    (member (codes "root") (whole t.root)
    (job_back t.config.row_limit t.version t.config.workers)))))

-- the members are the last ones of a job, and fit
abbrev pub IsJobBack : Members → JobBack → Type 0
IsJobBack ms b =
    (ms ≡ job_back b.row_limit b.version b.workers)
    × Fits32 b.row_limit × VersionFits b.version × Fits32 b.workers

-- each number is within its range, and frames and nodes fit
pub record PartsFit (t : Task) : Type 0 where
  pub version : VersionFits t.version
  pub workers : Fits32 t.config.workers
  pub chunk_rows : Fits32 t.config.chunk_rows
  pub row_limit : Fits32 t.config.row_limit
  pub root : Fits32 t.root
  pub frames : AllByRecursion FrameFits t.plan.frames
  pub nodes : AllByRecursion NodeFits t.plan.nodes

-- the parts fit, and the types are those of the version
pub record TaskFits (t : Task) : Type 0 where
  pub parts : PartsFit t
  pub types : KnowsTypes t.version t.plan

-- the value is the spelling of the task
pub record Spells (v : Data) (t : Task) : Type 0 where
  pub spelled : v ≡ task_spelling t
  pub fits : TaskFits t
