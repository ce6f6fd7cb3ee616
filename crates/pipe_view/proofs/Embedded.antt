-- A view as a job: its two tables as frames and its join as the only node. What is known of jobs is so known of views.
use Rattle.std.proofs.Common.{◌≡◌, ℕ, List, [], ◌∷◌, Bool, true, false, ◌&&◌, refl, ap, arith, inr}
use Rattle.std.specs.List.{AllByRecursion}
use Rattle.pipe_frame.specs.Frame.{Table}
use Rattle.pipe_plan.specs.Node.{Node}
use Rattle.pipe_job.specs.FrameSpelling.{FrameFits}
use Rattle.pipe_job.specs.JobSpelling.{PartsFit, Task, task_spelling}
use Rattle.pipe_job.specs.Kinds.{is_job, is_node}
use Rattle.pipe_job.specs.NodeSpelling.{node_spelling, NodeFits, Fits32}
use Rattle.pipe_job.specs.Version.{VersionFits}
use Rattle.pipe_job.proofs.Again.{no_task}

abbrev pub task_with : (version row_limit : ℕ) → List Table → Node → Task
task_with version row_limit frames n = record {
  version = version;
  config = record { workers = 0; chunk_rows = 0; row_limit = row_limit };
  plan = record { nodes = n ∷ []; frames = frames };
  root = 0;
}

pub fits_with : (version row_limit : ℕ) (frames : List Table) (n : Node) → VersionFits version → Fits32 row_limit → AllByRecursion FrameFits frames → NodeFits n → PartsFit (task_with version row_limit frames n)
fits_with version row_limit frames n known few good fits = record {
  version = known;
  workers = omega arith;
  chunk_rows = omega arith;
  row_limit = few;
  root = omega arith;
  frames = good;
  nodes = (fits, tt);
}

pub decide : (b : Bool) → (b ≡ false → ⊥) → b ≡ true
decide true h = refl
decide false h = absurd (h refl)

-- a job of one node and no frames is none where its node is none
no_node : (n : Node) → is_node (node_spelling n) ≡ false → is_job (task_spelling (task_with 2 0 [] n)) ≡ false
no_node n none = ap (λ (b : Bool). (b && true) && true) none

-- version 2 has all types
late : (n : ℕ) → n ≡ 2 → n ≡ 1 → {A : Type 0} → A
late n two one = absurd (omega (arith, two, one))

pub node_again : (n : Node) → NodeFits n → is_node (node_spelling n) ≡ true
node_again n fits = decide (is_node (node_spelling n)) (λ none.
    no_task (task_spelling (task_with 2 0 [] n)) (no_node n none) (task_with 2 0 [] n)
    (record { spelled = refl; fits = record { parts = fits_with 2 0 [] n (inr refl) (omega arith) tt fits; types = λ e. late 2 refl e } }))
