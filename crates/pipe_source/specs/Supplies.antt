-- Sources of sources: what is left of them, how deep they are, and what they answer.
use Rattle.std.specs.Prelude.{◌≡◌, ℕ, ◌+◌, ◌*◌, ◌<◌, List, [], ◌∷◌, ◌++◌, map, length, codes}
use Rattle.std.specs.List.{AllByRecursion}
use Rattle.pipe_schema.specs.Schema.{names_of}
use Rattle.pipe_schema.specs.declared.field.Field.{Field}
use Rattle.pipe_expr.specs.Projections.{row_named}
use Rattle.pipe_ops.specs.Batches.{Left, batch, after_batch}
use Rattle.pipe_ops.specs.Each.{HasFields}
use Rattle.pipe_ops.specs.declared.context.PExecutionContext.{PExecutionContext}
use Rattle.pipe_ops.specs.declared.source.Morsel.{Morsel}
use Rattle.pipe_ops.specs.declared.source.SourceResult.{SourceResult}
use Rattle.pipe_ops.specs.declared.source.SourceResult.TheVariants.{Finished, GotMoreData}
use Rattle.pipe_source.specs.declared.phys_source.PhysSource.{PhysSource}
use Rattle.pipe_source.specs.declared.phys_source.PhysSource.TheVariants.{Frame, Union, ReProject}

-- what is left of a source
abbrev pub left_of : PhysSource → List Left
left_of (Frame left) = left ∷ []
left_of (Union supply) = supply.left
left_of (ReProject supply) = supply.left

-- what is left of some sources, one after another
abbrev pub all_left : List PhysSource → List Left
all_left [] = []
all_left (source ∷ sources) = left_of source ++ all_left sources

abbrev pub depth_of : PhysSource → ℕ
depth_of (Frame left) = 0
depth_of (Union supply) = supply.depth
depth_of (ReProject supply) = supply.depth

abbrev pub deepest : List PhysSource → ℕ
deepest [] = 0
deepest (source ∷ sources) = depth_of source + 1 + deepest sources

-- the text that stands for a source in a pipeline
abbrev pub source_text : PhysSource → List ℕ
source_text (Frame left) = codes "df"
source_text (Union supply) = codes "union"
source_text (ReProject supply) = codes "re-project-source"

-- the schemas of what is left
abbrev pub schema_in : Left → List Field
schema_in left = left.schema

abbrev pub schemas_of : List Left → List (List Field)
schemas_of lefts = map schema_in lefts

-- what is left has each of some fields, frame by frame
abbrev pub HasFieldsLeft : List Field → Left → Type 0
HasFieldsLeft fields left = HasFields left.schema fields

abbrev pub HaveFields : List Field → List Left → Type 0
HaveFields fields lefts = AllByRecursion (HasFieldsLeft fields) lefts

-- what is left of a frame, with the columns of some fields
abbrev pub reprojected_left : List Field → Left → Left
reprojected_left fields left = record {
  from = left.from;
  schema = fields;
  rows = map (row_named left.schema (names_of fields)) left.rows;
}

abbrev pub reprojected_all : List Field → List Left → List Left
reprojected_all fields lefts = map (reprojected_left fields) lefts

-- some chunks of frames that stand behind `part` others, and what is left after them
pub record IsBatchFrom (part count size index : ℕ) (given : List Morsel) (old new : List Left) : Type 0 where
  pub chunks : given ≡ batch count size index part old
  pub some : 0 < length given
  pub left : new ≡ after_batch count size old

abbrev pub AnswersFrom : (part count size index : ℕ) → (old new : List Left) → SourceResult → Type 0
AnswersFrom part count size index old new Finished =
    (batch count size index part old ≡ []) × (new ≡ old)
AnswersFrom part count size index old new (GotMoreData morsels) =
    IsBatchFrom part count size index morsels.items old new

abbrev pub IsAnswerFrom : ℕ → PExecutionContext → (index : ℕ) → (old new : List Left) → SourceResult → Type 0
IsAnswerFrom part context index old new answer =
    AnswersFrom part (4 * context.workers) context.chunk_rows index old new answer
