-- Chunks on their way out of a source.
use Rattle.std.specs.Prelude.{◌≡◌, ℕ, ◌+◌, ◌<◌, List, map}
use Rattle.std.specs.List.{AllByRecursion}
use Rattle.pipe_schema.specs.Rows.{Row}
use Rattle.pipe_schema.specs.declared.field.Field.{Field}
use Rattle.pipe_ops.specs.Each.{HasFields, reprojected}
use Rattle.pipe_ops.specs.declared.source.Morsel.{Morsel}
use Rattle.pipe_ops.specs.declared.source.SourceResult.{SourceResult}
use Rattle.pipe_ops.specs.declared.source.SourceResult.TheVariants.{Finished, GotMoreData}

-- a chunk has each of some fields
abbrev pub HasAll : List Field → Morsel → Type 0
HasAll fields morsel = HasFields morsel.chunk.frame.schema fields

-- a chunk with the columns of some fields, in their order
abbrev pub reprojected_morsel : List Field → Morsel → Morsel
reprojected_morsel fields morsel = record {
  chunk = record {
    chunk_index = morsel.chunk.chunk_index;
    frame = reprojected fields morsel.chunk.frame;
  };
  part = morsel.part;
  from = morsel.from;
}

-- the chunks of an answer have each of some fields
abbrev pub AnswerHas : List Field → SourceResult → Type 0
AnswerHas fields Finished = Unit {0}
AnswerHas fields (GotMoreData morsels) = AllByRecursion (HasAll fields) morsels.items

-- the second answer is the first with the columns of some fields
abbrev pub IsReprojectedAnswer : List Field → (answer made : SourceResult) → Type 0
IsReprojectedAnswer fields Finished Finished = Unit {0}
IsReprojectedAnswer fields Finished (GotMoreData made) = ⊥
IsReprojectedAnswer fields (GotMoreData morsels) Finished = ⊥
IsReprojectedAnswer fields (GotMoreData morsels) (GotMoreData made) =
    made.items ≡ map (reprojected_morsel fields) morsels.items

-- a chunk of a source that stands behind so many frames
abbrev pub later : ℕ → Morsel → Morsel
later before morsel = record morsel { part = morsel.part + before }

abbrev pub IsPartBelow : (end before : ℕ) → Morsel → Type 0
IsPartBelow end before morsel = morsel.part + before < end

abbrev pub ArePartsBelow : (end before : ℕ) → List Morsel → Type 0
ArePartsBelow end before morsels = AllByRecursion (IsPartBelow end before) morsels

-- the rows of a chunk
abbrev pub morsel_rows : Morsel → List Row
morsel_rows morsel = morsel.chunk.frame.rows
