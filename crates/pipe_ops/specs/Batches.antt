-- What is left of a source, frame by frame, and the chunks that it gives.
use Rattle.std.specs.Prelude.{◌≡◌, ℕ, zero, suc, ◌+◌, ◌*◌, ◌<◌, min, List, [], ◌∷◌, length, take, drop}
use Rattle.pipe_schema.specs.Rows.{Row}
use Rattle.pipe_schema.specs.declared.field.Field.{Field}
use Rattle.pipe_ops.specs.declared.context.PExecutionContext.{PExecutionContext}
use Rattle.pipe_ops.specs.declared.source.Morsel.{Morsel}
use Rattle.pipe_ops.specs.declared.source.SourceResult.{SourceResult}
use Rattle.pipe_ops.specs.declared.source.SourceResult.TheVariants.{Finished, GotMoreData}

-- what is left of a frame: how many rows are out, and the others
pub record Left : Type 0 where
  pub from : ℕ
  pub schema : List Field
  pub rows : List Row

-- the first so many chunks of the rows that are left of a frame, each of `size` rows but for the last
abbrev pub cut : (count size index part from : ℕ) → List Field → List Row → List Morsel
cut zero size index part from schema rows = []
cut (suc n) size index part from schema [] = []
cut (suc n) size index part from schema (x ∷ xs) =
    record {
      chunk = record {
        chunk_index = index;
        frame = record { schema = schema; rows = take size (x ∷ xs) };
      };
      part = part;
      from = from;
    }
    ∷ cut n size (index + 1) part (from + size) schema (drop size (x ∷ xs))

-- a frame from which so many rows more are out
abbrev pub passed : ℕ → Left → Left
passed n l = record {
  from = l.from + min n (length l.rows);
  schema = l.schema;
  rows = drop n l.rows;
}

-- the one where no row is left, the other where some are
abbrev pub pick : {X : Type 0} → List Row → X → X → X
pick [] none some = none
pick (x ∷ xs) none some = some

-- the chunks of the first frame that isn't out, at most so many; and what is left afterwards
abbrev pub batch : (count size index part : ℕ) → List Left → List Morsel
batch n size index part [] = []
batch n size index part (l ∷ ls) =
    pick l.rows (batch n size index (part + 1) ls) (cut n size index part l.from l.schema l.rows)

abbrev pub after_batch : (count size : ℕ) → List Left → List Left
after_batch n size [] = []
after_batch n size (l ∷ ls) = pick l.rows (l ∷ after_batch n size ls) (passed (n * size) l ∷ ls)

-- no chunk is left
abbrev pub IsSpent : (count size index : ℕ) → List Left → Type 0
IsSpent count size index old = batch count size index 0 old ≡ []

-- some chunks, and what is left after them
pub record IsBatch (count size index : ℕ) (given : List Morsel) (old new : List Left) : Type 0 where
  pub chunks : given ≡ batch count size index 0 old
  pub some : 0 < length given
  pub left : new ≡ after_batch count size old

-- an answer, over what was left before and what is left afterwards
abbrev pub Answers : (count size index : ℕ) → (old new : List Left) → SourceResult → Type 0
Answers count size index old new Finished = IsSpent count size index old × (new ≡ old)
Answers count size index old new (GotMoreData morsels) =
    IsBatch count size index morsels.items old new

-- with at most four chunks for each worker
abbrev pub IsAnswer : PExecutionContext → (index : ℕ) → (old new : List Left) → SourceResult → Type 0
IsAnswer context index old new answer =
    Answers (4 * context.workers) context.chunk_rows index old new answer

-- the index of the next chunk
abbrev pub index_after : ℕ → SourceResult → ℕ
index_after index Finished = index
index_after index (GotMoreData morsels) = index + length morsels.items
