-- What a sink ends as.
use Rattle.std.specs.Prelude.{◌≡◌, ℕ, List, Bool, true, false, codes}
use Rattle.pipe_schema.specs.Rows.{Row}
use Rattle.pipe_schema.specs.declared.field.Field.{Field}
use Rattle.pipe_ops.specs.declared.sink.FinalizedSink.{FinalizedSink}
use Rattle.pipe_ops.specs.declared.sink.FinalizedSink.TheVariants.{Finished, Operator, Source}

-- a sink that builds ends as what it built, another as a frame or a source of the schema that it gives;
-- `Rightly` tells of the rows of each whether the sink may end with them
abbrev pub Ends : {B S : Type 0} → (B → List Row) → (S → List Row) → (S → List Field → Type 0) →
    List Field → Bool → (List Row → Type 0) → FinalizedSink B S → Type 0
Ends built left supplies gives builds Rightly (Finished frame) =
    (builds ≡ false) × (frame.schema ≡ gives) × Rightly frame.rows
Ends built left supplies gives builds Rightly (Operator b) = (builds ≡ true) × Rightly (built b)
Ends built left supplies gives builds Rightly (Source s) =
    (builds ≡ false) × supplies s gives × Rightly (left s)

-- the words for it
abbrev pub ending_text : {B S : Type 0} → FinalizedSink B S → List ℕ
ending_text (Finished frame) = codes "finished"
ending_text (Operator b) = codes "operator"
ending_text (Source s) = codes "source"
