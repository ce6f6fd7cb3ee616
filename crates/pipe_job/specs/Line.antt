-- The lines of rows: compact JSON arrays, each ended by a newline.
use Rattle.std.specs.Prelude.{ℕ, ◌==◌, List, [], ◌∷◌, ◌++◌, if◌then◌else◌}
use Rattle.serde_json.specs.Data.{Data, string}
use Rattle.serde_json.specs.Written.{compact_text}
use Rattle.pipe_schema.specs.declared.field.Field.{Field}
use Rattle.pipe_schema.specs.Rows.{Row}
use Rattle.pipe_schema.specs.Schema.{names_of}
use Rattle.pipe_job.specs.Spelling.{list, cell_spelling}

-- the compact text of a value, and a newline
abbrev pub line_of : Data → List ℕ
line_of d = compact_text d ++ 10 ∷ []

-- the names of the columns in order
abbrev pub head_line : List Field → List ℕ
head_line fields = line_of (list string (names_of fields))

-- the cells of a row in order
abbrev pub row_line : Row → List ℕ
row_line row = line_of (list cell_spelling row)

-- the byte before the first line
abbrev pub onto_first : ℕ → List (List ℕ) → List (List ℕ)
onto_first b [] = (b ∷ []) ∷ []
onto_first b (line ∷ lines) = (b ∷ line) ∷ lines

-- the text, cut after each newline
abbrev pub lines : List ℕ → List (List ℕ)
lines [] = []
lines (b ∷ bytes) = if b == 10 then (10 ∷ []) ∷ lines bytes else onto_first b (lines bytes)
