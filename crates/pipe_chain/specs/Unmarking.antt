-- Operators that mark nothing: what they do is row by row.
use Rattle.std.specs.Prelude.{◌≡◌, ℕ, List, [], ◌∷◌}
use Rattle.std.specs.List.{flat_map}
use Rattle.pipe_frame.specs.Frame.{Table}
use Rattle.pipe_schema.specs.Rows.{Row}
use Rattle.pipe_schema.specs.declared.field.Field.{Field}
use Rattle.pipe_chain.specs.Flow.{Work}
use Rattle.pipe_chain.specs.Executed.{Owed}

-- no key for a row, and no row for a key
abbrev pub no_key : Row → List ℕ
no_key row = []

abbrev pub no_row : ℕ → List Row
no_row key = []

-- what an operator does of which each row becomes some rows
abbrev pub row_work : {S : Type 0} → (List Field → S → Row → List Row) → List Field → S → Work
row_work each schema s = record { each = each schema s; asks = no_key; gains = no_row }

-- what it owes
abbrev pub row_debt : {S : Type 0} → (S → Table → List Row) → S → Table → Owed
row_debt rest s frame = record { rows = rest s frame; keys = [] }

-- what a row becomes, operator by operator
abbrev pub through : List Work → Row → List Row
through [] row = row ∷ []
through (w ∷ ws) row = flat_map (through ws) (w.each row)

-- no operator marks for any row
abbrev pub AllUnmarking : List Work → Type 0
AllUnmarking [] = Unit {0}
AllUnmarking (w ∷ ws) = ((row : Row) → w.asks row ≡ []) × AllUnmarking ws
