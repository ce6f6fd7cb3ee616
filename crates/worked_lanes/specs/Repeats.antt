-- Rows that are repeated.
use Rattle.std.specs.Prelude.{ℕ, zero, suc, List, [], ◌∷◌, ◌++◌}
use Rattle.pipe_schema.specs.Rows.{Row}
use Rattle.pipe_schema.specs.declared.field.Field.{Field}
use Rattle.pipe_source.specs.Ordered.{Ordered}

-- a row so many times
abbrev pub times_of : ℕ → Row → List Row
times_of zero row = []
times_of (suc n) row = row ∷ times_of n row

-- some rows so many times, one after another
abbrev pub copies : ℕ → List Row → List Row
copies zero rows = []
copies (suc n) rows = rows ++ copies n rows

-- the schema of an ordered sink
abbrev pub schema_of : Ordered → List Field
schema_of sink = sink.schema
