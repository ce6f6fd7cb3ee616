-- Chunks and partitions that lanes claim by their numbers.
use Rattle.std.specs.Prelude.{◌≡◌, ℕ, zero, suc, ◌<◌, List, [], ◌∷◌, ◌++◌, length, Option, Some, None, cond, ltb}
use Rattle.std.specs.List.{flat_map, range_with_len}
use Rattle.atomic_table.specs.Seated.{TableId}
use Rattle.pipe_schema.specs.Rows.{Row}
use Rattle.pipe_schema.specs.declared.field.Field.{Field}
use Rattle.pipe_chain.specs.declared.operator.Operator.{Ghosts as OperatorWords}
use Rattle.pipe_ops.specs.declared.sink.Sink.{Ghosts as SinkWords}
use Rattle.pipe_ops.specs.declared.source.Morsel.{Morsel}
use Rattle.pipe_chain.specs.Claims.{SeatClaims}
use Rattle.pipe_chain.specs.Sums.{total}
use Rattle.pipe_run.specs.declared.lane.Lane.{Lane}
use Rattle.pipe_run.specs.declared.entry.Entry.{Entry}
use Rattle.pipe_run.specs.declared.entry.Entry.TheVariants.{Take, Flush, Done}
use Rattle.pipe_run.specs.Lanes.{IsCalm, Ran}

-- the rows of a chunk, and those of the chunk of a number, none past the last
abbrev pub rows_in : Morsel → List Row
rows_in morsel = morsel.chunk.frame.rows

abbrev pub morsel_rows : List Morsel → ℕ → List Row
morsel_rows [] n = []
morsel_rows (m ∷ ms) zero = rows_in m
morsel_rows (m ∷ ms) (suc n) = morsel_rows ms n

-- what a lane notes of a chunk, and of that of a number, nothing past the last
abbrev pub entries_for : Morsel → List Entry
entries_for m = Take m.part m.from (length m.chunk.frame.rows) ∷ Done ∷ []

abbrev pub entries_at : List Morsel → ℕ → List Entry
entries_at [] n = []
entries_at (m ∷ ms) zero = entries_for m
entries_at (m ∷ ms) (suc n) = entries_at ms n

-- the schema of the first chunk, and that a chunk has a schema
abbrev pub schema_in : List Morsel → List Field
schema_in [] = []
schema_in (m ∷ ms) = m.chunk.frame.schema

abbrev pub IsOfSchema : List Field → Morsel → Type 0
IsOfSchema schema m = m.chunk.frame.schema ≡ schema

-- the numbers that a seat drew, none where there is no seat
abbrev pub drawn_at : Option SeatClaims → List ℕ
drawn_at None = []
drawn_at (Some seat) = seat.drawn

abbrev pub drawn_in : {O K : Type 0} → Lane O K → List ℕ
drawn_in lane = drawn_at lane.seat

-- a lane that drew nothing
abbrev pub IsFresh : {O K : Type 0} → Lane O K → Type 0
IsFresh lane = drawn_in lane ≡ []

-- what lanes claim by its number, each number below a count once: what comes of one is rows of a
-- schema, and entries in the lane's journal
pub record Lot : Type 0 where
  pub count : ℕ
  pub from : List Field
  pub rows : ℕ → List Row
  pub entries : ℕ → List Entry

-- some chunks
abbrev pub chunks_lot : List Morsel → Lot
chunks_lot ms = record {
  count = length ms;
  from = schema_in ms;
  rows = morsel_rows ms;
  entries = entries_at ms;
}

-- the partitions of a flush
abbrev pub entries_for_part : ℕ → List Entry
entries_for_part part = Flush part ∷ Done ∷ []

abbrev pub parts_lot : {S : Type 0} → (parts : S → ℕ) → (part_of : S → ℕ → List Row) → List Field →
    S → Lot
parts_lot parts part_of from s = record {
  count = parts s;
  from = from;
  rows = λ n. cond (ltb n (parts s)) (part_of s n) [];
  entries = λ n. cond (ltb n (parts s)) (entries_for_part n) [];
}

-- all rows of it
abbrev pub rows_of_lot : Lot → List Row
rows_of_lot lot = flat_map lot.rows (range_with_len 0 lot.count)

-- a lane worked on what has these numbers, and noted it in this order
pub record Took {O S K B C : Type 0} (op : OperatorWords O S) (sink : SinkWords K B C) (ss : List S)
    (limit : ℕ) (lot : Lot) (ns : List ℕ) (old new : Lane O K) : Type 0 where
  pub ran : Ran op sink ss limit lot.from (flat_map lot.rows ns) old new
  pub entries : new.entries.items ≡ old.entries.items ++ flat_map lot.entries ns

-- a seat is there, and of these claims
abbrev pub IsSeatOf : TableId → Option SeatClaims → Type 0
IsSeatOf table None = ⊥
IsSeatOf table (Some seat) = seat.table ≡ table

abbrev pub IsSeated : {O K : Type 0} → TableId → Lane O K → Type 0
IsSeated table lane = IsSeatOf table lane.seat

-- 1 from an end on
abbrev pub past : ℕ → ℕ → ℕ
past end n = cond (ltb n end) 0 1

-- a lane that was refused nothing drew a number past the last
abbrev pub IsAtEnd : {O K : Type 0} → Lot → Lane O K → Type 0
IsAtEnd lot lane = IsCalm lane → 0 < total (past lot.count) (drawn_in lane)
