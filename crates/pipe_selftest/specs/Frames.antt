-- The two frames of a self-test: keys that a generator draws, and the numbers of the rows.
--
-- A worked case, start 7 and 2 rows: there are 2 keys. The states after 7 are 9098160460397411210,
-- 17628806926561717905, 16723372171710603212 and 5031285092534963243; their whole quotients by 2^33 are 1059165278,
-- 2052263231, 1946856753 and 585718673. So the left keys are 0 and 1, and the right ones 1 and 1:
--
--   left   k a      right   k b
--          0 0              1 0
--          1 1              1 1
use Rattle.std.specs.Prelude.{ℕ, zero, suc, pos, ◌+◌, ◌*◌, ◌/◌, ◌%◌, ◌^◌, ◌==◌, List, [], ◌∷◌, codes, map, if◌then◌else◌}
use Rattle.std.specs.List.{range_with_len}
use Rattle.pipe_frame.specs.Frame.{Table}
use Rattle.pipe_schema.specs.Rows.{Row}
use Rattle.pipe_column.specs.Series.{Cells, named_cells}
use Rattle.pipe_schema.specs.declared.any_value.AnyValue.{AnyValue}
use Rattle.pipe_schema.specs.declared.any_value.AnyValue.TheVariants as cell
use Rattle.pipe_schema.specs.declared.data_type.DataType.TheVariants as dtype
use Rattle.pipe_schema.specs.declared.field.Field.{Field}

-- the state after a state: Knuth's linear congruential generator for 64 bits (MMIX; The Art of Computer Programming,
-- volume 2, section 3.3.4)
abbrev pub next : ℕ → ℕ
next x = (6364136223846793005 * x + 1442695040888963407) % 2 ^ 64

-- the state after n steps
abbrev pub state_after : ℕ → ℕ → ℕ
state_after start zero = start
state_after start (suc n) = next (state_after start n)

-- how many keys there are: each stands in about two rows
abbrev pub key_count : ℕ → ℕ
key_count rows = rows / 2 + 1

-- the key of a row, by the state that is drawn for it: each sixteenth key is null
abbrev pub drawn_key : (rows i state : ℕ) → AnyValue
drawn_key rows i state =
    if i % 16 == 15 then cell.Null else cell.Int64 (pos (state / 2 ^ 33 % key_count rows))

-- the key of a row, where the states are drawn from this one on
abbrev pub key_at : (start rows i : ℕ) → AnyValue
key_at start rows i = drawn_key rows i (state_after start (suc i))

-- the number of a row
abbrev pub number_at : (i : ℕ) → AnyValue
number_at i = cell.Int64 (pos i)

abbrev pub row_of : (start rows i : ℕ) → Row
row_of start rows i = key_at start rows i ∷ number_at i ∷ []

abbrev pub int64_field : List ℕ → Field
int64_field name = record { name = name; dtype = dtype.Int64 }

-- a frame whose keys are drawn from a state on, with the name of its second column
abbrev pub frame_from : (start : ℕ) → List ℕ → (rows : ℕ) → Table
frame_from start name rows = record {
  schema = int64_field (codes "k") ∷ int64_field name ∷ [];
  rows = map (row_of start rows) (range_with_len 0 rows);
}

-- the columns of such a table
abbrev pub columns_from : (start : ℕ) → List ℕ → (rows : ℕ) → List Cells
columns_from start name rows =
    named_cells (codes "k") dtype.Int64 (map (key_at start rows) (range_with_len 0 rows))
    ∷ named_cells name dtype.Int64 (map number_at (range_with_len 0 rows)) ∷ []

-- the left frame
abbrev pub left_frame : (start rows : ℕ) → Table
left_frame start rows = frame_from start (codes "a") rows

-- the right frame, whose keys go on where those of the left one ended
abbrev pub right_frame : (start rows : ℕ) → Table
right_frame start rows = frame_from (state_after start rows) (codes "b") rows
