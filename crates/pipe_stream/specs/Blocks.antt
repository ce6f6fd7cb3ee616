-- The blocks of a frame, and the orders in which two workers' blocks may be put: each block once, those of each worker
-- in their order.
use Rattle.std.specs.Prelude.{◌≡◌, ◌≤◌, ◌<◌, ℕ, Bool, true, false, ◌+◌, ◌-◌, ◌*◌, ◌/◌, ◌%◌, ◌==◌, List, take, drop, filter, flat_map}
use Rattle.std.specs.List.{range_with_len}
use Rattle.pipe_stream.specs.Outside.{OutputSeen, WritesFront}

-- how many blocks so many rows have
abbrev pub block_count : ℕ → ℕ → ℕ
block_count height rows = (height + (rows - 1)) / rows

-- the rows of a block: so many from its first on, and none past the last
abbrev pub block_places : ℕ → ℕ → ℕ → List ℕ
block_places height rows number = take rows (range_with_len (number * rows) (height - number * rows))

-- the block of this number of a list, where each has so many elements
abbrev pub block_of_list : {X : Type 0} → List X → ℕ → ℕ → List X
block_of_list list rows number = take rows (drop (number * rows) list)

-- the elements of a list, block by block in an order
abbrev pub in_blocks : {X : Type 0} → List X → ℕ → List ℕ → List X
in_blocks list rows order = flat_map (block_of_list list rows) order

-- the text of a block: the lines of its rows
abbrev pub block_text : (ℕ → List ℕ) → ℕ → ℕ → ℕ → List ℕ
block_text line height rows number = flat_map line (block_places height rows number)

-- whether a block is of the worker of the odd ones, or of that of the even ones
abbrev pub is_of : Bool → ℕ → Bool
is_of true number = number % 2 == 1
is_of false number = number % 2 == 0

-- the blocks of a worker from a number on, ascending
abbrev pub blocks_from : Bool → ℕ → ℕ → List ℕ
blocks_from odd number count = filter (is_of odd) (range_with_len number (count - number))

-- an order of so many blocks: its even numbers are the even blocks, ascending, each once, and its odd numbers the odd ones
pub record IsBlockOrder (count : ℕ) (order : List ℕ) : Type 0 where
  pub even : filter (is_of false) order ≡ blocks_from false 0 count
  pub odd : filter (is_of true) order ≡ blocks_from true 0 count

-- a front of the texts of the blocks in such an order was put
abbrev pub PutsFront : (ℕ → List ℕ) → ℕ → OutputSeen → OutputSeen → Type 0
PutsFront text count out now = (order : List ℕ) × IsBlockOrder count order × WritesFront (flat_map text order) out now

-- the texts of the blocks of so many rows of a frame of this height, and how many there are
pub record Describes (text : ℕ → List ℕ) (count : ℕ) (line : ℕ → List ℕ) (height rows : ℕ) : Type 0 where
  pub some : 0 < rows
  pub few : height ≤ 4294967294
  pub text_is : text ≡ block_text line height rows
  pub count_is : count ≡ block_count height rows
