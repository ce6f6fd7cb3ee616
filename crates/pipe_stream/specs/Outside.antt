-- What a job is read from and what its rows are written to. What a reader has left and what a writer
-- holds are told or not: nothing is said of the bytes of one that doesn't tell.
use Rattle.std.specs.Prelude.{ℕ, ◌≡◌, ◌<◌, ◌≤◌, ◌+◌, ◌⊎◌, List, [], ◌++◌, take, drop, Option, Some, None, IfSome, IsSomeAnd}
use Rattle.pipe_schema.specs.Counts.{Counts, Rises, last_count}

-- what is known of a reader
pub record InputSeen : Type 0 where
  -- what is left to read, where it is told
  pub left : Option (List ℕ)
  -- the bytes that stand under a name, where they are told
  pub named : List ℕ → Option (List ℕ)
  -- how many bytes were taken, and how many calls failed: numbers that never fall and stand still
  -- at their last value
  pub taken : ℕ
  pub faults : ℕ

-- what is known of a writer
pub record OutputSeen : Type 0 where
  -- what was written, where it is told
  pub written : Option (List ℕ)
  -- how many calls failed, a number that never falls and stands still at its last value
  pub faults : ℕ

-- what is known of a reader that doesn't tell its bytes
abbrev pub untold_input : ℕ → ℕ → InputSeen
untold_input taken faults = record { left = None; named = λ _. None; taken = taken; faults = faults }

-- what is known of a writer that doesn't tell what was written
abbrev pub untold_output : ℕ → OutputSeen
untold_output faults = record { written = None; faults = faults }

-- n bytes were taken from the front of what was left into a buffer, and none only at the end
pub record Took (n : ℕ) (buffer left : List ℕ) (now : Option (List ℕ)) : Type 0 where
  pub front : left ≡ take n buffer ++ drop n left
  pub rest : now ≡ Some (drop n left)
  pub end : n ≡ 0 → left ≡ []

abbrev pub Takes : ℕ → List ℕ → InputSeen → InputSeen → Type 0
Takes n buffer input now = IfSome input.left (λ bytes. Took n buffer bytes now.left)

-- so many bytes were counted
abbrev pub Counted : ℕ → InputSeen → InputSeen → Type 0
Counted n input now = Counts n input.taken now.taken

-- more than a limit was counted, or the count stands at its last value
abbrev pub CountedAbove : ℕ → InputSeen → InputSeen → Type 0
CountedAbove limit input now = (input.taken + limit < now.taken) ⊎ (last_count ≤ now.taken)

-- a call of a reader failed
abbrev pub ReadFails : InputSeen → InputSeen → Type 0
ReadFails input now = Rises input.faults now.faults

-- what stands under a name, where it is told, is what is left now
abbrev pub Opens : List ℕ → InputSeen → InputSeen → Type 0
Opens name input now = IfSome (input.named name) (λ bytes. now.left ≡ Some bytes)

-- these bytes and then what is left are all that there was
abbrev pub Splits : List ℕ → List ℕ → Option (List ℕ) → Type 0
Splits all bytes None = ⊥
Splits all bytes (Some rest) = all ≡ bytes ++ rest

-- these bytes were taken from what was left
abbrev pub HasRead : List ℕ → Option (List ℕ) → Option (List ℕ) → Type 0
HasRead bytes left now = IfSome left (λ all. Splits all bytes now)

-- nothing is left, where it is told
abbrev pub AtEnd : InputSeen → InputSeen → Type 0
AtEnd input now = IfSome input.left (λ _. now.left ≡ Some [])

-- where what was written is told, it is what was written before and then the piece
abbrev pub Appends : List ℕ → Option (List ℕ) → Option (List ℕ) → Type 0
Appends piece written now = IfSome now (λ after. IsSomeAnd written (λ before. after ≡ before ++ piece))

-- this piece was written
abbrev pub Writes : List ℕ → OutputSeen → OutputSeen → Type 0
Writes piece out now = Appends piece out.written now.written

-- a front of a text was written
abbrev pub WritesFront : List ℕ → OutputSeen → OutputSeen → Type 0
WritesFront text out now = (n : ℕ) × Writes (take n text) out now

-- a call of a writer failed
abbrev pub WriteFails : OutputSeen → OutputSeen → Type 0
WriteFails out now = Rises out.faults now.faults
