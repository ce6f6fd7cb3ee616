-- Where an input stands, and how it is read to its end.
use Rattle.std.specs.Prelude.{ℕ, ◌≡◌, ◌<◌, ◌≤◌, List, [], length, Option, Some, None, IfSome}
use Rattle.pipe_stream.specs.Outside.{CountedAbove, InputSeen, Splits}
use Rattle.pipe_stream.specs.Whole.{ReadAtMost}

-- an input stands nowhere, on standard input, or under a name
pub data Source : Type 0 where
  Nowhere : Source
  Standard : Source
  Named : (name : List ℕ) → Source

-- the bytes that stand there, where they are told; nowhere there are none
abbrev pub bytes_at : Source → InputSeen → Option (List ℕ)
bytes_at Nowhere input = Some []
bytes_at Standard input = input.left
bytes_at (Named name) input = input.named name

-- standard input, or what stands under a name
abbrev pub standard_or : Option (List ℕ) → Source
standard_or None = Standard
standard_or (Some name) = Named name

-- what stands there is what is left now, where it is told
abbrev pub Opened : Source → InputSeen → InputSeen → Type 0
Opened source input now = IfSome (bytes_at source input) (λ bytes. now.left ≡ Some bytes)

-- how many bytes an input has at most
abbrev pub limit : ℕ
limit = 33554432

-- bytes that are more than an input may have
abbrev pub IsTooMany : List ℕ → Type 0
IsTooMany bytes = limit < length bytes

-- bytes were read to their end, and an input may have so many
pub record ReadOn (bytes : List ℕ) (now : InputSeen) : Type 0 where
  pub end : now.left ≡ Some []
  pub short : length bytes ≤ limit

abbrev pub IsWhole : Option (List ℕ) → InputSeen → Type 0
IsWhole told now = IfSome told (λ bytes. ReadOn bytes now)

-- an input was read to its end, and isn't too long; where it stands nowhere, nothing was read
abbrev pub WasRead : Source → InputSeen → InputSeen → Type 0
WasRead Nowhere input now = now ≡ input
WasRead Standard input now = IsWhole input.left now
WasRead (Named name) input now = IsWhole (input.named name) now

-- these are the bytes that are told
abbrev pub HasAll : List ℕ → Option (List ℕ) → Type 0
HasAll bytes told = IfSome told (λ all. bytes ≡ all)

-- there are more bytes than an input may have, and more than that were taken
pub record IsLongOn (told : Option (List ℕ)) (input now : InputSeen) : Type 0 where
  pub many : IfSome told IsTooMany
  pub counted : CountedAbove limit input now

-- how many bytes are taken at most before an input is found too long: as many as it may have, and what one read takes
abbrev pub most_taken : ℕ
most_taken = 33619968

-- so many at most were taken from the front of some bytes
pub record TookFew (now : InputSeen) (bytes : List ℕ) : Type 0 where
  pub taken : List ℕ
  pub few : length taken ≤ most_taken
  pub rest : Splits bytes taken now.left

-- no more than that was taken
abbrev pub IsTakenInPart : Source → InputSeen → InputSeen → Type 0
IsTakenInPart Nowhere input now = now ≡ input
IsTakenInPart Standard input now = ReadAtMost most_taken input now
IsTakenInPart (Named name) input now = IfSome (input.named name) (TookFew now)
