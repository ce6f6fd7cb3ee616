-- Texts that are read and written whole.
use Rattle.std.specs.Prelude.{ℕ, ◌≡◌, ◌<◌, ◌≤◌, List, length, Option, IfSome}
use Rattle.pipe_stream.specs.Outside.{Appends, Counted, HasRead, InputSeen, OutputSeen}

-- this text is all that was left, where it is told
abbrev pub IsAll : List ℕ → InputSeen → Type 0
IsAll text input = IfSome input.left (λ bytes. text ≡ bytes)

-- more than a limit was left, where it is told
abbrev pub IsLong : ℕ → InputSeen → Type 0
IsLong limit input = IfSome input.left (λ bytes. limit < length bytes)

-- this text was taken from what was left
abbrev pub Reads : List ℕ → InputSeen → InputSeen → Type 0
Reads text input now = HasRead text input.left now.left

-- this text was taken from what was left, and the bytes were counted
pub record ReadAndCounted (text : List ℕ) (input now : InputSeen) : Type 0 where
  pub reads : Reads text input now
  pub counts : Counted (length text) input now

-- so many bytes at most were taken from what was left, and counted
pub record ReadAtMost (most : ℕ) (input now : InputSeen) : Type 0 where
  pub taken : List ℕ
  pub few : length taken ≤ most
  pub read : ReadAndCounted taken input now

-- what was read before, and then more, is what was read
abbrev pub ReadsOn : List ℕ → List ℕ → InputSeen → InputSeen → Type 0
ReadsOn before after input now =
    (first : Option (List ℕ)) → HasRead before first input.left → HasRead after first now.left

-- what was written before, and then more, is what was written
abbrev pub WritesOn : List ℕ → List ℕ → OutputSeen → OutputSeen → Type 0
WritesOn before after out now =
    (first : Option (List ℕ)) → Appends before first out.written → Appends after first now.written
