-- What a run of a command says of its input and its output.
use Rattle.std.specs.Prelude.{ℕ, ◌≡◌, ◌≤◌, ◌⊎◌, List, [], ◌∷◌, length, Bool, false, Option, Some, None, IfSome, IsSome, IsSomeAnd, ⊤}
use Rattle.pipe_stream.specs.Outside.{InputSeen, OutputSeen, WriteFails, Writes, WritesFront}
use Rattle.pipe_cli.specs.Commands.{Request, contract_of, request, source_of}
use Rattle.pipe_cli.specs.Contract.{Answered, Contract, OfInput, ShortGood, Told}
use Rattle.pipe_cli.specs.Refused.{OfReading, OfWriting}
use Rattle.pipe_cli.specs.Sources.{IsLongOn, IsTakenInPart, IsTooMany, Source, Nowhere, WasRead, bytes_at, limit}
use Rattle.pipe_cli.specs.Status.{OneOf}
use Rattle.pipe_cli.specs.declared.status.Refusal.{Refusal}
use Rattle.pipe_cli.specs.declared.status.Refusal.TheVariants as refusal

-- ---- of the input of a contract

-- the answer to bytes was written
pub record WroteOn (contract : Contract) (out now : OutputSeen) (bytes : List ℕ) : Type 0 where
  pub text : List ℕ
  pub answered : Answered contract bytes text
  pub wrote : Writes text out now

abbrev pub WroteTold : Contract → Option (List ℕ) → OutputSeen → OutputSeen → Type 0
WroteTold contract told out now = IfSome told (WroteOn contract out now)

-- a front of it was written, to bytes of which an input may have so many
pub record WroteFrontOn (contract : Contract) (out now : OutputSeen) (bytes : List ℕ) : Type 0 where
  pub short : length bytes ≤ limit
  pub text : List ℕ
  pub answered : Answered contract bytes text
  pub wrote : WritesFront text out now

abbrev pub WroteFrontTold : Contract → Option (List ℕ) → OutputSeen → OutputSeen → Type 0
WroteFrontTold contract told out now = IfSome told (WroteFrontOn contract out now)

-- what a refusal says of the output of a contract
abbrev pub OfOutput : Contract → Refusal → Option (List ℕ) → OutputSeen → OutputSeen → Type 0
OfOutput contract r told out now = OfWriting r (WroteFrontTold contract told out now) out now

-- ---- of the command that words ask for

-- a fact of what is asked for, where it is, and that it is asked for
abbrev pub if_asked : Option Request → (Request → Type 0) → Type 0
if_asked None fact = ⊤
if_asked (Some asked) fact = fact asked

abbrev pub is_asked : Option Request → (Request → Type 0) → Type 0
is_asked None fact = ⊥
is_asked (Some asked) fact = fact asked

-- the bytes of its input, where they are told
abbrev pub told_to : Request → InputSeen → Option (List ℕ)
told_to asked input = bytes_at (source_of asked) input

-- whether it asks the stop check, and whether it reads nothing
abbrev pub is_run : Option Request → Bool
is_run None = false
is_run (Some asked) = (contract_of asked).asks

abbrev pub asks_run : List (List ℕ) → Bool
asks_run words = is_run (request words)

abbrev pub ReadsNowhere : Request → Type 0
ReadsNowhere asked = source_of asked ≡ Nowhere

-- words ask for a command that reads nothing
abbrev pub AsksNoInput : List (List ℕ) → Type 0
AsksNoInput words = is_asked (request words) ReadsNowhere

-- a fact of the bytes of the input that is asked for, where they are told
abbrev pub IfInput : List (List ℕ) → InputSeen → (Contract → List ℕ → Type 0) → Type 0
IfInput words input fact = if_asked (request words) (λ asked. IfSome (told_to asked input) (fact (contract_of asked)))

-- an input is asked for whose bytes are told, and of which this is a fact
abbrev pub IsInput : List (List ℕ) → InputSeen → (Contract → List ℕ → Type 0) → Type 0
IsInput words input fact = is_asked (request words) (λ asked. IsSomeAnd (told_to asked input) (fact (contract_of asked)))

-- the input was read to its end, and isn't too long
abbrev pub IsRead : List (List ℕ) → InputSeen → InputSeen → Type 0
IsRead words input now = is_asked (request words) (λ asked. WasRead (source_of asked) input now)

-- what was asked for was written, or a front of it
abbrev pub Wrote : List (List ℕ) → InputSeen → OutputSeen → OutputSeen → Type 0
Wrote words input out now = is_asked (request words) (λ asked. WroteTold (contract_of asked) (told_to asked input) out now)

abbrev pub WroteFront : List (List ℕ) → InputSeen → OutputSeen → OutputSeen → Type 0
WroteFront words input out now = is_asked (request words) (λ asked. WroteFrontTold (contract_of asked) (told_to asked input) out now)

-- the input is too long
abbrev pub IsTooLong : List (List ℕ) → InputSeen → InputSeen → Type 0
IsTooLong words input now = is_asked (request words) (λ asked. IsLongOn (told_to asked input) input now)

-- not all of it was taken
abbrev pub TakenInPart : List (List ℕ) → InputSeen → InputSeen → Type 0
TakenInPart words input now = is_asked (request words) (λ asked. IsTakenInPart (source_of asked) input now)

-- more bytes than an input may have, of whatever kind
abbrev pub Long : Contract → List ℕ → Type 0
Long contract bytes = IsTooMany bytes

-- the status is one with which what is asked for may end
abbrev pub MayEnd : List (List ℕ) → ℕ → Type 0
MayEnd words status = if_asked (request words) (λ asked. OneOf (contract_of asked).statuses status)

-- ---- lines that are noted

-- the line was written, or a front of it where a write failed
pub record Noted (line : List ℕ) (notes now : OutputSeen) : Type 0 where
  pub front : WritesFront line notes now
  pub whole : Writes line notes now ⊎ WriteFails notes now

-- a line that tells the error by which the input ends was noted
pub record NotedLine (status : ℕ) (words : List (List ℕ)) (input : InputSeen) (notes now : OutputSeen) : Type 0 where
  pub line : List ℕ
  pub told : IfInput words input (λ contract. Told contract status line)
  pub noted : Noted line notes now

abbrev pub NotedFault : ℕ → List (List ℕ) → InputSeen → OutputSeen → OutputSeen → Type 0
NotedFault status words input notes now = OneOf (6 ∷ 7 ∷ []) status → NotedLine status words input notes now

-- ---- what a refusal says of what words ask for

abbrev pub of_words : Refusal → Option Request → Type 0
of_words refusal.BadWords asked = asked ≡ None
of_words refusal.ReadFault asked = IsSome asked
of_words refusal.TooLong asked = IsSome asked
of_words refusal.NotJson asked = IsSome asked
of_words refusal.NotJob asked = IsSome asked
of_words (refusal.Fault line) asked = IsSome asked
of_words (refusal.TooMany line) asked = IsSome asked
of_words refusal.Stopped asked = IsSome asked
of_words refusal.WriteFault asked = IsSome asked
of_words refusal.Memory asked = IsSome asked

abbrev pub OfWords : Refusal → List (List ℕ) → Type 0
OfWords r words = of_words r (request words)

abbrev pub ReadingOf : Refusal → List (List ℕ) → InputSeen → InputSeen → Type 0
ReadingOf r words input now = if_asked (request words) (λ asked. OfReading r (told_to asked input) input now)

abbrev pub InputOf : Refusal → List (List ℕ) → InputSeen → Type 0
InputOf r words input = if_asked (request words) (λ asked. OfInput (contract_of asked) r (told_to asked input))

abbrev pub OutputOf : Refusal → List (List ℕ) → InputSeen → OutputSeen → OutputSeen → Type 0
OutputOf r words input out now = if_asked (request words) (λ asked. OfOutput (contract_of asked) r (told_to asked input) out now)
