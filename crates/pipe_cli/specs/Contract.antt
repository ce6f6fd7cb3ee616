-- What a command promises, as one record, and what that says of the bytes of its input, by one rule for all commands.
use Rattle.std.specs.Prelude.{ℕ, ◌≡◌, ◌≤◌, ◌⊎◌, List, length, Bool, true, Option, IfSome}
use Rattle.pipe_cli.specs.FaultLine.{fault_line, fault_status}
use Rattle.pipe_plan.specs.declared.error.PipeError.{PipeError}
use Rattle.pipe_plan.specs.declared.error.PipeError.TheVariants as error
use Rattle.pipe_cli.specs.Sources.{limit}
use Rattle.pipe_cli.specs.Status.{OneOf}
use Rattle.pipe_cli.specs.declared.status.Refusal.{Refusal}
use Rattle.pipe_cli.specs.declared.status.Refusal.TheVariants as refusal

-- a kind of inputs: what is spelled, by which bytes, which bytes are no text (status 4), and which are the text of a
-- value that spells none (status 5)
pub record Kind : Type 1 where
  pub Input : Type 0
  pub Reads : List ℕ → Input → Type 0
  pub ReadsNothing : List ℕ → Type 0
  pub ReadsNone : List ℕ → Type 0

-- a command's contract
pub record Contract : Type 1 where
  -- what it reads
  pub kind : Kind
  -- which inputs are sound, and by which error the others are refused
  pub IsSound : kind.Input → Type 0
  pub IsRefused : kind.Input → PipeError → Type 0
  -- at which node a sound input has too many rows, and which has none
  pub HasMany : kind.Input → ℕ → Type 0
  pub IsWithin : kind.Input → Type 0
  -- the text that is written with status 0
  pub IsAnswer : kind.Input → List ℕ → Type 0
  -- whether the stop check is asked
  pub asks : Bool
  -- the statuses with which it may end
  pub statuses : List ℕ

-- ---- what a contract says of bytes

-- a text is the answer to them
pub record Answered (contract : Contract) (bytes text : List ℕ) : Type 0 where
  pub input : contract.kind.Input
  pub read : contract.kind.Reads bytes input
  pub sound : contract.IsSound input
  pub within : contract.IsWithin input
  pub answer : contract.IsAnswer input text

-- they spell a sound input,
pub record Sound (contract : Contract) (bytes : List ℕ) : Type 0 where
  pub input : contract.kind.Input
  pub read : contract.kind.Reads bytes input
  pub sound : contract.IsSound input

-- one without a node of too many rows,
pub record Good (contract : Contract) (bytes : List ℕ) : Type 0 where
  pub input : contract.kind.Input
  pub read : contract.kind.Reads bytes input
  pub sound : contract.IsSound input
  pub within : contract.IsWithin input

-- one with such a node,
pub record Wide (contract : Contract) (bytes : List ℕ) : Type 0 where
  pub input : contract.kind.Input
  pub read : contract.kind.Reads bytes input
  pub sound : contract.IsSound input
  pub node : ℕ
  pub many : contract.HasMany input node

-- or one that is refused with this status
pub record RefusedAs (status : ℕ) (contract : Contract) (bytes : List ℕ) : Type 0 where
  pub input : contract.kind.Input
  pub read : contract.kind.Reads bytes input
  pub error : PipeError
  pub refused : contract.IsRefused input error
  pub status_is : status ≡ fault_status error

-- too many nodes, or a node of too many rows
abbrev pub TooWide : Contract → List ℕ → Type 0
TooWide contract bytes = RefusedAs 7 contract bytes ⊎ Wide contract bytes

-- they are no text, or that of a value that spells none
abbrev pub Nothing : Contract → List ℕ → Type 0
Nothing contract bytes = contract.kind.ReadsNothing bytes

abbrev pub NoInput : Contract → List ℕ → Type 0
NoInput contract bytes = contract.kind.ReadsNone bytes

-- ---- the error by which an input ends

-- what an error says of a sound one: a node of too many rows, a stop, or no memory
abbrev pub CommandEndsWith : (contract : Contract) → contract.kind.Input → PipeError → Type 0
CommandEndsWith contract input error.BadConfig = ⊥
CommandEndsWith contract input (error.BadNode n) = ⊥
CommandEndsWith contract input (error.UnknownColumn n name) = ⊥
CommandEndsWith contract input (error.DuplicateName n name) = ⊥
CommandEndsWith contract input (error.TypeMismatch n) = ⊥
CommandEndsWith contract input (error.BadJoin n) = ⊥
CommandEndsWith contract input (error.BadSort n) = ⊥
CommandEndsWith contract input (error.TooMany n) = contract.HasMany input n
CommandEndsWith contract input error.Stopped = Unit {0}
CommandEndsWith contract input error.Memory = Unit {0}

pub record CommandFails (contract : Contract) (input : contract.kind.Input) (e : PipeError) : Type 0 where
  pub sound : contract.IsSound input
  pub ends : CommandEndsWith contract input e

-- it is refused, or it is sound and fails
abbrev pub EndsBy : (contract : Contract) → contract.kind.Input → PipeError → Type 0
EndsBy contract input e = contract.IsRefused input e ⊎ CommandFails contract input e

-- an input ends by an error of this status and this line
pub record IsTold (contract : Contract) (status : ℕ) (line : List ℕ) (input : contract.kind.Input) : Type 0 where
  pub error : PipeError
  pub ends : EndsBy contract input error
  pub status_is : status ≡ fault_status error
  pub line_is : line ≡ fault_line error

-- the bytes spell one that does
pub record Told (contract : Contract) (status : ℕ) (line bytes : List ℕ) : Type 0 where
  pub input : contract.kind.Input
  pub read : contract.kind.Reads bytes input
  pub told : IsTold contract status line input

-- ---- what a refusal says of the input that was read, and of its bytes; those of words and of reading and writing don't
-- come there

abbrev pub Because : (contract : Contract) → Refusal → contract.kind.Input → Type 0
Because contract (refusal.Fault line) input = IsTold contract 6 line input
Because contract (refusal.TooMany line) input = IsTold contract 7 line input
Because contract refusal.Stopped input = contract.IsSound input
Because contract refusal.Memory input = Unit {0}
Because contract refusal.NotJson input = ⊥
Because contract refusal.NotJob input = ⊥
Because contract refusal.BadWords input = ⊥
Because contract refusal.ReadFault input = ⊥
Because contract refusal.TooLong input = ⊥
Because contract refusal.WriteFault input = ⊥

abbrev pub Causes : Contract → Refusal → List ℕ → Type 0
Causes contract refusal.NotJson bytes = Nothing contract bytes
Causes contract refusal.NotJob bytes = NoInput contract bytes
Causes contract (refusal.Fault line) bytes = Told contract 6 line bytes
Causes contract (refusal.TooMany line) bytes = Told contract 7 line bytes
Causes contract refusal.Stopped bytes = Sound contract bytes
Causes contract refusal.Memory bytes = Unit {0}
Causes contract refusal.BadWords bytes = ⊥
Causes contract refusal.ReadFault bytes = ⊥
Causes contract refusal.TooLong bytes = ⊥
Causes contract refusal.WriteFault bytes = ⊥

-- bytes of which an input may have so many, and a fact of them
pub record Short (fact : List ℕ → Type 0) (bytes : List ℕ) : Type 0 where
  pub short : length bytes ≤ limit
  pub holds : fact bytes

abbrev pub ShortGood : Contract → List ℕ → Type 0
ShortGood contract = Short (Good contract)

-- what a refusal says of the bytes that are told
abbrev pub OfInput : Contract → Refusal → Option (List ℕ) → Type 0
OfInput contract refusal.NotJson told = IfSome told (Short (Nothing contract))
OfInput contract refusal.NotJob told = IfSome told (Short (NoInput contract))
OfInput contract (refusal.Fault line) told = IfSome told (Short (Told contract 6 line))
OfInput contract (refusal.TooMany line) told = IfSome told (Short (Told contract 7 line))
OfInput contract refusal.Stopped told = IfSome told (Short (Sound contract))
OfInput contract refusal.BadWords told = Unit {0}
OfInput contract refusal.ReadFault told = Unit {0}
OfInput contract refusal.TooLong told = Unit {0}
OfInput contract refusal.WriteFault told = Unit {0}
OfInput contract refusal.Memory told = Unit {0}

-- what it says of bytes that weren't read as an input of a kind
abbrev pub Unread : Kind → Refusal → List ℕ → Type 0
Unread kind refusal.NotJson bytes = kind.ReadsNothing bytes
Unread kind refusal.NotJob bytes = kind.ReadsNone bytes
Unread kind refusal.Memory bytes = Unit {0}
Unread kind refusal.Stopped bytes = ⊥
Unread kind (refusal.Fault line) bytes = ⊥
Unread kind (refusal.TooMany line) bytes = ⊥
Unread kind refusal.BadWords bytes = ⊥
Unread kind refusal.ReadFault bytes = ⊥
Unread kind refusal.TooLong bytes = ⊥
Unread kind refusal.WriteFault bytes = ⊥

-- ---- what makes a contract one

-- bytes spell one input at most, and what spells one is the text of a value and no other text
pub record IsKind (kind : Kind) : Type 0 where
  pub one : (bytes : List ℕ) (a b : kind.Input) → kind.Reads bytes a → kind.Reads bytes b → a ≡ b
  pub text : (bytes : List ℕ) (a : kind.Input) → kind.ReadsNothing bytes → kind.Reads bytes a → ⊥
  pub some : (bytes : List ℕ) (a : kind.Input) → kind.ReadsNone bytes → kind.Reads bytes a → ⊥
  pub apart : (bytes : List ℕ) → kind.ReadsNothing bytes → kind.ReadsNone bytes → ⊥

-- a sound input isn't refused, one is refused by one error, one without a node of too many rows has none, none is stopped
-- where the stop check isn't asked, and any may be answered or meet a fault of writing
pub record IsLawful (contract : Contract) : Type 0 where
  pub kind : IsKind contract.kind
  pub sound : (a : contract.kind.Input) (e : PipeError) → contract.IsSound a → contract.IsRefused a e → ⊥
  pub one_error : (a : contract.kind.Input) (d e : PipeError) → contract.IsRefused a d → contract.IsRefused a e → d ≡ e
  pub within : (a : contract.kind.Input) (n : ℕ) → contract.HasMany a n → contract.IsWithin a → ⊥
  pub stops : OneOf contract.statuses 8 → contract.asks ≡ true
  pub answers : OneOf contract.statuses 0
  pub writes : OneOf contract.statuses 9
