-- What a run of the program says of the words `why` and `why FILE`.
use Rattle.std.specs.Prelude.{ℕ, ◌≡◌, ◌≢◌, ◌≤◌, List, [], ◌∷◌, ◌++◌, length, codes, Bool, false, Option, Some, None, IfSome, IsSomeAnd}
use Rattle.std.specs.Str.{bytes_eq}
use Rattle.serde_json.specs.Data.{Data}
use Rattle.pipe_cli.specs.FaultLine.{fault_status}
use Rattle.pipe_job.specs.JobSpelling.{Task}
use Rattle.pipe_job.specs.Reading.{Reading, ReadsJob}
use Rattle.pipe_plan.specs.declared.error.PipeError.{PipeError}
use Rattle.pipe_why.specs.Heads.{fault_head}
use Rattle.pipe_why_value.specs.Places.{kind_of}
use Rattle.pipe_why_value.specs.Telling.{TellsNoJob}
use Rattle.pipe_why_value.specs.declared.input_kind.InputKind.TheVariants as kind
use Rattle.pipe_stream.specs.Outside.{InputSeen, OutputSeen, ReadFails, WriteFails, WritesFront}
use Rattle.pipe_cli.specs.Commands.WhyCommand.{why}
use Rattle.pipe_cli.specs.Contract.{Answered, NoInput, Nothing, RefusedAs, ShortGood, Told}
use Rattle.pipe_cli.specs.Jobs.{IsRefusedJob}
use Rattle.pipe_cli.specs.Outcome.{Noted, WroteFrontTold, WroteTold}
use Rattle.pipe_cli.specs.Sources.{IsLongOn, IsTakenInPart, IsTooMany, WasRead, bytes_at, limit, standard_or}
use Rattle.pipe_cli.specs.Status.{IsFixed, OneOf, status_line}
use Rattle.pipe_cli.specs.declared.status.Refusal.{Refusal}
use Rattle.pipe_cli.specs.declared.status.Refusal.TheVariants as refusal

-- whether words ask why a job can't be run: the word `why`, and a name or none
abbrev pub asks_why : List (List ℕ) → Bool
asks_why [] = false
asks_why (word ∷ []) = bytes_eq word (codes "why")
asks_why (word ∷ name ∷ []) = bytes_eq word (codes "why")
asks_why (word ∷ name ∷ more ∷ words) = false

-- the name that stands behind a word
abbrev pub name_in : List (List ℕ) → Option (List ℕ)
name_in [] = None
name_in (word ∷ []) = None
name_in (word ∷ name ∷ []) = Some name
name_in (word ∷ name ∷ more ∷ words) = None

-- with which statuses it ends before an answer is written
abbrev pub told_statuses : List ℕ
told_statuses = 2 ∷ 3 ∷ 4 ∷ 5 ∷ 6 ∷ 7 ∷ 10 ∷ []

-- a text is the answer to these bytes, of which an input may have so many
pub record ShortAnswered (text bytes : List ℕ) : Type 0 where
  pub short : length bytes ≤ limit
  pub answered : Answered why bytes text

-- ---- the text that is told

-- a text tells of bytes that read as a value that is no job, and not what another command reads, the steps to a place of it
-- at which something else stands than may
pub record TellsPlace (text bytes : List ℕ) : Type 0 where
  pub value : Data
  pub reading : Reading bytes value
  pub tells : kind_of value ≡ kind.Job → TellsNoJob value bytes text

-- a text begins with the error by which a job is refused with this status: its name, and the node at which it stands
pub record TellsFault (status : ℕ) (text : List ℕ) (job : Task) : Type 0 where
  pub error : PipeError
  pub refused : IsRefusedJob job error
  pub status_is : status ≡ fault_status error
  pub more : List ℕ
  pub begins : text ≡ fault_head error ++ more

-- it does of the job that these bytes are
pub record TellsFaultOf (status : ℕ) (text bytes : List ℕ) : Type 0 where
  pub job : Task
  pub read : ReadsJob bytes job
  pub tells : TellsFault status text job

-- what a refusal says of the text that is told of a job that was looked at
abbrev pub OfFault : Refusal → (text : List ℕ) → Task → Type 0
OfFault (refusal.Fault line) text job = TellsFault 6 text job
OfFault (refusal.TooMany line) text job = TellsFault 7 text job
OfFault refusal.BadWords text job = Unit {0}
OfFault refusal.ReadFault text job = Unit {0}
OfFault refusal.TooLong text job = Unit {0}
OfFault refusal.NotJson text job = Unit {0}
OfFault refusal.NotJob text job = ⊥
OfFault refusal.Stopped text job = Unit {0}
OfFault refusal.WriteFault text job = Unit {0}
OfFault refusal.Memory text job = Unit {0}

-- what it says of the text that is told of bytes
abbrev pub TellsOf : Refusal → (text bytes : List ℕ) → Type 0
TellsOf refusal.NotJob text bytes = TellsPlace text bytes
TellsOf (refusal.Fault line) text bytes = TellsFaultOf 6 text bytes
TellsOf (refusal.TooMany line) text bytes = TellsFaultOf 7 text bytes
TellsOf refusal.BadWords text bytes = Unit {0}
TellsOf refusal.ReadFault text bytes = Unit {0}
TellsOf refusal.TooLong text bytes = Unit {0}
TellsOf refusal.NotJson text bytes = Unit {0}
TellsOf refusal.Stopped text bytes = Unit {0}
TellsOf refusal.WriteFault text bytes = Unit {0}
TellsOf refusal.Memory text bytes = Unit {0}

-- such a text was written, or a front of it
pub record WroteWhy (tells : List ℕ → List ℕ → Type 0) (out now : OutputSeen) (bytes : List ℕ) : Type 0 where
  pub text : List ℕ
  pub told : tells text bytes
  pub wrote : WritesFront text out now

-- what a refusal says of what is written of the bytes that are told
abbrev pub WroteOf : Refusal → Option (List ℕ) → OutputSeen → OutputSeen → Type 0
WroteOf refusal.NotJob told out now = IfSome told (WroteWhy TellsPlace out now)
WroteOf (refusal.Fault line) told out now = IfSome told (WroteWhy (TellsFaultOf 6) out now)
WroteOf (refusal.TooMany line) told out now = IfSome told (WroteWhy (TellsFaultOf 7) out now)
WroteOf refusal.BadWords told out now = Unit {0}
WroteOf refusal.ReadFault told out now = Unit {0}
WroteOf refusal.TooLong told out now = Unit {0}
WroteOf refusal.NotJson told out now = Unit {0}
WroteOf refusal.Stopped told out now = Unit {0}
WroteOf refusal.WriteFault told out now = Unit {0}
WroteOf refusal.Memory told out now = Unit {0}

-- a text for people was written, or a front of it
abbrev pub WroteText : OutputSeen → OutputSeen → Type 0
WroteText out now = (text : List ℕ) × WritesFront text out now

-- what a refusal says of the output: that a write failed is told where the job is a good one alone
abbrev pub OfText : Refusal → Type 0 → OutputSeen → OutputSeen → Type 0
OfText refusal.WriteFault front out now = WriteFails out now × front
OfText refusal.BadWords front out now = WroteText out now
OfText refusal.ReadFault front out now = WroteText out now
OfText refusal.TooLong front out now = WroteText out now
OfText refusal.NotJson front out now = WroteText out now
OfText refusal.NotJob front out now = WroteText out now
OfText (refusal.Fault line) front out now = WroteText out now
OfText (refusal.TooMany line) front out now = WroteText out now
OfText refusal.Stopped front out now = WroteText out now
OfText refusal.Memory front out now = WroteText out now

-- a line that tells the error by which the job ends was noted
pub record NotedWhy (status : ℕ) (told : Option (List ℕ)) (notes noted : OutputSeen) : Type 0 where
  pub line : List ℕ
  pub tells : IfSome told (Told why status line)
  pub wrote : Noted line notes noted

-- a run of `why`, on what stands under a name or on standard input: its status, its input, its output and its notes,
-- before and after
pub record WhyEnds (name : Option (List ℕ)) (status : ℕ) (input now : InputSeen) (out written notes noted : OutputSeen) : Type 0 where
  -- The headline: it ends with 0 where the input was read to its end and is a job that may be run.
  pub read : status ≡ 0 → WasRead (standard_or name) input now
  pub wrote : status ≡ 0 → WroteTold why (bytes_at (standard_or name) input) out written
  -- Why there is another status.
  pub read_fault : status ≡ 2 → ReadFails input now
  pub too_long : status ≡ 3 → IsLongOn (bytes_at (standard_or name) input) input now
  pub most : status ≡ 3 → IsTakenInPart (standard_or name) input now
  pub not_json : status ≡ 4 → IfSome (bytes_at (standard_or name) input) (Nothing why)
  pub not_job : status ≡ 5 → IfSome (bytes_at (standard_or name) input) (NoInput why)
  pub refused : status ≡ 6 → IfSome (bytes_at (standard_or name) input) (RefusedAs 6 why)
  pub too_many : status ≡ 7 → IfSome (bytes_at (standard_or name) input) (RefusedAs 7 why)
  pub write_fault : status ≡ 9 → WriteFails out written
  -- Which status may come.
  pub only : OneOf why.statuses status
  pub if_long : IsSomeAnd (bytes_at (standard_or name) input) IsTooMany → OneOf (2 ∷ 3 ∷ 10 ∷ []) status
  pub if_no_job : IsSomeAnd (bytes_at (standard_or name) input) (NoInput why) → OneOf (2 ∷ 3 ∷ 5 ∷ 10 ∷ []) status
  pub if_fault : IsSomeAnd (bytes_at (standard_or name) input) (RefusedAs 6 why) → OneOf (2 ∷ 3 ∷ 6 ∷ 10 ∷ []) status
  pub if_many : IsSomeAnd (bytes_at (standard_or name) input) (RefusedAs 7 why) → OneOf (2 ∷ 3 ∷ 7 ∷ 10 ∷ []) status
  pub complete : IsSomeAnd (bytes_at (standard_or name) input) (ShortGood why) → OneOf (0 ∷ 2 ∷ 9 ∷ 10 ∷ []) status
  -- What is written: the answer, a front of it where a write failed, or a text for people, behind which the line of the
  -- status is noted, as by the other commands.
  pub text : status ≢ 0 → status ≢ 9 → WroteText out written
  -- Of a value that is no job it begins with the steps to a place at which something else stands than may, the first and
  -- the innermost; of a job that is refused with the fault's name and its node.
  pub place : status ≡ 5 → IfSome (bytes_at (standard_or name) input) (WroteWhy TellsPlace out written)
  pub fault : OneOf (6 ∷ 7 ∷ []) status → IfSome (bytes_at (standard_or name) input) (WroteWhy (TellsFaultOf status) out written)
  pub front : status ≡ 9 → WroteFrontTold why (bytes_at (standard_or name) input) out written
  pub fixed : IsFixed status → Noted (status_line status) notes noted
  pub told : OneOf (6 ∷ 7 ∷ []) status → NotedWhy status (bytes_at (standard_or name) input) notes noted
  pub quiet : status ≡ 0 → noted.written ≡ notes.written
