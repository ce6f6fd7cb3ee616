-- What a run of the program says of the word `stream`, and of all other words.
use Rattle.std.specs.Prelude.{ℕ, ◌≡◌, ◌≢◌, ◌↔◌, ◌≤◌, ◌⊎◌, List, [], ◌∷◌, ◌++◌, codes, length, Bool, true, false, Option, None, IfSome, IsSomeAnd}
use Rattle.std.specs.List.{flat_map}
use Rattle.std.specs.Str.{bytes_eq}
use Rattle.pipe_frame.specs.Frame.{Table}
use Rattle.pipe_job.specs.Line.{head_line, row_line}
use Rattle.std.specs.Prelude.{slice_index_or}
use Rattle.pipe_stream.specs.Outside.{InputSeen, OutputSeen, ReadFails, WriteFails, Writes, WritesFront}
use Rattle.pipe_stream.specs.Blocks.{IsBlockOrder, block_count, block_text}
use Rattle.pipe_cli.specs.Commands.{request}
use Rattle.pipe_cli.specs.Commands.StreamCommand.{stream}
use Rattle.pipe_cli.specs.Contract.{Answered, Causes, NoInput, Nothing, OfInput, RefusedAs, ShortGood, Sound, Told, TooWide, Wide}
use Rattle.pipe_cli.specs.Outcome.{IfInput, IsInput, IsRead, IsTooLong, Long, MayEnd, Noted, NotedFault, TakenInPart, Wrote, WroteFront, WroteFrontTold, WroteTold}
use Rattle.pipe_cli.specs.Sources.{IsLongOn, IsTakenInPart, IsTooMany, IsWhole, Standard}
use Rattle.pipe_cli.specs.Status.{IsFixed, OneOf, status_line}
use Rattle.pipe_cli.specs.declared.status.Refusal.{Refusal}
use Rattle.pipe_cli.specs.declared.status.Refusal.TheVariants as refusal

-- whether words ask for a stream: one word, `stream`
abbrev pub asks_stream : List (List ℕ) → Bool
asks_stream [] = false
asks_stream (word ∷ []) = bytes_eq word (codes "stream")
asks_stream (word ∷ more ∷ words) = false

-- ---- what is written of a frame

-- the line of its column names, and the texts of its blocks in an order
abbrev pub blocks_of_frame : Table → ℕ → List ℕ → List ℕ
blocks_of_frame frame rows order =
    head_line frame.schema
    ++ flat_map (block_text (λ i. row_line (slice_index_or frame.rows i [])) (length frame.rows) rows) order

-- they were written in an order in which the even blocks ascend and the odd ones ascend, or a front of them
abbrev pub WroteBlocks : Table → ℕ → OutputSeen → OutputSeen → Type 0
WroteBlocks frame rows out now =
    (order : List ℕ) × IsBlockOrder (block_count (length frame.rows) rows) order × Writes (blocks_of_frame frame rows order) out now

abbrev pub WroteBlocksInPart : Table → ℕ → OutputSeen → OutputSeen → Type 0
WroteBlocksInPart frame rows out now =
    (order : List ℕ) × IsBlockOrder (block_count (length frame.rows) rows) order × WritesFront (blocks_of_frame frame rows order) out now

-- ---- what a refusal says of the output: want of memory may come when a front of the answer is written

abbrev pub OfBlocks : Refusal → Type 0 → OutputSeen → OutputSeen → Type 0
OfBlocks refusal.WriteFault front out now = WriteFails out now × front
OfBlocks refusal.Memory front out now = (now.written ≡ out.written) ⊎ front
OfBlocks refusal.BadWords front out now = now.written ≡ out.written
OfBlocks refusal.ReadFault front out now = now.written ≡ out.written
OfBlocks refusal.TooLong front out now = now.written ≡ out.written
OfBlocks refusal.NotJson front out now = now.written ≡ out.written
OfBlocks refusal.NotJob front out now = now.written ≡ out.written
OfBlocks (refusal.Fault line) front out now = now.written ≡ out.written
OfBlocks (refusal.TooMany line) front out now = now.written ≡ out.written
OfBlocks refusal.Stopped front out now = now.written ≡ out.written

-- a front of the answer to these bytes was written
pub record WroteFrontOf (out now : OutputSeen) (bytes : List ℕ) : Type 0 where
  pub text : List ℕ
  pub answered : Answered stream bytes text
  pub wrote : WritesFront text out now

-- what a refusal says of a job that was read, and of the output
abbrev pub EndsBlocks : Refusal → OutputSeen → OutputSeen → List ℕ → Type 0
EndsBlocks refusal.WriteFault out now bytes = WriteFails out now × WroteFrontOf out now bytes
EndsBlocks refusal.Memory out now bytes = (now.written ≡ out.written) ⊎ WroteFrontOf out now bytes
EndsBlocks refusal.BadWords out now bytes = Causes stream refusal.BadWords bytes × (now.written ≡ out.written)
EndsBlocks refusal.ReadFault out now bytes = Causes stream refusal.ReadFault bytes × (now.written ≡ out.written)
EndsBlocks refusal.TooLong out now bytes = Causes stream refusal.TooLong bytes × (now.written ≡ out.written)
EndsBlocks refusal.NotJson out now bytes = Causes stream refusal.NotJson bytes × (now.written ≡ out.written)
EndsBlocks refusal.NotJob out now bytes = Causes stream refusal.NotJob bytes × (now.written ≡ out.written)
EndsBlocks (refusal.Fault line) out now bytes = Causes stream (refusal.Fault line) bytes × (now.written ≡ out.written)
EndsBlocks (refusal.TooMany line) out now bytes = Causes stream (refusal.TooMany line) bytes × (now.written ≡ out.written)
EndsBlocks refusal.Stopped out now bytes = Causes stream refusal.Stopped bytes × (now.written ≡ out.written)

-- ---- a run of `stream`: its status, its input, its output and its notes, before and after

-- a line that tells the error by which the job ends was noted
pub record NotedError (status : ℕ) (told : Option (List ℕ)) (notes noted : OutputSeen) : Type 0 where
  pub line : List ℕ
  pub tells : IfSome told (Told stream status line)
  pub wrote : Noted line notes noted

pub record StreamEnds (status : ℕ) (input now : InputSeen) (out written notes noted : OutputSeen) : Type 0 where
  -- The headline: the job was read to its end, and what was written is its rows' lines, block by block.
  pub read : status ≡ 0 → IsWhole input.left now
  pub wrote : status ≡ 0 → WroteTold stream input.left out written
  -- Why there is another status.
  pub read_fault : status ≡ 2 → ReadFails input now
  pub too_long : status ≡ 3 → IsLongOn input.left input now
  pub most : status ≡ 3 → IsTakenInPart Standard input now
  pub not_json : status ≡ 4 → IfSome input.left (Nothing stream)
  pub not_job : status ≡ 5 → IfSome input.left (NoInput stream)
  pub refused : status ≡ 6 → IfSome input.left (RefusedAs 6 stream)
  pub too_many : status ≡ 7 → IfSome input.left (TooWide stream)
  pub stopped : status ≡ 8 → IfSome input.left (Sound stream)
  pub write_fault : status ≡ 9 → WriteFails out written
  -- Which status may come.
  pub only : OneOf stream.statuses status
  pub if_long : IsSomeAnd input.left IsTooMany → OneOf (2 ∷ 3 ∷ 10 ∷ []) status
  pub if_no_job : IsSomeAnd input.left (NoInput stream) → OneOf (2 ∷ 3 ∷ 5 ∷ 10 ∷ []) status
  pub if_fault : IsSomeAnd input.left (RefusedAs 6 stream) → OneOf (2 ∷ 3 ∷ 6 ∷ 10 ∷ []) status
  pub if_many : IsSomeAnd input.left (RefusedAs 7 stream) → OneOf (2 ∷ 3 ∷ 7 ∷ 10 ∷ []) status
  pub if_wide : IsSomeAnd input.left (Wide stream) → OneOf (2 ∷ 3 ∷ 7 ∷ 8 ∷ 10 ∷ []) status
  pub complete : IsSomeAnd input.left (ShortGood stream) → OneOf (0 ∷ 2 ∷ 8 ∷ 9 ∷ 10 ∷ []) status
  -- What is written: a front of the answer where a write failed, and nothing or a front of it for want of memory.
  pub front : status ≡ 9 → WroteFrontTold stream input.left out written
  pub front_or_none : status ≡ 10 → (written.written ≡ out.written) ⊎ WroteFrontTold stream input.left out written
  pub nothing : status ≢ 0 → status ≢ 9 → status ≢ 10 → written.written ≡ out.written
  pub fixed : IsFixed status → Noted (status_line status) notes noted
  pub told : OneOf (6 ∷ 7 ∷ []) status → NotedError status input.left notes noted
  pub quiet : status ≡ 0 → noted.written ≡ notes.written

-- ---- a run of other words: what `run_program` says of it

pub record ProgramEnds (words : List (List ℕ)) (status : ℕ) (input now : InputSeen) (out written notes noted : OutputSeen) : Type 0 where
  pub read : status ≡ 0 → IsRead words input now
  pub wrote : status ≡ 0 → Wrote words input out written
  pub bad_words : (status ≡ 1) ↔ (request words ≡ None)
  pub read_fault : status ≡ 2 → ReadFails input now
  pub too_long : status ≡ 3 → IsTooLong words input now
  pub most : status ≡ 3 → TakenInPart words input now
  pub not_json : status ≡ 4 → IfInput words input Nothing
  pub not_job : status ≡ 5 → IfInput words input NoInput
  pub refused : status ≡ 6 → IfInput words input (RefusedAs 6)
  pub too_many : status ≡ 7 → IfInput words input TooWide
  pub stopped : status ≡ 8 → IfInput words input Sound
  pub write_fault : status ≡ 9 → WriteFails out written
  pub highest : status ≤ 10
  pub only : MayEnd words status
  pub if_long : IsInput words input Long → OneOf (2 ∷ 3 ∷ 10 ∷ []) status
  pub if_no_job : IsInput words input NoInput → OneOf (2 ∷ 3 ∷ 5 ∷ 10 ∷ []) status
  pub if_fault : IsInput words input (RefusedAs 6) → OneOf (2 ∷ 3 ∷ 6 ∷ 10 ∷ []) status
  pub if_many : IsInput words input (RefusedAs 7) → OneOf (2 ∷ 3 ∷ 7 ∷ 10 ∷ []) status
  pub if_wide : IsInput words input Wide → OneOf (2 ∷ 3 ∷ 7 ∷ 8 ∷ 10 ∷ []) status
  pub complete : IsInput words input ShortGood → OneOf (0 ∷ 2 ∷ 8 ∷ 9 ∷ 10 ∷ []) status
  pub front : status ≡ 9 → WroteFront words input out written
  pub nothing : status ≢ 0 → status ≢ 9 → written.written ≡ out.written
  pub fixed : IsFixed status → Noted (status_line status) notes noted
  pub told : NotedFault status words input notes noted
  pub quiet : status ≡ 0 → noted.written ≡ notes.written
