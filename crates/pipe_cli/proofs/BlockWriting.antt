-- What is written of a stream, and what its refusals say.
use Rattle.std.proofs.Common.{◌≡◌, ◌≤◌, ◌<◌, ◌+◌, ◌-◌, ℕ, List, [], ◌∷◌, ◌++◌, Result, Ok, Err, length, map, take, filter, true, false, flat_map, Option, Some, None, inl, inr, refl, sym, ap, subst, ◌∙◌, arith}
use Rattle.std.specs.Prelude.{IfErr, IfSome, IsErrOf, OnErr, OnOk, slice_index_or}
use Rattle.std.specs.List.{range_with_len}
use Rattle.pipe_check.proofs.Walks.{under-self}
use Rattle.pipe_check.proofs.WellFormed.{root_there}
use Rattle.pipe_exec.specs.Evaluated.{HasRowsOf}
use Rattle.pipe_frame.specs.Frame.{Table}
use Rattle.pipe_schema.specs.Weights.{total}
use Rattle.pipe_schema.proofs.Weights.{SameBag-map, SameBag-from_rows, SameBag-trans, SameLines-from_bag}
use Rattle.pipe_job.specs.JobSpelling.{Task}
use Rattle.pipe_job.specs.Line.{head_line, row_line, lines}
use Rattle.pipe_job.specs.Reading.{ReadsJob}
use Rattle.pipe_job.proofs.Cut.{lines-frame}
use Rattle.pipe_stream.specs.Outside.{InputSeen, OutputSeen, WriteFails, Writes, WritesFront}
use Rattle.pipe_stream.proofs.WholeLemmas.{rises_later}
use Rattle.pipe_plan.specs.PlanRows.{rows_of}
use Rattle.pipe_plan.specs.Schemas.{schema_of}
use Rattle.pipe_plan.specs.declared.error.PipeError.{PipeError}
use Rattle.pipe_plan.specs.declared.error.PipeError.TheVariants as error
use Rattle.pipe_stream.specs.Blocks.{IsBlockOrder, PutsFront, block_count, block_text, in_blocks, is_of}
use Rattle.pipe_stream.proofs.DeskLemmas.{appends_both, appends_none, longer, past}
use Rattle.pipe_stream.proofs.OrderLemmas.{blocks_are_all, texts_are_lines}
use Rattle.pipe_cli.specs.Commands.RunCommand.{run}
use Rattle.pipe_cli.specs.Commands.StreamCommand.{IsBlockLines, stream}
use Rattle.pipe_cli.specs.Contract.{Answered, Because, Causes, EndsBy, CommandEndsWith, CommandFails, IsTold, NoInput, Nothing, OfInput, Short, Sound, Told, Unread}
use Rattle.pipe_cli.specs.Jobs.{IsSoundJob, IsWithinJob, job_kind}
use Rattle.pipe_cli.specs.Outcome.{WroteFrontOn, WroteFrontTold, WroteOn, WroteTold}
use Rattle.pipe_cli.specs.Refused.{OfReading}
use Rattle.pipe_cli.specs.Sources.{HasAll, limit}
use Rattle.pipe_cli.specs.Status.{OneOf, status_of}
use Rattle.pipe_cli.specs.Streams.{EndsBlocks, OfBlocks, WroteBlocks, WroteBlocksInPart, WroteFrontOf, blocks_of_frame}
use Rattle.pipe_cli.specs.declared.status.Refusal.{Refusal}
use Rattle.pipe_cli.specs.declared.status.Refusal.TheVariants as refusal
use Rattle.pipe_cli.proofs.RuleLemmas.{among, apart, because_told, caused_only, input_told, short_told, unread_told}

-- ---- a frame is written

-- the blocks in their order are in such an order
in_turn : (count : ℕ) → IsBlockOrder count (range_with_len 0 count)
in_turn count = let e : count ≡ count - 0 = omega arith in record {
  even = ap (λ n. filter (is_of false) (range_with_len 0 n)) e;
  odd = ap (λ n. filter (is_of true) (range_with_len 0 n)) e;
}

pub no_memory : (frame : Table) (rows : ℕ) (out : OutputSeen) → WroteBlocksInPart frame rows out out
no_memory frame rows out = let count : ℕ = block_count (length frame.rows) rows in (range_with_len 0 count, in_turn count, (0, appends_none out.written))

pub head_failed : (frame : Table) (rows : ℕ) (head : List ℕ) (out now : OutputSeen) → head ≡ head_line frame.schema → WritesFront head out now → WroteBlocksInPart frame rows out now
head_failed frame rows head out now e w =
    let count : ℕ = block_count (length frame.rows) rows in
    (range_with_len 0 count, in_turn count, longer (head_line frame.schema) _ out now (subst (λ l. WritesFront l out now) e w))

-- the text of each block
abbrev pub texts : Table → ℕ → ℕ → List ℕ
texts frame rows = block_text (λ i. row_line (slice_index_or frame.rows i [])) (length frame.rows) rows

pub blocks_put : (frame : Table) (rows : ℕ) (head order : List ℕ) (out mid now : OutputSeen) → head ≡ head_line frame.schema → IsBlockOrder (block_count (length frame.rows) rows) order
    → Writes head out mid → Writes (flat_map (texts frame rows) order) mid now → WroteBlocks frame rows out now
blocks_put frame rows head order out mid now e is w v =
    (order, is, appends_both (head_line frame.schema) (flat_map (texts frame rows) order) out.written mid.written now.written (subst (λ l. Writes l out mid) e w) v)

pub blocks_failed : (frame : Table) (rows : ℕ) (head : List ℕ) (out mid now : OutputSeen) → head ≡ head_line frame.schema → Writes head out mid
    → PutsFront (texts frame rows) (block_count (length frame.rows) rows) mid now → WroteBlocksInPart frame rows out now
blocks_failed frame rows head out mid now e w p =
    let line : List ℕ = head_line frame.schema in
    let all : List ℕ = flat_map (texts frame rows) p.0 in (
      p.0,
      p.1,
      (
        length line + p.2.0,
        subst (λ l. Writes l out now) (sym (past line all p.2.0))
            (appends_both line (take p.2.0 all) out.written mid.written now.written (subst (λ l. Writes l out mid) e w) p.2.1),
      ),
    )

pub later_fault : (out mid now : OutputSeen) → out.faults ≤ mid.faults → WriteFails mid now → WriteFails out now
later_fault out mid now h f = rises_later out.faults mid.faults now.faults h f

-- ---- what was written is the answer

ones : {X : Type 0} (xs : List X) → total (λ x. 1) xs ≡ length xs
ones [] = refl
ones (x ∷ xs) = omega (arith, ones xs)

-- a frame of a plan's rows has no more than the limit
pub height_fits : (job : Task) (frame : Table) → IsSoundJob job → IsWithinJob job → HasRowsOf job.plan job.root frame.rows → length frame.rows ≤ 4294967294
height_fits job frame sound within rows =
    let there = root_there job.plan job.root sound.formed.faultless in
    let few = within job.root (under-self job.plan.nodes job.root there) in
    let small = sound.numbers.small_limit in
    let same : length frame.rows ≡ length (rows_of job.plan job.root)
    = sym (ones frame.rows) ∙ (SameBag-from_rows rows.same).sums (λ x. 1) ∙ ones (rows_of job.plan job.root) in
    omega (arith, few, small, same)

pub some_rows : (job : Task) → IsSoundJob job → 0 < job.config.chunk_rows
some_rows job sound = sound.numbers.some_row

answered : (bytes : List ℕ) (job : Task) (frame : Table) (order : List ℕ) → ReadsJob bytes job → IsSoundJob job → IsWithinJob job → frame.schema ≡ schema_of job.plan job.root
    → HasRowsOf job.plan job.root frame.rows → IsBlockOrder (block_count (length frame.rows) job.config.chunk_rows) order
    → Answered stream bytes (blocks_of_frame frame job.config.chunk_rows order)
answered bytes job frame order read sound within schema rows parity =
    let size : ℕ = job.config.chunk_rows in
    record {
      input = job;
      read = read;
      sound = sound;
      within = within;
      answer = record {
        list = frame.rows;
        order = order;
        parity = parity;
        cut = ap (λ l. lines (head_line frame.schema ++ l)) (texts_are_lines [] row_line frame.rows size order)
            ∙ lines-frame frame.schema (in_blocks frame.rows size order)
            ∙ ap (λ fields. head_line fields ∷ map row_line (in_blocks frame.rows size order)) schema;
        same = SameLines-from_bag (SameBag-map row_line (SameBag-trans (blocks_are_all frame.rows size order sound.numbers.some_row parity) (SameBag-from_rows rows.same)));
        in_order = λ input by options sorts. rows.in_order (rw sorts refl);
      };
    }

pub wrote_job : (bytes : List ℕ) (job : Task) (frame : Table) (out now : OutputSeen) → ReadsJob bytes job → IsSoundJob job → IsWithinJob job → frame.schema ≡ schema_of job.plan job.root
    → HasRowsOf job.plan job.root frame.rows → WroteBlocks frame job.config.chunk_rows out now → WroteOn stream out now bytes
wrote_job bytes job frame out now read sound within schema rows w =
    record { text = blocks_of_frame frame job.config.chunk_rows w.0; answered = answered bytes job frame w.0 read sound within schema rows w.1; wrote = w.2 }

front_job : (bytes : List ℕ) (job : Task) (frame : Table) (out now : OutputSeen) → ReadsJob bytes job → IsSoundJob job → IsWithinJob job → frame.schema ≡ schema_of job.plan job.root
    → HasRowsOf job.plan job.root frame.rows → WroteBlocksInPart frame job.config.chunk_rows out now → WroteFrontOf out now bytes
front_job bytes job frame out now read sound within schema rows w =
    record { text = blocks_of_frame frame job.config.chunk_rows w.0; answered = answered bytes job frame w.0 read sound within schema rows w.1; wrote = w.2 }

ends_by : (r : Refusal) (bytes : List ℕ) (out now : OutputSeen) → OneOf (9 ∷ 10 ∷ []) (status_of r) → (r ≡ refusal.WriteFault → WriteFails out now) → WroteFrontOf out now bytes → EndsBlocks r out now bytes
ends_by refusal.BadWords bytes out now o c f = absurd (apart (9 ∷ 10 ∷ []) 1 refl o)
ends_by refusal.ReadFault bytes out now o c f = absurd (apart (9 ∷ 10 ∷ []) 2 refl o)
ends_by refusal.TooLong bytes out now o c f = absurd (apart (9 ∷ 10 ∷ []) 3 refl o)
ends_by refusal.NotJson bytes out now o c f = absurd (apart (9 ∷ 10 ∷ []) 4 refl o)
ends_by refusal.NotJob bytes out now o c f = absurd (apart (9 ∷ 10 ∷ []) 5 refl o)
ends_by (refusal.Fault line) bytes out now o c f = absurd (apart (9 ∷ 10 ∷ []) 6 refl o)
ends_by (refusal.TooMany line) bytes out now o c f = absurd (apart (9 ∷ 10 ∷ []) 7 refl o)
ends_by refusal.Stopped bytes out now o c f = absurd (apart (9 ∷ 10 ∷ []) 8 refl o)
ends_by refusal.WriteFault bytes out now o c f = (c refl, f)
ends_by refusal.Memory bytes out now o c f = inr f

pub failed_job : (r : Refusal) (bytes : List ℕ) (job : Task) (frame : Table) (out now : OutputSeen) → ReadsJob bytes job → IsSoundJob job → IsWithinJob job → frame.schema ≡ schema_of job.plan job.root
    → HasRowsOf job.plan job.root frame.rows → OneOf (9 ∷ 10 ∷ []) (status_of r) → (r ≡ refusal.WriteFault → WriteFails out now) → WroteBlocksInPart frame job.config.chunk_rows out now → EndsBlocks r out now bytes
failed_job r bytes job frame out now read sound within schema rows o c w = ends_by r bytes out now o c (front_job bytes job frame out now read sound within schema rows w)

-- where a frame was written, or wasn't
pub all_wrote : {X : Type 0} (r : Result X Refusal) (bytes : List ℕ) (job : Task) (frame : Table) (out now : OutputSeen) → ReadsJob bytes job → IsSoundJob job → IsWithinJob job → frame.schema ≡ schema_of job.plan job.root
    → HasRowsOf job.plan job.root frame.rows → OnOk r (WroteBlocks frame job.config.chunk_rows out now) → OnOk r (WroteOn stream out now bytes)
all_wrote (Ok x) bytes job frame out now read sound within schema rows w = wrote_job bytes job frame out now read sound within schema rows w
all_wrote (Err e) bytes job frame out now read sound within schema rows w = tt

pub all_failed : {X : Type 0} (r : Result X Refusal) (bytes : List ℕ) (job : Task) (frame : Table) (out now : OutputSeen) → ReadsJob bytes job → IsSoundJob job → IsWithinJob job → frame.schema ≡ schema_of job.plan job.root
    → HasRowsOf job.plan job.root frame.rows → IfErr r (λ e. OneOf (9 ∷ 10 ∷ []) (status_of e)) → OnErr r (WroteBlocksInPart frame job.config.chunk_rows out now) → (IsErrOf r refusal.WriteFault → WriteFails out now)
    → IfErr r (λ e. EndsBlocks e out now bytes)
all_failed (Ok x) bytes job frame out now read sound within schema rows o w c = tt
all_failed (Err e) bytes job frame out now read sound within schema rows o w c = failed_job e bytes job frame out now read sound within schema rows o (λ q. c (ap (λ x. Err x) q)) w

pub always_err : {X : Type 0} (r : Result X Refusal) (P : Type 0) → P → OnErr r P
always_err (Ok x) P p = tt
always_err (Err e) P p = p

-- ---- a job that isn't read, or isn't run

caused : (r : Refusal) (bytes : List ℕ) (out : OutputSeen) → Causes stream r bytes → EndsBlocks r out out bytes
caused refusal.BadWords bytes out h = (h, refl)
caused refusal.ReadFault bytes out h = (h, refl)
caused refusal.TooLong bytes out h = (h, refl)
caused refusal.NotJson bytes out h = (h, refl)
caused refusal.NotJob bytes out h = (h, refl)
caused (refusal.Fault line) bytes out h = (h, refl)
caused (refusal.TooMany line) bytes out h = (h, refl)
caused refusal.Stopped bytes out h = (h, refl)
caused refusal.WriteFault bytes out h = absurd h
caused refusal.Memory bytes out h = inl refl

pub unread_job : (r : Refusal) (bytes : List ℕ) (out : OutputSeen) → Unread job_kind r bytes → EndsBlocks r out out bytes
unread_job r bytes out u = caused r bytes out (unread_told stream r bytes u)

ends_as : (job : Task) (e : PipeError) → CommandEndsWith run job e → CommandEndsWith stream job e
ends_as job error.BadConfig h = h
ends_as job (error.BadNode n) h = h
ends_as job (error.UnknownColumn n name) h = h
ends_as job (error.DuplicateName n name) h = h
ends_as job (error.TypeMismatch n) h = h
ends_as job (error.BadJoin n) h = h
ends_as job (error.BadSort n) h = h
ends_as job (error.TooMany n) h = h
ends_as job error.Stopped h = h
ends_as job error.Memory h = h

by_as : (job : Task) (e : PipeError) → EndsBy run job e → EndsBy stream job e
by_as job e (inl h) = inl h
by_as job e (inr f) = inr (record { sound = f.sound; ends = ends_as job e f.ends })

told_as : (status : ℕ) (line : List ℕ) (job : Task) → IsTold run status line job → IsTold stream status line job
told_as status line job t = record { error = t.error; ends = by_as job t.error t.ends; status_is = t.status_is; line_is = t.line_is }

because_as : (r : Refusal) (job : Task) → Because run r job → Because stream r job
because_as refusal.BadWords job h = h
because_as refusal.ReadFault job h = h
because_as refusal.TooLong job h = h
because_as refusal.NotJson job h = h
because_as refusal.NotJob job h = h
because_as (refusal.Fault line) job h = told_as 6 line job h
because_as (refusal.TooMany line) job h = told_as 7 line job h
because_as refusal.Stopped job h = h
because_as refusal.WriteFault job h = h
because_as refusal.Memory job h = h

pub unrun_job : (r : Refusal) (bytes : List ℕ) (job : Task) (out : OutputSeen) → ReadsJob bytes job → Because run r job → EndsBlocks r out out bytes
unrun_job r bytes job out read h = caused r bytes out (because_told stream r bytes job read (because_as r job h))

-- ---- what is said of bytes is said of those that are told

pub wrote_all : (bytes : List ℕ) (told : Option (List ℕ)) (out now : OutputSeen) → HasAll bytes told → WroteOn stream out now bytes → WroteTold stream told out now
wrote_all bytes None out now all w = tt
wrote_all bytes (Some b) out now all w = subst (λ (s : List ℕ). WroteOn stream out now s) all w

front_all : (bytes : List ℕ) (told : Option (List ℕ)) (out now : OutputSeen) → HasAll bytes told → length bytes ≤ limit → WroteFrontOf out now bytes → WroteFrontTold stream told out now
front_all bytes None out now all short w = tt
front_all bytes (Some b) out now all short w =
    subst (λ (s : List ℕ). WroteFrontOn stream out now s) all (record { short = short; text = w.text; answered = w.answered; wrote = w.wrote })

pub blocks_input : (r : Refusal) (bytes : List ℕ) (told : Option (List ℕ)) (out now : OutputSeen) → HasAll bytes told → length bytes ≤ limit → EndsBlocks r out now bytes → OfInput stream r told
blocks_input refusal.BadWords bytes told out now all short h = input_told stream refusal.BadWords bytes told all short h.0
blocks_input refusal.ReadFault bytes told out now all short h = input_told stream refusal.ReadFault bytes told all short h.0
blocks_input refusal.TooLong bytes told out now all short h = input_told stream refusal.TooLong bytes told all short h.0
blocks_input refusal.NotJson bytes told out now all short h = input_told stream refusal.NotJson bytes told all short h.0
blocks_input refusal.NotJob bytes told out now all short h = input_told stream refusal.NotJob bytes told all short h.0
blocks_input (refusal.Fault line) bytes told out now all short h = input_told stream (refusal.Fault line) bytes told all short h.0
blocks_input (refusal.TooMany line) bytes told out now all short h = input_told stream (refusal.TooMany line) bytes told all short h.0
blocks_input refusal.Stopped bytes told out now all short h = input_told stream refusal.Stopped bytes told all short h.0
blocks_input refusal.WriteFault bytes told out now all short h = tt
blocks_input refusal.Memory bytes told out now all short h = tt

pub blocks_output : (r : Refusal) (bytes : List ℕ) (told : Option (List ℕ)) (out now : OutputSeen) → HasAll bytes told → length bytes ≤ limit → EndsBlocks r out now bytes
    → OfBlocks r (WroteFrontTold stream told out now) out now
blocks_output refusal.BadWords bytes told out now all short h = h.1
blocks_output refusal.ReadFault bytes told out now all short h = h.1
blocks_output refusal.TooLong bytes told out now all short h = h.1
blocks_output refusal.NotJson bytes told out now all short h = h.1
blocks_output refusal.NotJob bytes told out now all short h = h.1
blocks_output (refusal.Fault line) bytes told out now all short h = h.1
blocks_output (refusal.TooMany line) bytes told out now all short h = h.1
blocks_output refusal.Stopped bytes told out now all short h = h.1
blocks_output refusal.WriteFault bytes told out now all short h = (h.0, front_all bytes told out now all short h.1)
blocks_output refusal.Memory bytes told out now all short (inl e) = inl e
blocks_output refusal.Memory bytes told out now all short (inr f) = inr (front_all bytes told out now all short f)

pub blocks_reading : (r : Refusal) (bytes : List ℕ) (told : Option (List ℕ)) (input rest : InputSeen) (out now : OutputSeen) → EndsBlocks r out now bytes → OfReading r told input rest
blocks_reading refusal.BadWords bytes told input rest out now h = tt
blocks_reading refusal.ReadFault bytes told input rest out now h = absurd h.0
blocks_reading refusal.TooLong bytes told input rest out now h = absurd h.0
blocks_reading refusal.NotJson bytes told input rest out now h = tt
blocks_reading refusal.NotJob bytes told input rest out now h = tt
blocks_reading (refusal.Fault line) bytes told input rest out now h = tt
blocks_reading (refusal.TooMany line) bytes told input rest out now h = tt
blocks_reading refusal.Stopped bytes told input rest out now h = tt
blocks_reading refusal.WriteFault bytes told input rest out now h = tt
blocks_reading refusal.Memory bytes told input rest out now h = tt

-- only a refusal of reading says that the input is too long
pub job_short : {X : Type 0} (r : Result X Refusal) (F : Type 0) (bytes : List ℕ) (out now : OutputSeen) → IfErr r (λ e. EndsBlocks e out now bytes) → IsErrOf r refusal.TooLong → F
job_short r F bytes out now h same = absurd (subst (λ (q : Result _ Refusal). IfErr q (λ e. EndsBlocks e out now bytes)) same h).0

-- every status but 1 may come
abbrev pub all_statuses : List ℕ
all_statuses = 2 ∷ 3 ∷ 4 ∷ 5 ∷ 6 ∷ 7 ∷ 8 ∷ 9 ∷ 10 ∷ []

pub blocks_only : (r : Refusal) (bytes : List ℕ) (out now : OutputSeen) → EndsBlocks r out now bytes → OneOf all_statuses (status_of r)
blocks_only refusal.BadWords bytes out now h = absurd h.0
blocks_only refusal.ReadFault bytes out now h = inl refl
blocks_only refusal.TooLong bytes out now h = inr (inl refl)
blocks_only refusal.NotJson bytes out now h = inr (inr (inl refl))
blocks_only refusal.NotJob bytes out now h = inr (inr (inr (inl refl)))
blocks_only (refusal.Fault line) bytes out now h = inr (inr (inr (inr (inl refl))))
blocks_only (refusal.TooMany line) bytes out now h = inr (inr (inr (inr (inr (inl refl)))))
blocks_only refusal.Stopped bytes out now h = inr (inr (inr (inr (inr (inr (inl refl))))))
blocks_only refusal.WriteFault bytes out now h = inr (inr (inr (inr (inr (inr (inr (inl refl)))))))
blocks_only refusal.Memory bytes out now h = inr (inr (inr (inr (inr (inr (inr (inr (inl refl))))))))

-- ---- a refusal of reading

pub early_blocks : (r : Refusal) (front : Type 0) (out : OutputSeen) → OneOf (2 ∷ 3 ∷ 10 ∷ []) (status_of r) → OfBlocks r front out out
early_blocks refusal.BadWords front out e = refl
early_blocks refusal.ReadFault front out e = refl
early_blocks refusal.TooLong front out e = refl
early_blocks refusal.NotJson front out e = refl
early_blocks refusal.NotJob front out e = refl
early_blocks (refusal.Fault line) front out e = refl
early_blocks (refusal.TooMany line) front out e = refl
early_blocks refusal.Stopped front out e = refl
early_blocks refusal.WriteFault front out e = absurd (apart (2 ∷ 3 ∷ 10 ∷ []) 9 refl e)
early_blocks refusal.Memory front out e = inl refl

pub early_any : (n : ℕ) → OneOf (2 ∷ 3 ∷ 10 ∷ []) n → OneOf all_statuses n
early_any n h = among (2 ∷ 3 ∷ 10 ∷ []) all_statuses refl n h
