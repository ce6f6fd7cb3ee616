-- What a run of `why` ends with, by what its refusal says.
use Rattle.std.proofs.Common.{◌≡◌, ◌≤◌, ℕ, Bool, true, false, List, [], ◌∷◌, ◌++◌, length, Option, Some, None, Result, Ok, Err, inl, inr, ◌⊎◌, codes, refl, sym, ap, subst, ◌∙◌, arith}
use Rattle.std.specs.Prelude.{IfErr, IfSome, IsErrOf, IsSomeAnd, OnErr, OnOk}
use Rattle.std.specs.Str.{bytes_eq}
use Rattle.std.proofs.lemmas.Slice.Eq.{bytes_eq-Decides}
use Rattle.pipe_schema.specs.Counts.{Counts}
use Rattle.pipe_stream.specs.Outside.{InputSeen, OutputSeen, ReadFails, WriteFails, WritesFront, Writes}
use Rattle.serde_json.specs.Data.{Data}
use Rattle.pipe_exec.specs.Sound.{CheckCauses}
use Rattle.pipe_cli.specs.FaultLine.{fault_status}
use Rattle.pipe_job.specs.JobSpelling.{Spells, Task}
use Rattle.pipe_job.specs.Reading.{Reading, ReadsJob}
use Rattle.pipe_plan.specs.declared.error.PipeError.{PipeError}
use Rattle.pipe_why.specs.Heads.{fault_head}
use Rattle.pipe_why_text.specs.Wanted.{SpellsJob}
use Rattle.pipe_why_value.specs.Places.{kind_of}
use Rattle.pipe_why_value.specs.Telling.{TellsNoJob}
use Rattle.pipe_why_value.specs.declared.input_kind.InputKind.TheVariants as kind
use Rattle.pipe_cli.specs.Commands.{Request, Why, contract_of, request, source_of, word_request, named_request}
use Rattle.pipe_cli.specs.Commands.CheckCommand.{ok_text}
use Rattle.pipe_cli.specs.Commands.WhyCommand.{IsGoodText, why}
use Rattle.pipe_cli.specs.Contract.{Answered, NoInput, Nothing, OfInput, RefusedAs, Short, ShortGood, Told, TooWide, Unread}
use Rattle.pipe_cli.specs.Jobs.{IsLookedAt, job_kind}
use Rattle.pipe_cli.specs.Outcome.{AsksNoInput, Noted, OfOutput, WroteFrontOn, WroteFrontTold, WroteOn, WroteTold, asks_run, is_asked, is_run}
use Rattle.pipe_cli.specs.Refused.{OfReading, Tells}
use Rattle.pipe_cli.specs.Sources.{HasAll, IsLongOn, IsTakenInPart, IsTooMany, Nowhere, WasRead, bytes_at, limit, standard_or}
use Rattle.pipe_cli.specs.Status.{IsFixed, OneOf, line_of, status_line, status_of, yes_of}
use Rattle.pipe_cli.specs.Whys.{NotedWhy, OfFault, OfText, ShortAnswered, TellsFaultOf, TellsOf, TellsPlace, WhyEnds, WroteOf, WroteText, WroteWhy, asks_why, told_statuses}
use Rattle.pipe_cli.specs.declared.status.Refusal.{Refusal}
use Rattle.pipe_cli.specs.declared.status.Refusal.TheVariants as refusal
use Rattle.pipe_cli.proofs.Lawful.{lawful}
use Rattle.pipe_cli.proofs.RuleLemmas.{among, apart, counts_none, unread_only}
use Rattle.pipe_cli.proofs.StatusLemmas.{follows, good_status, long_ran_by, long_status, none_ran_by, none_status, noted_fixed, refused_ran_by, refused_status, says_fault_by, says_many_by, says_none_by, says_nothing_by}
use Rattle.pipe_cli.proofs.StreamEndings.{read_failed, was_long}
use Rattle.pipe_cli.proofs.StreamLemmas.{all_is_front}

-- ---- which refusals come before anything is written

pub looked_few : (r : Refusal) (job : Task) → IsLookedAt r job → OneOf told_statuses (status_of r)
looked_few refusal.BadWords job h = absurd h
looked_few refusal.ReadFault job h = absurd h
looked_few refusal.TooLong job h = absurd h
looked_few refusal.NotJson job h = absurd h
looked_few refusal.NotJob job h = absurd h
looked_few (refusal.Fault line) job h = inr (inr (inr (inr (inl refl))))
looked_few (refusal.TooMany line) job h = inr (inr (inr (inr (inr (inl refl)))))
looked_few refusal.Stopped job h = absurd h
looked_few refusal.WriteFault job h = absurd h
looked_few refusal.Memory job h = inr (inr (inr (inr (inr (inr (inl refl))))))

pub unread_few : (r : Refusal) (bytes : List ℕ) → Unread job_kind r bytes → OneOf told_statuses (status_of r)
unread_few r bytes u = among (4 ∷ 5 ∷ 10 ∷ []) told_statuses refl (status_of r) (unread_only job_kind r bytes u)

pub early_few : (n : ℕ) → OneOf (2 ∷ 3 ∷ 10 ∷ []) n → OneOf told_statuses n
early_few n h = among (2 ∷ 3 ∷ 10 ∷ []) told_statuses refl n h

pub few_why : (n : ℕ) → OneOf told_statuses n → OneOf why.statuses n
few_why n h = among told_statuses why.statuses refl n h

-- ---- what is told of bytes

-- a place of a value that spells no job
pub place_told : (text bytes : List ℕ) (value : Data) → Reading bytes value → ((job : Task) → Spells value job → ⊥)
    → (kind_of value ≡ kind.Job → (SpellsJob value → ⊥) → TellsNoJob value bytes text) → TellsPlace text bytes
place_told text bytes value reading none tells = record {
  value = value;
  reading = reading;
  tells = λ job. tells job (λ spelled. none spelled.0 spelled.1);
}

-- the error by which a job is refused
pub fault_told : (r : Refusal) (text : List ℕ) (job : Task) (e : PipeError) → CheckCauses job.plan job.root job.config e → Tells r e
    → (more : List ℕ) × (text ≡ fault_head e ++ more) → OfFault r text job
fault_told refusal.BadWords text job e h t told = tt
fault_told refusal.ReadFault text job e h t told = tt
fault_told refusal.TooLong text job e h t told = tt
fault_told refusal.NotJson text job e h t told = tt
fault_told refusal.NotJob text job e h t told = t
fault_told (refusal.Fault line) text job e (inl m) t told = absurd (let ten : 6 ≡ 10 = t.0 ∙ ap fault_status m in omega (arith, ten))
fault_told (refusal.Fault line) text job e (inr h) t told = record { error = e; refused = h; status_is = t.0; more = told.0; begins = told.1 }
fault_told (refusal.TooMany line) text job e (inl m) t told = absurd (let ten : 7 ≡ 10 = t.0 ∙ ap fault_status m in omega (arith, ten))
fault_told (refusal.TooMany line) text job e (inr h) t told = record { error = e; refused = h; status_is = t.0; more = told.0; begins = told.1 }
fault_told refusal.Stopped text job e h t told = tt
fault_told refusal.WriteFault text job e h t told = tt
fault_told refusal.Memory text job e h t told = tt

-- of the job that bytes are
pub fault_of_bytes : (r : Refusal) (text bytes : List ℕ) (job : Task) → ReadsJob bytes job → OfFault r text job → TellsOf r text bytes
fault_of_bytes refusal.BadWords text bytes job read h = tt
fault_of_bytes refusal.ReadFault text bytes job read h = tt
fault_of_bytes refusal.TooLong text bytes job read h = tt
fault_of_bytes refusal.NotJson text bytes job read h = tt
fault_of_bytes refusal.NotJob text bytes job read h = absurd h
fault_of_bytes (refusal.Fault line) text bytes job read h = record { job = job; read = read; tells = h }
fault_of_bytes (refusal.TooMany line) text bytes job read h = record { job = job; read = read; tells = h }
fault_of_bytes refusal.Stopped text bytes job read h = tt
fault_of_bytes refusal.WriteFault text bytes job read h = tt
fault_of_bytes refusal.Memory text bytes job read h = tt

early_of : (r : Refusal) (text bytes : List ℕ) → OneOf (2 ∷ 3 ∷ 10 ∷ []) (status_of r) → TellsOf r text bytes
early_of refusal.BadWords text bytes o = tt
early_of refusal.ReadFault text bytes o = tt
early_of refusal.TooLong text bytes o = tt
early_of refusal.NotJson text bytes o = tt
early_of refusal.NotJob text bytes o = absurd (apart (2 ∷ 3 ∷ 10 ∷ []) 5 refl o)
early_of (refusal.Fault line) text bytes o = absurd (apart (2 ∷ 3 ∷ 10 ∷ []) 6 refl o)
early_of (refusal.TooMany line) text bytes o = absurd (apart (2 ∷ 3 ∷ 10 ∷ []) 7 refl o)
early_of refusal.Stopped text bytes o = tt
early_of refusal.WriteFault text bytes o = tt
early_of refusal.Memory text bytes o = tt

pub early_told : (r : Refusal) (text : List ℕ) (told : Option (List ℕ)) → OneOf (2 ∷ 3 ∷ 10 ∷ []) (status_of r) → IfSome told (TellsOf r text)
early_told r text None o = tt
early_told r text (Some bytes) o = early_of r text bytes o

pub all_told : (r : Refusal) (text bytes : List ℕ) (told : Option (List ℕ)) → HasAll bytes told → TellsOf r text bytes → IfSome told (TellsOf r text)
all_told r text bytes None all h = tt
all_told r text bytes (Some b) all h = subst (TellsOf r text) all h

-- ---- the answer

pub good_text : (text more : List ℕ) → text ≡ ok_text ++ more → IsGoodText text
good_text text more e = record { more = more; begins = e }

pub short_answered : (bytes text : List ℕ) (told : Option (List ℕ)) → HasAll bytes told → length bytes ≤ limit → Answered why bytes text → IfSome told (ShortAnswered text)
short_answered bytes text None all short a = tt
short_answered bytes text (Some b) all short a = subst (λ (s : List ℕ). ShortAnswered text s) all (record { short = short; answered = a })

wrote_short : (text : List ℕ) (told : Option (List ℕ)) (out now : OutputSeen) → IfSome told (ShortAnswered text) → Writes text out now → WroteTold why told out now
wrote_short text None out now h w = tt
wrote_short text (Some b) out now h w = record { text = text; answered = h.answered; wrote = w }

front_short : (text : List ℕ) (told : Option (List ℕ)) (out now : OutputSeen) → IfSome told (ShortAnswered text) → WritesFront text out now → WroteFrontTold why told out now
front_short text None out now h w = tt
front_short text (Some b) out now h w = record { short = h.short; text = text; answered = h.answered; wrote = w }

pub wrote_answer : {X : Type 0} (r : Result X Refusal) (text : List ℕ) (told : Option (List ℕ)) (out now : OutputSeen) → IfSome told (ShortAnswered text) → OnOk r (Writes text out now) → OnOk r (WroteTold why told out now)
wrote_answer (Ok x) text told out now h w = wrote_short text told out now h w
wrote_answer (Err e) text told out now h w = tt

pub wrote_text : {X : Type 0} (r : Result X Refusal) (text : List ℕ) (out now : OutputSeen) → OnOk r (Writes text out now) → OnOk r (WroteText out now)
wrote_text (Ok x) text out now w = (text, all_is_front text out now w)
wrote_text (Err e) text out now w = tt

-- it wasn't written whole
fault_text : (r : Refusal) (text : List ℕ) (told : Option (List ℕ)) (out now : OutputSeen) → r ≡ refusal.WriteFault → IfSome told (ShortAnswered text) → WritesFront text out now → WriteFails out now → OfText r (WroteFrontTold why told out now) out now
fault_text r text told out now e h w c = subst (λ (s : Refusal). OfText s (WroteFrontTold why told out now) out now) (sym e) (c, front_short text told out now h w)

pub unwritten_answer : {X : Type 0} (r : Result X Refusal) (text : List ℕ) (told : Option (List ℕ)) (out now : OutputSeen) → IfErr r (λ e. e ≡ refusal.WriteFault) → IfSome told (ShortAnswered text) → OnErr r (WritesFront text out now) → OnErr r (WriteFails out now)
    → IfErr r (λ e. OfText e (WroteFrontTold why told out now) out now)
unwritten_answer (Ok x) text told out now e h w c = tt
unwritten_answer (Err f) text told out now e h w c = fault_text f text told out now e h w c

fault_is : (P : Refusal → Type 0) (r : Refusal) → r ≡ refusal.WriteFault → P refusal.WriteFault → P r
fault_is P r e p = subst P (sym e) p

pub fault_reading : {X : Type 0} (r : Result X Refusal) (told : Option (List ℕ)) (input now : InputSeen) → IfErr r (λ e. e ≡ refusal.WriteFault) → IfErr r (λ e. OfReading e told input now)
fault_reading (Ok x) told input now e = tt
fault_reading (Err f) told input now e = fault_is (λ (s : Refusal). OfReading s told input now) f e tt

pub fault_input : {X : Type 0} (r : Result X Refusal) (told : Option (List ℕ)) → IfErr r (λ e. e ≡ refusal.WriteFault) → IfErr r (λ e. OfInput why e told)
fault_input (Ok x) told e = tt
fault_input (Err f) told e = fault_is (λ (s : Refusal). OfInput why s told) f e tt

pub fault_only : {X : Type 0} (r : Result X Refusal) → IfErr r (λ e. e ≡ refusal.WriteFault) → IfErr r (λ e. OneOf why.statuses (status_of e))
fault_only (Ok x) e = tt
fault_only (Err f) e = fault_is (λ (s : Refusal). OneOf why.statuses (status_of s)) f e (inr (inr (inr (inr (inr (inr (inr (inl refl))))))))

is_not_long : refusal.WriteFault ≡ refusal.TooLong → ⊥
is_not_long e = cc

pub fault_short : {X : Type 0} (r : Result X Refusal) (F : Type 0) → IfErr r (λ e. e ≡ refusal.WriteFault) → IsErrOf r refusal.TooLong → F
fault_short r F e same = absurd (is_not_long (sym (subst (λ (q : Result _ Refusal). IfErr q (λ f. f ≡ refusal.WriteFault)) same e)))

-- ---- what is told of a refusal is written, or a front of it

some_text : {X E : Type 0} (w : Result X E) (text : List ℕ) (out now : OutputSeen) → OnOk w (Writes text out now) → OnErr w (WritesFront text out now) → WroteText out now
some_text (Ok x) text out now ok err = (text, all_is_front text out now ok)
some_text (Err e) text out now ok err = (text, err)

text_of : (r : Refusal) (front : Type 0) (out now : OutputSeen) → OneOf told_statuses (status_of r) → WroteText out now → OfText r front out now
text_of refusal.BadWords front out now o w = w
text_of refusal.ReadFault front out now o w = w
text_of refusal.TooLong front out now o w = w
text_of refusal.NotJson front out now o w = w
text_of refusal.NotJob front out now o w = w
text_of (refusal.Fault line) front out now o w = w
text_of (refusal.TooMany line) front out now o w = w
text_of refusal.Stopped front out now o w = w
text_of refusal.WriteFault front out now o w = absurd (apart told_statuses 9 refl o)
text_of refusal.Memory front out now o w = w

pub told_text : {X E : Type 0} (r : Refusal) (w : Result X E) (text : List ℕ) (front : Type 0) (out now : OutputSeen) → OneOf told_statuses (status_of r) → OnOk w (Writes text out now) → OnErr w (WritesFront text out now) → OfText r front out now
told_text r w text front out now o ok err = text_of r front out now o (some_text w text out now ok err)

some_front : {X E : Type 0} (w : Result X E) (text : List ℕ) (out now : OutputSeen) → OnOk w (Writes text out now) → OnErr w (WritesFront text out now) → WritesFront text out now
some_front (Ok x) text out now ok err = all_is_front text out now ok
some_front (Err e) text out now ok err = err

wrote_by : (T : List ℕ → List ℕ → Type 0) (text : List ℕ) (told : Option (List ℕ)) (out now : OutputSeen) → IfSome told (T text) → WritesFront text out now → IfSome told (WroteWhy T out now)
wrote_by T text None out now t w = tt
wrote_by T text (Some bytes) out now t w = record { text = text; told = t; wrote = w }

wrote_front : (r : Refusal) (text : List ℕ) (told : Option (List ℕ)) (out now : OutputSeen) → IfSome told (TellsOf r text) → WritesFront text out now → WroteOf r told out now
wrote_front refusal.BadWords text told out now t w = tt
wrote_front refusal.ReadFault text told out now t w = tt
wrote_front refusal.TooLong text told out now t w = tt
wrote_front refusal.NotJson text told out now t w = tt
wrote_front refusal.NotJob text told out now t w = wrote_by TellsPlace text told out now t w
wrote_front (refusal.Fault line) text told out now t w = wrote_by (TellsFaultOf 6) text told out now t w
wrote_front (refusal.TooMany line) text told out now t w = wrote_by (TellsFaultOf 7) text told out now t w
wrote_front refusal.Stopped text told out now t w = tt
wrote_front refusal.WriteFault text told out now t w = tt
wrote_front refusal.Memory text told out now t w = tt

pub wrote_of : {X E : Type 0} (r : Refusal) (w : Result X E) (text shown : List ℕ) (told : Option (List ℕ)) (out now : OutputSeen) → shown ≡ text → IfSome told (TellsOf r text)
    → OnOk w (Writes shown out now) → OnErr w (WritesFront shown out now) → WroteOf r told out now
wrote_of r w text shown told out now same t ok err =
    wrote_front r text told out now t (subst (λ (s : List ℕ). WritesFront s out now) same (some_front w shown out now ok err))

pub fault_wrote : {X : Type 0} (r : Result X Refusal) (told : Option (List ℕ)) (out now : OutputSeen) → IfErr r (λ e. e ≡ refusal.WriteFault) → IfErr r (λ e. WroteOf e told out now)
fault_wrote (Ok x) told out now e = tt
fault_wrote (Err f) told out now e = fault_is (λ (s : Refusal). WroteOf s told out now) f e tt

-- ---- a run that was refused

place_of : (r : Refusal) (told : Option (List ℕ)) (out written : OutputSeen) → WroteOf r told out written → status_of r ≡ 5 → IfSome told (WroteWhy TellsPlace out written)
place_of refusal.BadWords told out written h e = absurd (omega (arith, e))
place_of refusal.ReadFault told out written h e = absurd (omega (arith, e))
place_of refusal.TooLong told out written h e = absurd (omega (arith, e))
place_of refusal.NotJson told out written h e = absurd (omega (arith, e))
place_of refusal.NotJob told out written h e = h
place_of (refusal.Fault line) told out written h e = absurd (omega (arith, e))
place_of (refusal.TooMany line) told out written h e = absurd (omega (arith, e))
place_of refusal.Stopped told out written h e = absurd (omega (arith, e))
place_of refusal.WriteFault told out written h e = absurd (omega (arith, e))
place_of refusal.Memory told out written h e = absurd (omega (arith, e))

fault_of : (r : Refusal) (told : Option (List ℕ)) (out written : OutputSeen) → WroteOf r told out written → OneOf (6 ∷ 7 ∷ []) (status_of r) → IfSome told (WroteWhy (TellsFaultOf (status_of r)) out written)
fault_of refusal.BadWords told out written h f = absurd (apart (6 ∷ 7 ∷ []) 1 refl f)
fault_of refusal.ReadFault told out written h f = absurd (apart (6 ∷ 7 ∷ []) 2 refl f)
fault_of refusal.TooLong told out written h f = absurd (apart (6 ∷ 7 ∷ []) 3 refl f)
fault_of refusal.NotJson told out written h f = absurd (apart (6 ∷ 7 ∷ []) 4 refl f)
fault_of refusal.NotJob told out written h f = absurd (apart (6 ∷ 7 ∷ []) 5 refl f)
fault_of (refusal.Fault line) told out written h f = h
fault_of (refusal.TooMany line) told out written h f = h
fault_of refusal.Stopped told out written h f = absurd (apart (6 ∷ 7 ∷ []) 8 refl f)
fault_of refusal.WriteFault told out written h f = absurd (apart (6 ∷ 7 ∷ []) 9 refl f)
fault_of refusal.Memory told out written h f = absurd (apart (6 ∷ 7 ∷ []) 10 refl f)

settled : (r : Refusal) (told : Option (List ℕ)) (out written : OutputSeen) → OfText r (WroteFrontTold why told out written) out written → (now : OutputSeen) × OfOutput why r told out now
settled refusal.BadWords told out written k = (out, refl)
settled refusal.ReadFault told out written k = (out, refl)
settled refusal.TooLong told out written k = (out, refl)
settled refusal.NotJson told out written k = (out, refl)
settled refusal.NotJob told out written k = (out, refl)
settled (refusal.Fault line) told out written k = (out, refl)
settled (refusal.TooMany line) told out written k = (out, refl)
settled refusal.Stopped told out written k = (out, refl)
settled refusal.WriteFault told out written k = (written, k)
settled refusal.Memory told out written k = (out, refl)

write_failed : (r : Refusal) (front : Type 0) (out written : OutputSeen) → OfText r front out written → status_of r ≡ 9 → WriteFails out written
write_failed refusal.BadWords front out written k e = absurd (omega (arith, e))
write_failed refusal.ReadFault front out written k e = absurd (omega (arith, e))
write_failed refusal.TooLong front out written k e = absurd (omega (arith, e))
write_failed refusal.NotJson front out written k e = absurd (omega (arith, e))
write_failed refusal.NotJob front out written k e = absurd (omega (arith, e))
write_failed (refusal.Fault line) front out written k e = absurd (omega (arith, e))
write_failed (refusal.TooMany line) front out written k e = absurd (omega (arith, e))
write_failed refusal.Stopped front out written k e = absurd (omega (arith, e))
write_failed refusal.WriteFault front out written k e = k.0
write_failed refusal.Memory front out written k e = absurd (omega (arith, e))

front_written : (r : Refusal) (front : Type 0) (out written : OutputSeen) → OfText r front out written → status_of r ≡ 9 → front
front_written refusal.BadWords front out written k e = absurd (omega (arith, e))
front_written refusal.ReadFault front out written k e = absurd (omega (arith, e))
front_written refusal.TooLong front out written k e = absurd (omega (arith, e))
front_written refusal.NotJson front out written k e = absurd (omega (arith, e))
front_written refusal.NotJob front out written k e = absurd (omega (arith, e))
front_written (refusal.Fault line) front out written k e = absurd (omega (arith, e))
front_written (refusal.TooMany line) front out written k e = absurd (omega (arith, e))
front_written refusal.Stopped front out written k e = absurd (omega (arith, e))
front_written refusal.WriteFault front out written k e = k.1
front_written refusal.Memory front out written k e = absurd (omega (arith, e))

some_written : (r : Refusal) (front : Type 0) (out written : OutputSeen) → OfText r front out written → (status_of r ≡ 9 → ⊥) → WroteText out written
some_written refusal.BadWords front out written k n = k
some_written refusal.ReadFault front out written k n = k
some_written refusal.TooLong front out written k n = k
some_written refusal.NotJson front out written k n = k
some_written refusal.NotJob front out written k n = k
some_written (refusal.Fault line) front out written k n = k
some_written (refusal.TooMany line) front out written k n = k
some_written refusal.Stopped front out written k n = k
some_written refusal.WriteFault front out written k n = absurd (n refl)
some_written refusal.Memory front out written k n = k

told_why : (r : Refusal) (told : Option (List ℕ)) (notes noted : OutputSeen) → OfInput why r told → Noted (line_of r) notes noted → OneOf (6 ∷ 7 ∷ []) (status_of r) → NotedWhy (status_of r) told notes noted
told_why refusal.BadWords told notes noted t h f = absurd (apart (6 ∷ 7 ∷ []) 1 refl f)
told_why refusal.ReadFault told notes noted t h f = absurd (apart (6 ∷ 7 ∷ []) 2 refl f)
told_why refusal.TooLong told notes noted t h f = absurd (apart (6 ∷ 7 ∷ []) 3 refl f)
told_why refusal.NotJson told notes noted t h f = absurd (apart (6 ∷ 7 ∷ []) 4 refl f)
told_why refusal.NotJob told notes noted t h f = absurd (apart (6 ∷ 7 ∷ []) 5 refl f)
told_why (refusal.Fault line) told notes noted t h f = record { line = line; tells = follows told (Short (Told why 6 line)) (Told why 6 line) (λ b p. p.holds) t; wrote = h }
told_why (refusal.TooMany line) told notes noted t h f = record { line = line; tells = follows told (Short (Told why 7 line)) (Told why 7 line) (λ b p. p.holds) t; wrote = h }
told_why refusal.Stopped told notes noted t h f = absurd (apart (6 ∷ 7 ∷ []) 8 refl f)
told_why refusal.WriteFault told notes noted t h f = absurd (apart (6 ∷ 7 ∷ []) 9 refl f)
told_why refusal.Memory told notes noted t h f = absurd (apart (6 ∷ 7 ∷ []) 10 refl f)

none_of : (r : Refusal) (n : ℕ) → OneOf why.statuses (status_of r) → status_of r ≡ n → OneOf why.statuses n
none_of r n o e = subst (λ (m : ℕ). OneOf why.statuses m) e o

not_wide : (bytes : List ℕ) → TooWide why bytes → RefusedAs 7 why bytes
not_wide bytes (inl h) = h
not_wide bytes (inr w) = absurd w.many

no_stop : (n : ℕ) → OneOf why.statuses n → OneOf (0 ∷ 2 ∷ 8 ∷ 9 ∷ 10 ∷ []) n → OneOf (0 ∷ 2 ∷ 9 ∷ 10 ∷ []) n
no_stop n o (inl e) = inl e
no_stop n o (inr (inl e)) = inr (inl e)
no_stop n o (inr (inr (inl e))) = absurd (apart why.statuses 8 refl (subst (λ (m : ℕ). OneOf why.statuses m) e o))
no_stop n o (inr (inr (inr (inl e)))) = inr (inr (inl e))
no_stop n o (inr (inr (inr (inr (inl e))))) = inr (inr (inr (inl e)))
no_stop n o (inr (inr (inr (inr (inr h))))) = absurd h

pub why_refused : (name : Option (List ℕ)) (r : Refusal) (input now : InputSeen) (out written notes noted : OutputSeen) → OneOf why.statuses (status_of r) → (status_of r ≡ 0 → ⊥) → OfReading r (bytes_at (standard_or name) input) input now
    → (status_of r ≡ 3 → IsTakenInPart (standard_or name) input now) → OfInput why r (bytes_at (standard_or name) input) → OfText r (WroteFrontTold why (bytes_at (standard_or name) input) out written) out written → Noted (line_of r) notes noted
    → WroteOf r (bytes_at (standard_or name) input) out written → WhyEnds name (status_of r) input now out written notes noted
why_refused name r input now out written notes noted o z d m t k n x =
    let told : Option (List ℕ) = bytes_at (standard_or name) input in
    let front : Type 0 = WroteFrontTold why told out written in
    let past = settled r told out written k in
    let w : r ≡ refusal.BadWords → ⊥ = λ e. apart why.statuses 1 refl (subst (λ (s : Refusal). OneOf why.statuses (status_of s)) e o) in
    record {
      read = λ e. absurd (z e);
      wrote = λ e. absurd (z e);
      read_fault = read_failed r told input now d;
      too_long = was_long r told input now d;
      most = m;
      not_json = says_nothing_by (Some (Why name)) r input t;
      not_job = says_none_by (Some (Why name)) r input t;
      refused = says_fault_by (Some (Why name)) r input t;
      too_many = λ e. follows told (TooWide why) (RefusedAs 7 why) not_wide (says_many_by (Some (Why name)) r input t e);
      write_fault = write_failed r front out written k;
      only = o;
      if_long = λ h. long_status why (lawful (Why name)) r told out past.0 w t past.1 h;
      if_no_job = λ h. none_status why (lawful (Why name)) r told out past.0 w t past.1 h;
      if_fault = λ h. refused_status why (lawful (Why name)) 6 r told out past.0 w t past.1 h;
      if_many = λ h. refused_status why (lawful (Why name)) 7 r told out past.0 w t past.1 h;
      complete = λ h. no_stop (status_of r) o (good_status why (lawful (Why name)) r told input now w d t h);
      text = λ n f. some_written r front out written k f;
      place = place_of r told out written x;
      fault = fault_of r told out written x;
      front = front_written r front out written k;
      fixed = noted_fixed r notes noted n;
      told = told_why r told notes noted t n;
      quiet = λ e. absurd (z e);
    }

pub no_zero : (r : Refusal) → status_of r ≡ 0 → ⊥
no_zero refusal.BadWords e = omega (arith, e)
no_zero refusal.ReadFault e = omega (arith, e)
no_zero refusal.TooLong e = omega (arith, e)
no_zero refusal.NotJson e = omega (arith, e)
no_zero refusal.NotJob e = omega (arith, e)
no_zero (refusal.Fault line) e = omega (arith, e)
no_zero (refusal.TooMany line) e = omega (arith, e)
no_zero refusal.Stopped e = omega (arith, e)
no_zero refusal.WriteFault e = omega (arith, e)
no_zero refusal.Memory e = omega (arith, e)

-- ---- a run that was answered

pub why_written : (name : Option (List ℕ)) (input now : InputSeen) (out written notes : OutputSeen) → WasRead (standard_or name) input now → WroteTold why (bytes_at (standard_or name) input) out written → WhyEnds name 0 input now out written notes notes
why_written name input now out written notes whole wrote = record {
  read = λ e. whole;
  wrote = λ e. wrote;
  read_fault = λ e. absurd (omega (arith, e));
  too_long = λ e. absurd (omega (arith, e));
  most = λ e. absurd (omega (arith, e));
  not_json = λ e. absurd (omega (arith, e));
  not_job = λ e. absurd (omega (arith, e));
  refused = λ e. absurd (omega (arith, e));
  too_many = λ e. absurd (omega (arith, e));
  write_fault = λ e. absurd (omega (arith, e));
  only = inl refl;
  if_long = λ h. absurd (long_ran_by (Some (Why name)) input now whole h);
  if_no_job = λ h. absurd (none_ran_by (Some (Why name)) input out written wrote h);
  if_fault = λ h. absurd (refused_ran_by 6 (Some (Why name)) input out written wrote h);
  if_many = λ h. absurd (refused_ran_by 7 (Some (Why name)) input out written wrote h);
  complete = λ h. inl refl;
  text = λ n f. absurd (n refl);
  place = λ e. absurd (omega (arith, e));
  fault = λ f. absurd (apart (6 ∷ 7 ∷ []) 0 refl f);
  front = λ e. absurd (omega (arith, e));
  fixed = λ f. absurd (apart (1 ∷ 2 ∷ 3 ∷ 4 ∷ 5 ∷ 8 ∷ 9 ∷ 10 ∷ []) 0 refl f);
  told = λ f. absurd (apart (6 ∷ 7 ∷ []) 0 refl f);
  quiet = λ e. refl;
}

-- ---- words that ask why ask for no other command

not_word : (word : List ℕ) → bytes_eq word (codes "why") ≡ true → word_request word ≡ None
not_word word e = subst (λ (w : List ℕ). word_request w ≡ None) (sym ((bytes_eq-Decides word (codes "why")).0 e)) refl

not_named : (word name : List ℕ) → bytes_eq word (codes "why") ≡ true → named_request word name ≡ None
not_named word name e = subst (λ (w : List ℕ). named_request w name ≡ None) (sym ((bytes_eq-Decides word (codes "why")).0 e)) refl

pub no_request : (words : List (List ℕ)) → asks_why words ≡ true → request words ≡ None
no_request [] e = cc
no_request (word ∷ []) e = not_word word e
no_request (word ∷ name ∷ []) e = not_named word name e
no_request (word ∷ name ∷ more ∷ words) e = cc

none_runs : is_run None ≡ true → ⊥
none_runs e = cc

pub why_not_run : (words : List (List ℕ)) → asks_why words ≡ true → asks_run words ≡ true → ⊥
why_not_run words e h = none_runs (subst (λ (o : Option Request). is_run o ≡ true) (no_request words e) h)

pub why_reads : (words : List (List ℕ)) → asks_why words ≡ true → AsksNoInput words → ⊥
why_reads words e h = subst (λ (o : Option Request). is_asked o (λ a. source_of a ≡ Nowhere)) (no_request words e) h

-- a run of `why` isn't stopped, and its words are known
pub never_stopped : (r : Refusal) → OneOf why.statuses (status_of r) → status_of r ≡ 8 → ⊥
never_stopped r o e = apart why.statuses 8 refl (none_of r 8 o e)

pub never_unknown : (r : Refusal) → OneOf why.statuses (status_of r) → status_of r ≡ 1 → ⊥
never_unknown r o e = apart why.statuses 1 refl (none_of r 1 o e)

pub never_yes : (r : Refusal) → OneOf why.statuses (status_of r) → yes_of (status_of r) ≡ 0
never_yes refusal.BadWords o = refl
never_yes refusal.ReadFault o = refl
never_yes refusal.TooLong o = refl
never_yes refusal.NotJson o = refl
never_yes refusal.NotJob o = refl
never_yes (refusal.Fault line) o = refl
never_yes (refusal.TooMany line) o = refl
never_yes refusal.Stopped o = absurd (apart why.statuses 8 refl o)
never_yes refusal.WriteFault o = refl
never_yes refusal.Memory o = refl

pub no_yes : (n y y2 : ℕ) → yes_of n ≡ 0 → y2 ≡ y → Counts (yes_of n) y y2
no_yes n y y2 e s = subst (λ (k : ℕ). Counts k y y2) (sym e) (subst (λ (k : ℕ). Counts 0 y k) (sym s) (counts_none y))
