-- The input is read, and a line is written.
use Rattle.std.proofs.Common.{◌≡◌, ◌≤◌, ℕ, List, [], length, Option, Some, None, Result, Ok, Err, inl, inr, refl, subst, arith}
use Rattle.std.proofs.Math.Seq.{take-length}
use Rattle.std.specs.Prelude.{IfSome, OnErr, OnOk}
use Rattle.pipe_schema.specs.Counts.{Rises}
use Rattle.pipe_stream.specs.Outside.{AtEnd, CountedAbove, HasRead, InputSeen, OutputSeen, WriteFails, Writes, WritesFront}
use Rattle.pipe_stream.specs.Whole.{IsAll, ReadAtMost}
use Rattle.pipe_cli.specs.Outcome.{Noted}
use Rattle.pipe_cli.specs.Refused.{OfReading}
use Rattle.pipe_cli.specs.Sources.{HasAll, IsTakenInPart, IsTooMany, IsWhole, Opened, Source, Nowhere, Standard, Named, TookFew, WasRead, bytes_at, limit, most_taken, standard_or}
use Rattle.pipe_cli.specs.declared.status.Refusal.{Refusal}
use Rattle.pipe_cli.specs.declared.status.Refusal.TheVariants as refusal

pub all_is_front : (text : List ℕ) (first now : OutputSeen) → Writes text first now → WritesFront text first now
all_is_front text first now h = (length text, rw (take-length text) h)

-- a line that was handed to a writer is noted
pub noted : {E : Type 0} (line text : List ℕ) (first now : OutputSeen) (answer : Result (Unit {0}) E) → text ≡ line → OnOk answer (Writes text first now) → OnErr answer (WritesFront text first now) → OnErr answer (WriteFails first now) → Noted line first now
noted line text first now (Ok _) e ok err cause =
    let P : List ℕ → Type 0 = λ s. Writes s first now in
    let h : Writes line first now = subst P e ok in
    record { front = all_is_front line first now h; whole = inl h }
noted line text first now (Err _) e ok err cause =
    let P : List ℕ → Type 0 = λ s. WritesFront s first now in
    record { front = subst P e err; whole = inr cause }

-- ---- the bytes that are told

-- a text that is all that was left was read to its end
whole_told : (text : List ℕ) (left : Option (List ℕ)) (now : InputSeen) → IfSome left (λ bytes. text ≡ bytes) → IfSome left (λ _. now.left ≡ Some []) → length text ≤ limit → IsWhole left now
whole_told text None now same end short = tt
whole_told text (Some bytes) now same end short = record { end = end; short = subst (λ (s : List ℕ). length s ≤ limit) same short }

pub whole_read : (text : List ℕ) (input now : InputSeen) → IsAll text input → AtEnd input now → length text ≤ limit → IsWhole input.left now
whole_read text input now same end short = whole_told text input.left now same end short

-- ---- what stands under a name: what is left once it was opened is what was told of it

all_opened : (bytes : List ℕ) (told : Option (List ℕ)) (mid : InputSeen) → IfSome told (λ all. mid.left ≡ Some all) → HasAll bytes mid.left → HasAll bytes told
all_opened bytes None mid h k = tt
all_opened bytes (Some all) mid h k =
    let P : Option (List ℕ) → Type 0 = λ o. HasAll bytes o in
    let told : P (Some all) = subst P h k in
    told

pub all_named : (bytes : List ℕ) (name : Option (List ℕ)) (input mid : InputSeen) → Opened (standard_or name) input mid → HasAll bytes mid.left → HasAll bytes (bytes_at (standard_or name) input)
all_named bytes name input mid h k = all_opened bytes (bytes_at (standard_or name) input) mid h k

whole_opened : (told : Option (List ℕ)) (mid now : InputSeen) → IfSome told (λ all. mid.left ≡ Some all) → IsWhole mid.left now → IsWhole told now
whole_opened None mid now h k = tt
whole_opened (Some all) mid now h k =
    let P : Option (List ℕ) → Type 0 = λ o. IsWhole o now in
    let told : P (Some all) = subst P h k in
    told

pub whole_named : (name : Option (List ℕ)) (input mid now : InputSeen) → Opened (standard_or name) input mid → IsWhole mid.left now → WasRead (standard_or name) input now
whole_named None input mid now h k = whole_opened input.left mid now h k
whole_named (Some name) input mid now h k = whole_opened (input.named name) mid now h k

long_named : (told : Option (List ℕ)) (mid : InputSeen) → IfSome told (λ all. mid.left ≡ Some all) → IfSome mid.left IsTooMany → IfSome told IsTooMany
long_named None mid h k = tt
long_named (Some all) mid h k =
    let P : Option (List ℕ) → Type 0 = λ o. IfSome o IsTooMany in
    let told : P (Some all) = subst P h k in
    told

rises_from : (a b c : ℕ) → a ≤ b → Rises b c → Rises a c
rises_from a b c h (inl k) = inl (omega arith)
rises_from a b c h (inr k) = inr k

above_from : (n : ℕ) (input mid now : InputSeen) → input.taken ≤ mid.taken → CountedAbove n mid now → CountedAbove n input now
above_from n input mid now h (inl k) = inl (omega arith)
above_from n input mid now h (inr k) = inr k

reading_opened : (r : Refusal) (told : Option (List ℕ)) (input mid now : InputSeen) → IfSome told (λ all. mid.left ≡ Some all) → input.taken ≤ mid.taken → input.faults ≤ mid.faults → OfReading r mid.left mid now → OfReading r told input now
reading_opened refusal.ReadFault told input mid now h taken faults k = rises_from input.faults mid.faults now.faults faults k
reading_opened refusal.TooLong told input mid now h taken faults k = record { many = long_named told mid h k.many; counted = above_from limit input mid now taken k.counted }
reading_opened refusal.BadWords told input mid now h taken faults k = tt
reading_opened refusal.NotJson told input mid now h taken faults k = tt
reading_opened refusal.NotJob told input mid now h taken faults k = tt
reading_opened (refusal.Fault line) told input mid now h taken faults k = tt
reading_opened (refusal.TooMany line) told input mid now h taken faults k = tt
reading_opened refusal.Stopped told input mid now h taken faults k = tt
reading_opened refusal.WriteFault told input mid now h taken faults k = tt
reading_opened refusal.Memory told input mid now h taken faults k = tt

pub reading_named : (r : Refusal) (name : Option (List ℕ)) (input mid now : InputSeen) → Opened (standard_or name) input mid → input.taken ≤ mid.taken → input.faults ≤ mid.faults → OfReading r mid.left mid now → OfReading r (bytes_at (standard_or name) input) input now
reading_named r name input mid now h taken faults k = reading_opened r (bytes_at (standard_or name) input) input mid now h taken faults k

few_opened : (told : Option (List ℕ)) (mid now : InputSeen) (taken : List ℕ) → length taken ≤ most_taken → IfSome told (λ all. mid.left ≡ Some all) → HasRead taken mid.left now.left → IfSome told (TookFew now)
few_opened None mid now taken few h k = tt
few_opened (Some all) mid now taken few h k =
    let P : Option (List ℕ) → Type 0 = λ o. HasRead taken o now.left in
    let read : P (Some all) = subst P h k in
    record { taken = taken; few = few; rest = read }

few_from : (input mid now : InputSeen) → mid ≡ input → IsTakenInPart Standard mid now → IsTakenInPart Standard input now
few_from input mid now e h = subst (λ (i : InputSeen). IsTakenInPart Standard i now) e h

pub few_named : (name : Option (List ℕ)) (input mid now : InputSeen) → (name ≡ None → mid ≡ input) → Opened (standard_or name) input mid → IsTakenInPart Standard mid now → IsTakenInPart (standard_or name) input now
few_named None input mid now same h k = few_from input mid now (same refl) k
few_named (Some name) input mid now same h k = few_opened (input.named name) mid now k.taken k.few h k.read.reads
