-- What contracts say, whatever the command: which refusals come, what is told of the input, and how often the stop check
-- says yes.
use Rattle.std.proofs.Common.{◌≡◌, ◌≤◌, ◌==◌, ℕ, Bool, true, false, List, [], ◌∷◌, length, Option, Some, None, Result, Ok, Err, if◌then◌else◌, inl, inr, refl, sym, ap, subst, ◌∙◌, arith}
use Rattle.std.specs.Prelude.{IfErr, IfSome, IsSomeAnd}
use Rattle.std.specs.Result.{IsErrAnd}
use Rattle.std.proofs.lemmas.Bool.{eqb-true, eq-eqb}
use Rattle.pipe_exec.specs.Evaluated.{stop_of}
use Rattle.pipe_cli.specs.FaultLine.{fault_status}
use Rattle.pipe_schema.specs.Counts.{Counts}
use Rattle.pipe_stream.specs.Outside.{InputSeen, OutputSeen, WriteFails, Writes, WritesFront}
use Rattle.pipe_plan.specs.declared.error.PipeError.{PipeError}
use Rattle.pipe_plan.specs.declared.error.PipeError.TheVariants as error
use Rattle.pipe_cli.specs.Contract.{Answered, Because, Causes, Contract, Kind, NoInput, Nothing, OfInput, Short, Sound, Told, Unread}
use Rattle.pipe_cli.specs.Outcome.{OfOutput, WroteFrontOn, WroteFrontTold, WroteOn, WroteTold}
use Rattle.pipe_cli.specs.Refused.{OfReading, OfWriting, Tells}
use Rattle.pipe_cli.specs.Sources.{HasAll, limit}
use Rattle.pipe_cli.specs.Status.{OneOf, status_of, yes_in, yes_of}
use Rattle.pipe_cli.specs.declared.status.Refusal.{Refusal}
use Rattle.pipe_cli.specs.declared.status.Refusal.TheVariants as refusal

-- ---- lists of statuses

abbrev pub in_list : ℕ → List ℕ → Bool
in_list x [] = false
in_list x (y ∷ ys) = if x == y then true else in_list x ys

abbrev all_in : List ℕ → List ℕ → Bool
all_in [] ys = true
all_in (x ∷ xs) ys = if in_list x ys then all_in xs ys else false

found_by : (b : Bool) (x y : ℕ) (ys : List ℕ) → (b ≡ true → x ≡ y) → (in_list x ys ≡ true → OneOf ys x) → (if b then true else in_list x ys) ≡ true → OneOf (y ∷ ys) x
found_by true x y ys same rest e = inl (same refl)
found_by false x y ys same rest e = inr (rest e)

pub found : (x : ℕ) (ys : List ℕ) → in_list x ys ≡ true → OneOf ys x
found x [] e = cc
found x (y ∷ ys) e = found_by (x == y) x y ys (λ s. eqb-true x y s) (λ s. found x ys s) e

first_of : (a b : Bool) → (if a then b else false) ≡ true → a ≡ true
first_of true b e = refl
first_of false b e = cc

second_of : (a b : Bool) → (if a then b else false) ≡ true → b ≡ true
second_of true b e = e
second_of false b e = cc

-- a number of one list is one of another, where all of them are
pub among : (xs ys : List ℕ) → all_in xs ys ≡ true → (n : ℕ) → OneOf xs n → OneOf ys n
among [] ys e n h = absurd h
among (x ∷ xs) ys e n (inl s) = subst (λ (k : ℕ). OneOf ys k) (sym s) (found x ys (first_of (in_list x ys) (all_in xs ys) e))
among (x ∷ xs) ys e n (inr h) = among xs ys (second_of (in_list x ys) (all_in xs ys) e) n h

not_by : (b : Bool) (rest : Bool) → b ≡ true → (if b then true else rest) ≡ false → ⊥
not_by true rest s e = cc
not_by false rest s e = cc

rest_of : (b : Bool) (rest : Bool) → (if b then true else rest) ≡ false → rest ≡ false
rest_of true rest e = cc
rest_of false rest e = e

-- a number that isn't in a list
pub apart : (xs : List ℕ) (n : ℕ) → in_list n xs ≡ false → OneOf xs n → ⊥
apart [] n e h = h
apart (x ∷ xs) n e (inl s) = not_by (n == x) (in_list n xs) (eq-eqb n x s) e
apart (x ∷ xs) n e (inr h) = apart xs n (rest_of (n == x) (in_list n xs) e) h

-- ---- what is said of an input is said of its bytes

pub because_told : (c : Contract) (r : Refusal) (bytes : List ℕ) (input : c.kind.Input) → c.kind.Reads bytes input → Because c r input → Causes c r bytes
because_told c refusal.BadWords bytes input read b = absurd b
because_told c refusal.ReadFault bytes input read b = absurd b
because_told c refusal.TooLong bytes input read b = absurd b
because_told c refusal.NotJson bytes input read b = absurd b
because_told c refusal.NotJob bytes input read b = absurd b
because_told c (refusal.Fault line) bytes input read b = record { input = input; read = read; told = b }
because_told c (refusal.TooMany line) bytes input read b = record { input = input; read = read; told = b }
because_told c refusal.Stopped bytes input read b = record { input = input; read = read; sound = b }
because_told c refusal.WriteFault bytes input read b = absurd b
because_told c refusal.Memory bytes input read b = tt

pub unread_told : (c : Contract) (r : Refusal) (bytes : List ℕ) → Unread c.kind r bytes → Causes c r bytes
unread_told c refusal.BadWords bytes u = absurd u
unread_told c refusal.ReadFault bytes u = absurd u
unread_told c refusal.TooLong bytes u = absurd u
unread_told c refusal.NotJson bytes u = u
unread_told c refusal.NotJob bytes u = u
unread_told c (refusal.Fault line) bytes u = absurd u
unread_told c (refusal.TooMany line) bytes u = absurd u
unread_told c refusal.Stopped bytes u = absurd u
unread_told c refusal.WriteFault bytes u = absurd u
unread_told c refusal.Memory bytes u = tt

-- what the rule says where the refusal is passed on
pub because_passed : {T : Type 0} (c : Contract) (r : Result T Refusal) (e : Refusal) (bytes : List ℕ) (input : c.kind.Input) → c.kind.Reads bytes input → Because c e input → IsErrAnd r (λ f. f ≡ e) → IfErr r (λ f. Causes c f bytes)
because_passed c (Ok x) e bytes input read b k = absurd k
because_passed c (Err f) e bytes input read b k = rw k (because_told c e bytes input read b)

pub unread_passed : {T : Type 0} (c : Contract) (r : Result T Refusal) (e : Refusal) (bytes : List ℕ) → Unread c.kind e bytes → IsErrAnd r (λ f. f ≡ e) → IfErr r (λ f. Causes c f bytes)
unread_passed c (Ok x) e bytes u k = absurd k
unread_passed c (Err f) e bytes u k = rw k (unread_told c e bytes u)

-- which refusals come
pub caused_only : (c : Contract) (r : Refusal) (bytes : List ℕ) → Causes c r bytes → OneOf (4 ∷ 5 ∷ 6 ∷ 7 ∷ 8 ∷ 10 ∷ []) (status_of r)
caused_only c refusal.BadWords bytes h = absurd h
caused_only c refusal.ReadFault bytes h = absurd h
caused_only c refusal.TooLong bytes h = absurd h
caused_only c refusal.NotJson bytes h = inl refl
caused_only c refusal.NotJob bytes h = inr (inl refl)
caused_only c (refusal.Fault line) bytes h = inr (inr (inl refl))
caused_only c (refusal.TooMany line) bytes h = inr (inr (inr (inl refl)))
caused_only c refusal.Stopped bytes h = inr (inr (inr (inr (inl refl))))
caused_only c refusal.WriteFault bytes h = absurd h
caused_only c refusal.Memory bytes h = inr (inr (inr (inr (inr (inl refl)))))

pub unread_only : (k : Kind) (r : Refusal) (bytes : List ℕ) → Unread k r bytes → OneOf (4 ∷ 5 ∷ 10 ∷ []) (status_of r)
unread_only k refusal.BadWords bytes h = absurd h
unread_only k refusal.ReadFault bytes h = absurd h
unread_only k refusal.TooLong bytes h = absurd h
unread_only k refusal.NotJson bytes h = inl refl
unread_only k refusal.NotJob bytes h = inr (inl refl)
unread_only k (refusal.Fault line) bytes h = absurd h
unread_only k (refusal.TooMany line) bytes h = absurd h
unread_only k refusal.Stopped bytes h = absurd h
unread_only k refusal.WriteFault bytes h = absurd h
unread_only k refusal.Memory bytes h = inr (inr (inl refl))

-- ---- a refusal of reading

pub early_input : (c : Contract) (r : Refusal) (told : Option (List ℕ)) → OneOf (2 ∷ 3 ∷ 10 ∷ []) (status_of r) → OfInput c r told
early_input c refusal.BadWords told e = tt
early_input c refusal.ReadFault told e = tt
early_input c refusal.TooLong told e = tt
early_input c refusal.NotJson told e = absurd (apart (2 ∷ 3 ∷ 10 ∷ []) 4 refl e)
early_input c refusal.NotJob told e = absurd (apart (2 ∷ 3 ∷ 10 ∷ []) 5 refl e)
early_input c (refusal.Fault line) told e = absurd (apart (2 ∷ 3 ∷ 10 ∷ []) 6 refl e)
early_input c (refusal.TooMany line) told e = absurd (apart (2 ∷ 3 ∷ 10 ∷ []) 7 refl e)
early_input c refusal.Stopped told e = absurd (apart (2 ∷ 3 ∷ 10 ∷ []) 8 refl e)
early_input c refusal.WriteFault told e = tt
early_input c refusal.Memory told e = tt

pub early_unwritten : (r : Refusal) (front : Type 0) (out : OutputSeen) → OneOf (2 ∷ 3 ∷ 10 ∷ []) (status_of r) → OfWriting r front out out
early_unwritten refusal.BadWords front out e = refl
early_unwritten refusal.ReadFault front out e = refl
early_unwritten refusal.TooLong front out e = refl
early_unwritten refusal.NotJson front out e = refl
early_unwritten refusal.NotJob front out e = refl
early_unwritten (refusal.Fault line) front out e = refl
early_unwritten (refusal.TooMany line) front out e = refl
early_unwritten refusal.Stopped front out e = refl
early_unwritten refusal.WriteFault front out e = absurd (apart (2 ∷ 3 ∷ 10 ∷ []) 9 refl e)
early_unwritten refusal.Memory front out e = refl

pub early_known : (r : Refusal) → OneOf (2 ∷ 3 ∷ 10 ∷ []) (status_of r) → r ≡ refusal.BadWords → ⊥
early_known r e same = apart (2 ∷ 3 ∷ 10 ∷ []) 1 refl (subst (λ (s : Refusal). OneOf (2 ∷ 3 ∷ 10 ∷ []) (status_of s)) same e)

pub early_going : (r : Refusal) → OneOf (2 ∷ 3 ∷ 10 ∷ []) (status_of r) → r ≡ refusal.Stopped → ⊥
early_going r e same = apart (2 ∷ 3 ∷ 10 ∷ []) 8 refl (subst (λ (s : Refusal). OneOf (2 ∷ 3 ∷ 10 ∷ []) (status_of s)) same e)

-- ---- a refusal of the input

pub caused_reading : (c : Contract) (r : Refusal) (bytes : List ℕ) (told : Option (List ℕ)) (input now : InputSeen) → Causes c r bytes → OfReading r told input now
caused_reading c refusal.BadWords bytes told input now h = tt
caused_reading c refusal.ReadFault bytes told input now h = absurd h
caused_reading c refusal.TooLong bytes told input now h = absurd h
caused_reading c refusal.NotJson bytes told input now h = tt
caused_reading c refusal.NotJob bytes told input now h = tt
caused_reading c (refusal.Fault line) bytes told input now h = tt
caused_reading c (refusal.TooMany line) bytes told input now h = tt
caused_reading c refusal.Stopped bytes told input now h = tt
caused_reading c refusal.WriteFault bytes told input now h = tt
caused_reading c refusal.Memory bytes told input now h = tt

pub caused_unwritten : (c : Contract) (r : Refusal) (bytes : List ℕ) (front : Type 0) (out : OutputSeen) → Causes c r bytes → OfWriting r front out out
caused_unwritten c refusal.BadWords bytes front out h = refl
caused_unwritten c refusal.ReadFault bytes front out h = refl
caused_unwritten c refusal.TooLong bytes front out h = refl
caused_unwritten c refusal.NotJson bytes front out h = refl
caused_unwritten c refusal.NotJob bytes front out h = refl
caused_unwritten c (refusal.Fault line) bytes front out h = refl
caused_unwritten c (refusal.TooMany line) bytes front out h = refl
caused_unwritten c refusal.Stopped bytes front out h = refl
caused_unwritten c refusal.WriteFault bytes front out h = absurd h
caused_unwritten c refusal.Memory bytes front out h = refl

pub caused_known : (c : Contract) (r : Refusal) (bytes : List ℕ) → Causes c r bytes → r ≡ refusal.BadWords → ⊥
caused_known c r bytes h same = apart (4 ∷ 5 ∷ 6 ∷ 7 ∷ 8 ∷ 10 ∷ []) 1 refl (subst (λ (s : Refusal). OneOf (4 ∷ 5 ∷ 6 ∷ 7 ∷ 8 ∷ 10 ∷ []) (status_of s)) same (caused_only c r bytes h))

pub caused_short : (c : Contract) (r : Refusal) (bytes : List ℕ) → Causes c r bytes → r ≡ refusal.TooLong → ⊥
caused_short c r bytes h same = apart (4 ∷ 5 ∷ 6 ∷ 7 ∷ 8 ∷ 10 ∷ []) 3 refl (subst (λ (s : Refusal). OneOf (4 ∷ 5 ∷ 6 ∷ 7 ∷ 8 ∷ 10 ∷ []) (status_of s)) same (caused_only c r bytes h))

-- what is said of bytes is said of those that are told
pub short_told : (F : List ℕ → Type 0) (bytes : List ℕ) (told : Option (List ℕ)) → HasAll bytes told → length bytes ≤ limit → F bytes → IfSome told (Short F)
short_told F bytes None all short h = tt
short_told F bytes (Some b) all short h = subst (λ (s : List ℕ). Short F s) all (record { short = short; holds = h })

pub input_told : (c : Contract) (r : Refusal) (bytes : List ℕ) (told : Option (List ℕ)) → HasAll bytes told → length bytes ≤ limit → Causes c r bytes → OfInput c r told
input_told c refusal.BadWords bytes told all short h = tt
input_told c refusal.ReadFault bytes told all short h = tt
input_told c refusal.TooLong bytes told all short h = tt
input_told c refusal.NotJson bytes told all short h = short_told (Nothing c) bytes told all short h
input_told c refusal.NotJob bytes told all short h = short_told (NoInput c) bytes told all short h
input_told c (refusal.Fault line) bytes told all short h = short_told (Told c 6 line) bytes told all short h
input_told c (refusal.TooMany line) bytes told all short h = short_told (Told c 7 line) bytes told all short h
input_told c refusal.Stopped bytes told all short h = short_told (Sound c) bytes told all short h
input_told c refusal.WriteFault bytes told all short h = tt
input_told c refusal.Memory bytes told all short h = tt

-- ---- the answer

pub wrote_told : (c : Contract) (bytes text : List ℕ) (told : Option (List ℕ)) (out now : OutputSeen) → HasAll bytes told → Answered c bytes text → Writes text out now → WroteTold c told out now
wrote_told c bytes text None out now all a w = tt
wrote_told c bytes text (Some b) out now all a w = subst (λ (s : List ℕ). WroteOn c out now s) all (record { text = text; answered = a; wrote = w })

pub front_told : (c : Contract) (bytes text : List ℕ) (told : Option (List ℕ)) (out now : OutputSeen) → HasAll bytes told → length bytes ≤ limit → Answered c bytes text → WritesFront text out now → WroteFrontTold c told out now
front_told c bytes text None out now all short a w = tt
front_told c bytes text (Some b) out now all short a w = subst (λ (s : List ℕ). WroteFrontOn c out now s) all (record { short = short; text = text; answered = a; wrote = w })

pub write_reading : (r : Refusal) (told : Option (List ℕ)) (input now : InputSeen) → r ≡ refusal.WriteFault → OfReading r told input now
write_reading r told input now same = rw same tt

pub write_input : (c : Contract) (r : Refusal) (told : Option (List ℕ)) → r ≡ refusal.WriteFault → OfInput c r told
write_input c r told same = rw same tt

pub write_output : (c : Contract) (r : Refusal) (told : Option (List ℕ)) (out now : OutputSeen) → r ≡ refusal.WriteFault → WriteFails out now → WroteFrontTold c told out now → OfOutput c r told out now
write_output c r told out now same fails front = rw same (fails, front)

-- ---- how often the stop check says yes

stop_by_status : (e : PipeError) → stop_of e ≡ yes_of (fault_status e)
stop_by_status error.BadConfig = refl
stop_by_status (error.BadNode n) = refl
stop_by_status (error.UnknownColumn n name) = refl
stop_by_status (error.DuplicateName n name) = refl
stop_by_status (error.TypeMismatch n) = refl
stop_by_status (error.BadJoin n) = refl
stop_by_status (error.BadSort n) = refl
stop_by_status (error.TooMany n) = refl
stop_by_status error.Stopped = refl
stop_by_status error.Memory = refl

no_stop : (e : PipeError) → (e ≡ error.Stopped → ⊥) → stop_of e ≡ 0
no_stop error.BadConfig h = refl
no_stop (error.BadNode n) h = refl
no_stop (error.UnknownColumn n name) h = refl
no_stop (error.DuplicateName n name) h = refl
no_stop (error.TypeMismatch n) h = refl
no_stop (error.BadJoin n) h = refl
no_stop (error.BadSort n) h = refl
no_stop (error.TooMany n) h = refl
no_stop error.Stopped h = absurd (h refl)
no_stop error.Memory h = refl

stop_told : (r : Refusal) (e : PipeError) → Tells r e → stop_of e ≡ yes_of (status_of r)
stop_told (refusal.Fault line) e t = stop_by_status e ∙ ap yes_of (sym t.0)
stop_told (refusal.TooMany line) e t = stop_by_status e ∙ ap yes_of (sym t.0)
stop_told refusal.Stopped e t = ap stop_of t
stop_told refusal.Memory e t = no_stop e t
stop_told refusal.NotJson e t = absurd t
stop_told refusal.NotJob e t = absurd t
stop_told refusal.BadWords e t = absurd t
stop_told refusal.ReadFault e t = absurd t
stop_told refusal.TooLong e t = absurd t
stop_told refusal.WriteFault e t = absurd t

pub told_yes : (r : Refusal) (e : PipeError) (old new : ℕ) → Tells r e → Counts (stop_of e) old new → Counts (yes_of (status_of r)) old new
told_yes r e old new t c = subst (λ (n : ℕ). Counts n old new) (stop_told r e t) c

pub told_last : (r : Refusal) (e : PipeError) → Tells r e → r ≡ refusal.Stopped → e ≡ error.Stopped
told_last r e t same = subst (λ (s : Refusal). Tells s e) same t

pub counts_none : (n : ℕ) → Counts 0 n n
counts_none n = inl (omega arith)

-- a refusal that is no stop
going_counts : (r : Refusal) (n : ℕ) → (r ≡ refusal.Stopped → ⊥) → Counts (yes_of (status_of r)) n n
going_counts (refusal.Fault line) n h = counts_none n
going_counts (refusal.TooMany line) n h = counts_none n
going_counts refusal.Stopped n h = absurd (h refl)
going_counts refusal.Memory n h = counts_none n
going_counts refusal.NotJson n h = counts_none n
going_counts refusal.NotJob n h = counts_none n
going_counts refusal.BadWords n h = counts_none n
going_counts refusal.ReadFault n h = counts_none n
going_counts refusal.TooLong n h = counts_none n
going_counts refusal.WriteFault n h = counts_none n

pub going_passed : {T : Type 0} (r : Result T Refusal) (e : Refusal) (n : ℕ) → (e ≡ refusal.Stopped → ⊥) → IsErrAnd r (λ f. f ≡ e) → Counts (yes_in r) n n
going_passed (Ok x) e n h k = absurd k
going_passed (Err f) e n h k = rw k (going_counts e n h)

pub yes_passed : {T : Type 0} (r : Result T Refusal) (e : Refusal) (old new : ℕ) → Counts (yes_of (status_of e)) old new → IsErrAnd r (λ f. f ≡ e) → Counts (yes_in r) old new
yes_passed (Ok x) e old new c k = absurd k
yes_passed (Err f) e old new c k = rw k c

-- a refusal with one of these statuses says none
pub unasked_yes : {T : Type 0} (r : Result T Refusal) (ns : List ℕ) (n : ℕ) → in_list 8 ns ≡ false → IfErr r (λ f. OneOf ns (status_of f)) → Counts (yes_in r) n n
unasked_yes (Ok x) ns n e h = counts_none n
unasked_yes (Err f) ns n e h = going_counts f n (λ same. apart ns 8 e (subst (λ (s : Refusal). OneOf ns (status_of s)) same h))

pub early_passed : {T : Type 0} (r : Result T Refusal) (e : Refusal) (n : ℕ) → OneOf (2 ∷ 3 ∷ 10 ∷ []) (status_of e) → IsErrAnd r (λ f. f ≡ e) → Counts (yes_in r) n n
early_passed r e n h k = going_passed r e n (early_going e h) k

-- a text that is told says none
told_none : {T : Type 0} (r : Result T Refusal) → IfErr r (λ f. f ≡ refusal.WriteFault) → yes_in r ≡ 0
told_none (Ok x) h = refl
told_none (Err f) h = rw h refl

pub yes_told : {T : Type 0} (r : Result T Refusal) (old new : ℕ) → IfErr r (λ f. f ≡ refusal.WriteFault) → Counts 0 old new → Counts (yes_in r) old new
yes_told r old new h c = rw (told_none r h) c
