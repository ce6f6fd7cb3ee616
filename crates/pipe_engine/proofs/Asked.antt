-- What a stop check was asked, call after call.
use Rattle.std.proofs.Common.{◌≡◌, ℕ, ◌+◌, ◌≤◌, inl, inr, Option, Some, None, Bool, true, false, if◌then◌else◌, refl, ap, sym, ◌∙◌, subst, arith}
use Rattle.std.specs.Prelude.{Result, Ok, Err, IsErrAnd, OnOk}
use Rattle.pipe_schema.specs.Counts.{last_count, counted, Counts, Rises}
use Rattle.pipe_schema.specs.declared.stop.StopCheck.{Ghosts as StopWords}
use Rattle.pipe_run.specs.Halts.{stop_of as halt_stops}
use Rattle.pipe_run.specs.declared.halt.Halt.{Halt}
use Rattle.pipe_run.specs.declared.halt.Halt.TheVariants.{Stopped, Refused}
use Rattle.pipe_run.specs.declared.stage.LaneFault.{LaneFault}
use Rattle.pipe_run.specs.declared.stage.LaneFault.TheVariants.{TooMany, Memory}
use Rattle.pipe_driver.specs.declared.error.RunError.{RunError}
use Rattle.pipe_driver.specs.declared.error.RunError.TheVariants as error
use Rattle.pipe_engine.specs.Asked.{WasAsked, RisesBy, stop_of, stops, error_of, refusal_of}

-- ---- counts

counts-none : (a : ℕ) → Counts 0 a a
counts-none a = inl (omega arith)

counts-then : (k a b c : ℕ) → Counts 0 a b → Counts k b c → Counts k a c
counts-then k a b c first second = elim first [
  | inl p ↦ elim second [ inl q ↦ inl (omega (arith, p, q)) | inr q ↦ inr q ]
  | inr p ↦ elim second [ inl q ↦ inr (omega (arith, p, q)) | inr q ↦ inr q ]
]

counts-pick : (t : Bool) (k a b : ℕ) → b ≡ (if t then last_count else (a + k)) → Counts k a b
counts-pick true k a b e = inr (omega (arith, e))
counts-pick false k a b e = inl (omega (arith, e))

pub counts-one : (k a b : ℕ) → b ≡ counted k a → Counts k a b
counts-one k a b e = counts-pick _ k a b e

rises-none : (a : ℕ) → RisesBy 0 a a
rises-none a = inl (omega arith)

-- as often as it was counted, or less often
rises-counts : (n m a b : ℕ) → m ≤ n → Counts n a b → RisesBy m a b
rises-counts n m a b less h = elim h [ inl p ↦ inl (omega (arith, p, less)) | inr q ↦ inr q ]

rises-less : (n m a b : ℕ) → m ≤ n → RisesBy n a b → RisesBy m a b
rises-less n m a b less h = elim h [ inl p ↦ inl (omega (arith, p, less)) | inr q ↦ inr q ]

rises-then : (n m k a b c : ℕ) → k ≤ n + m → RisesBy n a b → RisesBy m b c → RisesBy k a c
rises-then n m k a b c sum first second = elim first [
  | inl p ↦ elim second [ inl q ↦ inl (omega (arith, p, q, sum)) | inr q ↦ inr q ]
  | inr p ↦ elim second [ inl q ↦ inr (omega (arith, p, q)) | inr q ↦ inr q ]
]

rises-once : (a b : ℕ) → RisesBy 1 a b → Rises a b
rises-once a b h = elim h [ inl p ↦ inl (omega (arith, p)) | inr q ↦ inr q ]

rises-by : (a b : ℕ) → Rises a b → RisesBy 1 a b
rises-by a b h = elim h [ inl p ↦ inl (omega (arith, p)) | inr q ↦ inr q ]

-- ---- calls

-- 1 where an answer is there
abbrev pub answers : {A : Type 0} → Option A → ℕ
answers None = 0
answers (Some x) = 1

answers_few : {A : Type 0} (answer : Option A) → answers answer ≤ 1
answers_few None = omega arith
answers_few (Some x) = omega arith

not-stopped : (e : RunError) → stop_of e ≡ 0 → e ≡ error.Stopped → ⊥
not-stopped e calm is = (let clash : stop_of error.Stopped ≡ 0 = subst (λ x. stop_of x ≡ 0) is calm in omega (arith, clash))

abbrev err : (T : Type 0) → RunError → Result T RunError
err T e = Err e

same-error : (S T : Type 0) (e : RunError) → err T e ≡ err T error.Stopped → err S e ≡ err S error.Stopped
same-error S T e h = (let is : e ≡ error.Stopped = cc in ap (err S) is)

was_stopped : (e f : RunError) → stop_of f ≡ stop_of e → f ≡ error.Stopped → e ≡ error.Stopped
was_stopped error.Stopped f same is = refl
was_stopped error.Memory f same is = absurd (let z : stop_of f ≡ 1 = ap stop_of is in omega arith)
was_stopped (error.TooMany n) f same is = absurd (let z : stop_of f ≡ 1 = ap stop_of is in omega arith)

module _ {C : Type 0} (check : StopWords C) where
  -- nothing was asked
  pub asked-ok : {T : Type 0} (c : C) (value : T) → WasAsked check 0 c c (Ok value)
  asked-ok c value = record { asked = rises-none (check.asked c); yes = counts-none (check.yes c); last = λ e. (let clash : ⊥ = cc in absurd clash) }

  pub asked-calm : {T : Type 0} (n : ℕ) (c : C) (e : RunError) → stop_of e ≡ 0 → WasAsked {T = T} check n c c (Err e)
  asked-calm n c e calm = record {
    asked = tt;
    yes = subst (λ k. Counts k (check.yes c) (check.yes c)) (sym calm) (counts-none (check.yes c));
    last = λ h. absurd (not-stopped e calm (let is : e ≡ error.Stopped = cc in is));
  }

  pub asked-memory : {T : Type 0} (c : C) → WasAsked {T = T} check 0 c c (Err error.Memory)
  asked-memory c = asked-calm 0 c error.Memory refl

  -- one call after another
  pub asked-then : {S T : Type 0} (n m k : ℕ) (a b c : C) (value : S) (r : Result T RunError) → k ≤ n + m → WasAsked check n a b (Ok value) → WasAsked check m b c r → WasAsked check k a c r
  asked-then n m k a b c value (Ok made) sum first second = record {
    asked = rises-then n m k _ _ _ sum first.asked second.asked;
    yes = counts-then 0 _ _ _ first.yes second.yes;
    last = second.last;
  }
  asked-then n m k a b c value (Err e) sum first second = record {
    asked = tt;
    yes = counts-then (stop_of e) _ _ _ first.yes second.yes;
    last = second.last;
  }

  -- what was made of a value, with fewer questions told
  pub asked-made : {S T : Type 0} (n m : ℕ) (a b : C) (value : S) (made : T) → m ≤ n → WasAsked check n a b (Ok value) → WasAsked check m a b (Ok made)
  asked-made n m a b value made less h = record { asked = rises-less n m _ _ less h.asked; yes = h.yes; last = λ e. (let clash : ⊥ = cc in absurd clash) }

  -- an error without a question behind a call
  pub asked-lost : {S T : Type 0} (n m : ℕ) (a b : C) (value : S) (e : RunError) → stop_of e ≡ 0 → WasAsked check n a b (Ok value) → WasAsked {T = T} check m a b (Err e)
  asked-lost n m a b value e calm h = record {
    asked = tt;
    yes = subst (λ k. Counts k (check.yes a) (check.yes b)) (sym calm) h.yes;
    last = λ q. absurd (not-stopped e calm (let is : e ≡ error.Stopped = cc in is));
  }

  -- an error that is passed on
  passed : {S T : Type 0} (n m : ℕ) (a b : C) (e : RunError) → WasAsked {T = S} check n a b (Err e) → WasAsked {T = T} check m a b (Err e)
  passed {S = S} {T = T} n m a b e h = record { asked = tt; yes = h.yes; last = λ q. h.last (same-error S T e q) }

  pub asked_passed : {S T : Type 0} (n m : ℕ) (a b : C) (e : RunError) (r : Result T RunError) → IsErrAnd r (λ f. f ≡ e) → WasAsked {T = S} check n a b (Err e) → WasAsked check m a b r
  asked_passed n m a b e (Ok value) k h = absurd k
  asked_passed {S = S} n m a b e (Err f) k h = passed n m a b f (subst (λ x. WasAsked check n a b (err S x)) (sym k) h)

  -- an error in whose place another is told, which is a stop where it was one
  pub asked_told : {S T : Type 0} (n m : ℕ) (a b : C) (e f : RunError) → stop_of f ≡ stop_of e → WasAsked {T = S} check n a b (Err e) → WasAsked {T = T} check m a b (Err f)
  asked_told {S = S} n m a b e f calm h = record {
    asked = tt;
    yes = subst (λ k. Counts k (check.yes a) (check.yes b)) (sym calm) h.yes;
    last = λ q. h.last (ap (λ z. err S z) (was_stopped e f calm (let is : f ≡ error.Stopped = cc in is)));
  }

  -- an error that is passed on behind a call
  pub asked_passed_then : {S T V : Type 0} (n m k : ℕ) (a b c : C) (value : V) (e : RunError) (r : Result T RunError) → IsErrAnd r (λ f. f ≡ e) → WasAsked check n a b (Ok value) → WasAsked {T = S} check m b c (Err e) → WasAsked check k a c r
  asked_passed_then n m k a b c value e (Ok made) is first second = absurd is
  asked_passed_then {S = S} n m k a b c value e (Err f) is first second =
      let last = passed m k b c f (subst (λ x. WasAsked check m b c (err S x)) (sym is) second) in
      record { asked = tt; yes = counts-then (stop_of f) _ _ _ first.yes last.yes; last = last.last }

  -- a refusal that is passed on behind a call, without a question
  pub asked_lost : {T V : Type 0} (n m : ℕ) (a b : C) (value : V) (e : RunError) (r : Result T RunError) → IsErrAnd r (λ f. f ≡ e) → stop_of e ≡ 0 → WasAsked check n a b (Ok value) → WasAsked check m a b r
  asked_lost n m a b value e (Ok made) is calm h = absurd is
  asked_lost n m a b value e (Err f) is calm h = asked-lost n m a b value f (ap stop_of is ∙ calm) h

  -- fewer questions are told
  pub asked-less : {T : Type 0} (n m : ℕ) (a b : C) (r : Result T RunError) → m ≤ n → WasAsked check n a b r → WasAsked check m a b r
  asked-less n m a b (Ok value) less h = asked-made n m a b value value less h
  asked-less n m a b (Err e) less h = record { asked = tt; yes = h.yes; last = h.last }

  -- a call behind which an answer may be there
  pub asked-answers : {S T A : Type 0} (a b : C) (value : S) (made : T) (answer : Option A) → WasAsked check 1 a b (Ok value) → WasAsked check (answers answer) a b (Ok made)
  asked-answers a b value made answer h = asked-made 1 (answers answer) a b value made (answers_few answer) h

  pub asked-answered : {S T A : Type 0} (a b : C) (value : S) (made : T) (answer : Option A) (x : A) → answer ≡ Some x → WasAsked check (answers answer) a b (Ok value) → WasAsked check 1 a b (Ok made)
  asked-answered a b value made answer x is h = asked-made (answers answer) 1 a b value made (let one : answers answer ≡ 1 = ap answers is in omega (arith, one)) h

  -- a call that asks nothing
  pub asked-all : {T : Type 0} (c : C) (r : Result T RunError) → stops r ≡ 0 → WasAsked check 0 c c r
  asked-all c (Ok value) calm = asked-ok c value
  asked-all c (Err e) calm = asked-calm 0 c e calm

  -- lanes that came to their end, and such that were halted
  pub asked-run : {T : Type 0} (n m : ℕ) (a b : C) (value : T) → m ≤ n → Counts n (check.asked a) (check.asked b) → Counts 0 (check.yes a) (check.yes b) → WasAsked check m a b (Ok value)
  asked-run n m a b value less asked said = record { asked = rises-counts n m _ _ less asked; yes = said; last = λ e. (let clash : ⊥ = cc in absurd clash) }

  pub asked-halted : {T : Type 0} (n : ℕ) (a b : C) (halt : Halt) (e : RunError) → e ≡ error_of halt → Counts (halt_stops halt) (check.yes a) (check.yes b) → (halt ≡ Stopped → check.last_answer b ≡ true) → WasAsked {T = T} check n a b (Err e)
  asked-halted n a b Stopped e is said last = record { asked = tt; yes = subst (λ x. Counts (stop_of x) (check.yes a) (check.yes b)) (sym is) said; last = λ q. last refl }
  asked-halted n a b (Refused (TooMany node)) e is said last = record {
    asked = tt;
    yes = subst (λ x. Counts (stop_of x) (check.yes a) (check.yes b)) (sym is) said;
    last = λ q. absurd (not-stopped e (ap stop_of is) (let at : e ≡ error.Stopped = cc in at));
  }
  asked-halted n a b (Refused Memory) e is said last = record {
    asked = tt;
    yes = subst (λ x. Counts (stop_of x) (check.yes a) (check.yes b)) (sym is) said;
    last = λ q. absurd (not-stopped e (ap stop_of is) (let at : e ≡ error.Stopped = cc in at));
  }

  -- sinks that weren't combined
  pub asked-uncombined : {T : Type 0} (n : ℕ) (a b : C) (halt : Halt) (e : RunError) → stop_of e ≡ halt_stops halt → Counts (halt_stops halt) (check.yes a) (check.yes b) → (halt ≡ Stopped → check.last_answer b ≡ true) → WasAsked {T = T} check n a b (Err e)
  asked-uncombined n a b Stopped e same said last = record { asked = tt; yes = subst (λ k. Counts k (check.yes a) (check.yes b)) (sym same) said; last = λ q. last refl }
  asked-uncombined n a b (Refused r) e same said last = record { asked = tt; yes = subst (λ k. Counts k (check.yes a) (check.yes b)) (sym same) said; last = λ q. absurd (not-stopped e same (let is : e ≡ error.Stopped = cc in is)) }

  -- one question
  pub asked-once : {T : Type 0} (a b : C) (value : T) → check.asked b ≡ counted 1 (check.asked a) → check.yes b ≡ counted 0 (check.yes a) → WasAsked check 1 a b (Ok value)
  asked-once a b value asked said = record { asked = rises-counts 1 1 _ _ (omega arith) (counts-one 1 _ _ asked); yes = counts-one 0 _ _ said; last = λ e. (let clash : ⊥ = cc in absurd clash) }

  pub asked-refused : {T : Type 0} (n : ℕ) (a b : C) (e : RunError) → stop_of e ≡ 0 → check.yes b ≡ counted 0 (check.yes a) → WasAsked {T = T} check n a b (Err e)
  asked-refused n a b e calm said = record {
    asked = tt;
    yes = subst (λ k. Counts k (check.yes a) (check.yes b)) (sym calm) (counts-one 0 _ _ said);
    last = λ q. absurd (not-stopped e calm (let is : e ≡ error.Stopped = cc in is));
  }

  pub asked-stop : {T : Type 0} (n : ℕ) (a b : C) → check.yes b ≡ counted 1 (check.yes a) → check.last_answer b ≡ true → WasAsked {T = T} check n a b (Err error.Stopped)
  asked-stop n a b said last = record { asked = tt; yes = counts-one 1 _ _ said; last = λ q. last }

  pub asked-risen : {T : Type 0} (a b : C) (value : T) → Rises (check.asked a) (check.asked b) → Counts 0 (check.yes a) (check.yes b) → WasAsked check 1 a b (Ok value)
  asked-risen a b value asked said = record { asked = rises-by _ _ asked; yes = said; last = λ e. (let clash : ⊥ = cc in absurd clash) }

  -- what is told of a call
  pub rises : {T : Type 0} (a b : C) (r : Result T RunError) → WasAsked check 1 a b r → OnOk r (Rises (check.asked a) (check.asked b))
  rises a b (Ok value) h = rises-once _ _ h.asked
  rises a b (Err e) h = tt

-- an error that is passed on from a call that asks nothing
pub stops_passed : {T : Type 0} (e : RunError) (r : Result T RunError) → IsErrAnd r (λ f. f ≡ e) → stop_of e ≡ 0 → stops r ≡ 0
stops_passed e (Ok value) is calm = absurd is
stops_passed e (Err f) is calm = ap stop_of is ∙ calm

-- why a run ends where lanes were refused something is no yes
pub refusal_calm : (r : LaneFault) → stop_of (refusal_of r) ≡ 0
refusal_calm (TooMany node) = refl
refusal_calm Memory = refl
