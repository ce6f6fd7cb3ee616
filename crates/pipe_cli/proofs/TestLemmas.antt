-- Self-tests: how one ends, and why the contracts of commands that read nothing are sound.
use Rattle.std.proofs.Common.{◌≡◌, ℕ, List, [], ◌∷◌, inl, inr, refl, subst, arith}
use Rattle.pipe_driver.specs.Within.{AllWithin, HasTooMany}
use Rattle.pipe_cli.specs.FaultLine.{fault_line, fault_status}
use Rattle.pipe_plan.specs.declared.error.PipeError.{PipeError}
use Rattle.pipe_plan.specs.declared.error.PipeError.TheVariants as error
use Rattle.pipe_plan.specs.Plan.{Plan}
use Rattle.pipe_selftest.specs.Ends.{Ends, IsJoin, IsWithin}
use Rattle.pipe_selftest.specs.Joins.{config, full_root, inner_root, left_root, plan_from}
use Rattle.pipe_selftest.specs.Lines.{selftest_lines}
use Rattle.pipe_cli.specs.Commands.SelfTestCommand.{selftest}
use Rattle.pipe_cli.specs.Contract.{Answered, Causes, CommandEndsWith, IsKind, IsLawful, IsTold}
use Rattle.pipe_cli.specs.NoInputs.{no_inputs, writes}
use Rattle.pipe_cli.specs.Refused.{Tells}
use Rattle.pipe_cli.specs.Status.{OneOf, status_of}
use Rattle.pipe_cli.specs.declared.status.Refusal.{Refusal}
use Rattle.pipe_cli.specs.declared.status.Refusal.TheVariants as refusal
use Rattle.pipe_cli.proofs.RuleLemmas.{apart, found}

nothing_is_kind : IsKind no_inputs
nothing_is_kind = record {
  one = λ bytes a b r q. refl;
  text = λ bytes a n j. n;
  some = λ bytes a n j. n;
  apart = λ bytes n m. n;
}

pub writes_lawful : (told : List ℕ) → IsLawful (writes told)
writes_lawful told = record {
  kind = nothing_is_kind;
  sound = λ a e s r. r;
  one_error = λ a d e h k. absurd h;
  within = λ a n m w. m;
  stops = λ h. absurd (apart (writes told).statuses 8 refl h);
  answers = found 0 (writes told).statuses refl;
  writes = found 9 (writes told).statuses refl;
}

pub told_answer : (told bytes text : List ℕ) → text ≡ told → Answered (writes told) bytes text
told_answer told bytes text same = record { input = tt; read = tt; sound = tt; within = tt; answer = same }

-- ---- errors

no_fault : (e : PipeError) (start rows : ℕ) → Ends (plan_from start rows) e → 6 ≡ fault_status e → ⊥
no_fault error.BadConfig start rows h s = h.ends
no_fault (error.BadNode n) start rows h s = h.ends
no_fault (error.UnknownColumn n name) start rows h s = h.ends
no_fault (error.DuplicateName n name) start rows h s = h.ends
no_fault (error.TypeMismatch n) start rows h s = h.ends
no_fault (error.BadJoin n) start rows h s = h.ends
no_fault (error.BadSort n) start rows h s = h.ends
no_fault (error.TooMany n) start rows h s = omega (arith, s)
no_fault error.Stopped start rows h s = omega (arith, s)
no_fault error.Memory start rows h s = omega (arith, s)

test_ends : (e : PipeError) (start rows : ℕ) → Ends (plan_from start rows) e → CommandEndsWith (selftest start rows) tt e
test_ends error.BadConfig start rows h = h.ends
test_ends (error.BadNode n) start rows h = h.ends
test_ends (error.UnknownColumn n name) start rows h = h.ends
test_ends (error.DuplicateName n name) start rows h = h.ends
test_ends (error.TypeMismatch n) start rows h = h.ends
test_ends (error.BadJoin n) start rows h = h.ends
test_ends (error.BadSort n) start rows h = h.ends
test_ends (error.TooMany n) start rows h = h
test_ends error.Stopped start rows h = tt
test_ends error.Memory start rows h = tt

told_line : (e : PipeError) (start rows : ℕ) (line : List ℕ) → Ends (plan_from start rows) e → 7 ≡ fault_status e → line ≡ fault_line e → IsTold (selftest start rows) 7 line tt
told_line e start rows line h s l = record { error = e; ends = inr (record { sound = tt; ends = test_ends e start rows h }); status_is = s; line_is = l }

-- an error of a self-test is told of its numbers
pub told_test : (r : Refusal) (e : PipeError) (start rows : ℕ) → Ends (plan_from start rows) e → Tells r e → (bytes : List ℕ) → Causes (selftest start rows) r bytes
told_test refusal.BadWords e start rows h t bytes = absurd t
told_test refusal.ReadFault e start rows h t bytes = absurd t
told_test refusal.TooLong e start rows h t bytes = absurd t
told_test refusal.NotJson e start rows h t bytes = absurd t
told_test refusal.NotJob e start rows h t bytes = absurd t
told_test (refusal.Fault line) e start rows h t bytes = absurd (no_fault e start rows h t.0)
told_test (refusal.TooMany line) e start rows h t bytes = record { input = tt; read = tt; told = told_line e start rows line h t.0 t.1 }
told_test refusal.Stopped e start rows h t bytes = record { input = tt; read = tt; sound = tt }
told_test refusal.WriteFault e start rows h t bytes = absurd t
told_test refusal.Memory e start rows h t bytes = tt

pub told_only : (r : Refusal) (e : PipeError) (start rows : ℕ) → Ends (plan_from start rows) e → Tells r e → OneOf (selftest start rows).statuses (status_of r)
told_only refusal.BadWords e start rows h t = absurd t
told_only refusal.ReadFault e start rows h t = absurd t
told_only refusal.TooLong e start rows h t = absurd t
told_only refusal.NotJson e start rows h t = absurd t
told_only refusal.NotJob e start rows h t = absurd t
told_only (refusal.Fault line) e start rows h t = absurd (no_fault e start rows h t.0)
told_only (refusal.TooMany line) e start rows h t = inr (inl refl)
told_only refusal.Stopped e start rows h t = inr (inr (inl refl))
told_only refusal.WriteFault e start rows h t = absurd t
told_only refusal.Memory e start rows h t = inr (inr (inr (inr (inl refl))))

pub test_answer : (start rows : ℕ) (text : List ℕ) → IsWithin (plan_from start rows) → text ≡ selftest_lines start rows → (bytes : List ℕ) → Answered (selftest start rows) bytes text
test_answer start rows text within e bytes = record { input = tt; read = tt; sound = tt; within = within; answer = e }

-- ---- no node has too many rows where none has

above_within : (plan : Plan) (root n : ℕ) → HasTooMany config.row_limit plan root n → AllWithin config.row_limit plan root → ⊥
above_within plan root n h w = let few = w n h.under in let many = h.above in omega (arith, few, many)

many_at : (plan : Plan) (root n : ℕ) → IsJoin root → HasTooMany config.row_limit plan root n → IsWithin plan → ⊥
many_at plan root n (inl e) h w = above_within plan inner_root n (subst (λ (r : ℕ). HasTooMany config.row_limit plan r n) e h) w.inner
many_at plan root n (inr (inl e)) h w = above_within plan left_root n (subst (λ (r : ℕ). HasTooMany config.row_limit plan r n) e h) w.left
many_at plan root n (inr (inr e)) h w = above_within plan full_root n (subst (λ (r : ℕ). HasTooMany config.row_limit plan r n) e h) w.full

many_within : (plan : Plan) (n : ℕ) → Ends plan (error.TooMany n) → IsWithin plan → ⊥
many_within plan n h w = many_at plan h.root n h.is_join h.ends w

pub selftest_lawful : (start rows : ℕ) → IsLawful (selftest start rows)
selftest_lawful start rows = record {
  kind = nothing_is_kind;
  sound = λ a e s r. r;
  one_error = λ a d e h k. absurd h;
  within = λ a n m w. many_within (plan_from start rows) n m w;
  stops = λ h. refl;
  answers = found 0 (selftest start rows).statuses refl;
  writes = found 9 (selftest start rows).statuses refl;
}
