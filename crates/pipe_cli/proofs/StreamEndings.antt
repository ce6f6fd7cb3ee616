-- What a run of `stream` ends with, by what its refusal says.
use Rattle.std.proofs.Common.{◌≡◌, ◌≤◌, ℕ, true, false, List, [], ◌∷◌, length, Option, Some, None, inl, inr, ◌⊎◌, refl, sym, ap, subst, ◌∙◌, arith}
use Rattle.std.specs.Prelude.{IfSome, IsSomeAnd}
use Rattle.pipe_stream.specs.Outside.{InputSeen, OutputSeen, ReadFails, WriteFails, WritesFront, Writes}
use Rattle.pipe_cli.specs.Commands.{Request, Stream, contract_of}
use Rattle.pipe_cli.specs.Commands.StreamCommand.{stream}
use Rattle.pipe_cli.specs.Contract.{NoInput, Nothing, OfInput, RefusedAs, Short, ShortGood, Sound, Told, TooWide, Wide}
use Rattle.pipe_cli.specs.Outcome.{Noted, OfOutput, WroteFrontTold, WroteTold}
use Rattle.pipe_cli.specs.Refused.{OfReading, OfWriting}
use Rattle.pipe_cli.specs.Sources.{IsLongOn, IsTakenInPart, IsTooMany, IsWhole, Standard}
use Rattle.pipe_cli.specs.Status.{IsFixed, OneOf, line_of, status_line, status_of}
use Rattle.pipe_cli.specs.Streams.{NotedError, OfBlocks, StreamEnds}
use Rattle.pipe_cli.specs.declared.status.Refusal.{Refusal}
use Rattle.pipe_cli.specs.declared.status.Refusal.TheVariants as refusal
use Rattle.pipe_cli.proofs.BlockWriting.{all_statuses}
use Rattle.pipe_cli.proofs.Lawful.{lawful}
use Rattle.pipe_cli.proofs.RuleLemmas.{among, apart}
use Rattle.pipe_cli.proofs.StatusLemmas.{follows, good_status, long_ran_by, long_status, none_ran_by, none_status, noted_fixed, refused_ran_by, refused_status, says_fault_by, says_many_by, says_none_by, says_nothing_by, says_sound_by, wide_ran_by, wide_status}

-- an output of which a refusal says what a command's does: where memory is wanting, the one before
settled : (r : Refusal) (told : Option (List ℕ)) (out written : OutputSeen) → OfBlocks r (WroteFrontTold stream told out written) out written → (now : OutputSeen) × OfOutput stream r told out now
settled refusal.BadWords told out written k = (written, k)
settled refusal.ReadFault told out written k = (written, k)
settled refusal.TooLong told out written k = (written, k)
settled refusal.NotJson told out written k = (written, k)
settled refusal.NotJob told out written k = (written, k)
settled (refusal.Fault line) told out written k = (written, k)
settled (refusal.TooMany line) told out written k = (written, k)
settled refusal.Stopped told out written k = (written, k)
settled refusal.WriteFault told out written k = (written, k)
settled refusal.Memory told out written k = (out, refl)

pub read_failed : (r : Refusal) (told : Option (List ℕ)) (input now : InputSeen) → OfReading r told input now → status_of r ≡ 2 → ReadFails input now
read_failed refusal.BadWords told input now d e = absurd (omega (arith, e))
read_failed refusal.ReadFault told input now d e = d
read_failed refusal.TooLong told input now d e = absurd (omega (arith, e))
read_failed refusal.NotJson told input now d e = absurd (omega (arith, e))
read_failed refusal.NotJob told input now d e = absurd (omega (arith, e))
read_failed (refusal.Fault line) told input now d e = absurd (omega (arith, e))
read_failed (refusal.TooMany line) told input now d e = absurd (omega (arith, e))
read_failed refusal.Stopped told input now d e = absurd (omega (arith, e))
read_failed refusal.WriteFault told input now d e = absurd (omega (arith, e))
read_failed refusal.Memory told input now d e = absurd (omega (arith, e))

pub was_long : (r : Refusal) (told : Option (List ℕ)) (input now : InputSeen) → OfReading r told input now → status_of r ≡ 3 → IsLongOn told input now
was_long refusal.BadWords told input now d e = absurd (omega (arith, e))
was_long refusal.ReadFault told input now d e = absurd (omega (arith, e))
was_long refusal.TooLong told input now d e = d
was_long refusal.NotJson told input now d e = absurd (omega (arith, e))
was_long refusal.NotJob told input now d e = absurd (omega (arith, e))
was_long (refusal.Fault line) told input now d e = absurd (omega (arith, e))
was_long (refusal.TooMany line) told input now d e = absurd (omega (arith, e))
was_long refusal.Stopped told input now d e = absurd (omega (arith, e))
was_long refusal.WriteFault told input now d e = absurd (omega (arith, e))
was_long refusal.Memory told input now d e = absurd (omega (arith, e))

write_failed : (r : Refusal) (front : Type 0) (out written : OutputSeen) → OfBlocks r front out written → status_of r ≡ 9 → WriteFails out written
write_failed refusal.BadWords front out written k e = absurd (omega (arith, e))
write_failed refusal.ReadFault front out written k e = absurd (omega (arith, e))
write_failed refusal.TooLong front out written k e = absurd (omega (arith, e))
write_failed refusal.NotJson front out written k e = absurd (omega (arith, e))
write_failed refusal.NotJob front out written k e = absurd (omega (arith, e))
write_failed (refusal.Fault line) front out written k e = absurd (omega (arith, e))
write_failed (refusal.TooMany line) front out written k e = absurd (omega (arith, e))
write_failed refusal.Stopped front out written k e = absurd (omega (arith, e))
write_failed refusal.WriteFault front out written k e = k.0
write_failed refusal.Memory front out written k e = absurd (omega (arith, e))

front_written : (r : Refusal) (front : Type 0) (out written : OutputSeen) → OfBlocks r front out written → status_of r ≡ 9 → front
front_written refusal.BadWords front out written k e = absurd (omega (arith, e))
front_written refusal.ReadFault front out written k e = absurd (omega (arith, e))
front_written refusal.TooLong front out written k e = absurd (omega (arith, e))
front_written refusal.NotJson front out written k e = absurd (omega (arith, e))
front_written refusal.NotJob front out written k e = absurd (omega (arith, e))
front_written (refusal.Fault line) front out written k e = absurd (omega (arith, e))
front_written (refusal.TooMany line) front out written k e = absurd (omega (arith, e))
front_written refusal.Stopped front out written k e = absurd (omega (arith, e))
front_written refusal.WriteFault front out written k e = k.1
front_written refusal.Memory front out written k e = absurd (omega (arith, e))

front_or_none : (r : Refusal) (front : Type 0) (out written : OutputSeen) → OfBlocks r front out written → status_of r ≡ 10 → (written.written ≡ out.written) ⊎ front
front_or_none refusal.BadWords front out written k e = absurd (omega (arith, e))
front_or_none refusal.ReadFault front out written k e = absurd (omega (arith, e))
front_or_none refusal.TooLong front out written k e = absurd (omega (arith, e))
front_or_none refusal.NotJson front out written k e = absurd (omega (arith, e))
front_or_none refusal.NotJob front out written k e = absurd (omega (arith, e))
front_or_none (refusal.Fault line) front out written k e = absurd (omega (arith, e))
front_or_none (refusal.TooMany line) front out written k e = absurd (omega (arith, e))
front_or_none refusal.Stopped front out written k e = absurd (omega (arith, e))
front_or_none refusal.WriteFault front out written k e = absurd (omega (arith, e))
front_or_none refusal.Memory front out written k e = k

unwritten : (r : Refusal) (front : Type 0) (out written : OutputSeen) → OfBlocks r front out written → (status_of r ≡ 9 → ⊥) → (status_of r ≡ 10 → ⊥) → written.written ≡ out.written
unwritten refusal.BadWords front out written k n m = k
unwritten refusal.ReadFault front out written k n m = k
unwritten refusal.TooLong front out written k n m = k
unwritten refusal.NotJson front out written k n m = k
unwritten refusal.NotJob front out written k n m = k
unwritten (refusal.Fault line) front out written k n m = k
unwritten (refusal.TooMany line) front out written k n m = k
unwritten refusal.Stopped front out written k n m = k
unwritten refusal.WriteFault front out written k n m = absurd (n refl)
unwritten refusal.Memory front out written k n m = absurd (m refl)

told_error : (r : Refusal) (told : Option (List ℕ)) (notes noted : OutputSeen) → OfInput stream r told → Noted (line_of r) notes noted → OneOf (6 ∷ 7 ∷ []) (status_of r) → NotedError (status_of r) told notes noted
told_error refusal.BadWords told notes noted t h f = absurd (apart (6 ∷ 7 ∷ []) 1 refl f)
told_error refusal.ReadFault told notes noted t h f = absurd (apart (6 ∷ 7 ∷ []) 2 refl f)
told_error refusal.TooLong told notes noted t h f = absurd (apart (6 ∷ 7 ∷ []) 3 refl f)
told_error refusal.NotJson told notes noted t h f = absurd (apart (6 ∷ 7 ∷ []) 4 refl f)
told_error refusal.NotJob told notes noted t h f = absurd (apart (6 ∷ 7 ∷ []) 5 refl f)
told_error (refusal.Fault line) told notes noted t h f = record { line = line; tells = follows told (Short (Told stream 6 line)) (Told stream 6 line) (λ b p. p.holds) t; wrote = h }
told_error (refusal.TooMany line) told notes noted t h f = record { line = line; tells = follows told (Short (Told stream 7 line)) (Told stream 7 line) (λ b p. p.holds) t; wrote = h }
told_error refusal.Stopped told notes noted t h f = absurd (apart (6 ∷ 7 ∷ []) 8 refl f)
told_error refusal.WriteFault told notes noted t h f = absurd (apart (6 ∷ 7 ∷ []) 9 refl f)
told_error refusal.Memory told notes noted t h f = absurd (apart (6 ∷ 7 ∷ []) 10 refl f)

-- ---- a stream that was refused

-- a status that isn't one of a refusal's
none_of : (r : Refusal) (n : ℕ) → OneOf all_statuses (status_of r) → status_of r ≡ n → OneOf all_statuses n
none_of r n o e = subst (λ (m : ℕ). OneOf all_statuses m) e o

pub stream_refused : (r : Refusal) (input now : InputSeen) (out written notes noted : OutputSeen) → OneOf all_statuses (status_of r) → OfReading r input.left input now → (status_of r ≡ 3 → IsTakenInPart Standard input now) → OfInput stream r input.left
    → OfBlocks r (WroteFrontTold stream input.left out written) out written → Noted (line_of r) notes noted → StreamEnds (status_of r) input now out written notes noted
stream_refused r input now out written notes noted o d m t k n =
    let front : Type 0 = WroteFrontTold stream input.left out written in
    let then = settled r input.left out written k in
    let w : r ≡ refusal.BadWords → ⊥ = λ e. apart all_statuses 1 refl (subst (λ (s : Refusal). OneOf all_statuses (status_of s)) e o) in
    record {
      read = λ e. absurd (apart all_statuses 0 refl (none_of r 0 o e));
      wrote = λ e. absurd (apart all_statuses 0 refl (none_of r 0 o e));
      read_fault = read_failed r input.left input now d;
      too_long = was_long r input.left input now d;
      most = m;
      not_json = says_nothing_by (Some Stream) r input t;
      not_job = says_none_by (Some Stream) r input t;
      refused = says_fault_by (Some Stream) r input t;
      too_many = says_many_by (Some Stream) r input t;
      stopped = says_sound_by (Some Stream) r input t;
      write_fault = write_failed r front out written k;
      only = among all_statuses stream.statuses refl (status_of r) o;
      if_long = λ h. long_status stream (lawful Stream) r input.left out then.0 w t then.1 h;
      if_no_job = λ h. none_status stream (lawful Stream) r input.left out then.0 w t then.1 h;
      if_fault = λ h. refused_status stream (lawful Stream) 6 r input.left out then.0 w t then.1 h;
      if_many = λ h. refused_status stream (lawful Stream) 7 r input.left out then.0 w t then.1 h;
      if_wide = λ h. wide_status stream (lawful Stream) r input.left out then.0 w t then.1 h;
      complete = λ h. good_status stream (lawful Stream) r input.left input now w d t h;
      front = front_written r front out written k;
      front_or_none = front_or_none r front out written k;
      nothing = λ z f l. unwritten r front out written k f l;
      fixed = noted_fixed r notes noted n;
      told = told_error r input.left notes noted t n;
      quiet = λ e. absurd (apart all_statuses 0 refl (none_of r 0 o e));
    }

-- ---- a stream that was written

pub stream_written : (input now : InputSeen) (out written notes : OutputSeen) → IsWhole input.left now → WroteTold stream input.left out written → StreamEnds 0 input now out written notes notes
stream_written input now out written notes whole wrote = record {
  read = λ e. whole;
  wrote = λ e. wrote;
  read_fault = λ e. absurd (omega (arith, e));
  too_long = λ e. absurd (omega (arith, e));
  most = λ e. absurd (omega (arith, e));
  not_json = λ e. absurd (omega (arith, e));
  not_job = λ e. absurd (omega (arith, e));
  refused = λ e. absurd (omega (arith, e));
  too_many = λ e. absurd (omega (arith, e));
  stopped = λ e. absurd (omega (arith, e));
  write_fault = λ e. absurd (omega (arith, e));
  only = inl refl;
  if_long = λ h. absurd (long_ran_by (Some Stream) input now whole h);
  if_no_job = λ h. absurd (none_ran_by (Some Stream) input out written wrote h);
  if_fault = λ h. absurd (refused_ran_by 6 (Some Stream) input out written wrote h);
  if_many = λ h. absurd (refused_ran_by 7 (Some Stream) input out written wrote h);
  if_wide = λ h. absurd (wide_ran_by (Some Stream) input out written wrote h);
  complete = λ h. inl refl;
  front = λ e. absurd (omega (arith, e));
  front_or_none = λ e. absurd (omega (arith, e));
  nothing = λ z m l. absurd (z refl);
  fixed = λ f. absurd (apart (1 ∷ 2 ∷ 3 ∷ 4 ∷ 5 ∷ 8 ∷ 9 ∷ 10 ∷ []) 0 refl f);
  told = λ f. absurd (apart (6 ∷ 7 ∷ []) 0 refl f);
  quiet = λ e. refl;
}
