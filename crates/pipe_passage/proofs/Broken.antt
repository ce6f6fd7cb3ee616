-- A flush that went a part of its way.
use Rattle.std.proofs.Common.{◌≡◌, ℕ, ◌<◌, List, ◌∷◌, sym, ◌∙◌, subst}
use Rattle.std.specs.List.{All}
use Rattle.pipe_schema.specs.declared.field.Field.{Field}
use Rattle.pipe_ops.specs.declared.sink.Sink.{Ghosts as SinkWords}
use Rattle.pipe_chain.specs.Flags.{SeatMarks}
use Rattle.pipe_run.specs.declared.lane.Lane.{Lane}
use Rattle.pipe_run.specs.declared.stage.LaneFault.{LaneFault}
use Rattle.pipe_run.specs.declared.stage.LaneFault.TheVariants.{TooMany, Memory}
use Rattle.pipe_run.specs.Dealt.{DoTheSame, IsOverIn}
use Rattle.pipe_run.specs.Flushes.{IsFlushFit, flushed_in, rows_of_parts}
use Rattle.pipe_slots.specs.JoinWords.{parts_in, part_in}
use Rattle.pipe_slots.specs.SlotTables.{IsClosedAs}
use Rattle.pipe_slots.specs.declared.phys_operator.PhysOperator.{PhysOperator}
use Rattle.pipe_slots.specs.declared.slot.Slot.{Slot}
use Rattle.pipe_passage.specs.LaneSeats.{LanesLeft, StageLeft}
use Rattle.pipe_passage.specs.Passages.{phys_words, IsPassing}
use Rattle.pipe_passage.specs.Stopped.{BreaksOff}
use Rattle.pipe_passage.proofs.Left.{has-left, has-left-next, passing-there}
use Rattle.pipe_passage.proofs.Settles.{next-of}
use Rattle.pipe_passage.proofs.Stopped.{held-passing, held-after}

module _ {H K B C : Type 0} (hash_of : H → List ℕ → ℕ) (sink : SinkWords K B C) (limit : ℕ) (from : List Field) where
  module _ (ss : List (Slot H)) (v w : List SeatMarks) (free : List (List SeatMarks)) (xs ys : List (Lane (PhysOperator H) K)) (h : LanesLeft v w xs ys) (slot closed : Slot H) (c : IsClosedAs slot w closed) (p : IsPassing hash_of sink limit from xs (slot ∷ ss) (v ∷ free)) (some : 0 < parts_in closed)
      (zs : List (Lane (PhysOperator H) K)) (same : DoTheSame (phys_words hash_of) sink ys zs) (fits : All (IsFlushFit (phys_words hash_of) sink closed ss limit (flushed_in (phys_words hash_of) ys)) zs) where
    broken-of : (r : LaneFault) → IsOverIn (phys_words hash_of) ss limit (flushed_in (phys_words hash_of) ys) (rows_of_parts parts_in (part_in hash_of) closed) ys zs r → BreaksOff hash_of sink limit from xs zs (slot ∷ ss) ss (v ∷ free) free r
    broken-of Memory over = tt
    broken-of (TooMany node) over =
        let left = has-left hash_of sink limit from slot ss v w free xs ys p h in
        let is : flushed_in (phys_words hash_of) ys ≡ left.next = next-of hash_of sink limit from ss v w free xs ys h slot closed c some p ∙ sym (has-left-next hash_of sink limit from slot ss v w free xs ys p h) in
        record {
          slot = slot;
          seats = w;
          mid = ys;
          left = left;
          closed = closed;
          closes = c;
          same = same;
          held = held-after hash_of sink ys zs ss free (held-passing hash_of sink limit left.next ys ss free left.passing) same (λ i d less. (fits i d less).fit.serve);
          over = subst (λ (s : List Field). IsOverIn (phys_words hash_of) ss limit s (rows_of_parts parts_in (part_in hash_of) closed) ys zs (TooMany node)) is over;
        }

  -- by what was taken off
  pub broken-flushed : (slot closed : Slot H) (w : List SeatMarks) (xs ys : List (Lane (PhysOperator H) K)) (ss ss' : List (Slot H)) (free free' : List (List SeatMarks)) (h : StageLeft slot w xs ys ss ss' free free') (p : IsPassing hash_of sink limit from xs ss free) → IsClosedAs slot w closed → 0 < parts_in closed → (zs : List (Lane (PhysOperator H) K)) → DoTheSame (phys_words hash_of) sink ys zs
      → All (IsFlushFit (phys_words hash_of) sink closed ss' limit (flushed_in (phys_words hash_of) ys)) zs → (r : LaneFault) → IsOverIn (phys_words hash_of) ss' limit (flushed_in (phys_words hash_of) ys) (rows_of_parts parts_in (part_in hash_of) closed) ys zs r → BreaksOff hash_of sink limit from xs zs ss ss' free free' r
  broken-flushed slot closed w xs ys ss ss' free free' h p c some zs same fits r over =
      subst (λ (l : List (Slot H)). BreaksOff hash_of sink limit from xs zs l ss' free free' r) (sym h.shared)
      (subst (λ (f : List (List SeatMarks)). BreaksOff hash_of sink limit from xs zs (slot ∷ ss') ss' f free' r) (sym h.seats_are)
      (broken-of ss' h.first w free' xs ys h.lanes slot closed c (passing-there hash_of sink limit from slot w xs ys ss ss' free free' h p) some zs same fits r over))
