-- How often workers take to a question of the stop check by what is written, one call after another.
use Rattle.std.proofs.Common.{◌≡◌, ℕ, ◌+◌, ◌-◌, ◌*◌, ◌≤◌, inl, inr, cond, Bool, true, false, List, [], ◌∷◌, ◌++◌, map, length, ap, subst, sym, ◌∙◌, append_assoc, append-nil, arith}
use Rattle.std.specs.Prelude.{◌==◌}
use Rattle.std.specs.List.{AllByRecursion}
use Rattle.pipe_schema.specs.Counts.{Counts, counted}
use Rattle.pipe_ops.specs.declared.context.PExecutionContext.{PExecutionContext}
use Rattle.pipe_ops.specs.Batches.{Left}
use Rattle.pipe_ops.specs.declared.source.Morsel.{Morsel}
use Rattle.pipe_events.specs.EventValues.{event_value}
use Rattle.pipe_events.specs.Worlds as worlds
use Rattle.pipe_events.specs.declared.event.Event.{Event}
use Rattle.pipe_driver.specs.declared.branch.SinkAt.{SinkAt}
use Rattle.pipe_driver.specs.declared.branch.SinkAt.TheVariants as at
use Rattle.pipe_driver.specs.Written.{closing}
use Rattle.pipe_run.specs.declared.note.Note.{Note}
use Rattle.pipe_run.specs.Notes.{events_of, ending_of, entries_of_parts, notes_from}
use Rattle.pipe_run.specs.Noted.{IsNotedSince}
use Rattle.pipe_run.specs.NotedRounds.{Gives, AreNotedBehind}
use Rattle.pipe_run.specs.Paced.{IsSized, takes_in, AreFew, KeepsPace, NotesKeepPace}
use Rattle.pipe_run.proofs.Few.{flushes_few, takes_both, takes_few}
use Rattle.pipe_run.proofs.NotedRounds.{all_both}
use Rattle.pipe_engine.specs.Asked.{RisesBy}
use Rattle.pipe_engine.specs.Journals.{WritesClose}
use Rattle.pipe_engine.specs.Paced.{HasKeptPace}
use Rattle.pipe_engine.specs.declared.engine.Engine.{Engine}
use Rattle.pipe_engine.proofs.Asked.{counts-one}
use Rattle.pipe_engine.proofs.Paces.{counts-both, rises-count}

-- ---- lists of events

module _ (workers rows : ℕ) where
  pub pace-none : (a : ℕ) (old : List Event) → KeepsPace workers rows a a old old
  pace-none a old = record {
    own = [];
    is = sym (append-nil (map event_value old));
    questions = 0;
    asked = inl (omega arith);
    few = omega arith;
    sized = tt;
  }

  pub pace-both : (a b c : ℕ) (old mid new : List Event) → KeepsPace workers rows a b old mid → KeepsPace workers rows b c mid new → KeepsPace workers rows a c old new
  pace-both a b c old mid new first second = record {
    own = first.own ++ second.own;
    is = second.is ∙ ap (λ l. l ++ second.own) first.is ∙ append_assoc (map event_value old) first.own second.own;
    questions = first.questions + second.questions;
    asked = counts-both first.questions second.questions a b c first.asked second.asked;
    few = (let both = takes_both first.own second.own in let f = first.few in let s = second.few in omega arith);
    sized = all_both (IsSized rows) first.own second.own first.sized second.sized;
  }

  -- what was written has no takes, and so many questions were asked
  pub pace-more : (n a b : ℕ) (old new : List Event) (more : List worlds.Event) → takes_in more ≡ 0 → AllByRecursion (IsSized rows) more → map event_value new ≡ map event_value old ++ more → Counts n a b → KeepsPace workers rows a b old new
  pace-more n a b old new more none sized is asked = record { own = more; is = is; questions = n; asked = asked; few = (let z : 0 ≤ 4 * workers * n = omega arith in omega (arith, none, z)); sized = sized }

  pub pace-asked : (n a b : ℕ) (old new : List Event) → new ≡ old → RisesBy n a b → KeepsPace workers rows a b old new
  pace-asked n a b old new same h =
      let is : map event_value new ≡ map event_value old ++ [] = ap (map event_value) same ∙ sym (append-nil (map event_value old)) in
      pace-more (b - a) a b old new [] (omega arith) tt is (rises-count n a b h)

  -- a side was closed, or the root's sink
  pub pace-closed : (place : SinkAt) (a : ℕ) (old new : List Event) → map event_value new ≡ map event_value old ++ closing place → KeepsPace workers rows a a old new
  pace-closed at.Ordered a old new is = pace-more 0 a a old new [] (omega arith) tt is (inl (omega arith))
  pace-closed (at.Sort n) a old new is = pace-more 0 a a old new (worlds.Close n worlds.OfSort ∷ []) (omega arith) (tt, tt) is (inl (omega arith))
  pace-closed (at.Build n) a old new is = pace-more 0 a a old new (worlds.Close n worlds.OfBuild ∷ []) (omega arith) (tt, tt) is (inl (omega arith))

  -- what lanes took was written
  pub pace-taken : (nodes : List ℕ) (join a b : ℕ) (old new : List Event) (notes : List Note) → NotesKeepPace workers rows a b [] notes → map event_value new ≡ map event_value old ++ events_of nodes join notes → KeepsPace workers rows a b old new
  pace-taken nodes join a b old new notes h is = record {
    own = events_of nodes join h.since;
    is = is ∙ ap (λ l. map event_value old ++ events_of nodes join l) h.whole;
    questions = h.questions;
    asked = h.asked;
    few = h.few.few nodes join;
    sized = h.few.sized nodes join;
  }

  -- partitions were flushed, behind one question
  flushed_by : (none : Bool) (node parts a b : ℕ) (old new : List Event) (notes : List Note) → AreFew 0 rows notes → map event_value new ≡ map event_value old ++ cond none [] (worlds.Close node worlds.OfProbe ∷ events_of [] node notes) → Counts 1 a b → KeepsPace workers rows a b old new
  flushed_by true node parts a b old new notes few is asked = pace-more 1 a b old new [] (omega arith) tt is asked
  flushed_by false node parts a b old new notes few is asked =
      let events = events_of [] node notes in
      let none = few.few [] node in
      pace-more 1 a b old new (worlds.Close node worlds.OfProbe ∷ events) (omega (arith, none)) (tt, few.sized [] node) is asked

  pub pace-flushed : (lanes node parts a b : ℕ) (old new : List Event) (notes : List Note) → IsNotedSince lanes parts (entries_of_parts parts) [] notes → map event_value new ≡ map event_value old ++ ending_of node parts notes → b ≡ counted 1 a → KeepsPace workers rows a b old new
  pace-flushed lanes node parts a b old new notes h is asked =
      let few = subst (AreFew 0 rows) (sym h.whole) (flushes_few parts rows h.lanes h.noted) in
      flushed_by (parts == 0) node parts a b old new notes few is (counts-one 1 a b asked)

-- lanes took a source, round by round
pub pace-noted : (context : PExecutionContext) (lanes index : ℕ) (batches : List (List Morsel)) (left new : List Left) (a b : ℕ) (notes notes' : List Note) → Gives (4 * context.workers) context.chunk_rows index batches left new → AreNotedBehind lanes batches notes notes' → Counts (length batches) a b → NotesKeepPace context.workers context.chunk_rows a b notes notes'
pace-noted context lanes index batches left new a b notes notes' gave h asked = record {
  since = h.since;
  whole = h.whole;
  questions = length batches;
  asked = asked;
  few = takes_few lanes (4 * context.workers) context.chunk_rows index batches left new h.since context.rows_in gave h.noted;
}

-- ---- engines

module _ {H : Type 0} where
  pub pace_none : (a : ℕ) (e : Engine H) → HasKeptPace a a e e
  pace_none a e = pace-none e.context.workers e.context.chunk_rows a e.journal.items

  pub pace_then : (a b c : ℕ) (old mid new : Engine H) → mid.context ≡ old.context → HasKeptPace a b old mid → HasKeptPace b c mid new → HasKeptPace a c old new
  pace_then a b c old mid new same first second =
      let P : PExecutionContext → Type 0 = λ context. KeepsPace context.workers context.chunk_rows b c mid.journal.items new.journal.items in
      pace-both old.context.workers old.context.chunk_rows a b c old.journal.items mid.journal.items new.journal.items first (subst P same second)

  -- nothing was written
  pub pace_asked : (n a b : ℕ) (old new : Engine H) → new.journal ≡ old.journal → RisesBy n a b → HasKeptPace a b old new
  pace_asked n a b old new same h = pace-asked old.context.workers old.context.chunk_rows n a b old.journal.items new.journal.items (ap (λ j. j.items) same) h

  pub pace_still : (a : ℕ) (old new : Engine H) → new.journal ≡ old.journal → HasKeptPace a a old new
  pace_still a old new same = pace_asked 0 a a old new same (inl (omega arith))

  -- a sink was closed
  pub pace_closed : (place : SinkAt) (a : ℕ) (old new : Engine H) → WritesClose place old new → HasKeptPace a a old new
  pace_closed place a old new wrote = pace-closed old.context.workers old.context.chunk_rows place a old.journal.items new.journal.items wrote
