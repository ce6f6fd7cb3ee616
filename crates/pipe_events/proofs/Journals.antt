-- Journals grow by rounds, since lists of events join.
use Rattle.std.proofs.Common.{◌≡◌, List, [], ◌∷◌, ◌++◌, Some, refl, ap, sym, ◌∙◌, subst}
use Rattle.pipe_events.specs.Stages.{Stages}
use Rattle.pipe_events.specs.Worlds.{World, Event, Close, start, closed_above}
use Rattle.pipe_events.specs.Schedules.{AllAllowed, run}
use Rattle.pipe_events.proofs.Tied.{lists_join}
use Rattle.pipe_events.specs.Rounds.{takes, flushing, HasTaken, HasFlushed}
use Rattle.pipe_events.specs.Journals.{world_after, Stands, HasClosed, EmptyJournalsStand, JournalsTake, JournalsFlush, JournalsClose, JournalsEnd}
use Rattle.pipe_events.proofs.Rounds.{rounds_of_takes, rounds_of_flushes}

module _ (plan : Stages) (events : List Event) (stands : Stands plan events) (later : List Event) where
  abbrev now : World
  now = world_after plan events

  grown : world_after plan (events ++ later) ≡ run plan now later
  grown = (lists_join plan start events later).1

  grows : AllAllowed plan now later → (run plan now later).pending ≡ [] → Stands plan (events ++ later)
  grows allowed idle = record {
    allowed = (lists_join plan start events later).0.1 (stands.allowed, allowed);
    idle = ap (λ w. w.pending) grown ∙ idle;
  }

pub empty_journals : EmptyJournalsStand
empty_journals plan = record { allowed = tt; idle = refl }

pub journals_take : JournalsTake
journals_take plan ok events stands source chunks may =
    let later = takes source chunks in
    let round = rounds_of_takes plan ok (world_after plan events) source chunks may in (
      grows plan events stands later round.0 round.1.round.idle,
      subst (λ w. HasTaken source chunks (world_after plan events) w) (sym (grown plan events stands later)) round.1,
    )

pub journals_flush : JournalsFlush
journals_flush plan ok events stands k join parts may =
    let later = flushing k parts in
    let round = rounds_of_flushes plan ok (world_after plan events) k join parts may in (
      grows plan events stands later round.0 round.1.round.idle,
      subst (λ w. HasFlushed k parts (world_after plan events) w) (sym (grown plan events stands later)) round.1,
    )

pub journals_close : JournalsClose
journals_close plan events stands n side t may =
    let w = world_after plan events in
    let later = Close n side ∷ [] in
    let end : run plan w later ≡ closed_above (Some t) w = ap (λ below. closed_above below w) may.is_side in
    let here : HasClosed t w (closed_above (Some t) w) = record { closed = refl; taken = refl; flushed = refl; bag = refl } in (
      grows plan events stands later ((t, may), tt) (ap (λ v. v.pending) end ∙ stands.idle),
      subst (λ v. HasClosed t w v) (sym (grown plan events stands later ∙ end)) here,
    )

pub journals_end : JournalsEnd
journals_end plan events stands spent closed = record { spent = spent; nothing_pending = stands.idle; all_closed = closed }
