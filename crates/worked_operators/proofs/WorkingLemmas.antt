-- Seats taken and handed back, and flushes begun.
use Rattle.std.proofs.Common.{◌≡◌, ℕ, ◌<◌, List, [], ◌∷◌, ◌++◌, Option, Some, subst, sym, arith}
use Rattle.std.specs.Prelude.{All, option_to_list, IfSome}
use Rattle.std.proofs.lemmas.List.Elements.{All-nil, All-push, All-pop}
use Rattle.pipe_chain.specs.Flags.{SeatMarks, IsSeatOf}
use Rattle.pipe_outer.specs.Flush.{flush_start}
use Rattle.pipe_outer.specs.MarkProbe.{IsSeatAt, IsDue, IsDueOrNone}
use Rattle.pipe_outer.specs.Unmet.{FullRows, AreFresh, AreSeatsOf, EndsMarking, IsClosed}
use Rattle.pipe_outer.specs.declared.due.FlushDue.{FlushDue}
use Rattle.pipe_outer.specs.declared.marks.Marks.{Marks}
use Rattle.pipe_outer.specs.declared.marks.Marks.TheVariants as marks

pub fresh-seats : (it : Marks) (count : ℕ) (seats : List SeatMarks) → AreFresh count it seats → AreSeatsOf it seats
fresh-seats (marks.Running flags) count seats fresh = fresh.2
fresh-seats (marks.Closed flags) count seats fresh = fresh

pub no-seats : (it : Marks) (seats back : List SeatMarks) → back ≡ [] → AreSeatsOf it seats → AreSeatsOf it back
no-seats (marks.Running flags) seats back none h = subst (All (IsSeatOf flags.table)) (sym none) (All-nil (IsSeatOf flags.table))
no-seats (marks.Closed flags) seats back none h = h

pub seats-left : (it : Marks) (seats left : List SeatMarks) (taken : Option SeatMarks) → seats ≡ left ++ option_to_list taken → AreSeatsOf it seats → AreSeatsOf it left
seats-left (marks.Running flags) seats left taken e h = (All-pop (IsSeatOf flags.table) seats left taken e h).0
seats-left (marks.Closed flags) seats left taken e h = h

pub seat-taken : (it : Marks) (seats left : List SeatMarks) (taken : Option SeatMarks) (seat : SeatMarks) → taken ≡ Some seat → seats ≡ left ++ option_to_list taken → AreSeatsOf it seats → IsSeatAt it seat
seat-taken (marks.Running flags) seats left taken seat is e h = subst (λ (o : Option SeatMarks). IfSome o (IsSeatOf flags.table)) is (All-pop (IsSeatOf flags.table) seats left taken e h).1
seat-taken (marks.Closed flags) seats left taken seat is e h = h

pub seat-back : (it : Marks) (back more : List SeatMarks) (seat : SeatMarks) → more ≡ back ++ seat ∷ [] → AreSeatsOf it back → IsSeatAt it seat → AreSeatsOf it more
seat-back (marks.Running flags) back more seat e h s = subst (All (IsSeatOf flags.table)) (sym e) (All-push (IsSeatOf flags.table) back seat h s)
seat-back (marks.Closed flags) back more seat e h s = h

pub closed-now : (it after : Marks) (seats : List SeatMarks) → EndsMarking it seats after → IsClosed after
closed-now (marks.Running flags) (marks.Running later) seats h = h
closed-now (marks.Running flags) (marks.Closed closed) seats h = tt
closed-now (marks.Closed flags) (marks.Running later) seats h = h
closed-now (marks.Closed flags) (marks.Closed closed) seats h = tt

pub starts-due : {H : Type 0} (hash_of : List ℕ → ℕ) (full : FullRows H) (p parts : ℕ) (due : Option FlushDue) → full.table.parts ≡ parts → p < parts → due ≡ Some (record { partition = p; from = flush_start }) → IsDueOrNone hash_of full due
starts-due hash_of full p parts due are inside is =
    let begun : FlushDue = record { partition = p; from = flush_start } in
    let starts : IsDue hash_of full begun = record {
      partition = omega (arith, are, inside);
      place = record { key_in = omega arith; position_in = omega arith };
    } in
    subst (IsDueOrNone hash_of full) (sym is) starts
