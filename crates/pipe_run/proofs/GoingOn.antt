-- Rounds that are noted one after another.
use Rattle.std.proofs.Common.{◌≡◌, ℕ, List, [], ◌∷◌, ◌++◌, length, refl, ap, sym, ◌∙◌, subst, append_assoc, append-nil, arith}
use Rattle.pipe_ops.specs.declared.source.Morsel.{Morsel}
use Rattle.pipe_run.specs.Claimed.{entries_at}
use Rattle.pipe_run.specs.declared.note.Note.{Note}
use Rattle.pipe_run.specs.declared.entry.Entry.{Entry}
use Rattle.pipe_run.specs.Notes.{notes_from}
use Rattle.pipe_run.specs.Noted.{IsNotedSince}
use Rattle.pipe_run.specs.NotedRounds.{AreNotedInTurn, AreNotedBehind}
use Rattle.pipe_run.specs.Laws.{NotesBegin, NotesGoOn}

-- notes of one round more, behind those of some
one_more : (workers : ℕ) (batches : List (List Morsel)) (ms : List Morsel) (taken later : List Note) → AreNotedInTurn workers batches taken → AreNotedInTurn workers (ms ∷ []) later → AreNotedInTurn workers (batches ++ ms ∷ []) (taken ++ later)
one_more workers [] ms taken later h last = subst (λ l. AreNotedInTurn workers (ms ∷ []) l) (ap (λ l. l ++ later) (sym h)) last
one_more workers (b ∷ batches) ms taken later h last = record {
  lanes = h.lanes;
  later = h.later ++ later;
  whole = ap (λ l. l ++ later) h.whole ∙ append_assoc (notes_from 0 h.lanes) h.later later;
  few = h.few;
  noted = h.noted;
  rest = one_more workers batches ms h.later later h.rest last;
}

pub go_on : NotesGoOn
go_on workers batches ms old now new so_far next =
    let mine : List Note = notes_from 0 next.lanes in
    record {
      since = so_far.since ++ mine;
      whole = next.whole ∙ ap (λ l. l ++ mine) so_far.whole ∙ append_assoc old so_far.since mine;
      noted = one_more workers batches ms so_far.since mine so_far.noted (record {
        lanes = next.lanes;
        later = [];
        whole = sym (append-nil mine);
        few = next.few;
        noted = next.noted;
        rest = refl;
      });
    }

pub begin : NotesBegin
begin workers old = record { since = []; whole = sym (append-nil old); noted = refl }

-- nothing was claimed, and nothing noted
pub none_noted : (workers : ℕ) (entries : ℕ → List Entry) (notes : List Note) → IsNotedSince workers 0 entries notes notes
none_noted workers entries notes = record {
  lanes = [];
  whole = sym (append-nil notes);
  few = omega arith;
  noted = record { numbers = []; each_once = λ weight. refl; noted = refl };
}
