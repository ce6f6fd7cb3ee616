-- A source that went through rounds of lanes until it was out was taken, frame by frame.
use Rattle.std.proofs.Common.{◌≡◌, ℕ, zero, suc, ◌+◌, ◌-◌, ◌*◌, ◌<◌, ◌≤◌, List, [], ◌∷◌, ◌++◌, length, slice_index_or, refl, ap, sym, ◌∙◌, subst, arith, append_assoc, length-drop}
use Rattle.std.specs.List.{AllByRecursion, flat_map, range_with_len}
use Rattle.std.proofs.lemmas.Bool.{cases_lt}
use Rattle.pipe_schema.specs.Rows.{Row}
use Rattle.pipe_ops.specs.Batches.{Left, cut, batch, after_batch, passed, pick}
use Rattle.pipe_ops.specs.declared.source.Morsel.{Morsel}
use Rattle.pipe_chain.specs.Sums.{one_at, times, total}
use Rattle.pipe_chain.proofs.SumLemmas.{total-append}
use Rattle.pipe_chain.proofs.OnceLemmas.{one_draw, no_draw}
use Rattle.pipe_events.specs.Stages.{Stages}
use Rattle.pipe_events.specs.Worlds.{Event, count}
use Rattle.pipe_events.specs.Rounds.{Chunk, positions_in, positions, takes}
use Rattle.pipe_events.specs.Runs.{supply, IsChunkOf, AreAllOf, SourcesTaken}
use Rattle.pipe_events.proofs.Members.{either, count_append, count_head}
use Rattle.pipe_run.specs.declared.note.Note.{Note}
use Rattle.pipe_run.specs.Notes.{notes_from, events_of}
use Rattle.pipe_run.specs.NotedRounds.{rows_left, Gives, AreNotedInTurn, AreSupplied}
use Rattle.pipe_run.specs.Laws.{SourcesAreTaken}
use Rattle.pipe_run.proofs.Places.{places, IsPart, cut_places, cut_parts, no_matter}
use Rattle.pipe_run.proofs.NotedRounds.{all_both, takes_both, IsPiece, is_round, no_round, events_both, spread}

-- ---- what a source gave from a frame on

abbrev GaveFrom : (count size part index : ℕ) → List (List Morsel) → (old new : List Left) → Type 0
GaveFrom count size part index [] old new = new ≡ old
GaveFrom count size part index (ms ∷ batches) old new = (ms ≡ batch count size index part old) × GaveFrom count size part (index + length ms) batches (after_batch count size old) new

gave_from : (count size index : ℕ) (batches : List (List Morsel)) (old new : List Left) → Gives count size index batches old new → GaveFrom count size 0 index batches old new
gave_from count size index [] old new h = h
gave_from count size index (ms ∷ batches) old new h = (h.0, gave_from count size (index + length ms) batches (after_batch count size old) new h.1)

-- the frame is out: the others give the chunks
record Skipped (count size part index : ℕ) (l : Left) (batches : List (List Morsel)) (ls new : List Left) : Type 0 where
  others : List Left
  is : new ≡ l ∷ others
  gave : GaveFrom count size (part + 1) index batches ls others

skip : (count size part index : ℕ) (l : Left) (batches : List (List Morsel)) (ls new : List Left) → l.rows ≡ [] → GaveFrom count size part index batches (l ∷ ls) new → Skipped count size part index l batches ls new
skip count size part index l [] ls new none h = record { others = ls; is = h; gave = refl }
skip count size part index l (ms ∷ batches) ls new none h =
    let here : ms ≡ batch count size index (part + 1) ls = h.0 ∙ ap (λ r. pick r (batch count size index (part + 1) ls) (cut count size index part l.from l.schema l.rows)) none in
    let after : after_batch count size (l ∷ ls) ≡ l ∷ after_batch count size ls = ap (λ r. pick r (l ∷ after_batch count size ls) (passed (count * size) l ∷ ls)) none in
    let rest = skip count size part (index + length ms) l batches (after_batch count size ls) new none (subst (λ o. GaveFrom count size part (index + length ms) batches o new) after h.1) in
    record { others = rest.others; is = rest.is; gave = (here, rest.gave) }

module _ (workers count size join : ℕ) (nodes : List ℕ) (some_size : 0 < size) where
  abbrev all_events : List Note → List Event
  all_events notes = events_of nodes join notes

  -- the first rounds take what is left of a frame, and the others what is left of those behind it
  record FrameTaken (part n : ℕ) (l : Left) (ls : List Left) (notes : List Note) : Type 0 where
    chunks : List Chunk
    each : AllByRecursion (IsPiece workers) chunks
    once : (w : ℕ → ℕ) → total w (positions chunks) ≡ total w (range_with_len l.from (length l.rows))
    later : List Note
    events : all_events notes ≡ takes n chunks ++ all_events later
    batches : List (List Morsel)
    index : ℕ
    new : List Left
    gave : GaveFrom count size (part + 1) index batches ls new
    out : rows_left new ≡ []
    noted : AreNotedInTurn workers batches later

  nothing_left : (l : Left) (x : Row) (xs : List Row) (ls new : List Left) → l.rows ≡ x ∷ xs → new ≡ l ∷ ls → rows_left new ≡ [] → ⊥
  nothing_left l x xs ls new is e out =
      let same : x ∷ (xs ++ rows_left ls) ≡ [] = ap (λ r. r ++ rows_left ls) (sym is) ∙ (ap rows_left (sym e) ∙ out) in cc

  frame_by : (part n index : ℕ) (l : Left) (rows : List Row) (ls new : List Left) (batches : List (List Morsel)) (notes : List Note) → slice_index_or nodes part 0 ≡ n → l.rows ≡ rows
      → GaveFrom count size part index batches (l ∷ ls) new → rows_left new ≡ [] → AreNotedInTurn workers batches notes → FrameTaken part n l ls notes
  frame_by part n index l [] ls new batches notes there is gave out noted =
      let s = skip count size part index l batches ls new is gave in
      record {
        chunks = [];
        each = tt;
        once = λ w. ap (λ r. total w (range_with_len l.from (length r))) (sym is);
        later = notes;
        events = refl;
        batches = batches;
        index = index;
        new = s.others;
        gave = s.gave;
        out = ap (λ r. r ++ rows_left s.others) (sym is) ∙ (ap rows_left (sym s.is) ∙ out);
        noted = noted;
      }
  frame_by part n index l (x ∷ xs) ls new [] notes there is gave out noted = absurd (nothing_left l x xs ls new is gave out)
  frame_by part n index l (x ∷ xs) ls new (ms ∷ batches) notes there is gave out noted =
      let next = passed (count * size) l in
      let took = length-drop (count * size) l.rows in
      let chunks_are : ms ≡ cut count size index part l.from l.schema l.rows = gave.0 ∙ ap (λ r. pick r (batch count size index (part + 1) ls) (cut count size index part l.from l.schema l.rows)) is in
      let after : after_batch count size (l ∷ ls) ≡ next ∷ ls = ap (λ r. pick r (l ∷ after_batch count size ls) (next ∷ ls)) is in
      let parts : AllByRecursion (IsPart part) ms = subst (AllByRecursion (IsPart part)) (sym chunks_are) (cut_parts count size index part l.from l.schema l.rows some_size) in
      let r = is_round workers part n nodes join ms noted.lanes there parts noted.noted noted.few in
      let f : FrameTaken part n next ls noted.later = frame_by part n (index + length ms) next next.rows ls new batches noted.later there refl (subst (λ o. GaveFrom count size part (index + length ms) batches o new) after gave.1) out noted.rest in
      record {
        chunks = r.chunks ++ f.chunks;
        each = all_both (IsPiece workers) r.chunks f.chunks r.each f.each;
        once = λ w. (
            let both = spread w r.chunks f.chunks in
            let first = r.once w in
            let here = ap (λ l. total w (flat_map places l)) chunks_are in
            let rest = f.once w in
            let goes_on = ap (total w) (no_matter l.from (count * size) (length l.rows) (length next.rows) took) in
            let whole = ap (total w) (cut_places count size index part l.from l.schema l.rows) in
            let split = total-append w (flat_map places (cut count size index part l.from l.schema l.rows)) (range_with_len (l.from + count * size) (length next.rows)) in
            omega (arith, both, first, here, rest, goes_on, whole, split));
        later = f.later;
        events =
            ap all_events noted.whole
            ∙ events_both nodes join (notes_from 0 noted.lanes) noted.later
            ∙ ap (λ a. a ++ all_events noted.later) r.whole
            ∙ ap (λ a. takes n r.chunks ++ a) f.events
            ∙ sym (append_assoc (takes n r.chunks) (takes n f.chunks) (all_events f.later))
            ∙ ap (λ a. a ++ all_events f.later) (sym (takes_both n r.chunks f.chunks));
        batches = f.batches;
        index = f.index;
        new = f.new;
        gave = f.gave;
        out = f.out;
        noted = f.noted;
      }

  no_frames : (part index : ℕ) (batches : List (List Morsel)) (new : List Left) (notes : List Note) → GaveFrom count size part index batches [] new → AreNotedInTurn workers batches notes → all_events notes ≡ []
  no_frames part index [] new notes gave noted = ap all_events noted
  no_frames part index (ms ∷ batches) new notes gave noted =
      let none : notes ≡ noted.later = noted.whole ∙ ap (λ l. l ++ noted.later) (no_round ms noted.lanes gave.0 noted.noted) in
      ap all_events none ∙ no_frames part (index + length ms) batches new noted.later gave.1 noted.rest

-- ---- each position once

pub count_times : (p : ℕ) (ns : List ℕ) → count p ns ≡ times p ns
count_times p [] = refl
count_times p (n ∷ ns) = ap (λ k. one_at p n + k) (count_times p ns)

in_range : (a n p i : ℕ) → p ≡ a + i → i < n → 1 ≤ count p (range_with_len a n)
in_range a zero p i e lt = absurd (omega (arith, lt))
in_range a (suc n) p zero e lt =
    let same : p ≡ a = omega (arith, e) in
    let first : 1 ≤ count a (a ∷ range_with_len (a + 1) n) = (let h = count_head a (range_with_len (a + 1) n) in omega (arith, h)) in
    subst (λ q. 1 ≤ count q (a ∷ range_with_len (a + 1) n)) (sym same) first
in_range a (suc n) p (suc i) e lt =
    let rest = in_range (a + 1) n p i (omega (arith, e)) (omega (arith, lt)) in
    let both = count_append p (a ∷ []) (range_with_len (a + 1) n) in
    omega (arith, rest, both)

module _ (plan : Stages) (n : ℕ) where
  fits : (cs : List Chunk) → AllByRecursion (IsPiece plan.workers) cs → ((p : ℕ) → 1 ≤ count p (positions cs) → p < supply plan n) → AllByRecursion (IsChunkOf plan n) cs
  fits [] each inside = tt
  fits (c ∷ cs) each inside =
      let some = each.0.some in
      let last = c.from + (c.amount - 1) in
      let here = in_range c.from c.amount last (c.amount - 1) refl (omega (arith, some)) in
      let both : count last (positions (c ∷ cs)) ≡ count last (positions_in c) + count last (positions cs) = count_append last (positions_in c) (positions cs) in
      let below = inside last (omega (arith, here, both)) in (
        record { is_worker = each.0.worker; some = some; there = omega (arith, below, some) },
        fits cs each.1 (λ p l. inside p (let split = count_append p (positions_in c) (positions cs) in omega (arith, l, split))),
      )

  all_of : (cs : List Chunk) → AllByRecursion (IsPiece plan.workers) cs → ((w : ℕ → ℕ) → total w (positions cs) ≡ total w (range_with_len 0 (supply plan n))) → AreAllOf plan n cs
  all_of cs each once =
      let same : (p : ℕ) → count p (positions cs) ≡ times p (range_with_len 0 (supply plan n)) = λ p. count_times p (positions cs) ∙ once (one_at p) in
      record {
        each = fits cs each (λ p l. either (λ lt. lt) (λ le. absurd (let e = same p in let none = no_draw (supply plan n) p le in omega (arith, l, e, none))) (cases_lt p (supply plan n)));
        once = λ p. either (λ lt. (let e = same p in let one = one_draw (supply plan n) p lt in omega (arith, e, one))) (λ le. (let e = same p in let none = no_draw (supply plan n) p le in omega (arith, e, none))) (cases_lt p (supply plan n));
        all = λ p lt. (let e = same p in let one = one_draw (supply plan n) p lt in omega (arith, e, one));
      }

-- ---- frame by frame

module _ (plan : Stages) (count size join : ℕ) (nodes : List ℕ) (some_size : 0 < size) where
  sources : (ns : List ℕ) (ls : List Left) (part index : ℕ) (batches : List (List Morsel)) (new : List Left) (notes : List Note)
      → ((i : ℕ) → slice_index_or nodes (part + i) 0 ≡ slice_index_or ns i 0) → AreSupplied plan ns ls → GaveFrom count size part index batches ls new → rows_left new ≡ []
      → AreNotedInTurn plan.workers batches notes → SourcesTaken plan ns (events_of nodes join notes)
  sources [] [] part index batches new notes at supplied gave out noted = no_frames plan.workers count size join nodes some_size part index batches new notes gave noted
  sources [] (l ∷ ls) part index batches new notes at supplied gave out noted = absurd supplied
  sources (n ∷ ns) [] part index batches new notes at supplied gave out noted = absurd supplied
  sources (n ∷ ns) (l ∷ ls) part index batches new notes at supplied gave out noted =
      let here : slice_index_or nodes part 0 ≡ n = ap (λ k. slice_index_or nodes k 0) (let e : part ≡ part + 0 = omega arith in e) ∙ at 0 in
      let f = frame_by plan.workers count size join nodes some_size part n index l l.rows ls new batches notes here refl gave out noted in
      record {
        first = takes n f.chunks;
        rest = events_of nodes join f.later;
        whole = f.events;
        is_first = record {
          chunks = f.chunks;
          whole = refl;
          are_all = all_of plan n f.chunks f.each (λ w. f.once w ∙ ap (λ k. total w (range_with_len k (length l.rows))) supplied.0 ∙ ap (λ k. total w (range_with_len 0 k)) supplied.1);
        };
        is_rest = sources ns ls (part + 1) f.index f.batches f.new f.later (λ i. ap (λ k. slice_index_or nodes k 0) (let e : part + 1 + i ≡ part + suc i = omega arith in e) ∙ at (suc i)) supplied.2 f.gave f.out f.noted;
      }

pub taken : SourcesAreTaken
taken plan nodes join count size index batches left new notes some supplied gave out noted =
    sources plan count size join nodes some nodes left 0 index batches new notes (λ i. ap (λ k. slice_index_or nodes k 0) (let e : 0 + i ≡ i = omega arith in e)) supplied (gave_from count size index batches left new gave) out noted
