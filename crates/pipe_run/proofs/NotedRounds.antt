-- What lanes noted of the chunks of a round: takes of one source, with the positions of the chunks.
use Rattle.std.proofs.Common.{◌≡◌, ℕ, zero, suc, ◌+◌, ◌<◌, ◌≤◌, Bool, true, false, List, [], ◌∷◌, ◌++◌, length, map, slice_index_or, refl, ap, sym, ◌∙◌, arith, append-nil}
use Rattle.std.specs.List.{AllByRecursion, flat_map, range_with_len}
use Rattle.std.proofs.lemmas.List.Concat.{flat_map-append}
use Rattle.pipe_ops.specs.declared.source.Morsel.{Morsel}
use Rattle.pipe_chain.specs.Sums.{total}
use Rattle.pipe_chain.proofs.SumLemmas.{total-append}
use Rattle.pipe_events.specs.Worlds as worlds
use Rattle.pipe_events.specs.Worlds.{Event}
use Rattle.pipe_events.specs.Rounds.{Chunk, positions_in, positions, takes}
use Rattle.pipe_run.specs.declared.entry.Entry.{Entry}
use Rattle.pipe_run.specs.Claimed.{entries_at}
use Rattle.pipe_run.specs.Dealt.{in_all}
use Rattle.pipe_run.specs.declared.note.Note.{Note}
use Rattle.pipe_run.specs.Notes.{note_by, notes_of, notes_from, AreNoted, event_of, events_of}
use Rattle.pipe_run.proofs.Places.{places, IsPart}

pub by_test : (C : Type 0) → (b : Bool) → (b ≡ true → C) → (b ≡ false → C) → C
by_test C b f g = elim b as (λ x. b ≡ x → C) [ true ↦ f | false ↦ g ] refl

pub map_both : {A B : Type 0} (f : A → B) (a c : List A) → map f (a ++ c) ≡ map f a ++ map f c
map_both f [] c = refl
map_both f (x ∷ a) c = ap (λ l. f x ∷ l) (map_both f a c)

pub all_both : {A : Type 0} (P : A → Type 0) (a c : List A) → AllByRecursion P a → AllByRecursion P c → AllByRecursion P (a ++ c)
all_both P [] c h k = k
all_both P (x ∷ a) c h k = (h.0, all_both P a c h.1 k)

pub takes_both : (source : ℕ) (a c : List Chunk) → takes source (a ++ c) ≡ takes source a ++ takes source c
takes_both source [] c = refl
takes_both source (x ∷ a) c = ap (λ l. worlds.Take x.worker source x.from x.amount ∷ worlds.Done x.worker ∷ l) (takes_both source a c)

-- a worker of a run took some rows
pub record IsPiece (workers : ℕ) (chunk : Chunk) : Type 0 where
  pub worker : chunk.worker < workers
  pub some : 1 ≤ chunk.amount

-- a round took the positions of some chunks of a source, each once
pub record IsRound (workers source : ℕ) (ms : List Morsel) (events : List Event) : Type 0 where
  pub chunks : List Chunk
  pub whole : events ≡ takes source chunks
  pub each : AllByRecursion (IsPiece workers) chunks
  pub once : (w : ℕ → ℕ) → total w (positions chunks) ≡ total w (flat_map places ms)

-- the chunk of a number, none past the last, as a worker takes it; and its positions
abbrev chunk_at : ℕ → List Morsel → ℕ → List Chunk
chunk_at i [] n = []
chunk_at i (m ∷ ms) zero = record { worker = i; from = m.from; amount = length m.chunk.frame.rows } ∷ []
chunk_at i (m ∷ ms) (suc n) = chunk_at i ms n

abbrev places_at : List Morsel → ℕ → List ℕ
places_at [] n = []
places_at (m ∷ ms) zero = places m
places_at (m ∷ ms) (suc n) = places_at ms n

-- those of a lane, and of all lanes from one on
abbrev chunks_of : ℕ → List Morsel → List ℕ → List Chunk
chunks_of i ms ns = flat_map (chunk_at i ms) ns

abbrev chunks_from : ℕ → List Morsel → List (List ℕ) → List Chunk
chunks_from i ms [] = []
chunks_from i ms (ns ∷ nss) = chunks_of i ms ns ++ chunks_from (suc i) ms nss

-- ---- the events

module _ (nodes : List ℕ) (join : ℕ) where
  pub events_both : (a c : List Note) → events_of nodes join (a ++ c) ≡ events_of nodes join a ++ events_of nodes join c
  events_both a c = map_both (event_of nodes join) a c

  -- the events of a lane's entries
  abbrev pub lane_events : ℕ → List Entry → List Event
  lane_events i entries = events_of nodes join (notes_of i entries)

  pub lane_both : (i : ℕ) (a c : List Entry) → lane_events i (a ++ c) ≡ lane_events i a ++ lane_events i c
  lane_both i a c = ap (events_of nodes join) (map_both (note_by i) a c) ∙ events_both (notes_of i a) (notes_of i c)

  module _ (part source : ℕ) (there : slice_index_or nodes part 0 ≡ source) where
    at_takes : (i : ℕ) (ms : List Morsel) → AllByRecursion (IsPart part) ms → (n : ℕ) → lane_events i (entries_at ms n) ≡ takes source (chunk_at i ms n)
    at_takes i [] h n = refl
    at_takes i (m ∷ ms) h zero =
        ap (λ s. worlds.Take i s m.from (length m.chunk.frame.rows) ∷ worlds.Done i ∷ []) (ap (λ p. slice_index_or nodes p 0) h.0.part_is ∙ there)
    at_takes i (m ∷ ms) h (suc n) = at_takes i ms h.1 n

    lane_takes : (i : ℕ) (ms : List Morsel) → AllByRecursion (IsPart part) ms → (ns : List ℕ) → lane_events i (flat_map (entries_at ms) ns) ≡ takes source (chunks_of i ms ns)
    lane_takes i ms h [] = refl
    lane_takes i ms h (n ∷ ns) =
        lane_both i (entries_at ms n) (flat_map (entries_at ms) ns)
        ∙ ap (λ l. l ++ lane_events i (flat_map (entries_at ms) ns)) (at_takes i ms h n)
        ∙ ap (λ l. takes source (chunk_at i ms n) ++ l) (lane_takes i ms h ns)
        ∙ sym (takes_both source (chunk_at i ms n) (chunks_of i ms ns))

    round_takes : (i : ℕ) (ms : List Morsel) → AllByRecursion (IsPart part) ms → (nss : List (List ℕ)) → events_of nodes join (notes_from i (map (flat_map (entries_at ms)) nss)) ≡ takes source (chunks_from i ms nss)
    round_takes i ms h [] = refl
    round_takes i ms h (ns ∷ nss) =
        events_both (notes_of i (flat_map (entries_at ms) ns)) (notes_from (suc i) (map (flat_map (entries_at ms)) nss))
        ∙ ap (λ l. l ++ events_of nodes join (notes_from (suc i) (map (flat_map (entries_at ms)) nss))) (lane_takes i ms h ns)
        ∙ ap (λ l. takes source (chunks_of i ms ns) ++ l) (round_takes (suc i) ms h nss)
        ∙ sym (takes_both source (chunks_of i ms ns) (chunks_from (suc i) ms nss))

-- ---- the positions

positions_both : (a c : List Chunk) → positions (a ++ c) ≡ positions a ++ positions c
positions_both a c = flat_map-append positions_in a c

pub spread : (w : ℕ → ℕ) (a c : List Chunk) → total w (positions (a ++ c)) ≡ total w (positions a) + total w (positions c)
spread w a c = ap (total w) (positions_both a c) ∙ total-append w (positions a) (positions c)

at_places : (i : ℕ) (ms : List Morsel) (n : ℕ) → positions (chunk_at i ms n) ≡ places_at ms n
at_places i [] n = refl
at_places i (m ∷ ms) zero = append-nil (places m)
at_places i (m ∷ ms) (suc n) = at_places i ms n

lane_places : (w : ℕ → ℕ) (i : ℕ) (ms : List Morsel) (ns : List ℕ) → total w (positions (chunks_of i ms ns)) ≡ total (λ n. total w (places_at ms n)) ns
lane_places w i ms [] = refl
lane_places w i ms (n ∷ ns) =
    let both = spread w (chunk_at i ms n) (chunks_of i ms ns) in
    let here = ap (total w) (at_places i ms n) in
    let rest = lane_places w i ms ns in
    omega (arith, both, here, rest)

round_places : (w : ℕ → ℕ) (i : ℕ) (ms : List Morsel) (nss : List (List ℕ)) → total w (positions (chunks_from i ms nss)) ≡ total (λ n. total w (places_at ms n)) (in_all nss)
round_places w i ms [] = refl
round_places w i ms (ns ∷ nss) =
    let both = spread w (chunks_of i ms ns) (chunks_from (suc i) ms nss) in
    let here = lane_places w i ms ns in
    let rest = round_places w (suc i) ms nss in
    let split = total-append (λ n. total w (places_at ms n)) ns (in_all nss) in
    omega (arith, both, here, rest, split)

total_next : (f g : ℕ → ℕ) → ((n : ℕ) → f (n + 1) ≡ g n) → (k a : ℕ) → total f (range_with_len (a + 1) k) ≡ total g (range_with_len a k)
total_next f g step zero a = refl
total_next f g step (suc k) a = omega (arith, step a, total_next f g step k (a + 1))

total_places : (w : ℕ → ℕ) (ms : List Morsel) → total (λ n. total w (places_at ms n)) (range_with_len 0 (length ms)) ≡ total w (flat_map places ms)
total_places w [] = refl
total_places w (m ∷ ms) =
    let next = total_next (λ n. total w (places_at (m ∷ ms) n)) (λ n. total w (places_at ms n)) (λ n. let e : n + 1 ≡ suc n = omega arith in ap (λ k. total w (places_at (m ∷ ms) k)) e) (length ms) 0 in
    omega (arith, total-append w (places m) (flat_map places ms), next, total_places w ms)

-- ---- each piece

module _ (workers part : ℕ) where
  at_pieces : (i : ℕ) → i < workers → (ms : List Morsel) → AllByRecursion (IsPart part) ms → (n : ℕ) → AllByRecursion (IsPiece workers) (chunk_at i ms n)
  at_pieces i less [] h n = tt
  at_pieces i less (m ∷ ms) h zero = (record { worker = less; some = h.0.some }, tt)
  at_pieces i less (m ∷ ms) h (suc n) = at_pieces i less ms h.1 n

  lane_pieces : (i : ℕ) → i < workers → (ms : List Morsel) → AllByRecursion (IsPart part) ms → (ns : List ℕ) → AllByRecursion (IsPiece workers) (chunks_of i ms ns)
  lane_pieces i less ms h [] = tt
  lane_pieces i less ms h (n ∷ ns) = all_both (IsPiece workers) (chunk_at i ms n) (chunks_of i ms ns) (at_pieces i less ms h n) (lane_pieces i less ms h ns)

  round_pieces : (i : ℕ) (ms : List Morsel) → AllByRecursion (IsPart part) ms → (nss : List (List ℕ)) → i + length nss ≤ workers → AllByRecursion (IsPiece workers) (chunks_from i ms nss)
  round_pieces i ms h [] less = tt
  round_pieces i ms h (ns ∷ nss) less =
      all_both (IsPiece workers) (chunks_of i ms ns) (chunks_from (suc i) ms nss) (lane_pieces i (omega (arith, less)) ms h ns) (round_pieces (suc i) ms h nss (omega (arith, less)))

long_map : {A B : Type 0} (f : A → B) (xs : List A) → length (map f xs) ≡ length xs
long_map f [] = refl
long_map f (x ∷ xs) = ap suc (long_map f xs)

-- a round over chunks of one frame
pub is_round : (workers part source : ℕ) (nodes : List ℕ) (join : ℕ) (ms : List Morsel) (lanes : List (List Entry)) → slice_index_or nodes part 0 ≡ source → AllByRecursion (IsPart part) ms
    → AreNoted (length ms) (entries_at ms) lanes → length lanes ≤ workers → IsRound workers source ms (events_of nodes join (notes_from 0 lanes))
is_round workers part source nodes join ms lanes there parts h few =
    let long = ap length h.noted ∙ long_map (flat_map (entries_at ms)) h.numbers in
    record {
      chunks = chunks_from 0 ms h.numbers;
      whole = ap (λ l. events_of nodes join (notes_from 0 l)) h.noted ∙ round_takes nodes join part source there 0 ms parts h.numbers;
      each = round_pieces workers part 0 ms parts h.numbers (omega (arith, long, few));
      once = λ w. (
          let all = round_places w 0 ms h.numbers in
          let same = h.each_once (λ n. total w (places_at ms n)) in
          let whole = total_places w ms in
          omega (arith, all, same, whole));
    }

-- ---- no chunk

none_at : (ns : List ℕ) → flat_map (entries_at []) ns ≡ []
none_at [] = refl
none_at (n ∷ ns) = none_at ns

none_from : (i : ℕ) (nss : List (List ℕ)) → notes_from i (map (flat_map (entries_at [])) nss) ≡ []
none_from i [] = refl
none_from i (ns ∷ nss) = ap (λ l. notes_of i l ++ notes_from (suc i) (map (flat_map (entries_at [])) nss)) (none_at ns) ∙ none_from (suc i) nss

pub no_round : (ms : List Morsel) (lanes : List (List Entry)) → ms ≡ [] → AreNoted (length ms) (entries_at ms) lanes → notes_from 0 lanes ≡ []
no_round ms lanes none h =
    let noted : lanes ≡ map (flat_map (entries_at [])) h.numbers = h.noted ∙ ap (λ l. map (flat_map (entries_at l)) h.numbers) none in
    ap (notes_from 0) noted ∙ none_from 0 h.numbers
