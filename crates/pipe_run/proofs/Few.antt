-- How many takes lanes noted of what a source gave, and of how many rows.
use Rattle.std.proofs.Common.{◌≡◌, ℕ, zero, suc, ◌+◌, ◌*◌, ◌<◌, ◌≤◌, cond, List, [], ◌∷◌, ◌++◌, length, map, take, drop, refl, ap, sym, ◌∙◌, subst, arith}
use Rattle.std.specs.Prelude.{ltb}
use Rattle.std.specs.List.{AllByRecursion, flat_map, range_with_len}
use Rattle.pipe_schema.specs.Rows.{Row}
use Rattle.pipe_schema.specs.declared.field.Field.{Field}
use Rattle.pipe_ops.specs.Batches.{Left, cut, batch, after_batch, pick}
use Rattle.pipe_ops.specs.declared.source.Morsel.{Morsel}
use Rattle.pipe_chain.specs.Sums.{total}
use Rattle.pipe_chain.proofs.SumLemmas.{total-append}
use Rattle.pipe_events.specs.Worlds.{Event}
use Rattle.pipe_run.specs.declared.entry.Entry.{Entry}
use Rattle.pipe_run.specs.Claimed.{entries_at, entries_for_part}
use Rattle.pipe_run.specs.Dealt.{in_all}
use Rattle.pipe_run.specs.declared.note.Note.{Note}
use Rattle.pipe_run.specs.Notes.{notes_of, notes_from, events_of, AreNoted, entries_of_parts}
use Rattle.pipe_run.specs.Paced.{IsSized, takes_in, AreFew}
use Rattle.pipe_run.specs.NotedRounds.{Gives, AreNotedInTurn}
use Rattle.pipe_run.specs.Laws.{TakesAreFew, FlushesTakeNothing}
use Rattle.pipe_run.proofs.NotedRounds.{by_test, all_both, events_both, lane_events, lane_both}

-- ---- the chunks of a batch

-- some rows, at most so many
abbrev IsOfSize : (size : ℕ) → Morsel → Type 0
IsOfSize size m = (1 ≤ length m.chunk.frame.rows) × (length m.chunk.frame.rows ≤ size)

take_few : (k : ℕ) (l : List Row) → length (take k l) ≤ k
take_few zero l = omega arith
take_few (suc k) [] = omega arith
take_few (suc k) (y ∷ l) = omega (arith, take_few k l)

cut_few : (n size index part from : ℕ) (schema : List Field) (rows : List Row) → length (cut n size index part from schema rows) ≤ n
cut_few zero size index part from schema rows = omega arith
cut_few (suc n) size index part from schema [] = omega arith
cut_few (suc n) size index part from schema (x ∷ xs) = (let rest = cut_few n size (index + 1) part (from + size) schema (drop size (x ∷ xs)) in omega (arith, rest))

cut_sized : (n size index part from : ℕ) (schema : List Field) (rows : List Row) → 0 < size → AllByRecursion (IsOfSize size) (cut n size index part from schema rows)
cut_sized zero size index part from schema rows some = tt
cut_sized (suc n) size index part from schema [] some = tt
cut_sized (suc n) zero index part from schema (x ∷ xs) some = absurd (omega (arith, some))
cut_sized (suc n) (suc size) index part from schema (x ∷ xs) some =
    ((omega arith, (let few = take_few size xs in omega (arith, few))), cut_sized n (suc size) (index + 1) part (from + suc size) schema _ some)

pick_both : (P : List Morsel → Type 0) (rows : List Row) (none some : List Morsel) → P none → P some → P (pick rows none some)
pick_both P [] none some h k = h
pick_both P (x ∷ xs) none some h k = k

batch_few : (n size index part : ℕ) (left : List Left) → length (batch n size index part left) ≤ n
batch_few n size index part [] = omega arith
batch_few n size index part (l ∷ ls) = pick_both (λ ms. length ms ≤ n) l.rows _ _ (batch_few n size index (part + 1) ls) (cut_few n size index part l.from l.schema l.rows)

batch_sized : (n size index part : ℕ) (left : List Left) → 0 < size → AllByRecursion (IsOfSize size) (batch n size index part left)
batch_sized n size index part [] some = tt
batch_sized n size index part (l ∷ ls) some = pick_both (AllByRecursion (IsOfSize size)) l.rows _ _ (batch_sized n size index (part + 1) ls some) (cut_sized n size index part l.from l.schema l.rows some)

-- ---- lanes

pub takes_both : (a b : List Event) → takes_in (a ++ b) ≡ takes_in a + takes_in b
takes_both [] b = omega arith
takes_both (e ∷ es) b = omega (arith, takes_both es b)

-- each number has so many takes
module _ (join : ℕ) (nodes : List ℕ) (entries : ℕ → List Entry) (weigh : ℕ → ℕ) (each : (i n : ℕ) → takes_in (lane_events nodes join i (entries n)) ≡ weigh n) where
  lane_few : (i : ℕ) (ns : List ℕ) → takes_in (lane_events nodes join i (flat_map entries ns)) ≡ total weigh ns
  lane_few i [] = refl
  lane_few i (n ∷ ns) =
      let both = ap takes_in (lane_both nodes join i (entries n) (flat_map entries ns)) in
      let split = takes_both (lane_events nodes join i (entries n)) (lane_events nodes join i (flat_map entries ns)) in
      let here = each i n in
      let rest = lane_few i ns in
      omega (arith, both, split, here, rest)

  lanes_few : (i : ℕ) (nss : List (List ℕ)) → takes_in (events_of nodes join (notes_from i (map (flat_map entries) nss))) ≡ total weigh (in_all nss)
  lanes_few i [] = refl
  lanes_few i (ns ∷ nss) =
      let later = notes_from (suc i) (map (flat_map entries) nss) in
      let both = ap takes_in (events_both nodes join (notes_of i (flat_map entries ns)) later) in
      let split = takes_both (lane_events nodes join i (flat_map entries ns)) (events_of nodes join later) in
      let here = lane_few i ns in
      let rest = lanes_few (suc i) nss in
      let sum = total-append weigh ns (in_all nss) in
      omega (arith, both, split, here, rest, sum)

-- each take has some rows, at most so many
module _ (rows join : ℕ) (nodes : List ℕ) (entries : ℕ → List Entry) (fits : (i n : ℕ) → AllByRecursion (IsSized rows) (lane_events nodes join i (entries n))) where
  lane_sized : (i : ℕ) (ns : List ℕ) → AllByRecursion (IsSized rows) (lane_events nodes join i (flat_map entries ns))
  lane_sized i [] = tt
  lane_sized i (n ∷ ns) =
      subst (AllByRecursion (IsSized rows)) (sym (lane_both nodes join i (entries n) (flat_map entries ns)))
      (all_both (IsSized rows) (lane_events nodes join i (entries n)) (lane_events nodes join i (flat_map entries ns)) (fits i n) (lane_sized i ns))

  lanes_sized : (i : ℕ) (nss : List (List ℕ)) → AllByRecursion (IsSized rows) (events_of nodes join (notes_from i (map (flat_map entries) nss)))
  lanes_sized i [] = tt
  lanes_sized i (ns ∷ nss) =
      let later = notes_from (suc i) (map (flat_map entries) nss) in
      subst (AllByRecursion (IsSized rows)) (sym (events_both nodes join (notes_of i (flat_map entries ns)) later))
      (all_both (IsSized rows) (lane_events nodes join i (flat_map entries ns)) (events_of nodes join later) (lane_sized i ns) (lanes_sized (suc i) nss))

-- ---- a round over some chunks

-- 1 where a chunk has this number
abbrev is_at : List Morsel → ℕ → ℕ
is_at [] n = 0
is_at (m ∷ ms) zero = 1
is_at (m ∷ ms) (suc n) = is_at ms n

total_next : (f g : ℕ → ℕ) → ((n : ℕ) → f (n + 1) ≡ g n) → (k a : ℕ) → total f (range_with_len (a + 1) k) ≡ total g (range_with_len a k)
total_next f g step zero a = refl
total_next f g step (suc k) a = omega (arith, step a, total_next f g step k (a + 1))

all_at : (ms : List Morsel) → total (is_at ms) (range_with_len 0 (length ms)) ≡ length ms
all_at [] = refl
all_at (m ∷ ms) =
    let next = total_next (is_at (m ∷ ms)) (is_at ms) (λ n. let e : n + 1 ≡ suc n = omega arith in ap (is_at (m ∷ ms)) e) (length ms) 0 in
    omega (arith, next, all_at ms)

module _ (join : ℕ) (nodes : List ℕ) where
  at_few : (ms : List Morsel) (i n : ℕ) → takes_in (lane_events nodes join i (entries_at ms n)) ≡ is_at ms n
  at_few [] i n = refl
  at_few (m ∷ ms) i zero = omega arith
  at_few (m ∷ ms) i (suc n) = at_few ms i n

  at_sized : (size : ℕ) (ms : List Morsel) → AllByRecursion (IsOfSize size) ms → (i n : ℕ) → AllByRecursion (IsSized size) (lane_events nodes join i (entries_at ms n))
  at_sized size [] h i n = tt
  at_sized size (m ∷ ms) h i zero = (h.0, (tt, tt))
  at_sized size (m ∷ ms) h i (suc n) = at_sized size ms h.1 i n

  round_few : (ms : List Morsel) (lanes : List (List Entry)) → AreNoted (length ms) (entries_at ms) lanes → takes_in (events_of nodes join (notes_from 0 lanes)) ≡ length ms
  round_few ms lanes h =
      ap (λ l. takes_in (events_of nodes join (notes_from 0 l))) h.noted
      ∙ lanes_few join nodes (entries_at ms) (is_at ms) (at_few ms) 0 h.numbers
      ∙ h.each_once (is_at ms)
      ∙ all_at ms

  round_sized : (size : ℕ) (ms : List Morsel) (lanes : List (List Entry)) → AllByRecursion (IsOfSize size) ms → AreNoted (length ms) (entries_at ms) lanes → AllByRecursion (IsSized size) (events_of nodes join (notes_from 0 lanes))
  round_sized size ms lanes each h =
      subst (λ l. AllByRecursion (IsSized size) (events_of nodes join (notes_from 0 l))) (sym h.noted)
      (lanes_sized size join nodes (entries_at ms) (at_sized size ms each) 0 h.numbers)

  -- ---- all rounds

  all_few : (workers count size index : ℕ) (batches : List (List Morsel)) (left new : List Left) (notes : List Note) → Gives count size index batches left new → AreNotedInTurn workers batches notes → takes_in (events_of nodes join notes) ≤ count * length batches
  all_few workers count size index [] left new notes gave h = (let none = ap (λ l. takes_in (events_of nodes join l)) h in omega (arith, none))
  all_few workers count size index (ms ∷ batches) left new notes gave h =
      let rest = all_few workers count size (index + length ms) batches (after_batch count size left) new h.later gave.1 h.rest in
      let first = notes_from 0 h.lanes in
      let here = round_few ms h.lanes h.noted in
      let few = batch_few count size index 0 left in
      let is = ap length gave.0 in
      let whole = ap (λ l. takes_in (events_of nodes join l)) h.whole in
      let both = ap takes_in (events_both nodes join first h.later) in
      let split = takes_both (events_of nodes join first) (events_of nodes join h.later) in
      omega (arith, rest, here, few, is, whole, both, split)

  all_sized : (workers count size index : ℕ) (batches : List (List Morsel)) (left new : List Left) (notes : List Note) → 0 < size → Gives count size index batches left new → AreNotedInTurn workers batches notes → AllByRecursion (IsSized size) (events_of nodes join notes)
  all_sized workers count size index [] left new notes some gave h = subst (λ l. AllByRecursion (IsSized size) (events_of nodes join l)) (sym h) tt
  all_sized workers count size index (ms ∷ batches) left new notes some gave h =
      let rest = all_sized workers count size (index + length ms) batches (after_batch count size left) new h.later some gave.1 h.rest in
      let first = notes_from 0 h.lanes in
      let each = subst (AllByRecursion (IsOfSize size)) (sym gave.0) (batch_sized count size index 0 left some) in
      let here = round_sized size ms h.lanes each h.noted in
      let both = all_both (IsSized size) (events_of nodes join first) (events_of nodes join h.later) here rest in
      subst (λ l. AllByRecursion (IsSized size) (events_of nodes join l)) (sym h.whole)
      (subst (AllByRecursion (IsSized size)) (sym (events_both nodes join first h.later)) both)

pub takes_few : TakesAreFew
takes_few workers count size index batches left new notes some gave h = record {
  few = λ nodes join. all_few join nodes workers count size index batches left new notes gave h;
  sized = λ nodes join. all_sized join nodes workers count size index batches left new notes some gave h;
}

-- ---- partitions

abbrev nothing : ℕ → ℕ
nothing n = 0

no_weight : (ns : List ℕ) → total nothing ns ≡ 0
no_weight [] = refl
no_weight (n ∷ ns) = omega (arith, no_weight ns)

module _ (rows join : ℕ) (nodes : List ℕ) (parts : ℕ) where
  part_few : (i n : ℕ) → takes_in (lane_events nodes join i (entries_of_parts parts n)) ≡ 0
  part_few i n =
      let T : List Entry → ℕ = λ l. takes_in (lane_events nodes join i l) in
      by_test (T (entries_of_parts parts n) ≡ 0) (ltb n parts)
      (λ e. ap (λ b. T (cond b (entries_for_part n) [])) e)
      (λ e. ap (λ b. T (cond b (entries_for_part n) [])) e)

  part_sized : (i n : ℕ) → AllByRecursion (IsSized rows) (lane_events nodes join i (entries_of_parts parts n))
  part_sized i n =
      let S : List Entry → Type 0 = λ l. AllByRecursion (IsSized rows) (lane_events nodes join i l) in
      by_test (S (entries_of_parts parts n)) (ltb n parts)
      (λ e. subst (λ b. S (cond b (entries_for_part n) [])) (sym e) (tt, (tt, tt)))
      (λ e. subst (λ b. S (cond b (entries_for_part n) [])) (sym e) tt)

  parts_few : (lanes : List (List Entry)) → AreNoted parts (entries_of_parts parts) lanes → takes_in (events_of nodes join (notes_from 0 lanes)) ≡ 0
  parts_few lanes h =
      ap (λ l. takes_in (events_of nodes join (notes_from 0 l))) h.noted
      ∙ lanes_few join nodes (entries_of_parts parts) nothing part_few 0 h.numbers
      ∙ no_weight (in_all h.numbers)

  parts_sized : (lanes : List (List Entry)) → AreNoted parts (entries_of_parts parts) lanes → AllByRecursion (IsSized rows) (events_of nodes join (notes_from 0 lanes))
  parts_sized lanes h =
      subst (λ l. AllByRecursion (IsSized rows) (events_of nodes join (notes_from 0 l))) (sym h.noted)
      (lanes_sized rows join nodes (entries_of_parts parts) part_sized 0 h.numbers)

pub flushes_few : FlushesTakeNothing
flushes_few parts rows lanes h = record {
  few = λ nodes join. (let none = parts_few rows join nodes parts lanes h in omega (arith, none));
  sized = λ nodes join. parts_sized rows join nodes parts lanes h;
}
