-- What lanes noted of the partitions of a join: flushes of it, each partition once.
use Rattle.std.proofs.Common.{◌≡◌, ℕ, zero, suc, ◌+◌, ◌<◌, ◌≤◌, cond, List, [], ◌∷◌, ◌++◌, length, map, refl, ap, sym, ◌∙◌, subst, arith}
use Rattle.std.specs.Prelude.{ltb}
use Rattle.std.specs.List.{AllByRecursion, flat_map, range_with_len}
use Rattle.std.proofs.lemmas.Bool.{cases_lt}
use Rattle.std.proofs.lemmas.Bool.Decides.{Decides-ltb}
use Rattle.pipe_chain.specs.Sums.{one_at, times, total}
use Rattle.pipe_chain.proofs.SumLemmas.{total-append}
use Rattle.pipe_chain.proofs.OnceLemmas.{one_draw, no_draw}
use Rattle.pipe_events.specs.Stages.{Stages}
use Rattle.pipe_events.specs.Worlds as worlds
use Rattle.pipe_events.specs.Worlds.{count}
use Rattle.pipe_events.specs.Rounds.{Flushed, part_in, flushing, IsPart}
use Rattle.pipe_events.specs.Runs.{AreAllParts}
use Rattle.pipe_events.proofs.Members.{either}
use Rattle.pipe_run.specs.Claimed.{entries_for_part}
use Rattle.pipe_run.specs.Dealt.{in_all}
use Rattle.pipe_run.specs.Notes.{notes_of, notes_from, events_of, entries_of_parts}
use Rattle.pipe_run.specs.Laws.{JoinsAreFlushed}
use Rattle.pipe_run.proofs.NotedRounds.{map_both, all_both, by_test, events_both, lane_events, lane_both}
use Rattle.pipe_run.proofs.Sources.{count_times}

-- the partition of a number, none past the last, as a worker flushes it
abbrev part_at : (count i n : ℕ) → List Flushed
part_at count i n = cond (ltb n count) (record { worker = i; part = n } ∷ []) []

abbrev parts_of : (count i : ℕ) → List ℕ → List Flushed
parts_of count i ns = flat_map (part_at count i) ns

abbrev parts_from : (count i : ℕ) → List (List ℕ) → List Flushed
parts_from count i [] = []
parts_from count i (ns ∷ nss) = parts_of count i ns ++ parts_from count (suc i) nss

flushing_both : (k : ℕ) (a c : List Flushed) → flushing k (a ++ c) ≡ flushing k a ++ flushing k c
flushing_both k [] c = refl
flushing_both k (x ∷ a) c = ap (λ l. worlds.Flush x.worker k x.part ∷ worlds.Done x.worker ∷ l) (flushing_both k a c)

-- ---- the events

module _ (nodes : List ℕ) (k size : ℕ) where
  at_flushes : (i n : ℕ) → lane_events nodes k i (entries_of_parts size n) ≡ flushing k (part_at size i n)
  at_flushes i n =
      by_test (lane_events nodes k i (entries_of_parts size n) ≡ flushing k (part_at size i n)) (ltb n size)
      (λ e. ap (λ b. lane_events nodes k i (cond b (entries_for_part n) [])) e ∙ sym (ap (λ b. flushing k (cond b (record { worker = i; part = n } ∷ []) [])) e))
      (λ e. ap (λ b. lane_events nodes k i (cond b (entries_for_part n) [])) e ∙ sym (ap (λ b. flushing k (cond b (record { worker = i; part = n } ∷ []) [])) e))

  lane_flushes : (i : ℕ) (ns : List ℕ) → lane_events nodes k i (flat_map (entries_of_parts size) ns) ≡ flushing k (parts_of size i ns)
  lane_flushes i [] = refl
  lane_flushes i (n ∷ ns) =
      lane_both nodes k i (entries_of_parts size n) (flat_map (entries_of_parts size) ns)
      ∙ ap (λ l. l ++ lane_events nodes k i (flat_map (entries_of_parts size) ns)) (at_flushes i n)
      ∙ ap (λ l. flushing k (part_at size i n) ++ l) (lane_flushes i ns)
      ∙ sym (flushing_both k (part_at size i n) (parts_of size i ns))

  round_flushes : (i : ℕ) (nss : List (List ℕ)) → events_of nodes k (notes_from i (map (flat_map (entries_of_parts size)) nss)) ≡ flushing k (parts_from size i nss)
  round_flushes i [] = refl
  round_flushes i (ns ∷ nss) =
      events_both nodes k (notes_of i (flat_map (entries_of_parts size) ns)) (notes_from (suc i) (map (flat_map (entries_of_parts size)) nss))
      ∙ ap (λ l. l ++ events_of nodes k (notes_from (suc i) (map (flat_map (entries_of_parts size)) nss))) (lane_flushes i ns)
      ∙ ap (λ l. flushing k (parts_of size i ns) ++ l) (round_flushes (suc i) nss)
      ∙ sym (flushing_both k (parts_of size i ns) (parts_from size (suc i) nss))

-- ---- the partitions

-- what a number below the count weighs
abbrev weighs : (ℕ → ℕ) → ℕ → ℕ → ℕ
weighs w size n = cond (ltb n size) (w n) 0

at_numbers : (w : ℕ → ℕ) (size i n : ℕ) → total w (map part_in (part_at size i n)) ≡ weighs w size n
at_numbers w size i n =
    by_test (total w (map part_in (part_at size i n)) ≡ weighs w size n) (ltb n size)
    (λ e.
    let one : w n + 0 ≡ w n = omega arith in
    ap (λ b. total w (map part_in (cond b (record { worker = i; part = n } ∷ []) []))) e ∙ one ∙ sym (ap (λ b. cond b (w n) 0) e))
    (λ e. ap (λ b. total w (map part_in (cond b (record { worker = i; part = n } ∷ []) []))) e ∙ sym (ap (λ b. cond b (w n) 0) e))

both_numbers : (w : ℕ → ℕ) (a c : List Flushed) → total w (map part_in (a ++ c)) ≡ total w (map part_in a) + total w (map part_in c)
both_numbers w a c = ap (total w) (map_both part_in a c) ∙ total-append w (map part_in a) (map part_in c)

lane_numbers : (w : ℕ → ℕ) (size i : ℕ) (ns : List ℕ) → total w (map part_in (parts_of size i ns)) ≡ total (weighs w size) ns
lane_numbers w size i [] = refl
lane_numbers w size i (n ∷ ns) =
    let both = both_numbers w (part_at size i n) (parts_of size i ns) in
    let here = at_numbers w size i n in
    let rest = lane_numbers w size i ns in
    omega (arith, both, here, rest)

round_numbers : (w : ℕ → ℕ) (size i : ℕ) (nss : List (List ℕ)) → total w (map part_in (parts_from size i nss)) ≡ total (weighs w size) (in_all nss)
round_numbers w size i [] = refl
round_numbers w size i (ns ∷ nss) =
    let both = both_numbers w (parts_of size i ns) (parts_from size (suc i) nss) in
    let here = lane_numbers w size i ns in
    let rest = round_numbers w size (suc i) nss in
    let split = total-append (weighs w size) ns (in_all nss) in
    omega (arith, both, here, rest, split)

range_weighs : (w : ℕ → ℕ) (size a n : ℕ) → a + n ≤ size → total (weighs w size) (range_with_len a n) ≡ total w (range_with_len a n)
range_weighs w size a zero le = refl
range_weighs w size a (suc n) le =
    let here : weighs w size a ≡ w a = ap (λ b. cond b (w a) 0) ((Decides-ltb a size).1 (omega (arith, le))) in
    let rest = range_weighs w size (a + 1) n (omega (arith, le)) in
    omega (arith, here, rest)

-- ---- each of them

module _ (plan : Stages) where
  at_parts : (i : ℕ) → i < plan.workers → (n : ℕ) → AllByRecursion (IsPart plan) (part_at plan.parts i n)
  at_parts i less n =
      by_test (AllByRecursion (IsPart plan) (part_at plan.parts i n)) (ltb n plan.parts)
      (λ e. subst (λ b. AllByRecursion (IsPart plan) (cond b (record { worker = i; part = n } ∷ []) [])) (sym e) (record { is_worker = less; there = (Decides-ltb n plan.parts).0 e }, tt))
      (λ e. subst (λ b. AllByRecursion (IsPart plan) (cond b (record { worker = i; part = n } ∷ []) [])) (sym e) tt)

  lane_parts : (i : ℕ) → i < plan.workers → (ns : List ℕ) → AllByRecursion (IsPart plan) (parts_of plan.parts i ns)
  lane_parts i less [] = tt
  lane_parts i less (n ∷ ns) = all_both (IsPart plan) (part_at plan.parts i n) (parts_of plan.parts i ns) (at_parts i less n) (lane_parts i less ns)

  round_parts : (i : ℕ) (nss : List (List ℕ)) → i + length nss ≤ plan.workers → AllByRecursion (IsPart plan) (parts_from plan.parts i nss)
  round_parts i [] less = tt
  round_parts i (ns ∷ nss) less =
      all_both (IsPart plan) (parts_of plan.parts i ns) (parts_from plan.parts (suc i) nss) (lane_parts i (omega (arith, less)) ns) (round_parts (suc i) nss (omega (arith, less)))

  all_parts : (nss : List (List ℕ)) → 0 + length nss ≤ plan.workers → ((w : ℕ → ℕ) → total w (in_all nss) ≡ total w (range_with_len 0 plan.parts)) → AreAllParts plan (parts_from plan.parts 0 nss)
  all_parts nss few each_once =
      let size = plan.parts in
      let parts = parts_from size 0 nss in
      let same : (p : ℕ) → count p (map part_in parts) ≡ times p (range_with_len 0 size) =
      λ p. count_times p (map part_in parts) ∙ (round_numbers (one_at p) size 0 nss ∙ (each_once (weighs (one_at p) size) ∙ range_weighs (one_at p) size 0 size (omega arith))) in
      record {
        each = round_parts 0 nss few;
        once = λ p. either (λ lt. (let e = same p in let one = one_draw size p lt in omega (arith, e, one))) (λ le. (let e = same p in let none = no_draw size p le in omega (arith, e, none))) (cases_lt p size);
        all = λ p lt. (let e = same p in let one = one_draw size p lt in omega (arith, e, one));
      }

long_map : {A B : Type 0} (f : A → B) (xs : List A) → length (map f xs) ≡ length xs
long_map f [] = refl
long_map f (x ∷ xs) = ap suc (long_map f xs)

pub flushed : JoinsAreFlushed
flushed plan nodes k lanes h few =
    let long = ap length h.noted ∙ long_map (flat_map (entries_of_parts plan.parts)) h.numbers in
    record {
      parts = parts_from plan.parts 0 h.numbers;
      whole = ap (λ l. worlds.Close k worlds.OfProbe ∷ l) (ap (λ l. events_of nodes k (notes_from 0 l)) h.noted ∙ round_flushes nodes k plan.parts 0 h.numbers);
      are_all = all_parts plan h.numbers (omega (arith, long, few)) h.each_once;
    }
