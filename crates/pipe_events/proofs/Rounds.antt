-- Rounds are allowed, event by event.
use Rattle.std.proofs.Common.{◌≡◌, ◌≢◌, ℕ, zero, suc, ◌+◌, ◌<◌, ◌≤◌, Bool, true, false, cond, eqb, List, [], ◌∷◌, ◌++◌, length, map, refl, ap, sym, ◌∙◌, subst, append_assoc, append-nil, arith}
use Rattle.std.specs.List.{AllByRecursion, range_with_len}
use Rattle.std.proofs.lemmas.Bool.Decides.{Decides-eqb}
use Rattle.pipe_schema.specs.Rows.{Row}
use Rattle.pipe_schema.proofs.Weights.{total-append}
use Rattle.pipe_events.specs.Stages.{JoinStage, Stage, Stages, Scan, Each, Union, Sort, Joined, IsStages, IsBelow}
use Rattle.pipe_events.specs.Worlds.{World, Load, Take, Done, Flush, IsReady, ChainBuilt, MayTake, MayDo, MayFlush, count, put, mine, load_of, source_rows, taken_rows, flushed_rows_of, after}
use Rattle.pipe_events.specs.Schedules.{AllAllowed, run}
use Rattle.pipe_events.proofs.Facts.{EachLoad}
use Rattle.pipe_events.proofs.WalkLemmas.{Decides-no}
use Rattle.pipe_events.specs.Rounds.{Chunk, Flushed, positions_in, positions, part_in, takes, flushing, IsChunk, MayTakeAll, MayFlushAll, HasTaken, HasFlushed, RoundsOfTakes, RoundsOfFlushes}
use Rattle.pipe_events.proofs.Handing.{IsAbove, IsHandedOn, handed-on}

eqb-refl : (n : ℕ) → eqb n n ≡ true
eqb-refl n = (Decides-eqb n n).1 refl

count-append : (p : ℕ) (a b : List ℕ) → count p (a ++ b) ≡ count p a + count p b
count-append p a b = total-append (λ q. cond (eqb q p) 1 0) a b

-- a number of a range stands in it
count-range : (p from amount : ℕ) → from ≤ p → p < from + amount → 1 ≤ count p (range_with_len from amount)
count-range p from zero low high = absurd (omega arith)
count-range p from (suc amount) low high =
    let split : (b : Bool) → eqb from p ≡ b → 1 ≤ cond b 1 0 + count p (range_with_len (from + 1) amount) =
    elim [
      | true ↦ λ _. omega arith
      | false ↦ λ e.
          let apart : from ≡ p → ⊥ = λ same. (let yes = (Decides-eqb from p).1 same in cc) in
          let rest = count-range p (from + 1) amount (omega (arith, low, apart)) (omega (arith, high)) in
          omega (arith, rest)
    ]
    in split (eqb from p) refl

put-here : {X : Type 0} (f : ℕ → X) (n : ℕ) (v : X) → put f n v n ≡ v
put-here f n v = let e = eqb-refl n in rw e refl

put-other : {X : Type 0} (f : ℕ → X) (n : ℕ) (v : X) (k : ℕ) → k ≢ n → put f n v k ≡ f k
put-other f n v k apart = let e = Decides-no k n apart in rw e refl

-- one load alone is the worker's
busy : (worker node : ℕ) (rows : List Row) (loads : List Load) → loads ≡ [] → mine worker (load_of worker node rows ∷ loads) ≢ []
busy worker node rows loads none is =
    let own = eqb-refl worker in
    let some : load_of worker node rows ∷ mine worker loads ≡ [] = rw own at is in
    cc

module _ (plan : Stages) (ok : IsStages plan) where
  same-source : (source : ℕ) (w v : World) (x : Stage) → IsBelow source x → ((t : ℕ) → t < source → v.bag t ≡ w.bag t) → source_rows v.bag x ≡ source_rows w.bag x
  same-source source w v (Scan rows) below same = refl
  same-source source w v (Each input op) below same = refl
  same-source source w v (Union inputs) below same = refl
  same-source source w v (Sort input sorted) below same = ap sorted (same input below)
  same-source source w v (Joined j) below same = refl

  -- ---- takes

  module _ (source : ℕ) where
    -- a chunk of a world is one of a world with the same rows at the source
    same-chunks : (w v : World) → source_rows v.bag (plan.stage source) ≡ source_rows w.bag (plan.stage source) → (chunks : List Chunk) → AllByRecursion (IsChunk plan w source) chunks → AllByRecursion (IsChunk plan v source) chunks
    same-chunks w v same [] h = tt
    same-chunks w v same (chunk ∷ chunks) h = (
      record {
        is_worker = h.0.is_worker;
        some = h.0.some;
        there = subst (λ rows. chunk.from + chunk.amount ≤ length rows) (sym same) h.0.there;
      },
      same-chunks w v same chunks h.1,
    )

    module _ (w : World) (chunk : Chunk) (chunks : List Chunk) (may : MayTakeAll plan w source (chunk ∷ chunks)) where
      abbrev took : World
      took = after plan w (Take chunk.worker source chunk.from chunk.amount)

      abbrev done : World
      done = after plan took (Done chunk.worker)

      first : MayTake plan w chunk.worker source chunk.from chunk.amount
      first = record {
        is_worker = may.each.0.is_worker;
        idle = ap (mine chunk.worker) may.idle;
        inside = may.inside;
        some = may.each.0.some;
        is_ready = may.is_ready;
        there = may.each.0.there;
        fresh = λ p low high.
            let here = count-range p chunk.from chunk.amount low high in
            let outer = count-append p (w.taken source) (positions_in chunk ++ positions chunks) in
            let inner = count-append p (positions_in chunk) (positions chunks) in
            omega (arith, here, outer, inner, may.once p);
        built = may.built;
      }

      second : MayDo plan took chunk.worker
      second = record { is_worker = may.each.0.is_worker; busy = busy chunk.worker source (taken_rows plan w source chunk.from chunk.amount) w.pending may.idle }

      handed : IsHandedOn plan ok chunk.worker source took done
      handed = handed-on plan ok chunk.worker source took (record { own = refl; above = omega arith }, subst (EachLoad (IsAbove chunk.worker source)) (sym may.idle) tt)

      taken-now : done.taken source ≡ w.taken source ++ positions_in chunk
      taken-now = ap (λ f. f source) handed.taken ∙ put-here w.taken source (w.taken source ++ positions_in chunk)

      once-left : (p : ℕ) → count p (done.taken source ++ positions chunks) ≤ 1
      once-left p =
          let now = ap (count p) taken-now in
          let left = count-append p (done.taken source) (positions chunks) in
          let here = count-append p (w.taken source) (positions_in chunk) in
          let outer = count-append p (w.taken source) (positions_in chunk ++ positions chunks) in
          let inner = count-append p (positions_in chunk) (positions chunks) in
          omega (arith, now, left, here, outer, inner, may.once p)

      left : MayTakeAll plan done source chunks
      left = record {
        idle = handed.idle;
        inside = may.inside;
        is_ready = subst (λ closed. IsReady closed (plan.stage source)) (sym handed.closed) may.is_ready;
        built = subst (λ closed. ChainBuilt plan closed source) (sym handed.closed) may.built;
        each = same-chunks w done (same-source source w done (plan.stage source) (ok.below source may.inside) handed.below) chunks may.each.1;
        once = once-left;
      }

      one-more : (end : World) → HasTaken source chunks done end → HasTaken source (chunk ∷ chunks) w end
      one-more end h = record {
        round = record {
          idle = h.round.idle;
          closed = h.round.closed ∙ handed.closed;
          below = λ t lt. h.round.below t lt ∙ handed.below t lt;
        };
        taken = h.taken ∙ ap (λ l. l ++ positions chunks) taken-now ∙ append_assoc (w.taken source) (positions_in chunk) (positions chunks);
        others = λ n apart. h.others n apart ∙ ap (λ f. f n) handed.taken ∙ put-other w.taken source (w.taken source ++ positions_in chunk) n apart;
        flushed = h.flushed ∙ handed.flushed;
      }

    takes-all : (chunks : List Chunk) (w : World) → MayTakeAll plan w source chunks → AllAllowed plan w (takes source chunks) × HasTaken source chunks w (run plan w (takes source chunks))
    takes-all [] w may = (
      tt,
      record {
        round = record { idle = may.idle; closed = refl; below = λ t lt. refl };
        taken = sym (append-nil (w.taken source));
        others = λ n apart. refl;
        flushed = refl;
      },
    )
    takes-all (chunk ∷ chunks) w may =
        let rest = takes-all chunks (done w chunk chunks may) (left w chunk chunks may) in
        ((first w chunk chunks may, (second w chunk chunks may, rest.0)), one-more w chunk chunks may (run plan (done w chunk chunks may) (takes source chunks)) rest.1)

  -- ---- flushes

  module _ (k : ℕ) (join : JoinStage) where
    module _ (w : World) (part : Flushed) (parts : List Flushed) (may : MayFlushAll plan w k join (part ∷ parts)) where
      abbrev flushed-world : World
      flushed-world = after plan w (Flush part.worker k part.part)

      abbrev given-world : World
      given-world = after plan flushed-world (Done part.worker)

      first-flush : MayFlush plan w part.worker k part.part
      first-flush = record {
        is_worker = may.each.0.is_worker;
        idle = ap (mine part.worker) may.idle;
        inside = may.inside;
        join = join;
        is_join = may.is_join;
        flushing = may.flushing;
        probed = may.probed;
        part = may.each.0.there;
        fresh =
            let own = eqb-refl part.part in
            let once : cond (eqb part.part part.part) 1 0 + count part.part (map part_in parts ++ w.flushed k) ≤ 1 = may.once part.part in
            let alone : 1 + count part.part (map part_in parts ++ w.flushed k) ≤ 1 = rw own at once in
            let both = count-append part.part (map part_in parts) (w.flushed k) in
            omega (arith, alone, both);
        built = may.built;
      }

      second-flush : MayDo plan flushed-world part.worker
      second-flush = record { is_worker = may.each.0.is_worker; busy = busy part.worker k (flushed_rows_of plan w k part.part) w.pending may.idle }

      given-on : IsHandedOn plan ok part.worker k flushed-world given-world
      given-on = handed-on plan ok part.worker k flushed-world (record { own = refl; above = omega arith }, subst (EachLoad (IsAbove part.worker k)) (sym may.idle) tt)

      flushed-now : given-world.flushed k ≡ part.part ∷ w.flushed k
      flushed-now = ap (λ f. f k) given-on.flushed ∙ put-here w.flushed k (part.part ∷ w.flushed k)

      counted : (p : ℕ) → count p (map part_in parts ++ given-world.flushed k) ≡ count p (map part_in (part ∷ parts) ++ w.flushed k)
      counted p =
          let now : count p (given-world.flushed k) ≡ cond (eqb part.part p) 1 0 + count p (w.flushed k) = ap (count p) flushed-now in
          let later = count-append p (map part_in parts) (given-world.flushed k) in
          let before = count-append p (map part_in parts) (w.flushed k) in
          let whole : count p (map part_in (part ∷ parts) ++ w.flushed k) ≡ cond (eqb part.part p) 1 0 + count p (map part_in parts ++ w.flushed k) = refl in
          omega (arith, now, later, before, whole)

      left-flush : MayFlushAll plan given-world k join parts
      left-flush = record {
        idle = given-on.idle;
        inside = may.inside;
        is_join = may.is_join;
        flushing = may.flushing;
        probed = ap (λ closed. closed join.probe) given-on.closed ∙ may.probed;
        built = subst (λ closed. ChainBuilt plan closed k) (sym given-on.closed) may.built;
        each = may.each.1;
        once = λ p. (let same = counted p in omega (arith, same, may.once p));
      }

      one-flush-more : (end : World) → HasFlushed k parts given-world end → HasFlushed k (part ∷ parts) w end
      one-flush-more end h = record {
        round = record {
          idle = h.round.idle;
          closed = h.round.closed ∙ given-on.closed;
          below = λ t lt. h.round.below t lt ∙ given-on.below t lt;
        };
        flushed = λ p. h.flushed p ∙ counted p;
        others = λ n apart. h.others n apart ∙ ap (λ f. f n) given-on.flushed ∙ put-other w.flushed k (part.part ∷ w.flushed k) n apart;
        taken = h.taken ∙ given-on.taken;
      }

    flushes-all : (parts : List Flushed) (w : World) → MayFlushAll plan w k join parts → AllAllowed plan w (flushing k parts) × HasFlushed k parts w (run plan w (flushing k parts))
    flushes-all [] w may = (
      tt,
      record {
        round = record { idle = may.idle; closed = refl; below = λ t lt. refl };
        flushed = λ p. refl;
        others = λ n apart. refl;
        taken = refl;
      },
    )
    flushes-all (part ∷ parts) w may =
        let rest = flushes-all parts (given-world w part parts may) (left-flush w part parts may) in
        ((first-flush w part parts may, (second-flush w part parts may, rest.0)), one-flush-more w part parts may (run plan (given-world w part parts may) (flushing k parts)) rest.1)

pub rounds_of_takes : RoundsOfTakes
rounds_of_takes plan ok w source chunks may = takes-all plan ok source chunks w may

pub rounds_of_flushes : RoundsOfFlushes
rounds_of_flushes plan ok w k join parts may = flushes-all plan ok k join parts w may
