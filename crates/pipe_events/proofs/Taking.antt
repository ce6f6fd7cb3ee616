-- A take keeps the facts.
use Rattle.std.proofs.Common.{◌≡◌, ℕ, ◌+◌, ◌<◌, ◌≤◌, Bool, true, false, cond, eqb, ◌||◌, get_or, length, List, [], ◌++◌, refl, arith, ◌⊎◌, inl, inr}
use Rattle.std.proofs.lemmas.Bool.{cases_lt}
use Rattle.std.proofs.lemmas.List.{map-append}
use Rattle.std.specs.List.{list_any, range_with_len}
use Rattle.pipe_schema.specs.Rows.{Row}
use Rattle.pipe_schema.proofs.Weights.{SameBag, total-append, SameBag-refl, SameBag-sym}
use Rattle.pipe_events.specs.Stages.{Key, Stages, Stage, Scan, Each, Union, Sort, Joined, rows, flow, reaches, own_rows, IsStages, only}
use Rattle.pipe_events.specs.Worlds.{World, Take, source_rows, IsReady, picked, count, MayTake, after}
use Rattle.pipe_events.proofs.Bags.{SameBag-nil, WithinBag-trans, WithinBag-first, WithinBag-from_SameBag}
use Rattle.pipe_events.proofs.Places.{AllBelow, AllBelow-append, AllBelow-range, count-range, count-range_out, put_cases}
use Rattle.pipe_events.proofs.Tests.{any-within}
use Rattle.pipe_events.proofs.FlowLemmas.{flow_add}
use Rattle.pipe_events.proofs.Facts.{own_of, hits, Gave, Gave-more, own, came, Holds}
use Rattle.pipe_events.proofs.Ways.{eqb-refl, source_is}

-- ---- taking

picked_more : (part : Key → ℕ) (at : ℕ → List Row) (closed : ℕ → Bool) (taken more flushed : List ℕ) (flag : Key → Bool) (x : Stage) → IsReady closed x → SameBag (own_of part at (taken ++ more) flushed flag x) (own_of part at taken flushed flag x ++ picked (own_rows at x) more)
picked_more part at closed taken more flushed flag (Scan rows) r = let e = map-append (λ p. get_or rows p []) taken more in rw e (SameBag-refl _)
picked_more part at closed taken more flushed flag (Each i op) r = absurd r
picked_more part at closed taken more flushed flag (Union is) r = absurd r
picked_more part at closed taken more flushed flag (Sort i sorted) r = let e = map-append (λ p. get_or (sorted (at i)) p []) taken more in rw e (SameBag-refl _)
picked_more part at closed taken more flushed flag (Joined j) r = absurd r

gave_place : (parts : ℕ) (at : ℕ → List Row) (closed : ℕ → Bool) (taken flushed : List ℕ) (x : Stage) → IsReady closed x → Gave parts at taken flushed x → (p : ℕ) → p < length (own_rows at x) → 1 ≤ count p taken
gave_place parts at closed taken flushed (Scan rows) r g = g
gave_place parts at closed taken flushed (Each i op) r g = absurd r
gave_place parts at closed taken flushed (Union is) r g = absurd r
gave_place parts at closed taken flushed (Sort i sorted) r g = g
gave_place parts at closed taken flushed (Joined j) r g = absurd r

fresh_once : (taken : List ℕ) (from amount p : ℕ) → count p taken ≤ 1 → (from ≤ p → p < from + amount → count p taken ≡ 0) → count p (taken ++ range_with_len from amount) ≤ 1
fresh_once taken from amount p old fresh =
    let sum = total-append (λ q. cond (eqb q p) 1 0) taken (range_with_len from amount) in
    let out : ((from ≤ p) → p < from + amount → ⊥) → count p (taken ++ range_with_len from amount) ≤ 1 = λ no. (let none = count-range_out p from amount no in omega arith) in
    let high : from ≤ p → (p < from + amount) ⊎ (from + amount ≤ p) → count p (taken ++ range_with_len from amount) ≤ 1 =
    λ lo. elim [ inl lt ↦ (let none = fresh lo lt in let one = count-range p from amount in omega arith) | inr ge ↦ out (λ _ hi. omega arith) ] in
    let low : (p < from) ⊎ (from ≤ p) → count p (taken ++ range_with_len from amount) ≤ 1 =
    elim [ inl lt ↦ out (λ lo _. omega arith) | inr ge ↦ high ge (cases_lt p (from + amount)) ]
    in low (cases_lt p from)

-- more came, and it is on its way
pub sums_grow : {X : Type 0} (a b c o d : List X) → SameBag a (b ++ c) → SameBag b (o ++ d) → SameBag a (o ++ (c ++ d))
sums_grow a b c o d h k = record { sums = λ f. omega (arith, h.sums f, k.sums f, total-append f b c, total-append f o d, total-append f o (c ++ d), total-append f c d) }

module _ (plan : Stages) (ok : IsStages plan) (w : World) (kept : Holds plan w) where
  pub kept_take : (worker s from amount : ℕ) → MayTake plan w worker s from amount → Holds plan (after plan w (Take worker s from amount))
  kept_take worker s from amount may =
      let w' = after plan w (Take worker s from amount) in
      let x = plan.stage s in
      let more = range_with_len from amount in
      let bag = picked (source_rows w.bag x) more in
      let is : source_rows w.bag x ≡ own_rows (rows plan) x = source_is plan ok w kept s x may.inside refl may.is_ready in
      let own_more : (n : ℕ) → SameBag (own plan w' n) (own plan w n ++ only s bag n) =
      put_cases (λ n ps. SameBag (own_of plan.part (rows plan) ps (w.flushed n) (w.flag n) (plan.stage n)) (own plan w n ++ only s bag n)) w.taken s (w.taken s ++ more)
      (let e = eqb-refl s in rw (e, is) (picked_more plan.part (rows plan) w.closed (w.taken s) more (w.flushed s) (w.flag s) x may.is_ready))
      (λ n e. rw e (SameBag-sym (SameBag-nil (own plan w n)))) in
      let grows : (t : ℕ) → SameBag (came plan w' t) (came plan w t ++ flow plan (rows plan) (only s bag) t) = flow_add plan (rows plan) (own plan w') (own plan w) (only s bag) own_more plan.size in
      let there : from + amount ≤ length (own_rows (rows plan) x) = rw is at may.there in
      let apart : (t : ℕ) → w.closed t ≡ true → reaches plan s t ≡ true → ⊥ =
      λ t c r. (let all = gave_place plan.parts (rows plan) w.closed (w.taken s) (w.flushed s) x may.is_ready (kept.gave t c s may.inside r) from (let some = may.some in omega arith) in
      let none = may.fresh from (omega arith) (let some = may.some in omega arith) in omega arith) in
      record {
        out = kept.out;
        sinks = kept.sinks;
        sums = λ t. sums_grow _ _ _ _ _ (grows t) (kept.sums t);
        once = λ n p. put_cases (λ n ps. count p ps ≤ 1) w.taken s (w.taken s ++ more) (fresh_once (w.taken s) from amount p (kept.once s p) (may.fresh p)) (λ n e. kept.once n p) n;
        inside = put_cases (λ n ps. AllBelow ps (length (own_rows (rows plan) (plan.stage n)))) w.taken s (w.taken s ++ more) (AllBelow-append (w.taken s) more _ (kept.inside s) (AllBelow-range from amount _ there)) (λ n e. kept.inside n);
        gave = λ t c n lt r. Gave-more plan.parts (rows plan) (w.taken n) (w'.taken n) (w.flushed n) (w.flushed n)
            (λ p. put_cases (λ n ps. count p (w.taken n) ≤ count p ps) w.taken s (w.taken s ++ more) (omega (arith, total-append (λ q. cond (eqb q p) 1 0) (w.taken s) more)) (λ n e. omega arith) n) (λ p. omega arith)
            (plan.stage n) (kept.gave t c n lt r);
        quiet = λ t c. elim (reaches plan s t) as (λ b. reaches plan s t ≡ b → (b || list_any (λ l. reaches plan l.node t) w.pending) ≡ false) [ true ↦ λ r. absurd (apart t c r) | false ↦ λ r. kept.quiet t c ] refl;
        ready = (may.built, kept.ready);
        probed = kept.probed;
        sound = λ j join lt e marking key f. any-within (hits join key) (WithinBag-trans (WithinBag-first (came plan w join.probe) _) (WithinBag-from_SameBag (SameBag-sym (grows join.probe)))) (kept.sound j join lt e marking key f);
        full = kept.full;
      }
