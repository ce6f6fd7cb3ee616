-- An emission keeps the facts.
use Rattle.std.proofs.Common.{◌≡◌, ℕ, ◌<◌, Bool, true, false, cond, ◌||◌, List, [], ◌∷◌, ◌++◌, refl, ap, sym, ◌∙◌, arith}
use Rattle.std.specs.Prelude.{not}
use Rattle.std.specs.List.{list_any}
use Rattle.pipe_schema.specs.Rows.{Row}
use Rattle.pipe_schema.proofs.Weights.{total-append, SameBag-append}
use Rattle.pipe_events.specs.Stages.{JoinStage, Stages, Joined, rows, reaches, build_key, matches_built, IsStages, marks}
use Rattle.pipe_events.specs.Worlds.{World, Load, mine, others, is_of, emitted, carried, ChainBuilt}
use Rattle.pipe_events.proofs.Tests.{any-same, any-append, any-or, any-never, any-alike, any-filter}
use Rattle.pipe_events.proofs.Facts.{EachLoad, EachLoad-filter, due, Holds}
use Rattle.pipe_events.proofs.Ways.{sink_build, carried_none, carried_parts, closed_bag, carried_alike}

module _ (plan : Stages) (ok : IsStages plan) (w : World) (kept : Holds plan w) where
  -- ---- emitting

  not_built : (join : JoinStage) (j : ℕ) → j < plan.size → plan.stage j ≡ Joined join → w.closed join.build ≡ false → (loads : List Load) → EachLoad (λ l. ChainBuilt plan w.closed l.node) loads → list_any (λ l. reaches plan l.node join.probe) loads ≡ false
  not_built join j lt e still_open [] h = refl
  not_built join j lt e still_open (l ∷ loads) h =
      elim (reaches plan l.node join.probe) as (λ b. reaches plan l.node join.probe ≡ b → (b || list_any (λ k. reaches plan k.node join.probe) loads) ≡ false) [
        | true ↦ λ r. (let c = h.0 j join lt e r in cc)
        | false ↦ λ _. not_built join j lt e still_open loads h.1
      ] refl

  either : (a b n : Bool) → cond (a || b) n false ≡ (cond a n false || cond b n false)
  either true true true = refl
  either true true false = refl
  either true false true = refl
  either true false false = refl
  either false true n = elim n as (λ n. n ≡ n) [ true ↦ refl | false ↦ refl ]
  either false false n = refl

  pub kept_emitted : (worker : ℕ) → ((j : ℕ) (join : JoinStage) → j < plan.size → plan.stage j ≡ Joined join → marks join ≡ true →
      list_any (λ r. cond (list_any (matches_built join r) (carried plan w.bag (mine worker w.pending) join.probe)) (not (w.flag j (build_key join r))) false) (w.bag join.build) ≡ false) → Holds plan (emitted plan worker w)
  kept_emitted worker may_marked =
      let w' = emitted plan worker w in
      let loads = mine worker w.pending in
      let built : EachLoad (λ l. ChainBuilt plan w.closed l.node) loads = EachLoad-filter (λ l. ChainBuilt plan w.closed l.node) (is_of worker) w.pending kept.ready in
      let bring : ℕ → List Row = carried plan (rows plan) loads in
      let marked : (j : ℕ) (join : JoinStage) → j < plan.size → plan.stage j ≡ Joined join → marks join ≡ true → list_any (λ r. cond (list_any (matches_built join r) (carried plan (rows plan) loads join.probe)) (not (w.flag j (build_key join r))) false) (rows plan join.build) ≡ false =
      λ j join lt e marking.
      elim (w.closed join.build) as (λ b. w.closed join.build ≡ b → list_any (λ r. cond (list_any (matches_built join r) (carried plan (rows plan) loads join.probe)) (not (w.flag j (build_key join r))) false) (rows plan join.build) ≡ false) [
        | true ↦ λ c.
            let bags = closed_bag plan ok w kept join.build c (sink_build plan j join lt e) in
            let alike = carried_alike plan ok w kept loads built join.probe in
            any-alike
            (λ r. cond (list_any (matches_built join r) (carried plan (rows plan) loads join.probe)) (not (w.flag j (build_key join r))) false)
            (λ r. cond (list_any (matches_built join r) (carried plan w.bag loads join.probe)) (not (w.flag j (build_key join r))) false)
            (rows plan join.build) (λ r. ap (λ b. cond b (not (w.flag j (build_key join r))) false) (sym (any-same (matches_built join r) alike)))
            ∙ sym (any-same (λ r. cond (list_any (matches_built join r) (carried plan w.bag loads join.probe)) (not (w.flag j (build_key join r))) false) bags)
            ∙ may_marked j join lt e marking
        | false ↦ λ c.
            let gone : carried plan (rows plan) loads join.probe ≡ [] = carried_none plan (rows plan) join.probe loads (not_built join j lt e c loads built) in
            any-never _ (rows plan join.build) (λ r. rw gone refl)
      ] refl in
      record {
        out = λ t. kept.out t ++ carried plan (rows plan) loads t;
        sinks = λ t e. rw e (SameBag-append (kept.sinks t e) (carried_alike plan ok w kept loads built t));
        sums = λ t.
            let parts = carried_parts plan (rows plan) t worker w.pending in
            let all = kept.sums t in
            record { sums = λ f. omega (arith, parts.sums f, all.sums f, total-append f (kept.out t) (due plan w t), total-append f (kept.out t) (carried plan (rows plan) loads t), total-append f (kept.out t ++ carried plan (rows plan) loads t) (carried plan (rows plan) (others worker w.pending) t), total-append f (carried plan (rows plan) loads t) (carried plan (rows plan) (others worker w.pending) t)) };
        once = kept.once;
        inside = kept.inside;
        gave = kept.gave;
        quiet = λ t c. any-filter (λ l. reaches plan l.node t) (λ l. not (is_of worker l)) w.pending (kept.quiet t c);
        ready = EachLoad-filter (λ l. ChainBuilt plan w.closed l.node) (λ l. not (is_of worker l)) w.pending kept.ready;
        probed = kept.probed;
        sound = kept.sound;
        full = λ j join lt e marking. any-or
            (λ r. cond (list_any (matches_built join r) (kept.out join.probe)) (not (w.flag j (build_key join r))) false)
            (λ r. cond (list_any (matches_built join r) (carried plan (rows plan) loads join.probe)) (not (w.flag j (build_key join r))) false)
            _ (rows plan join.build)
            (λ r. let e = any-append (matches_built join r) (kept.out join.probe) (carried plan (rows plan) loads join.probe) in rw e (either (list_any (matches_built join r) (kept.out join.probe)) (list_any (matches_built join r) (carried plan (rows plan) loads join.probe)) (not (w.flag j (build_key join r)))))
            (kept.full j join lt e marking) (marked j join lt e marking);
      }
