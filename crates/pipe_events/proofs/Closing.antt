-- A closing keeps the facts.
use Rattle.std.proofs.Common.{◌≡◌, ℕ, ◌<◌, true, false, cond, eqb, refl, sym, subst, Some}
use Rattle.std.specs.List.{list_any}
use Rattle.pipe_events.specs.Stages.{Stages, Stage, Scan, Each, Union, Sort, Joined, rows, reaches, IsStages}
use Rattle.pipe_events.specs.Worlds.{World, Side, closed_above, Close, put, ChainBuilt, IsSpent, MayClose, after}
use Rattle.pipe_events.proofs.Places.{put_cases}
use Rattle.pipe_events.proofs.Facts.{Gave, EachLoad-weaker, Holds}
use Rattle.pipe_events.proofs.Ways.{source_is}

module _ (plan : Stages) (ok : IsStages plan) (w : World) (kept : Holds plan w) where
  -- ---- closing

  pub spent_gave : (n : ℕ) (x : Stage) → n < plan.size → plan.stage n ≡ x → IsSpent plan w n x → Gave plan.parts (rows plan) (w.taken n) (w.flushed n) x
  spent_gave n (Scan rows) lt e h = h
  spent_gave n (Each i op) lt e h = tt
  spent_gave n (Union is) lt e h = tt
  spent_gave n (Sort i sorted) lt e h = let is : sorted (w.bag i) ≡ sorted (rows plan i) = source_is plan ok w kept n (Sort i sorted) lt e h.0 in λ p lt'. h.1 p (rw is lt')
  spent_gave n (Joined j) lt e h = h

  closed_at : (n : ℕ) (side : Side) (t : ℕ) → MayClose plan w n side t → Holds plan (closed_above (Some t) w)
  closed_at n side t may =
      let w' = closed_above (Some t) w in
      let lift : (u : ℕ) → w.closed u ≡ true → put w.closed t true u ≡ true = λ u c. elim (eqb u t) as (λ b. cond b true (w.closed u) ≡ true) [ true ↦ refl | false ↦ c ] in
      record {
        out = kept.out;
        sinks = kept.sinks;
        sums = kept.sums;
        once = kept.once;
        inside = kept.inside;
        gave = put_cases (λ u b. b ≡ true → (n : ℕ) → n < plan.size → reaches plan n u ≡ true → Gave plan.parts (rows plan) (w.taken n) (w.flushed n) (plan.stage n)) w.closed t true
            (λ _ n lt r. spent_gave n (plan.stage n) lt refl (may.spent n lt r)) (λ u _. kept.gave u);
        quiet = put_cases (λ u b. b ≡ true → list_any (λ l. reaches plan l.node u) w.pending ≡ false) w.closed t true (λ _. may.idle) (λ u _. kept.quiet u);
        ready = EachLoad-weaker (λ l. ChainBuilt plan w.closed l.node) (λ l. ChainBuilt plan w'.closed l.node) (λ l h j join lt e r. lift join.build (h j join lt e r)) w.pending kept.ready;
        probed = λ j join lt e. put_cases (λ u b. join.probe ≡ u → b ≡ true → put w.closed t true join.build ≡ true) w.closed t true
            (λ same _. lift join.build (may.built j join lt e same)) (λ u _ same c. lift join.build (kept.probed j join lt e (rw same c))) join.probe refl;
        sound = kept.sound;
        full = kept.full;
      }

  pub kept_close : (n : ℕ) (side : Side) (t : ℕ) → MayClose plan w n side t → Holds plan (after plan w (Close n side))
  kept_close n side t may = subst (λ below. Holds plan (closed_above below w)) (sym may.is_side) (closed_at n side t may)
