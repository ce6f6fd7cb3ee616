-- Every schedule: each event keeps the facts, and at the end they give the plan's rows.
use Rattle.std.proofs.Common.{◌≡◌, ℕ, ◌<◌, Bool, true, false, List, [], ◌∷◌, ◌++◌, refl, ap, ◌∙◌, arith}
use Rattle.pipe_schema.specs.Rows.{Row}
use Rattle.pipe_schema.proofs.Weights.{SameBag, WithinBag, SameBag-refl, SameBag-sym, SameBag-trans, Same-from_bag, Within-from_bag}
use Rattle.pipe_events.specs.Stages.{JoinStage, Stages, Stage, Scan, Each, Union, Sort, Joined, rows, flow_at, feeds, build_key, matches_built, IsStages, marks}
use Rattle.pipe_events.specs.Worlds.{World, start, Allowed, Event, Take, Mark, Emit, Done, Close, Flush, is_sink, after}
use Rattle.pipe_events.proofs.Bags.{SameBag-nil, flat_nil, WithinBag-trans, WithinBag-first, WithinBag-from_SameBag}
use Rattle.pipe_expr.specs.Joins.{Join}
use Rattle.pipe_expr.specs.declared.join_words.JoinType.{JoinType}
use Rattle.pipe_expr.specs.declared.join_words.JoinType.TheVariants as how
use Rattle.pipe_events.specs.Schedules.{AllAllowed, run, IsComplete, EverySchedule}
use Rattle.pipe_events.proofs.WalkLemmas.{walk_all}
use Rattle.pipe_events.proofs.Tests.{any-within, any-never, any-alike, filter-never}
use Rattle.pipe_events.proofs.Settled.{never_more}
use Rattle.pipe_events.proofs.Facts.{own_within, own_of, flushed_rows, flagged_rows, own_so_far, hits, matches-hits, met, own, came, due, Holds}
use Rattle.pipe_events.proofs.Ways.{eqb-refl, settled_at}
use Rattle.pipe_events.proofs.Taking.{kept_take}
use Rattle.pipe_events.proofs.Marking.{kept_mark}
use Rattle.pipe_events.proofs.Emitting.{kept_emitted}
use Rattle.pipe_events.proofs.Ending.{kept_done}
use Rattle.pipe_events.proofs.Closing.{kept_close, spent_gave}
use Rattle.pipe_events.proofs.Flushing.{kept_flush}

-- ---- every schedule

module _ (plan : Stages) (ok : IsStages plan) where
  pub kept_event : (w : World) → Holds plan w → (e : Event) → Allowed plan w e → Holds plan (after plan w e)
  kept_event w kept (Take worker s from amount) = kept_take plan ok w kept worker s from amount
  kept_event w kept (Mark worker j key) = kept_mark plan ok w kept worker j key
  kept_event w kept (Emit worker) = λ may. kept_emitted plan ok w kept worker may.marked
  kept_event w kept (Done worker) = λ busy. kept_done plan ok worker w kept
  kept_event w kept (Close n side) = λ may. kept_close plan ok w kept n side may.0 may.1
  kept_event w kept (Flush worker j p) = kept_flush plan ok w kept worker j p

  pub kept_run : (es : List Event) (w : World) → Holds plan w → AllAllowed plan w es → Holds plan (run plan w es)
  kept_run [] w kept h = kept
  kept_run (e ∷ es) w kept h = kept_run es (after plan w e) (kept_event w kept e h.0) h.1

  nothing_join : (kind : JoinType) (right_built : Bool) (j : Join) → own_so_far kind j right_built [] [] ≡ []
  nothing_join how.Inner right_built j = refl
  nothing_join how.Left right_built j = refl
  nothing_join how.Full right_built j = refl
  nothing_join how.Cross right_built j = refl
  nothing_join how.Semi true j = refl
  nothing_join how.Semi false j = refl
  nothing_join how.Anti true j = refl
  nothing_join how.Anti false j = refl

  nothing_own : (at : ℕ → List Row) (x : Stage) → own_of plan.part at [] [] (λ key. false) x ≡ []
  nothing_own at (Scan rows) = refl
  nothing_own at (Each i op) = refl
  nothing_own at (Union is) = refl
  nothing_own at (Sort i sorted) = refl
  nothing_own at (Joined j) =
      let unflushed : flushed_rows plan.part at [] j ≡ [] = filter-never (λ r. false) (at j.build) (λ r. refl) in
      let unflagged : flagged_rows at (λ key. false) j ≡ [] = filter-never (λ r. false) (at j.build) (λ r. refl) in
      ap (λ l. own_so_far j.join.how j.join j.right_built l (flagged_rows at (λ key. false) j)) unflushed ∙ ap (own_so_far j.join.how j.join j.right_built []) unflagged ∙ nothing_join j.join.how j.right_built j.join

  nothing_came : (t : ℕ) → came plan start t ≡ []
  nothing_came =
      walk_all (λ t x. x ≡ []) [] (flow_at plan (rows plan) (own plan start)) (λ t. refl)
      (λ k at ih. let a = nothing_own (rows plan) (plan.stage k) in let b = flat_nil at (feeds (plan.stage k)) ih in rw (a, b) refl)
      plan.size

  pub kept_start : Holds plan start
  kept_start = record {
    out = λ t. [];
    sinks = λ t e. SameBag-refl [];
    sums = λ t. let e = nothing_came t in rw e (SameBag-refl []);
    once = λ n p. omega arith;
    inside = λ n. tt;
    gave = λ t c. cc;
    quiet = λ t c. refl;
    ready = tt;
    probed = λ j join lt e c. cc;
    sound = λ j join lt e marking key f. cc;
    full = λ j join lt e marking. any-never _ (rows plan join.build) (λ r. refl);
  }

  module _ (w : World) (kept : Holds plan w) where
    root_sink : is_sink plan plan.root ≡ true
    root_sink = let e = eqb-refl plan.root in rw e refl

    back : (m : ℕ) → m < plan.size → ((join : JoinStage) → plan.stage m ≡ Joined join → marks join ≡ true → WithinBag (came plan w join.probe) (rows plan join.probe)) → (join : JoinStage) → plan.stage m ≡ Joined join → marks join ≡ true → (r : Row) → w.flag m (build_key join r) ≡ true → met join (rows plan join.probe) r ≡ true
    back m lt waits join e marking r f = any-within (matches_built join r) (waits join e marking) (any-alike (matches_built join r) (hits join (build_key join r)) (came plan w join.probe) (matches-hits join r) ∙ kept.sound m join lt e marking (build_key join r) f)

    pub root_within : WithinBag (w.bag plan.root) (rows plan plan.root)
    root_within =
        WithinBag-trans (WithinBag-from_SameBag (kept.sinks plan.root root_sink))
        (WithinBag-trans (WithinBag-first (kept.out plan.root) (due plan w plan.root))
        (WithinBag-trans (WithinBag-from_SameBag (SameBag-sym (kept.sums plan.root)))
        (never_more plan ok (own plan w) (λ m lt waits. own_within plan.part (rows plan) (w.taken m) (w.flushed m) (w.flag m) (kept.once m) (plan.stage m) (kept.inside m) (back m lt waits)) plan.size (omega arith) plan.root)))

    pub root_whole : IsComplete plan w → SameBag (w.bag plan.root) (rows plan plan.root)
    root_whole done =
        let nothing = done.nothing_pending in
        let sum : SameBag (came plan w plan.root) (kept.out plan.root ++ []) = rw nothing at (kept.sums plan.root) in
        SameBag-trans (kept.sinks plan.root root_sink)
        (SameBag-trans (SameBag-sym (SameBag-nil (kept.out plan.root)))
        (SameBag-trans (SameBag-sym sum) (settled_at plan ok w kept plan.root (rw nothing refl) (λ n lt r. spent_gave plan ok w kept n (plan.stage n) lt refl (done.spent n lt)))))

pub every : EverySchedule
every plan ok events h =
    let kept = kept_run plan ok events start (kept_start plan ok) h in
    (Within-from_bag (root_within plan ok (run plan start events) kept), λ done. Same-from_bag (root_whole plan ok (run plan start events) kept done))
