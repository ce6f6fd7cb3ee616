-- A flush keeps the facts.
use Rattle.std.proofs.Common.{◌≡◌, ℕ, ◌+◌, ◌<◌, ◌≤◌, Bool, true, false, cond, eqb, ◌||◌, List, [], ◌∷◌, ◌++◌, refl, sym, subst, arith}
use Rattle.std.proofs.lemmas.Bool.Decides.{Decides-eqb}
use Rattle.std.proofs.lemmas.List.{map-append}
use Rattle.std.specs.Prelude.{filter, not}
use Rattle.std.specs.List.{list_any}
use Rattle.pipe_schema.specs.Rows.{Row}
use Rattle.pipe_schema.proofs.Weights.{SameBag, SameBag-refl, SameBag-sym, SameBag-trans, SameBag-append, SameBag-map, SameBag-filter}
use Rattle.pipe_events.specs.Stages.{JoinStage, Stages, Joined, rows, flow, reaches, build_key, IsStages, only, marks, marks_by, flushes_by}
use Rattle.pipe_events.specs.Worlds.{World, Flush, count, at_join, unflagged_rows, unmatched, flushed_by, MayFlush, after}
use Rattle.pipe_events.proofs.Bags.{SameBag-nil, WithinBag-trans, WithinBag-first, WithinBag-from_SameBag}
use Rattle.pipe_expr.specs.Joins.{Join}
use Rattle.pipe_expr.specs.Shares.{pad_built}
use Rattle.pipe_expr.specs.declared.join_words.JoinType.{JoinType}
use Rattle.pipe_expr.specs.declared.join_words.JoinType.TheVariants as how
use Rattle.pipe_events.proofs.Places.{put_cases}
use Rattle.pipe_events.proofs.WalkLemmas.{Decides-no}
use Rattle.pipe_events.proofs.Tests.{any-some, any-within, filter_agree, filter_two}
use Rattle.pipe_events.proofs.FlowLemmas.{flow_add}
use Rattle.pipe_events.proofs.Facts.{own_of, stands, flushed_rows, flagged_rows, own_so_far, hits, met, Gave, Gave-more, own, came, Holds}
use Rattle.pipe_events.proofs.Ways.{eqb-refl, sink_build, all_flagged, closed_rows, closed_bag}
use Rattle.pipe_events.proofs.Taking.{sums_grow}

module _ (plan : Stages) (ok : IsStages plan) (w : World) (kept : Holds plan w) where
  -- ---- flushing

  -- one more partition
  part_more : (x p : ℕ) (ps : List ℕ) (n : Bool) (v : ℕ) → count p ps ≡ 0 → cond (cond (stands x (p ∷ ps)) n false) v 0 ≡ cond (cond (stands x ps) n false) v 0 + cond (cond (eqb x p) n false) v 0
  part_more x p ps n v fresh =
      let split : (b : Bool) → eqb p x ≡ b → cond (cond (b || stands x ps) n false) v 0 ≡ cond (cond (stands x ps) n false) v 0 + cond (cond (eqb x p) n false) v 0 =
      elim [
        | true ↦ λ e.
            let same : p ≡ x = (Decides-eqb p x).0 e in
            let yes' : eqb x p ≡ true = (Decides-eqb x p).1 (sym same) in
            let out : stands x ps ≡ false =
            elim (stands x ps) as (λ b. stands x ps ≡ b → b ≡ false) [ true ↦ λ s. (let some = any-some (λ q. eqb q x) ps s in let none : count x ps ≡ 0 = subst (λ y. count y ps ≡ 0) same fresh in absurd (omega arith)) | false ↦ λ _. refl ] refl in
            rw (out, yes') (omega arith)
        | false ↦ λ e.
            let out : eqb x p ≡ false = Decides-no x p (λ same. let t : eqb p x ≡ true = (Decides-eqb p x).1 (sym same) in cc) in
            rw out (omega arith)
      ]
      in split (eqb p x) refl

  more_flushed : (j : ℕ) (join : JoinStage) (p : ℕ) → j < plan.size → plan.stage j ≡ Joined join → marks join ≡ true → w.closed join.probe ≡ true → count p (w.flushed j) ≡ 0 →
      SameBag (flushed_rows plan.part (rows plan) (p ∷ w.flushed j) join) (flushed_rows plan.part (rows plan) (w.flushed j) join ++ unflagged_rows plan.part (w.flag j) w.bag p join)
  more_flushed j join p lt e marking probed fresh =
      let part : Row → ℕ = λ r. plan.part (build_key join r) in
      let seen : Row → Bool = met join (rows plan join.probe) in
      let flag : Row → Bool = λ r. w.flag j (build_key join r) in
      let bags = closed_bag plan ok w kept join.build (kept.probed j join lt e probed) (sink_build plan j join lt e) in
      let f = all_flagged plan ok w kept j join lt e marking (kept.quiet join.probe probed) (closed_rows plan ok w kept join.probe probed) in
      let agree : filter (λ r. cond (eqb (part r) p) (not (flag r)) false) (rows plan join.build) ≡ filter (λ r. cond (eqb (part r) p) (not (seen r)) false) (rows plan join.build) =
      filter_agree (λ r. eqb (part r) p) seen flag (rows plan join.build) f.marked f.back in
      let two = filter_two (λ r. cond (stands (part r) (p ∷ w.flushed j)) (not (seen r)) false) (λ r. cond (stands (part r) (w.flushed j)) (not (seen r)) false) (λ r. cond (eqb (part r) p) (not (seen r)) false) (rows plan join.build)
      (λ r v. part_more (part r) p (w.flushed j) (not (seen r)) v fresh) in
      let new : SameBag (filter (λ r. cond (eqb (part r) p) (not (seen r)) false) (rows plan join.build)) (unflagged_rows plan.part (w.flag j) w.bag p join) =
      rw (← agree) (SameBag-filter (λ r. cond (eqb (part r) p) (not (flag r)) false) (SameBag-sym bags)) in
      SameBag-trans two (SameBag-append (SameBag-refl _) new)

  -- one case for each kind of join
  flush_more : (kind : JoinType) (right_built : Bool) (j : Join) (flushed flagged more new : List Row) → flushes_by kind right_built ≡ true → SameBag more (flushed ++ new) →
      SameBag (own_so_far kind j right_built more flagged) (own_so_far kind j right_built flushed flagged ++ flushed_by kind j right_built new)
  flush_more how.Inner right_built j flushed flagged more new e h = cc
  flush_more how.Left right_built j flushed flagged more new e h = cc
  flush_more how.Full right_built j flushed flagged more new e h =
      let mapped = map-append (pad_built j right_built) flushed new in
      rw (← mapped) (SameBag-map (pad_built j right_built) h)
  flush_more how.Cross right_built j flushed flagged more new e h = cc
  flush_more how.Semi right_built j flushed flagged more new e h = cc
  flush_more how.Anti true j flushed flagged more new e h = cc
  flush_more how.Anti false j flushed flagged more new e h = h

  flushes_marks : (kind : JoinType) (right_built : Bool) → flushes_by kind right_built ≡ true → marks_by kind right_built ≡ true
  flushes_marks how.Inner right_built e = e
  flushes_marks how.Left right_built e = e
  flushes_marks how.Full right_built e = refl
  flushes_marks how.Cross right_built e = e
  flushes_marks how.Semi right_built e = cc
  flushes_marks how.Anti right_built e = e

  pub kept_flush : (worker j p : ℕ) → MayFlush plan w worker j p → Holds plan (after plan w (Flush worker j p))
  kept_flush worker j p may =
      let w' = after plan w (Flush worker j p) in
      let join = may.join in
      let bag = at_join [] (λ join. unmatched plan.part (w.flag j) w.bag p join) (plan.stage j) in
      let own_more : (n : ℕ) → SameBag (own plan w' n) (own plan w n ++ only j bag n) =
      put_cases (λ n ps. SameBag (own_of plan.part (rows plan) (w.taken n) ps (w.flag n) (plan.stage n)) (own plan w n ++ only j bag n)) w.flushed j (p ∷ w.flushed j)
      (let e = eqb-refl j in rw e (subst (λ x. SameBag (own_of plan.part (rows plan) (w.taken j) (p ∷ w.flushed j) (w.flag j) x) (own_of plan.part (rows plan) (w.taken j) (w.flushed j) (w.flag j) x ++ at_join [] (λ join. unmatched plan.part (w.flag j) w.bag p join) x)) (sym may.is_join)
      (flush_more join.join.how join.right_built join.join (flushed_rows plan.part (rows plan) (w.flushed j) join) (flagged_rows (rows plan) (w.flag j) join) (flushed_rows plan.part (rows plan) (p ∷ w.flushed j) join) (unflagged_rows plan.part (w.flag j) w.bag p join) may.flushing (more_flushed j join p may.inside may.is_join (flushes_marks join.join.how join.right_built may.flushing) may.probed may.fresh))))
      (λ n e. rw e (SameBag-sym (SameBag-nil (own plan w n)))) in
      let grows : (t : ℕ) → SameBag (came plan w' t) (came plan w t ++ flow plan (rows plan) (only j bag) t) = flow_add plan (rows plan) (own plan w') (own plan w) (only j bag) own_more plan.size in
      let apart : (t : ℕ) → w.closed t ≡ true → reaches plan j t ≡ true → ⊥ =
      λ t c r. (let all : Gave plan.parts (rows plan) (w.taken j) (w.flushed j) (Joined join) = subst (Gave plan.parts (rows plan) (w.taken j) (w.flushed j)) may.is_join (kept.gave t c j may.inside r) in
      let some = all may.flushing p may.part in let none = may.fresh in omega arith) in
      record {
        out = kept.out;
        sinks = kept.sinks;
        sums = λ t. sums_grow _ _ _ _ _ (grows t) (kept.sums t);
        once = kept.once;
        inside = kept.inside;
        gave = λ t c n lt r. Gave-more plan.parts (rows plan) (w.taken n) (w.taken n) (w.flushed n) (w'.flushed n) (λ q. omega arith)
            (λ q. put_cases (λ n ps. count q (w.flushed n) ≤ count q ps) w.flushed j (p ∷ w.flushed j) (omega arith) (λ n e. omega arith) n)
            (plan.stage n) (kept.gave t c n lt r);
        quiet = λ t c. elim (reaches plan j t) as (λ b. reaches plan j t ≡ b → (b || list_any (λ l. reaches plan l.node t) w.pending) ≡ false) [ true ↦ λ r. absurd (apart t c r) | false ↦ λ r. kept.quiet t c ] refl;
        ready = (may.built, kept.ready);
        probed = kept.probed;
        sound = λ j' join' lt e marking key f. any-within (hits join' key) (WithinBag-trans (WithinBag-first (came plan w join'.probe) _) (WithinBag-from_SameBag (SameBag-sym (grows join'.probe)))) (kept.sound j' join' lt e marking key f);
        full = kept.full;
      }
