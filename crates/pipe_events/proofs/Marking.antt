-- Marks keep the facts.
use Rattle.std.proofs.Common.{◌≡◌, ℕ, ◌+◌, ◌<◌, Bool, true, false, cond, eqb, ◌||◌, List, [], ◌∷◌, ◌++◌, refl, ap, sym, ◌∙◌, subst, arith}
use Rattle.std.proofs.lemmas.Bool.Decides.{Decides-eqb}
use Rattle.std.specs.Prelude.{not}
use Rattle.std.specs.List.{list_any}
use Rattle.pipe_schema.specs.Rows.{Row, eq_row}
use Rattle.pipe_schema.proofs.Weights.{SameBag, WithinBag, total-append, SameBag-refl, SameBag-sym, SameBag-trans, SameBag-append, SameBag-filter, eq_row-sound}
use Rattle.pipe_events.specs.Stages.{Key, JoinStage, Stages, Joined, rows, flow, flow_at, feeds, reaches, build_key, matches_built, IsStages, only, marks}
use Rattle.pipe_events.specs.Worlds.{World, Load, Mark, put, mine, others, is_of, with_load, at_join, seen, mark_keys, newly_marked, given, given_by, carried, ChainBuilt, MayMark, after}
use Rattle.pipe_events.proofs.Bags.{SameBag-nil, flat_nil, WithinBag-trans, WithinBag-first, WithinBag-from_SameBag}
use Rattle.pipe_expr.specs.Joins.{Join}
use Rattle.pipe_expr.specs.declared.join_words.JoinType.{JoinType}
use Rattle.pipe_expr.specs.declared.join_words.JoinType.TheVariants as how
use Rattle.pipe_events.proofs.WalkLemmas.{walk_all}
use Rattle.pipe_events.proofs.Places.{put_cases}
use Rattle.pipe_events.proofs.Tests.{any-within, any-weaker, any-alike, any-filter, filter-alike, filter-never, filter_two}
use Rattle.pipe_events.proofs.FlowLemmas.{flow_add}
use Rattle.pipe_events.proofs.Facts.{own_of, flushed_rows, flagged_rows, own_so_far, hits, matches-hits, EachLoad, EachLoad-filter, own, came, due, Holds}
use Rattle.pipe_events.proofs.Ways.{eqb-refl, sink_build, carried_none, carried_parts, reach_over, reach_on, idle_below, closed_bag, carried_alike, unflagged}
use Rattle.pipe_events.proofs.Taking.{sums_grow}

module _ (plan : Stages) (ok : IsStages plan) (w : World) (kept : Holds plan w) where
  -- ---- marking

  -- a key that some built row has and some row hits is hit
  any_key : (join : JoinStage) (key : Key) (ls rs : List Row) → list_any (λ r. cond (eq_row (build_key join r) key) (list_any (matches_built join r) ls) false) rs ≡ true → list_any (hits join key) ls ≡ true
  any_key join key ls [] e = cc
  any_key join key ls (r ∷ rs) e =
      let rest : Bool = list_any (λ r'. cond (eq_row (build_key join r') key) (list_any (matches_built join r') ls) false) rs in
      let split : (b c : Bool) → eq_row (build_key join r) key ≡ b → list_any (matches_built join r) ls ≡ c → (cond b c false || rest) ≡ true → list_any (hits join key) ls ≡ true =
      elim [
        | true ↦ elim [
          | true ↦ λ s m _. subst (λ k. list_any (hits join k) ls ≡ true) (eq_row-sound (build_key join r) key s) (sym (any-alike (matches_built join r) (hits join (build_key join r)) ls (matches-hits join r)) ∙ m)
          | false ↦ λ _ _ f. any_key join key ls rs f
        ]
        | false ↦ λ c _ _ f. any_key join key ls rs f
      ]
      in split (eq_row (build_key join r) key) (list_any (matches_built join r) ls) refl refl e

  -- what is on its way came
  mine_came : (worker t : ℕ) → WithinBag (carried plan w.bag (mine worker w.pending) t) (came plan w t)
  mine_came worker t =
      let alike = carried_alike plan ok w kept (mine worker w.pending) (EachLoad-filter (λ l. ChainBuilt plan w.closed l.node) (is_of worker) w.pending kept.ready) t in
      let parts = carried_parts plan (rows plan) t worker w.pending in
      let all = kept.sums t in
      record { sums = λ f. omega (arith, alike.sums f, parts.sums f, all.sums f, total-append f (kept.out t) (due plan w t), total-append f (carried plan (rows plan) (mine worker w.pending) t) (carried plan (rows plan) (others worker w.pending) t)) }

  same_join : (j : ℕ) (a b : JoinStage) → plan.stage j ≡ Joined a → plan.stage j ≡ Joined b → a ≡ b
  same_join j a b e f = let g : Joined a ≡ Joined b = sym e ∙ f in cc

  flagged : (f : ℕ → Key → Bool) (j : ℕ) (keys : Key → Bool) (j' : ℕ) (key' : Key) → f j' key' ≡ true → put f j (λ k. keys k || f j k) j' key' ≡ true
  flagged f j keys j' key' e =
      let split : (b : Bool) → eqb j' j ≡ b → cond b (λ k. keys k || f j k) (f j') key' ≡ true =
      elim [
        | true ↦ λ s. let same : j' ≡ j = (Decides-eqb j' j).0 s in elim (keys key') as (λ b. (b || f j key') ≡ true) [ true ↦ refl | false ↦ subst (λ i. f i key' ≡ true) same e ]
        | false ↦ λ _. e
      ]
      in split (eqb j' j) refl

  -- keys flagged, with more on its way
  abbrev marked_world : ℕ → (Key → Bool) → List Load → World
  marked_world j keys loads = record { taken = w.taken; pending = loads; flag = put w.flag j (λ k. keys k || w.flag j k); flushed = w.flushed; closed = w.closed; bag = w.bag }

  kept_marked : (j : ℕ) (keys : Key → Bool) (joined : JoinStage) → plan.stage j ≡ Joined joined → ((key : Key) → keys key ≡ true → list_any (hits joined key) (came plan w joined.probe) ≡ true) → (loads : List Load) (extra : List Row) →
      SameBag (own_of plan.part (rows plan) (w.taken j) (w.flushed j) (λ k. keys k || w.flag j k) (plan.stage j)) (own plan w j ++ extra) →
      ((t : ℕ) → SameBag (carried plan (rows plan) loads t) (flow plan (rows plan) (only j extra) t ++ due plan w t)) →
      ((t : ℕ) → w.closed t ≡ true → list_any (λ l. reaches plan l.node t) loads ≡ false) →
      EachLoad (λ l. ChainBuilt plan w.closed l.node) loads →
      Holds plan (marked_world j keys loads)
  kept_marked j keys joined is_join hit loads extra own_here due_more still ready =
      let w' = marked_world j keys loads in
      let own_more : (n : ℕ) → SameBag (own plan w' n) (own plan w n ++ only j extra n) =
      put_cases (λ n fl. SameBag (own_of plan.part (rows plan) (w.taken n) (w.flushed n) fl (plan.stage n)) (own plan w n ++ only j extra n)) w.flag j (λ k. keys k || w.flag j k)
      (let e = eqb-refl j in rw e own_here)
      (λ n e. rw e (SameBag-sym (SameBag-nil (own plan w n)))) in
      let grows : (t : ℕ) → SameBag (came plan w' t) (came plan w t ++ flow plan (rows plan) (only j extra) t) = flow_add plan (rows plan) (own plan w') (own plan w) (only j extra) own_more plan.size in
      let more : (t : ℕ) → WithinBag (came plan w t) (came plan w' t) = λ t. WithinBag-trans (WithinBag-first (came plan w t) _) (WithinBag-from_SameBag (SameBag-sym (grows t))) in
      let known : (j' : ℕ) (join : JoinStage) → j' < plan.size → plan.stage j' ≡ Joined join → marks join ≡ true → (key' : Key) → w'.flag j' key' ≡ true → list_any (hits join key') (came plan w join.probe) ≡ true =
      λ j' join lt e marking key'.
      let split : (b : Bool) → eqb j' j ≡ b → cond b (λ k. keys k || w.flag j k) (w.flag j') key' ≡ true → list_any (hits join key') (came plan w join.probe) ≡ true =
      elim [
        | true ↦ λ s.
            let same : j' ≡ j = (Decides-eqb j' j).0 s in
            let joins : joined ≡ join = same_join j joined join is_join (subst (λ i. plan.stage i ≡ Joined join) same e) in
            let inner : (b : Bool) → keys key' ≡ b → (b || w.flag j key') ≡ true → list_any (hits join key') (came plan w join.probe) ≡ true =
            elim [
              | true ↦ λ s' _. subst (λ i. list_any (hits i key') (came plan w i.probe) ≡ true) joins (hit key' s')
              | false ↦ λ _ f. kept.sound j' join lt e marking key' (subst (λ i. w.flag i key' ≡ true) (sym same) f)
            ]
            in inner (keys key') refl
        | false ↦ λ _ f. kept.sound j' join lt e marking key' f
      ]
      in split (eqb j' j) refl in
      record {
        out = kept.out;
        sinks = kept.sinks;
        sums = λ t. SameBag-trans (sums_grow _ _ _ _ _ (grows t) (kept.sums t)) (SameBag-append (SameBag-refl (kept.out t)) (SameBag-sym (due_more t)));
        once = kept.once;
        inside = kept.inside;
        gave = kept.gave;
        quiet = still;
        ready = ready;
        probed = kept.probed;
        sound = λ j' join lt e marking key' f0. any-within (hits join key') (more join.probe) (known j' join lt e marking key' f0);
        full = λ j' join lt e marking. any-weaker
            (λ r. cond (list_any (matches_built join r) (kept.out join.probe)) (not (w'.flag j' (build_key join r))) false)
            (λ r. cond (list_any (matches_built join r) (kept.out join.probe)) (not (w.flag j' (build_key join r))) false)
            (rows plan join.build)
            (λ r. elim (list_any (matches_built join r) (kept.out join.probe)) as (λ b. cond b (not (w'.flag j' (build_key join r))) false ≡ true → cond b (not (w.flag j' (build_key join r))) false ≡ true) [
              | true ↦ unflagged (w.flag j' (build_key join r)) (w'.flag j' (build_key join r)) (flagged w.flag j keys j' (build_key join r))
              | false ↦ λ f. f
            ])
            (kept.full j' join lt e marking);
      }

  -- first marks
  new_mark : (k f : Bool) (v : ℕ) → cond (k || f) v 0 ≡ cond f v 0 + cond (cond k (not f) false) v 0
  new_mark true true v = omega arith
  new_mark true false v = omega arith
  new_mark false f v = omega arith

  more_flagged : (at bag : ℕ → List Row) (flag keys : Key → Bool) (j : JoinStage) → SameBag (bag j.build) (at j.build) →
      SameBag (flagged_rows at (λ k. keys k || flag k) j) (flagged_rows at flag j ++ newly_marked flag keys bag j)
  more_flagged at bag flag keys j alike =
      let fresh : Row → Bool = λ r. cond (keys (build_key j r)) (not (flag (build_key j r))) false in
      SameBag-trans (filter_two (λ r. keys (build_key j r) || flag (build_key j r)) (λ r. flag (build_key j r)) fresh (at j.build) (λ r v. new_mark (keys (build_key j r)) (flag (build_key j r)) v))
      (SameBag-append (SameBag-refl _) (SameBag-filter fresh (SameBag-sym alike)))

  -- one case for each kind of join
  mark_own : (kind : JoinType) (right_built : Bool) (j : Join) (flushed flagged more new : List Row) → SameBag more (flagged ++ new) →
      SameBag (own_so_far kind j right_built flushed more) (own_so_far kind j right_built flushed flagged ++ given_by kind right_built new)
  mark_own how.Inner right_built j flushed flagged more new h = SameBag-refl []
  mark_own how.Left right_built j flushed flagged more new h = SameBag-refl []
  mark_own how.Full right_built j flushed flagged more new h = SameBag-sym (SameBag-nil _)
  mark_own how.Cross right_built j flushed flagged more new h = SameBag-refl []
  mark_own how.Semi true j flushed flagged more new h = SameBag-refl []
  mark_own how.Semi false j flushed flagged more new h = h
  mark_own how.Anti true j flushed flagged more new h = SameBag-refl []
  mark_own how.Anti false j flushed flagged more new h = SameBag-sym (SameBag-nil _)

  -- no key, no first mark
  given_nothing : (kind : JoinType) (right_built : Bool) → given_by kind right_built [] ≡ []
  given_nothing how.Inner right_built = refl
  given_nothing how.Left right_built = refl
  given_nothing how.Full right_built = refl
  given_nothing how.Cross right_built = refl
  given_nothing how.Semi true = refl
  given_nothing how.Semi false = refl
  given_nothing how.Anti right_built = refl

  mark_none : (at bag : ℕ → List Row) (flag keys : Key → Bool) → ((k : Key) → keys k ≡ false) → (j : JoinStage) →
      (flagged_rows at (λ k. keys k || flag k) j ≡ flagged_rows at flag j) × (given flag keys bag j ≡ [])
  mark_none at bag flag keys none j =
      let unmarked : newly_marked flag keys bag j ≡ [] = filter-never (λ r. cond (keys (build_key j r)) (not (flag (build_key j r))) false) (bag j.build) (λ r. let e = none (build_key j r) in rw e refl) in (
        filter-alike (λ r. keys (build_key j r) || flag (build_key j r)) (λ r. flag (build_key j r)) (at j.build) (λ r. let e = none (build_key j r) in rw e refl),
        ap (given_by j.join.how j.right_built) unmarked ∙ given_nothing j.join.how j.right_built,
      )

  -- a load that reaches a node
  some_load : (P : Load → Type 0) (t : ℕ) (loads : List Load) → list_any (λ l. reaches plan l.node t) loads ≡ true → EachLoad P loads → (l : Load) × (reaches plan l.node t ≡ true) × P l
  some_load P t [] e h = cc
  some_load P t (l ∷ loads) e h =
      elim (reaches plan l.node t) as (λ b. reaches plan l.node t ≡ b → (b || list_any (λ k. reaches plan k.node t) loads) ≡ true → (l : Load) × (reaches plan l.node t ≡ true) × P l)
      [ true ↦ λ r _. (l, r, h.0) | false ↦ λ _ f. some_load P t loads f h.1 ] refl e

  flow_nothing : (j t : ℕ) → flow plan (rows plan) (only j []) t ≡ []
  flow_nothing j t =
      walk_all (λ t x. x ≡ []) [] (flow_at plan (rows plan) (only j [])) (λ t. refl)
      (λ k at ih. let a : only j [] k ≡ [] = elim (eqb k j) as (λ b. cond {A = List Row} b [] [] ≡ []) [ true ↦ refl | false ↦ refl ] in let b = flat_nil at (feeds (plan.stage k)) ih in rw (a, b) refl)
      plan.size t

  with_carried : (worker j : ℕ) (bag : List Row) (loads : List Load) (t : ℕ) → SameBag (carried plan (rows plan) (with_load worker j bag loads) t) (flow plan (rows plan) (only j bag) t ++ carried plan (rows plan) loads t)
  with_carried worker j [] loads t = let e = flow_nothing j t in rw e (SameBag-refl _)
  with_carried worker j (r ∷ rs) loads t = SameBag-refl _

  with_still : (worker j : ℕ) (bag : List Row) (loads : List Load) (t : ℕ) → (reaches plan j t ≡ true → ⊥) → list_any (λ l. reaches plan l.node t) loads ≡ false → list_any (λ l. reaches plan l.node t) (with_load worker j bag loads) ≡ false
  with_still worker j [] loads t apart e = e
  with_still worker j (r ∷ rs) loads t apart e = elim (reaches plan j t) as (λ b. reaches plan j t ≡ b → (b || list_any (λ l. reaches plan l.node t) loads) ≡ false) [ true ↦ λ h. absurd (apart h) | false ↦ λ _. e ] refl

  with_each : (P : ℕ → Type 0) (worker j : ℕ) (bag : List Row) (loads : List Load) → P j → EachLoad (λ l. P l.node) loads → EachLoad (λ l. P l.node) (with_load worker j bag loads)
  with_each P worker j [] loads p h = h
  with_each P worker j (r ∷ rs) loads p h = (p, h)

  pub kept_keys : (worker j : ℕ) (keys : Key → Bool) (join : JoinStage) → j < plan.size → plan.stage j ≡ Joined join → ((key : Key) → keys key ≡ true → seen plan worker w join key ≡ true) → Holds plan (mark_keys plan worker j join keys w)
  kept_keys worker j keys join lt is_join matched =
      let met_key : (key : Key) → keys key ≡ true → list_any (hits join key) (carried plan w.bag (mine worker w.pending) join.probe) ≡ true =
      λ key e. any_key join key (carried plan w.bag (mine worker w.pending) join.probe) (w.bag join.build) (matched key e) in
      let hit : (key : Key) → keys key ≡ true → list_any (hits join key) (came plan w join.probe) ≡ true = λ key e. any-within (hits join key) (mine_came worker join.probe) (met_key key e) in
      let bag = given (w.flag j) keys w.bag join in
      elim (list_any (λ l. reaches plan l.node join.probe) w.pending) as (λ b. list_any (λ l. reaches plan l.node join.probe) w.pending ≡ b → Holds plan (marked_world j keys (with_load worker j bag w.pending))) [
        | true ↦ λ some.
            let l = some_load (λ l. ChainBuilt plan w.closed l.node) join.probe w.pending some kept.ready in
            let built : w.closed join.build ≡ true = l.2 j join lt is_join l.1 in
            let here : reaches plan l.0.node j ≡ true = reach_over plan ok l.0.node j join lt is_join l.1 in
            let chain : ChainBuilt plan w.closed j = λ i other lt' e r. l.2 i other lt' e (reach_on plan l.0.node j plan.size other.probe (omega arith) here r) in
            let apart : (t : ℕ) → w.closed t ≡ true → reaches plan j t ≡ true → ⊥ =
            λ t c r. (let no' = idle_below plan ok w kept t j join lt is_join r (kept.quiet t c) in cc) in
            let bags : SameBag (w.bag join.build) (rows plan join.build) = closed_bag plan ok w kept join.build built (sink_build plan j join lt is_join) in
            let own_here : SameBag (own_of plan.part (rows plan) (w.taken j) (w.flushed j) (λ k. keys k || w.flag j k) (plan.stage j)) (own plan w j ++ bag) =
            subst (λ x. SameBag (own_of plan.part (rows plan) (w.taken j) (w.flushed j) (λ k. keys k || w.flag j k) x) (own_of plan.part (rows plan) (w.taken j) (w.flushed j) (w.flag j) x ++ bag)) (sym is_join)
            (mark_own join.join.how join.right_built join.join (flushed_rows plan.part (rows plan) (w.flushed j) join) (flagged_rows (rows plan) (w.flag j) join) (flagged_rows (rows plan) (λ k. keys k || w.flag j k) join) (newly_marked (w.flag j) keys w.bag join) (more_flagged (rows plan) w.bag (w.flag j) keys join bags)) in
            kept_marked j keys join is_join hit (with_load worker j bag w.pending) bag own_here
            (with_carried worker j bag w.pending)
            (λ t c. with_still worker j bag w.pending t (apart t c) (kept.quiet t c)) (with_each (ChainBuilt plan w.closed) worker j bag w.pending chain kept.ready)
        | false ↦ λ none.
            let gone = carried_none plan w.bag join.probe (mine worker w.pending) (any-filter (λ l. reaches plan l.node join.probe) (is_of worker) w.pending none) in
            let no_key : (key : Key) → keys key ≡ false =
            λ key. elim (keys key) as (λ b. keys key ≡ b → b ≡ false) [ true ↦ λ e. (let m : list_any (hits join key) [] ≡ true = rw gone at (met_key key e) in cc) | false ↦ λ _. refl ] refl in
            let nothing = mark_none (rows plan) w.bag (w.flag j) keys no_key join in
            let nothing_given = nothing.1 in
            let own_here : SameBag (own_of plan.part (rows plan) (w.taken j) (w.flushed j) (λ k. keys k || w.flag j k) (plan.stage j)) (own plan w j ++ []) =
            subst (λ x. SameBag (own_of plan.part (rows plan) (w.taken j) (w.flushed j) (λ k. keys k || w.flag j k) x) (own_of plan.part (rows plan) (w.taken j) (w.flushed j) (w.flag j) x ++ [])) (sym is_join)
            (let new = ap (own_so_far join.join.how join.join join.right_built (flushed_rows plan.part (rows plan) (w.flushed j) join)) nothing.0 in rw new (SameBag-sym (SameBag-nil _))) in
            rw nothing_given (kept_marked j keys join is_join hit w.pending [] own_here
            (λ t. let e = flow_nothing j t in rw e (SameBag-refl _)) kept.quiet kept.ready)
      ] refl

  pub kept_mark : (worker j : ℕ) (key : Key) → MayMark plan w worker j key → Holds plan (after plan w (Mark worker j key))
  kept_mark worker j key may =
      subst (λ x. Holds plan (at_join w (λ join. mark_keys plan worker j join (λ k. eq_row k key) w) x)) (sym may.is_join)
      (kept_keys worker j (λ k. eq_row k key) may.join may.inside may.is_join (λ k e. subst (λ i. seen plan worker w may.join i ≡ true) (sym (eq_row-sound k key e)) may.matched))
