-- The sink of a sort or a build is closed.
use Rattle.std.proofs.Common.{◌≡◌, ℕ, ◌<◌, Bool, true, false, cond, ◌==◌, List, [], ◌∷◌, ◌++◌, refl, ap, sym, ◌∙◌, subst, append-nil, arith, Some, None}
use Rattle.std.specs.List.{AllByRecursion, list_any}
use Rattle.pipe_events.specs.Stages.{Stages, feeds, reaches}
use Rattle.pipe_events.specs.Worlds.{Event, Close, Side, OfSort, OfBuild, OfProbe, side_below, MayClose}
use Rattle.pipe_events.specs.Journals.{world_after}
use Rattle.pipe_events.specs.Runs.{IsTree, inputs_of, reads}
use Rattle.pipe_events.proofs.Members.{mem, head, behind}
use Rattle.pipe_events.proofs.Chains.{Comes, IsTop, upwards, sort_top, build_top}
use Rattle.pipe_events.proofs.Flows.{acts, fed_probe}
use Rattle.pipe_events.proofs.Steps.{some_same, Knows, step_close, spent, SortedBelow}
use Rattle.pipe_driver.specs.declared.branch.SinkAt.{SinkAt}
use Rattle.pipe_driver.specs.declared.branch.SinkAt.TheVariants as at
use Rattle.pipe_driver.specs.Legs.{Way, sink_node}
use Rattle.pipe_driver.specs.Ways as ways
use Rattle.pipe_driver.specs.Ways.{begun, IsSinkOf}
use Rattle.pipe_driver.proofs.Tests.{eq-true, eq-false}
use Rattle.pipe_driver.specs.State.{World, Counts, IsFed, nothing, is_sink}
use Rattle.pipe_driver.proofs.Sums.{no_more}
use Rattle.pipe_driver.specs.Boards.{Board, IsBoard}
use Rattle.pipe_driver.specs.Recorded.{begun_in, was_run, is_shut, IsRecorded, IsNoted}
use Rattle.pipe_driver.specs.Written.{closing}
use Rattle.pipe_driver.proofs.Known.{knows, recorded, alike}
use Rattle.pipe_driver.proofs.Counts.{HasLegs, none_begins, none_passes, parked_legs, todo_legs}
use Rattle.pipe_driver.proofs.Boards.{run_as, to_sink, leg_sink, sort_sink, build_sink, join_there, sort_there, sort_own}

-- a side, as it is told of the sink that was just fed
abbrev told : Bool → ℕ → Bool
told but left = cond but false (left == 0)

module _ (b : Board) (w : World) (c : Counts) (s : ℕ) (parked todo : List Way) (events : List Event)
    (ok : IsBoard b) (fed : IsFed b.m w c s parked todo) (none : c.sinks s ≡ 0) (noted : IsNoted b c (is_sink s) parked todo events) where
  abbrev plan : Stages
  plan = b.stages

  abbrev tree : IsTree b.stages
  tree = ok.tree

  abbrev ran : ℕ → Bool
  ran = was_run b c parked todo

  abbrev shut : ℕ → Side → Bool
  shut = is_shut c (is_sink s)

  abbrev shut_now : ℕ → Side → Bool
  shut_now = is_shut c nothing

  known : Knows plan ran shut events
  known = knows plan ran shut events noted.recorded

  live_legs : AllByRecursion (HasLegs b.m) parked
  live_legs = parked_legs b.m c.sinks (is_sink s) todo parked fed.waiting

  other_legs : AllByRecursion (HasLegs b.m) todo
  other_legs = todo_legs b.m todo fed.left.ways

  none_live : ways.feeds s parked ≡ 0
  none_live = let all = fed.left.sinks s in omega (arith, all, none)

  none_todo : ways.feeds s todo ≡ 0
  none_todo = let all = fed.left.sinks s in omega (arith, all, none)

  other_told : (n : ℕ) → (n == s) ≡ false → told false (c.sinks n) ≡ told (n == s) (c.sinks n)
  other_told n e = ap (λ t. told t (c.sinks n)) (sym e)

  same_sides : (n : ℕ) (side : Side) → (n == s) ≡ false → shut_now n side ≡ shut n side
  same_sides n OfSort e = other_told n e
  same_sides n OfBuild e = other_told n e
  same_sides n OfProbe e = refl

  noted_now : (more : List Event) → IsRecorded plan ran shut_now (events ++ more) → IsNoted b c nothing parked todo (events ++ more)
  noted_now more h = record { recorded = h; sorts = noted.sorts; joins = noted.joins; fresh = noted.fresh }

  -- ---- all that comes to the sink has come

  module _ (t : ℕ) (to : b.m.above_sink t ≡ s) (low : t < s) where
    no_begin : (n : ℕ) → Comes plan tree n t → begun_in parked todo (b.source_of n) ≡ 0
    no_begin n r =
        let sink : b.m.above_sink (b.source_of n) ≡ s = leg_sink b ok n t r ∙ to in
        let a = none_begins b.m (b.source_of n) parked live_legs (ap (λ k. ways.feeds k parked) sink ∙ none_live) in
        let d = none_begins b.m (b.source_of n) todo other_legs (ap (λ k. ways.feeds k todo) sink ∙ none_todo) in
        omega (arith, a, d)

    no_pass : (n : ℕ) → Comes plan tree n t → c.probers n ≡ 0
    no_pass n r =
        let sink : b.m.above_sink n ≡ s = to_sink b ok n t r ∙ to in
        let a = none_passes b.m n parked ok.sound live_legs (ap (λ k. ways.feeds k parked) sink ∙ none_live) in
        let d = none_passes b.m n todo ok.sound other_legs (ap (λ k. ways.feeds k todo) sink ∙ none_todo) in
        let all = fed.left.probers n in
        omega (arith, a, d, all)

    all_ran : (n : ℕ) → Comes plan tree n t → acts (plan.stage n) ≡ true → ran n ≡ true
    all_ran n r act = run_as b c (begun_in parked todo) n (plan.stage n) (λ e. no_begin n r) (λ l isl. no_pass n r)

    sorted_below : (n : ℕ) → Comes plan tree n t → SortedBelow plan ran shut n
    sorted_below n r input by isn =
        let le = upwards plan tree n t r in
        let apart : (n == s) ≡ false = eq-false n s (λ same. absurd (omega (arith, same, le, low))) in
        let gone : begun_in parked todo n ≡ 0 = ap (begun_in parked todo) (sym (sort_own b ok n input by isn)) ∙ no_begin n r in
        let open_not : c.sinks n ≡ 0 = no_more (c.sinks n) (λ fed_still. (let waits = noted.sorts n (ok.sort n (record { input = input; sorted = by; is = isn })) fed_still in omega (arith, waits, gone))) in
        sym (other_told n apart) ∙ eq-true (c.sinks n) 0 open_not

    module _ (side : Side) (inside : s < plan.size) (is_side : side_below (plan.stage s) side ≡ Some t) (top : IsTop plan tree t)
        (only_sort : (u : ℕ) → side_below (plan.stage s) OfSort ≡ Some u → u ≡ t) (only_build : (u : ℕ) → side_below (plan.stage s) OfBuild ≡ Some u → u ≡ t)
        (open_still : shut s side ≡ false) (closed_now : shut_now s side ≡ true) where
      may_close : MayClose plan (world_after plan events) s side t
      may_close = record {
        inside = inside;
        is_side = is_side;
        still_open = known.tells.closed s side t is_side ∙ open_still;
        spent = λ n lt r. spent plan ran shut ok.ok events known n lt (λ act. all_ran n r act) (sorted_below n r);
        idle = ap (λ l. list_any (λ load. reaches plan load.node t) l) known.stands.idle;
        built = λ n l lt isl same. absurd (top n (subst (λ i. mem i (feeds (plan.stage n)) ≡ true) same (fed_probe plan tree n l isl)));
      }

      others_open : (n : ℕ) (v : Side) (u : ℕ) → side_below (plan.stage n) v ≡ Some u → (u ≡ t → ⊥) → shut_now n v ≡ shut n v
      others_open n OfSort u isu apart = same_sides n OfSort (eq-false n s (λ same. apart (only_sort u (ap (λ i. side_below (plan.stage i) OfSort) (sym same) ∙ isu))))
      others_open n OfBuild u isu apart = same_sides n OfBuild (eq-false n s (λ same. apart (only_build u (ap (λ i. side_below (plan.stage i) OfBuild) (sym same) ∙ isu))))
      others_open n OfProbe u isu apart = refl

      closed : IsNoted b c nothing parked todo (events ++ Close s side ∷ [])
      closed =
          noted_now (Close s side ∷ [])
          (recorded plan ran shut_now (events ++ Close s side ∷ []) (step_close plan ran shut tree shut_now s side t events closed_now others_open may_close known))

  self_told : told (s == s) (c.sinks s) ≡ false
  self_told = ap (λ t. told t (c.sinks s)) (eq-true s s refl)

  now_told : told false (c.sinks s) ≡ true
  now_told = eq-true (c.sinks s) 0 none

  pub close_sort : b.m.is_sort s ≡ true → IsNoted b c nothing parked todo (events ++ Close s OfSort ∷ [])
  close_sort sort =
      let h = ok.is_sort s sort in
      let there = sort_there b ok s h.input h.sorted h.is in
      let read : reads plan s h.input ≡ true = subst (λ x. mem h.input (inputs_of x) ≡ true) (sym h.is) (head h.input []) in
      closed h.input (sort_sink b ok s h.input h.sorted there h.is) (tree.smaller s h.input read) OfSort there (ap (λ x. side_below x OfSort) h.is) (sort_top plan tree s h.input h.sorted h.is)
      (λ u isu. some_same u h.input (sym isu ∙ ap (λ x. side_below x OfSort) h.is))
      (λ u isu. (let e : None ≡ Some u = sym (ap (λ x. side_below x OfBuild) h.is) ∙ isu in cc))
      self_told now_told

  pub close_build : b.m.is_join s ≡ true → IsNoted b c nothing parked todo (events ++ Close s OfBuild ∷ [])
  close_build join =
      let h = ok.is_join s join in
      let j = h.join in
      let there = join_there b ok s j h.is in
      let read : reads plan s j.build ≡ true = subst (λ x. mem j.build (inputs_of x) ≡ true) (sym h.is) (behind j.build j.probe (j.build ∷ []) (head j.build [])) in
      closed j.build (build_sink b ok s j there h.is) (tree.smaller s j.build read) OfBuild there (ap (λ x. side_below x OfBuild) h.is) (build_top plan tree s j h.is)
      (λ u isu. (let e : None ≡ Some u = sym (ap (λ x. side_below x OfSort) h.is) ∙ isu in cc))
      (λ u isu. some_same u j.build (sym isu ∙ ap (λ x. side_below x OfBuild) h.is))
      self_told now_told

  -- the root's sink is the side of no node
  no_side : (n : ℕ) (side : Side) (u : ℕ) → s ≡ b.m.ordered → side_below (plan.stage n) side ≡ Some u → (n == s) ≡ false
  no_side n side u root is =
      let there : n < plan.size = ok.inside n (λ union. (let e : None ≡ Some u = sym (ap (λ x. side_below x side) union) ∙ is in cc)) in
      eq-false n s (λ same. absurd (let last = root in let size = ok.ordered in omega (arith, same, last, size, there)))

  pub close_root : s ≡ b.m.ordered → IsNoted b c nothing parked todo (events ++ [])
  close_root root =
      noted_now [] (subst (λ l. IsRecorded plan ran shut_now l) (sym (append-nil events))
      (alike plan ran ran shut shut_now (λ n. refl) (λ n side u is. sym (same_sides n side (no_side n side u root is))) events noted.recorded))

pub closes : (b : Board) (w : World) (c : Counts) (a : SinkAt) (parked todo : List Way) (events : List Event)
    → IsBoard b → IsSinkOf b.m (sink_node b.m.ordered a) a → IsFed b.m w c (sink_node b.m.ordered a) parked todo → c.sinks (sink_node b.m.ordered a) ≡ 0
    → IsNoted b c (is_sink (sink_node b.m.ordered a)) parked todo events → IsNoted b c nothing parked todo (events ++ closing a)
closes b w c at.Ordered parked todo events ok is fed none noted = close_root b w c b.m.ordered parked todo events ok fed none noted refl
closes b w c (at.Sort n) parked todo events ok is fed none noted = close_sort b w c n parked todo events ok fed none noted is.1
closes b w c (at.Build n) parked todo events ok is fed none noted = close_build b w c n parked todo events ok fed none noted is.1
