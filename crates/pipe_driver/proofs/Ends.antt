-- The last leg leaves a node: a join that flushes is closed and flushed.
use Rattle.std.proofs.Common.{◌≡◌, ℕ, ◌<◌, Bool, true, false, cond, ◌==◌, List, [], ◌∷◌, ◌++◌, refl, ap, sym, ◌∙◌, subst, append_assoc, append-nil, arith, Some, None}
use Rattle.std.specs.List.{AllByRecursion, list_any}
use Rattle.pipe_events.specs.Stages.{JoinStage, Stage, Stages, Scan, Each, Union, Sort, Joined, flushes, feeds, reaches}
use Rattle.pipe_events.specs.Worlds.{Event, Close, Side, OfSort, OfBuild, OfProbe, at_join, side_below, MayClose}
use Rattle.pipe_events.specs.Rounds.{flushing}
use Rattle.pipe_events.specs.Journals.{world_after}
use Rattle.pipe_events.specs.Runs.{IsEnding, IsFlushed, IsTree, reads}
use Rattle.pipe_events.proofs.Members.{mem, or_left, or_right}
use Rattle.pipe_events.proofs.Chains.{Comes, upwards, fed_below}
use Rattle.pipe_events.proofs.Flows.{supplies, acts, fed_probe, probe_read}
use Rattle.pipe_events.proofs.Steps.{adds, or_none, some_same, Knows, knows_idle, step_close, step_flush, spent, SortedBelow}
use Rattle.pipe_events.proofs.Going.{probe_of}
use Rattle.pipe_driver.specs.Legs.{Way}
use Rattle.pipe_driver.specs.Ways.{one, occurs, passes}
use Rattle.pipe_driver.proofs.Tests.{by_test, eq-is, eq-not, eq-true, eq-false, not-both}
use Rattle.pipe_driver.specs.State.{World, Counts, IsPassing, IsLowered, nothing, is_sink}
use Rattle.pipe_driver.specs.Steps.{with_probers}
use Rattle.pipe_driver.proofs.Sums.{no_more}
use Rattle.pipe_driver.specs.Boards.{Board, IsBoard}
use Rattle.pipe_driver.specs.Recorded.{begun_in, left_at, was_run, is_shut, IsRecorded, IsNoted}
use Rattle.pipe_driver.specs.Written.{ends_by, IsEndOf}
use Rattle.pipe_driver.proofs.Known.{knows, recorded, alike}
use Rattle.pipe_driver.proofs.Climbs.{chain_rises}
use Rattle.pipe_driver.proofs.Counts.{HasLegs, none_begun, none_below, parked_legs, todo_legs}
use Rattle.pipe_driver.proofs.Boards.{run_as, some_not, on_leg, on_chain, join_there, sort_own}
use Rattle.pipe_driver.proofs.Legs.{built_none}
use Rattle.pipe_driver.proofs.Sinks.{still_some}

module _ (b : Board) (w : World) (c : Counts) (probers : ℕ → ℕ) (op : ℕ) (now : List ℕ) (s : ℕ) (parked todo : List Way) (events more : List Event)
    (ok : IsBoard b) (passing : IsPassing b.m w c (op ∷ now) s parked todo) (low : IsLowered op c.probers probers) (none : probers op ≡ 0)
    (noted : IsNoted b c nothing parked todo events) where
  abbrev plan : Stages
  plan = b.stages

  abbrev tree : IsTree b.stages
  tree = ok.tree

  abbrev fewer : Counts
  fewer = with_probers c probers

  abbrev ran : ℕ → Bool
  ran = was_run b c parked todo

  abbrev ran_now : ℕ → Bool
  ran_now = was_run b fewer parked todo

  abbrev shut : ℕ → Side → Bool
  shut = is_shut c nothing

  abbrev shut_now : ℕ → Side → Bool
  shut_now = is_shut fewer nothing

  known : Knows plan ran shut events
  known = knows plan ran shut events noted.recorded

  live_legs : AllByRecursion (HasLegs b.m) parked
  live_legs = parked_legs b.m c.sinks (is_sink s) todo parked passing.waiting

  other_legs : AllByRecursion (HasLegs b.m) todo
  other_legs = todo_legs b.m todo passing.left.ways

  self : one (op == op) ≡ 1
  self = ap one (eq-true op op refl)

  some : 0 < c.probers op
  some = let here = low.here in omega (arith, here)

  none_live : passes op parked ≡ 0
  none_live = let here = low.here in let all = passing.left.probers op in omega (arith, self, here, all, none)

  none_todo : passes op todo ≡ 0
  none_todo = let here = low.here in let all = passing.left.probers op in omega (arith, self, here, all, none)

  -- the join itself is built
  built_itself : b.m.is_join op ≡ true → c.sinks op ≡ 0
  built_itself join = built_none b.m c op (w.slot op) (passing.left.empty op) (passing.tables op (omega (arith, self)) join)

  other_probers : (n : ℕ) → (n == op) ≡ false → probers n ≡ c.probers n
  other_probers n e = low.others n (eq-not n op e)

  -- ---- what was run, and what is closed

  ran_as : (n : ℕ) (x : Stage) → plan.stage n ≡ x → ran n ≡ (left_at b c (begun_in parked todo) n x == 0)
  ran_as n x is = ap (λ t. left_at b c (begun_in parked todo) n t == 0) is

  now_as : (n : ℕ) (x : Stage) → plan.stage n ≡ x → ran_now n ≡ (left_at b fewer (begun_in parked todo) n x == 0)
  now_as n x is = ap (λ t. left_at b fewer (begun_in parked todo) n t == 0) is

  -- of another node nothing changes, nor of one that is no join
  same_run : (n : ℕ) (x : Stage) → plan.stage n ≡ x → ((j : JoinStage) → x ≡ Joined j → (n == op) ≡ false) → ran n ≡ ran_now n
  same_run n (Scan rows) is apart = ran_as n (Scan rows) is ∙ sym (now_as n (Scan rows) is)
  same_run n (Each input f) is apart = ran_as n (Each input f) is ∙ sym (now_as n (Each input f) is)
  same_run n (Union inputs) is apart = ran_as n (Union inputs) is ∙ sym (now_as n (Union inputs) is)
  same_run n (Sort input sorted) is apart = ran_as n (Sort input sorted) is ∙ sym (now_as n (Sort input sorted) is)
  same_run n (Joined j) is apart = ran_as n (Joined j) is ∙ ap (λ k. k == 0) (sym (other_probers n (apart j refl))) ∙ sym (now_as n (Joined j) is)

  same_sides : (n : ℕ) (side : Side) → (n == op) ≡ false → shut n side ≡ shut_now n side
  same_sides n OfSort apart = refl
  same_sides n OfBuild apart = refl
  same_sides n OfProbe apart = ap (λ k. k == 0) (sym (other_probers n apart))

  -- a side whose join flushes
  sides_as : (n : ℕ) (side : Side) (t : ℕ) → side_below (plan.stage n) side ≡ Some t → ((n : ℕ) (j : JoinStage) → plan.stage n ≡ Joined j → flushes j ≡ true → (n == op) ≡ false) → shut n side ≡ shut_now n side
  sides_as n OfSort t is apart = refl
  sides_as n OfBuild t is apart = refl
  sides_as n OfProbe t is apart = (let f = probe_of plan n (plan.stage n) t refl is in same_sides n OfProbe (apart n f.join f.is_join f.flush))

  -- ---- the node is no join

  no_join : ((j : JoinStage) → plan.stage op ≡ Joined j → ⊥) → more ≡ [] → IsRecorded plan ran_now shut_now (events ++ more)
  no_join other nothing_more =
      let apart : (n : ℕ) (j : JoinStage) → plan.stage n ≡ Joined j → (n == op) ≡ false = λ n j is. eq-false n op (λ same. other j (ap (λ i. plan.stage i) (sym same) ∙ is)) in
      let here : IsRecorded plan ran_now shut_now events =
      alike plan ran ran_now shut shut_now (λ n. same_run n (plan.stage n) refl (λ j is. apart n j is)) (λ n side t is. sides_as n side t is (λ k j isj f. apart k j isj)) events noted.recorded in
      subst (λ l. IsRecorded plan ran_now shut_now l) (sym (ap (λ l. events ++ l) nothing_more ∙ append-nil events)) here

  module _ (j : JoinStage) (is : plan.stage op ≡ Joined j) where
    there : op < plan.size
    there = join_there b ok op j is

    fed : mem j.probe (feeds (plan.stage op)) ≡ true
    fed = fed_probe plan tree op j is

    lower : (n : ℕ) → Comes plan tree n j.probe → n < op
    lower n r = (let le = upwards plan tree n j.probe r in let less = fed_below plan tree op j.probe fed in omega (arith, le, less))

    no_begin : (n : ℕ) → Comes plan tree n j.probe → begun_in parked todo (b.source_of n) ≡ 0
    no_begin n r =
        let on = on_leg b ok n op j there is r in
        let a = none_begun b.m (b.source_of n) op parked live_legs on none_live in
        let d = none_begun b.m (b.source_of n) op todo other_legs on none_todo in
        omega (arith, a, d)

    not_ahead : (n : ℕ) → n < op → occurs n (op ∷ now) ≡ 0
    not_ahead n less =
        let up = (chain_rises plan tree op there).none n (omega (arith, less)) in
        let same : occurs n now ≡ 0 = ap (occurs n) (sym passing.alike.0 ∙ ok.above op) ∙ up in
        let apart : one (op == n) ≡ 0 = ap one (eq-false op n (λ e. absurd (omega (arith, e, less)))) in
        omega (arith, same, apart)

    no_pass : (n : ℕ) → Comes plan tree n j.probe → c.probers n ≡ 0
    no_pass n r =
        let on = on_chain b ok n op j there is r in
        let a = none_below b.m n op parked ok.sound live_legs on none_live in
        let d = none_below b.m n op todo ok.sound other_legs on none_todo in
        let ahead = not_ahead n (lower n r) in
        let all = passing.left.probers n in
        omega (arith, a, d, ahead, all)

    all_ran : (n : ℕ) → Comes plan tree n j.probe → acts (plan.stage n) ≡ true → ran n ≡ true
    all_ran n r act = run_as b c (begun_in parked todo) n (plan.stage n) (λ s. no_begin n r) (λ l isl. no_pass n r)

    sorted_below : (n : ℕ) → Comes plan tree n j.probe → SortedBelow plan ran shut n
    sorted_below n r input by isn =
        eq-true (c.sinks n) 0 (no_more (c.sinks n) (λ fed_still.
        let waits = noted.sorts n (ok.sort n (record { input = input; sorted = by; is = isn })) fed_still in
        let gone : begun_in parked todo n ≡ 0 = ap (begun_in parked todo) (sym (sort_own b ok n input by isn)) ∙ no_begin n r in
        omega (arith, waits, gone)))

    built_above : (n : ℕ) (l : JoinStage) → n < plan.size → plan.stage n ≡ Joined l → Comes plan tree op l.probe → c.sinks n ≡ 0
    built_above n l lt isl r =
        let on = on_chain b ok op n l lt isl r in
        let same : occurs n (b.m.above op) ≡ occurs n now = ap (occurs n) passing.alike.0 in
        built_none b.m c n (w.slot n) (passing.left.empty n) (passing.tables n (omega (arith, on, same)) (ok.join n (record { join = l; is = isl })))

    is_built : c.sinks op ≡ 0
    is_built = built_itself (ok.join op (record { join = j; is = is }))

    not_ran : ran op ≡ false
    not_ran = ran_as op (Joined j) is ∙ some_not (c.probers op) some

    now_ran : (n : ℕ) → adds ran (op ∷ []) n ≡ ran_now n
    now_ran n =
        by_test (adds ran (op ∷ []) n ≡ ran_now n) (n == op)
        (λ e.
        let same = eq-is n op e in
        let has : mem n (op ∷ []) ≡ true = or_left (op == n) false (eq-true op n (sym same)) in
        let at_op : ran_now op ≡ true = now_as op (Joined j) is ∙ eq-true (probers op) 0 none in
        or_right (ran n) (mem n (op ∷ [])) has ∙ sym (ap ran_now same ∙ at_op))
        (λ e.
        let apart : (op == n) ≡ false = eq-false op n (λ same. not-both (n == op) (eq-true n op (sym same)) e) in
        or_none (ran n) (mem n (op ∷ [])) (or_none (op == n) false refl ∙ apart) ∙ same_run n (plan.stage n) refl (λ l isl. e))

    -- ---- it doesn't flush

    plain : flushes j ≡ false → more ≡ [] → IsRecorded plan ran_now shut_now (events ++ more)
    plain f nothing_more =
        let unflushing : (l : JoinStage) → plan.stage op ≡ Joined l → flushes l ≡ true → ⊥ = λ l isl fl. not-both (flushes j) (ap (at_join false flushes) (sym is ∙ isl) ∙ fl) f in
        let no_flush : (l : JoinStage) → plan.stage op ≡ Joined l → flushes l ≡ true → ran op ≡ true = λ l isl fl. absurd (unflushing l isl fl) in
        let apart : (n : ℕ) (l : JoinStage) → plan.stage n ≡ Joined l → flushes l ≡ true → (n == op) ≡ false = λ n l isl fl. eq-false n op (λ same. unflushing l (ap (λ i. plan.stage i) (sym same) ∙ isl) fl) in
        let more_ran : Knows plan (adds ran (op ∷ [])) shut events = knows_idle plan ran shut op events (ap supplies is) no_flush known in
        let here : IsRecorded plan ran_now shut_now events =
        alike plan (adds ran (op ∷ [])) ran_now shut shut_now now_ran (λ n side t isd. sides_as n side t isd apart) events (recorded plan (adds ran (op ∷ [])) shut events more_ran) in
        subst (λ l. IsRecorded plan ran_now shut_now l) (sym (ap (λ l. events ++ l) nothing_more ∙ append-nil events)) here

    -- ---- it does

    module _ (f : flushes j ≡ true) where
      side_is : side_below (plan.stage op) OfProbe ≡ Some j.probe
      side_is = ap (λ x. side_below x OfProbe) is ∙ ap (λ t. cond t (Some j.probe) None) f

      open_still : shut op OfProbe ≡ false
      open_still = some_not (c.probers op) some

      may_close : MayClose plan (world_after plan events) op OfProbe j.probe
      may_close = record {
        inside = there;
        is_side = side_is;
        still_open = known.tells.closed op OfProbe j.probe side_is ∙ open_still;
        spent = λ n lt r. spent plan ran shut ok.ok events known n lt (λ act. all_ran n r act) (sorted_below n r);
        idle = ap (λ l. list_any (λ load. reaches plan load.node j.probe) l) known.stands.idle;
        built = λ n l lt isl same.
            let reading : reads plan n j.probe ≡ true = subst (λ i. reads plan n i ≡ true) same (probe_read plan tree n l isl) in
            let node : op ≡ n = tree.one_reader op n j.probe (probe_read plan tree op j is) reading in
            known.tells.closed n OfBuild l.build (ap (λ x. side_below x OfBuild) isl) ∙ eq-true (c.sinks n) 0 (ap c.sinks (sym node) ∙ is_built);
      }

      others_open : (n : ℕ) (side : Side) (u : ℕ) → side_below (plan.stage n) side ≡ Some u → (u ≡ j.probe → ⊥) → shut_now n side ≡ shut n side
      others_open n OfSort u isu apart = refl
      others_open n OfBuild u isu apart = refl
      others_open n OfProbe u isu apart =
          by_test (shut_now n OfProbe ≡ shut n OfProbe) (n == op)
          (λ e. absurd (apart (some_same u j.probe (sym isu ∙ ap (λ i. side_below (plan.stage i) OfProbe) (eq-is n op e) ∙ side_is))))
          (λ e. ap (λ k. k == 0) (other_probers n e))

      closed_now : shut_now op OfProbe ≡ true
      closed_now = eq-true (probers op) 0 none

      abbrev close : List Event
      close = Close op OfProbe ∷ []

      flushed : IsFlushed plan op more → IsRecorded plan ran_now shut_now (events ++ more)
      flushed h =
          let closed : Knows plan ran shut_now (events ++ close) =
          step_close plan ran shut tree shut_now op OfProbe j.probe events closed_now others_open may_close known in
          let done : Knows plan (adds ran (op ∷ [])) shut_now ((events ++ close) ++ flushing op h.parts) =
          step_flush plan ran shut_now ok.ok (events ++ close) closed op j h.parts there is f closed_now (λ n l lt isl r. eq-true (c.sinks n) 0 (built_above n l lt isl r)) not_ran h.are_all in
          let whole : (events ++ close) ++ flushing op h.parts ≡ events ++ more = append_assoc events close (flushing op h.parts) ∙ ap (λ l. events ++ l) (sym h.whole) in
          let here : IsRecorded plan ran_now shut_now ((events ++ close) ++ flushing op h.parts) =
          alike plan (adds ran (op ∷ [])) ran_now shut_now shut_now now_ran (λ n side t isd. refl) ((events ++ close) ++ flushing op h.parts) (recorded plan (adds ran (op ∷ [])) shut_now ((events ++ close) ++ flushing op h.parts) done) in
          subst (λ l. IsRecorded plan ran_now shut_now l) whole here

    by_flush : (f : Bool) → flushes j ≡ f → IsEnding plan f op more → IsRecorded plan ran_now shut_now (events ++ more)
    by_flush true f h = flushed f h
    by_flush false f h = plain f h

  end_as : (x : Stage) → plan.stage op ≡ x → ends_by plan op x more → IsRecorded plan ran_now shut_now (events ++ more)
  end_as (Scan rows) is h = no_join (λ j isj. (let e : Scan rows ≡ Joined j = sym is ∙ isj in cc)) h
  end_as (Each input g) is h = no_join (λ j isj. (let e : Each input g ≡ Joined j = sym is ∙ isj in cc)) h
  end_as (Union inputs) is h = no_join (λ j isj. (let e : Union inputs ≡ Joined j = sym is ∙ isj in cc)) h
  end_as (Sort input sorted) is h = no_join (λ j isj. (let e : Sort input sorted ≡ Joined j = sym is ∙ isj in cc)) h
  end_as (Joined j) is h = by_flush j is (flushes j) refl h

  pub end_noted : IsEndOf b op more → IsNoted b fewer nothing parked todo (events ++ more)
  end_noted wrote = record {
    recorded = end_as (plan.stage op) refl wrote;
    sorts = noted.sorts;
    joins = λ n join fed_still. still_some op n c.probers probers low (λ same. absurd (let gone : c.sinks n ≡ 0 = ap c.sinks same ∙ built_itself (ap b.m.is_join (sym same) ∙ join) in omega (arith, gone, fed_still))) (noted.joins n join fed_still);
    fresh = noted.fresh;
  }
