-- A whole run: node by node up to the root, and then the root's flow.
use Rattle.std.proofs.Common.{◌≡◌, ◌≢◌, ℕ, zero, suc, ◌+◌, ◌<◌, ◌≤◌, Bool, true, false, eqb, nat_lt, List, [], ◌∷◌, ◌++◌, refl, ap, sym, ◌∙◌, subst, append_assoc, append-nil, arith, ◌⊎◌, inl, inr, Option, Some, None}
use Rattle.std.specs.List.{list_any, range_with_len}
use Rattle.std.proofs.lemmas.Bool.{cases_lt}
use Rattle.std.proofs.lemmas.Bool.Decides.{Decides-eqb, Decides-ltb}
use Rattle.pipe_events.specs.Stages.{Stage, Stages, Scan, Each, Union, Sort, Joined, IsStages, feeds, reaches}
use Rattle.pipe_events.specs.Worlds.{Event, Side, OfSort, OfBuild, OfProbe, Close, start, side_below, IsSpent, MayClose}
use Rattle.pipe_events.specs.Schedules.{AllAllowed, run, IsComplete}
use Rattle.pipe_events.proofs.Every.{every}
use Rattle.pipe_events.specs.Journals.{world_after}
use Rattle.pipe_events.proofs.Journals.{journals_end}
use Rattle.pipe_events.specs.Runs.{InTwo, IsClose, FlowRun, NodeRun, RunTo, IsRun, inputs_of, reads, is_read, IsTree, RunsAreComplete, RunsHaveTheRows}
use Rattle.pipe_events.proofs.Members.{either, decide, or_cases, or_left, mem, head, behind, only_one}
use Rattle.pipe_events.proofs.Chains.{Comes, comes_here, comes_next, upwards, comes_on, IsTop, one_top, root_top, sort_top, build_top}
use Rattle.pipe_events.proofs.Flows.{acts, fed_probe}
use Rattle.pipe_events.proofs.Steps.{some_same, flushing_marks, knows_alike, at_start, step_close, spent}
use Rattle.pipe_events.proofs.Going.{sides, is_less, untrue, probe_of, Known, FlowEnd, flow_runs}

-- the sink of a sort, and of a join
abbrev pub sink_of : Stage → Option ℕ
sink_of (Scan rows) = None
sink_of (Each input op) = None
sink_of (Union inputs) = None
sink_of (Sort input sorted) = Some input
sink_of (Joined j) = Some j.build

-- whether a side is that of a sort, or a join's built side
abbrev of_sink : Side → Bool
of_sink OfSort = true
of_sink OfBuild = true
of_sink OfProbe = false

sink_side : (x : Stage) (s : Side) (u : ℕ) → of_sink s ≡ true → side_below x s ≡ Some u → sink_of x ≡ Some u
sink_side (Scan rows) s u o e = cc
sink_side (Each input op) s u o e = cc
sink_side (Union inputs) s u o e = cc
sink_side (Sort input sorted) OfSort u o e = e
sink_side (Sort input sorted) OfBuild u o e = cc
sink_side (Sort input sorted) OfProbe u o e = cc
sink_side (Joined j) OfSort u o e = cc
sink_side (Joined j) OfBuild u o e = e
sink_side (Joined j) OfProbe u o e = cc

sink_read : (x : Stage) (u : ℕ) → sink_of x ≡ Some u → mem u (inputs_of x) ≡ true
sink_read (Scan rows) u e = cc
sink_read (Each input op) u e = cc
sink_read (Union inputs) u e = cc
sink_read (Sort input sorted) u e = subst (λ i. mem i (input ∷ []) ≡ true) (some_same input u e) (head input [])
sink_read (Joined j) u e = subst (λ i. mem i (j.probe ∷ j.build ∷ []) ≡ true) (some_same j.build u e) (behind j.build j.probe (j.build ∷ []) (head j.build []))

-- what is read feeds the node, or is its sink
fed_or_sink : (x : Stage) (n : ℕ) → mem n (inputs_of x) ≡ true → (mem n (feeds x) ≡ true) ⊎ (sink_of x ≡ Some n)
fed_or_sink (Scan rows) n e = cc
fed_or_sink (Each input op) n e = inl e
fed_or_sink (Union inputs) n e = inl e
fed_or_sink (Sort input sorted) n e = inr (ap (λ i. Some i) (only_one n input e))
fed_or_sink (Joined j) n e =
    either
    (λ probe. inl (or_left (eqb j.probe n) false probe))
    (λ build. inr (ap (λ i. Some i) (only_one n j.build build)))
    (or_cases (eqb j.probe n) (mem n (j.build ∷ [])) e)

not_less : (a b : ℕ) → b ≤ a → nat_lt a b ≡ false
not_less a b le = untrue (nat_lt a b) (λ e. (let lt = (Decides-ltb a b).0 e in absurd (omega (arith, le, lt))))

less_next : (a b : ℕ) → a ≢ b → nat_lt a (suc b) ≡ nat_lt a b
less_next a b apart =
    either
    (λ lt. is_less a (suc b) (omega (arith, lt)) ∙ sym (is_less a b lt))
    (λ le. (let above : suc b ≤ a = omega (arith, le, apart) in not_less a (suc b) above ∙ sym (not_less a b le)))
    (cases_lt a b)

-- one of a range that passes
record Found (p : ℕ → Bool) (end : ℕ) : Type 0 where
  pub at : ℕ
  pub less : at < end
  pub passes : p at ≡ true

found : (p : ℕ → Bool) (a m end : ℕ) → a + m ≤ end → list_any p (range_with_len a m) ≡ true → Found p end
found p a zero end le e = cc
found p a (suc m) end le e =
    either (λ here. record { at = a; less = omega (arith, le); passes = here }) (λ rest. found p (a + 1) m end (omega (arith, le)) rest) (or_cases (p a) (list_any p (range_with_len (a + 1) m)) e)

module _ (plan : Stages) (ok : IsStages plan) (tree : IsTree plan) where
  abbrev SinkOf : ℕ → ℕ → Type 0
  SinkOf m u = sink_of (plan.stage m) ≡ Some u

  top_as : (m u : ℕ) (x : Stage) → plan.stage m ≡ x → sink_of x ≡ Some u → IsTop plan tree u
  top_as m u (Scan rows) is e = cc
  top_as m u (Each input op) is e = cc
  top_as m u (Union inputs) is e = cc
  top_as m u (Sort input sorted) is e = subst (IsTop plan tree) (some_same input u e) (sort_top plan tree m input sorted is)
  top_as m u (Joined j) is e = subst (IsTop plan tree) (some_same j.build u e) (build_top plan tree m j is)

  sink_top : (m u : ℕ) → SinkOf m u → IsTop plan tree u
  sink_top m u e = top_as m u (plan.stage m) refl e

  one_sink : (m k u : ℕ) → SinkOf m u → SinkOf k u → m ≡ k
  one_sink m k u e d = tree.one_reader m k u (sink_read (plan.stage m) u e) (sink_read (plan.stage k) u d)

  -- a node whose rows come to the sink of a node below a number
  record WasRun (k n : ℕ) : Type 0 where
    pub at : ℕ
    pub less : at < k
    pub sink : ℕ
    pub is_sink : SinkOf at sink
    pub comes : Comes plan tree n sink

  -- a journal where the nodes below a number were gone through
  record Gone (k : ℕ) (events : List Event) : Type 0 where
    pub ran : ℕ → Bool
    pub known : Known plan ok tree k ran events
    pub only : (n : ℕ) → ran n ≡ true → WasRun k n
    pub all : (n : ℕ) → WasRun k n → acts (plan.stage n) ≡ true → ran n ≡ true

  further : (k n : ℕ) → WasRun k n → WasRun (suc k) n
  further k n w = record { at = w.at; less = (let lt = w.less in omega (arith, lt)); sink = w.sink; is_sink = w.is_sink; comes = w.comes }

  -- ---- a node without a sink

  module _ (k : ℕ) (events : List Event) (gone : Gone k events) where
    sides_pass : sink_of (plan.stage k) ≡ None → (n : ℕ) (s : Side) (u : ℕ) → side_below (plan.stage n) s ≡ Some u → sides gone.ran k n s ≡ sides gone.ran (suc k) n s
    sides_pass none n OfSort u is = sym (less_next n k (λ same. (let sink = sink_side (plan.stage n) OfSort u refl is in let nothing : sink_of (plan.stage n) ≡ None = ap (λ i. sink_of (plan.stage i)) same ∙ none in let clash : None ≡ Some u = sym nothing ∙ sink in cc)))
    sides_pass none n OfBuild u is = sym (less_next n k (λ same. (let sink = sink_side (plan.stage n) OfBuild u refl is in let nothing : sink_of (plan.stage n) ≡ None = ap (λ i. sink_of (plan.stage i)) same ∙ none in let clash : None ≡ Some u = sym nothing ∙ sink in cc)))
    sides_pass none n OfProbe u is = refl

    passed : sink_of (plan.stage k) ≡ None → (later : List Event) → later ≡ [] → Gone (suc k) (events ++ later)
    passed none later nothing =
        let same : events ≡ events ++ later = sym (ap (λ l. events ++ l) nothing ∙ append-nil events) in
        subst (Gone (suc k)) same
        (record {
          ran = gone.ran;
          known = knows_alike plan gone.ran (sides gone.ran k) gone.ran (sides gone.ran (suc k)) (λ n. refl) (sides_pass none) events gone.known;
          only = λ n e. further k n (gone.only n e);
          all = λ n w act.
              either
              (λ lt. gone.all n (record { at = w.at; less = lt; sink = w.sink; is_sink = w.is_sink; comes = w.comes }) act)
              (λ le.
              let less = w.less in
              let same_node : w.at ≡ k = omega (arith, le, less) in
              let nothing_there : sink_of (plan.stage w.at) ≡ None = ap (λ i. sink_of (plan.stage i)) same_node ∙ none in
              let clash : None ≡ Some w.sink = sym nothing_there ∙ w.is_sink in
              cc)
              (cases_lt w.at k);
        })

    -- ---- a node with one

    module _ (there : k < plan.size) (u : ℕ) (is_sink : SinkOf k u) (side : Side) (is_side : side_below (plan.stage k) side ≡ Some u) (later : List Event) (h : InTwo (FlowRun plan u) (IsClose k side) later) where
      top : IsTop plan tree u
      top = sink_top k u is_sink

      low : (n : ℕ) → Comes plan tree n u → n < k
      low n r = (let le = upwards plan tree n u r in let less = tree.smaller k u (sink_read (plan.stage k) u is_sink) in omega (arith, le, less))

      fresh : (n : ℕ) → Comes plan tree n u → gone.ran n ≡ false
      fresh n r =
          untrue (gone.ran n) (λ e.
          let w = gone.only n e in
          let same : w.sink ≡ u = one_top plan tree n w.sink u (sink_top w.at w.sink w.is_sink) top w.comes r in
          let node : w.at ≡ k = one_sink w.at k u (subst (SinkOf w.at) same w.is_sink) is_sink in
          let less = w.less in
          absurd (omega (arith, node, less)))

      flow : FlowEnd plan ok tree u k top low gone.ran fresh (events ++ h.first)
      flow = flow_runs plan ok tree u k top low gone.ran fresh events h.first gone.known h.is_first

      abbrev mid : List Event
      mid = events ++ h.first

      may_close : sides flow.ran k k side ≡ false → MayClose plan (world_after plan mid) k side u
      may_close opened = record {
        inside = there;
        is_side = is_side;
        still_open = flow.known.tells.closed k side u is_side ∙ opened;
        spent = λ n lt r. spent plan flow.ran (sides flow.ran k) ok mid flow.known n lt (flow.all n r) (λ input sorted is. is_less n k (low n r));
        idle = ap (λ l. list_any (λ load. reaches plan load.node u) l) flow.known.stands.idle;
        built = λ n j lt is same. absurd (top n (subst (λ i. mem i (feeds (plan.stage n)) ≡ true) same (fed_probe plan tree n j is)));
      }

      others_open : (n : ℕ) (s : Side) (v : ℕ) → side_below (plan.stage n) s ≡ Some v → (v ≡ u → ⊥) → sides flow.ran (suc k) n s ≡ sides flow.ran k n s
      others_open n OfSort v is apart = less_next n k (λ same. apart (some_same v u (sym (sink_side (plan.stage n) OfSort v refl is) ∙ ap (λ i. sink_of (plan.stage i)) same ∙ is_sink)))
      others_open n OfBuild v is apart = less_next n k (λ same. apart (some_same v u (sym (sink_side (plan.stage n) OfBuild v refl is) ∙ ap (λ i. sink_of (plan.stage i)) same ∙ is_sink)))
      others_open n OfProbe v is apart = refl

      all_run : (n : ℕ) → WasRun (suc k) n → acts (plan.stage n) ≡ true → flow.ran n ≡ true
      all_run n w act =
          either
          (λ lt. flow.kept n (gone.all n (record { at = w.at; less = lt; sink = w.sink; is_sink = w.is_sink; comes = w.comes }) act))
          (λ le.
          let less = w.less in
          let node : w.at ≡ k = omega (arith, le, less) in
          let same : w.sink ≡ u = some_same w.sink u (sym w.is_sink ∙ ap (λ i. sink_of (plan.stage i)) node ∙ is_sink) in
          flow.all n (subst (Comes plan tree n) same w.comes) act)
          (cases_lt w.at k)

      closed_by : sides flow.ran k k side ≡ false → sides flow.ran (suc k) k side ≡ true → Gone (suc k) (events ++ later)
      closed_by opened now =
          let known : Known plan ok tree (suc k) flow.ran (mid ++ Close k side ∷ []) =
          step_close plan flow.ran (sides flow.ran k) tree (sides flow.ran (suc k)) k side u mid now others_open (may_close opened) flow.known in
          let whole : mid ++ Close k side ∷ [] ≡ events ++ later =
          append_assoc events h.first (Close k side ∷ []) ∙ ap (λ l. events ++ l) (sym (h.whole ∙ ap (λ l. h.first ++ l) h.is_rest)) in
          record {
            ran = flow.ran;
            known = subst (λ l. Known plan ok tree (suc k) flow.ran l) whole known;
            only = λ n e.
                either
                (λ old. further k n (gone.only n old))
                (λ comes. record { at = k; less = omega arith; sink = u; is_sink = is_sink; comes = comes })
                (flow.only n e);
            all = all_run;
          }

    -- ---- the next node

    next_as : k < plan.size → (x : Stage) → plan.stage k ≡ x → (later : List Event) → NodeRun plan k x later → Gone (suc k) (events ++ later)
    next_as there (Scan rows) is later h = passed (ap sink_of is) later h
    next_as there (Each input op) is later h = passed (ap sink_of is) later h
    next_as there (Union inputs) is later h = passed (ap sink_of is) later h
    next_as there (Sort input sorted) is later h = closed_by there input (ap sink_of is) OfSort (ap (λ x. side_below x OfSort) is) later h (not_less k k (omega arith)) (is_less k (suc k) (omega arith))
    next_as there (Joined j) is later h = closed_by there j.build (ap sink_of is) OfBuild (ap (λ x. side_below x OfBuild) is) later h (not_less k k (omega arith)) (is_less k (suc k) (omega arith))

  none_closed : (n : ℕ) (s : Side) → false ≡ sides (λ i. false) 0 n s
  none_closed n OfSort = sym (not_less n 0 (omega arith))
  none_closed n OfBuild = sym (not_less n 0 (omega arith))
  none_closed n OfProbe = refl

  gone_to : (k : ℕ) (events : List Event) → k ≤ plan.size → RunTo plan k events → Gone k events
  gone_to zero events le h =
      subst (Gone zero) (sym h)
      (record {
        ran = λ n. false;
        known = knows_alike plan (λ n. false) (λ n s. false) (λ n. false) (sides (λ n. false) 0) (λ n. refl) (λ n s u is. none_closed n s) [] (at_start plan);
        only = λ n e. cc;
        all = λ n w act. (let less = w.less in absurd (omega (arith, less)));
      })
  gone_to (suc k) events le h =
      let before = gone_to k h.first (omega (arith, le)) h.is_first in
      subst (Gone (suc k)) (sym h.whole) (next_as k h.first before (omega (arith, le)) (plan.stage k) refl h.rest h.is_rest)

  -- ---- nothing is left

  reads_nothing : (k n : ℕ) → plan.stage k ≡ Union [] → reads plan k n ≡ false
  reads_nothing k n is = ap (λ x. mem n (inputs_of x)) is

  reader : (n : ℕ) → is_read plan n ≡ true → Found (λ k. reads plan k n) plan.size
  reader n e = found (λ k. reads plan k n) 0 plan.size plan.size (omega arith) e

  -- no stage stands past the root
  past_from : (d n : ℕ) → plan.size ≤ n + d → n < plan.size → plan.root < n → plan.stage n ≡ Union []
  past_from zero n enough lt past = absurd (omega (arith, enough, lt))
  past_from (suc d) n enough lt past =
      either
      (λ e.
      let k = reader n e in
      let less = tree.smaller k.at n k.passes in
      let nothing = reads_nothing k.at n (past_from d k.at (omega (arith, enough, less)) k.less (omega (arith, past, less))) in
      cc)
      (λ none. tree.others n (λ same. absurd (omega (arith, past, same))) none)
      (decide (is_read plan n))

  past_root : (n : ℕ) → n < plan.size → plan.root < n → plan.stage n ≡ Union []
  past_root n lt past = past_from plan.size n (omega arith) lt past

  under_root : (n : ℕ) → n < plan.size → (plan.stage n ≡ Union [] → ⊥) → n < suc plan.root
  under_root n lt some = either (λ past. absurd (some (past_root n lt past))) (λ le. omega (arith, le)) (cases_lt plan.root n)

  -- a node is a union of nothing, or its rows come to the root or to a sink
  goes_from : (d n : ℕ) → plan.size ≤ n + d → n < plan.size → (plan.stage n ≡ Union []) ⊎ (Comes plan tree n plan.root ⊎ WasRun (suc plan.root) n)
  goes_from zero n enough lt = absurd (omega (arith, enough, lt))
  goes_from (suc d) n enough lt =
      let here = comes_here plan tree n lt in
      either
      (λ is. inr (inl (subst (λ i. Comes plan tree n i) ((Decides-eqb n plan.root).0 is) here)))
      (λ differs.
      either
      (λ e.
      let k = reader n e in
      let less = tree.smaller k.at n k.passes in
      let some : plan.stage k.at ≡ Union [] → ⊥ = λ is. (let nothing = reads_nothing k.at n is in let reading = k.passes in cc) in
      either
      (λ fed.
      let step = comes_next plan tree n n k.at k.less fed here in
      either
      (λ nothing. absurd (some nothing))
      (λ on.
      either
      (λ root. inr (inl (comes_on plan tree n k.at plan.root step root)))
      (λ w. inr (inr (record { at = w.at; less = w.less; sink = w.sink; is_sink = w.is_sink; comes = comes_on plan tree n k.at w.sink step w.comes })))
      on)
      (goes_from d k.at (omega (arith, enough, less)) k.less))
      (λ sink. inr (inr (record { at = k.at; less = under_root k.at k.less some; sink = n; is_sink = sink; comes = here })))
      (fed_or_sink (plan.stage k.at) n k.passes))
      (λ none. inl (tree.others n (λ same. (let yes = (Decides-eqb n plan.root).1 same in cc)) none))
      (decide (is_read plan n)))
      (decide (eqb n plan.root))

  goes : (n : ℕ) → n < plan.size → (plan.stage n ≡ Union []) ⊎ (Comes plan tree n plan.root ⊎ WasRun (suc plan.root) n)
  goes n lt = goes_from plan.size n (omega arith) lt

  module _ (events : List Event) (h : IsRun plan events) where
    before : Gone (suc plan.root) h.first
    before = (let lt = ok.rooted in gone_to (suc plan.root) h.first (omega (arith, lt)) h.is_first)

    low_root : (n : ℕ) → Comes plan tree n plan.root → n < suc plan.root
    low_root n r = (let le = upwards plan tree n plan.root r in omega (arith, le))

    fresh_root : (n : ℕ) → Comes plan tree n plan.root → before.ran n ≡ false
    fresh_root n r =
        untrue (before.ran n) (λ e.
        let w = before.only n e in
        let same : w.sink ≡ plan.root = one_top plan tree n w.sink plan.root (sink_top w.at w.sink w.is_sink) (root_top plan tree) w.comes r in
        let reading : reads plan w.at plan.root ≡ true = subst (λ i. reads plan w.at i ≡ true) same (sink_read (plan.stage w.at) w.sink w.is_sink) in
        let none = tree.root_unread w.at in
        cc)

    last : FlowEnd plan ok tree plan.root (suc plan.root) (root_top plan tree) low_root before.ran fresh_root (h.first ++ h.rest)
    last = flow_runs plan ok tree plan.root (suc plan.root) (root_top plan tree) low_root before.ran fresh_root h.first h.rest before.known h.is_rest

    abbrev whole : List Event
    whole = h.first ++ h.rest

    acting_ran : (n : ℕ) → n < plan.size → acts (plan.stage n) ≡ true → last.ran n ≡ true
    acting_ran n lt act =
        either
        (λ nothing. (let none : acts (plan.stage n) ≡ false = ap acts nothing in cc))
        (λ on. either (λ root. last.all n root act) (λ w. last.kept n (before.all n w act)) on)
        (goes n lt)

    spent_all : (n : ℕ) → n < plan.size → IsSpent plan (world_after plan whole) n (plan.stage n)
    spent_all n lt =
        spent plan last.ran (sides last.ran (suc plan.root)) ok whole last.known n lt (acting_ran n lt)
        (λ input sorted is. is_less n (suc plan.root) (under_root n lt (λ union. (let clash : Sort input sorted ≡ Union [] = sym is ∙ union in cc))))

    no_side : (n : ℕ) (s : Side) (t : ℕ) → side_below (plan.stage n) s ≡ Some t → plan.stage n ≡ Union [] → ⊥
    no_side n s t is union = (let none : side_below (plan.stage n) s ≡ None = ap (λ x. side_below x s) union in let clash : None ≡ Some t = sym none ∙ is in cc)

    shut_all : (n : ℕ) (s : Side) (t : ℕ) → n < plan.size → side_below (plan.stage n) s ≡ Some t → sides last.ran (suc plan.root) n s ≡ true
    shut_all n OfSort t lt is = is_less n (suc plan.root) (under_root n lt (no_side n OfSort t is))
    shut_all n OfBuild t lt is = is_less n (suc plan.root) (under_root n lt (no_side n OfBuild t is))
    shut_all n OfProbe t lt is =
        let f = probe_of plan n (plan.stage n) t refl is in
        acting_ran n lt (ap acts f.is_join ∙ flushing_marks f.join.join.how f.join.right_built f.flush)

    complete : AllAllowed plan start whole × IsComplete plan (run plan start whole)
    complete = (
      last.known.stands.allowed,
      journals_end plan whole last.known.stands spent_all (λ n s t lt is. last.known.tells.closed n s t is ∙ shut_all n s t lt is),
    )

    complete_run : AllAllowed plan start events × IsComplete plan (run plan start events)
    complete_run = subst (λ l. AllAllowed plan start l × IsComplete plan (run plan start l)) (sym h.whole) complete

pub runs_complete : RunsAreComplete
runs_complete plan ok tree events h = complete_run plan ok tree events h

pub runs_rows : RunsHaveTheRows
runs_rows plan ok tree events h =
    let done = runs_complete plan ok tree events h in
    (every plan ok events done.0).1 done.1
