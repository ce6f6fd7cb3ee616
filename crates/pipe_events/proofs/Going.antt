-- A flow is run: its marking joins, lower ones first, and then its own sources.
use Rattle.std.proofs.Common.{◌≡◌, ℕ, ◌+◌, ◌<◌, ◌≤◌, Bool, true, false, cond, eqb, nat_lt, ◌||◌, List, [], ◌∷◌, ◌++◌, refl, ap, sym, ◌∙◌, subst, append_assoc, append-nil, arith, ◌⊎◌, inl, inr, Some, None}
use Rattle.std.specs.List.{flat_map, list_any}
use Rattle.std.proofs.lemmas.Bool.Decides.{Decides-eqb, Decides-ltb}
use Rattle.pipe_events.specs.Stages.{JoinStage, Stage, Stages, Scan, Each, Union, Sort, Joined, IsStages, marks, flushes, feeds, reaches}
use Rattle.pipe_events.specs.Worlds.{Event, Side, OfSort, OfBuild, OfProbe, Close, count, at_join, side_below, MayClose}
use Rattle.pipe_events.proofs.Tests.{any-append}
use Rattle.pipe_events.specs.Rounds.{takes, flushing}
use Rattle.pipe_events.specs.Journals.{world_after}
use Rattle.pipe_events.specs.Runs.{SourcesTaken, IsEnding, IsFlushed, MarkingRun, AllMarkingRun, FlowRun, begins, marking, reads, IsTree}
use Rattle.pipe_events.proofs.Members.{either, decide, or_cases, or_left, or_right, mem, head, behind, only_one, in_second, in_which, in_all, of_which, count_head, stands_there}
use Rattle.pipe_events.proofs.Chains.{Comes, inside, comes_next, fed_below, upwards, comes_on, on_the_way, IsTop}
use Rattle.pipe_events.proofs.Flows.{supplies, acts, run_of, below, fed_probe, probe_read, begun, MarksFor, marked, covered, joins_marked, begins_once, marking_once, between, one_flow, Within, Ordered, ordered}
use Rattle.pipe_events.proofs.Steps.{adds, or_none, probe_side, some_same, Knows, knows_alike, knows_idle, step_idle, step_take, step_close, step_flush, spent, BuiltAbove, SortedBelow}

-- the sides that are closed where the nodes below a number were gone through, and some nodes run
abbrev pub sides : (ran : ℕ → Bool) → ℕ → ℕ → Side → Bool
sides ran k n OfSort = nat_lt n k
sides ran k n OfBuild = nat_lt n k
sides ran k n OfProbe = ran n

pub is_less : (a b : ℕ) → a < b → nat_lt a b ≡ true
is_less a b lt = (Decides-ltb a b).1 lt

moved : (a b c : Bool) → ((a || (b || false)) || c) ≡ (a || (b || c))
moved true b c = refl
moved false true c = refl
moved false false c = refl

turned : (a d b c : Bool) → (((a || d) || b) || c) ≡ (a || ((b || c) || d))
turned true d b c = refl
turned false true true c = refl
turned false true false true = refl
turned false true false false = refl
turned false false true c = refl
turned false false false true = refl
turned false false false false = refl

or_both : (a b : Bool) → a ≡ false → b ≡ false → (a || b) ≡ false
or_both true b e d = cc
or_both false b e d = d

-- a join that flushes
pub record Flushing (plan : Stages) (n : ℕ) : Type 0 where
  pub join : JoinStage
  pub is_join : plan.stage n ≡ Joined join
  pub flush : flushes join ≡ true

-- only a join that flushes has a probe side to close
pub probe_of : (plan : Stages) (n : ℕ) (x : Stage) (t : ℕ) → plan.stage n ≡ x → side_below x OfProbe ≡ Some t → Flushing plan n
probe_of plan n (Scan rows) t is e = cc
probe_of plan n (Each input op) t is e = cc
probe_of plan n (Union inputs) t is e = cc
probe_of plan n (Sort input sorted) t is e = cc
probe_of plan n (Joined j) t is e = record { join = j; is_join = is; flush = (probe_side (flushes j) j.probe t e).0 }

-- what isn't true
pub untrue : (b : Bool) → (b ≡ true → ⊥) → b ≡ false
untrue true h = absurd (h refl)
untrue false h = refl

module _ (plan : Stages) (ok : IsStages plan) (tree : IsTree plan) where
  -- what a journal tells where the nodes below a number were gone through
  abbrev pub Known : ℕ → (ℕ → Bool) → List Event → Type 0
  Known k ran events = Knows plan ran (sides ran k) events

  settled_side : (k : ℕ) (ran : ℕ → Bool) (ns : List ℕ) → ((n : ℕ) (j : JoinStage) → mem n ns ≡ true → plan.stage n ≡ Joined j → flushes j ≡ true → ran n ≡ true) → (n : ℕ) (side : Side) (t : ℕ) → side_below (plan.stage n) side ≡ Some t → sides ran k n side ≡ sides (adds ran ns) k n side
  settled_side k ran ns joined n OfSort t is = refl
  settled_side k ran ns joined n OfBuild t is = refl
  settled_side k ran ns joined n OfProbe t is =
      let f = probe_of plan n (plan.stage n) t refl is in
      either
      (λ e. (let was : ran n ≡ true = joined n f.join e f.is_join f.flush in was ∙ sym (or_left (ran n) (mem n ns) was)))
      (λ none. sym (or_none (ran n) (mem n ns) none))
      (decide (mem n ns))

  -- where more nodes were run, and those of them that flush had been
  settled : (k : ℕ) (ran : ℕ → Bool) (ns : List ℕ) (events : List Event) → ((n : ℕ) (j : JoinStage) → mem n ns ≡ true → plan.stage n ≡ Joined j → flushes j ≡ true → ran n ≡ true) → Knows plan (adds ran ns) (sides ran k) events → Known k (adds ran ns) events
  settled k ran ns events joined known =
      let alike : (n : ℕ) (side : Side) (t : ℕ) → side_below (plan.stage n) side ≡ Some t → sides ran k n side ≡ sides (adds ran ns) k n side =
      λ n side t is. settled_side k ran ns joined n side t is in
      knows_alike plan (adds ran ns) (sides ran k) (adds ran ns) (sides (adds ran ns) k) (λ n. refl) alike events known

  -- ---- sources

  module _ (shut : ℕ → Side → Bool) where
    take_sources : (ns : List ℕ) (ran : ℕ → Bool) (events later : List Event) → Knows plan ran shut events → SourcesTaken plan ns later
        → ((n : ℕ) → mem n ns ≡ true → n < plan.size)
        → ((n : ℕ) → mem n ns ≡ true → BuiltAbove plan ran shut n)
        → ((n : ℕ) → mem n ns ≡ true → SortedBelow plan ran shut n)
        → ((n : ℕ) → mem n ns ≡ true → supplies (plan.stage n) ≡ true → ran n ≡ false)
        → ((n : ℕ) (j : JoinStage) → mem n ns ≡ true → plan.stage n ≡ Joined j → ran n ≡ true)
        → ((n : ℕ) → count n ns ≤ 1)
        → Knows plan (adds ran ns) shut (events ++ later)
    take_sources [] ran events later known h inside built sorted fresh joined once =
        let same : events ≡ events ++ later = sym (ap (λ l. events ++ l) h ∙ append-nil events) in
        subst (λ l. Knows plan (adds ran []) shut l) same
        (knows_alike plan ran shut (adds ran []) shut (λ n. sym (or_none (ran n) false refl)) (λ n side t is. refl) events known)
    take_sources (n ∷ ns) ran events later known h inside built sorted fresh joined once =
        let here = head n ns in
        let taken = h.is_first in
        let more : List Event = events ++ takes n taken.chunks in
        let first : Knows plan (adds ran (n ∷ [])) shut more =
        either
        (λ s. step_take plan ran shut ok events known n taken.chunks (inside n here) s (sorted n here) (built n here) (fresh n here s) taken.are_all)
        (λ none. step_idle plan ran shut n events taken.chunks none (λ j is flush. joined n j here is) taken.are_all known)
        (decide (supplies (plan.stage n))) in
        let apart : (m : ℕ) → mem m ns ≡ true → eqb n m ≡ false =
        λ m e.
        untrue (eqb n m) (λ yes.
        let same : n ≡ m = (Decides-eqb n m).0 yes in
        let some = stands_there n ns (subst (λ i. mem i ns ≡ true) (sym same) e) in
        let counted = count_head n ns in
        let one = once n in
        absurd (omega (arith, some, counted, one))) in
        let rest : Knows plan (adds (adds ran (n ∷ [])) ns) shut (more ++ h.rest) =
        take_sources ns (adds ran (n ∷ [])) more h.rest first h.is_rest
        (λ m e. inside m (behind m n ns e))
        (λ m e. built m (behind m n ns e))
        (λ m e. sorted m (behind m n ns e))
        (λ m e s. or_both (ran m) (mem m (n ∷ [])) (fresh m (behind m n ns e) s) (or_both (eqb n m) false (apart m e) refl))
        (λ m j e is. or_left (ran m) (mem m (n ∷ [])) (joined m j (behind m n ns e) is))
        (λ m. (let all = once m in let le : count m ns ≤ count m (n ∷ ns) = omega arith in omega (arith, all, le))) in
        let whole : more ++ h.rest ≡ events ++ later = append_assoc events (takes n taken.chunks) h.rest ∙ ap (λ l. events ++ l) (sym (h.whole ∙ ap (λ l. l ++ h.rest) taken.whole)) in
        subst (λ l. Knows plan (adds ran (n ∷ ns)) shut l) whole
        (knows_alike plan (adds (adds ran (n ∷ [])) ns) shut (adds ran (n ∷ ns)) shut (λ m. moved (ran m) (eqb n m) (mem m ns)) (λ m side t is. refl) (more ++ h.rest) rest)

  inside_first : (n x : ℕ) → Comes plan tree n x → n < plan.size
  inside_first n x r = (let le = upwards plan tree n x r in let lt = inside plan tree n x r in omega (arith, le, lt))

  its_run : (m : ℕ) (j : JoinStage) → plan.stage m ≡ Joined j → run_of plan m ≡ begins plan j.probe ++ m ∷ []
  its_run m j is = ap (λ s. at_join [] (λ l. begins plan l.probe) s ++ m ∷ []) is

  its_below : (m : ℕ) (j : JoinStage) → plan.stage m ≡ Joined j → below plan m ≡ marking plan j.probe
  its_below m j is = ap (λ s. at_join [] (λ l. marking plan l.probe) s) is

  in_run : (n m : ℕ) (j : JoinStage) → plan.stage m ≡ Joined j → mem n (run_of plan m) ≡ true → (mem n (begins plan j.probe) ≡ true) ⊎ (m ≡ n)
  in_run n m j is e =
      either (λ first. inl first) (λ self. inr (only_one n m self)) (in_which n (begins plan j.probe) (m ∷ []) (subst (λ l. mem n l ≡ true) (its_run m j is) e))

  runs_itself : (m : ℕ) (j : JoinStage) → plan.stage m ≡ Joined j → mem m (run_of plan m) ≡ true
  runs_itself m j is = subst (λ l. mem m l ≡ true) (sym (its_run m j is)) (in_second m (begins plan j.probe) (m ∷ []) (head m []))

  no_supply : (n : ℕ) (j : JoinStage) → plan.stage n ≡ Joined j → supplies (plan.stage n) ≡ true → ⊥
  no_supply n j is s = (let none : supplies (plan.stage n) ≡ false = ap supplies is in cc)

  -- ---- a flow

  module _ (t k : ℕ) (top : IsTop plan tree t) (low : (n : ℕ) → Comes plan tree n t → n < k) (ran0 : ℕ → Bool) (fresh : (n : ℕ) → Comes plan tree n t → ran0 n ≡ false) where
    built_above : (ran any : ℕ → Bool) (n : ℕ) → Comes plan tree n t → BuiltAbove plan ran (sides any k) n
    built_above ran any n r m j lt is s = is_less m k (low m (on_the_way plan tree n t m j.probe top (fed_probe plan tree m j is) r s))

    sorted_below : (ran any : ℕ → Bool) (n : ℕ) → Comes plan tree n t → SortedBelow plan ran (sides any k) n
    sorted_below ran any n r input sorted is = is_less n k (low n r)

    sides_alike : (ran ran' : ℕ → Bool) → ((n : ℕ) → ran n ≡ ran' n) → (n : ℕ) (side : Side) (u : ℕ) → side_below (plan.stage n) side ≡ Some u → sides ran k n side ≡ sides ran' k n side
    sides_alike ran ran' same n OfSort u is = refl
    sides_alike ran ran' same n OfBuild u is = refl
    sides_alike ran ran' same n OfProbe u is = same n

    -- what was run once some marking joins were
    abbrev so_far : List ℕ → ℕ → Bool
    so_far done = adds ran0 (flat_map (run_of plan) done)

    did : (done : List ℕ) (n m : ℕ) → mem m done ≡ true → mem n (run_of plan m) ≡ true → so_far done n ≡ true
    did done n m e f = or_right (ran0 n) (mem n (flat_map (run_of plan) done)) (in_all (run_of plan) n m done e f)

    undone : (done : List ℕ) (n : ℕ) → Comes plan tree n t → ((d : ℕ) → mem d done ≡ true → mem n (run_of plan d) ≡ true → ⊥) → so_far done n ≡ false
    undone done n r none =
        or_both (ran0 n) (mem n (flat_map (run_of plan) done)) (fresh n r)
        (untrue (mem n (flat_map (run_of plan) done)) (λ e. (let h = of_which (run_of plan) n done e in none h.at h.member h.passes)))

    -- a join at which a flow begins was run, where what is below the flow was
    begun_join : (done : List ℕ) (x n : ℕ) (j : JoinStage) → Within (marking plan x) done → mem n (begins plan x) ≡ true → plan.stage n ≡ Joined j → so_far done n ≡ true
    begun_join done x n j before e is = did done n n (before n (joins_marked plan tree n x j is e)) (runs_itself n j is)

    -- all that acts and comes to the end of a flow was run, where what is below the flow was and its sources are taken
    all_ran : (done : List ℕ) (x n : ℕ) → Within (marking plan x) done → Comes plan tree n x → acts (plan.stage n) ≡ true → adds (so_far done) (begins plan x) n ≡ true
    all_ran done x n before r act =
        either
        (λ first. or_right (so_far done n) (mem n (begins plan x)) first)
        (λ p. or_left (so_far done n) (mem n (begins plan x)) (did done n p.at (before p.at p.member) p.passes))
        (covered plan tree n x act r)

    module _ (done : List ℕ) (on : Within done (marking plan t)) (closed : (d : ℕ) → mem d done ≡ true → Within (below plan d) done) where
      module _ (m : ℕ) (is_marking : mem m (marking plan t) ≡ true) (before : Within (below plan m) done) (new : mem m done ≡ true → ⊥) (events later : List Event) (known : Known k (so_far done) events) (h : MarkingRun plan m later) where
        abbrev j : JoinStage
        j = h.join

        abbrev mk : MarksFor plan tree m t
        mk = marked plan tree m t is_marking

        marks_j : marks j ≡ true
        marks_j = ap (at_join false marks) (sym h.is_join ∙ mk.is_join) ∙ mk.marking

        there : m < plan.size
        there = inside_first m t mk.comes

        fed : mem j.probe (feeds (plan.stage m)) ≡ true
        fed = fed_probe plan tree m j h.is_join

        to_end : (n : ℕ) → Comes plan tree n j.probe → Comes plan tree n t
        to_end n r = comes_on plan tree n m t (comes_next plan tree n j.probe m there fed r) mk.comes

        lower : Within (marking plan j.probe) done
        lower = λ n e. before n (subst (λ l. mem n l ≡ true) (sym (its_below m j h.is_join)) e)

        -- no source of its flow was taken
        fresh_source : (n : ℕ) → mem n (begins plan j.probe) ≡ true → supplies (plan.stage n) ≡ true → so_far done n ≡ false
        fresh_source n e s =
            undone done n (to_end n (begun plan tree n j.probe e)) (λ d isd f.
            let md = marked plan tree d t (on d isd) in
            either
            (λ first.
            let same : m ≡ d = one_flow plan tree n m d j md.join h.is_join marks_j there md.is_join md.marking (inside_first d t md.comes) e first in
            new (subst (λ i. mem i done ≡ true) (sym same) isd))
            (λ self. no_supply n md.join (ap (λ i. plan.stage i) (sym self) ∙ md.is_join) s)
            (in_run n d md.join md.is_join f))

        abbrev ran1 : ℕ → Bool
        ran1 = adds (so_far done) (begins plan j.probe)

        abbrev after1 : List Event
        after1 = events ++ h.parts.first

        joined : (n : ℕ) (l : JoinStage) → mem n (begins plan j.probe) ≡ true → plan.stage n ≡ Joined l → so_far done n ≡ true
        joined n l e is = begun_join done j.probe n l lower e is

        known1 : Known k ran1 after1
        known1 =
            settled k (so_far done) (begins plan j.probe) after1 (λ n l e is f. joined n l e is)
            (take_sources (sides (so_far done) k) (begins plan j.probe) (so_far done) events h.parts.first known h.parts.is_first
            (λ n e. inside_first n j.probe (begun plan tree n j.probe e))
            (λ n e. built_above (so_far done) (so_far done) n (to_end n (begun plan tree n j.probe e)))
            (λ n e. sorted_below (so_far done) (so_far done) n (to_end n (begun plan tree n j.probe e)))
            fresh_source
            joined
            (λ n. begins_once plan tree n j.probe))

        -- nor was the join itself run
        not_yet : ran1 m ≡ false
        not_yet =
            or_both (so_far done m) (mem m (begins plan j.probe))
            (undone done m mk.comes (λ d isd f.
            let md = marked plan tree d t (on d isd) in
            either
            (λ first. new (closed d isd m (subst (λ l. mem m l ≡ true) (sym (its_below d md.join md.is_join)) (joins_marked plan tree m md.join.probe j h.is_join first))))
            (λ self. new (subst (λ i. mem i done ≡ true) self isd))
            (in_run m d md.join md.is_join f)))
            (untrue (mem m (begins plan j.probe)) (λ e.
            let le = upwards plan tree m j.probe (begun plan tree m j.probe e) in
            let less = fed_below plan tree m j.probe fed in
            absurd (omega (arith, le, less))))

        turns : (n : ℕ) → adds ran1 (m ∷ []) n ≡ so_far (m ∷ done) n
        turns n =
            let all : mem n (run_of plan m ++ flat_map (run_of plan) done) ≡ ((mem n (begins plan j.probe) || mem n (m ∷ [])) || mem n (flat_map (run_of plan) done)) =
            any-append (λ i. eqb i n) (run_of plan m) (flat_map (run_of plan) done)
            ∙ ap (λ b. b || mem n (flat_map (run_of plan) done)) (ap (λ l. mem n l) (its_run m j h.is_join) ∙ any-append (λ i. eqb i n) (begins plan j.probe) (m ∷ [])) in
            turned (ran0 n) (mem n (flat_map (run_of plan) done)) (mem n (begins plan j.probe)) (mem n (m ∷ [])) ∙ ap (λ b. ran0 n || b) (sym all)

        -- a join that flushes nothing is run
        end_plain : flushes j ≡ false → h.parts.rest ≡ [] → Known k (adds ran1 (m ∷ [])) (after1 ++ h.parts.rest)
        end_plain none nothing =
            let no_flush : (l : JoinStage) → plan.stage m ≡ Joined l → flushes l ≡ true → ⊥ = λ l is f. (let same : flushes j ≡ true = ap (at_join false flushes) (sym h.is_join ∙ is) ∙ f in cc) in
            let only_m : (n : ℕ) (l : JoinStage) → mem n (m ∷ []) ≡ true → plan.stage n ≡ Joined l → flushes l ≡ true → ran1 n ≡ true =
            λ n l e is f. absurd (no_flush l (ap (λ i. plan.stage i) (only_one n m e) ∙ is) f) in
            let known2 : Known k (adds ran1 (m ∷ [])) after1 =
            settled k ran1 (m ∷ []) after1 only_m (knows_idle plan ran1 (sides ran1 k) m after1 (ap supplies h.is_join) (λ l is f. absurd (no_flush l is f)) known1) in
            subst (λ l. Known k (adds ran1 (m ∷ [])) l) (sym (ap (λ l. after1 ++ l) nothing ∙ append-nil after1)) known2

        abbrev shut1 : ℕ → Side → Bool
        shut1 = sides (adds ran1 (m ∷ [])) k

        side_is : flushes j ≡ true → side_below (plan.stage m) OfProbe ≡ Some j.probe
        side_is f = ap (λ x. side_below x OfProbe) h.is_join ∙ ap (λ b. cond b (Some j.probe) None) f

        may_close : flushes j ≡ true → MayClose plan (world_after plan after1) m OfProbe j.probe
        may_close f = record {
          inside = there;
          is_side = side_is f;
          still_open = known1.tells.closed m OfProbe j.probe (side_is f) ∙ not_yet;
          spent = λ n lt r. spent plan ran1 (sides ran1 k) ok after1 known1 n lt (λ act. all_ran done j.probe n lower r act) (sorted_below ran1 ran1 n (to_end n r));
          idle = ap (λ l. list_any (λ load. reaches plan load.node j.probe) l) known1.stands.idle;
          built = λ n l lt is same.
              let reading : reads plan n j.probe ≡ true = subst (λ i. reads plan n i ≡ true) same (probe_read plan tree n l is) in
              let node : m ≡ n = tree.one_reader m n j.probe (probe_read plan tree m j h.is_join) reading in
              known1.tells.closed n OfBuild l.build (ap (λ x. side_below x OfBuild) is) ∙ is_less n k (subst (λ i. i < k) node (low m mk.comes));
        }

        others_open : (n : ℕ) (s : Side) (u : ℕ) → side_below (plan.stage n) s ≡ Some u → (u ≡ j.probe → ⊥) → flushes j ≡ true → shut1 n s ≡ sides ran1 k n s
        others_open n OfSort u is apart f = refl
        others_open n OfBuild u is apart f = refl
        others_open n OfProbe u is apart f =
            or_none (ran1 n) (mem n (m ∷ [])) (untrue (mem n (m ∷ [])) (λ e.
            let same : m ≡ n = only_one n m e in
            let at_n : side_below (plan.stage n) OfProbe ≡ Some j.probe = ap (λ i. side_below (plan.stage i) OfProbe) (sym same) ∙ side_is f in
            apart (some_same u j.probe (sym is ∙ at_n))))

        -- one that flushes is closed, and flushed
        end_flushed : flushes j ≡ true → IsFlushed plan m h.parts.rest → Known k (adds ran1 (m ∷ [])) (after1 ++ h.parts.rest)
        end_flushed f flushed =
            let close : List Event = Close m OfProbe ∷ [] in
            let now : shut1 m OfProbe ≡ true = or_right (ran1 m) (mem m (m ∷ [])) (head m []) in
            let known2 : Knows plan ran1 shut1 (after1 ++ close) =
            step_close plan ran1 (sides ran1 k) tree shut1 m OfProbe j.probe after1 now (λ n s u is apart. others_open n s u is apart f) (may_close f) known1 in
            let known3 : Knows plan (adds ran1 (m ∷ [])) shut1 ((after1 ++ close) ++ flushing m flushed.parts) =
            step_flush plan ran1 shut1 ok (after1 ++ close) known2 m j flushed.parts there h.is_join f now (built_above ran1 (adds ran1 (m ∷ [])) m mk.comes) not_yet flushed.are_all in
            let whole : (after1 ++ close) ++ flushing m flushed.parts ≡ after1 ++ h.parts.rest =
            append_assoc after1 close (flushing m flushed.parts) ∙ ap (λ l. after1 ++ l) (sym flushed.whole) in
            subst (λ l. Known k (adds ran1 (m ∷ [])) l) whole known3

        end_by : (b : Bool) → flushes j ≡ b → IsEnding plan b m h.parts.rest → Known k (adds ran1 (m ∷ [])) (after1 ++ h.parts.rest)
        end_by true f ending = end_flushed f ending
        end_by false f ending = end_plain f ending

        one_marking : Known k (so_far (m ∷ done)) (events ++ later)
        one_marking =
            let known2 = end_by (flushes j) refl h.parts.is_rest in
            let whole : after1 ++ h.parts.rest ≡ events ++ later = append_assoc events h.parts.first h.parts.rest ∙ ap (λ l. events ++ l) (sym h.parts.whole) in
            let told : Known k (so_far (m ∷ done)) (after1 ++ h.parts.rest) =
            knows_alike plan (adds ran1 (m ∷ [])) (sides (adds ran1 (m ∷ [])) k) (so_far (m ∷ done)) (sides (so_far (m ∷ done)) k) turns (sides_alike (adds ran1 (m ∷ [])) (so_far (m ∷ done)) turns) (after1 ++ h.parts.rest) known2 in
            subst (λ l. Known k (so_far (m ∷ done)) l) whole told

    -- marking joins were run, all that are on the way
    record AllRan (events : List Event) : Type 0 where
      pub done : List ℕ
      pub on : Within done (marking plan t)
      pub all : Within (marking plan t) done
      pub known : Known k (so_far done) events

    run_marking : (ms done : List ℕ) (events later : List Event) → Within done (marking plan t) → ((d : ℕ) → mem d done ≡ true → Within (below plan d) done) → Within ms (marking plan t) → ((n : ℕ) → mem n (marking plan t) ≡ true → (mem n done ≡ true) ⊎ (mem n ms ≡ true)) → ((n : ℕ) → count n done + count n ms ≤ 1) → Ordered plan tree done ms → Known k (so_far done) events → AllMarkingRun plan ms later → AllRan (events ++ later)
    run_marking [] done events later on closed rest all once order known h = record {
      done = done;
      on = on;
      all = λ n e. either (λ d. d) (λ none. cc) (all n e);
      known = subst (λ l. Known k (so_far done) l) (sym (ap (λ l. events ++ l) h ∙ append-nil events)) known;
    }
    run_marking (m ∷ ms) done events later on closed rest all once order known h =
        let is_marking = rest m (head m ms) in
        let new : mem m done ≡ true → ⊥ =
        λ e. (let some = stands_there m done e in let counted = count_head m ms in let one = once m in absurd (omega (arith, some, counted, one))) in
        let known1 = one_marking done on closed m is_marking order.0 new events h.first known h.is_first in
        let end : AllRan ((events ++ h.first) ++ h.rest) =
        run_marking ms (m ∷ done) (events ++ h.first) h.rest
        (λ n e. either (λ same. subst (λ i. mem i (marking plan t) ≡ true) ((Decides-eqb m n).0 same) is_marking) (λ old. on n old) (or_cases (eqb m n) (mem n done) e))
        (λ d e n f. behind n m done (either (λ same. order.0 n (subst (λ i. mem n (below plan i) ≡ true) (sym ((Decides-eqb m d).0 same)) f)) (λ old. closed d old n f) (or_cases (eqb m d) (mem d done) e)))
        (λ n e. rest n (behind n m ms e))
        (λ n e. either (λ d. inl (behind n m done d)) (λ later. either (λ same. inl (or_left (eqb m n) (mem n done) same)) (λ more. inr more) (or_cases (eqb m n) (mem n ms) later)) (all n e))
        (λ n. (let one = once n in let moved_one : count n (m ∷ done) + count n ms ≡ count n done + count n (m ∷ ms) = omega arith in omega (arith, one, moved_one)))
        order.1 known1 h.is_rest in
        subst AllRan (append_assoc events h.first h.rest ∙ ap (λ l. events ++ l) (sym h.whole)) end

    -- ---- the whole flow

    -- what was run at the end of the flow: what had been, and all that comes to its end
    pub record FlowEnd (events : List Event) : Type 0 where
      pub ran : ℕ → Bool
      pub known : Known k ran events
      pub kept : (n : ℕ) → ran0 n ≡ true → ran n ≡ true
      pub all : (n : ℕ) → Comes plan tree n t → acts (plan.stage n) ≡ true → ran n ≡ true
      pub only : (n : ℕ) → ran n ≡ true → (ran0 n ≡ true) ⊎ Comes plan tree n t

    module _ (mid : List Event) (h : AllRan mid) where
      comes_done : (n : ℕ) → mem n (flat_map (run_of plan) h.done) ≡ true → Comes plan tree n t
      comes_done n e =
          let d = of_which (run_of plan) n h.done e in
          let md = marked plan tree d.at t (h.on d.at d.member) in
          either
          (λ first. comes_on plan tree n d.at t (comes_next plan tree n md.join.probe d.at (inside_first d.at t md.comes) (fed_probe plan tree d.at md.join md.is_join) (begun plan tree n md.join.probe first)) md.comes)
          (λ self. subst (λ i. Comes plan tree i t) self md.comes)
          (in_run n d.at md.join md.is_join d.passes)

      fresh_last : (n : ℕ) → mem n (begins plan t) ≡ true → supplies (plan.stage n) ≡ true → so_far h.done n ≡ false
      fresh_last n e s =
          undone h.done n (begun plan tree n t e) (λ d isd f.
          let md = marked plan tree d t (h.on d isd) in
          either
          (λ first.
          let comes = begun plan tree n md.join.probe first in
          let fed = fed_probe plan tree d md.join md.is_join in
          let same : d ≡ n = between plan tree n d t md.join md.is_join md.marking (comes_next plan tree n md.join.probe d (inside_first d t md.comes) fed comes) e md.comes in
          let le = upwards plan tree n md.join.probe comes in
          let less = fed_below plan tree d md.join.probe fed in
          absurd (omega (arith, same, le, less)))
          (λ self. no_supply n md.join (ap (λ i. plan.stage i) (sym self) ∙ md.is_join) s)
          (in_run n d md.join md.is_join f))

      last_sources : (later : List Event) → SourcesTaken plan (begins plan t) later → FlowEnd (mid ++ later)
      last_sources later taken = record {
        ran = adds (so_far h.done) (begins plan t);
        known = settled k (so_far h.done) (begins plan t) (mid ++ later) (λ n l e is f. begun_join h.done t n l h.all e is)
            (take_sources (sides (so_far h.done) k) (begins plan t) (so_far h.done) mid later h.known taken
            (λ n e. inside_first n t (begun plan tree n t e))
            (λ n e. built_above (so_far h.done) (so_far h.done) n (begun plan tree n t e))
            (λ n e. sorted_below (so_far h.done) (so_far h.done) n (begun plan tree n t e))
            fresh_last
            (λ n l e is. begun_join h.done t n l h.all e is)
            (λ n. begins_once plan tree n t));
        kept = λ n e. or_left (so_far h.done n) (mem n (begins plan t)) (or_left (ran0 n) (mem n (flat_map (run_of plan) h.done)) e);
        all = λ n r act. all_ran h.done t n h.all r act;
        only = λ n e.
            either
            (λ old. either (λ was. inl was) (λ new. inr (comes_done n new)) (or_cases (ran0 n) (mem n (flat_map (run_of plan) h.done)) old))
            (λ last. inr (begun plan tree n t last))
            (or_cases (so_far h.done n) (mem n (begins plan t)) e);
      }

    pub flow_runs : (events later : List Event) → Known k ran0 events → FlowRun plan t later → FlowEnd (events ++ later)
    flow_runs events later known h =
        let start : Known k (so_far []) events =
        knows_alike plan ran0 (sides ran0 k) (so_far []) (sides (so_far []) k) (λ n. sym (or_none (ran0 n) false refl)) (sides_alike ran0 (so_far []) (λ n. sym (or_none (ran0 n) false refl))) events known in
        let mid : AllRan (events ++ h.first) =
        run_marking (marking plan t) [] events h.first (λ n e. cc) (λ d e. cc) (λ n e. e) (λ n e. inr e) (λ n. (let one = marking_once plan tree n t in omega (arith, one))) (ordered plan tree t []) start h.is_first in
        subst FlowEnd (append_assoc events h.first h.rest ∙ ap (λ l. events ++ l) (sym h.whole)) (last_sources (events ++ h.first) mid h.rest h.is_rest)
