-- What a journal tells while a run goes on: which nodes were run, and which sides are closed. And the steps of a run.
use Rattle.std.proofs.Common.{◌≡◌, ◌≢◌, ℕ, ◌+◌, ◌<◌, ◌≤◌, Bool, true, false, cond, eqb, ◌||◌, List, [], ◌∷◌, ◌++◌, length, map, refl, ap, sym, ◌∙◌, subst, append-nil, arith, Option, Some, None}
use Rattle.std.specs.List.{AllByRecursion}
use Rattle.std.proofs.lemmas.Bool.Decides.{Decides-eqb}
use Rattle.pipe_schema.specs.Rows.{Row}
use Rattle.pipe_expr.specs.declared.join_words.JoinType.{JoinType}
use Rattle.pipe_expr.specs.declared.join_words.JoinType.TheVariants as how
use Rattle.pipe_events.specs.Stages.{JoinStage, Stage, Stages, Scan, Each, Union, Sort, Joined, IsStages, IsBelow, marks_by, flushes, flushes_by, rows, rows_at, rows_to, stage_rows, own_rows, reaches}
use Rattle.pipe_events.specs.Worlds.{World, Event, Side, OfSort, OfBuild, OfProbe, Close, count, side_below, source_rows, IsReady, IsSpent, MayClose}
use Rattle.pipe_events.proofs.WalkLemmas.{walk_is, walk_stays}
use Rattle.pipe_events.specs.Rounds.{Chunk, Flushed, positions, part_in, takes, flushing, IsChunk, HasTaken, HasFlushed}
use Rattle.pipe_events.specs.Journals.{world_after, Stands, HasClosed}
use Rattle.pipe_events.proofs.Sources.{ready_sources, taken_sources}
use Rattle.pipe_events.proofs.Journals.{empty_journals, journals_take, journals_flush, journals_close}
use Rattle.pipe_events.specs.Runs.{inputs_of, supply, supply_of, IsChunkOf, AreAllOf, AreAllParts, IsTree}
use Rattle.pipe_events.proofs.Members.{either, decide, mem, head, behind, count_append, count_head}
use Rattle.pipe_events.proofs.Flows.{supplies, acts}

-- a set of nodes with some more
abbrev pub adds : (ℕ → Bool) → List ℕ → ℕ → Bool
adds ran ns n = ran n || mem n ns

pub or_false : (a b : Bool) → (a || b) ≡ false → (a ≡ false) × (b ≡ false)
or_false true b e = cc
or_false false b e = (refl, e)

pub or_none : (a b : Bool) → b ≡ false → (a || b) ≡ a
or_none true b e = refl
or_none false b e = e

adds_other : (ran : ℕ → Bool) (n m : ℕ) → eqb n m ≡ false → adds ran (n ∷ []) m ≡ ran m
adds_other ran n m e = or_none (ran m) (mem m (n ∷ [])) (or_none (eqb n m) false refl ∙ e)

apart : (n m : ℕ) → eqb n m ≡ false → m ≢ n
apart n m e same = (let yes = (Decides-eqb n m).1 (sym same) in cc)

abbrev from_some : Option ℕ → ℕ
from_some None = 0
from_some (Some t) = t

pub some_same : (a b : ℕ) → Some a ≡ Some b → a ≡ b
some_same a b e = ap from_some e

pub probe_side : (b : Bool) (p t : ℕ) → cond b (Some p) None ≡ Some t → (b ≡ true) × (p ≡ t)
probe_side true p t e = (refl, some_same p t e)
probe_side false p t e = cc

-- ---- sides

member_is : (a t : ℕ) (ns : List ℕ) → a ≡ t → mem t (a ∷ ns) ≡ true
member_is a t ns same = subst (λ i. mem i (a ∷ ns) ≡ true) same (head a ns)

sides_read : (x : Stage) (side : Side) (t : ℕ) → side_below x side ≡ Some t → mem t (inputs_of x) ≡ true
sides_read (Scan rows) side t e = cc
sides_read (Each input op) side t e = cc
sides_read (Union inputs) side t e = cc
sides_read (Sort input sorted) OfSort t e = member_is input t [] (some_same input t e)
sides_read (Sort input sorted) OfBuild t e = cc
sides_read (Sort input sorted) OfProbe t e = cc
sides_read (Joined j) OfSort t e = cc
sides_read (Joined j) OfBuild t e = behind t j.probe (j.build ∷ []) (member_is j.build t [] (some_same j.build t e))
sides_read (Joined j) OfProbe t e = member_is j.probe t (j.build ∷ []) (probe_side (flushes j) j.probe t e).1

twice : (a b t : ℕ) → count t (a ∷ b ∷ []) ≤ 1 → a ≡ t → b ≡ t → ⊥
twice a b t once at bt =
    let first : count t (t ∷ b ∷ []) ≤ 1 = subst (λ i. count t (i ∷ b ∷ []) ≤ 1) at once in
    let both : count t (t ∷ t ∷ []) ≤ 1 = subst (λ i. count t (t ∷ i ∷ []) ≤ 1) bt first in
    let one = count_head t (t ∷ []) in
    let two = count_head t [] in
    absurd (omega (arith, both, one, two))

one_side : (x : Stage) (s u : Side) (t : ℕ) → count t (inputs_of x) ≤ 1 → side_below x s ≡ Some t → side_below x u ≡ Some t → s ≡ u
one_side (Scan rows) s u t once e d = cc
one_side (Each input op) s u t once e d = cc
one_side (Union inputs) s u t once e d = cc
one_side (Sort input sorted) OfSort OfSort t once e d = refl
one_side (Sort input sorted) OfSort OfBuild t once e d = cc
one_side (Sort input sorted) OfSort OfProbe t once e d = cc
one_side (Sort input sorted) OfBuild u t once e d = cc
one_side (Sort input sorted) OfProbe u t once e d = cc
one_side (Joined j) OfSort u t once e d = cc
one_side (Joined j) OfBuild OfSort t once e d = cc
one_side (Joined j) OfBuild OfBuild t once e d = refl
one_side (Joined j) OfBuild OfProbe t once e d = absurd (twice j.probe j.build t once (probe_side (flushes j) j.probe t d).1 (some_same j.build t e))
one_side (Joined j) OfProbe OfSort t once e d = cc
one_side (Joined j) OfProbe OfBuild t once e d = absurd (twice j.probe j.build t once (probe_side (flushes j) j.probe t e).1 (some_same j.build t d))
one_side (Joined j) OfProbe OfProbe t once e d = refl

-- what flushes marks
pub flushing_marks : (kind : JoinType) (right_built : Bool) → flushes_by kind right_built ≡ true → marks_by kind right_built ≡ true
flushing_marks how.Inner right_built e = e
flushing_marks how.Left right_built e = e
flushing_marks how.Full right_built e = e
flushing_marks how.Cross right_built e = e
flushing_marks how.Semi right_built e = cc
flushing_marks how.Anti right_built e = e

module _ (plan : Stages) where
  -- the positions of some nodes were taken and their partitions flushed, and some sides are closed; of no other
  pub record Tells (ran : ℕ → Bool) (shut : ℕ → Side → Bool) (w : World) : Type 0 where
    pub taken : (n : ℕ) → ran n ≡ true → (p : ℕ) → p < supply plan n → 1 ≤ count p (w.taken n)
    pub untaken : (n : ℕ) → ran n ≡ false → w.taken n ≡ []
    pub flushed : (n : ℕ) (j : JoinStage) → plan.stage n ≡ Joined j → flushes j ≡ true → ran n ≡ true → (p : ℕ) → p < plan.parts → 1 ≤ count p (w.flushed n)
    pub unflushed : (n : ℕ) → ran n ≡ false → w.flushed n ≡ []
    pub closed : (n : ℕ) (side : Side) (t : ℕ) → side_below (plan.stage n) side ≡ Some t → w.closed t ≡ shut n side

  pub record Knows (ran : ℕ → Bool) (shut : ℕ → Side → Bool) (events : List Event) : Type 0 where
    pub stands : Stands plan events
    pub tells : Tells ran shut (world_after plan events)

  pub at_start : Knows (λ n. false) (λ n side. false) []
  at_start = record {
    stands = empty_journals plan;
    tells = record {
      taken = λ n e. cc;
      untaken = λ n e. refl;
      flushed = λ n j is f e. cc;
      unflushed = λ n e. refl;
      closed = λ n side t e. refl;
    };
  }

  module _ (ran : ℕ → Bool) (shut : ℕ → Side → Bool) where
    tells_alike : (ran' : ℕ → Bool) (shut' : ℕ → Side → Bool) → ((n : ℕ) → ran n ≡ ran' n) → ((n : ℕ) (side : Side) (t : ℕ) → side_below (plan.stage n) side ≡ Some t → shut n side ≡ shut' n side) → (w : World) → Tells ran shut w → Tells ran' shut' w
    tells_alike ran' shut' same alike w h = record {
      taken = λ n e. h.taken n (same n ∙ e);
      untaken = λ n e. h.untaken n (same n ∙ e);
      flushed = λ n j is f e. h.flushed n j is f (same n ∙ e);
      unflushed = λ n e. h.unflushed n (same n ∙ e);
      closed = λ n side t is. h.closed n side t is ∙ alike n side t is;
    }

    -- the same, told in other words
    pub knows_alike : (ran' : ℕ → Bool) (shut' : ℕ → Side → Bool) → ((n : ℕ) → ran n ≡ ran' n) → ((n : ℕ) (side : Side) (t : ℕ) → side_below (plan.stage n) side ≡ Some t → shut n side ≡ shut' n side) → (events : List Event) → Knows ran shut events → Knows ran' shut' events
    knows_alike ran' shut' same alike events h = record { stands = h.stands; tells = tells_alike ran' shut' same alike (world_after plan events) h.tells }

    none_supplied : (n : ℕ) (x : Stage) → supplies x ≡ false → supply_of plan n x ≡ 0
    none_supplied n (Scan rows) e = cc
    none_supplied n (Each input op) e = refl
    none_supplied n (Union inputs) e = refl
    none_supplied n (Sort input sorted) e = cc
    none_supplied n (Joined j) e = refl

    -- ---- a node that has no positions

    tells_idle : (n : ℕ) (w : World) → supplies (plan.stage n) ≡ false → ((j : JoinStage) → plan.stage n ≡ Joined j → flushes j ≡ true → ran n ≡ true) → Tells ran shut w → Tells (adds ran (n ∷ [])) shut w
    tells_idle n w none done h = record {
      taken = λ m e p lt.
          either
          (λ is.
          let same : n ≡ m = (Decides-eqb n m).0 is in
          let nothing : supply plan m ≡ 0 = subst (λ i. supply plan i ≡ 0) same (none_supplied n (plan.stage n) none) in
          absurd (omega (arith, lt, nothing)))
          (λ differs. h.taken m (sym (adds_other ran n m differs) ∙ e) p lt)
          (decide (eqb n m));
      untaken = λ m e. h.untaken m (or_false (ran m) (mem m (n ∷ [])) e).0;
      flushed = λ m j is f e.
          either
          (λ same. (let here : n ≡ m = (Decides-eqb n m).0 same in h.flushed m j is f (subst (λ i. ran i ≡ true) here (done j (ap (λ i. plan.stage i) here ∙ is) f))))
          (λ differs. h.flushed m j is f (sym (adds_other ran n m differs) ∙ e))
          (decide (eqb n m));
      unflushed = λ m e. h.unflushed m (or_false (ran m) (mem m (n ∷ [])) e).0;
      closed = h.closed;
    }

    no_chunks : (n : ℕ) (chunks : List Chunk) → supplies (plan.stage n) ≡ false → AllByRecursion (IsChunkOf plan n) chunks → takes n chunks ≡ []
    no_chunks n [] none each = refl
    no_chunks n (chunk ∷ chunks) none each =
        let nothing : supply plan n ≡ 0 = none_supplied n (plan.stage n) none in
        let some = each.0.some in
        let there = each.0.there in
        absurd (omega (arith, nothing, some, there))

    pub knows_idle : (n : ℕ) (events : List Event) → supplies (plan.stage n) ≡ false → ((j : JoinStage) → plan.stage n ≡ Joined j → flushes j ≡ true → ran n ≡ true) → Knows ran shut events → Knows (adds ran (n ∷ [])) shut events
    knows_idle n events none done h = record { stands = h.stands; tells = tells_idle n (world_after plan events) none done h.tells }

    pub step_idle : (n : ℕ) (events : List Event) (chunks : List Chunk) → supplies (plan.stage n) ≡ false → ((j : JoinStage) → plan.stage n ≡ Joined j → flushes j ≡ true → ran n ≡ true) → AreAllOf plan n chunks → Knows ran shut events → Knows (adds ran (n ∷ [])) shut (events ++ takes n chunks)
    step_idle n events chunks none done all h =
        let nothing = no_chunks n chunks none all.each in
        subst (λ more. Knows (adds ran (n ∷ [])) shut (events ++ more)) (sym nothing)
        (subst (λ more. Knows (adds ran (n ∷ [])) shut more) (sym (append-nil events)) (knows_idle n events none done h))

    -- ---- a node whose positions are taken

    tells_taken : (n : ℕ) (chunks : List Chunk) (w end : World) → ran n ≡ false → ((j : JoinStage) → plan.stage n ≡ Joined j → ⊥) → AreAllOf plan n chunks → HasTaken n chunks w end → Tells ran shut w → Tells (adds ran (n ∷ [])) shut end
    tells_taken n chunks w end fresh no_join all done h = record {
      taken = λ m e p lt.
          either
          (λ is.
          let same : n ≡ m = (Decides-eqb n m).0 is in
          let now : end.taken n ≡ positions chunks = done.taken ∙ ap (λ l. l ++ positions chunks) (h.untaken n fresh) in
          let here : p < supply plan n = subst (λ i. p < supply plan i) (sym same) lt in
          let some : 1 ≤ count p (end.taken n) = subst (λ l. 1 ≤ count p l) (sym now) (all.all p here) in
          subst (λ i. 1 ≤ count p (end.taken i)) same some)
          (λ differs. subst (λ l. 1 ≤ count p l) (sym (done.others m (apart n m differs))) (h.taken m (sym (adds_other ran n m differs) ∙ e) p lt))
          (decide (eqb n m));
      untaken = λ m e.
          let none = or_false (ran m) (mem m (n ∷ [])) e in
          let differs : eqb n m ≡ false = (or_false (eqb n m) false none.1).0 in
          done.others m (apart n m differs) ∙ h.untaken m none.0;
      flushed = λ m j is f e p lt.
          either
          (λ same. absurd (no_join j (ap (λ i. plan.stage i) ((Decides-eqb n m).0 same) ∙ is)))
          (λ differs. subst (λ l. 1 ≤ count p l) (sym (ap (λ g. g m) done.flushed)) (h.flushed m j is f (sym (adds_other ran n m differs) ∙ e) p lt))
          (decide (eqb n m));
      unflushed = λ m e. ap (λ g. g m) done.flushed ∙ h.unflushed m (or_false (ran m) (mem m (n ∷ [])) e).0;
      closed = λ m side t is. ap (λ g. g t) done.round.closed ∙ h.closed m side t is;
    }

    -- ---- a side that is closed

    tells_closed : IsTree plan → (shut' : ℕ → Side → Bool) (n : ℕ) (side : Side) (t : ℕ) (w end : World) → side_below (plan.stage n) side ≡ Some t → shut' n side ≡ true → ((m : ℕ) (s : Side) (u : ℕ) → side_below (plan.stage m) s ≡ Some u → (u ≡ t → ⊥) → shut' m s ≡ shut m s) → HasClosed t w end → Tells ran shut w → Tells ran shut' end
    tells_closed tree shut' n side t w end is_side now others done h = record {
      taken = λ m e p lt. subst (λ l. 1 ≤ count p l) (sym (ap (λ g. g m) done.taken)) (h.taken m e p lt);
      untaken = λ m e. ap (λ g. g m) done.taken ∙ h.untaken m e;
      flushed = λ m j is f e p lt. subst (λ l. 1 ≤ count p l) (sym (ap (λ g. g m) done.flushed)) (h.flushed m j is f e p lt);
      unflushed = λ m e. ap (λ g. g m) done.flushed ∙ h.unflushed m e;
      closed = λ m s u is.
          let after : end.closed u ≡ cond (eqb u t) true (w.closed u) = ap (λ g. g u) done.closed in
          either
          (λ eq.
          let same : u ≡ t = (Decides-eqb u t).0 eq in
          let there : side_below (plan.stage m) s ≡ Some t = is ∙ ap (λ i. Some i) same in
          let node : n ≡ m = tree.one_reader n m t (sides_read (plan.stage n) side t is_side) (sides_read (plan.stage m) s t there) in
          let at_n : side_below (plan.stage n) s ≡ Some t = ap (λ i. side_below (plan.stage i) s) node ∙ there in
          let which : side ≡ s = one_side (plan.stage n) side s t (tree.once n t) is_side at_n in
          let shut_n : shut' n s ≡ true = subst (λ v. shut' n v ≡ true) which now in
          let shut_m : shut' m s ≡ true = subst (λ i. shut' i s ≡ true) node shut_n in
          after ∙ ap (λ b. cond b true (w.closed u)) eq ∙ sym shut_m)
          (λ differs.
          let old : shut' m s ≡ shut m s = others m s u is (λ same. (let yes = (Decides-eqb u t).1 same in cc)) in
          after ∙ ap (λ b. cond b true (w.closed u)) differs ∙ h.closed m s u is ∙ sym old)
          (decide (eqb u t));
    }

    pub step_close : IsTree plan → (shut' : ℕ → Side → Bool) (n : ℕ) (side : Side) (t : ℕ) (events : List Event) → shut' n side ≡ true → ((m : ℕ) (s : Side) (u : ℕ) → side_below (plan.stage m) s ≡ Some u → (u ≡ t → ⊥) → shut' m s ≡ shut m s) → MayClose plan (world_after plan events) n side t → Knows ran shut events → Knows ran shut' (events ++ Close n side ∷ [])
    step_close tree shut' n side t events now others may h =
        let more = events ++ Close n side ∷ [] in
        let r = journals_close plan events h.stands n side t may in
        record { stands = r.0; tells = tells_closed tree shut' n side t (world_after plan events) (world_after plan more) may.is_side now others r.1 h.tells }

    -- ---- a join whose partitions are flushed

    tells_flushed : (m : ℕ) (join : JoinStage) (parts : List Flushed) (w end : World) → plan.stage m ≡ Joined join → ran m ≡ false → AreAllParts plan parts → HasFlushed m parts w end → Tells ran shut w → Tells (adds ran (m ∷ [])) shut end
    tells_flushed m join parts w end is_join fresh all done h = record {
      taken = λ n e p lt.
          either
          (λ is.
          let same : m ≡ n = (Decides-eqb m n).0 is in
          let nothing : supply plan n ≡ 0 = subst (λ i. supply plan i ≡ 0) same (none_supplied m (plan.stage m) (ap supplies is_join)) in
          absurd (omega (arith, lt, nothing)))
          (λ differs. subst (λ l. 1 ≤ count p l) (sym (ap (λ g. g n) done.taken)) (h.taken n (sym (adds_other ran m n differs) ∙ e) p lt))
          (decide (eqb m n));
      untaken = λ n e. ap (λ g. g n) done.taken ∙ h.untaken n (or_false (ran n) (mem n (m ∷ [])) e).0;
      flushed = λ n j is f e p lt.
          either
          (λ eq.
          let same : m ≡ n = (Decides-eqb m n).0 eq in
          let now = done.flushed p in
          let both = count_append p (map part_in parts) (w.flushed m) in
          let some = all.all p lt in
          subst (λ i. 1 ≤ count p (end.flushed i)) same (omega (arith, now, both, some)))
          (λ differs. subst (λ l. 1 ≤ count p l) (sym (done.others n (apart m n differs))) (h.flushed n j is f (sym (adds_other ran m n differs) ∙ e) p lt))
          (decide (eqb m n));
      unflushed = λ n e.
          let none = or_false (ran n) (mem n (m ∷ [])) e in
          let differs : eqb m n ≡ false = (or_false (eqb m n) false none.1).0 in
          done.others n (apart m n differs) ∙ h.unflushed n none.0;
      closed = λ n side t is. ap (λ g. g t) done.round.closed ∙ h.closed n side t is;
    }

    -- the joins above a node are built
    abbrev pub BuiltAbove : ℕ → Type 0
    BuiltAbove n = (k : ℕ) (j : JoinStage) → k < plan.size → plan.stage k ≡ Joined j → reaches plan n j.probe ≡ true → shut k OfBuild ≡ true

    abbrev pub SortedBelow : ℕ → Type 0
    SortedBelow n = (input : ℕ) (sorted : List Row → List Row) → plan.stage n ≡ Sort input sorted → shut n OfSort ≡ true

    module _ (ok : IsStages plan) (events : List Event) (h : Knows ran shut events) where
      abbrev now : World
      now = world_after plan events

      chain_built : (n : ℕ) → BuiltAbove n → (k : ℕ) (j : JoinStage) → k < plan.size → plan.stage k ≡ Joined j → reaches plan n j.probe ≡ true → now.closed j.build ≡ true
      chain_built n built k j lt is r = h.tells.closed k OfBuild j.build (ap (λ x. side_below x OfBuild) is) ∙ built k j lt is r

      pub step_flush : (m : ℕ) (join : JoinStage) (parts : List Flushed) → m < plan.size → plan.stage m ≡ Joined join → flushes join ≡ true → shut m OfProbe ≡ true → BuiltAbove m → ran m ≡ false → AreAllParts plan parts → Knows (adds ran (m ∷ [])) shut (events ++ flushing m parts)
      step_flush m join parts there is_join flush probed built fresh all =
          let side : side_below (plan.stage m) OfProbe ≡ Some join.probe = ap (λ x. side_below x OfProbe) is_join ∙ ap (λ b. cond b (Some join.probe) None) flush in
          let none : now.flushed m ≡ [] = h.tells.unflushed m fresh in
          let r = journals_flush plan ok events h.stands m join parts (record {
            idle = h.stands.idle;
            inside = there;
            is_join = is_join;
            flushing = flush;
            probed = h.tells.closed m OfProbe join.probe side ∙ probed;
            built = chain_built m built;
            each = all.each;
            once = λ p. subst (λ l. count p (map part_in parts ++ l) ≤ 1) (sym none) (subst (λ l. count p l ≤ 1) (sym (append-nil (map part_in parts))) (all.once p));
          }) in
          record { stands = r.0; tells = tells_flushed m join parts now (world_after plan (events ++ flushing m parts)) is_join fresh all r.1 h.tells }

      -- ---- sources

      ready_as : (n : ℕ) (x : Stage) → plan.stage n ≡ x → supplies x ≡ true → SortedBelow n → IsReady now.closed x
      ready_as n (Scan rows) is s sorted = tt
      ready_as n (Each input op) is s sorted = cc
      ready_as n (Union inputs) is s sorted = cc
      ready_as n (Sort input by) is s sorted = h.tells.closed n OfSort input (ap (λ x. side_below x OfSort) is) ∙ sorted input by is
      ready_as n (Joined j) is s sorted = cc

      rows_of_sort : (n input : ℕ) (sorted : List Row → List Row) → n < plan.size → plan.stage n ≡ Sort input sorted → rows plan n ≡ sorted (rows plan input)
      rows_of_sort n input sorted lt is =
          let less : input < n = subst (IsBelow n) is (ok.below n lt) in
          walk_is [] (rows_at plan) plan.size n lt ∙ ap (stage_rows (rows_to plan n)) is ∙ ap sorted (sym (walk_stays [] (rows_at plan) plan.size n input less (omega (arith, lt))))

      supply_as : (n : ℕ) (x : Stage) → n < plan.size → plan.stage n ≡ x → IsReady now.closed x → source_rows now.bag x ≡ own_rows (rows plan) x → length (source_rows now.bag x) ≡ supply_of plan n x
      supply_as n (Scan list) lt is ready same = refl
      supply_as n (Each input op) lt is ready same = absurd ready
      supply_as n (Union inputs) lt is ready same = absurd ready
      supply_as n (Sort input sorted) lt is ready same = ap length (same ∙ sym (rows_of_sort n input sorted lt is))
      supply_as n (Joined j) lt is ready same = absurd ready

      -- a source that is ready has the positions that are told
      supply_is : (n : ℕ) → n < plan.size → IsReady now.closed (plan.stage n) → length (source_rows now.bag (plan.stage n)) ≡ supply plan n
      supply_is n lt ready = supply_as n (plan.stage n) lt refl ready (ready_sources plan ok events h.stands.allowed n lt ready)

      are_chunks : (n : ℕ) → length (source_rows now.bag (plan.stage n)) ≡ supply plan n → (chunks : List Chunk) → AllByRecursion (IsChunkOf plan n) chunks → AllByRecursion (IsChunk plan now n) chunks
      are_chunks n same [] each = tt
      are_chunks n same (chunk ∷ chunks) each = (
        record {
          is_worker = each.0.is_worker;
          some = each.0.some;
          there = subst (λ size. chunk.from + chunk.amount ≤ size) (sym same) each.0.there;
        },
        are_chunks n same chunks each.1,
      )

      no_join_supplies : (x : Stage) → supplies x ≡ true → (j : JoinStage) → x ≡ Joined j → ⊥
      no_join_supplies x s j is = (let none : supplies x ≡ false = ap supplies is in cc)

      pub step_take : (n : ℕ) (chunks : List Chunk) → n < plan.size → supplies (plan.stage n) ≡ true → SortedBelow n → BuiltAbove n → ran n ≡ false → AreAllOf plan n chunks → Knows (adds ran (n ∷ [])) shut (events ++ takes n chunks)
      step_take n chunks there s sorted built fresh all =
          let ready = ready_as n (plan.stage n) refl s sorted in
          let r = journals_take plan ok events h.stands n chunks (record {
            idle = h.stands.idle;
            inside = there;
            is_ready = ready;
            built = chain_built n built;
            each = are_chunks n (supply_is n there ready) chunks all.each;
            once = λ p. subst (λ l. count p (l ++ positions chunks) ≤ 1) (sym (h.tells.untaken n fresh)) (all.once p);
          }) in
          record { stands = r.0; tells = tells_taken n chunks now (world_after plan (events ++ takes n chunks)) fresh (no_join_supplies (plan.stage n) s) all r.1 h.tells }

      -- ---- what is spent

      spent_as : (n : ℕ) (x : Stage) → n < plan.size → plan.stage n ≡ x → (acts x ≡ true → ran n ≡ true) → SortedBelow n → IsSpent plan now n (plan.stage n)
      spent_as n (Scan list) lt is done sorted =
          let ready = ready_as n (plan.stage n) refl (ap supplies is) sorted in
          taken_sources plan now n ready (λ p less. h.tells.taken n (done refl) p (subst (λ size. p < size) (supply_is n lt ready) less))
      spent_as n (Each input op) lt is done sorted = subst (IsSpent plan now n) (sym is) tt
      spent_as n (Union inputs) lt is done sorted = subst (IsSpent plan now n) (sym is) tt
      spent_as n (Sort input by) lt is done sorted =
          let ready = ready_as n (plan.stage n) refl (ap supplies is) sorted in
          taken_sources plan now n ready (λ p less. h.tells.taken n (done refl) p (subst (λ size. p < size) (supply_is n lt ready) less))
      spent_as n (Joined j) lt is done sorted = subst (IsSpent plan now n) (sym is) (λ f p less. h.tells.flushed n j is f (done (flushing_marks j.join.how j.right_built f)) p less)

      pub spent : (n : ℕ) → n < plan.size → (acts (plan.stage n) ≡ true → ran n ≡ true) → SortedBelow n → IsSpent plan now n (plan.stage n)
      spent n lt done sorted = spent_as n (plan.stage n) lt refl done sorted
