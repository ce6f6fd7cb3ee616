-- Lanes that are as they were, but for what they noted.
use Rattle.std.proofs.Common.{◌≡◌, ℕ, zero, suc, ◌+◌, ◌≤◌, List, [], ◌∷◌, ◌++◌, length, map, refl, ap, sym, ◌∙◌, subst, arith, None}
use Rattle.std.specs.List.{All, AllByRecursion, flat_map}
use Rattle.pipe_schema.specs.Rows.{Row}
use Rattle.pipe_schema.specs.declared.field.Field.{Field}
use Rattle.pipe_ops.specs.declared.sink.Sink.{Ghosts as SinkWords}
use Rattle.pipe_chain.specs.Flow.{added}
use Rattle.pipe_chain.specs.Chain.{works_of, acts_of, IsChain, AllServe, SameWork}
use Rattle.pipe_chain.specs.Counts.{AllWithin, plus, Went}
use Rattle.pipe_chain.specs.declared.operator.Operator.{Ghosts as OperatorWords}
use Rattle.pipe_run.specs.declared.lane.Lane.{Lane}
use Rattle.pipe_run.specs.declared.stage.LaneFault.TheVariants.{Memory}
use Rattle.pipe_run.specs.Stages.{operators_of, nodes_of, counts}
use Rattle.pipe_run.specs.Lanes.{lane_operators, lane_works, lane_acts, lane_counts, lane_nodes, held_in, IsCalm, IsFit, SameLane}
use Rattle.pipe_run.specs.Claimed.{Lot}
use Rattle.pipe_run.specs.Dealt.{AllTook, Dealt, works_in, nodes_in, acts_in, counts_in, IsLike, AreAlike, AllSame, DoTheSame, WentAll, IsOverIn}
use Rattle.pipe_run.specs.Flushes.{IsFlushFit, HasFlusher}
use Rattle.pipe_run.proofs.Limits.{over-whole}
use Rattle.pipe_run.specs.Notes.{entries_in, IsKept, AllKept, HasNothing, AreNoted}

module _ {O K : Type 0} where
  same_operators : (x y : Lane O K) → IsKept x y → lane_operators y ≡ lane_operators x
  same_operators x y k = ap (λ s. operators_of s.items) k.stages

  same_counts : (x y : Lane O K) → IsKept x y → lane_counts y ≡ lane_counts x
  same_counts x y k = ap (λ s. counts s.items y.target) k.stages ∙ ap (λ b. counts x.stages.items b) k.target

  same_nodes : (x y : Lane O K) → IsKept x y → lane_nodes y ≡ lane_nodes x
  same_nodes x y k = ap (λ s. nodes_of s.items y.target) k.stages ∙ ap (λ b. nodes_of x.stages.items b) k.target

  pub all_kept : (lanes : List (Lane O K)) → AllKept lanes lanes
  all_kept [] = tt
  all_kept (x ∷ lanes) = (record { stages = refl; flushers = refl; target = refl; seat = refl; refused = refl }, all_kept lanes)

  pub kept_head : (lanes others : List (Lane O K)) (x y : Lane O K) → lanes ≡ x ∷ others → IsKept x y → AllKept lanes (y ∷ others)
  kept_head lanes others x y e k = subst (λ l. AllKept l (y ∷ others)) (sym e) (k, all_kept others)

  -- ---- all lanes

  pub kept_long : (old new : List (Lane O K)) → AllKept old new → length new ≡ length old
  kept_long [] [] h = refl
  kept_long [] (y ∷ new) h = absurd h
  kept_long (x ∷ old) [] h = absurd h
  kept_long (x ∷ old) (y ∷ new) h = ap suc (kept_long old new h.1)

  pub kept_counts : (old new : List (Lane O K)) → AllKept old new → counts_in new ≡ counts_in old
  kept_counts [] [] h = refl
  kept_counts [] (y ∷ new) h = absurd h
  kept_counts (x ∷ old) [] h = absurd h
  kept_counts (x ∷ old) (y ∷ new) h = ap (λ c. plus c (counts_in new)) (same_counts x y h.0) ∙ ap (plus (lane_counts x)) (kept_counts old new h.1)

  pub within_kept : (limit : ℕ) (old new : List (Lane O K)) → AllKept old new → AllWithin limit (counts_in old) → AllWithin limit (counts_in new)
  within_kept limit old new h within = subst (λ c. AllWithin limit c) (sym (kept_counts old new h)) within

  kept_nodes : (old new : List (Lane O K)) → AllKept old new → nodes_in new ≡ nodes_in old
  kept_nodes [] [] h = refl
  kept_nodes [] (y ∷ new) h = absurd h
  kept_nodes (x ∷ old) [] h = absurd h
  kept_nodes (x ∷ old) (y ∷ new) h = same_nodes x y h.0

  kept_held : (held : K → List Row) (old new : List (Lane O K)) → AllKept old new → flat_map (held_in held) new ≡ flat_map (held_in held) old
  kept_held held [] [] h = refl
  kept_held held [] (y ∷ new) h = absurd h
  kept_held held (x ∷ old) [] h = absurd h
  kept_held held (x ∷ old) (y ∷ new) h =
      ap (λ b. held b.sink ++ flat_map (held_in held) new) h.0.target ∙ ap (λ l. held x.target.sink ++ l) (kept_held held old new h.1)

  -- a fact of one lane that is kept holds of all
  pub kept_all : (P : Lane O K → Type 0) → ((x y : Lane O K) → IsKept x y → P x → P y) → (old new : List (Lane O K)) → AllKept old new → All P old → All P new
  kept_all P f [] [] h all i d less = absurd (omega (arith, less))
  kept_all P f [] (y ∷ new) h all i d less = absurd h
  kept_all P f (x ∷ old) [] h all i d less = absurd h
  kept_all P f (x ∷ old) (y ∷ new) h all zero d less = f x y h.0 (all 0 d (omega arith))
  kept_all P f (x ∷ old) (y ∷ new) h all (suc i) d less =
      kept_all P f old new h.1 (λ j e lt. all (suc j) e (omega (arith, lt))) i d (omega (arith, less))

  calm_kept : (x y : Lane O K) → IsKept x y → IsCalm x → IsCalm y
  calm_kept x y k calm = k.refused ∙ calm

  pub kept_calm : (old new : List (Lane O K)) → AllKept old new → All IsCalm old → All IsCalm new
  kept_calm old new h all = kept_all IsCalm calm_kept old new h all

  -- ---- by the words of operators and sinks

  module _ {S B C : Type 0} (op : OperatorWords O S) (sink : SinkWords K B C) (ss : List S) where
    fit_kept : (limit : ℕ) (from : List Field) (x y : Lane O K) → IsKept x y → IsFit op sink ss limit from x → IsFit op sink ss limit from y
    fit_kept limit from x y k fit =
        let ops = same_operators x y k in
        let numbers = same_counts x y k in
        record {
          serve = subst (λ os. AllServe op os ss) (sym ops) fit.serve;
          chain = subst (λ b. IsChain op from (lane_operators y) (sink.schema b.sink)) (sym k.target) (subst (λ os. IsChain op from os (sink.schema x.target.sink)) (sym ops) fit.chain);
          still = λ calm. subst (λ os. AllByRecursion op.idle os) (sym ops) (fit.still (sym k.refused ∙ calm));
          within = λ calm. subst (λ c. AllWithin limit c) (sym numbers) (fit.within (sym k.refused ∙ calm));
          room = λ calm. subst (λ b. length (sink.held b.sink) ≤ b.given) (sym k.target) (fit.room (sym k.refused ∙ calm));
        }

    pub kept_fit : (limit : ℕ) (from : List Field) (old new : List (Lane O K)) → AllKept old new → All (IsFit op sink ss limit from) old → All (IsFit op sink ss limit from) new
    kept_fit limit from old new h all = kept_all (IsFit op sink ss limit from) (fit_kept limit from) old new h all

    flush_kept : (s : S) (limit : ℕ) (from : List Field) (x y : Lane O K) → IsKept x y → IsFlushFit op sink s ss limit from x → IsFlushFit op sink s ss limit from y
    flush_kept s limit from x y k fit = record {
      fit = fit_kept limit from x y k fit.fit;
      flusher = subst (λ f. HasFlusher op s from (IsCalm y) f.items) (sym k.flushers) (subst (λ r. HasFlusher op s from (r ≡ None) x.flushers.items) (sym k.refused) fit.flusher);
    }

    pub kept_flush : (s : S) (limit : ℕ) (from : List Field) (old new : List (Lane O K)) → AllKept old new → All (IsFlushFit op sink s ss limit from) old → All (IsFlushFit op sink s ss limit from) new
    kept_flush s limit from old new h all = kept_all (IsFlushFit op sink s ss limit from) (flush_kept s limit from) old new h all

    same_kept : (x y z : Lane O K) → IsKept y z → SameLane op sink x y → SameLane op sink x z
    same_kept x y z k same = record {
      work = subst (λ os. SameWork op (lane_operators x) os) (sym (same_operators y z k)) same.work;
      nodes = same_nodes y z k ∙ same.nodes;
      setting = ap (λ b. sink.setting b.sink) k.target ∙ same.setting;
      schema = ap (λ b. sink.schema b.sink) k.target ∙ same.schema;
      gives = ap (λ b. sink.gives b.sink) k.target ∙ same.gives;
    }

    all_same_kept : (old mid new : List (Lane O K)) → AllKept mid new → AllSame op sink old mid → AllSame op sink old new
    all_same_kept [] [] [] h same = tt
    all_same_kept [] [] (z ∷ new) h same = absurd h
    all_same_kept [] (y ∷ mid) new h same = absurd same
    all_same_kept (x ∷ old) [] new h same = absurd same
    all_same_kept (x ∷ old) (y ∷ mid) [] h same = absurd h
    all_same_kept (x ∷ old) (y ∷ mid) (z ∷ new) h same = (same_kept x y z h.0 same.0, all_same_kept old mid new h.1 same.1)

    pub kept_same : (old mid new : List (Lane O K)) → AllKept mid new → DoTheSame op sink old mid → DoTheSame op sink old new
    kept_same old mid new h same = record { lanes = all_same_kept old mid new h same.lanes }

    works_kept : (from : List Field) (x y : Lane O K) → IsKept x y → lane_works op from ss y ≡ lane_works op from ss x
    works_kept from x y k = ap (λ os. works_of op from os ss) (same_operators x y k)

    kept_works : (from : List Field) (old new : List (Lane O K)) → AllKept old new → works_in op from ss new ≡ works_in op from ss old
    kept_works from [] [] h = refl
    kept_works from [] (y ∷ new) h = absurd h
    kept_works from (x ∷ old) [] h = absurd h
    kept_works from (x ∷ old) (y ∷ new) h = works_kept from x y h.0

    pub kept_alike : (from : List Field) (old new : List (Lane O K)) → AllKept old new → AreAlike op from ss old → AreAlike op from ss new
    kept_alike from old new h all =
        kept_all (IsLike op from ss (works_in op from ss new) (nodes_in new)) (λ x y k like. (works_kept from x y k ∙ like.0, same_nodes x y k ∙ like.1)) old new h
        (λ i d less. (let like = all i d less in (like.0 ∙ sym (kept_works from old new h), like.1 ∙ sym (kept_nodes old new h))))

    kept_acts : (old new : List (Lane O K)) → AllKept old new → acts_in op new ≡ acts_in op old
    kept_acts [] [] h = refl
    kept_acts [] (y ∷ new) h = absurd h
    kept_acts (x ∷ old) [] h = absurd h
    kept_acts (x ∷ old) (y ∷ new) h =
        ap (λ os. added (acts_of op os) (acts_in op new)) (same_operators x y h.0) ∙ ap (added (lane_acts op x)) (kept_acts old new h.1)

    pub kept_went : (from : List Field) (rows : List Row) (old mid new : List (Lane O K)) → AllKept mid new → WentAll op sink ss from rows old mid → WentAll op sink ss from rows old new
    kept_went from rows old mid new h went =
        let works = works_in op from ss old in
        let before = acts_in op old in
        let counted = counts_in old in
        let had = flat_map (held_in sink.held) old in
        subst (λ a. Went works before a counted (counts_in new) rows had (flat_map (held_in sink.held) new)) (sym (kept_acts mid new h))
        (subst (λ c. Went works before (acts_in op mid) counted c rows had (flat_map (held_in sink.held) new)) (sym (kept_counts mid new h))
        (subst (λ l. Went works before (acts_in op mid) counted (counts_in mid) rows had l) (sym (kept_held sink.held mid new h)) went))

    -- want of memory behind a round
    pub memory_behind : (limit : ℕ) (from : List Field) (rows : List Row) (old new : List (Lane O K)) → WentAll op sink ss from rows old new → IsOverIn op ss limit from rows old new Memory
    memory_behind limit from rows old new went = over-whole limit (works_in op from ss old) (acts_in op old) (acts_in op new) (counts_in old) (counts_in new) (nodes_in old) rows _ _ Memory went tt

    -- ---- what was noted

    took_notes : (limit : ℕ) (lot : Lot) (nss : List (List ℕ)) (old new : List (Lane O K)) → AllTook op sink ss limit lot nss old new → AllByRecursion HasNothing old → map entries_in new ≡ map (flat_map lot.entries) nss
    took_notes limit lot [] [] [] h none = refl
    took_notes limit lot [] [] (y ∷ new) h none = absurd h
    took_notes limit lot [] (x ∷ old) new h none = absurd h
    took_notes limit lot (ns ∷ nss) [] new h none = absurd h
    took_notes limit lot (ns ∷ nss) (x ∷ old) [] h none = absurd h
    took_notes limit lot (ns ∷ nss) (x ∷ old) (y ∷ new) h none =
        let mine : y.entries.items ≡ flat_map lot.entries ns = h.0.entries ∙ ap (λ l. l ++ flat_map lot.entries ns) none.0 in
        ap (λ l. l ∷ map entries_in new) mine ∙ ap (λ l. flat_map lot.entries ns ∷ l) (took_notes limit lot nss old new h.1 none.1)

    took_long : (limit : ℕ) (lot : Lot) (nss : List (List ℕ)) (old new : List (Lane O K)) → AllTook op sink ss limit lot nss old new → length new ≡ length old
    took_long limit lot [] [] [] h = refl
    took_long limit lot [] [] (y ∷ new) h = absurd h
    took_long limit lot [] (x ∷ old) new h = absurd h
    took_long limit lot (ns ∷ nss) [] new h = absurd h
    took_long limit lot (ns ∷ nss) (x ∷ old) [] h = absurd h
    took_long limit lot (ns ∷ nss) (x ∷ old) (y ∷ new) h = ap suc (took_long limit lot nss old new h.1)

    -- what was dealt to lanes that had noted nothing, they noted
    pub dealt_noted : (limit : ℕ) (lot : Lot) (old mid : List (Lane O K)) → Dealt op sink ss limit lot old mid → AllByRecursion HasNothing old → AreNoted lot.count lot.entries (map entries_in mid)
    dealt_noted limit lot old mid dealt none = record {
      numbers = dealt.numbers;
      each_once = dealt.each_once;
      noted = took_notes limit lot dealt.numbers old mid dealt.took none;
    }

    pub dealt_long : (limit : ℕ) (lot : Lot) (old mid : List (Lane O K)) → Dealt op sink ss limit lot old mid → length (map entries_in mid) ≡ length old
    dealt_long limit lot old mid dealt = long_map mid ∙ took_long limit lot dealt.numbers old mid dealt.took
      where
        long_map : (xs : List (Lane O K)) → length (map entries_in xs) ≡ length xs
        long_map [] = refl
        long_map (x ∷ xs) = ap suc (long_map xs)
