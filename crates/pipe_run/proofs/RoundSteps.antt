-- What a round does to all lanes.
use Rattle.std.proofs.Common.{◌≡◌, ℕ, zero, suc, ◌+◌, ◌<◌, ◌≤◌, List, [], ◌∷◌, ◌++◌, length, get_or, map, Option, Some, None, Result, Ok, Err, IfOk, IfErr, refl, ap, sym, ◌∙◌, subst, arith, append-nil}
use Rattle.std.proofs.lemmas.List.{get_or-map, length-map}
use Rattle.std.proofs.lemmas.List.Elements.{All-map}
use Rattle.std.specs.List.{All, flat_map, range_with_len}
use Rattle.atomic_table.specs.Seated.{TableId}
use Rattle.pipe_schema.specs.Rows.{Row}
use Rattle.pipe_schema.specs.declared.field.Field.{Field}
use Rattle.pipe_ops.specs.declared.sink.Sink.{Ghosts as SinkWords}
use Rattle.pipe_ops.specs.declared.source.Morsel.{Morsel}
use Rattle.pipe_chain.specs.Sums.{SameItems, total as numbers_total}
use Rattle.pipe_chain.specs.Claims.{SeatClaims, fresh_claimant, all_drawn}
use Rattle.pipe_chain.proofs.SumLemmas.{total-append as numbers-append}
use Rattle.pipe_chain.specs.Flow.{Work, Acts, added}
use Rattle.pipe_chain.specs.Chain.{AllServe}
use Rattle.pipe_chain.specs.Counts.{Went}
use Rattle.pipe_chain.specs.declared.operator.Operator.{Ghosts as OperatorWords}
use Rattle.pipe_run.specs.declared.stage.LaneFault.{LaneFault}
use Rattle.pipe_run.specs.declared.stage.LaneFault.TheVariants.{Memory}
use Rattle.pipe_run.specs.declared.lane.Lane.{Lane}
use Rattle.pipe_run.specs.Stages.{Tells, IsOver}
use Rattle.pipe_run.specs.Lanes.{lane_operators, lane_acts, lane_counts, lane_nodes, held_in, IsCalm, IsFit, IsSet, SameLane, Ran}
use Rattle.pipe_run.specs.Claimed.{drawn_in, past, IsFresh, IsSeated, IsAtEnd, Lot, chunks_lot, parts_lot, rows_of_lot, schema_in, Took}
use Rattle.pipe_run.specs.Flushes.{rows_of_parts}
use Rattle.pipe_run.specs.Seats.{seated, unseated}
use Rattle.pipe_run.specs.Dealt.{AllTook, in_all, Dealt, works_in, nodes_in, acts_in, IsLike, AreAlike, counts_in, first_of, first_refused, AllSame, DoTheSame, rows_of_all, WentAll, IsOverIn, IsWithin, HasNodes, Drawn, TellsFirst}
use Rattle.pipe_run.proofs.Work.{acts-length}
use Rattle.pipe_run.proofs.Stages.{counts-length}
use Rattle.pipe_run.proofs.LaneSteps.{lane-refl, lane-trans, lane-works}
use Rattle.pipe_run.proofs.ClaimSteps.{fit-noted}
use Rattle.pipe_run.proofs.Dealing.{IsLot, below, flat-below, rows-in-all, rows-all, claimed-within, each-below, all-claimed, chunks-rows, parts-rows}
use Rattle.pipe_run.proofs.Sums.{plus-nil, length-plus}
use Rattle.pipe_run.proofs.Limits.{Part, went-same, went-beside, part-went, part-over, part-beside, over-left, over-right, over-part, over-whole, over-none}

added-nil : (acts : List Acts) → added acts [] ≡ acts
added-nil [] = refl
added-nil (a ∷ acts) = refl

length-added : (a b : List Acts) → length a ≡ length b → length (added a b) ≡ length a
length-added [] [] e = refl
length-added [] (y ∷ b) e = absurd (omega arith)
length-added (x ∷ a) [] e = absurd (omega arith)
length-added (x ∷ a) (y ∷ b) e = omega (arith, length-added a b (omega arith))

-- ---- lanes that do the same

module _ {O S K B C : Type 0} (op : OperatorWords O S) (sink : SinkWords K B C) where
  all-same-refl : (lanes : List (Lane O K)) → AllSame op sink lanes lanes
  all-same-refl [] = tt
  all-same-refl (x ∷ lanes) = (lane-refl op sink x, all-same-refl lanes)

  all-same-trans : (a b c : List (Lane O K)) → AllSame op sink a b → AllSame op sink b c → AllSame op sink a c
  all-same-trans [] [] [] h k = tt
  all-same-trans [] [] (z ∷ c) h k = absurd k
  all-same-trans [] (y ∷ b) c h k = absurd h
  all-same-trans (x ∷ a) [] c h k = absurd h
  all-same-trans (x ∷ a) (y ∷ b) [] h k = absurd k
  all-same-trans (x ∷ a) (y ∷ b) (z ∷ c) h k = (lane-trans op sink x y z h.0 k.0, all-same-trans a b c h.1 k.1)

  pub same-lanes-refl : (lanes : List (Lane O K)) → DoTheSame op sink lanes lanes
  same-lanes-refl lanes = record { lanes = all-same-refl lanes }

  pub same-lanes-trans : (a b c : List (Lane O K)) → DoTheSame op sink a b → DoTheSame op sink b c → DoTheSame op sink a c
  same-lanes-trans a b c h k = record { lanes = all-same-trans a b c h.lanes k.lanes }

  all-same-length : (a b : List (Lane O K)) → AllSame op sink a b → length b ≡ length a
  all-same-length [] [] h = refl
  all-same-length [] (y ∷ b) h = absurd h
  all-same-length (x ∷ a) [] h = absurd h
  all-same-length (x ∷ a) (y ∷ b) h = omega (arith, all-same-length a b h.1)

  pub same-lanes-length : (a b : List (Lane O K)) → DoTheSame op sink a b → length b ≡ length a
  same-lanes-length a b h = all-same-length a b h.lanes

  all-same-at : (a b : List (Lane O K)) → AllSame op sink a b → (i : ℕ) (d : Lane O K) → i < length b → SameLane op sink (get_or a i d) (get_or b i d)
  all-same-at [] [] h i d less = absurd (omega arith)
  all-same-at [] (y ∷ b) h i d less = absurd h
  all-same-at (x ∷ a) [] h i d less = absurd h
  all-same-at (x ∷ a) (y ∷ b) h zero d less = h.0
  all-same-at (x ∷ a) (y ∷ b) h (suc i) d less = all-same-at a b h.1 i d (omega arith)

  -- a setting of all sinks is kept
  pub settings-kept : (z : sink.Setting) (a b : List (Lane O K)) → DoTheSame op sink a b → All (IsSet sink.setting z) a → All (IsSet sink.setting z) b
  settings-kept z a b h all = λ i d less. (all-same-at a b h.lanes i d less).setting ∙ all i d (omega (arith, less, all-same-length a b h.lanes))

  pub schemas-kept : (z : List Field) (a b : List (Lane O K)) → DoTheSame op sink a b → All (IsSet sink.schema z) a → All (IsSet sink.schema z) b
  schemas-kept z a b h all = λ i d less. (all-same-at a b h.lanes i d less).schema ∙ all i d (omega (arith, less, all-same-length a b h.lanes))

  pub gives-kept : (z : List Field) (a b : List (Lane O K)) → DoTheSame op sink a b → All (IsSet sink.gives z) a → All (IsSet sink.gives z) b
  gives-kept z a b h all = λ i d less. (all-same-at a b h.lanes i d less).gives ∙ all i d (omega (arith, less, all-same-length a b h.lanes))

  module _ (from : List Field) (ss : List S) where
    works-kept : (a b : List (Lane O K)) → AllSame op sink a b → works_in op from ss b ≡ works_in op from ss a
    works-kept [] [] h = refl
    works-kept [] (y ∷ b) h = absurd h
    works-kept (x ∷ a) [] h = absurd h
    works-kept (x ∷ a) (y ∷ b) h = lane-works op sink from ss x y h.0

    nodes-kept : (a b : List (Lane O K)) → AllSame op sink a b → nodes_in b ≡ nodes_in a
    nodes-kept [] [] h = refl
    nodes-kept [] (y ∷ b) h = absurd h
    nodes-kept (x ∷ a) [] h = absurd h
    nodes-kept (x ∷ a) (y ∷ b) h = h.0.nodes

    pub same-works-in : (a b : List (Lane O K)) → DoTheSame op sink a b → works_in op from ss b ≡ works_in op from ss a
    same-works-in a b h = works-kept a b h.lanes

    pub same-nodes-in : (a b : List (Lane O K)) → DoTheSame op sink a b → nodes_in b ≡ nodes_in a
    same-nodes-in a b h = nodes-kept a b h.lanes

    -- lanes that do the same as alike lanes are alike
    pub alike-after : (a b : List (Lane O K)) → DoTheSame op sink a b → AreAlike op from ss a → AreAlike op from ss b
    alike-after a b h like = λ i d less.
        let one = all-same-at a b h.lanes i d less in
        let was = like i d (omega (arith, less, all-same-length a b h.lanes)) in
        (lane-works op sink from ss _ _ one ∙ was.0 ∙ sym (works-kept a b h.lanes), one.nodes ∙ was.1 ∙ sym (nodes-kept a b h.lanes))

-- ---- how long the sums of lanes that do the same are

module _ {O S K : Type 0} (op : OperatorWords O S) (ss : List S) (from : List Field) (works : List Work) (nodes : List ℕ) where
  abbrev Like : Lane O K → Type 0
  Like lane = IsLike op from ss works nodes lane

  abbrev Serve : Lane O K → Type 0
  Serve lane = AllServe op (lane_operators lane) ss

  pub lane-counts-length : (x : Lane O K) → Like x → Serve x → length (lane_counts x) ≡ length works + 1
  lane-counts-length x like serve = counts-length op from x.stages.items x.target ss serve ∙ ap (λ (ws : List Work). length ws + 1) like.0

  lane-acts-length : (x : Lane O K) → Like x → Serve x → length (lane_acts op x) ≡ length works
  lane-acts-length x like serve = acts-length op (lane_operators x) from ss serve ∙ ap (λ (ws : List Work). length ws) like.0

  pub rest-of : (P : Lane O K → Type 0) (x : Lane O K) (xs : List (Lane O K)) → All P (x ∷ xs) → All P xs
  rest-of P x xs h = λ i d less. h (suc i) d (omega arith)

  pub counts-in-length : (x : Lane O K) (xs : List (Lane O K)) → All Like (x ∷ xs) → All Serve (x ∷ xs) → length (counts_in (x ∷ xs)) ≡ length works + 1
  counts-in-length x [] like serve = ap length (plus-nil (lane_counts x)) ∙ lane-counts-length x (like 0 x (omega arith)) (serve 0 x (omega arith))
  counts-in-length x (y ∷ xs) like serve =
      let one = lane-counts-length x (like 0 x (omega arith)) (serve 0 x (omega arith)) in
      let others = counts-in-length y xs (rest-of Like x (y ∷ xs) like) (rest-of Serve x (y ∷ xs) serve) in
      length-plus (lane_counts x) (counts_in (y ∷ xs)) (one ∙ sym others) ∙ one

  acts-in-length : (x : Lane O K) (xs : List (Lane O K)) → All Like (x ∷ xs) → All Serve (x ∷ xs) → length (acts_in op (x ∷ xs)) ≡ length works
  acts-in-length x [] like serve = ap length (added-nil (lane_acts op x)) ∙ lane-acts-length x (like 0 x (omega arith)) (serve 0 x (omega arith))
  acts-in-length x (y ∷ xs) like serve =
      let one = lane-acts-length x (like 0 x (omega arith)) (serve 0 x (omega arith)) in
      let others = acts-in-length y xs (rest-of Like x (y ∷ xs) like) (rest-of Serve x (y ∷ xs) serve) in
      length-added (lane_acts op x) (acts_in op (y ∷ xs)) (one ∙ sym others) ∙ one

  pub acts-length-of : (lanes : List (Lane O K)) → 0 < length lanes → All Like lanes → All Serve lanes → length (acts_in op lanes) ≡ length works
  acts-length-of [] some like serve = absurd (omega arith)
  acts-length-of (x ∷ lanes) some like serve = acts-in-length x lanes like serve

pub lanes-acts-length : {O S K : Type 0} (op : OperatorWords O S) (ss : List S) (from : List Field) (lanes : List (Lane O K)) → 0 < length lanes → AreAlike op from ss lanes → All (λ (lane : Lane O K). AllServe op (lane_operators lane) ss) lanes → length (acts_in op lanes) ≡ length (works_in op from ss lanes)
lanes-acts-length op ss from lanes some like serve = acts-length-of op ss from (works_in op from ss lanes) (nodes_in lanes) lanes some like serve

module _ {O S K B C : Type 0} (op : OperatorWords O S) (sink : SinkWords K B C) (ss : List S) (limit : ℕ) (lot : Lot) where
  abbrev from : List Field
  from = lot.from

  abbrev Takes : List (List ℕ) → (old new : List (Lane O K)) → Type 0
  Takes nss old new = AllTook op sink ss limit lot nss old new

  -- ---- from the seated lanes to those before and after

  same-unseated : (t : TableId) (x y : Lane O K) → SameLane op sink (seated t x) y → SameLane op sink x (unseated y)
  same-unseated t x y h = record { work = h.work; nodes = h.nodes; setting = h.setting; schema = h.schema; gives = h.gives }

  took-unseated : (t : TableId) (ns : List ℕ) (x y : Lane O K) → Took op sink ss limit lot ns (seated t x) y → Took op sink ss limit lot ns x (unseated y)
  took-unseated t ns x y h = record {
    ran = record { same = same-unseated t x y h.ran.same; went = h.ran.went; stopped = h.ran.stopped; kept = h.ran.kept };
    entries = h.entries;
  }

  took-below : IsLot lot → (ns : List ℕ) (x y : Lane O K) → Took op sink ss limit lot ns x y → Took op sink ss limit lot (below lot.count ns) x y
  took-below is ns x y h = record {
    ran = subst (λ (l : List Row). Ran op sink ss limit from l x y) (sym (flat-below lot.rows lot.count is.no_rows ns)) h.ran;
    entries = h.entries ∙ ap (λ l. x.entries.items ++ l) (sym (flat-below lot.entries lot.count is.no_entries ns));
  }

  pub all-took : (t : TableId) (old run : List (Lane O K)) → length run ≡ length old
      → ((i : ℕ) (d : Lane O K) → i < length old → Took op sink ss limit lot (drawn_in (get_or run i d)) (get_or (map (seated t) old) i d) (get_or run i d)) → Takes (map drawn_in run) old (map unseated run)
  all-took t [] [] e h = tt
  all-took t [] (y ∷ run) e h = cc
  all-took t (x ∷ old) [] e h = cc
  all-took t (x ∷ old) (y ∷ run) e h =
      (took-unseated t (drawn_in y) x y (h 0 x (omega arith)), all-took t old run (omega arith) (λ i d less. h (suc i) d (omega arith)))

  all-below : IsLot lot → (nss : List (List ℕ)) (old new : List (Lane O K)) → Takes nss old new → Takes (map (below lot.count) nss) old new
  all-below is [] [] [] h = tt
  all-below is [] [] (y ∷ new) h = absurd h
  all-below is [] (x ∷ old) new h = absurd h
  all-below is (ns ∷ nss) [] new h = absurd h
  all-below is (ns ∷ nss) (x ∷ old) [] h = absurd h
  all-below is (ns ∷ nss) (x ∷ old) (y ∷ new) h = (took-below is ns x y h.0, all-below is nss old new h.1)

  pub dealt : IsLot lot → (nss : List (List ℕ)) (old new : List (Lane O K)) (claimed : ℕ) → Takes nss old new → SameItems (in_all nss) (range_with_len 0 claimed) → lot.count ≤ claimed → Dealt op sink ss limit lot old new
  dealt is nss old new claimed h items all = record {
    numbers = map (below lot.count) nss;
    each_once = each-below nss claimed lot.count items all;
    took = all-below is nss old new h;
  }

  -- ---- lane by lane

  took-all-same : (nss : List (List ℕ)) (old new : List (Lane O K)) → Takes nss old new → AllSame op sink old new
  took-all-same [] [] [] h = tt
  took-all-same [] [] (y ∷ new) h = absurd h
  took-all-same [] (x ∷ old) new h = absurd h
  took-all-same (ns ∷ nss) [] new h = absurd h
  took-all-same (ns ∷ nss) (x ∷ old) [] h = absurd h
  took-all-same (ns ∷ nss) (x ∷ old) (y ∷ new) h = (h.0.ran.same, took-all-same nss old new h.1)

  -- they do the same as before
  pub took-same : (nss : List (List ℕ)) (old new : List (Lane O K)) → Takes nss old new → DoTheSame op sink old new
  took-same nss old new h = record { lanes = took-all-same nss old new h }

  -- ---- all lanes together

  module _ (works : List Work) (nodes : List ℕ) where
    abbrev LikeThese : Lane O K → Type 0
    LikeThese lane = IsLike op from ss works nodes lane

    abbrev ServeThese : Lane O K → Type 0
    ServeThese lane = AllServe op (lane_operators lane) ss

    one-went : (ns : List ℕ) (x y : Lane O K) → Took op sink ss limit lot ns x y → LikeThese x → IsCalm y → Went works (lane_acts op x) (lane_acts op y) (lane_counts x) (lane_counts y) (flat_map (lot.rows) ns) (held_in sink.held x) (held_in sink.held y)
    one-went ns x y h like calm = rw like.0 at (h.ran.went calm)

    -- what went through
    pub took-went : (ns : List ℕ) (nss : List (List ℕ)) (x y : Lane O K) (old new : List (Lane O K)) → Takes (ns ∷ nss) (x ∷ old) (y ∷ new) → All LikeThese (x ∷ old) → All ServeThese (x ∷ old) → All IsCalm (y ∷ new)
        → Went works (acts_in op (x ∷ old)) (acts_in op (y ∷ new)) (counts_in (x ∷ old)) (counts_in (y ∷ new)) (flat_map (lot.rows) (in_all (ns ∷ nss))) (flat_map (held_in sink.held) (x ∷ old)) (flat_map (held_in sink.held) (y ∷ new))
    took-went ns [] x y [] [] h like serve calm =
        let one = one-went ns x y h.0 (like 0 x (omega arith)) (calm 0 y (omega arith)) in
        rw (added-nil (lane_acts op x), added-nil (lane_acts op y), plus-nil (lane_counts x), plus-nil (lane_counts y), append-nil ns, append-nil (held_in sink.held x), append-nil (held_in sink.held y)) one
    took-went ns [] x y [] (z ∷ new) h like serve calm = absurd h.1
    took-went ns [] x y (z ∷ old) new h like serve calm = absurd h.1
    took-went ns (n ∷ nss) x y [] new h like serve calm = absurd h.1
    took-went ns (n ∷ nss) x y (z ∷ old) [] h like serve calm = absurd h.1
    took-went ns (n ∷ nss) x y (z ∷ old) (v ∷ new) h like serve calm =
        let one = one-went ns x y h.0 (like 0 x (omega arith)) (calm 0 y (omega arith)) in
        let others = took-went n nss z v old new h.1 (rest-of op ss from works nodes LikeThese x (z ∷ old) like) (rest-of op ss from works nodes ServeThese x (z ∷ old) serve) (λ i d less. calm (suc i) d (omega arith)) in
        rw (rows-in-all (lot.rows) ns (n ∷ nss))
        (went-beside works _ _ _ _ _ _ _ _ _ _ _ _ _ _ (lane-counts-length op ss from works nodes x (like 0 x (omega arith)) (serve 0 x (omega arith))) (counts-in-length op ss from works nodes z old (rest-of op ss from works nodes LikeThese x (z ∷ old) like) (rest-of op ss from works nodes ServeThese x (z ∷ old) serve)) one others)

    -- a part of the way, whatever was refused
    one-part : (ns : List ℕ) (x y : Lane O K) (o : Option LaneFault) → y.refused ≡ o → Took op sink ss limit lot ns x y → LikeThese x → IsCalm x → Part works (lane_acts op x) (lane_acts op y) (flat_map (lot.rows) ns)
    one-part ns x y None e h like calm = part-went works _ _ _ _ _ _ _ (one-went ns x y h like e)
    one-part ns x y (Some r) e h like calm =
        let over : IsOver limit works (lane_acts op x) (lane_acts op y) (lane_counts x) (lane_nodes x) (flat_map (lot.rows) ns) r = rw (like.0, e) at (h.ran.stopped calm) in
        part-over limit works _ _ _ _ _ r over

    took-part : (ns : List ℕ) (nss : List (List ℕ)) (x y : Lane O K) (old new : List (Lane O K)) → Takes (ns ∷ nss) (x ∷ old) (y ∷ new) → All LikeThese (x ∷ old) → All IsCalm (x ∷ old) → Part works (acts_in op (x ∷ old)) (acts_in op (y ∷ new)) (flat_map (lot.rows) (in_all (ns ∷ nss)))
    took-part ns [] x y [] [] h like calm =
        rw (added-nil (lane_acts op x), added-nil (lane_acts op y), append-nil ns) (one-part ns x y y.refused refl h.0 (like 0 x (omega arith)) (calm 0 x (omega arith)))
    took-part ns [] x y [] (z ∷ new) h like calm = absurd h.1
    took-part ns [] x y (z ∷ old) new h like calm = absurd h.1
    took-part ns (n ∷ nss) x y [] new h like calm = absurd h.1
    took-part ns (n ∷ nss) x y (z ∷ old) [] h like calm = absurd h.1
    took-part ns (n ∷ nss) x y (z ∷ old) (v ∷ new) h like calm =
        rw (rows-in-all (lot.rows) ns (n ∷ nss))
        (part-beside works _ _ _ _ _ _ (one-part ns x y y.refused refl h.0 (like 0 x (omega arith)) (calm 0 x (omega arith))) (took-part n nss z v old new h.1 (rest-of op ss from works nodes LikeThese x (z ∷ old) like) (λ i d less. calm (suc i) d (omega arith))))

    one-over : (ns : List ℕ) (x y : Lane O K) (r : LaneFault) → y.refused ≡ Some r → Took op sink ss limit lot ns x y → LikeThese x → IsCalm x → IsOver limit works (lane_acts op x) (lane_acts op y) (lane_counts x) nodes (flat_map (lot.rows) ns) r
    one-over ns x y r e h like calm = rw (like.0, like.1, e) at (h.ran.stopped calm)

    -- why the least lane that stopped did
    pub took-over : (ns : List ℕ) (nss : List (List ℕ)) (x y : Lane O K) (old new : List (Lane O K)) (r : LaneFault) → Takes (ns ∷ nss) (x ∷ old) (y ∷ new) → All LikeThese (x ∷ old) → All ServeThese (x ∷ old) → All IsCalm (x ∷ old) → first_refused (y ∷ new) ≡ Some r
        → IsOver limit works (acts_in op (x ∷ old)) (acts_in op (y ∷ new)) (counts_in (x ∷ old)) nodes (flat_map (lot.rows) (in_all (ns ∷ nss))) r
    took-over ns [] x y [] [] r h like serve calm e =
        rw (added-nil (lane_acts op x), added-nil (lane_acts op y), plus-nil (lane_counts x), append-nil ns) (one-over ns x y r (only y.refused r e) h.0 (like 0 x (omega arith)) (calm 0 x (omega arith)))
      where
        only : (o : Option LaneFault) (r : LaneFault) → first_of o None ≡ Some r → o ≡ Some r
        only None r e = e
        only (Some q) r e = e
    took-over ns [] x y [] (z ∷ new) r h like serve calm e = absurd h.1
    took-over ns [] x y (z ∷ old) new r h like serve calm e = absurd h.1
    took-over ns (n ∷ nss) x y [] new r h like serve calm e = absurd h.1
    took-over ns (n ∷ nss) x y (z ∷ old) [] r h like serve calm e = absurd h.1
    took-over ns (n ∷ nss) x y (z ∷ old) (v ∷ new) r h like serve calm e =
        let x_like = like 0 x (omega arith) in
        let x_calm = calm 0 x (omega arith) in
        let x_long = lane-counts-length op ss from works nodes x x_like (serve 0 x (omega arith)) in
        let like' = rest-of op ss from works nodes LikeThese x (z ∷ old) like in
        let serve' = rest-of op ss from works nodes ServeThese x (z ∷ old) serve in
        let calm' : All IsCalm (z ∷ old) = λ i d less. calm (suc i) d (omega arith) in
        let others_long = counts-in-length op ss from works nodes z old like' serve' in
        rw (rows-in-all (lot.rows) ns (n ∷ nss))
        (first-or-later y.refused refl (λ is. over-left limit works _ _ _ _ _ _ nodes _ _ r x_long others_long (one-over ns x y r is h.0 x_like x_calm) (took-part n nss z v old new h.1 like' calm'))
        (λ none later. over-right limit works _ _ _ _ _ _ nodes _ _ r x_long others_long (one-part ns x y None none h.0 x_like x_calm) (took-over n nss z v old new r h.1 like' serve' calm' later)))
      where
        first-or-later : {G : Type 0} (o : Option LaneFault) → y.refused ≡ o → (y.refused ≡ Some r → G) → (y.refused ≡ None → first_refused (v ∷ new) ≡ Some r → G) → G
        first-or-later None is f g = g is (let e' : first_of y.refused (first_refused (v ∷ new)) ≡ Some r = e in rw is at e')
        first-or-later (Some q) is f g = f (is ∙ (let e' : first_of y.refused (first_refused (v ∷ new)) ≡ Some r = e in rw is at e'))

module _ {O K : Type 0} where
  -- no lane was refused anything
  pub calm-all : (lanes : List (Lane O K)) → first_refused lanes ≡ None → All IsCalm lanes
  calm-all [] e i d less = absurd (omega arith)
  calm-all (x ∷ lanes) e zero d less = first-none x.refused (first_refused lanes) e
    where
      first-none : (o later : Option LaneFault) → first_of o later ≡ None → o ≡ None
      first-none None later e = refl
      first-none (Some r) later e = cc
  calm-all (x ∷ lanes) e (suc i) d less = calm-all lanes (later-none x.refused (first_refused lanes) e) i d (omega arith)
    where
      later-none : (o later : Option LaneFault) → first_of o later ≡ None → later ≡ None
      later-none None later e = e
      later-none (Some r) later e = cc

  pub calm-seated : (t : TableId) (lanes : List (Lane O K)) → All IsCalm lanes → All IsCalm (map (seated t) lanes)
  calm-seated t lanes h = All-map IsCalm (seated t) lanes h

  pub calm-before : (lanes : List (Lane O K)) → All IsCalm (map unseated lanes) → All IsCalm lanes
  calm-before lanes h i d less =
      subst (λ (l : Lane O K). IsCalm l) (get_or-map unseated lanes i d d less) (h i d (omega (arith, less, length-map lanes unseated)))

  pub fresh-seated : (t : TableId) (lanes : List (Lane O K)) → All IsFresh (map (seated t) lanes)
  fresh-seated t lanes = All-map IsFresh (seated t) lanes (λ i d less. refl)

  pub all-seated : (t : TableId) (lanes : List (Lane O K)) → All (IsSeated t) (map (seated t) lanes)
  all-seated t lanes = All-map (IsSeated t) (seated t) lanes (λ i d less. refl)

  pub drawn-in-all : (lanes : List (Lane O K)) → flat_map drawn_in lanes ≡ in_all (map drawn_in lanes)
  drawn-in-all [] = refl
  drawn-in-all (x ∷ lanes) = ap (λ l. drawn_in x ++ l) (drawn-in-all lanes)

  -- the first lane came to the end
  pub some-past : (lot : Lot) (lanes : List (Lane O K)) → 0 < length lanes → All (IsAtEnd lot) lanes → All IsCalm lanes → 0 < numbers_total (past lot.count) (in_all (map drawn_in lanes))
  some-past lot [] some end calm = absurd (omega arith)
  some-past lot (x ∷ lanes) some end calm =
      omega (arith, end 0 x (omega arith) (calm 0 x (omega arith)), numbers-append (past lot.count) (drawn_in x) (in_all (map drawn_in lanes)))

module _ {O S K B C : Type 0} (op : OperatorWords O S) (sink : SinkWords K B C) (ss : List S) (limit : ℕ) (from : List Field) where
  pub fits-seated : (t : TableId) (lanes : List (Lane O K)) → All (IsFit op sink ss limit from) lanes → All (IsFit op sink ss limit from) (map (seated t) lanes)
  fits-seated t lanes h =
      All-map (IsFit op sink ss limit from) (seated t) lanes (λ i d less. let l = get_or lanes i d in fit-noted op sink ss limit from l (Some (fresh_claimant t)) l.entries (h i d less))

  pub fits-unseated : (lanes : List (Lane O K)) → All (IsFit op sink ss limit from) lanes → All (IsFit op sink ss limit from) (map unseated lanes)
  fits-unseated lanes h =
      All-map (IsFit op sink ss limit from) unseated lanes (λ i d less. let l = get_or lanes i d in fit-noted op sink ss limit from l None l.entries (h i d less))

  -- counts of lanes that were refused nothing are within the limit
  pub fits-within : (lanes : List (Lane O K)) → All (IsFit op sink ss limit from) lanes → All IsCalm lanes → All (IsWithin limit) lanes
  fits-within lanes h calm = λ i d less. (h i d less).within (calm i d less)

  pub alike-nodes : (lanes : List (Lane O K)) → AreAlike op from ss lanes → All (HasNodes (nodes_in lanes)) lanes
  alike-nodes lanes like = λ i d less. (like i d less).1

none-drawn : (seats : List SeatClaims) → length seats ≡ 0 → all_drawn seats ≡ []
none-drawn [] e = refl
none-drawn (seat ∷ seats) e = cc

module _ {O S K B C : Type 0} (op : OperatorWords O S) (sink : SinkWords K B C) (ss : List S) (limit : ℕ) (lot : Lot) where
  -- what lanes drew in a round, from their seats
  pub deal-drawn : (t : TableId) (old sat run new : List (Lane O K)) (mid seats : List SeatClaims) (claimed : ℕ) → sat ≡ map (seated t) old → length run ≡ length sat
      → ((i : ℕ) (d : Lane O K) → i < length sat → Took op sink ss limit lot (drawn_in (get_or run i d)) (get_or sat i d) (get_or run i d))
      → All (IsAtEnd lot) run → 0 < length old → new ≡ map unseated run → length mid ≡ 0 → all_drawn seats ≡ all_drawn mid ++ flat_map drawn_in run → SameItems (all_drawn seats) (range_with_len 0 claimed) → Drawn op sink ss limit lot old new
  deal-drawn t old sat run new mid seats claimed sat_is len took end some new_is none drawn items =
      let long : length run ≡ length old = len ∙ ap length sat_is ∙ length-map old (seated t) in
      let each : (i : ℕ) (d : Lane O K) → i < length old → Took op sink ss limit lot (drawn_in (get_or run i d)) (get_or (map (seated t) old) i d) (get_or run i d) =
      λ i d less. subst (λ (l : List (Lane O K)). Took op sink ss limit lot (drawn_in (get_or run i d)) (get_or l i d) (get_or run i d)) sat_is (took i d (omega (arith, less, long, len))) in
      let numbers : all_drawn seats ≡ in_all (map drawn_in run) = drawn ∙ ap (λ l. l ++ flat_map drawn_in run) (none-drawn mid none) ∙ drawn-in-all run in
      let once : SameItems (in_all (map drawn_in run)) (range_with_len 0 claimed) = subst (λ (l : List ℕ). SameItems l (range_with_len 0 claimed)) numbers items in
      record {
        numbers = map drawn_in run;
        claimed = claimed;
        once = once;
        all = λ calm. all-claimed (in_all (map drawn_in run)) claimed lot.count once (some-past lot run (omega (arith, some, long)) end (calm-before run (subst (λ (l : List (Lane O K)). All IsCalm l) new_is calm)));
        took = subst (λ (l : List (Lane O K)). AllTook op sink ss limit lot (map drawn_in run) old l) (sym new_is) (all-took op sink ss limit lot t old run long each);
      }

module _ {O K : Type 0} where
  pub calm-none : (lanes : List (Lane O K)) → All IsCalm lanes → first_refused lanes ≡ None
  calm-none [] h = refl
  calm-none (x ∷ lanes) h = rw (h 0 x (omega arith), calm-none lanes (λ i d less. h (suc i) d (omega arith))) refl

  pub tells-none : (lanes : List (Lane O K)) (r : LaneFault) → All IsCalm lanes → TellsFirst lanes r
  tells-none lanes r h = rw (calm-none lanes h) tt

  pub tells-some : (lanes : List (Lane O K)) (r : LaneFault) → first_refused lanes ≡ Some r → TellsFirst lanes r
  tells-some lanes r e = rw e refl

-- what follows from a round
module _ {O S K B C : Type 0} (op : OperatorWords O S) (sink : SinkWords K B C) (ss : List S) (limit : ℕ) (lot : Lot) (old new : List (Lane O K)) (is : IsLot lot) (done : Drawn op sink ss limit lot old new) where
  pub round-same : DoTheSame op sink old new
  round-same = took-same op sink ss limit lot done.numbers old new done.took

  pub round-dealt : All IsCalm new → Dealt op sink ss limit lot old new
  round-dealt calm = dealt op sink ss limit lot is done.numbers old new done.claimed done.took done.once (done.all calm)

  module _ (like : AreAlike op lot.from ss old) (fit : All (IsFit op sink ss limit lot.from) old) (some : 0 < length old) where
    abbrev all_works : List Work
    all_works = works_in op lot.from ss old

    abbrev serve : All (λ (lane : Lane O K). AllServe op (lane_operators lane) ss) old
    serve = λ i d less. (fit i d less).serve

    went-any : (nss : List (List ℕ)) (xs ys : List (Lane O K)) → 0 < length xs → AllTook op sink ss limit lot nss xs ys → All (IsLike op lot.from ss all_works (nodes_in old)) xs → All (λ (lane : Lane O K). AllServe op (lane_operators lane) ss) xs → All IsCalm ys
        → Went all_works (acts_in op xs) (acts_in op ys) (counts_in xs) (counts_in ys) (flat_map (lot.rows) (in_all nss)) (flat_map (held_in sink.held) xs) (flat_map (held_in sink.held) ys)
    went-any nss [] ys lt h l s c = absurd (omega arith)
    went-any [] (x ∷ xs) ys lt h l s c = absurd h
    went-any (ns ∷ nss) (x ∷ xs) [] lt h l s c = absurd h
    went-any (ns ∷ nss) (x ∷ xs) (y ∷ ys) lt h l s c = took-went op sink ss limit lot all_works (nodes_in old) ns nss x y xs ys h l s c

    pub round-went : All IsCalm new → WentAll op sink ss lot.from (rows_of_lot lot) old new
    round-went calm =
        let rows = rows-all lot.rows lot.count is.no_rows (in_all done.numbers) done.claimed done.once (done.all calm) in
        went-same all_works _ _ _ _ _ _ _ _ rows (went-any done.numbers old new some done.took like serve calm)

    over-any : (nss : List (List ℕ)) (xs ys : List (Lane O K)) (r : LaneFault) → 0 < length xs → AllTook op sink ss limit lot nss xs ys → All (IsLike op lot.from ss all_works (nodes_in old)) xs → All (λ (lane : Lane O K). AllServe op (lane_operators lane) ss) xs → All IsCalm xs → first_refused ys ≡ Some r
        → IsOver limit all_works (acts_in op xs) (acts_in op ys) (counts_in xs) (nodes_in old) (flat_map (lot.rows) (in_all nss)) r
    over-any nss [] ys r lt h l s c e = absurd (omega arith)
    over-any [] (x ∷ xs) ys r lt h l s c e = absurd h
    over-any (ns ∷ nss) (x ∷ xs) [] r lt h l s c e = absurd h
    over-any (ns ∷ nss) (x ∷ xs) (y ∷ ys) r lt h l s c e = took-over op sink ss limit lot all_works (nodes_in old) ns nss x y xs ys r h l s c e

    pub round-over : (r : LaneFault) → All IsCalm old → first_refused new ≡ Some r → IsOverIn op ss limit lot.from (rows_of_lot lot) old new r
    round-over r calm e =
        over-part limit all_works _ _ _ _ _ (rows_of_lot lot) r (claimed-within lot.rows lot.count is.no_rows (in_all done.numbers) done.claimed done.once) (over-any done.numbers old new r some done.took like serve calm e)

    pub round-alike : AreAlike op lot.from ss new
    round-alike = alike-after op sink lot.from ss old new round-same like

    -- a sum that passes the limit
    pub round-sum-over : (r : LaneFault) → All IsCalm new → Tells limit (counts_in new) (nodes_in new) r → IsOverIn op ss limit lot.from (rows_of_lot lot) old new r
    round-sum-over r calm told =
        over-whole limit all_works _ _ _ _ _ _ _ _ r (round-went calm) (rw (same-nodes-in op sink lot.from ss old new round-same) at told)

-- no lane took anything
pub round-none : {O S K : Type 0} (op : OperatorWords O S) (ss : List S) (limit : ℕ) (from : List Field) (rows : List Row) (lanes : List (Lane O K)) → 0 < length lanes → AreAlike op from ss lanes → All (λ (lane : Lane O K). AllServe op (lane_operators lane) ss) lanes → IsOverIn op ss limit from rows lanes lanes Memory
round-none op ss limit from rows lanes some like serve = over-none limit _ _ _ _ rows (lanes-acts-length op ss from lanes some like serve)

-- the rows of all chunks
pub all-chunks-went : {O S K B C : Type 0} (op : OperatorWords O S) (sink : SinkWords K B C) (ss : List S) (ms : List Morsel) (old new : List (Lane O K)) → WentAll op sink ss (schema_in ms) (rows_of_lot (chunks_lot ms)) old new → WentAll op sink ss (schema_in ms) (rows_of_all ms) old new
all-chunks-went op sink ss ms old new h = subst (λ (rows : List Row). WentAll op sink ss (schema_in ms) rows old new) (chunks-rows ms) h

pub all-chunks-over : {O S K : Type 0} (op : OperatorWords O S) (ss : List S) (limit : ℕ) (ms : List Morsel) (old new : List (Lane O K)) (r : LaneFault) → IsOverIn op ss limit (schema_in ms) (rows_of_lot (chunks_lot ms)) old new r → IsOverIn op ss limit (schema_in ms) (rows_of_all ms) old new r
all-chunks-over op ss limit ms old new r h = subst (λ (rows : List Row). IsOverIn op ss limit (schema_in ms) rows old new r) (chunks-rows ms) h

-- the rows of all partitions
module _ {S : Type 0} (parts : S → ℕ) (part_of : S → ℕ → List Row) where
  pub all-parts-went : {O K B C : Type 0} (op : OperatorWords O S) (sink : SinkWords K B C) (ss : List S) (from : List Field) (s : S) (old new : List (Lane O K)) → WentAll op sink ss from (rows_of_lot (parts_lot parts part_of from s)) old new → WentAll op sink ss from (rows_of_parts parts part_of s) old new
  all-parts-went op sink ss from s old new h = subst (λ (rows : List Row). WentAll op sink ss from rows old new) (parts-rows parts part_of from s) h

  pub all-parts-over : {O K : Type 0} (op : OperatorWords O S) (ss : List S) (limit : ℕ) (from : List Field) (s : S) (old new : List (Lane O K)) (r : LaneFault) → IsOverIn op ss limit from (rows_of_lot (parts_lot parts part_of from s)) old new r → IsOverIn op ss limit from (rows_of_parts parts part_of s) old new r
  all-parts-over op ss limit from s old new r h = subst (λ (rows : List Row). IsOverIn op ss limit from rows old new r) (parts-rows parts part_of from s) h

-- what holds in any case
pub always : {T E : Type 0} {X : Type 0} (r : Result T E) → X → IfOk r (λ _. X)
always (Ok value) x = x
always (Err error) x = tt

pub refused : {T E : Type 0} (r : Result T E) (P : E → Type 0) → ((e : E) → P e) → IfErr r P
refused (Ok value) P h = tt
refused (Err error) P h = h error
