-- Lanes that were split from the same stages and the same sink.
use Rattle.std.proofs.Common.{◌≡◌, ℕ, zero, suc, ◌+◌, ◌<◌, List, [], ◌∷◌, ◌++◌, length, get_or, take, add-one, refl, ap, sym, ◌∙◌, subst, arith}
use Rattle.std.specs.List.{All, AllByRecursion, flat_map}
use Rattle.std.proofs.lemmas.List.Elements.{All-append}
use Rattle.std.proofs.Math.Seq.{take-suc}
use Rattle.pipe_schema.specs.declared.field.Field.{Field}
use Rattle.pipe_ops.specs.declared.sink.Sink.{Ghosts as SinkWords}
use Rattle.pipe_chain.specs.Flow.{Work, no_acts, nothing, added}
use Rattle.pipe_chain.specs.Chain.{works_of, acts_of, IsChain, AllServe, AllSuit, AllSeated}
use Rattle.pipe_chain.specs.Counts.{AllWithin, plus}
use Rattle.pipe_chain.specs.declared.operator.Operator.{Ghosts as OperatorWords}
use Rattle.pipe_run.specs.declared.lane.Lane.{Lane}
use Rattle.pipe_run.specs.declared.stage.SinkStage.{SinkStage}
use Rattle.pipe_run.specs.declared.stage.Stage.{Stage}
use Rattle.pipe_run.specs.Stages.{operators_of, nodes_of, counts}
use Rattle.pipe_run.specs.Dealt.{AreAlike, works_in, nodes_in, acts_in, counts_in}
use Rattle.pipe_run.specs.Lanes.{lane_operators, lane_works, lane_counts, lane_nodes, held_in, IsCalm, IsFit, IsSet}
use Rattle.pipe_run.specs.Opens.{IsStageOf, AreSplit, IsOpened, IsFitSeated}

module _ {O S : Type 0} (op : OperatorWords O S) where
  -- one stage more
  split-push : (from made : List (Stage O)) (a b : Stage O) → AreSplit op from made → IsStageOf op a b → AreSplit op (from ++ (a ∷ [])) (made ++ (b ∷ []))
  split-push [] [] a b h one = (one, tt)
  split-push [] (y ∷ made) a b h one = absurd h
  split-push (x ∷ from) [] a b h one = absurd h
  split-push (x ∷ from) (y ∷ made) a b h one = (h.0, split-push from made a b h.1 one)

  pub split-more : (stages made made' : List (Stage O)) (i : ℕ) (a b : Stage O) → i < length stages → a ≡ get_or stages i a → made' ≡ made ++ (b ∷ []) → AreSplit op (take i stages) made → IsStageOf op a b → AreSplit op (take (i + 1) stages) made'
  split-more stages made made' i a b less is e h one =
      rw (add-one, take-suc stages i a less, ← is, e) (split-push (take i stages) made a b h one)

  split-works : (schema : List Field) (from made : List (Stage O)) (ss : List S) → AreSplit op from made → works_of op schema (operators_of made) ss ≡ works_of op schema (operators_of from) ss
  split-works schema [] [] ss h = refl
  split-works schema [] (y ∷ made) ss h = absurd h
  split-works schema (x ∷ from) [] ss h = absurd h
  split-works schema (x ∷ from) (y ∷ made) [] h = refl
  split-works schema (x ∷ from) (y ∷ made) (s ∷ ss) h =
      ap (λ (w : List Field → S → Work). w schema s ∷ works_of op (op.output y.operator schema) (operators_of made) ss) h.0.operator.work
      ∙ ap (λ (o : List Field → List Field). op.work x.operator schema s ∷ works_of op (o schema) (operators_of made) ss) h.0.operator.output
      ∙ ap (λ l. op.work x.operator schema s ∷ l) (split-works (op.output x.operator schema) from made ss h.1)

  split-chain : (schema end : List Field) (from made : List (Stage O)) → AreSplit op from made → IsChain op schema (operators_of from) end → IsChain op schema (operators_of made) end
  split-chain schema end [] [] h p = p
  split-chain schema end [] (y ∷ made) h p = absurd h
  split-chain schema end (x ∷ from) [] h p = absurd h
  split-chain schema end (x ∷ from) (y ∷ made) h p =
      (h.0.operator.takes schema p.0, subst (λ (o : List Field → List Field). IsChain op (o schema) (operators_of made) end) (sym h.0.operator.output) (split-chain (op.output x.operator schema) end from made h.1 p.1))

  -- they may work as soon as they have their seats
  split-serve : (from made : List (Stage O)) (ss : List S) → AreSplit op from made → AllSuit op (operators_of from) ss → AllSeated op (operators_of made) ss → AllServe op (operators_of made) ss
  split-serve [] [] [] h p q = tt
  split-serve [] [] (s ∷ ss) h p q = absurd p
  split-serve [] (y ∷ made) ss h p q = absurd h
  split-serve (x ∷ from) [] ss h p q = absurd h
  split-serve (x ∷ from) (y ∷ made) [] h p q = absurd p
  split-serve (x ∷ from) (y ∷ made) (s ∷ ss) h p q = (record { suits = h.0.operator.suits s p.0; seated = q.0 }, split-serve from made ss h.1 p.1 q.1)

  split-idle : (from made : List (Stage O)) → AreSplit op from made → AllByRecursion op.idle (operators_of made)
  split-idle [] [] h = tt
  split-idle [] (y ∷ made) h = absurd h
  split-idle (x ∷ from) [] h = absurd h
  split-idle (x ∷ from) (y ∷ made) h = (h.0.operator.idle, split-idle from made h.1)

  split-acts : (from made : List (Stage O)) → AreSplit op from made → acts_of op (operators_of made) ≡ nothing from
  split-acts [] [] h = refl
  split-acts [] (y ∷ made) h = absurd h
  split-acts (x ∷ from) [] h = absurd h
  split-acts (x ∷ from) (y ∷ made) h = rw (h.0.operator.acts, split-acts from made h.1) refl

  split-nodes : {K : Type 0} (from made : List (Stage O)) (a b : SinkStage K) → AreSplit op from made → b.node ≡ a.node → nodes_of made b ≡ nodes_of from a
  split-nodes [] [] a b h e = ap (λ (n : ℕ). n ∷ []) e
  split-nodes [] (y ∷ made) a b h e = absurd h
  split-nodes (x ∷ from) [] a b h e = absurd h
  split-nodes (x ∷ from) (y ∷ made) a b h e = rw (h.0.node, split-nodes from made a b h.1 e) refl

  split-within : {K : Type 0} (limit : ℕ) (from made : List (Stage O)) (b : SinkStage K) → AreSplit op from made → b.given ≡ 0 → AllWithin limit (counts made b)
  split-within limit [] [] b h e = (omega (arith, e), tt)
  split-within limit [] (y ∷ made) b h e = absurd h
  split-within limit (x ∷ from) [] b h e = absurd h
  split-within limit (x ∷ from) (y ∷ made) b h e = (omega (arith, h.0.given), split-within limit from made b h.1 e)

within-plus : (ns ms : List ℕ) → AllWithin 0 ns → AllWithin 0 ms → AllWithin 0 (plus ns ms)
within-plus [] ms h k = k
within-plus (n ∷ ns) [] h k = h
within-plus (n ∷ ns) (m ∷ ms) h k = (omega (arith, h.0, k.0), within-plus ns ms h.1 k.1)

nothing-left : {X : Type 0} (xs : List X) → added (nothing xs) [] ≡ nothing xs
nothing-left [] = refl
nothing-left (x ∷ xs) = refl

nothing-twice : {X : Type 0} (xs : List X) → added (nothing xs) (nothing xs) ≡ nothing xs
nothing-twice [] = refl
nothing-twice (x ∷ xs) = ap (λ l. no_acts ∷ l) (nothing-twice xs)

module _ {O S K B C : Type 0} (op : OperatorWords O S) (sink : SinkWords K B C) (stages : List (Stage O)) (target : SinkStage K) where
  abbrev Opened : Lane O K → Type 0
  Opened lane = IsOpened op sink stages target lane

  opened-fit : (ss : List S) (limit : ℕ) (from : List Field) (lane : Lane O K) → Opened lane → AllSuit op (operators_of stages) ss → IsChain op from (operators_of stages) (sink.schema target.sink) → AllSeated op (lane_operators lane) ss → IsFit op sink ss limit from lane
  opened-fit ss limit from lane h suits chain seated = record {
    serve = split-serve op stages lane.stages.items ss h.split suits seated;
    chain = subst (λ (end : List Field). IsChain op from (lane_operators lane) end) (sym h.own.schema) (split-chain op from (sink.schema target.sink) stages lane.stages.items h.split chain);
    still = λ e. split-idle op stages lane.stages.items h.split;
    within = λ e. split-within op limit stages lane.stages.items lane.target h.split h.given;
    room = λ e. omega (arith, ap length h.own.empty);
  }

  pub opened-fits : (ss : List S) (limit : ℕ) (lanes : List (Lane O K)) → All Opened lanes → AllSuit op (operators_of stages) ss → (from : List Field) → IsChain op from (operators_of stages) (sink.schema target.sink) → All (IsFitSeated op sink ss limit from) lanes
  opened-fits ss limit lanes h suits from chain = λ i d less. opened-fit ss limit from (get_or lanes i d) (h i d less) suits chain

  opened-works : (from : List Field) (ss : List S) (lane : Lane O K) → Opened lane → lane_works op from ss lane ≡ works_of op from (operators_of stages) ss
  opened-works from ss lane h = split-works op from stages lane.stages.items ss h.split

  opened-nodes : (lane : Lane O K) → Opened lane → lane_nodes lane ≡ nodes_of stages target
  opened-nodes lane h = split-nodes op stages lane.stages.items target lane.target h.split h.node

  pub opened-first : (ss : List S) (lanes : List (Lane O K)) → 0 < length lanes → All Opened lanes → (from : List Field) → works_in op from ss lanes ≡ works_of op from (operators_of stages) ss
  opened-first ss [] some h from = absurd (omega arith)
  opened-first ss (x ∷ lanes) some h from = opened-works from ss x (h 0 x (omega arith))

  pub opened-first-nodes : (lanes : List (Lane O K)) → 0 < length lanes → All Opened lanes → nodes_in lanes ≡ nodes_of stages target
  opened-first-nodes [] some h = absurd (omega arith)
  opened-first-nodes (x ∷ lanes) some h = opened-nodes x (h 0 x (omega arith))

  pub opened-alike : (ss : List S) (lanes : List (Lane O K)) → All Opened lanes → (from : List Field) → AreAlike op from ss lanes
  opened-alike ss lanes h from = λ i d less.
      let some : 0 < length lanes = omega (arith, less) in
      (opened-works from ss (get_or lanes i d) (h i d less) ∙ sym (opened-first ss lanes some h from), opened-nodes (get_or lanes i d) (h i d less) ∙ sym (opened-first-nodes lanes some h))

  pub opened-calm : (lanes : List (Lane O K)) → All Opened lanes → All IsCalm lanes
  opened-calm lanes h = λ i d less. (h i d less).calm

  pub opened-within : (lanes : List (Lane O K)) → All Opened lanes → AllWithin 0 (counts_in lanes)
  opened-within [] h = tt
  opened-within (x ∷ lanes) h =
      let one = h 0 x (omega arith) in
      within-plus (lane_counts x) (counts_in lanes) (split-within op 0 stages x.stages.items x.target one.split one.given) (opened-within lanes (λ i d less. h (suc i) d (omega arith)))

  acts-opened : (x : Lane O K) (lanes : List (Lane O K)) → All Opened (x ∷ lanes) → acts_in op (x ∷ lanes) ≡ nothing stages
  acts-opened x [] h = rw (split-acts op stages x.stages.items (h 0 x (omega arith)).split) (nothing-left stages)
  acts-opened x (y ∷ lanes) h =
      rw (split-acts op stages x.stages.items (h 0 x (omega arith)).split, acts-opened y lanes (λ i d less. h (suc i) d (omega arith))) (nothing-twice stages)

  pub opened-acts : (lanes : List (Lane O K)) → 0 < length lanes → All Opened lanes → acts_in op lanes ≡ nothing stages
  opened-acts [] some h = absurd (omega arith)
  opened-acts (x ∷ lanes) some h = acts-opened x lanes h

  pub opened-empty : (lanes : List (Lane O K)) → All Opened lanes → flat_map (held_in sink.held) lanes ≡ []
  opened-empty [] h = refl
  opened-empty (x ∷ lanes) h = rw ((h 0 x (omega arith)).own.empty, opened-empty lanes (λ i d less. h (suc i) d (omega arith))) refl

  pub opened-settings : (lanes : List (Lane O K)) → All Opened lanes → All (IsSet sink.setting (sink.setting target.sink)) lanes
  opened-settings lanes h = λ i d less. (h i d less).own.setting

  pub opened-schemas : (lanes : List (Lane O K)) → All Opened lanes → All (IsSet sink.schema (sink.schema target.sink)) lanes
  opened-schemas lanes h = λ i d less. (h i d less).own.schema

  pub opened-gives : (lanes : List (Lane O K)) → All Opened lanes → All (IsSet sink.gives (sink.gives target.sink)) lanes
  opened-gives lanes h = λ i d less. (h i d less).own.gives

-- one item more
pub all-pushed : {X : Type 0} (P : X → Type 0) (xs ys : List X) (x : X) → ys ≡ xs ++ x ∷ [] → All P xs → P x → All P ys
all-pushed P xs ys x e h one = subst (λ (l : List _). All P l) (sym e) (All-append P xs (x ∷ []) h (only P x one))
  where
    only : {X : Type 0} (P : X → Type 0) (x : X) → P x → All P (x ∷ [])
    only P x one zero d less = one
    only P x one (suc i) d less = absurd (omega (arith, less))
