-- Lanes that were opened, with the seats that they took.
use Rattle.std.proofs.Common.{◌≡◌, ℕ, zero, suc, ◌+◌, ◌<◌, ◌≤◌, List, [], ◌∷◌, ◌++◌, length, get_or, Option, Some, None, map, refl, ap, sym, ◌∙◌, subst, arith, append_assoc, length-append}
use Rattle.std.specs.List.{All, AllByRecursion, flat_map}
use Rattle.pipe_schema.specs.declared.field.Field.{Field}
use Rattle.pipe_ops.specs.declared.sink.Sink.{Ghosts as SinkWords}
use Rattle.pipe_chain.specs.Flags.{SeatMarks}
use Rattle.pipe_chain.specs.Chain.{works_of, acts_of as acts_list, IsChain, AllServe}
use Rattle.pipe_chain.specs.Counts.{AllWithin, plus}
use Rattle.pipe_chain.specs.Flow.{Work, Acts, added}
use Rattle.pipe_chain.specs.declared.operator.Operator.{Ghosts as OperatorWords}
use Rattle.pipe_outer.specs.Marking.{seat_acts}
use Rattle.pipe_run.specs.declared.lane.Lane.{Lane}
use Rattle.pipe_run.specs.declared.stage.SinkStage.{SinkStage}
use Rattle.pipe_run.specs.declared.stage.Stage.{Stage}
use Rattle.pipe_run.specs.Dealt.{AreAlike, works_in, nodes_in, acts_in, counts_in}
use Rattle.pipe_run.specs.Lanes.{lane_operators, lane_works, lane_acts, lane_counts, lane_nodes, held_in, IsCalm, IsFit, IsSet}
use Rattle.pipe_run.specs.Opens.{IsSplit}
use Rattle.pipe_run.specs.Stages.{operators_of, nodes_of, counts}
use Rattle.pipe_passage.specs.Passages.{phys_words, schemas_of, GivesSchemas, acts_now, IsPassing, HasOpened}
use Rattle.pipe_run.specs.Notes.{HasNothing}
use Rattle.pipe_slots.specs.PhysWords.{output_of, work_of, acts_of, idle_of}
use Rattle.pipe_passage.specs.LaneSeats.{HaveMore, HasMore, HaveSeats, HasSeats, all_back, sum_of, AllSameActs, AllRest, AreOpen, StagesOpened, LaneOpened, LanesOpened}
use Rattle.pipe_slots.specs.declared.phys_operator.PhysOperator.{PhysOperator}
use Rattle.pipe_slots.specs.declared.slot.Slot.{Slot}
use Rattle.pipe_slots.specs.declared.slot.Slot.TheVariants.{Empty, Keys, Rows, Full, Spent}
use Rattle.pipe_outer.specs.declared.marks.Marks.{Marks}
use Rattle.pipe_outer.specs.declared.marks.Marks.TheVariants as marks
use Rattle.pipe_passage.proofs.Sums.{all-same-refl, added-nil, back-sums, same-trans, same-beside}

module _ {H : Type 0} (hash_of : H → List ℕ → ℕ) where
  abbrev words : OperatorWords (PhysOperator H) (Slot H)
  words = phys_words hash_of

  abbrev Seats : Type 0
  Seats = List (Option SeatMarks)

  abbrev Steps : Type 0
  Steps = List (Stage (PhysOperator H))

  pub open-works : (schema : List Field) (ss : List (Slot H)) (took : Seats) (from made : Steps) → AreOpen ss took from made → works_of words schema (operators_of made) ss ≡ works_of words schema (operators_of from) ss
  open-works schema [] [] [] [] h = refl
  open-works schema [] [] [] (b ∷ made) h = absurd h
  open-works schema [] [] (a ∷ from) made h = absurd h
  open-works schema [] (o ∷ os) from made h = absurd h
  open-works schema (s ∷ ss) [] from made h = absurd h
  open-works schema (s ∷ ss) (o ∷ os) [] made h = absurd h
  open-works schema (s ∷ ss) (o ∷ os) (a ∷ from) [] h = absurd h
  open-works schema (s ∷ ss) (o ∷ os) (a ∷ from) (b ∷ made) h =
      ap (λ (w : List Field → Slot H → Work). w schema s ∷ works_of words (output_of b.operator schema) (operators_of made) ss) h.0.one.work
      ∙ ap (λ (g : List Field → List Field). work_of a.operator schema s ∷ works_of words (g schema) (operators_of made) ss) h.0.one.output
      ∙ ap (λ l. work_of a.operator schema s ∷ l) (open-works (output_of a.operator schema) ss os from made h.1)

  open-chain : (schema end : List Field) (ss : List (Slot H)) (took : Seats) (from made : Steps) → AreOpen ss took from made → IsChain words schema (operators_of from) end → IsChain words schema (operators_of made) end
  open-chain schema end [] [] [] [] h p = p
  open-chain schema end [] [] [] (b ∷ made) h p = absurd h
  open-chain schema end [] [] (a ∷ from) made h p = absurd h
  open-chain schema end [] (o ∷ os) from made h p = absurd h
  open-chain schema end (s ∷ ss) [] from made h p = absurd h
  open-chain schema end (s ∷ ss) (o ∷ os) [] made h p = absurd h
  open-chain schema end (s ∷ ss) (o ∷ os) (a ∷ from) [] h p = absurd h
  open-chain schema end (s ∷ ss) (o ∷ os) (a ∷ from) (b ∷ made) h p =
      (h.0.one.takes schema p.0, subst (λ (g : List Field → List Field). IsChain words (g schema) (operators_of made) end) (sym h.0.one.output) (open-chain (output_of a.operator schema) end ss os from made h.1 p.1))

  open-serve : (ss : List (Slot H)) (took : Seats) (from made : Steps) → AreOpen ss took from made → AllServe words (operators_of made) ss
  open-serve [] [] [] [] h = tt
  open-serve [] [] [] (b ∷ made) h = absurd h
  open-serve [] [] (a ∷ from) made h = absurd h
  open-serve [] (o ∷ os) from made h = absurd h
  open-serve (s ∷ ss) [] from made h = absurd h
  open-serve (s ∷ ss) (o ∷ os) [] made h = absurd h
  open-serve (s ∷ ss) (o ∷ os) (a ∷ from) [] h = absurd h
  open-serve (s ∷ ss) (o ∷ os) (a ∷ from) (b ∷ made) h =
      (record { suits = h.0.one.suits; seated = h.0.one.seated }, open-serve ss os from made h.1)

  open-idle : (ss : List (Slot H)) (took : Seats) (from made : Steps) → AreOpen ss took from made → AllByRecursion idle_of (operators_of made)
  open-idle [] [] [] [] h = tt
  open-idle [] [] [] (b ∷ made) h = absurd h
  open-idle [] [] (a ∷ from) made h = absurd h
  open-idle [] (o ∷ os) from made h = absurd h
  open-idle (s ∷ ss) [] from made h = absurd h
  open-idle (s ∷ ss) (o ∷ os) [] made h = absurd h
  open-idle (s ∷ ss) (o ∷ os) (a ∷ from) [] h = absurd h
  open-idle (s ∷ ss) (o ∷ os) (a ∷ from) (b ∷ made) h = (h.0.one.idle, open-idle ss os from made h.1)

  open-acts : (ss : List (Slot H)) (took : Seats) (from made : Steps) → AreOpen ss took from made → map acts_of (operators_of made) ≡ map seat_acts took
  open-acts [] [] [] [] h = refl
  open-acts [] [] [] (b ∷ made) h = absurd h
  open-acts [] [] (a ∷ from) made h = absurd h
  open-acts [] (o ∷ os) from made h = absurd h
  open-acts (s ∷ ss) [] from made h = absurd h
  open-acts (s ∷ ss) (o ∷ os) [] made h = absurd h
  open-acts (s ∷ ss) (o ∷ os) (a ∷ from) [] h = absurd h
  open-acts (s ∷ ss) (o ∷ os) (a ∷ from) (b ∷ made) h =
      ap (λ (x : Acts). x ∷ map acts_of (operators_of made)) h.0.one.acts
      ∙ ap (λ l. seat_acts o ∷ l) (open-acts ss os from made h.1)

  open-length : (ss : List (Slot H)) (took : Seats) (from made : Steps) → AreOpen ss took from made → length took ≡ length ss
  open-length [] [] [] [] h = refl
  open-length [] [] [] (b ∷ made) h = absurd h
  open-length [] [] (a ∷ from) made h = absurd h
  open-length [] (o ∷ os) from made h = absurd h
  open-length (s ∷ ss) [] from made h = absurd h
  open-length (s ∷ ss) (o ∷ os) [] made h = absurd h
  open-length (s ∷ ss) (o ∷ os) (a ∷ from) [] h = absurd h
  open-length (s ∷ ss) (o ∷ os) (a ∷ from) (b ∷ made) h = ap suc (open-length ss os from made h.1)

  open-schemas : (schema : List Field) (ss : List (Slot H)) (took : Seats) (from made : Steps) → AreOpen ss took from made → schemas_of schema (operators_of made) ≡ schemas_of schema (operators_of from)
  open-schemas schema [] [] [] [] h = refl
  open-schemas schema [] [] [] (b ∷ made) h = absurd h
  open-schemas schema [] [] (a ∷ from) made h = absurd h
  open-schemas schema [] (o ∷ os) from made h = absurd h
  open-schemas schema (s ∷ ss) [] from made h = absurd h
  open-schemas schema (s ∷ ss) (o ∷ os) [] made h = absurd h
  open-schemas schema (s ∷ ss) (o ∷ os) (a ∷ from) [] h = absurd h
  open-schemas schema (s ∷ ss) (o ∷ os) (a ∷ from) (b ∷ made) h =
      ap (λ (g : List Field → List Field). g schema ∷ schemas_of (g schema) (operators_of made)) h.0.one.output
      ∙ ap (λ l. output_of a.operator schema ∷ l) (open-schemas (output_of a.operator schema) ss os from made h.1)

  module _ {K : Type 0} where
    open-nodes : (a₀ b₀ : SinkStage K) → b₀.node ≡ a₀.node → (ss : List (Slot H)) (took : Seats) (from made : Steps) → AreOpen ss took from made → nodes_of made b₀ ≡ nodes_of from a₀
    open-nodes a₀ b₀ e [] [] [] [] h = ap (λ (n : ℕ). n ∷ []) e
    open-nodes a₀ b₀ e [] [] [] (b ∷ made) h = absurd h
    open-nodes a₀ b₀ e [] [] (a ∷ from) made h = absurd h
    open-nodes a₀ b₀ e [] (o ∷ os) from made h = absurd h
    open-nodes a₀ b₀ e (s ∷ ss) [] from made h = absurd h
    open-nodes a₀ b₀ e (s ∷ ss) (o ∷ os) [] made h = absurd h
    open-nodes a₀ b₀ e (s ∷ ss) (o ∷ os) (a ∷ from) [] h = absurd h
    open-nodes a₀ b₀ e (s ∷ ss) (o ∷ os) (a ∷ from) (b ∷ made) h =
        ap (λ (n : ℕ). n ∷ nodes_of made b₀) h.0.node
        ∙ ap (λ l. a.node ∷ l) (open-nodes a₀ b₀ e ss os from made h.1)

    open-within : (limit : ℕ) (b₀ : SinkStage K) → b₀.given ≡ 0 → (ss : List (Slot H)) (took : Seats) (from made : Steps) → AreOpen ss took from made → AllWithin limit (counts made b₀)
    open-within limit b₀ e [] [] [] [] h = (omega (arith, e), tt)
    open-within limit b₀ e [] [] [] (b ∷ made) h = absurd h
    open-within limit b₀ e [] [] (a ∷ from) made h = absurd h
    open-within limit b₀ e [] (o ∷ os) from made h = absurd h
    open-within limit b₀ e (s ∷ ss) [] from made h = absurd h
    open-within limit b₀ e (s ∷ ss) (o ∷ os) [] made h = absurd h
    open-within limit b₀ e (s ∷ ss) (o ∷ os) (a ∷ from) [] h = absurd h
    open-within limit b₀ e (s ∷ ss) (o ∷ os) (a ∷ from) (b ∷ made) h = (omega (arith, h.0.given), open-within limit b₀ e ss os from made h.1)

-- as many seats, stage by stage, as slots
pub rest-length : {H : Type 0} (n : ℕ) (ss : List (Slot H)) (vs : List (List SeatMarks)) → AllRest n ss vs → length vs ≡ length ss
rest-length n [] [] h = refl
rest-length n [] (v ∷ vs) h = absurd h
rest-length n (s ∷ ss) [] h = absurd h
rest-length n (s ∷ ss) (v ∷ vs) h = ap suc (rest-length n ss vs h.1)

back-length : (took : List (Option SeatMarks)) (vs : List (List SeatMarks)) → length took ≡ length (all_back took vs) → length vs ≡ length took
back-length [] vs e = sym e
back-length (o ∷ os) [] e = absurd (omega arith)
back-length (o ∷ os) (v ∷ vs) e = ap suc (back-length os vs (omega arith))

-- none is past 0, and none past any limit
pub within-any : (limit : ℕ) (ns : List ℕ) → AllWithin 0 ns → AllWithin limit ns
within-any limit [] h = tt
within-any limit (n ∷ ns) h = (omega (arith, h.0), within-any limit ns h.1)

within-plus : (limit : ℕ) (ns ms : List ℕ) → AllWithin 0 ns → AllWithin 0 ms → AllWithin limit (plus ns ms)
within-plus limit [] ms h k = within-any limit ms k
within-plus limit (n ∷ ns) [] h k = within-any limit (n ∷ ns) h
within-plus limit (n ∷ ns) (m ∷ ms) h k = (omega (arith, h.0, k.0), within-plus limit ns ms h.1 k.1)

module _ {H K B C : Type 0} (hash_of : H → List ℕ → ℕ) (sink : SinkWords K B C) (ss : List (Slot H)) (stages : List (Stage (PhysOperator H))) (target : SinkStage K) where
  abbrev Opened : (before after' : List (List SeatMarks)) → Lane (PhysOperator H) K → Type 0
  Opened before after' lane = LaneOpened sink ss before after' stages target lane

  abbrev AllOpened : (before after' : List (List SeatMarks)) → List (Lane (PhysOperator H) K) → Type 0
  AllOpened before after' lanes = LanesOpened sink ss before after' stages target lanes

  -- ---- lanes are put one behind another

  pub opened-more : (before mid after' : List (List SeatMarks)) (lanes : List (Lane (PhysOperator H) K)) (lane : Lane (PhysOperator H) K) → AllOpened before mid lanes → Opened mid after' lane → AllOpened before after' (lanes ++ lane ∷ [])
  opened-more before mid after' [] lane h one = (after', subst (λ (v : List (List SeatMarks)). Opened v after' lane) (sym h) one, refl)
  opened-more before mid after' (x ∷ lanes) lane h one = (h.0, h.1, opened-more h.0 mid after' lanes lane h.2 one)

  -- ---- what holds of each

  each-lane : (P : Lane (PhysOperator H) K → Type 0) → ((before after' : List (List SeatMarks)) (x : Lane (PhysOperator H) K) → Opened before after' x → P x) → (before after' : List (List SeatMarks)) (lanes : List (Lane (PhysOperator H) K)) → AllOpened before after' lanes → All P lanes
  each-lane P f before after' [] h i d less = absurd (omega (arith, less))
  each-lane P f before after' (x ∷ lanes) h zero d less = f before h.0 x h.1
  each-lane P f before after' (x ∷ lanes) h (suc i) d less = each-lane P f h.0 after' lanes h.2 i d (omega (arith, less))

  each-in-turn : (P : Lane (PhysOperator H) K → Type 0) → ((before after' : List (List SeatMarks)) (x : Lane (PhysOperator H) K) → Opened before after' x → P x) → (before after' : List (List SeatMarks)) (lanes : List (Lane (PhysOperator H) K)) → AllOpened before after' lanes → AllByRecursion P lanes
  each-in-turn P f before after' [] h = tt
  each-in-turn P f before after' (x ∷ lanes) h = (f before h.0 x h.1, each-in-turn P f h.0 after' lanes h.2)

  lane-opened-works : (from : List Field) (before after' : List (List SeatMarks)) (x : Lane (PhysOperator H) K) → Opened before after' x → lane_works (phys_words hash_of) from ss x ≡ works_of (phys_words hash_of) from (operators_of stages) ss
  lane-opened-works from before after' x h = open-works hash_of from ss h.took stages x.stages.items h.each

  lane-opened-nodes : (before after' : List (List SeatMarks)) (x : Lane (PhysOperator H) K) → Opened before after' x → lane_nodes x ≡ nodes_of stages target
  lane-opened-nodes before after' x h = open-nodes hash_of target x.target h.node ss h.took stages x.stages.items h.each

  lane-opened-fit : (limit : ℕ) (from : List Field) → IsChain (phys_words hash_of) from (operators_of stages) (sink.schema target.sink) → (before after' : List (List SeatMarks)) (x : Lane (PhysOperator H) K) → Opened before after' x → IsFit (phys_words hash_of) sink ss limit from x
  lane-opened-fit limit from chain before after' x h = record {
    serve = open-serve hash_of ss h.took stages x.stages.items h.each;
    chain = subst (λ (end : List Field). IsChain (phys_words hash_of) from (lane_operators x) end) (sym h.own.schema) (open-chain hash_of from (sink.schema target.sink) ss h.took stages x.stages.items h.each chain);
    still = λ e. open-idle hash_of ss h.took stages x.stages.items h.each;
    within = λ e. open-within hash_of limit x.target h.given ss h.took stages x.stages.items h.each;
    room = λ e. omega (arith, ap length h.own.empty);
  }

  first-works : (from : List Field) (before after' : List (List SeatMarks)) (lanes : List (Lane (PhysOperator H) K)) → 0 < length lanes → AllOpened before after' lanes → works_in (phys_words hash_of) from ss lanes ≡ works_of (phys_words hash_of) from (operators_of stages) ss
  first-works from before after' [] some h = absurd (omega arith)
  first-works from before after' (x ∷ lanes) some h = lane-opened-works from before h.0 x h.1

  first-nodes : (before after' : List (List SeatMarks)) (lanes : List (Lane (PhysOperator H) K)) → 0 < length lanes → AllOpened before after' lanes → nodes_in lanes ≡ nodes_of stages target
  first-nodes before after' [] some h = absurd (omega arith)
  first-nodes before after' (x ∷ lanes) some h = lane-opened-nodes before h.0 x h.1

  all-alike : (from : List Field) (before after' : List (List SeatMarks)) (lanes : List (Lane (PhysOperator H) K)) → 0 < length lanes → AllOpened before after' lanes → AreAlike (phys_words hash_of) from ss lanes
  all-alike from before after' lanes some h = each-lane (λ (x : Lane (PhysOperator H) K). (lane_works (phys_words hash_of) from ss x ≡ works_in (phys_words hash_of) from ss lanes) × (lane_nodes x ≡ nodes_in lanes))
      (λ u v x one. (lane-opened-works from u v x one ∙ sym (first-works from before after' lanes some h), lane-opened-nodes u v x one ∙ sym (first-nodes before after' lanes some h)))
      before after' lanes h

  all-within : (before after' : List (List SeatMarks)) (lanes : List (Lane (PhysOperator H) K)) → AllOpened before after' lanes → AllWithin 0 (counts_in lanes)
  all-within before after' [] h = tt
  all-within before after' (x ∷ lanes) h =
      within-plus 0 (lane_counts x) (counts_in lanes) (open-within hash_of 0 x.target h.1.given ss h.1.took stages x.stages.items h.1.each) (all-within h.0 after' lanes h.2)

  all-empty : (before after' : List (List SeatMarks)) (lanes : List (Lane (PhysOperator H) K)) → AllOpened before after' lanes → flat_map (held_in sink.held) lanes ≡ []
  all-empty before after' [] h = refl
  all-empty before after' (x ∷ lanes) h = rw (h.1.own.empty, all-empty h.0 after' lanes h.2) refl

  -- ---- seats

  lane-sums : (before after' : List (List SeatMarks)) (x : Lane (PhysOperator H) K) → Opened before after' x → length before ≡ length ss → AllSameActs (map sum_of before) (added (map sum_of after') (lane_acts (phys_words hash_of) x))
  lane-sums before after' x h long =
      let took : length h.took ≡ length ss = open-length hash_of ss h.took stages x.stages.items h.each in
      let back : length after' ≡ length h.took = back-length h.took after' (took ∙ sym long ∙ ap length h.seats) in
      let acts : lane_acts (phys_words hash_of) x ≡ map seat_acts h.took = open-acts hash_of ss h.took stages x.stages.items h.each in
      rw (h.seats, acts) (back-sums h.took after' (sym back))

  pub all-sums : (before after' : List (List SeatMarks)) (lanes : List (Lane (PhysOperator H) K)) → length before ≡ length ss → AllOpened before after' lanes → AllSameActs (map sum_of before) (acts_now hash_of lanes after')
  all-sums before after' [] long h = rw (added-nil (map sum_of after')) (subst (λ (v : List (List SeatMarks)). AllSameActs (map sum_of before) (map sum_of v)) h (all-same-refl (map sum_of before)))
  all-sums before after' (x ∷ lanes) long h =
      let one = lane-sums before h.0 x h.1 long in
      let took : length h.1.took ≡ length ss = open-length hash_of ss h.1.took stages x.stages.items h.1.each in
      let mid : length h.0 ≡ length ss = back-length h.1.took h.0 (took ∙ sym long ∙ ap length h.1.seats) ∙ took in
      same-trans _ _ _ one (same-beside (map sum_of h.0) (map sum_of after') (acts_in (phys_words hash_of) lanes) (lane_acts (phys_words hash_of) x) (all-sums h.0 after' lanes mid h.2))

  -- ---- all of it

  module _ (limit : ℕ) (before after' : List (List SeatMarks)) (lanes : List (Lane (PhysOperator H) K)) (some : 0 < length lanes) (few : length lanes ≤ 256) (all : AllOpened before after' lanes) (rest : AllRest (length lanes) ss after') (long : length before ≡ length ss) where
    gives-all : (from : List Field) → All (GivesSchemas from (schemas_of from (operators_of stages))) lanes
    gives-all from = each-lane (GivesSchemas from (schemas_of from (operators_of stages))) (λ u v x one. open-schemas hash_of from ss one.took stages x.stages.items one.each) before after' lanes all

    passing-from : (from : List Field) → IsChain (phys_words hash_of) from (operators_of stages) (sink.schema target.sink) → IsPassing hash_of sink limit from lanes ss after'
    passing-from from chain = record {
      some = some;
      few = few;
      alike = all-alike from before after' lanes some all;
      calm = each-lane IsCalm (λ u v x one. one.calm) before after' lanes all;
      fit = each-lane (IsFit (phys_words hash_of) sink ss limit from) (lane-opened-fit limit from chain) before after' lanes all;
      within = within-any limit (counts_in lanes) (all-within before after' lanes all);
      schemas = schemas_of from (operators_of stages);
      gives = gives-all from;
      rest = rest;
      noted_none = each-in-turn HasNothing (λ u v x one. one.entries) before after' lanes all;
    }

    pub has-opened : HasOpened hash_of sink limit stages target ss before after' lanes
    has-opened = record {
      passing = passing-from;
      works = λ from. first-works from before after' lanes some all;
      nodes = first-nodes before after' lanes some all;
      acts = all-sums before after' lanes long all;
      within = all-within before after' lanes all;
      empty = all-empty before after' lanes all;
      settings = each-lane (IsSet sink.setting (sink.setting target.sink)) (λ u v x one. one.own.setting) before after' lanes all;
      schemas = each-lane (IsSet sink.schema (sink.schema target.sink)) (λ u v x one. one.own.schema) before after' lanes all;
      gives = each-lane (IsSet sink.gives (sink.gives target.sink)) (λ u v x one. one.own.gives) before after' lanes all;
      noted_none = each-in-turn HasNothing (λ u v x one. one.entries) before after' lanes all;
      gives_all = gives-all;
    }

-- a lane over stages that were opened
pub lane-opened : {H K B C : Type 0} (sink : SinkWords K B C) (ss : List (Slot H)) (before after' : List (List SeatMarks)) (stages : List (Stage (PhysOperator H))) (target : SinkStage K) (lane : Lane (PhysOperator H) K) (old : List (Stage (PhysOperator H))) → old ≡ [] → StagesOpened ss before after' stages old lane.stages.items
    → IsSplit sink target.sink lane.target.sink → lane.target.node ≡ target.node → lane.target.given ≡ 0 → lane.flushers.items ≡ [] → lane.entries.items ≡ [] → IsCalm lane → LaneOpened sink ss before after' stages target lane
lane-opened sink ss before after' stages target lane old none h own node given flushers entries calm = record {
  took = h.took;
  seats = h.seats;
  each = subst (λ (made : List (Stage (PhysOperator _))). AreOpen ss h.took stages made) (sym (h.pushed ∙ ap (λ l. l ++ h.made) none)) h.each;
  own = own;
  node = node;
  given = given;
  flushers = flushers;
  entries = entries;
  calm = calm;
}

-- ---- seats for lanes

open_more : (k n : ℕ) → k < n → (m : Marks) → HaveSeats n m → HaveMore k m
open_more k n less (marks.Running f) h = omega (arith, less, h)
open_more k n less (marks.Closed f) h = absurd h

more-one : {H : Type 0} (k n : ℕ) → k < n → (slot : Slot H) → HasSeats n slot → HasMore k slot
more-one k n less Empty h = tt
more-one k n less (Keys t) h = tt
more-one k n less (Rows f) h = tt
more-one k n less (Full t) h = open_more k n less t.marks h
more-one k n less Spent h = tt

-- there is a seat for the next lane
pub more-of : {H : Type 0} (k n : ℕ) → k < n → (ss : List (Slot H)) → AllByRecursion (HasSeats n) ss → AllByRecursion (HasMore k) ss
more-of k n less [] h = tt
more-of k n less (s ∷ ss) h = (more-one k n less s h.0, more-of k n less ss h.1)
