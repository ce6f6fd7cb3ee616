-- What a lane did with some rows, and then with others.
use Rattle.std.proofs.Common.{◌≡◌, ℕ, ◌+◌, ◌≤◌, List, [], ◌∷◌, ◌++◌, length, Option, Some, None, refl, ap, sym, ◌∙◌, subst, arith, append-nil, length-append}
use Rattle.std.specs.List.{flat_map, AllByRecursion}
use Rattle.std.proofs.lemmas.List.Concat.{flat_map-append}
use Rattle.pipe_schema.specs.Rows.{Row, Same}
use Rattle.pipe_schema.specs.declared.field.Field.{Field}
use Rattle.std.specs.List.Sorted.{IsPermutation}
use Rattle.std.proofs.lemmas.List.Sorted.{sum_by-IsPermutation}
use Rattle.pipe_schema.specs.Weights.{total}
use Rattle.pipe_schema.proofs.Weights.{total-append, total-flat_map, total-sum_by}
use Rattle.pipe_ops.specs.declared.sink.Sink.{Ghosts as SinkWords}
use Rattle.pipe_chain.specs.Flow.{Work, Acts}
use Rattle.pipe_chain.specs.Chain.{IsChain, AllServe, SameWork}
use Rattle.pipe_chain.specs.Counts.{AllWithin, Went}
use Rattle.pipe_chain.specs.declared.operator.Operator.{Ghosts as OperatorWords}
use Rattle.pipe_chain.proofs.Weighing.{weighs, rows-by, rows-length}
use Rattle.pipe_run.specs.declared.stage.LaneFault.{LaneFault}
use Rattle.pipe_run.specs.declared.lane.Lane.{Lane}
use Rattle.pipe_run.specs.Lanes.{lane_operators, lane_works, lane_counts, held_in, IsCalm, IsFit, SameLane, Stopped, Ran}
use Rattle.pipe_run.proofs.Work.{work-refl, work-trans, work-works, work-chain, work-serve, acts-length}
use Rattle.pipe_run.proofs.Stages.{counts-length}
use Rattle.pipe_run.proofs.Limits.{went-none, went-trans, over-later}

module _ {O S K B C : Type 0} (op : OperatorWords O S) (sink : SinkWords K B C) where
  pub lane-refl : (a : Lane O K) → SameLane op sink a a
  lane-refl a = record { work = work-refl op _; nodes = refl; setting = refl; schema = refl; gives = refl }

  pub lane-trans : (a b c : Lane O K) → SameLane op sink a b → SameLane op sink b c → SameLane op sink a c
  lane-trans a b c h k = record {
    work = work-trans op _ _ _ h.work k.work;
    nodes = k.nodes ∙ h.nodes;
    setting = k.setting ∙ h.setting;
    schema = k.schema ∙ h.schema;
    gives = k.gives ∙ h.gives;
  }

  -- a lane that does the same does the same work
  pub lane-works : (from : List Field) (ss : List S) (a b : Lane O K) → SameLane op sink a b → lane_works op from ss b ≡ lane_works op from ss a
  lane-works from ss a b h = work-works op (lane_operators a) (lane_operators b) from ss h.work

module _ {O S K B C : Type 0} (op : OperatorWords O S) (sink : SinkWords K B C) (ss : List S) (limit : ℕ) (from : List Field) where
  abbrev Fit : Lane O K → Type 0
  Fit lane = IsFit op sink ss limit from lane

  abbrev Did : List Row → Lane O K → Lane O K → Type 0
  Did rows old new = Ran op sink ss limit from rows old new

  -- a lane after a chunk
  pub fit-after : (old new : Lane O K) → Fit old → SameWork op (lane_operators old) (lane_operators new) → sink.schema new.target.sink ≡ sink.schema old.target.sink
      → (IsCalm new → AllByRecursion op.idle (lane_operators new)) → (IsCalm new → AllWithin limit (lane_counts new)) → (IsCalm new → length (sink.held new.target.sink) ≤ new.target.given) → Fit new
  fit-after old new fit work same still within room = record {
    serve = work-serve op (lane_operators old) (lane_operators new) ss work fit.serve;
    chain = subst (λ (end : List Field). IsChain op from (lane_operators new) end) (sym same) (work-chain op (lane_operators old) (lane_operators new) from (sink.schema old.target.sink) work fit.chain);
    still = still;
    within = within;
    room = room;
  }

  stopped-later : (works : List Work) (x y z : List Acts) (n m nodes : List ℕ) (rows more h h' : List Row) (o : Option LaneFault) → Went works x y n m rows h h' → Stopped limit works y z m nodes more o → Stopped limit works x z n nodes (rows ++ more) o
  stopped-later works x y z n m nodes rows more h h' None went s = tt
  stopped-later works x y z n m nodes rows more h h' (Some r) went s = over-later limit works x y z n m nodes rows more h h' r went s

  -- first some rows, and then others
  pub ran-on : (rows more : List Row) (a b c : Lane O K) → IsCalm b → Did rows a b → Did more b c → Did (rows ++ more) a c
  ran-on rows more a b c on h k =
      let works = lane_works op from ss a in
      let same : lane_works op from ss b ≡ works = lane-works op sink from ss a b h.same in
      record {
        same = lane-trans op sink a b c h.same k.same;
        went = λ go. went-trans works _ _ _ _ _ _ rows more _ _ _ (h.went on) (rw same at (k.went go));
        stopped = λ start. stopped-later works _ _ _ _ _ _ rows more _ _ c.refused (h.went on) (rw (same, h.same.nodes) at (k.stopped on));
        kept = λ go. h.kept on;
      }

  stopped-none : (works : List Work) (x y : List Acts) (n nodes : List ℕ) (rows : List Row) (o : Option LaneFault) → o ≡ None → Stopped limit works x y n nodes rows o
  stopped-none works x y n nodes rows None e = tt
  stopped-none works x y n nodes rows (Some r) e = cc

  -- with no rows nothing changes
  pub ran-none : (a : Lane O K) → AllServe op (lane_operators a) ss → Did [] a a
  ran-none a serve = record {
    same = lane-refl op sink a;
    went = λ go. went-none _ _ _ _ (acts-length op _ from ss serve) (counts-length op from a.stages.items a.target ss serve);
    stopped = λ start. stopped-none _ _ _ _ _ _ a.refused start;
    kept = λ go. go;
  }

module _ {O K : Type 0} (held : K → List Row) where
  popped : (lanes front : List (Lane O K)) (lane : Lane O K) → lanes ≡ front ++ lane ∷ [] → flat_map (held_in held) lanes ≡ flat_map (held_in held) front ++ held lane.target.sink
  popped lanes front lane e =
      ap (flat_map (held_in held)) e ∙ flat_map-append (held_in held) front (lane ∷ []) ∙ ap (λ l. flat_map (held_in held) front ++ l) (append-nil (held lane.target.sink))

  -- one lane's sink joins the others
  pub gathered-in : (sink more : K) (lanes front : List (Lane O K)) (lane : Lane O K) (goal : List Row) → lanes ≡ front ++ lane ∷ [] → Same (held more) (held sink ++ held lane.target.sink) → Same (held sink ++ flat_map (held_in held) lanes) goal → Same (held more ++ flat_map (held_in held) front) goal
  gathered-in sink more lanes front lane goal e joined known = rows-by (λ w. omega (
    arith,
    weighs known w,
    weighs joined w,
    ap (total w) (popped lanes front lane e),
    total-append w (held sink) (flat_map (held_in held) lanes),
    total-append w (held more) (flat_map (held_in held) front),
    total-append w (held sink) (held lane.target.sink),
    total-append w (flat_map (held_in held) front) (held lane.target.sink),
  ))

  pub gather-room : (sink : K) (lanes front : List (Lane O K)) (lane : Lane O K) (goal : List Row) (n : ℕ) → lanes ≡ front ++ lane ∷ [] → Same (held sink ++ flat_map (held_in held) lanes) goal → length goal ≤ n → length (held sink) + length (held lane.target.sink) ≤ n
  gather-room sink lanes front lane goal n e known room =
      omega (
        arith,
        room,
        rows-length known,
        ap length (popped lanes front lane e),
        length-append (held sink) (flat_map (held_in held) lanes),
        length-append (flat_map (held_in held) front) (held lane.target.sink),
      )

  -- in any order of the lanes
  pub held-permuted : (xs ys : List (Lane O K)) → IsPermutation xs ys → Same (flat_map (held_in held) ys) (flat_map (held_in held) xs)
  held-permuted xs ys p = rows-by (λ w.
      let v = λ (x : Lane O K). total w (held_in held x) in
      total-flat_map (held_in held) w ys ∙ total-sum_by v ys ∙ sum_by-IsPermutation v xs ys p ∙ sym (total-flat_map (held_in held) w xs ∙ total-sum_by v xs))
