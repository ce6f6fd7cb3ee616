-- Lanes that leave their first stage.
use Rattle.std.proofs.Common.{◌≡◌, ℕ, zero, suc, ◌+◌, ◌<◌, ◌≤◌, List, [], ◌∷◌, ◌++◌, length, get_or, drop, Option, Some, None, map, true, refl, ap, sym, ◌∙◌, subst, arith, length-append, append_assoc, append-nil}
use Rattle.std.specs.List.{All, AllByRecursion, flat_map}
use Rattle.std.proofs.lemmas.List.Concat.{flat_map-append}
use Rattle.std.proofs.lemmas.List.Elements.{All-append}
use Rattle.pipe_schema.specs.Rows.{Row}
use Rattle.pipe_schema.specs.declared.field.Field.{Field}
use Rattle.pipe_ops.specs.declared.sink.Sink.{Ghosts as SinkWords}
use Rattle.pipe_table.specs.declared.spec.JoinSpec.{JoinSpec}
use Rattle.pipe_chain.specs.Flags.{SeatMarks, IsSeatOf}
use Rattle.pipe_chain.specs.Chain.{works_of, IsChain, AllServe, EachSame}
use Rattle.pipe_chain.specs.Counts.{AllWithin, plus}
use Rattle.pipe_chain.specs.Flow.{Work, Acts, both_acts, added}
use Rattle.pipe_chain.specs.declared.operator.Operator.{Ghosts as OperatorWords}
use Rattle.pipe_outer.specs.Marking.{seat_acts}
use Rattle.pipe_outer.specs.MarkProbe.{HoldsSeat}
use Rattle.pipe_outer.specs.Unmet.{FullRows}
use Rattle.pipe_outer.specs.declared.marks.Marks.{Marks}
use Rattle.pipe_outer.specs.declared.marks.Marks.TheVariants as marks
use Rattle.pipe_run.specs.declared.lane.Lane.{Lane}
use Rattle.pipe_run.specs.declared.stage.SinkStage.{SinkStage}
use Rattle.pipe_run.specs.declared.stage.Stage.{Stage}
use Rattle.pipe_run.specs.Dealt.{AreAlike, IsLike, DoTheSame, AllSame, works_in, nodes_in, acts_in, counts_in}
use Rattle.pipe_run.specs.Lanes.{lane_operators, lane_works, lane_acts, lane_counts, lane_nodes, held_in, IsCalm, IsFit, IsSet}
use Rattle.pipe_run.specs.Flushes.{HasStage}
use Rattle.pipe_run.specs.Stages.{operators_of, nodes_of, counts}
use Rattle.pipe_slots.specs.CallBackWords.{KeepsNothing}
use Rattle.pipe_run.specs.Notes.{HasNothing}
use Rattle.pipe_passage.specs.Passages.{phys_words, schemas_of, GivesSchemas, acts_now, IsPassing, noted, HasLeft}
use Rattle.pipe_slots.specs.PhysWords.{output_of, suits_of, seated_of, work_of, acts_of, idle_of}
use Rattle.pipe_passage.specs.LaneSeats.{seats_in, first_seats, front_seats, LaneOff, LanesOff, sum_of, SameActs, AllSameActs, LaneLeft, LanesLeft, StageLeft, AreRest, IsRest, AllRest}
use Rattle.pipe_slots.specs.Seats.{seat_of}
use Rattle.pipe_slots.specs.declared.call_back.CallBack.{CallBack}
use Rattle.pipe_slots.specs.declared.call_back.CallBack.TheVariants as probe
use Rattle.pipe_slots.specs.declared.phys_operator.PhysOperator.{PhysOperator}
use Rattle.pipe_slots.specs.declared.phys_operator.PhysOperator.TheVariants as op
use Rattle.pipe_slots.specs.declared.slot.Slot.{Slot}
use Rattle.pipe_slots.specs.declared.slot.Slot.TheVariants.{Empty, Keys, Rows, Full, Spent}
use Rattle.pipe_passage.proofs.Sums.{one-refl, one-sym, one-trans, one-beside, one-assoc, all-same-refl, same-trans, added-nil, in-sum}

-- ---- an operator and its seat

pub acts-seat : {H : Type 0} (o : PhysOperator H) → acts_of o ≡ seat_acts (seat_of o)
acts-seat (op.Filter f) = refl
acts-seat (op.SimpleProjection p) = refl
acts-seat (op.Projection p) = refl
acts-seat (op.Hstack p) = refl
acts-seat (op.Function f) = refl
acts-seat (op.Pass p) = refl
acts-seat (op.PlaceHolder p) = refl
acts-seat (op.CallBack (probe.Join p)) = refl
acts-seat (op.CallBack (probe.Cross p)) = refl
acts-seat (op.CallBack (probe.Full p)) = refl
acts-seat (op.CallBack (probe.Mark p)) = refl

-- where there are flags, it holds a seat at them
pub holds-one : {H : Type 0} (t : FullRows H) (o : PhysOperator H) → suits_of o (Full t) → seated_of o (Full t) → HoldsSeat t.marks (seat_of o)
holds-one t (op.Filter f) h k = absurd h
holds-one t (op.SimpleProjection p) h k = absurd h
holds-one t (op.Projection p) h k = absurd h
holds-one t (op.Hstack p) h k = absurd h
holds-one t (op.Function f) h k = absurd h
holds-one t (op.Pass p) h k = absurd h
holds-one t (op.PlaceHolder p) h k = absurd k
holds-one t (op.CallBack (probe.Join p)) h k = absurd h
holds-one t (op.CallBack (probe.Cross p)) h k = absurd h
holds-one t (op.CallBack (probe.Full p)) h k = k
holds-one t (op.CallBack (probe.Mark p)) h k = k

seat-alone : (m : Marks) (n : ℕ) (o : Option SeatMarks) (v : List SeatMarks) → HoldsSeat m o → AreRest (suc n) m v → AreRest n m (v ++ seats_in o)
seat-alone m n None v h k = absurd h
seat-alone (marks.Closed f) n (Some seat) v h k = absurd h
seat-alone (marks.Running f) n (Some seat) v h k =
    (All-append (IsSeatOf f.table) v (seat ∷ []) k.0 (λ i d less. only i d less), omega (arith, k.1, length-append v (seat ∷ [])))
  where
    only : (i : ℕ) (d : SeatMarks) → i < 1 → IsSeatOf f.table (get_or (seat ∷ []) i d)
    only zero d less = h
    only (suc i) d less = absurd (omega (arith, less))

-- one seat more is free
pub rest-more : {H : Type 0} (n : ℕ) (slot : Slot H) (o : PhysOperator H) (v : List SeatMarks) → suits_of o slot → seated_of o slot → IsRest (suc n) slot v → IsRest n slot (v ++ seats_in (seat_of o))
rest-more n Empty o v h k r = tt
rest-more n (Keys t) o v h k r = tt
rest-more n (Rows f) o v h k r = tt
rest-more n (Full t) o v h k r = seat-alone t.marks n (seat_of o) v (holds-one t o h k) r
rest-more n Spent o v h k r = tt

-- ---- lanes without their first stages, and the seats there

one-left : {H K : Type 0} (v : List SeatMarks) (x y : Lane (PhysOperator H) K) → LaneOff x y → LaneLeft v (v ++ front_seats x) x y
one-left v x y h = record {
  stage = h.stage;
  stages = h.stages;
  seats = ap (λ (sts : List (Stage (PhysOperator _))). v ++ first_seats sts) h.stages;
  flushers = h.flushers;
  target = h.target;
  entries = h.entries;
  refused = h.refused;
}

pub lanes-left : {H K : Type 0} (v w : List SeatMarks) (xs ys : List (Lane (PhysOperator H) K)) → LanesOff xs ys → w ≡ v ++ flat_map front_seats xs → LanesLeft v w xs ys
lanes-left v w [] [] h e = e ∙ append-nil v
lanes-left v w [] (y ∷ ys) h e = absurd h
lanes-left v w (x ∷ xs) [] h e = absurd h
lanes-left v w (x ∷ xs) (y ∷ ys) h e = (v ++ front_seats x, one-left v x y h.0, lanes-left (v ++ front_seats x) w xs ys h.1 (e ∙ sym (append_assoc v (front_seats x) (flat_map front_seats xs))))

-- one lane more, behind the others
off-append : {H K : Type 0} (xs ys : List (Lane (PhysOperator H) K)) (x y : Lane (PhysOperator H) K) → LanesOff xs ys → LaneOff x y → LanesOff (xs ++ x ∷ []) (ys ++ y ∷ [])
off-append [] [] x y h one = (one, tt)
off-append [] (b ∷ ys) x y h one = absurd h
off-append (a ∷ xs) [] x y h one = absurd h
off-append (a ∷ xs) (b ∷ ys) x y h one = (h.0, off-append xs ys x y h.1 one)

pub off-more : {H K : Type 0} (all xs ys new : List (Lane (PhysOperator H) K)) (x y : Lane (PhysOperator H) K) → all ≡ xs ++ x ∷ [] → new ≡ ys ++ y ∷ [] → LanesOff xs ys → LaneOff x y → LanesOff all new
off-more all xs ys new x y e f h one =
    subst (λ (l : List (Lane (PhysOperator _) _)). LanesOff l new) (sym e) (subst (λ (l : List (Lane (PhysOperator _) _)). LanesOff (xs ++ x ∷ []) l) (sym f) (off-append xs ys x y h one))

pub seats-more : {H K : Type 0} (all xs : List (Lane (PhysOperator H) K)) (x : Lane (PhysOperator H) K) (before mid after' : List SeatMarks) → all ≡ xs ++ x ∷ [] → mid ≡ before ++ flat_map front_seats xs → after' ≡ mid ++ front_seats x → after' ≡ before ++ flat_map front_seats all
seats-more all xs x before mid after' e f g =
    g ∙ ap (λ l. l ++ front_seats x) f ∙ append_assoc before (flat_map front_seats xs) (front_seats x)
    ∙ ap (λ l. before ++ (flat_map front_seats xs ++ l)) (sym (append-nil (front_seats x)))
    ∙ ap (λ l. before ++ l) (sym (flat_map-append front_seats xs (x ∷ [])))
    ∙ ap (λ (l : List (Lane (PhysOperator _) _)). before ++ flat_map front_seats l) (sym e)

staged-front : {H K : Type 0} (xs : List (Lane (PhysOperator H) K)) (x : Lane (PhysOperator H) K) → AllByRecursion HasStage (xs ++ x ∷ []) → AllByRecursion HasStage xs × HasStage x
staged-front [] x h = (tt, h.0)
staged-front (a ∷ xs) x h = ((h.0, (staged-front xs x h.1).0), (staged-front xs x h.1).1)

pub staged_rest : {H K : Type 0} (all xs : List (Lane (PhysOperator H) K)) (x : Lane (PhysOperator H) K) → all ≡ xs ++ x ∷ [] → AllByRecursion HasStage all → AllByRecursion HasStage xs
staged_rest all xs x e h = (staged-front xs x (subst (λ (l : List (Lane (PhysOperator _) _)). AllByRecursion HasStage l) e h)).0

pub staged-last : {H K : Type 0} (all xs : List (Lane (PhysOperator H) K)) (x : Lane (PhysOperator H) K) → all ≡ xs ++ x ∷ [] → AllByRecursion HasStage all → HasStage x
staged-last all xs x e h = (staged-front xs x (subst (λ (l : List (Lane (PhysOperator _) _)). AllByRecursion HasStage l) e h)).1

-- ---- sums of acts

pub added-right : (a b c : List Acts) → AllSameActs b c → AllSameActs (added a b) (added a c)
added-right [] b c h = h
added-right (x ∷ a) [] [] h = all-same-refl (x ∷ a)
added-right (x ∷ a) [] (z ∷ c) h = absurd h
added-right (x ∷ a) (y ∷ b) [] h = absurd h
added-right (x ∷ a) (y ∷ b) (z ∷ c) h = (one-beside x x y z (one-refl x) h.0, added-right a b c h.1)

plus-nil : (ns : List ℕ) → plus ns [] ≡ ns
plus-nil [] = refl
plus-nil (n ∷ ns) = refl

-- the first of some schemas
abbrev pub first_schema : List (List Field) → List Field
first_schema [] = []
first_schema (s ∷ ss) = s

module _ {H : Type 0} (hash_of : H → List ℕ → ℕ) where
  -- operators that do the same give the same schemas
  same-schemas : (from : List Field) (a b : List (PhysOperator H)) → EachSame (phys_words hash_of) a b → schemas_of from b ≡ schemas_of from a
  same-schemas from [] [] h = refl
  same-schemas from [] (y ∷ b) h = absurd h
  same-schemas from (x ∷ a) [] h = absurd h
  same-schemas from (x ∷ a) (y ∷ b) h =
      ap (λ (g : List Field → List Field). g from ∷ schemas_of (g from) b) h.0.output
      ∙ ap (λ l. output_of x from ∷ l) (same-schemas (output_of x from) a b h.1)

module _ {H K : Type 0} (hash_of : H → List ℕ → ℕ) where
  -- ---- one lane

  module _ (v w : List SeatMarks) (x y : (Lane (PhysOperator H) K)) (h : LaneLeft v w x y) where
    abbrev here : PhysOperator H
    here = h.stage.operator

    pub left-operators : lane_operators x ≡ here ∷ lane_operators y
    left-operators = ap (λ (sts : List (Stage (PhysOperator H))). operators_of sts) h.stages

    left-acts : lane_acts (phys_words hash_of) x ≡ acts_of here ∷ lane_acts (phys_words hash_of) y
    left-acts = ap (λ (os : List (PhysOperator H)). map acts_of os) left-operators

    left-counts : lane_counts x ≡ h.stage.given ∷ lane_counts y
    left-counts =
        ap (λ (sts : List (Stage (PhysOperator H))). counts sts x.target) h.stages
        ∙ ap (λ (b : SinkStage K). h.stage.given ∷ counts y.stages.items b) (sym h.target)

    left-nodes : lane_nodes x ≡ h.stage.node ∷ lane_nodes y
    left-nodes =
        ap (λ (sts : List (Stage (PhysOperator H))). nodes_of sts x.target) h.stages
        ∙ ap (λ (b : SinkStage K). h.stage.node ∷ nodes_of y.stages.items b) (sym h.target)

    left-works : (from : List Field) (slot : Slot H) (ss : List (Slot H)) → lane_works (phys_words hash_of) from (slot ∷ ss) x ≡ work_of here from slot ∷ lane_works (phys_words hash_of) (output_of here from) ss y
    left-works from slot ss = ap (λ (os : List (PhysOperator H)). works_of (phys_words hash_of) from os (slot ∷ ss)) left-operators

    pub left-serve : (slot : Slot H) (ss : List (Slot H)) → AllServe (phys_words hash_of) (lane_operators x) (slot ∷ ss) → AllServe (phys_words hash_of) (here ∷ lane_operators y) (slot ∷ ss)
    left-serve slot ss k = subst (λ (os : List (PhysOperator H)). AllServe (phys_words hash_of) os (slot ∷ ss)) left-operators k

    left-sum : SameActs (both_acts (sum_of v) (acts_of here)) (sum_of w)
    left-sum =
        rw (acts-seat here) (one-sym (sum_of w) (both_acts (sum_of v) (seat_acts (seat_of here))) (in-sum (seat_of here) v w h.seats))

    -- the schema behind it
    module _ (from : List Field) (schemas : List (List Field)) (gives : GivesSchemas from schemas x) where
      in-front : output_of here from ∷ schemas_of (output_of here from) (lane_operators y) ≡ schemas
      in-front = sym (ap (λ (os : List (PhysOperator H)). schemas_of from os) left-operators) ∙ gives

      pub left-next : output_of here from ≡ first_schema schemas
      left-next = ap first_schema in-front

      pub left-gives : GivesSchemas (first_schema schemas) (drop 1 schemas) y
      left-gives =
          ap (λ (s : List Field). schemas_of s (lane_operators y)) (sym left-next) ∙ ap (λ l. drop 1 l) in-front

      pub left-works-next : (slot : Slot H) (ss : List (Slot H)) → lane_works (phys_words hash_of) from (slot ∷ ss) x ≡ work_of here from slot ∷ lane_works (phys_words hash_of) (first_schema schemas) ss y
      left-works-next slot ss =
          left-works from slot ss
          ∙ ap (λ (s : List Field). work_of here from slot ∷ lane_works (phys_words hash_of) s ss y) left-next

      pub left-fit : {B C : Type 0} (sink : SinkWords K B C) (limit : ℕ) (slot : Slot H) (ss : List (Slot H)) → IsFit (phys_words hash_of) sink (slot ∷ ss) limit from x → IsFit (phys_words hash_of) sink ss limit (first_schema schemas) y
      left-fit sink limit slot ss fit = record {
        serve = (left-serve slot ss fit.serve).1;
        chain =
            let all : IsChain (phys_words hash_of) from (here ∷ lane_operators y) (sink.schema x.target.sink) = subst (λ (os : List (PhysOperator H)). IsChain (phys_words hash_of) from os (sink.schema x.target.sink)) left-operators fit.chain in
            let here_on : IsChain (phys_words hash_of) (first_schema schemas) (lane_operators y) (sink.schema x.target.sink) = subst (λ (s : List Field). IsChain (phys_words hash_of) s (lane_operators y) (sink.schema x.target.sink)) left-next all.1 in
            subst (λ (b : SinkStage K). IsChain (phys_words hash_of) (first_schema schemas) (lane_operators y) (sink.schema b.sink)) (sym h.target) here_on;
        still = λ e. (subst (λ (os : List (PhysOperator H)). AllByRecursion idle_of os) left-operators (fit.still (sym h.refused ∙ e))).1;
        within = λ e. (subst (λ (l : List ℕ). AllWithin limit l) left-counts (fit.within (sym h.refused ∙ e))).1;
        room = λ e. subst (λ (b : SinkStage K). length (sink.held b.sink) ≤ b.given) (sym h.target) (fit.room (sym h.refused ∙ e));
      }

  -- ---- all lanes

  pub left-length : (v w : List SeatMarks) (xs ys : List (Lane (PhysOperator H) K)) → LanesLeft v w xs ys → length ys ≡ length xs
  left-length v w [] [] h = refl
  left-length v w [] (y ∷ ys) h = absurd h
  left-length v w (x ∷ xs) [] h = absurd h
  left-length v w (x ∷ xs) (y ∷ ys) h = ap suc (left-length h.0 w xs ys h.2)

  pub left-all : (Q P : (Lane (PhysOperator H) K) → Type 0) → ((v w : List SeatMarks) (x y : (Lane (PhysOperator H) K)) → LaneLeft v w x y → Q x → P y) → (v w : List SeatMarks) (xs ys : List (Lane (PhysOperator H) K)) → LanesLeft v w xs ys → All Q xs → All P ys
  left-all Q P f v w [] [] h q i d less = absurd (omega arith)
  left-all Q P f v w [] (y ∷ ys) h q i d less = absurd h
  left-all Q P f v w (x ∷ xs) [] h q i d less = absurd h
  left-all Q P f v w (x ∷ xs) (y ∷ ys) h q zero d less = f v h.0 x y h.1 (q 0 x (omega arith))
  left-all Q P f v w (x ∷ xs) (y ∷ ys) h q (suc i) d less = left-all Q P f h.0 w xs ys h.2 (λ j e l. q (suc j) e (omega (arith, l))) i d (omega (arith, less))

  -- acts
  pub record HeadActs (v w : List SeatMarks) (xs ys : List (Lane (PhysOperator H) K)) : Type 0 where
    pub first : Acts
    pub acts : AllSameActs (acts_in (phys_words hash_of) xs) (first ∷ acts_in (phys_words hash_of) ys)
    pub sum : SameActs (both_acts (sum_of v) first) (sum_of w)

  head-one : (v w : List SeatMarks) (x y : (Lane (PhysOperator H) K)) → LaneLeft v w x y → HeadActs v w (x ∷ []) (y ∷ [])
  head-one v w x y h = record {
    first = acts_of h.stage.operator;
    acts = rw (added-nil (lane_acts (phys_words hash_of) x), added-nil (lane_acts (phys_words hash_of) y), left-acts v w x y h) (all-same-refl (acts_of h.stage.operator ∷ lane_acts (phys_words hash_of) y));
    sum = left-sum v w x y h;
  }

  head-more : (v mid w : List SeatMarks) (x y : (Lane (PhysOperator H) K)) (xs ys : List (Lane (PhysOperator H) K)) → LaneLeft v mid x y → HeadActs mid w xs ys → HeadActs v w (x ∷ xs) (y ∷ ys)
  head-more v mid w x y xs ys h k = record {
    first = both_acts (acts_of h.stage.operator) k.first;
    acts = rw (left-acts v mid x y h) (added-right (acts_of h.stage.operator ∷ lane_acts (phys_words hash_of) y) (acts_in (phys_words hash_of) xs) (k.first ∷ acts_in (phys_words hash_of) ys) k.acts);
    sum = one-trans _ _ _ (one-sym _ _ (one-assoc (sum_of v) (acts_of h.stage.operator) k.first)) (one-trans _ _ _ (one-beside _ _ k.first k.first (left-sum v mid x y h) (one-refl k.first)) k.sum);
  }

  pub head-acts : (v w : List SeatMarks) (xs ys : List (Lane (PhysOperator H) K)) → 0 < length xs → LanesLeft v w xs ys → HeadActs v w xs ys
  head-acts v w [] ys some h = absurd (omega arith)
  head-acts v w (x ∷ xs) [] some h = absurd h
  head-acts v w (x ∷ []) (y ∷ []) some h = subst (λ (u : List SeatMarks). HeadActs v u (x ∷ []) (y ∷ [])) (sym h.2) (head-one v h.0 x y h.1)
  head-acts v w (x ∷ []) (y ∷ z ∷ ys) some h = absurd h.2
  head-acts v w (x ∷ u ∷ xs) (y ∷ []) some h = absurd h.2
  head-acts v w (x ∷ u ∷ xs) (y ∷ z ∷ ys) some h = head-more v h.0 w x y (u ∷ xs) (z ∷ ys) h.1 (head-acts h.0 w (u ∷ xs) (z ∷ ys) (omega arith) h.2)

  -- counts
  pub record HeadCounts (xs ys : List (Lane (PhysOperator H) K)) : Type 0 where
    pub given : ℕ
    pub counts : counts_in xs ≡ given ∷ counts_in ys

  pub head-counts : (v w : List SeatMarks) (xs ys : List (Lane (PhysOperator H) K)) → 0 < length xs → LanesLeft v w xs ys → HeadCounts xs ys
  head-counts v w [] ys some h = absurd (omega arith)
  head-counts v w (x ∷ xs) [] some h = absurd h
  head-counts v w (x ∷ []) (y ∷ []) some h = record {
    given = h.1.stage.given;
    counts = rw (plus-nil (lane_counts x), plus-nil (lane_counts y)) (left-counts v h.0 x y h.1);
  }
  head-counts v w (x ∷ []) (y ∷ z ∷ ys) some h = absurd h.2
  head-counts v w (x ∷ u ∷ xs) (y ∷ []) some h = absurd h.2
  head-counts v w (x ∷ u ∷ xs) (y ∷ z ∷ ys) some h =
      let k = head-counts h.0 w (u ∷ xs) (z ∷ ys) (omega arith) h.2 in
      record {
        given = h.1.stage.given + k.given;
        counts =
            ap (λ l. plus l (counts_in (u ∷ xs))) (left-counts v h.0 x y h.1)
            ∙ ap (λ l. plus (h.1.stage.given ∷ lane_counts y) l) k.counts;
      }

  left-held : (held : K → List Row) (v w : List SeatMarks) (xs ys : List (Lane (PhysOperator H) K)) → LanesLeft v w xs ys → flat_map (held_in held) ys ≡ flat_map (held_in held) xs
  left-held held v w [] [] h = refl
  left-held held v w [] (y ∷ ys) h = absurd h
  left-held held v w (x ∷ xs) [] h = absurd h
  left-held held v w (x ∷ xs) (y ∷ ys) h =
      ap (λ (b : SinkStage K). held b.sink ++ flat_map (held_in held) ys) h.1.target
      ∙ ap (λ l. held x.target.sink ++ l) (left-held held h.0 w xs ys h.2)

  left-noted : (v w : List SeatMarks) (xs ys : List (Lane (PhysOperator H) K)) → LanesLeft v w xs ys → map noted ys ≡ map noted xs
  left-noted v w [] [] h = refl
  left-noted v w [] (y ∷ ys) h = absurd h
  left-noted v w (x ∷ xs) [] h = absurd h
  left-noted v w (x ∷ xs) (y ∷ ys) h = rw (h.1.entries, left-noted h.0 w xs ys h.2) refl

  left-nothing : (v w : List SeatMarks) (xs ys : List (Lane (PhysOperator H) K)) → LanesLeft v w xs ys → AllByRecursion HasNothing xs → AllByRecursion HasNothing ys
  left-nothing v w [] [] h none = tt
  left-nothing v w [] (y ∷ ys) h none = absurd h
  left-nothing v w (x ∷ xs) [] h none = absurd h
  left-nothing v w (x ∷ xs) (y ∷ ys) h none = (h.1.entries ∙ none.0, left-nothing h.0 w xs ys h.2 none.1)

  -- all seats are in
  pub left-rest : (v w : List SeatMarks) (slot : Slot H) (ss : List (Slot H)) (xs ys : List (Lane (PhysOperator H) K)) → LanesLeft v w xs ys → All (λ (x : (Lane (PhysOperator H) K)). AllServe (phys_words hash_of) (lane_operators x) (slot ∷ ss)) xs → IsRest (length xs) slot v → IsRest 0 slot w
  left-rest v w slot ss [] [] h serve r = subst (λ (u : List SeatMarks). IsRest 0 slot u) (sym h) r
  left-rest v w slot ss [] (y ∷ ys) h serve r = absurd h
  left-rest v w slot ss (x ∷ xs) [] h serve r = absurd h
  left-rest v w slot ss (x ∷ xs) (y ∷ ys) h serve r =
      let one = left-serve v h.0 x y h.1 slot ss (serve 0 x (omega arith)) in
      let mid : IsRest (length xs) slot h.0 = subst (λ (u : List SeatMarks). IsRest (length xs) slot u) (sym h.1.seats) (rest-more (length xs) slot h.1.stage.operator v one.0.suits one.0.seated r) in
      left-rest h.0 w slot ss xs ys h.2 (λ i d less. serve (suc i) d (omega (arith, less))) mid

  -- what the first lane did
  pub record HeadWorks (from next : List Field) (slot : Slot H) (ss : List (Slot H)) (xs ys : List (Lane (PhysOperator H) K)) : Type 0 where
    pub work : Work
    pub works : works_in (phys_words hash_of) from (slot ∷ ss) xs ≡ work ∷ works_in (phys_words hash_of) next ss ys
    pub node : ℕ
    pub nodes : nodes_in xs ≡ node ∷ nodes_in ys

  head-works : (v w : List SeatMarks) (from : List Field) (schemas : List (List Field)) (slot : Slot H) (ss : List (Slot H)) (xs ys : List (Lane (PhysOperator H) K)) → 0 < length xs → All (GivesSchemas from schemas) xs → LanesLeft v w xs ys → HeadWorks from (first_schema schemas) slot ss xs ys
  head-works v w from schemas slot ss [] ys some gives h = absurd (omega arith)
  head-works v w from schemas slot ss (x ∷ xs) [] some gives h = absurd h
  head-works v w from schemas slot ss (x ∷ xs) (y ∷ ys) some gives h = record {
    work = work_of h.1.stage.operator from slot;
    works = left-works-next v h.0 x y h.1 from schemas (gives 0 x (omega arith)) slot ss;
    node = h.1.stage.node;
    nodes = left-nodes v h.0 x y h.1;
  }

  -- ---- lanes that do the same give the same schemas

  module _ {B C : Type 0} (sink : SinkWords K B C) where
    pub all-schemas : (from : List Field) (schemas : List (List Field)) (xs ys : List (Lane (PhysOperator H) K)) → AllSame (phys_words hash_of) sink xs ys → All (GivesSchemas from schemas) xs → All (GivesSchemas from schemas) ys
    all-schemas from schemas [] [] h g i d less = absurd (omega arith)
    all-schemas from schemas [] (y ∷ ys) h g i d less = absurd h
    all-schemas from schemas (x ∷ xs) [] h g i d less = absurd h
    all-schemas from schemas (x ∷ xs) (y ∷ ys) h g zero d less = same-schemas hash_of from (lane_operators x) (lane_operators y) h.0.work.each ∙ g 0 x (omega arith)
    all-schemas from schemas (x ∷ xs) (y ∷ ys) h g (suc i) d less = all-schemas from schemas xs ys h.1 (λ j e l. g (suc j) e (omega (arith, l))) i d (omega (arith, less))

    pub same-length : (xs ys : List (Lane (PhysOperator H) K)) → AllSame (phys_words hash_of) sink xs ys → length ys ≡ length xs
    same-length [] [] h = refl
    same-length [] (y ∷ ys) h = absurd h
    same-length (x ∷ xs) [] h = absurd h
    same-length (x ∷ xs) (y ∷ ys) h = ap suc (same-length xs ys h.1)

    -- what lanes do leaves them fit for more
    pub still-passing : (limit : ℕ) (from : List Field) (xs ys : List (Lane (PhysOperator H) K)) (ss : List (Slot H)) (free : List (List SeatMarks)) → IsPassing hash_of sink limit from xs ss free → DoTheSame (phys_words hash_of) sink xs ys → AreAlike (phys_words hash_of) from ss ys → All IsCalm ys → All (IsFit (phys_words hash_of) sink ss limit from) ys → AllWithin limit (counts_in ys) → AllByRecursion HasNothing ys → IsPassing hash_of sink limit from ys ss free
    still-passing limit from xs ys ss free p same alike calm fit within none =
        let long = same-length xs ys same.lanes in
        record {
          some = omega (arith, p.some, long);
          few = omega (arith, p.few, long);
          alike = alike;
          calm = calm;
          fit = fit;
          within = within;
          schemas = p.schemas;
          gives = all-schemas from p.schemas xs ys same.lanes p.gives;
          rest = subst (λ (n : ℕ). AllRest n ss free) (sym long) p.rest;
          noted_none = none;
        }

    -- ---- the leg has left its first stage

    module _ (limit : ℕ) (from : List Field) (slot : Slot H) (ss : List (Slot H)) (v w : List SeatMarks) (free : List (List SeatMarks)) (xs ys : List (Lane (PhysOperator H) K)) (p : IsPassing hash_of sink limit from xs (slot ∷ ss) (v ∷ free)) (h : LanesLeft v w xs ys) where
      abbrev next : List Field
      next = first_schema p.schemas

      heads : HeadWorks from next slot ss xs ys
      heads = head-works v w from p.schemas slot ss xs ys p.some p.gives h

      counted : HeadCounts xs ys
      counted = head-counts v w xs ys p.some h

      pub left-alike : AreAlike (phys_words hash_of) next ss ys
      left-alike = left-all (λ (x : (Lane (PhysOperator H) K)). IsLike (phys_words hash_of) from (slot ∷ ss) (works_in (phys_words hash_of) from (slot ∷ ss) xs) (nodes_in xs) x × GivesSchemas from p.schemas x) (λ (y : (Lane (PhysOperator H) K)). IsLike (phys_words hash_of) next ss (works_in (phys_words hash_of) next ss ys) (nodes_in ys) y)
          (λ a b x y one q. (
            ap (λ l. drop 1 l) (sym (left-works-next a b x y one from p.schemas q.1 slot ss) ∙ q.0.0 ∙ heads.works),
            ap (λ l. drop 1 l) (sym (left-nodes a b x y one) ∙ q.0.1 ∙ heads.nodes),
          ))
          v w xs ys h (λ i d less. (p.alike i d less, p.gives i d less))

      pub left-fits : All (IsFit (phys_words hash_of) sink ss limit next) ys
      left-fits = left-all (λ (x : (Lane (PhysOperator H) K)). IsFit (phys_words hash_of) sink (slot ∷ ss) limit from x × GivesSchemas from p.schemas x) (IsFit (phys_words hash_of) sink ss limit next)
          (λ a b x y one q. left-fit a b x y one from p.schemas q.1 sink limit slot ss q.0)
          v w xs ys h (λ i d less. (p.fit i d less, p.gives i d less))

      pub left-calm : All IsCalm ys
      left-calm = left-all IsCalm IsCalm (λ a b x y one q. one.refused ∙ q) v w xs ys h p.calm

      pub left-passing : IsPassing hash_of sink limit next ys ss free
      left-passing =
          let long = left-length v w xs ys h in
          record {
            some = omega (arith, p.some, long);
            few = omega (arith, p.few, long);
            alike = left-alike;
            calm = left-calm;
            fit = left-fits;
            within = (subst (λ (l : List ℕ). AllWithin limit l) counted.counts p.within).1;
            schemas = drop 1 p.schemas;
            gives = left-all (GivesSchemas from p.schemas) (GivesSchemas next (drop 1 p.schemas)) (λ a b x y one q. left-gives a b x y one from p.schemas q) v w xs ys h p.gives;
            rest = subst (λ (n : ℕ). AllRest n ss free) (sym long) p.rest.1;
            noted_none = left-nothing v w xs ys h p.noted_none;
          }

      -- whatever schemas they are known by
      known-by : (s : List Field) (later : List (List Field)) (zs : List (Lane (PhysOperator H) K)) → 0 < length zs → All (GivesSchemas from p.schemas) zs → All (GivesSchemas from (s ∷ later)) zs → p.schemas ≡ s ∷ later
      known-by s later [] some a b = absurd (omega arith)
      known-by s later (z ∷ zs) some a b = sym (a 0 z (omega arith)) ∙ b 0 z (omega arith)

      left-schemas : (s : List Field) (later : List (List Field)) → All (GivesSchemas from (s ∷ later)) xs → (next ≡ s) × All (GivesSchemas next later) ys
      left-schemas s later all =
          let known : p.schemas ≡ s ∷ later = known-by s later xs p.some p.gives all in
          let is : next ≡ s = ap first_schema known in
          let each = left-all (GivesSchemas from (s ∷ later)) (GivesSchemas s later) (λ a b x y one q. left-gives a b x y one from (s ∷ later) q) v w xs ys h all in
          (is, subst (λ (f : List Field). All (GivesSchemas f later) ys) (sym is) each)

      pub has-left : HasLeft hash_of sink limit from slot w xs ys (slot ∷ ss) ss (v ∷ free) free
      has-left =
          let acts = head-acts v w xs ys p.some h in
          record {
            next = next;
            passing = left-passing;
            shared = refl;
            work = heads.work;
            works = heads.works;
            acts = same-trans _ _ _ (added-right (map sum_of (v ∷ free)) (acts_in (phys_words hash_of) xs) (acts.first ∷ acts_in (phys_words hash_of) ys) acts.acts) (acts.sum, all-same-refl (added (map sum_of free) (acts_in (phys_words hash_of) ys)));
            all_in = left-rest v w slot ss xs ys h (λ i d less. (p.fit i d less).serve) p.rest.0;
            given = counted.given;
            counts = counted.counts;
            node = heads.node;
            nodes = heads.nodes;
            held = left-held sink.held v w xs ys h;
            entries = left-noted v w xs ys h;
            gives = left-schemas;
            settings = λ z all. left-all (IsSet sink.setting z) (IsSet sink.setting z) (λ a b x y one q. ap (λ (c : SinkStage K). sink.setting c.sink) one.target ∙ q) v w xs ys h all;
            schemas = λ z all. left-all (IsSet sink.schema z) (IsSet sink.schema z) (λ a b x y one q. ap (λ (c : SinkStage K). sink.schema c.sink) one.target ∙ q) v w xs ys h all;
          }

      pub has-left-next : has-left.next ≡ first_schema p.schemas
      unfolding has-left
      has-left-next = refl

  -- by what was taken off
  module _ {B C : Type 0} (sink : SinkWords K B C) (limit : ℕ) (from : List Field) (slot : Slot H) (w : List SeatMarks) (xs ys : List (Lane (PhysOperator H) K)) (ss ss' : List (Slot H)) (free free' : List (List SeatMarks)) (h : StageLeft slot w xs ys ss ss' free free') (p : IsPassing hash_of sink limit from xs ss free) where
    pub passing-there : IsPassing hash_of sink limit from xs (slot ∷ ss') (h.first ∷ free')
    passing-there =
        subst (λ (f : List (List SeatMarks)). IsPassing hash_of sink limit from xs (slot ∷ ss') f) h.seats_are (subst (λ (l : List (Slot H)). IsPassing hash_of sink limit from xs l free) h.shared p)

    pub stage-left : HasLeft hash_of sink limit from slot w xs ys ss ss' free free'
    stage-left =
        subst (λ (l : List (Slot H)). HasLeft hash_of sink limit from slot w xs ys l ss' free free') (sym h.shared)
        (subst (λ (f : List (List SeatMarks)). HasLeft hash_of sink limit from slot w xs ys (slot ∷ ss') ss' f free') (sym h.seats_are)
        (has-left sink limit from slot ss' h.first w free' xs ys passing-there h.lanes))
