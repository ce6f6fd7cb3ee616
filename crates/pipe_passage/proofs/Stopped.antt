-- Lanes on whose way something was refused hold their seats; where these are handed back, each key was won once.
use Rattle.std.proofs.Common.{◌≡◌, ℕ, zero, suc, ◌+◌, ◌<◌, List, [], ◌∷◌, length, get_or, map, true, false, ◌==◌, Option, refl, ap, sym, ◌∙◌, subst, arith}
use Rattle.std.specs.List.{All, AllByRecursion}
use Rattle.std.proofs.lemmas.Bool.Decides.{Decides-eqb}
use Rattle.std.proofs.lemmas.List.{nil_from_length}
use Rattle.pipe_schema.proofs.Weights.{SameBag, total-map}
use Rattle.pipe_schema.specs.declared.field.Field.{Field}
use Rattle.pipe_ops.specs.declared.sink.Sink.{Ghosts as SinkWords}
use Rattle.pipe_table.specs.Table.{TableRows, table_keys}
use Rattle.pipe_chain.specs.Flags.{SeatMarks, is_marked, all_won, winners}
use Rattle.pipe_chain.specs.Sums.{SameItems, one_at}
use Rattle.pipe_chain.specs.Chain.{AllServe}
use Rattle.pipe_chain.specs.Flow.{Acts, added}
use Rattle.pipe_chain.specs.Keys.{SameKeys}
use Rattle.pipe_chain.proofs.Weighing.{keys-sym, keys-trans}
use Rattle.pipe_outer.specs.Marking.{won_key}
use Rattle.pipe_outer.specs.Unmet.{FullRows, EndsMarking, flagged_keys, flags_of}
use Rattle.pipe_outer.specs.declared.marks.Marks.{Marks}
use Rattle.pipe_outer.specs.declared.marks.Marks.TheVariants as marks
use Rattle.pipe_outer.proofs.JoinLaw.{as-total, items-bag}
use Rattle.pipe_run.specs.declared.lane.Lane.{Lane}
use Rattle.pipe_run.specs.declared.stage.LaneFault.{LaneFault}
use Rattle.pipe_run.specs.declared.stage.LaneFault.TheVariants.{TooMany, Memory}
use Rattle.pipe_run.specs.declared.stage.Stage.{Stage}
use Rattle.pipe_run.specs.Dealt.{DoTheSame, IsOverIn, acts_in}
use Rattle.pipe_run.specs.Flushes.{HasStage, IsFlushFit, flushed_in, rows_of_parts}
use Rattle.pipe_run.specs.Lanes.{lane_operators, IsFit}
use Rattle.pipe_run.specs.Stages.{operators_of}
use Rattle.pipe_slots.specs.JoinWords.{parts_in, part_in}
use Rattle.pipe_slots.specs.SlotTables.{CanClose, EndsAs, IsClosedAs}
use Rattle.pipe_slots.specs.declared.phys_operator.PhysOperator.{PhysOperator}
use Rattle.pipe_slots.specs.declared.slot.Slot.{Slot}
use Rattle.pipe_slots.specs.declared.slot.Slot.TheVariants.{Empty, Keys, Rows, Full, Spent}
use Rattle.pipe_passage.specs.LaneSeats.{sum_of, SameActs, AllSameActs, LanesLeft, StageLeft, AreRest, IsRest, AllRest}
use Rattle.pipe_passage.specs.Passages.{phys_words, acts_now, IsPassing}
use Rattle.pipe_passage.specs.Stopped.{Serves, HoldSeats, WonOnce, IsOnce, AllOnce, HasBroken, BreaksOff}
use Rattle.pipe_passage.proofs.Left.{left-all, left-serve, left-length, left-rest, head-acts, added-right, same-length}
use Rattle.pipe_passage.proofs.Opened.{rest-length}
use Rattle.pipe_passage.proofs.Settles.{can-close}
use Rattle.pipe_passage.proofs.Sums.{all-same-refl, same-trans}

-- ---- keys that were won

once-marks : {H : Type 0} (table : TableRows H) (old new : Marks) (seats : List SeatMarks) → AreRest 0 old seats → EndsMarking old seats new → flagged_keys new ≡ length (table_keys table) → WonOnce table (sum_of seats)
once-marks table (marks.Running flags) (marks.Running more) seats rest ends long = absurd ends
once-marks table (marks.Closed flags) new seats rest ends long = absurd rest
once-marks table (marks.Running flags) (marks.Closed closed) seats rest ends long =
    let all : length seats ≡ flags.seats = (let e = rest.1 in omega arith) in
    let won = ends.2 all in
    record {
      flags = closed;
      stand = ends.0;
      only = ends.1 all;
      long = long;
      once = record { sums = λ w. as-total w (map won_key (all_won seats)) ∙ total-map won_key w (all_won seats) ∙ (items-bag won).sums (λ pair. w (won_key pair)) ∙ sym (total-map won_key w (winners closed)) ∙ sym (as-total w (map won_key (winners closed))) };
    }

-- all seats of a slot, which were closed
pub once-closed : {H : Type 0} (slot closed : Slot H) (seats : List SeatMarks) → IsRest 0 slot seats → IsClosedAs slot seats closed → IsOnce slot (sum_of seats)
once-closed Empty closed seats rest closes = tt
once-closed (Keys t) closed seats rest closes = tt
once-closed (Rows f) closed seats rest closes = tt
once-closed Spent closed seats rest closes = tt
once-closed (Full t) Empty seats rest closes = absurd closes
once-closed (Full t) (Keys u) seats rest closes = absurd closes
once-closed (Full t) (Rows u) seats rest closes = absurd closes
once-closed (Full t) Spent seats rest closes = absurd closes
once-closed (Full t) (Full u) seats rest closes = once-marks t.table t.marks u.marks seats rest closes.marks (closes.keys ∙ ap (λ (z : TableRows _). length (table_keys z)) closes.table_is)

once-same : {H : Type 0} (slot : Slot H) (a b : Acts) → SameActs b a → IsOnce slot a → IsOnce slot b
once-same Empty a b same is = tt
once-same (Keys t) a b same is = tt
once-same (Rows f) a b same is = tt
once-same Spent a b same is = tt
once-same (Full t) a b same is = record {
  flags = is.flags;
  stand = λ key some. is.stand key (omega (arith, some, same.marked.sums (one_at key)));
  only = λ key on. omega (arith, is.only key on, same.marked.sums (one_at key));
  long = is.long;
  once = keys-trans same.won is.once;
}

pub all-once-same : {H : Type 0} (ss : List (Slot H)) (a b : List Acts) → AllSameActs b a → AllOnce ss a → AllOnce ss b
all-once-same [] a b same is = tt
all-once-same (s ∷ ss) [] b same is = absurd is
all-once-same (s ∷ ss) (x ∷ a) [] same is = absurd same
all-once-same (s ∷ ss) (x ∷ a) (y ∷ b) same is = (once-same s x y same.0 is.0, all-once-same ss a b same.1 is.1)

-- ---- lanes that hold seats

operators-long : {O : Type 0} (sts : List (Stage O)) → length (operators_of sts) ≡ length sts
operators-long [] = refl
operators-long (st ∷ sts) = ap suc (operators-long sts)

some-served : {H : Type 0} (hash_of : H → List ℕ → ℕ) (os : List (PhysOperator H)) (ss : List (Slot H)) → AllServe (phys_words hash_of) os ss → 0 < length ss → 0 < length os
some-served hash_of [] [] serve some = absurd (omega arith)
some-served hash_of [] (s ∷ ss) serve some = absurd serve
some-served hash_of (o ∷ os) [] serve some = absurd serve
some-served hash_of (o ∷ os) (s ∷ ss) serve some = omega arith

module _ {H K : Type 0} (hash_of : H → List ℕ → ℕ) where
  stages-in : (ss : List (Slot H)) (lanes : List (Lane (PhysOperator H) K)) → All (Serves hash_of ss) lanes → 0 < length ss → AllByRecursion HasStage lanes
  stages-in ss [] serve some = tt
  stages-in ss (x ∷ lanes) serve some = (
    (let n = some-served hash_of (lane_operators x) ss (serve 0 x (omega arith)) some in
        let e : length (lane_operators x) ≡ length x.stages.items = operators-long x.stages.items in
        omega (arith, n, e)),
    stages-in ss lanes (λ i d less. serve (suc i) d (omega (arith, less))) some,
  )

  -- where they read something, they have a stage
  pub held-stages : (lanes : List (Lane (PhysOperator H) K)) (ss : List (Slot H)) (free : List (List SeatMarks)) → HoldSeats hash_of lanes ss free → 0 < length ss → AllByRecursion HasStage lanes
  held-stages lanes ss free held some = stages-in ss lanes held.serve some

  pub held-seats : (lanes : List (Lane (PhysOperator H) K)) (ss : List (Slot H)) (free : List (List SeatMarks)) → HoldSeats hash_of lanes ss free → 0 < length ss → 0 < length free
  held-seats lanes ss free held some = omega (arith, some, rest-length (length lanes) ss free held.rest)

  -- lanes between two chunks do
  pub held-passing : {B C : Type 0} (sink : SinkWords K B C) (limit : ℕ) (from : List Field) (lanes : List (Lane (PhysOperator H) K)) (ss : List (Slot H)) (free : List (List SeatMarks)) → IsPassing hash_of sink limit from lanes ss free → HoldSeats hash_of lanes ss free
  held-passing sink limit from lanes ss free p = record { some = p.some; serve = λ i d less. (p.fit i d less).serve; rest = p.rest }

  -- and lanes that went on from there
  pub held-after : {B C : Type 0} (sink : SinkWords K B C) (old new : List (Lane (PhysOperator H) K)) (ss : List (Slot H)) (free : List (List SeatMarks)) → HoldSeats hash_of old ss free → DoTheSame (phys_words hash_of) sink old new → All (Serves hash_of ss) new → HoldSeats hash_of new ss free
  held-after sink old new ss free held same serve =
      let long = same-length hash_of sink old new same.lanes in record {
        some = omega (arith, held.some, long);
        serve = serve;
        rest = subst (λ (n : ℕ). AllRest n ss free) (sym long) held.rest;
      }

  -- ---- one stage is left

  module _ (slot : Slot H) (ss : List (Slot H)) (v w : List SeatMarks) (free : List (List SeatMarks)) (xs ys : List (Lane (PhysOperator H) K)) (held : HoldSeats hash_of xs (slot ∷ ss) (v ∷ free)) (h : LanesLeft v w xs ys) where
    front-rest : IsRest 0 slot w
    front-rest = left-rest hash_of v w slot ss xs ys h (λ i d less. held.serve i d less) held.rest.0

    behind-held : HoldSeats hash_of ys ss free
    behind-held =
        let long = left-length hash_of v w xs ys h in record {
          some = omega (arith, held.some, long);
          serve = left-all hash_of (Serves hash_of (slot ∷ ss)) (Serves hash_of ss) (λ a b x y one q. (left-serve hash_of a b x y one slot ss q).1) v w xs ys h held.serve;
          rest = subst (λ (n : ℕ). AllRest n ss free) (sym long) held.rest.1;
        }

    behind-once : (closed : Slot H) → IsClosedAs slot w closed → AllOnce ss (acts_now hash_of ys free) → AllOnce (slot ∷ ss) (acts_now hash_of xs (v ∷ free))
    behind-once closed closes once =
        let acts = head-acts hash_of v w xs ys held.some h in
        let same : AllSameActs (acts_now hash_of xs (v ∷ free)) (sum_of w ∷ acts_now hash_of ys free) = same-trans _ _ _ (added-right (map sum_of (v ∷ free)) (acts_in (phys_words hash_of) xs) (acts.first ∷ acts_in (phys_words hash_of) ys) acts.acts) (acts.sum, all-same-refl (added (map sum_of free) (acts_in (phys_words hash_of) ys))) in
        all-once-same (slot ∷ ss) (sum_of w ∷ acts_now hash_of ys free) (acts_now hash_of xs (v ∷ free)) same (once-closed slot closed w front-rest closes, once)

  -- by what was taken off
  module _ (slot : Slot H) (w : List SeatMarks) (xs ys : List (Lane (PhysOperator H) K)) (ss ss' : List (Slot H)) (free free' : List (List SeatMarks)) (h : StageLeft slot w xs ys ss ss' free free') (held : HoldSeats hash_of xs ss free) where
    held-there : HoldSeats hash_of xs (slot ∷ ss') (h.first ∷ free')
    held-there =
        subst (λ (f : List (List SeatMarks)). HoldSeats hash_of xs (slot ∷ ss') f) h.seats_are (subst (λ (l : List (Slot H)). HoldSeats hash_of xs l free) h.shared held)

    pub stage-rest : CanClose slot w
    stage-rest = can-close slot w (front-rest slot ss' h.first w free' xs ys held-there h.lanes)

    pub stage-held : HoldSeats hash_of ys ss' free'
    stage-held = behind-held slot ss' h.first w free' xs ys held-there h.lanes

    pub stage-once : (closed : Slot H) → IsClosedAs slot w closed → AllOnce ss' (acts_now hash_of ys free') → AllOnce ss (acts_now hash_of xs free)
    stage-once closed closes once =
        subst (λ (l : List (Slot H)). AllOnce l (acts_now hash_of xs free)) (sym h.shared)
        (subst (λ (f : List (List SeatMarks)). AllOnce (slot ∷ ss') (acts_now hash_of xs f)) (sym h.seats_are)
        (behind-once slot ss' h.first w free' xs ys held-there h.lanes closed closes once))

    pub stage-fewer : length ss' < length ss
    stage-fewer = let e = ap length h.shared in omega arith

-- where nothing is read, nothing is to be told
pub none-once : {H : Type 0} (ss : List (Slot H)) (acts : List Acts) → ss ≡ [] → AllOnce ss acts
none-once ss acts e = subst (λ (l : List (Slot _)). AllOnce l acts) (sym e) tt

-- a vector that is empty, or not
pub nil-told : {A : Type 0} (xs : List A) (n : ℕ) → n ≡ length xs → (n == 0) ≡ true → xs ≡ []
nil-told xs n long e = let none : n ≡ 0 = (Decides-eqb n 0).0 e in nil_from_length xs (omega arith)

pub some-told : {A : Type 0} (xs : List A) (n : ℕ) → n ≡ length xs → (n == 0) ≡ false → 0 < length xs
some-told [] n long e = absurd (let none : n ≡ 0 = omega arith in let both : true ≡ false = sym ((Decides-eqb n 0).1 none) ∙ e in cc)
some-told (x ∷ xs) n long e = omega arith
