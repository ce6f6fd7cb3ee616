-- Lanes through which rows went are those of a leg as before.
use Rattle.std.proofs.Common.{◌≡◌, ℕ, zero, suc, ◌+◌, ◌<◌, ◌≤◌, List, [], ◌∷◌, ◌++◌, length, map, get_or, refl, sym, ap, subst, ◌∙◌, arith, Option, None}
use Rattle.std.specs.Prelude.{All}
use Rattle.std.specs.List.{flat_map, AllByRecursion}
use Rattle.pipe_schema.specs.Rows.{Row}
use Rattle.pipe_schema.specs.Weights.{total}
use Rattle.pipe_schema.specs.declared.field.Field.{Field}
use Rattle.pipe_schema.proofs.Weights.{total-append}
use Rattle.pipe_chain.specs.Flags.{SeatMarks}
use Rattle.pipe_ops.specs.Batches.{Left}
use Rattle.pipe_ops.specs.declared.sink.Sink.{Ghosts as SinkWords}
use Rattle.pipe_run.specs.Rounds.{left_rows, schema_left}
use Rattle.pipe_chain.specs.Chain.{works_of, AllServe, EachSame}
use Rattle.pipe_chain.specs.Counts.{AllWithin}
use Rattle.pipe_chain.specs.Flow.{Work, Acts, Grown, AllGrown, both_acts, added}
use Rattle.pipe_chain.specs.Keys.{SameKeys}
use Rattle.pipe_chain.specs.declared.operator.Operator.{Ghosts as OperatorWords}
use Rattle.pipe_chain.proofs.Weighing.{keys-by, keys-weigh}
use Rattle.pipe_chain.proofs.FlowLemmas.{flows-length, grown-length}
use Rattle.pipe_run.specs.Dealt.{works_in, nodes_in, acts_in, counts_in, AllSame, DoTheSame, WentAll, AreAlike}
use Rattle.pipe_run.specs.Lanes.{SameLane, lane_operators, lane_works, lane_nodes, held_in, IsSet, IsCalm, IsFit}
use Rattle.pipe_run.specs.declared.lane.Lane.{Lane}
use Rattle.pipe_slots.specs.PhysWords.{output_of}
use Rattle.pipe_slots.specs.declared.phys_operator.PhysOperator.{PhysOperator}
use Rattle.pipe_slots.specs.declared.slot.Slot.{Slot}
use Rattle.pipe_passage.specs.Passages.{phys_words, acts_now, IsPassing, GivesSchemas, schemas_of}
use Rattle.pipe_passage.specs.LaneSeats.{sum_of, AllRest}
use Rattle.pipe_run.specs.Notes.{HasNothing}
use Rattle.pipe_passage.proofs.Opened.{rest-length}
use Rattle.pipe_engine.specs.Carried.{Carried}
use Rattle.pipe_slots.specs.Sinks.{SinkSetting, setting_in, sink_rows}
use Rattle.pipe_slots.specs.SinkWords.{sink_words}
use Rattle.pipe_slots.specs.declared.phys_sink.PhysSink.{PhysSink}

abbrev Lanes : Type 0 → Type 0
Lanes H = List (Lane (PhysOperator H) (PhysSink H))

-- ---- lane by lane

same_at : {H : Type 0} (hash_of : H → List ℕ → ℕ) (old new : Lanes H) → AllSame (phys_words hash_of) sink_words old new → (i : ℕ) (d : Lane (PhysOperator H) (PhysSink H)) → i < length new → SameLane (phys_words hash_of) sink_words (get_or old i d) (get_or new i d)
same_at hash_of [] [] same i d less = absurd (omega arith)
same_at hash_of [] (y ∷ new) same i d less = absurd same
same_at hash_of (z ∷ old) [] same i d less = absurd same
same_at hash_of (z ∷ old) (y ∷ new) same zero d less = same.0
same_at hash_of (z ∷ old) (y ∷ new) same (suc i) d less = same_at hash_of old new same.1 i d (omega arith)

same_length : {H : Type 0} (hash_of : H → List ℕ → ℕ) (old new : Lanes H) → AllSame (phys_words hash_of) sink_words old new → length new ≡ length old
same_length hash_of [] [] same = refl
same_length hash_of [] (y ∷ new) same = absurd same
same_length hash_of (z ∷ old) [] same = absurd same
same_length hash_of (z ∷ old) (y ∷ new) same = ap suc (same_length hash_of old new same.1)

works_same : {H : Type 0} (hash_of : H → List ℕ → ℕ) (from : List Field) (ss : List (Slot H)) (a b : List (PhysOperator H)) → EachSame (phys_words hash_of) a b → works_of (phys_words hash_of) from b ss ≡ works_of (phys_words hash_of) from a ss
works_same hash_of from ss [] [] same = refl
works_same hash_of from ss [] (o ∷ b) same = absurd same
works_same hash_of from ss (p ∷ a) [] same = absurd same
works_same hash_of from [] (p ∷ a) (o ∷ b) same = refl
works_same {H = H} hash_of from (s ∷ ss) (p ∷ a) (o ∷ b) same =
    let e : output_of o from ≡ output_of p from = ap (λ (f : List Field → List Field). f from) same.0.output in
    let g = ap (λ (f : List Field → Slot H → Work). f from s) same.0.work in
    ap (λ k. k ∷ works_of (phys_words hash_of) (output_of o from) b ss) g
    ∙ ap (λ z. (phys_words hash_of).work p from s ∷ works_of (phys_words hash_of) z b ss) e
    ∙ ap (λ l. (phys_words hash_of).work p from s ∷ l) (works_same hash_of (output_of p from) ss a b same.1)

schemas_same : {H : Type 0} (hash_of : H → List ℕ → ℕ) (from : List Field) (a b : List (PhysOperator H)) → EachSame (phys_words hash_of) a b → schemas_of from b ≡ schemas_of from a
schemas_same hash_of from [] [] same = refl
schemas_same hash_of from [] (o ∷ b) same = absurd same
schemas_same hash_of from (p ∷ a) [] same = absurd same
schemas_same hash_of from (p ∷ a) (o ∷ b) same =
    let e : output_of o from ≡ output_of p from = ap (λ (f : List Field → List Field). f from) same.0.output in
    ap (λ z. z ∷ schemas_of z b) e ∙ ap (λ l. output_of p from ∷ l) (schemas_same hash_of (output_of p from) a b same.1)

works_kept : {H : Type 0} (hash_of : H → List ℕ → ℕ) (from : List Field) (ss : List (Slot H)) (old new : Lanes H) → AllSame (phys_words hash_of) sink_words old new → works_in (phys_words hash_of) from ss new ≡ works_in (phys_words hash_of) from ss old
works_kept hash_of from ss [] [] same = refl
works_kept hash_of from ss [] (y ∷ new) same = absurd same
works_kept hash_of from ss (z ∷ old) [] same = absurd same
works_kept hash_of from ss (z ∷ old) (y ∷ new) same = works_same hash_of from ss (lane_operators z) (lane_operators y) same.0.work.each

nodes_kept : {H : Type 0} (hash_of : H → List ℕ → ℕ) (old new : Lanes H) → AllSame (phys_words hash_of) sink_words old new → nodes_in new ≡ nodes_in old
nodes_kept hash_of [] [] same = refl
nodes_kept hash_of [] (y ∷ new) same = absurd same
nodes_kept hash_of (z ∷ old) [] same = absurd same
nodes_kept hash_of (z ∷ old) (y ∷ new) same = same.0.nodes

-- ---- lengths

works_length : {H : Type 0} (hash_of : H → List ℕ → ℕ) (from : List Field) (os : List (PhysOperator H)) (ss : List (Slot H)) → AllServe (phys_words hash_of) os ss → length (works_of (phys_words hash_of) from os ss) ≡ length ss
works_length hash_of from [] [] serve = refl
works_length hash_of from [] (s ∷ ss) serve = absurd serve
works_length hash_of from (o ∷ os) [] serve = absurd serve
works_length hash_of from (o ∷ os) (s ∷ ss) serve = ap suc (works_length hash_of (output_of o from) os ss serve.1)

pub works_many : {H : Type 0} (hash_of : H → List ℕ → ℕ) (limit : ℕ) (from : List Field) (ss : List (Slot H)) (lanes : Lanes H) → 0 < length lanes → All (IsFit (phys_words hash_of) sink_words ss limit from) lanes → length (works_in (phys_words hash_of) from ss lanes) ≡ length ss
works_many hash_of limit from ss [] some fit = absurd (omega arith)
works_many hash_of limit from ss (z ∷ lanes) some fit = works_length hash_of from (lane_operators z) ss (fit 0 z (omega arith)).serve

pub map_length : {X Y : Type 0} (f : X → Y) (xs : List X) → length (map f xs) ≡ length xs
map_length f [] = refl
map_length f (x ∷ xs) = ap suc (map_length f xs)

-- ---- acts

grown_after : (c a b m : Acts) → Grown a b m → Grown (both_acts c a) (both_acts c b) m
grown_after c a b m g = record {
  marked = keys-by (λ w. (let h = keys-weigh g.marked w in let e1 = total-append w c.marked b.marked in let e2 = total-append w (c.marked ++ a.marked) m.marked in let e3 = total-append w c.marked a.marked in let e4 = total-append w a.marked m.marked in omega arith));
  won = keys-by (λ w. (let h = keys-weigh g.won w in let e1 = total-append w c.won b.won in let e2 = total-append w (c.won ++ a.won) m.won in let e3 = total-append w c.won a.won in let e4 = total-append w a.won m.won in omega arith));
}

pub all_grown_after : (c a b m : List Acts) → length c ≡ length a → AllGrown a b m → AllGrown (added c a) (added c b) m
all_grown_after [] a b m e g = g
all_grown_after (k ∷ c) [] b m e g = absurd (omega arith)
all_grown_after (k ∷ c) (x ∷ a) [] m e g = absurd g
all_grown_after (k ∷ c) (x ∷ a) (y ∷ b) [] e g = absurd g
all_grown_after (k ∷ c) (x ∷ a) (y ∷ b) (z ∷ m) e g = (grown_after k x y z g.0, all_grown_after c a b m (omega arith) g.1)

-- ---- all of it

pub carry : {H : Type 0} (hash_of : H → List ℕ → ℕ) (limit : ℕ) (from : List Field) (rows : List Row) (old new : Lanes H) (ss : List (Slot H)) (free : List (List SeatMarks))
    → IsPassing hash_of sink_words limit from old ss free → DoTheSame (phys_words hash_of) sink_words old new → AreAlike (phys_words hash_of) from ss new → All (IsFit (phys_words hash_of) sink_words ss limit from) new → All IsCalm new → AllWithin limit (counts_in new) → AllByRecursion HasNothing new
    → WentAll (phys_words hash_of) sink_words ss from rows old new → Carried hash_of limit from rows old new ss free
carry {H = H} hash_of limit from rows old new ss free was same alike fit calm within none went =
    let long = same_length hash_of old new same.lanes in
    let many = works_many hash_of limit from ss old was.some was.fit in
    let acts_long = grown-length (acts_in (phys_words hash_of) old) (acts_in (phys_words hash_of) new) went.acts went.grown in
    let flows_long = flows-length (works_in (phys_words hash_of) from ss old) went.acts rows went.out went.flows in
    let rest_long = rest-length (length old) ss free was.rest in
    let c_long = map_length sum_of free in
    let L : ℕ → Type 0 = λ k. AllRest k ss free in
    let below : (i : ℕ) → i < length new → i < length old = λ i less. omega arith in
    record {
      acts = went.acts;
      out = went.out;
      grown = all_grown_after (map sum_of free) (acts_in (phys_words hash_of) old) (acts_in (phys_words hash_of) new) went.acts (omega arith) went.grown;
      flows = went.flows;
      held = went.sunk;
      counts = went.tally;
      works = works_kept hash_of from ss old new same.lanes;
      nodes = nodes_kept hash_of old new same.lanes;
      passing = record {
        some = (let s = was.some in omega arith);
        few = (let s = was.few in omega arith);
        alike = alike;
        calm = calm;
        fit = fit;
        within = within;
        schemas = was.schemas;
        gives = λ i d less. schemas_same hash_of from (lane_operators (get_or old i d)) (lane_operators (get_or new i d)) (same_at hash_of old new same.lanes i d less).work.each ∙ was.gives i d (below i less);
        rest = subst L (sym long) was.rest;
        noted_none = none;
      };
      long = long;
      settings = λ s is. λ i d less. (same_at hash_of old new same.lanes i d less).setting ∙ is i d (below i less);
      gives = λ schemas is. λ i d less. schemas_same hash_of from (lane_operators (get_or old i d)) (lane_operators (get_or new i d)) (same_at hash_of old new same.lanes i d less).work.each ∙ is i d (below i less);
    }

-- the same of what a source has left, whose first frame has the schema
pub carry_left : {H : Type 0} (hash_of : H → List ℕ → ℕ) (limit : ℕ) (from : List Field) (left : List Left) (old new : Lanes H) (ss : List (Slot H)) (free : List (List SeatMarks))
    → schema_left left ≡ from → IsPassing hash_of sink_words limit from old ss free → DoTheSame (phys_words hash_of) sink_words old new → AreAlike (phys_words hash_of) (schema_left left) ss new → All (IsFit (phys_words hash_of) sink_words ss limit (schema_left left)) new → All IsCalm new → AllWithin limit (counts_in new) → AllByRecursion HasNothing new
    → WentAll (phys_words hash_of) sink_words ss (schema_left left) (left_rows left) old new → Carried hash_of limit from (left_rows left) old new ss free
carry_left {H = H} hash_of limit from left old new ss free e was same alike fit calm within none went =
    let P : List Field → Type 0 = λ z. IsPassing hash_of sink_words limit z old ss free → Carried hash_of limit z (left_rows left) old new ss free in
    (subst P e (λ known. carry hash_of limit (schema_left left) (left_rows left) old new ss free known same alike fit calm within none went)) was
