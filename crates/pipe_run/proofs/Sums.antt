-- Counts of all lanes, and the least lane's refusal.
use Rattle.std.proofs.Common.{◌≡◌, ℕ, zero, suc, ◌+◌, ◌-◌, ◌<◌, ◌≤◌, inl, inr, List, [], ◌∷◌, length, get_or, drop, refl, ap, sym, ◌∙◌, subst, arith, deque_len, length-append, drop-cons}
use Rattle.std.specs.List.{All, flat_map}
use Rattle.pipe_schema.specs.Rows.{Row}
use Rattle.pipe_run.specs.declared.stage.Stage.{Stage}
use Rattle.pipe_run.specs.declared.stage.SinkStage.{SinkStage}
use Rattle.pipe_run.specs.declared.stage.LaneFault.{LaneFault}
use Rattle.pipe_run.specs.declared.stage.LaneFault.TheVariants.{TooMany, Memory}
use Rattle.pipe_run.specs.declared.lane.Lane.{Lane}
use Rattle.pipe_chain.specs.Counts.{AllWithin, plus, Over}
use Rattle.pipe_run.specs.Stages.{nodes_of, counts, Tells}
use Rattle.pipe_run.specs.Lanes.{lane_counts, lane_nodes, held_in}
use Rattle.pipe_run.specs.Dealt.{counts_in, nodes_in, IsWithin, HasNodes}

pub plus-nil : (ns : List ℕ) → plus ns [] ≡ ns
plus-nil [] = refl
plus-nil (n ∷ ns) = refl

pub get-plus : (ns ms : List ℕ) (i : ℕ) → get_or (plus ns ms) i 0 ≡ get_or ns i 0 + get_or ms i 0
get-plus [] ms i = omega arith
get-plus (n ∷ ns) [] zero = omega arith
get-plus (n ∷ ns) [] (suc i) = omega arith
get-plus (n ∷ ns) (m ∷ ms) zero = refl
get-plus (n ∷ ns) (m ∷ ms) (suc i) = get-plus ns ms i

pub length-plus : (ns ms : List ℕ) → length ns ≡ length ms → length (plus ns ms) ≡ length ns
length-plus [] [] e = refl
length-plus [] (m ∷ ms) e = cc
length-plus (n ∷ ns) [] e = cc
length-plus (n ∷ ns) (m ∷ ms) e = omega (arith, length-plus ns ms (omega arith))

pub length-counts : {O K : Type 0} (sts : List (Stage O)) (b : SinkStage K) → length (counts sts b) ≡ length sts + 1
length-counts [] b = refl
length-counts (st ∷ sts) b = omega (arith, length-counts sts b)

pub length-nodes : {O K : Type 0} (sts : List (Stage O)) (b : SinkStage K) → length (nodes_of sts b) ≡ length sts + 1
length-nodes [] b = refl
length-nodes (st ∷ sts) b = omega (arith, length-nodes sts b)

pub same-length-of : {O K : Type 0} (lane : Lane O K) → length (lane_counts lane) ≡ length (lane_nodes lane)
same-length-of lane = length-counts lane.stages.items lane.target ∙ sym (length-nodes lane.stages.items lane.target)

-- the count and the node at a place
pub count-at : {O K : Type 0} (sts : List (Stage O)) (b : SinkStage K) (i : ℕ) (d : Stage O) → i < length sts → (get_or sts i d).given ≡ get_or (counts sts b) i 0
count-at [] b i d less = absurd (omega (arith, less))
count-at (x ∷ sts) b zero d less = refl
count-at (x ∷ sts) b (suc i) d less = count-at sts b i d (omega (arith, less))

pub node-at : {O K : Type 0} (sts : List (Stage O)) (b : SinkStage K) (i : ℕ) (d : Stage O) → i < length sts → (get_or sts i d).node ≡ get_or (nodes_of sts b) i 0
node-at [] b i d less = absurd (omega (arith, less))
node-at (x ∷ sts) b zero d less = refl
node-at (x ∷ sts) b (suc i) d less = node-at sts b i d (omega (arith, less))

pub count-target : {O K : Type 0} (sts : List (Stage O)) (b : SinkStage K) (i : ℕ) → length sts ≤ i → i < length (counts sts b) → b.given ≡ get_or (counts sts b) i 0
count-target [] b zero from less = refl
count-target [] b (suc i) from less = absurd (omega arith)
count-target (x ∷ sts) b zero from less = absurd (omega arith)
count-target (x ∷ sts) b (suc i) from less = count-target sts b i (omega arith) (omega arith)

pub node-target : {O K : Type 0} (sts : List (Stage O)) (b : SinkStage K) (i : ℕ) → length sts ≤ i → i < length (nodes_of sts b) → b.node ≡ get_or (nodes_of sts b) i 0
node-target [] b zero from less = refl
node-target [] b (suc i) from less = absurd (omega arith)
node-target (x ∷ sts) b zero from less = absurd (omega arith)
node-target (x ∷ sts) b (suc i) from less = node-target sts b i (omega arith) (omega arith)

pub within-at : (limit : ℕ) (ns : List ℕ) (i : ℕ) → AllWithin limit ns → get_or ns i 0 ≤ limit
within-at limit [] i h = omega arith
within-at limit (n ∷ ns) zero h = h.0
within-at limit (n ∷ ns) (suc i) h = within-at limit ns i h.1

pub within-all : (limit : ℕ) (ns : List ℕ) → ((i : ℕ) → i < length ns → get_or ns i 0 ≤ limit) → AllWithin limit ns
within-all limit [] h = tt
within-all limit (n ∷ ns) h = (h 0 (omega arith), within-all limit ns (λ i less. h (suc i) (omega arith)))

pub over-at : (limit : ℕ) (ns nodes : List ℕ) (i node : ℕ) → i < length ns → length ns ≡ length nodes → limit < get_or ns i 0 → node ≡ get_or nodes i 0 → Over limit ns nodes node
over-at limit [] nodes i node less e over is = absurd (omega arith)
over-at limit (n ∷ ns) [] i node less e over is = cc
over-at limit (n ∷ ns) (m ∷ nodes) zero node less e over is = inl (is, over)
over-at limit (n ∷ ns) (m ∷ nodes) (suc i) node less e over is = inr (over-at limit ns nodes i node (omega arith) (omega arith) over is)

module _ {O K : Type 0} where
  -- the counts of some lanes are as long as their nodes
  pub length-counts-in : (nodes : List ℕ) (lanes : List (Lane O K)) → 0 < length lanes → All (HasNodes nodes) lanes → length (counts_in lanes) ≡ length nodes
  length-counts-in nodes [] some all = absurd (omega arith)
  length-counts-in nodes (x ∷ []) some all = ap length (plus-nil (lane_counts x)) ∙ same-length-of x ∙ ap length (all 0 x (omega arith))
  length-counts-in nodes (x ∷ y ∷ lanes) some all =
      let one : length (lane_counts x) ≡ length nodes = same-length-of x ∙ ap length (all 0 x (omega arith)) in
      let others : length (counts_in (y ∷ lanes)) ≡ length nodes = length-counts-in nodes (y ∷ lanes) (omega arith) (λ i d less. all (suc i) d (omega arith)) in
      length-plus (lane_counts x) (counts_in (y ∷ lanes)) (one ∙ sym others) ∙ one

  -- one lane more
  pub given-more : (lanes : List (Lane O K)) (lane : Lane O K) (i place given rows all : ℕ) → i < length lanes → lane ≡ get_or lanes i lane → given ≡ get_or (lane_counts lane) place 0 → rows + get_or (counts_in (drop i lanes)) place 0 ≡ all → rows + given + get_or (counts_in (drop (suc i) lanes)) place 0 ≡ all
  given-more lanes lane i place given rows all less is here known =
      let e : drop i lanes ≡ lane ∷ drop (suc i) lanes = drop-cons lanes i lane less ∙ ap (λ (y : Lane O K). y ∷ drop (suc i) lanes) (sym is) in
      omega (arith, here, known, ap (λ l. get_or (counts_in l) place 0) e, get-plus (lane_counts lane) (counts_in (drop (suc i) lanes)) place)

  pub given-on : (lanes : List (Lane O K)) (lane : Lane O K) (i place given rows all : ℕ) → i < length lanes → lane ≡ get_or lanes i lane → given ≡ get_or (lane_counts lane) place 0 → rows + get_or (counts_in (drop i lanes)) place 0 ≡ all → rows + given + get_or (counts_in (drop (i + 1) lanes)) place 0 ≡ all
  given-on lanes lane i place given rows all less is here known =
      let k : suc i ≡ i + 1 = omega arith in
      subst (λ (n : ℕ). rows + given + get_or (counts_in (drop n lanes)) place 0 ≡ all) k (given-more lanes lane i place given rows all less is here known)

  -- a place among the nodes is one of each lane
  pub place-in : (nodes : List ℕ) (lanes : List (Lane O K)) (i place : ℕ) (lane : Lane O K) → i < length lanes → lane ≡ get_or lanes i lane → All (HasNodes nodes) lanes → place < length nodes → place < length (lane_counts lane)
  place-in nodes lanes i place lane less is same inside =
      omega (arith, inside, same-length-of lane, ap (λ (l : Lane O K). length (lane_nodes l)) is, ap length (same i lane less))

  pub given-within : (limit : ℕ) (lanes : List (Lane O K)) (i place : ℕ) (lane : Lane O K) → i < length lanes → lane ≡ get_or lanes i lane → All (IsWithin limit) lanes → get_or (lane_counts lane) place 0 ≤ limit
  given-within limit lanes i place lane less is within =
      within-at limit (lane_counts lane) place (subst (λ (l : Lane O K). IsWithin limit l) (sym is) (within i lane less))

  -- the nodes of the first lane
  pub first-nodes : (lanes : List (Lane O K)) (x : Lane O K) → 0 < length lanes → x ≡ get_or lanes 0 x → nodes_in lanes ≡ lane_nodes x
  first-nodes [] x some is = absurd (omega arith)
  first-nodes (y ∷ lanes) x some is = ap lane_nodes (sym is)

  -- how many stages the first lane has
  pub same-len : (lanes : List (Lane O K)) (x : Lane O K) → x ≡ get_or lanes 0 x → length x.stages.items ≡ deque_len (get_or lanes 0 x).stages
  same-len lanes x is = subst (λ (l : Lane O K). length x.stages.items ≡ deque_len l.stages) is (omega arith)

  pub places : (lanes : List (Lane O K)) (x : Lane O K) → 0 < length lanes → x ≡ get_or lanes 0 x → length (nodes_in lanes) ≡ length x.stages.items + 1
  places lanes x some is = ap length (first-nodes lanes x some is) ∙ length-nodes x.stages.items x.target

  -- what the sinks hold was counted
  held-given : (held : K → List Row) (k : ℕ) (lanes : List (Lane O K)) → ((i : ℕ) (d : Lane O K) → i < length lanes → (length (get_or lanes i d).stages.items ≡ k) × (length (held (get_or lanes i d).target.sink) ≤ (get_or lanes i d).target.given)) → length (flat_map (held_in held) lanes) ≤ get_or (counts_in lanes) k 0
  held-given held k [] h = omega arith
  held-given held k (x ∷ lanes) h =
      let one = h 0 x (omega arith) in
      let count = count-target x.stages.items x.target k (omega (arith, one.0)) (omega (arith, one.0, length-counts x.stages.items x.target)) in
      omega (
        arith,
        one.1,
        count,
        held-given held k lanes (λ i d less. h (suc i) d (omega arith)),
        length-append (held_in held x) (flat_map (held_in held) lanes),
        get-plus (lane_counts x) (counts_in lanes) k,
      )

  pub held-within : (held : K → List Row) (limit : ℕ) (nodes : List ℕ) (lanes : List (Lane O K)) → All (HasNodes nodes) lanes → ((i : ℕ) (d : Lane O K) → i < length lanes → length (held (get_or lanes i d).target.sink) ≤ (get_or lanes i d).target.given) → AllWithin limit (counts_in lanes) → length (flat_map (held_in held) lanes) ≤ limit
  held-within held limit nodes lanes same room within =
      let k = length nodes - 1 in
      let sum = held-given held k lanes (λ i d less. ((let x = get_or lanes i d in omega (arith, length-nodes x.stages.items x.target, ap length (same i d less))), room i d less)) in
      omega (arith, sum, within-at limit (counts_in lanes) k within)

-- what one lane passes, all pass together
over-left : (limit : ℕ) (ns ms nodes : List ℕ) (node : ℕ) → Over limit ns nodes node → Over limit (plus ns ms) nodes node
over-left limit [] ms nodes node h = absurd h
over-left limit (n ∷ ns) [] nodes node h = h
over-left limit (n ∷ ns) (m ∷ ms) [] node h = absurd h
over-left limit (n ∷ ns) (m ∷ ms) (k ∷ nodes) node h = elim h [ inl p ↦ inl (p.0, omega (arith, p.1)) | inr q ↦ inr (over-left limit ns ms nodes node q) ]

over-right : (limit : ℕ) (ns ms nodes : List ℕ) (node : ℕ) → Over limit ms nodes node → Over limit (plus ns ms) nodes node
over-right limit [] ms nodes node h = h
over-right limit (n ∷ ns) [] nodes node h = absurd h
over-right limit (n ∷ ns) (m ∷ ms) [] node h = absurd h
over-right limit (n ∷ ns) (m ∷ ms) (k ∷ nodes) node h = elim h [ inl p ↦ inl (p.0, omega (arith, p.1)) | inr q ↦ inr (over-right limit ns ms nodes node q) ]

pub tells-left : (limit : ℕ) (ns ms nodes : List ℕ) (r : LaneFault) → Tells limit ns nodes r → Tells limit (plus ns ms) nodes r
tells-left limit ns ms nodes (TooMany node) h = over-left limit ns ms nodes node h
tells-left limit ns ms nodes Memory h = tt

pub tells-right : (limit : ℕ) (ns ms nodes : List ℕ) (r : LaneFault) → Tells limit ms nodes r → Tells limit (plus ns ms) nodes r
tells-right limit ns ms nodes (TooMany node) h = over-right limit ns ms nodes node h
tells-right limit ns ms nodes Memory h = tt
