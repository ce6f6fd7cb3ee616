-- The first branch of a plan that comes to a sort goes on behind it, so the first one that is left ends in no sort.
use Rattle.std.proofs.Common.{◌≡◌, ℕ, zero, suc, ◌+◌, ◌<◌, ◌==◌, Bool, true, false, not, cond, ◌||◌, List, [], ◌∷◌, ◌++◌, map, length, refl, sym, ap, subst, ◌∙◌, inl, inr, arith}
use Rattle.std.specs.List.{flat_map, list_any, list_all, AllByRecursion}
use Rattle.pipe_plan.specs.Node.{Node}
use Rattle.pipe_plan.specs.Node as node
use Rattle.pipe_plan.specs.Plan.{Plan}
use Rattle.pipe_plan.specs.Under.{node_at}
use Rattle.pipe_plan.specs.Walk.{walk}
use Rattle.pipe_driver.specs.declared.branch.Branch.{Branch}
use Rattle.pipe_driver.specs.declared.branch.SinkAt.{SinkAt}
use Rattle.pipe_driver.specs.declared.branch.SinkAt.TheVariants as at
use Rattle.pipe_driver.specs.declared.branch.SinkNode.{SinkNode}
use Rattle.pipe_driver.specs.Branches.{Path, PlacedSink, placed, through, closed_by, put_sink, sorted_paths, is_sort, is_scan_at, add_named, named_after, numbered_sinks, numbered_paths, union_paths, join_paths, node_paths, paths_at, paths_of, plan_paths, built_side, probed_side, branches}
use Rattle.pipe_driver.specs.Fronts.{IsClosed}
use Rattle.pipe_driver.specs.Legs.{Leg, Way, sink_node, legs_from, way_of, ways_of}
use Rattle.pipe_driver.specs.Ways.{one, legs_to, way_to, feeds}
use Rattle.pipe_driver.proofs.Tests.{by_test, eq-is, eq-true, or-case, or-first, or-right}

-- ---- whether a path comes to a sort, and whether it ends there

record Mark : Type 0 where
  pub comes : Bool
  pub ends : Bool

abbrev marked : Bool → Bool → Mark
marked c e = record { comes = c; ends = e }

abbrev comes_to : ℕ → List SinkAt → Bool
comes_to n sinks = list_any (is_sort n) sinks

abbrev pub ends_at : ℕ → List SinkAt → Bool
ends_at n [] = false
ends_at n (sink ∷ []) = is_sort n sink
ends_at n (sink ∷ next ∷ sinks) = ends_at n (next ∷ sinks)

abbrev at_of : PlacedSink → SinkAt
at_of sink = sink.at

abbrev path : ℕ → List ℕ → List PlacedSink → Bool → Path
path s os ks b = record { source = s; operators = os; sinks = ks; is_open = b }

abbrev mark : ℕ → Path → Mark
mark n p = marked (comes_to n (map at_of p.sinks)) (cond p.is_open false (ends_at n (map at_of p.sinks)))

abbrev marks : ℕ → List Path → List Mark
marks n ps = map (mark n) ps

-- the first that comes there doesn't end there
abbrev first_on : List Mark → Bool
first_on [] = true
first_on (m ∷ ms) = cond m.comes (not m.ends) (first_on ms)

on_append : (a b : List Mark) → first_on a ≡ true → first_on b ≡ true → first_on (a ++ b) ≡ true
on_append [] b f g = g
on_append (m ∷ a) b f g =
    by_test (first_on (m ∷ (a ++ b)) ≡ true) m.comes
    (λ e. ap (λ c. cond c (not m.ends) (first_on (a ++ b))) e ∙ sym (ap (λ c. cond c (not m.ends) (first_on a)) e) ∙ f)
    (λ e. ap (λ c. cond c (not m.ends) (first_on (a ++ b))) e ∙ on_append a b (sym (ap (λ c. cond c (not m.ends) (first_on a)) e) ∙ f) g)

marks_append : (n : ℕ) (a b : List Path) → marks n (a ++ b) ≡ marks n a ++ marks n b
marks_append n [] b = refl
marks_append n (p ∷ a) b = ap (λ l. mark n p ∷ l) (marks_append n a b)

-- ---- one sink more

or_none : (b : Bool) → (b || false) ≡ b
or_none true = refl
or_none false = refl

comes_more : (n : ℕ) (ks : List PlacedSink) (k : PlacedSink) → comes_to n (map at_of (ks ++ k ∷ [])) ≡ (comes_to n (map at_of ks) || is_sort n k.at)
comes_more n [] k = or_none (is_sort n k.at)
comes_more n (l ∷ ks) k =
    let rest = comes_more n ks k in
    let split : (b : Bool) → (b || comes_to n (map at_of (ks ++ k ∷ []))) ≡ ((b || comes_to n (map at_of ks)) || is_sort n k.at) = elim [ true ↦ refl | false ↦ rest ] in
    split (is_sort n l.at)

ends_more : (n : ℕ) (ks : List PlacedSink) (k : PlacedSink) → ends_at n (map at_of (ks ++ k ∷ [])) ≡ is_sort n k.at
ends_more n [] k = refl
ends_more n (l ∷ []) k = refl
ends_more n (l ∷ m ∷ ks) k = ends_more n (m ∷ ks) k

-- a sink that isn't the sort's changes no mark
same_comes : (n : ℕ) (ks : List PlacedSink) (k : PlacedSink) → is_sort n k.at ≡ false → comes_to n (map at_of (ks ++ k ∷ [])) ≡ comes_to n (map at_of ks)
same_comes n ks k none = comes_more n ks k ∙ ap (λ b. comes_to n (map at_of ks) || b) none ∙ or_none (comes_to n (map at_of ks))

through_path : (n k s : ℕ) (os : List ℕ) (ks : List PlacedSink) (b : Bool) → mark n (through k (path s os ks b)) ≡ mark n (path s os ks b)
through_path n k s os ks true = refl
through_path n k s os ks false = refl

closed_path : (n : ℕ) (sink : SinkAt) (s : ℕ) (os : List ℕ) (ks : List PlacedSink) (b : Bool) → is_sort n sink ≡ false → mark n (closed_by sink (path s os ks b)) ≡ mark n (path s os ks b)
closed_path n sink s os ks true none =
    let k = placed (length os) sink in
    ap (λ c. marked c (ends_at n (map at_of (ks ++ k ∷ [])))) (same_comes n ks k none) ∙ ap (λ e. marked (comes_to n (map at_of ks)) e) (ends_more n ks k ∙ none)
closed_path n sink s os ks false none = refl

through_marks : (n k : ℕ) (ps : List Path) → marks n (map (through k) ps) ≡ marks n ps
through_marks n k [] = refl
through_marks n k (p ∷ ps) = ap (λ m. m ∷ marks n (map (through k) ps)) (through_path n k p.source p.operators p.sinks p.is_open) ∙ ap (λ l. mark n p ∷ l) (through_marks n k ps)

closed_marks : (n : ℕ) (sink : SinkAt) (ps : List Path) → is_sort n sink ≡ false → marks n (map (closed_by sink) ps) ≡ marks n ps
closed_marks n sink [] none = refl
closed_marks n sink (p ∷ ps) none = ap (λ m. m ∷ marks n (map (closed_by sink) ps)) (closed_path n sink p.source p.operators p.sinks p.is_open none) ∙ ap (λ l. mark n p ∷ l) (closed_marks n sink ps none)

-- ---- a sort

abbrev sorted_path : ℕ → Bool → Path → Path
sorted_path k is_passed p = cond p.is_open (put_sink (not is_passed) (at.Sort k) p) p

-- another one changes no mark
other_path : (n k : ℕ) (is_passed : Bool) (s : ℕ) (os : List ℕ) (ks : List PlacedSink) (b : Bool) → (n == k) ≡ false → mark n (sorted_path k is_passed (path s os ks b)) ≡ mark n (path s os ks b)
other_path n k is_passed s os ks false other = refl
other_path n k true s os ks true other =
    let l = placed (length os) (at.Sort k) in
    ap (λ c. marked c (ends_at n (map at_of (ks ++ l ∷ [])))) (same_comes n ks l other) ∙ ap (λ e. marked (comes_to n (map at_of ks)) e) (ends_more n ks l ∙ other)
other_path n k false s os ks true other =
    let l = placed (length os) (at.Sort k) in
    ap (λ c. marked c false) (same_comes n ks l other)

other_sort : (n k : ℕ) (is_passed : Bool) (ps : List Path) → (n == k) ≡ false → marks n (sorted_paths k is_passed ps) ≡ marks n ps
other_sort n k is_passed [] other = refl
other_sort n k is_passed (p ∷ ps) other =
    ap (λ m. m ∷ marks n (sorted_paths k (is_passed || p.is_open) ps)) (other_path n k is_passed p.source p.operators p.sinks p.is_open other)
    ∙ ap (λ l. mark n p ∷ l) (other_sort n k (is_passed || p.is_open) ps other)

-- of those that come to it the first goes on
own_sort : (n : ℕ) (ps : List Path) → first_on (marks n ps) ≡ true → first_on (marks n (sorted_paths n false ps)) ≡ true
own_sort n [] h = refl
own_sort n (p ∷ ps) h =
    let head : (b : Bool) → p.is_open ≡ b → first_on (marks n (sorted_paths n false (p ∷ ps))) ≡ true = elim [
      | true ↦ λ e. (
          let l = placed (length p.operators) (at.Sort n) in
          let here : comes_to n (map at_of (p.sinks ++ l ∷ [])) ≡ true = comes_more n p.sinks l ∙ or-right (comes_to n (map at_of p.sinks)) (n == n) (eq-true n n refl) in
          let G : Bool → Type 0 = λ b. first_on (mark n (cond b (put_sink true (at.Sort n) p) p) ∷ marks n (sorted_paths n b ps)) ≡ true in
          let goes : G true = ap (λ c. cond c true (first_on (marks n (sorted_paths n true ps)))) here in
          subst G (sym e) goes)
      | false ↦ λ e. (
          let rest = first_on (marks n (sorted_paths n false ps)) in
          let G : Bool → Type 0 = λ b. first_on (mark n (cond b (put_sink true (at.Sort n) p) p) ∷ marks n (sorted_paths n b ps)) ≡ true in
          let shut : G false =
          by_test (cond (mark n p).comes (not (mark n p).ends) rest ≡ true) (mark n p).comes
          (λ f. ap (λ c. cond c (not (mark n p).ends) rest) f ∙ sym (ap (λ c. cond c (not (mark n p).ends) (first_on (marks n ps))) f) ∙ h)
          (λ f. ap (λ c. cond c (not (mark n p).ends) rest) f ∙ own_sort n ps (sym (ap (λ c. cond c (not (mark n p).ends) (first_on (marks n ps))) f) ∙ h))
          in
          subst G (sym e) shut)
    ] in head p.is_open refl

sort_on : (n k : ℕ) (ps : List Path) → first_on (marks n ps) ≡ true → first_on (marks n (sorted_paths k false ps)) ≡ true
sort_on n k ps h =
    by_test (first_on (marks n (sorted_paths k false ps)) ≡ true) (n == k)
    (λ e. (let P : ℕ → Type 0 = λ m. first_on (marks n (sorted_paths m false ps)) ≡ true in subst P (eq-is n k e) (own_sort n ps h)))
    (λ e. ap first_on (other_sort n k false ps e) ∙ h)

-- ---- a node over its inputs, and all nodes

abbrev GoOn : ℕ → (ℕ → List Path) → Type 0
GoOn n below = (i : ℕ) → first_on (marks n (below i)) ≡ true

through_on : (n k : ℕ) (ps : List Path) → first_on (marks n ps) ≡ true → first_on (marks n (map (through k) ps)) ≡ true
through_on n k ps h = ap first_on (through_marks n k ps) ∙ h

flat_on : (n : ℕ) (below : ℕ → List Path) (is : List ℕ) → GoOn n below → first_on (marks n (flat_map below is)) ≡ true
flat_on n below [] h = refl
flat_on n below (i ∷ is) h = ap first_on (marks_append n (below i) (flat_map below is)) ∙ on_append (marks n (below i)) (marks n (flat_map below is)) (h i) (flat_on n below is h)

union_on : (n k : ℕ) (is_source : Bool) (below : ℕ → List Path) (is : List ℕ) → GoOn n below → first_on (marks n (union_paths is_source k below is)) ≡ true
union_on n k true below is h = refl
union_on n k false below is h = through_on n k (flat_map below is) (flat_on n below is h)

join_on : (n k : ℕ) (built probed : List Path) → first_on (marks n built) ≡ true → first_on (marks n probed) ≡ true → first_on (marks n (join_paths k built probed)) ≡ true
join_on n k built probed f g =
    ap first_on (marks_append n (map (closed_by (at.Build k)) built) (map (through k) probed))
    ∙ on_append (marks n (map (closed_by (at.Build k)) built)) (marks n (map (through k) probed)) (ap first_on (closed_marks n (at.Build k) built refl) ∙ f) (through_on n k probed g)

node_on : (nodes : List Node) (n : ℕ) (below : ℕ → List Path) (k : ℕ) (x : Node) → GoOn n below → first_on (marks n (node_paths nodes below k x)) ≡ true
node_on nodes n below k (node.DataFrameScan frame columns) h = refl
node_on nodes n below k (node.Filter input predicate) h = through_on n k (below input) (h input)
node_on nodes n below k (node.SimpleProjection input columns) h = through_on n k (below input) (h input)
node_on nodes n below k (node.Select input exprs) h = through_on n k (below input) (h input)
node_on nodes n below k (node.HStack input exprs) h = through_on n k (below input) (h input)
node_on nodes n below k (node.MapFunction input function) h = through_on n k (below input) (h input)
node_on nodes n below k (node.Union inputs) h = union_on n k (list_all (is_scan_at nodes) inputs) below inputs h
node_on nodes n below k (node.Join left right left_on right_on options) h = join_on n k (below (built_side left right options)) (below (probed_side left right options)) (h (built_side left right options)) (h (probed_side left right options))
node_on nodes n below k (node.Sort input by options) h = sort_on n k (below input) (h input)

walk_on : (nodes : List Node) (n b k : ℕ) → first_on (marks n (walk [] (paths_at nodes) b k)) ≡ true
walk_on nodes n zero k = refl
walk_on nodes n (suc b) k =
    let split : (t : Bool) → first_on (marks n (cond t (paths_at nodes (walk [] (paths_at nodes) b) b) (walk [] (paths_at nodes) b k))) ≡ true = elim [
      | true ↦ node_on nodes n (walk [] (paths_at nodes) b) b (node_at nodes b) (λ i. walk_on nodes n b i)
      | false ↦ walk_on nodes n b k
    ] in split (k == b)

plan_on : (plan : Plan) (root n : ℕ) → first_on (marks n (plan_paths plan.nodes root)) ≡ true
plan_on plan root n = ap first_on (closed_marks n at.Ordered (paths_of plan.nodes root) refl) ∙ walk_on plan.nodes n (length plan.nodes) root

-- ---- from paths to branches

abbrev pub leg_at : Leg → SinkAt
leg_at leg = leg.at

abbrev way_mark : ℕ → Way → Mark
way_mark n w = marked (comes_to n (map leg_at w.legs)) (ends_at n (map leg_at w.legs))

legs_at : (size : ℕ) (named : List SinkAt) (os : List ℕ) (first : ℕ) (ks : List PlacedSink) → map leg_at (legs_from size os first (numbered_sinks named ks)) ≡ map at_of ks
legs_at size named os first [] = refl
legs_at size named os first (k ∷ ks) = ap (λ l. k.at ∷ l) (legs_at size (add_named named k.at) os k.offset ks)

abbrev IsShut : Path → Type 0
IsShut p = p.is_open ≡ false

shut_path : (sink : SinkAt) (s : ℕ) (os : List ℕ) (ks : List PlacedSink) (b : Bool) → IsShut (closed_by sink (path s os ks b))
shut_path sink s os ks true = refl
shut_path sink s os ks false = refl

all_shut : (sink : SinkAt) (ps : List Path) → AllByRecursion IsShut (map (closed_by sink) ps)
all_shut sink [] = tt
all_shut sink (p ∷ ps) = (shut_path sink p.source p.operators p.sinks p.is_open, all_shut sink ps)

ways_marks : (n size : ℕ) (named : List SinkAt) (ps : List Path) → AllByRecursion IsShut ps → map (way_mark n) (map (way_of size) (numbered_paths named ps)) ≡ marks n ps
ways_marks n size named [] shut = refl
ways_marks n size named (p ∷ ps) shut =
    let later = named_after named p.sinks in
    let rest = map (way_mark n) (map (way_of size) (numbered_paths later ps)) in
    let same = legs_at size named p.operators 0 p.sinks in
    let ends : ends_at n (map at_of p.sinks) ≡ cond p.is_open false (ends_at n (map at_of p.sinks)) = sym (ap (λ b. cond b false (ends_at n (map at_of p.sinks))) shut.0) in
    ap (λ l. marked (comes_to n l) (ends_at n l) ∷ rest) same
    ∙ ap (λ e. marked (comes_to n (map at_of p.sinks)) e ∷ rest) ends
    ∙ ap (λ l. mark n p ∷ l) (ways_marks n size later ps shut.1)

-- a leg with the sort's sink feeds it
abbrev Feeds : ℕ → Way → Type 0
Feeds n w = comes_to n (map leg_at w.legs) ≡ true → 0 < way_to n w

sort_number : (n size : ℕ) (sink : SinkAt) → is_sort n sink ≡ true → sink_node size sink ≡ n
sort_number n size at.Ordered e = absurd (let f : false ≡ true = e in cc)
sort_number n size (at.Sort k) e = sym (eq-is n k e)
sort_number n size (at.Build k) e = absurd (let f : false ≡ true = e in cc)

legs_feed : (n size : ℕ) (os : List ℕ) (first : ℕ) (ks : List SinkNode) → comes_to n (map leg_at (legs_from size os first ks)) ≡ true → 0 < legs_to n (legs_from size os first ks)
legs_feed n size os first [] e = absurd (let f : false ≡ true = e in cc)
legs_feed n size os first (k ∷ ks) e =
    elim (or-case (is_sort n k.at) (comes_to n (map leg_at (legs_from size os k.offset ks))) e) [
      | inl h ↦ (let t : one (sink_node size k.at == n) ≡ 1 = ap one (eq-true (sink_node size k.at) n (sort_number n size k.at h)) in omega (arith, t))
      | inr h ↦ (let rest = legs_feed n size os k.offset ks h in omega (arith, rest))
    ]

all_feed : (n size : ℕ) (bs : List Branch) → AllByRecursion (Feeds n) (map (way_of size) bs)
all_feed n size [] = tt
all_feed n size (b ∷ bs) = (λ e. legs_feed n size b.operators 0 b.sinks e, all_feed n size bs)

-- ---- the first that is left

ends_come : (n : ℕ) (sinks : List SinkAt) → ends_at n sinks ≡ true → comes_to n sinks ≡ true
ends_come n [] e = absurd (let f : false ≡ true = e in cc)
ends_come n (sink ∷ []) e = or-first (is_sort n sink) false e
ends_come n (sink ∷ next ∷ sinks) e = or-right (is_sort n sink) (comes_to n (next ∷ sinks)) (ends_come n (next ∷ sinks) e)

came_before : (n : ℕ) (ran : List Way) (first : Way) (ps : List Way) → first_on (map (way_mark n) (ran ++ first ∷ ps)) ≡ true → AllByRecursion (Feeds n) (ran ++ first ∷ ps) → ends_at n (map leg_at first.legs) ≡ true → 0 < feeds n ran
came_before n [] first ps on are ends =
    let m = way_mark n first in
    let rest = first_on (map (way_mark n) ps) in
    let came : cond m.comes (not m.ends) rest ≡ not m.ends = ap (λ c. cond c (not m.ends) rest) (ends_come n (map leg_at first.legs) ends) in
    absurd (let f : false ≡ true = sym (ap not ends) ∙ sym came ∙ on in cc)
came_before n (w ∷ ran) first ps on are ends =
    let m = way_mark n w in
    let rest = first_on (map (way_mark n) (ran ++ first ∷ ps)) in
    by_test (0 < feeds n (w ∷ ran)) m.comes
    (λ e. (let fed = are.0 e in omega (arith, fed)))
    (λ e. (let fed = came_before n ran first ps (sym (ap (λ c. cond c (not m.ends) rest) e) ∙ on) are.1 ends in omega (arith, fed)))

feeds_first : (n : ℕ) (ran : List Way) (first : Way) (ps : List Way) → AllByRecursion (Feeds n) (ran ++ first ∷ ps) → comes_to n (map leg_at first.legs) ≡ true → 0 < way_to n first
feeds_first n [] first ps are comes = are.0 comes
feeds_first n (w ∷ ran) first ps are comes = feeds_first n ran first ps are.1 comes

-- where those that ran feed nothing that is left
pub ends_in_no_sort : (plan : Plan) (root n : ℕ) (ran : List Way) (first : Way) (ps : List Way) → ran ++ first ∷ ps ≡ ways_of plan root → IsClosed ran (first ∷ ps) → ends_at n (map leg_at first.legs) ≡ true → ⊥
ends_in_no_sort plan root n ran first ps are closed ends =
    let size = length plan.nodes in
    let paths = plan_paths plan.nodes root in
    let F : List Way → Type 0 = AllByRecursion (Feeds n) in
    let all : F (ran ++ first ∷ ps) = subst F (sym are) (all_feed n size (branches plan root)) in
    let on : first_on (map (way_mark n) (ran ++ first ∷ ps)) ≡ true = ap (λ ws. first_on (map (way_mark n) ws)) are ∙ ap first_on (ways_marks n size [] paths (all_shut at.Ordered (paths_of plan.nodes root))) ∙ plan_on plan root n in
    let before = came_before n ran first ps on all ends in
    let none = closed n before in
    let fed = feeds_first n ran first ps all (ends_come n (map leg_at first.legs) ends) in
    omega (arith, none, fed)
