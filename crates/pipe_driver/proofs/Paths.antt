-- A branch as it is cut, leg by leg.
use Rattle.std.proofs.Common.{◌≡◌, ℕ, zero, suc, ◌-◌, ◌<◌, ◌≤◌, Bool, true, false, not, cond, ◌||◌, eqb, List, [], ◌∷◌, ◌++◌, length, map, take, drop, refl, sym, ap, subst, ◌∙◌, arith, length-drop}
use Rattle.std.specs.List.{flat_map, list_all, AllByRecursion}
use Rattle.std.proofs.lemmas.List.{take_all, drop_all, take-append-le, drop-append-le, length_push}
use Rattle.pipe_plan.specs.Node.{Node}
use Rattle.pipe_plan.specs.Node as node
use Rattle.pipe_plan.specs.Plan.{Plan}
use Rattle.pipe_plan.specs.Under.{node_at, inputs_of, is_under}
use Rattle.pipe_plan.specs.Swap.{swaps}
use Rattle.pipe_plan.specs.Faults.{IsWellFormed}
use Rattle.pipe_driver.specs.declared.branch.SinkAt.{SinkAt}
use Rattle.pipe_driver.specs.declared.branch.SinkAt.TheVariants as at
use Rattle.pipe_driver.specs.Branches.{Path, PlacedSink, placed, path_from, sorted_paths, add_named, named_after, numbered_sinks, numbered_paths, is_scan_at, union_paths, node_paths, paths_of, plan_paths, built_side, probed_side, branches}
use Rattle.pipe_driver.specs.Branches as branch
use Rattle.pipe_driver.specs.Climbing.{turn_at}
use Rattle.pipe_driver.specs.Texts.{between}
use Rattle.pipe_driver.proofs.BranchChains.{AreWithin}
use Rattle.pipe_driver.proofs.Down.{node-turn, turn-is}
use Rattle.pipe_driver.proofs.Sound.{or-true, member, down-under}
use Rattle.pipe_driver.proofs.Covers.{side-member, self-member}
use Rattle.pipe_driver.proofs.Readers.{there-under, input-under}
use Rattle.pipe_driver.specs.Shape.{kind_of, union_kind}
use Rattle.pipe_driver.specs.Meaning.{tree_of}
use Rattle.pipe_driver.specs.Legs.{Leg, Way, sink_node, leg_of, legs_from, way_of, ways_of}
use Rattle.pipe_driver.proofs.Tests.{all-append}
use Rattle.pipe_driver.proofs.Trails.{Trail, through, closed_by, put_sink, sunk, trails_by, AreTrails}

-- ---- a path as a trail

abbrev pub path_legs : ℕ → List ℕ → ℕ → List PlacedSink → List Leg
path_legs size os first [] = []
path_legs size os first (k ∷ ks) = leg_of size (between os first k.offset) k.at ∷ path_legs size os k.offset ks

abbrev pub last_offset : ℕ → List PlacedSink → ℕ
last_offset first [] = first
last_offset first (k ∷ ks) = last_offset k.offset ks

abbrev pub last_node : ℕ → ℕ → List PlacedSink → ℕ
last_node size start [] = start
last_node size start (k ∷ ks) = last_node size (sink_node size k.at) ks

abbrev pub trail_of : ℕ → Path → Trail
trail_of size p = record {
  start = p.source;
  legs = path_legs size p.operators 0 p.sinks;
  from = last_node size p.source p.sinks;
  operators = drop (last_offset 0 p.sinks) p.operators;
  is_open = p.is_open;
}

abbrev path : ℕ → List ℕ → List PlacedSink → Bool → Path
path s os ks b = record { source = s; operators = os; sinks = ks; is_open = b }

-- each sink stands behind operators that are there
abbrev pub IsWithin : Path → Type 0
IsWithin p = AreWithin p.operators 0 p.sinks

last_le : (os : List ℕ) (first : ℕ) (ks : List PlacedSink) → AreWithin os first ks → last_offset first ks ≤ length os
last_le os first [] h = h
last_le os first (k ∷ ks) h = last_le os k.offset ks h.1

first_le : (os : List ℕ) (first : ℕ) (ks : List PlacedSink) → AreWithin os first ks → first ≤ length os
first_le os first [] h = h
first_le os first (k ∷ ks) h = let l = h.0 in let m = first_le os k.offset ks h.1 in omega arith

within_operator : (os : List ℕ) (n first : ℕ) (ks : List PlacedSink) → AreWithin os first ks → AreWithin (os ++ n ∷ []) first ks
within_operator os n first [] h = let e = length_push os n in omega arith
within_operator os n first (k ∷ ks) h = (h.0, within_operator os n k.offset ks h.1)

within_sink : (os : List ℕ) (a : SinkAt) (first : ℕ) (ks : List PlacedSink) → AreWithin os first ks → AreWithin os first (ks ++ placed (length os) a ∷ [])
within_sink os a first [] h = (h, omega arith)
within_sink os a first (k ∷ ks) h = (h.0, within_sink os a k.offset ks h.1)

legs_operator : (size : ℕ) (os : List ℕ) (n first : ℕ) (ks : List PlacedSink) → AreWithin os first ks → path_legs size (os ++ n ∷ []) first ks ≡ path_legs size os first ks
legs_operator size os n first [] h = refl
legs_operator size os n first (k ∷ ks) h =
    let le = h.0 in
    let le' = first_le os k.offset ks h.1 in
    let le'' = first_le os first (k ∷ ks) h in
    let long = length-drop first os in
    let same : between (os ++ n ∷ []) first k.offset ≡ between os first k.offset =
    ap (take (k.offset - first)) (drop-append-le first os (n ∷ []) le'') ∙ take-append-le (k.offset - first) (drop first os) (n ∷ []) (omega arith) in
    ap (λ l. leg_of size l k.at ∷ path_legs size (os ++ n ∷ []) k.offset ks) same
    ∙ ap (λ l. leg_of size (between os first k.offset) k.at ∷ l) (legs_operator size os n k.offset ks h.1)

legs_sink : (size : ℕ) (os : List ℕ) (a : SinkAt) (first : ℕ) (ks : List PlacedSink) → AreWithin os first ks → path_legs size os first (ks ++ placed (length os) a ∷ []) ≡ path_legs size os first ks ++ leg_of size (drop (last_offset first ks) os) a ∷ []
legs_sink size os a first [] h =
    let long = length-drop first os in
    let e : between os first (length os) ≡ drop first os = take_all (length os - first) (drop first os) (omega arith) in
    ap (λ l. leg_of size l a ∷ []) e
legs_sink size os a first (k ∷ ks) h = ap (λ l. leg_of size (between os first k.offset) k.at ∷ l) (legs_sink size os a k.offset ks h.1)

last_offset_sink : (first : ℕ) (ks : List PlacedSink) (s : PlacedSink) → last_offset first (ks ++ s ∷ []) ≡ s.offset
last_offset_sink first [] s = refl
last_offset_sink first (k ∷ ks) s = last_offset_sink k.offset ks s

last_node_sink : (size start : ℕ) (ks : List PlacedSink) (s : PlacedSink) → last_node size start (ks ++ s ∷ []) ≡ sink_node size s.at
last_node_sink size start [] s = refl
last_node_sink size start (k ∷ ks) s = last_node_sink size (sink_node size k.at) ks s

abbrev trail : ℕ → List Leg → ℕ → List ℕ → Bool → Trail
trail start legs from ops b = record { start = start; legs = legs; from = from; operators = ops; is_open = b }

through_one : (size n s : ℕ) (os : List ℕ) (ks : List PlacedSink) (b : Bool) → IsWithin (path s os ks b) → trail_of size (branch.through n (path s os ks b)) ≡ through n (trail_of size (path s os ks b))
through_one size n s os ks true h =
    ap (λ l. trail s l (last_node size s ks) (drop (last_offset 0 ks) (os ++ n ∷ [])) true) (legs_operator size os n 0 ks h)
    ∙ ap (λ l. trail s (path_legs size os 0 ks) (last_node size s ks) l true) (drop-append-le (last_offset 0 ks) os (n ∷ []) (last_le os 0 ks h))
through_one size n s os ks false h = refl

sink_one : (size : ℕ) (goes : Bool) (a : SinkAt) (s : ℕ) (os : List ℕ) (ks : List PlacedSink) (b : Bool) → IsWithin (path s os ks b) → trail_of size (branch.put_sink goes a (path s os ks b)) ≡ put_sink goes a (sink_node size a) (trail_of size (path s os ks b))
sink_one size goes a s os ks b h =
    let k = placed (length os) a in
    ap (λ l. trail s l (last_node size s (ks ++ k ∷ [])) (drop (last_offset 0 (ks ++ k ∷ [])) os) goes) (legs_sink size os a 0 ks h)
    ∙ ap (λ m. trail s (path_legs size os 0 ks ++ leg_of size (drop (last_offset 0 ks) os) a ∷ []) m (drop (last_offset 0 (ks ++ k ∷ [])) os) goes) (last_node_sink size s ks k)
    ∙ ap (λ m. trail s (path_legs size os 0 ks ++ leg_of size (drop (last_offset 0 ks) os) a ∷ []) (sink_node size a) (drop m os) goes) (last_offset_sink 0 ks k)
    ∙ ap (λ l. trail s (path_legs size os 0 ks ++ leg_of size (drop (last_offset 0 ks) os) a ∷ []) (sink_node size a) l goes) (drop_all (length os) os (omega arith))

cond_sink : (size : ℕ) (goes : Bool) (a : SinkAt) (s : ℕ) (os : List ℕ) (ks : List PlacedSink) (b : Bool) → IsWithin (path s os ks b)
    → trail_of size (cond b (branch.put_sink goes a (path s os ks b)) (path s os ks b)) ≡ cond b (put_sink goes a (sink_node size a) (trail_of size (path s os ks b))) (trail_of size (path s os ks b))
cond_sink size goes a s os ks true h = sink_one size goes a s os ks true h
cond_sink size goes a s os ks false h = refl

-- ---- lists of paths

through_all : (size n : ℕ) (ps : List Path) → AllByRecursion IsWithin ps → map (trail_of size) (map (branch.through n) ps) ≡ map (through n) (map (trail_of size) ps)
through_all size n [] h = refl
through_all size n (p ∷ ps) h =
    ap (λ x. x ∷ map (trail_of size) (map (branch.through n) ps)) (through_one size n p.source p.operators p.sinks p.is_open h.0)
    ∙ ap (λ l. through n (trail_of size p) ∷ l) (through_all size n ps h.1)

closed_all : (size : ℕ) (a : SinkAt) (ps : List Path) → AllByRecursion IsWithin ps → map (trail_of size) (map (branch.closed_by a) ps) ≡ map (closed_by a (sink_node size a)) (map (trail_of size) ps)
closed_all size a [] h = refl
closed_all size a (p ∷ ps) h =
    ap (λ x. x ∷ map (trail_of size) (map (branch.closed_by a) ps)) (cond_sink size false a p.source p.operators p.sinks p.is_open h.0)
    ∙ ap (λ l. closed_by a (sink_node size a) (trail_of size p) ∷ l) (closed_all size a ps h.1)

sorted_all : (size n : ℕ) (passed : Bool) (ps : List Path) → AllByRecursion IsWithin ps → map (trail_of size) (sorted_paths n passed ps) ≡ sunk (at.Sort n) n passed (map (trail_of size) ps)
sorted_all size n passed [] h = refl
sorted_all size n passed (p ∷ ps) h =
    ap (λ x. x ∷ map (trail_of size) (sorted_paths n (passed || p.is_open) ps)) (cond_sink size (not passed) (at.Sort n) p.source p.operators p.sinks p.is_open h.0)
    ∙ ap (λ l. cond p.is_open (put_sink (not passed) (at.Sort n) n (trail_of size p)) (trail_of size p) ∷ l) (sorted_all size n (passed || p.is_open) ps h.1)

map_append : {A B : Type 0} (f : A → B) (a b : List A) → map f (a ++ b) ≡ map f a ++ map f b
map_append f [] b = refl
map_append f (x ∷ a) b = ap (λ l. f x ∷ l) (map_append f a b)

map_flat : {A B C : Type 0} (f : B → C) (g : A → List B) (xs : List A) → map f (flat_map g xs) ≡ flat_map (λ a. map f (g a)) xs
map_flat f g [] = refl
map_flat f g (a ∷ xs) = map_append f (g a) (flat_map g xs) ∙ ap (λ l. map f (g a) ++ l) (map_flat f g xs)

-- ---- sinks stay behind operators that are there

within_through : (n : ℕ) (ps : List Path) → AllByRecursion IsWithin ps → AllByRecursion IsWithin (map (branch.through n) ps)
within_through n [] h = tt
within_through n (p ∷ ps) h =
    let split : (b : Bool) → IsWithin (cond b (branch.put_operator n p) p) = elim [ true ↦ within_operator p.operators n 0 p.sinks h.0 | false ↦ h.0 ] in
    (split p.is_open, within_through n ps h.1)

within_closed : (a : SinkAt) (ps : List Path) → AllByRecursion IsWithin ps → AllByRecursion IsWithin (map (branch.closed_by a) ps)
within_closed a [] h = tt
within_closed a (p ∷ ps) h =
    let split : (b : Bool) → IsWithin (cond b (branch.put_sink false a p) p) = elim [ true ↦ within_sink p.operators a 0 p.sinks h.0 | false ↦ h.0 ] in
    (split p.is_open, within_closed a ps h.1)

within_sorted : (n : ℕ) (passed : Bool) (ps : List Path) → AllByRecursion IsWithin ps → AllByRecursion IsWithin (sorted_paths n passed ps)
within_sorted n passed [] h = tt
within_sorted n passed (p ∷ ps) h =
    let split : (b : Bool) → IsWithin (cond b (branch.put_sink (not passed) (at.Sort n) p) p) = elim [ true ↦ within_sink p.operators (at.Sort n) 0 p.sinks h.0 | false ↦ h.0 ] in
    (split p.is_open, within_sorted n (passed || p.is_open) ps h.1)

within_flat : (below : ℕ → List Path) (is : List ℕ) → ((i : ℕ) → member i is ≡ true → AllByRecursion IsWithin (below i)) → AllByRecursion IsWithin (flat_map below is)
within_flat below [] h = tt
within_flat below (i ∷ is) h = all-append IsWithin (below i) (flat_map below is) (h i (self-member i is)) (within_flat below is (λ k m. h k (ap (λ b. eqb i k || b) m ∙ or-true (eqb i k))))

within_union : (below : ℕ → List Path) (n : ℕ) (is : List ℕ) (is_source : Bool) → ((i : ℕ) → member i is ≡ true → AllByRecursion IsWithin (below i)) → AllByRecursion IsWithin (union_paths is_source n below is)
within_union below n is true h = (omega arith, tt)
within_union below n is false h = within_through n (flat_map below is) (within_flat below is h)

within_node : (nodes : List Node) (below : ℕ → List Path) (n : ℕ) (x : Node) → ((i : ℕ) → member i (inputs_of x) ≡ true → AllByRecursion IsWithin (below i)) → AllByRecursion IsWithin (node_paths nodes below n x)
within_node nodes below n (node.DataFrameScan frame columns) h = (omega arith, tt)
within_node nodes below n (node.Filter i predicate) h = within_through n (below i) (h i (self-member i []))
within_node nodes below n (node.SimpleProjection i columns) h = within_through n (below i) (h i (self-member i []))
within_node nodes below n (node.Select i exprs) h = within_through n (below i) (h i (self-member i []))
within_node nodes below n (node.HStack i exprs) h = within_through n (below i) (h i (self-member i []))
within_node nodes below n (node.MapFunction i function) h = within_through n (below i) (h i (self-member i []))
within_node nodes below n (node.Union is) h = within_union below n is (list_all (is_scan_at nodes) is) h
within_node nodes below n (node.Join left right left_on right_on options) h =
    let members = side-member left right (swaps options) in
    let b = built_side left right options in
    let p = probed_side left right options in
    all-append IsWithin (map (branch.closed_by (at.Build n)) (below b)) (map (branch.through n) (below p)) (within_closed (at.Build n) (below b) (h b members.0)) (within_through n (below p) (h p members.1))
within_node nodes below n (node.Sort i by options) h = within_sorted n false (below i) (h i (self-member i []))

-- the paths of a node under the root are those of what is done at it
paths_are : (plan : Plan) (root n : ℕ) → IsWellFormed plan root → n < length plan.nodes → is_under plan.nodes root n ≡ true → paths_of plan.nodes n ≡ node_paths plan.nodes (paths_of plan.nodes) n (node_at plan.nodes n)
paths_are plan root n good there u =
    let nodes = plan.nodes in
    let x = node_at nodes n in
    let down = down-under plan root (length nodes) n good.faultless there (omega arith) u in
    let known = turn-is nodes n x (turn_at x) down refl refl in
    known.paths ∙ sym (node-turn nodes (paths_of nodes) n x)

all_within : (plan : Plan) (root b n : ℕ) → IsWellFormed plan root → n < b → b ≤ length plan.nodes → is_under plan.nodes root n ≡ true → AllByRecursion IsWithin (paths_of plan.nodes n)
all_within plan root zero n good lt le u = absurd (omega arith)
all_within plan root (suc b) n good lt le u =
    let nodes = plan.nodes in
    let there : n < length nodes = omega arith in
    let P : List Path → Type 0 = AllByRecursion IsWithin in
    subst P (sym (paths_are plan root n good there u)) (within_node nodes (paths_of nodes) n (node_at nodes n) (λ i m. (
    let l = there-under plan root n good there u i m in
    all_within plan root b i good (omega arith) (omega arith) (input-under plan root n i good there u m))))

pub within : (plan : Plan) (root n : ℕ) → IsWellFormed plan root → n < length plan.nodes → is_under plan.nodes root n ≡ true → AllByRecursion IsWithin (paths_of plan.nodes n)
within plan root n good there u = all_within plan root (length plan.nodes) n good there (omega arith) u

-- ---- the trails of a plan

abbrev pub trails : Plan → ℕ → List Trail
trails plan n = map (trail_of (length plan.nodes)) (paths_of plan.nodes n)

union_trails : (plan : Plan) (n : ℕ) (is : List ℕ) (is_source : Bool) → ((i : ℕ) → member i is ≡ true → AllByRecursion IsWithin (paths_of plan.nodes i))
    → map (trail_of (length plan.nodes)) (union_paths is_source n (paths_of plan.nodes) is) ≡ trails_by (trails plan) n (union_kind is_source is)
union_trails plan n is true h = refl
union_trails plan n is false h =
    let size = length plan.nodes in
    let ps = flat_map (paths_of plan.nodes) is in
    through_all size n ps (within_flat (paths_of plan.nodes) is h) ∙ ap (map (through n)) (map_flat (trail_of size) (paths_of plan.nodes) is)

node_trails : (plan : Plan) (n : ℕ) (x : Node) → ((i : ℕ) → member i (inputs_of x) ≡ true → AllByRecursion IsWithin (paths_of plan.nodes i))
    → map (trail_of (length plan.nodes)) (node_paths plan.nodes (paths_of plan.nodes) n x) ≡ trails_by (trails plan) n (kind_of plan.nodes x)
node_trails plan n (node.DataFrameScan frame columns) h = refl
node_trails plan n (node.Filter i predicate) h = through_all (length plan.nodes) n (paths_of plan.nodes i) (h i (self-member i []))
node_trails plan n (node.SimpleProjection i columns) h = through_all (length plan.nodes) n (paths_of plan.nodes i) (h i (self-member i []))
node_trails plan n (node.Select i exprs) h = through_all (length plan.nodes) n (paths_of plan.nodes i) (h i (self-member i []))
node_trails plan n (node.HStack i exprs) h = through_all (length plan.nodes) n (paths_of plan.nodes i) (h i (self-member i []))
node_trails plan n (node.MapFunction i function) h = through_all (length plan.nodes) n (paths_of plan.nodes i) (h i (self-member i []))
node_trails plan n (node.Union is) h = union_trails plan n is (list_all (is_scan_at plan.nodes) is) h
node_trails plan n (node.Join left right left_on right_on options) h =
    let size = length plan.nodes in
    let members = side-member left right (swaps options) in
    let b = built_side left right options in
    let p = probed_side left right options in
    map_append (trail_of size) (map (branch.closed_by (at.Build n)) (paths_of plan.nodes b)) (map (branch.through n) (paths_of plan.nodes p))
    ∙ ap (λ l. l ++ map (trail_of size) (map (branch.through n) (paths_of plan.nodes p))) (closed_all size (at.Build n) (paths_of plan.nodes b) (h b members.0))
    ∙ ap (λ l. map (closed_by (at.Build n) n) (trails plan b) ++ l) (through_all size n (paths_of plan.nodes p) (h p members.1))
node_trails plan n (node.Sort i by options) h = sorted_all (length plan.nodes) n false (paths_of plan.nodes i) (h i (self-member i []))

pub are_trails : (plan : Plan) (root : ℕ) → IsWellFormed plan root → ((n : ℕ) → is_under plan.nodes root n ≡ true → n < length plan.nodes) → AreTrails (tree_of plan root) (trails plan)
are_trails plan root good there n u =
    let size = length plan.nodes in
    ap (map (trail_of size)) (paths_are plan root n good (there n u) u)
    ∙ node_trails plan n (node_at plan.nodes n) (λ i m. (let l = there-under plan root n good (there n u) u i m in within plan root i good (let k = there n u in omega arith) (input-under plan root n i good (there n u) u m)))

-- ---- branches leg by leg

abbrev pub way_of_trail : Trail → Way
way_of_trail p = record { start = p.start; legs = p.legs }

legs_same : (size : ℕ) (named : List SinkAt) (os : List ℕ) (first : ℕ) (ks : List PlacedSink) → legs_from size os first (numbered_sinks named ks) ≡ path_legs size os first ks
legs_same size named os first [] = refl
legs_same size named os first (k ∷ ks) = ap (λ l. leg_of size (between os first k.offset) k.at ∷ l) (legs_same size (add_named named k.at) os k.offset ks)

ways_same : (size : ℕ) (named : List SinkAt) (ps : List Path) → map (way_of size) (numbered_paths named ps) ≡ map way_of_trail (map (trail_of size) ps)
ways_same size named [] = refl
ways_same size named (p ∷ ps) =
    ap (λ l. record { start = p.source; legs = l } ∷ map (way_of size) (numbered_paths (named_after named p.sinks) ps)) (legs_same size named p.operators 0 p.sinks)
    ∙ ap (λ l. way_of_trail (trail_of size p) ∷ l) (ways_same size (named_after named p.sinks) ps)

pub ways_are : (plan : Plan) (root : ℕ) → AllByRecursion IsWithin (paths_of plan.nodes root) → ways_of plan root ≡ map way_of_trail (map (closed_by at.Ordered (length plan.nodes)) (trails plan root))
ways_are plan root h =
    let size = length plan.nodes in
    ways_same size [] (plan_paths plan.nodes root) ∙ ap (map way_of_trail) (closed_all size at.Ordered (paths_of plan.nodes root) h)
