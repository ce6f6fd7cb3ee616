-- Each sink of a branch stands behind the one before, and the last behind all operators.
use Rattle.std.proofs.Common.{◌≡◌, ℕ, zero, suc, ◌<◌, ◌≤◌, Bool, true, false, not, cond, eqb, ◌||◌, List, [], ◌∷◌, ◌++◌, length, map, refl, ap, sym, subst, ◌∙◌, arith}
use Rattle.std.specs.List.{flat_map, list_all, AllByRecursion}
use Rattle.pipe_plan.specs.Faults.{IsWellFormed}
use Rattle.pipe_plan.specs.Node.{Node}
use Rattle.pipe_plan.specs.Node as node
use Rattle.pipe_plan.specs.Plan.{Plan}
use Rattle.pipe_plan.specs.Swap.{swaps}
use Rattle.pipe_plan.specs.Under.{inputs_of, is_under, node_at}
use Rattle.pipe_driver.specs.declared.branch.SinkAt.{SinkAt}
use Rattle.pipe_driver.specs.declared.branch.SinkAt.TheVariants as at
use Rattle.pipe_driver.specs.Branches.{Path, PlacedSink, placed, through, closed_by, sorted_paths, put_operator, put_sink, union_paths, node_paths, paths_of, plan_paths, add_named, named_after, numbered_sinks, numbered_paths, is_scan_at, built_side, probed_side, branches}
use Rattle.pipe_driver.specs.Climbing.{turn_at}
use Rattle.pipe_driver.proofs.BranchChains.{AreWithin}
use Rattle.pipe_driver.proofs.Covers.{side-member, self-member}
use Rattle.pipe_driver.proofs.Down.{node-turn, turn-is}
use Rattle.pipe_driver.proofs.Readers.{there-under, input-under}
use Rattle.pipe_driver.proofs.Sound.{member, or-true, down-under, under-self, root-there}
use Rattle.pipe_driver.proofs.Paths.{IsWithin, last_offset, within}
use Rattle.pipe_driver.proofs.PlanParts.{there}
use Rattle.pipe_driver.proofs.Tests.{all-append}
use Rattle.pipe_check.specs.Checked.{Checked}
use Rattle.pipe_convert.specs.Nodes.{plan_in, nodes_in}
use Rattle.pipe_lines.specs.Lines.{AreEnds, HasEnds}

-- ---- a path that is closed ends in a sink behind all its operators

last_placed : (first : ℕ) (ks : List PlacedSink) (s : PlacedSink) → last_offset first (ks ++ s ∷ []) ≡ s.offset
last_placed first [] s = refl
last_placed first (k ∷ ks) s = last_placed k.offset ks s

abbrev IsShut : Path → Type 0
IsShut p = p.is_open ≡ false → last_offset 0 p.sinks ≡ length p.operators

abbrev AllShut : List Path → Type 0
AllShut ps = AllByRecursion IsShut ps

shut_sink : (goes : Bool) (a : SinkAt) (p : Path) → IsShut (put_sink goes a p)
shut_sink goes a p e = last_placed 0 p.sinks (placed (length p.operators) a)

shut_through : (n : ℕ) (ps : List Path) → AllShut ps → AllShut (map (through n) ps)
shut_through n [] h = tt
shut_through n (p ∷ ps) h =
    let split : (b : Bool) → p.is_open ≡ b → IsShut (cond b (put_operator n p) p) = elim [ true ↦ λ e f. absurd (let g : true ≡ false = sym e ∙ f in cc) | false ↦ λ e. h.0 ] in
    (split p.is_open refl, shut_through n ps h.1)

shut_closed : (a : SinkAt) (ps : List Path) → AllShut ps → AllShut (map (closed_by a) ps)
shut_closed a [] h = tt
shut_closed a (p ∷ ps) h =
    let split : (b : Bool) → IsShut (cond b (put_sink false a p) p) = elim [ true ↦ shut_sink false a p | false ↦ h.0 ] in
    (split p.is_open, shut_closed a ps h.1)

shut_sorted : (n : ℕ) (passed : Bool) (ps : List Path) → AllShut ps → AllShut (sorted_paths n passed ps)
shut_sorted n passed [] h = tt
shut_sorted n passed (p ∷ ps) h =
    let split : (b : Bool) → IsShut (cond b (put_sink (not passed) (at.Sort n) p) p) = elim [ true ↦ shut_sink (not passed) (at.Sort n) p | false ↦ h.0 ] in
    (split p.is_open, shut_sorted n (passed || p.is_open) ps h.1)

shut_flat : (below : ℕ → List Path) (is : List ℕ) → ((i : ℕ) → member i is ≡ true → AllShut (below i)) → AllShut (flat_map below is)
shut_flat below [] h = tt
shut_flat below (i ∷ is) h = all-append IsShut (below i) (flat_map below is) (h i (self-member i is)) (shut_flat below is (λ k m. h k (ap (λ b. eqb i k || b) m ∙ or-true (eqb i k))))

shut_union : (below : ℕ → List Path) (n : ℕ) (is : List ℕ) (is_source : Bool) → ((i : ℕ) → member i is ≡ true → AllShut (below i)) → AllShut (union_paths is_source n below is)
shut_union below n is true h = ((λ e. absurd (let g : true ≡ false = e in cc)), tt)
shut_union below n is false h = shut_through n (flat_map below is) (shut_flat below is h)

shut_node : (nodes : List Node) (below : ℕ → List Path) (n : ℕ) (x : Node) → ((i : ℕ) → member i (inputs_of x) ≡ true → AllShut (below i)) → AllShut (node_paths nodes below n x)
shut_node nodes below n (node.DataFrameScan frame columns) h = ((λ e. absurd (let g : true ≡ false = e in cc)), tt)
shut_node nodes below n (node.Filter i predicate) h = shut_through n (below i) (h i (self-member i []))
shut_node nodes below n (node.SimpleProjection i columns) h = shut_through n (below i) (h i (self-member i []))
shut_node nodes below n (node.Select i exprs) h = shut_through n (below i) (h i (self-member i []))
shut_node nodes below n (node.HStack i exprs) h = shut_through n (below i) (h i (self-member i []))
shut_node nodes below n (node.MapFunction i function) h = shut_through n (below i) (h i (self-member i []))
shut_node nodes below n (node.Union is) h = shut_union below n is (list_all (is_scan_at nodes) is) h
shut_node nodes below n (node.Join left right left_on right_on options) h =
    let members = side-member left right (swaps options) in
    let b = built_side left right options in
    let p = probed_side left right options in
    all-append IsShut (map (closed_by (at.Build n)) (below b)) (map (through n) (below p)) (shut_closed (at.Build n) (below b) (h b members.0)) (shut_through n (below p) (h p members.1))
shut_node nodes below n (node.Sort i by options) h = shut_sorted n false (below i) (h i (self-member i []))

-- the paths of a node under the root are those of what is done at it
paths_are : (plan : Plan) (root n : ℕ) → IsWellFormed plan root → n < length plan.nodes → is_under plan.nodes root n ≡ true → paths_of plan.nodes n ≡ node_paths plan.nodes (paths_of plan.nodes) n (node_at plan.nodes n)
paths_are plan root n good lt u =
    let nodes = plan.nodes in
    let x = node_at nodes n in
    let down = down-under plan root (length nodes) n good.faultless lt (omega arith) u in
    let known = turn-is nodes n x (turn_at x) down refl refl in
    known.paths ∙ sym (node-turn nodes (paths_of nodes) n x)

all_shut : (plan : Plan) (root b n : ℕ) → IsWellFormed plan root → n < b → b ≤ length plan.nodes → is_under plan.nodes root n ≡ true → AllShut (paths_of plan.nodes n)
all_shut plan root zero n good lt le u = absurd (omega arith)
all_shut plan root (suc b) n good lt le u =
    let nodes = plan.nodes in
    let lt' : n < length nodes = omega arith in
    subst AllShut (sym (paths_are plan root n good lt' u)) (shut_node nodes (paths_of nodes) n (node_at nodes n) (λ i m. (
    let l = there-under plan root n good lt' u i m in
    all_shut plan root b i good (omega arith) (omega arith) (input-under plan root n i good lt' u m))))

-- ---- branches

within_placed : (os : List ℕ) (a : SinkAt) (first : ℕ) (ks : List PlacedSink) → AreWithin os first ks → AreWithin os first (ks ++ placed (length os) a ∷ [])
within_placed os a first [] h = (h, omega arith)
within_placed os a first (k ∷ ks) h = (h.0, within_placed os a k.offset ks h.1)

ends_numbered : (named : List SinkAt) (os : List ℕ) (first : ℕ) (ks : List PlacedSink) → AreWithin os first ks → last_offset first ks ≡ length os → AreEnds (length os) first (numbered_sinks named ks)
ends_numbered named os first [] h e = e
ends_numbered named os first (k ∷ ks) h e = (h.0, ends_numbered (add_named named k.at) os k.offset ks h.1 e)

ends_closed : (named : List SinkAt) (a : SinkAt) (p : Path) → IsWithin p → IsShut p → AreEnds (length (closed_by a p).operators) 0 (numbered_sinks named (closed_by a p).sinks)
ends_closed named a p h shut =
    let C : Path → Type 0 = λ q. AreEnds (length q.operators) 0 (numbered_sinks named q.sinks) in
    let split : (b : Bool) → p.is_open ≡ b → C (cond b (put_sink false a p) p) = elim [
      | true ↦ λ e. ends_numbered named p.operators 0 (p.sinks ++ placed (length p.operators) a ∷ []) (within_placed p.operators a 0 p.sinks h) (last_placed 0 p.sinks (placed (length p.operators) a))
      | false ↦ λ e. ends_numbered named p.operators 0 p.sinks h (shut e)
    ] in
    split p.is_open refl

ends_branches : (named : List SinkAt) (a : SinkAt) (ps : List Path) → AllByRecursion IsWithin ps → AllShut ps → AllByRecursion HasEnds (numbered_paths named (map (closed_by a) ps))
ends_branches named a [] h shut = tt
ends_branches named a (p ∷ ps) h shut = (ends_closed named a p h.0 shut.0, ends_branches (named_after named (closed_by a p).sinks) a ps h.1 shut.1)

pub all_ends : (plan : Checked) → IsWellFormed (plan_in plan) plan.root → AllByRecursion HasEnds (branches (plan_in plan) plan.root)
all_ends plan good =
    let p = plan_in plan in
    let u = under-self p.nodes plan.root (root-there p plan.root good.faultless).0 in
    let lt = there p plan.root plan.root good u in
    ends_branches [] at.Ordered (paths_of p.nodes plan.root) (within p plan.root plan.root good lt u) (all_shut p plan.root (length p.nodes) plan.root good lt (omega arith) u)
