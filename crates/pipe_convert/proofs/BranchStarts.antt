-- The branches of a plan begin at scans, or unions of scans alone, under the root.
use Rattle.std.proofs.Common.{◌≡◌, ℕ, zero, suc, ◌<◌, ◌≤◌, Bool, true, false, not, cond, eqb, ◌||◌, List, [], ◌∷◌, length, map, refl, ap, sym, subst, ◌∙◌, arith}
use Rattle.std.specs.List.{flat_map, list_all, AllByRecursion}
use Rattle.pipe_plan.specs.Faults.{IsWellFormed}
use Rattle.pipe_plan.specs.Node.{Node}
use Rattle.pipe_plan.specs.Node as node
use Rattle.pipe_plan.specs.Plan.{Plan}
use Rattle.pipe_plan.specs.Swap.{swaps}
use Rattle.pipe_plan.specs.Under.{inputs_of, is_under, node_at}
use Rattle.pipe_driver.specs.declared.branch.SinkAt.{SinkAt}
use Rattle.pipe_driver.specs.declared.branch.SinkAt.TheVariants as at
use Rattle.pipe_driver.specs.declared.branch.Branch.{Branch}
use Rattle.pipe_driver.specs.Branches.{Path, through, closed_by, sorted_paths, put_operator, put_sink, union_paths, node_paths, paths_of, plan_paths, numbered_paths, named_after, is_scan_at, built_side, probed_side, branches}
use Rattle.pipe_driver.specs.Climbing.{turn_at}
use Rattle.pipe_driver.proofs.Down.{node-turn, turn-is}
use Rattle.pipe_driver.proofs.Sound.{member, or-true, down-under, under-self, root-there}
use Rattle.pipe_driver.specs.BranchLaws.{sinks_of}
use Rattle.pipe_check.specs.Checked.{Checked}
use Rattle.pipe_driver.specs.Legs.{way_of}
use Rattle.pipe_driver.specs.Ways.{IsWay}
use Rattle.pipe_driver.proofs.Numbered.{have_numbers}
use Rattle.pipe_driver.proofs.Runnable.{are_chains}
use Rattle.pipe_convert.specs.Laws.{IsBranch, BranchesAre, Numbered}
use Rattle.pipe_convert.specs.Nodes.{plan_in, nodes_in, meaning_in}
use Rattle.pipe_convert.proofs.Sums.{all_first, all_second}
use Rattle.pipe_driver.proofs.Covers.{side-member, self-member}
use Rattle.pipe_driver.proofs.Readers.{there-under, input-under}
use Rattle.pipe_driver.specs.Shape.{Begins, kind_at, kind_of, union_kind}
use Rattle.pipe_driver.proofs.PlanParts.{there}
use Rattle.pipe_driver.proofs.Tests.{all-append}

-- a source is under the root, and a scan or a union of scans alone
pub record StartsAt (plan : Plan) (root n : ℕ) : Type 0 where
  pub under : is_under plan.nodes root n ≡ true
  pub begins : kind_at plan.nodes n ≡ Begins

abbrev pub PathStarts : Plan → ℕ → Path → Type 0
PathStarts plan root p = StartsAt plan root p.source

abbrev pub BranchStarts : Plan → ℕ → Branch → Type 0
BranchStarts plan root b = StartsAt plan root b.source

module _ (plan : Plan) (root : ℕ) where
  abbrev All : List Path → Type 0
  All ps = AllByRecursion (PathStarts plan root) ps

  starts_through : (n : ℕ) (ps : List Path) → All ps → All (map (through n) ps)
  starts_through n [] h = tt
  starts_through n (p ∷ ps) h =
      let split : (b : Bool) → PathStarts plan root (cond b (put_operator n p) p) = elim [ true ↦ h.0 | false ↦ h.0 ] in
      (split p.is_open, starts_through n ps h.1)

  starts_closed : (a : SinkAt) (ps : List Path) → All ps → All (map (closed_by a) ps)
  starts_closed a [] h = tt
  starts_closed a (p ∷ ps) h =
      let split : (b : Bool) → PathStarts plan root (cond b (put_sink false a p) p) = elim [ true ↦ h.0 | false ↦ h.0 ] in
      (split p.is_open, starts_closed a ps h.1)

  starts_sorted : (n : ℕ) (passed : Bool) (ps : List Path) → All ps → All (sorted_paths n passed ps)
  starts_sorted n passed [] h = tt
  starts_sorted n passed (p ∷ ps) h =
      let split : (b : Bool) → PathStarts plan root (cond b (put_sink (not passed) (at.Sort n) p) p) = elim [ true ↦ h.0 | false ↦ h.0 ] in
      (split p.is_open, starts_sorted n (passed || p.is_open) ps h.1)

  starts_flat : (below : ℕ → List Path) (is : List ℕ) → ((i : ℕ) → member i is ≡ true → All (below i)) → All (flat_map below is)
  starts_flat below [] h = tt
  starts_flat below (i ∷ is) h = all-append (PathStarts plan root) (below i) (flat_map below is) (h i (self-member i is)) (starts_flat below is (λ k m. h k (ap (λ b. eqb i k || b) m ∙ or-true (eqb i k))))

  starts_union : (below : ℕ → List Path) (n : ℕ) (is : List ℕ) (b : Bool) → is_under plan.nodes root n ≡ true → kind_at plan.nodes n ≡ union_kind b is → ((i : ℕ) → member i is ≡ true → All (below i)) → All (union_paths b n below is)
  starts_union below n is true u kind h = (record { under = u; begins = kind }, tt)
  starts_union below n is false u kind h = starts_through n (flat_map below is) (starts_flat below is h)

  starts_node : (below : ℕ → List Path) (n : ℕ) (x : Node) → node_at plan.nodes n ≡ x → is_under plan.nodes root n ≡ true → ((i : ℕ) → member i (inputs_of x) ≡ true → All (below i)) → All (node_paths plan.nodes below n x)
  starts_node below n (node.DataFrameScan frame columns) is u h = (record { under = u; begins = ap (kind_of plan.nodes) is }, tt)
  starts_node below n (node.Filter i predicate) is u h = starts_through n (below i) (h i (self-member i []))
  starts_node below n (node.SimpleProjection i columns) is u h = starts_through n (below i) (h i (self-member i []))
  starts_node below n (node.Select i exprs) is u h = starts_through n (below i) (h i (self-member i []))
  starts_node below n (node.HStack i exprs) is u h = starts_through n (below i) (h i (self-member i []))
  starts_node below n (node.MapFunction i function) is u h = starts_through n (below i) (h i (self-member i []))
  starts_node below n (node.Union is) same u h = starts_union below n is (list_all (is_scan_at plan.nodes) is) u (ap (kind_of plan.nodes) same) h
  starts_node below n (node.Join left right left_on right_on options) is u h =
      let members = side-member left right (swaps options) in
      let b = built_side left right options in
      let p = probed_side left right options in
      all-append (PathStarts plan root) (map (closed_by (at.Build n)) (below b)) (map (through n) (below p)) (starts_closed (at.Build n) (below b) (h b members.0)) (starts_through n (below p) (h p members.1))
  starts_node below n (node.Sort i by options) is u h = starts_sorted n false (below i) (h i (self-member i []))

  paths_are : (n : ℕ) → IsWellFormed plan root → n < length plan.nodes → is_under plan.nodes root n ≡ true → paths_of plan.nodes n ≡ node_paths plan.nodes (paths_of plan.nodes) n (node_at plan.nodes n)
  paths_are n good lt u =
      let nodes = plan.nodes in
      let x = node_at nodes n in
      let down = down-under plan root (length nodes) n good.faultless lt (omega arith) u in
      let known = turn-is nodes n x (turn_at x) down refl refl in
      known.paths ∙ sym (node-turn nodes (paths_of nodes) n x)

  all_start : (b n : ℕ) → IsWellFormed plan root → n < b → b ≤ length plan.nodes → is_under plan.nodes root n ≡ true → All (paths_of plan.nodes n)
  all_start zero n good lt le u = absurd (omega arith)
  all_start (suc b) n good lt le u =
      let nodes = plan.nodes in
      let lt' : n < length nodes = omega arith in
      subst All (sym (paths_are n good lt' u)) (starts_node (paths_of nodes) n (node_at nodes n) refl u (λ i m. (
      let l = there-under plan root n good lt' u i m in
      all_start b i good (omega arith) (omega arith) (input-under plan root n i good lt' u m))))

  starts_numbered : (named : List SinkAt) (ps : List Path) → All ps → AllByRecursion (BranchStarts plan root) (numbered_paths named ps)
  starts_numbered named [] h = tt
  starts_numbered named (p ∷ ps) h = (h.0, starts_numbered (named_after named p.sinks) ps h.1)

  pub branches_start : IsWellFormed plan root → is_under plan.nodes root root ≡ true → AllByRecursion (BranchStarts plan root) (branches plan root)
  branches_start good u =
      starts_numbered [] (plan_paths plan.nodes root) (starts_closed at.Ordered (paths_of plan.nodes root) (all_start (length plan.nodes) root good (there plan root root good u) (omega arith) u))

-- ---- the branches of a checked plan

branches_by : (plan : Checked) (bs : List Branch) → AllByRecursion (BranchStarts (plan_in plan) plan.root) bs → AllByRecursion (IsWay (meaning_in plan)) (map (way_of (length (nodes_in plan))) bs) → AllByRecursion (Numbered plan) (flat_map sinks_of bs) → AllByRecursion (IsBranch plan) bs
branches_by plan [] starts ways numbers = tt
branches_by plan (b ∷ bs) starts ways numbers = (
  record { under = starts.0.under; begins = starts.0.begins; legs = ways.0.legs; numbers = all_first (Numbered plan) b.sinks (flat_map sinks_of bs) numbers },
  branches_by plan bs starts.1 ways.1 (all_second (Numbered plan) b.sinks (flat_map sinks_of bs) numbers),
)

pub all_branches : BranchesAre
all_branches plan good =
    let p = plan_in plan in
    let root_under = under-self p.nodes plan.root (root-there p plan.root good.faultless).0 in
    branches_by plan (branches p plan.root) (branches_start p plan.root good root_under) (are_chains p plan.root good) (have_numbers p plan.root good)
