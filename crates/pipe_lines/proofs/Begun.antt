-- The legs of a plan's branches begin at scans, at unions of scans alone, and at sorts.
use Rattle.std.proofs.Common.{◌≡◌, ℕ, zero, suc, ◌+◌, ◌<◌, ◌==◌, true, List, [], ◌∷◌, refl, sym, ap, subst, ◌∙◌, arith, inl, inr}
use Rattle.std.specs.List.{flat_map, AllByRecursion}
use Rattle.pipe_plan.specs.Plan.{Plan}
use Rattle.pipe_plan.specs.Faults.{IsWellFormed}
use Rattle.pipe_driver.specs.Shape.{Kind, Begins, Each, Unites, Joins, Sorts, kind_at, sources_by}
use Rattle.pipe_driver.specs.Meaning.{Tree, tree_of}
use Rattle.pipe_driver.specs.Legs.{ways_of}
use Rattle.pipe_driver.specs.Ways.{one, occurs, starts_of}
use Rattle.pipe_driver.proofs.Tests.{by_test, eq-is, occurs-append, occurs-total, some-left}
use Rattle.pipe_driver.proofs.Trees.{IsInput, AreInputs, IsTree}
use Rattle.pipe_driver.proofs.PlanParts.{is_tree}
use Rattle.pipe_driver.proofs.Runnable.{at_sources}
use Rattle.pipe_driver.specs.Boards.{begins_leg}

-- what is known of the nodes below
abbrev Below : Tree → (n k : ℕ) → Type 0
Below t n k = (i : ℕ) → i < n → t.under t.root i ≡ true → 0 < occurs k (t.sources i) → begins_leg (t.kind k) ≡ true

here_begins : (t : Tree) (n k : ℕ) (x : Kind) → t.kind n ≡ x → begins_leg x ≡ true → n ≡ k → begins_leg (t.kind k) ≡ true
here_begins t n k x is begins same = ap (λ i. begins_leg (t.kind i)) (sym same) ∙ ap begins_leg is ∙ begins

any_begins : (t : Tree) (n k : ℕ) (is : List ℕ) → AllByRecursion (IsInput t n) is → 0 < occurs k (flat_map t.sources is) → Below t n k → begins_leg (t.kind k) ≡ true
any_begins t n k [] are on below = absurd (omega (arith, on))
any_begins t n k (i ∷ is) are on below =
    let a = occurs-append k (t.sources i) (flat_map t.sources is) in
    elim (some-left (occurs k (t.sources i))) [
      | inr here ↦ below i are.0.lower are.0.under here
      | inl none ↦ any_begins t n k is are.1 (omega (arith, a, on, none)) below
    ]

part_begins : (t : Tree) (n k : ℕ) (x : Kind) → t.kind n ≡ x → AreInputs t n x → 0 < occurs k (sources_by t.sources n x) → Below t n k → begins_leg (t.kind k) ≡ true
part_begins t n k Begins is are on below =
    by_test (begins_leg (t.kind k) ≡ true) (n == k)
    (λ same. here_begins t n k Begins is refl (eq-is n k same))
    (λ other. absurd (let o = ap one other in omega (arith, o, on)))
part_begins t n k (Each i) is are on below = below i are.lower are.under on
part_begins t n k (Unites is') is are on below = any_begins t n k is' are.0 on below
part_begins t n k (Joins built probed) is are on below =
    let a = occurs-append k (t.sources built) (t.sources probed) in
    elim (some-left (occurs k (t.sources built))) [
      | inr here ↦ below built are.0.lower are.0.under here
      | inl none ↦ below probed are.1.lower are.1.under (omega (arith, a, on, none))
    ]
part_begins t n k (Sorts i) is are on below =
    by_test (begins_leg (t.kind k) ≡ true) (n == k)
    (λ same. here_begins t n k (Sorts i) is refl (eq-is n k same))
    (λ other. below i are.lower are.under (let o = ap one other in omega (arith, o, on)))

sources_begin : (t : Tree) (bound n k : ℕ) → IsTree t → n < bound → t.under t.root n ≡ true → 0 < occurs k (t.sources n) → begins_leg (t.kind k) ≡ true
sources_begin t zero n k good lt u on = absurd (omega (arith, lt))
sources_begin t (suc bound) n k good lt u on =
    let P : List ℕ → Type 0 = λ xs. 0 < occurs k xs in
    part_begins t n k (t.kind n) refl (good.inputs n u) (subst P (good.sources n u) on)
    (λ i less under some. sources_begin t bound i k good (omega (arith, less, lt)) under some)

-- so a leg of each branch
pub starts_begin : (plan : Plan) (root n : ℕ) → IsWellFormed plan root → 0 < occurs n (flat_map starts_of (ways_of plan root)) → begins_leg (kind_at plan.nodes n) ≡ true
starts_begin plan root n good begun =
    let t = tree_of plan root in
    let ok = is_tree plan root good in
    let a = occurs-total n (flat_map starts_of (ways_of plan root)) in
    let b = at_sources plan root good (λ k. one (k == n)) in
    let e = occurs-total n (t.sources t.root) in
    sources_begin t (suc root) root n ok (omega arith) ok.root_under (omega (arith, a, b, e, begun))
