-- The sources of a plan: each is where a leg begins, and no branch begins at a sort.
use Rattle.std.proofs.Common.{◌≡◌, ◌≢◌, ℕ, zero, suc, ◌+◌, ◌<◌, ◌≤◌, Bool, true, false, not, cond, ◌||◌, ◌==◌, eqb, List, [], ◌∷◌, ◌++◌, length, map, refl, sym, ap, subst, ◌∙◌, arith, inl, inr}
use Rattle.std.specs.List.{flat_map, list_any, list_all, AllByRecursion}
use Rattle.std.proofs.lemmas.Bool.{and_parts}
use Rattle.pipe_plan.specs.Node.{Node}
use Rattle.pipe_plan.specs.Node as node
use Rattle.pipe_plan.specs.Plan.{Plan}
use Rattle.pipe_plan.specs.Under.{inputs_of}
use Rattle.pipe_plan.specs.Faults.{IsWellFormed}
use Rattle.pipe_driver.specs.Branches.{is_scan_at}
use Rattle.pipe_driver.specs.declared.branch.SinkAt.{SinkAt}
use Rattle.pipe_driver.specs.declared.branch.SinkAt.TheVariants as at
use Rattle.pipe_driver.proofs.Sound.{member}
use Rattle.pipe_driver.specs.Shape.{Kind, Begins, Each, Unites, Joins, Sorts, kind_of, kind_at, union_kind, is_sorting, sources_by, sources_of}
use Rattle.pipe_driver.specs.Meaning.{Tree, tree_of, meaning_of, is_sort_at, is_source_over}
use Rattle.pipe_driver.specs.Legs.{Leg, Way, ways_of}
use Rattle.pipe_driver.specs.Ways.{one, occurs, legs_to, feeds, starts, begun, starts_from, starts_of}
use Rattle.pipe_driver.proofs.Tests.{by_test, eq-is, eq-true, eq-false, not-both, or-case, all-append, occurs-append, occurs-total}
use Rattle.pipe_driver.proofs.Trees.{IsInput, AreInputs, under_inputs, IsTree}
use Rattle.pipe_driver.proofs.Trails.{Trail, through, closed_by, put_sink, sunk, trails_by, AreTrails}
use Rattle.pipe_driver.proofs.Nodes.{know_all}
use Rattle.pipe_driver.proofs.Paths.{way_of_trail, within, trails, are_trails, ways_are}
use Rattle.pipe_driver.proofs.PlanParts.{there, is_tree}
use Rattle.pipe_driver.proofs.Runnable.{at_sources}
use Rattle.pipe_driver.specs.Boards.{begins_leg}

-- ---- how many legs begin at a node, by where they begin

legs_start : (n start : ℕ) (legs : List Leg) → starts n start legs ≡ occurs n (starts_from start legs)
legs_start n start [] = refl
legs_start n start (leg ∷ legs) = let r = legs_start n leg.sink legs in omega (arith, r)

begun_starts : (n : ℕ) (ps : List Way) → begun n ps ≡ occurs n (flat_map starts_of ps)
begun_starts n [] = refl
begun_starts n (p ∷ ps) =
    let r = begun_starts n ps in
    let a = occurs-append n (starts_of p) (flat_map starts_of ps) in
    let d = legs_start n p.start p.legs in
    omega (arith, r, a, d)

pub begun_is : (plan : Plan) (root n : ℕ) → IsWellFormed plan root → begun n (ways_of plan root) ≡ occurs n (sources_of plan.nodes root)
begun_is plan root n good =
    let a = begun_starts n (ways_of plan root) in
    let d = occurs-total n (flat_map starts_of (ways_of plan root)) in
    let e = at_sources plan root good (λ k. one (k == n)) in
    let f = occurs-total n (sources_of plan.nodes root) in
    omega (arith, a, d, e, f)

-- ---- sources are among those of the root

own_listed : (t : Tree) (n k : ℕ) (x : Kind) → n ≡ k → begins_leg x ≡ true → 0 < occurs k (sources_by t.sources n x)
own_listed t n k Begins same h = let c = ap one (eq-true n k same) in omega (arith, c)
own_listed t n k (Each i) same h = cc
own_listed t n k (Unites is) same h = cc
own_listed t n k (Joins built probed) same h = cc
own_listed t n k (Sorts i) same h = let c = ap one (eq-true n k same) in omega (arith, c)

any_listed : (t : Tree) (n k : ℕ) (is : List ℕ) → AllByRecursion (IsInput t n) is → list_any (λ o. t.under o k) is ≡ true → ((i : ℕ) → i < n → t.under t.root i ≡ true → t.under i k ≡ true → 0 < occurs k (t.sources i)) → 0 < occurs k (flat_map t.sources is)
any_listed t n k [] are h inside = cc
any_listed t n k (i ∷ is) are h inside =
    let a = occurs-append k (t.sources i) (flat_map t.sources is) in
    by_test (0 < occurs k (flat_map t.sources (i ∷ is))) (t.under i k)
    (λ e. (let l = inside i are.0.lower are.0.under e in omega (arith, a, l)))
    (λ e. (let l = any_listed t n k is are.1 (sym (ap (λ v. v || list_any (λ o. t.under o k) is) e) ∙ h) inside in omega (arith, a, l)))

part_listed : (t : Tree) (n k : ℕ) (x : Kind) → AreInputs t n x → under_inputs t.under x k ≡ true → ((i : ℕ) → i < n → t.under t.root i ≡ true → t.under i k ≡ true → 0 < occurs k (t.sources i)) → 0 < occurs k (sources_by t.sources n x)
part_listed t n k Begins are h inside = cc
part_listed t n k (Each i) are h inside = inside i are.lower are.under h
part_listed t n k (Unites is) are h inside = any_listed t n k is are.0 h inside
part_listed t n k (Joins built probed) are h inside =
    let a = occurs-append k (t.sources built) (t.sources probed) in
    elim (or-case (t.under built k) (t.under probed k) h) [
      | inl e ↦ (let l = inside built are.0.lower are.0.under e in omega (arith, a, l))
      | inr e ↦ (let l = inside probed are.1.lower are.1.under e in omega (arith, a, l))
    ]
part_listed t n k (Sorts i) are h inside = let l = inside i are.lower are.under h in omega (arith, l)

source_listed : (t : Tree) (bound n k : ℕ) → IsTree t → n < bound → t.under t.root n ≡ true → t.is_run k ≡ true → begins_leg (t.kind k) ≡ true → t.under n k ≡ true → 0 < occurs k (t.sources n)
source_listed t zero n k good lt u run h v = absurd (omega (arith, lt))
source_listed t (suc bound) n k good lt u run h v =
    let P : List ℕ → Type 0 = λ xs. 0 < occurs k xs in
    subst P (sym (good.sources n u)) (by_test (0 < occurs k (sources_by t.sources n (t.kind n))) (n == k)
    (λ q. own_listed t n k (t.kind n) (eq-is n k q) (ap (λ i. begins_leg (t.kind i)) (eq-is n k q) ∙ h))
    (λ q. part_listed t n k (t.kind n) (good.inputs n u) (good.parts n k u v (λ s. not-both (n == k) (eq-true n k (sym s)) q) run)
    (λ i less under w. source_listed t bound i k good (omega (arith, less, lt)) under run h w)))

-- a leg begins at each
pub source_begun : (plan : Plan) (root k : ℕ) → IsWellFormed plan root → (tree_of plan root).is_run k ≡ true → begins_leg (kind_at plan.nodes k) ≡ true → 0 < begun k (ways_of plan root)
source_begun plan root k good run h =
    let t = tree_of plan root in
    let ok = is_tree plan root good in
    let listed = source_listed t (suc root) root k ok (omega arith) ok.root_under run h (ok.run_under k run) in
    let is = begun_is plan root k good in
    omega (arith, listed, is)

-- ---- no branch begins at a sort

abbrev NoSort : Tree → Trail → Type 0
NoSort t p = is_sort_at t p.start ≡ false

through_no_sort : (t : Tree) (n : ℕ) (ps : List Trail) → AllByRecursion (NoSort t) ps → AllByRecursion (NoSort t) (map (through n) ps)
through_no_sort t n [] h = tt
through_no_sort t n (p ∷ ps) h =
    let split : (o : Bool) → NoSort t (cond o (record { start = p.start; legs = p.legs; from = p.from; operators = p.operators ++ n ∷ []; is_open = p.is_open }) p) = elim [ true ↦ h.0 | false ↦ h.0 ] in
    (split p.is_open, through_no_sort t n ps h.1)

closed_no_sort : (t : Tree) (a : SinkAt) (s : ℕ) (ps : List Trail) → AllByRecursion (NoSort t) ps → AllByRecursion (NoSort t) (map (closed_by a s) ps)
closed_no_sort t a s [] h = tt
closed_no_sort t a s (p ∷ ps) h =
    let split : (o : Bool) → NoSort t (cond o (put_sink false a s p) p) = elim [ true ↦ h.0 | false ↦ h.0 ] in
    (split p.is_open, closed_no_sort t a s ps h.1)

sunk_no_sort : (t : Tree) (a : SinkAt) (n : ℕ) (passed : Bool) (ps : List Trail) → AllByRecursion (NoSort t) ps → AllByRecursion (NoSort t) (sunk a n passed ps)
sunk_no_sort t a n passed [] h = tt
sunk_no_sort t a n passed (p ∷ ps) h =
    let split : (o : Bool) → NoSort t (cond o (put_sink (not passed) a n p) p) = elim [ true ↦ h.0 | false ↦ h.0 ] in
    (split p.is_open, sunk_no_sort t a n (passed || p.is_open) ps h.1)

flat_no_sort : (t : Tree) (below : ℕ → List Trail) (is : List ℕ) → AllByRecursion (λ i. AllByRecursion (NoSort t) (below i)) is → AllByRecursion (NoSort t) (flat_map below is)
flat_no_sort t below [] h = tt
flat_no_sort t below (i ∷ is) h = all-append (NoSort t) (below i) (flat_map below is) h.0 (flat_no_sort t below is h.1)

begins_no_sort : (t : Tree) (n : ℕ) → t.kind n ≡ Begins → is_sort_at t n ≡ false
begins_no_sort t n is =
    by_test (is_sort_at t n ≡ false) (t.under t.root n)
    (λ u. ap (λ v. cond v (is_sorting (t.kind n)) false) u ∙ ap is_sorting is)
    (λ u. ap (λ v. cond v (is_sorting (t.kind n)) false) u)

at_no_sort : (t : Tree) (below : ℕ → List Trail) (n : ℕ) (x : Kind) → IsTree t → t.kind n ≡ x → AreInputs t n x → ((i : ℕ) → i < n → t.under t.root i ≡ true → AllByRecursion (NoSort t) (below i)) → AllByRecursion (NoSort t) (trails_by below n x)
at_no_sort t below n Begins good is are known = (begins_no_sort t n is, tt)
at_no_sort t below n (Each i) good is are known = through_no_sort t n (below i) (known i are.lower are.under)
at_no_sort t below n (Unites is') good is are known =
    through_no_sort t n (flat_map below is') (flat_no_sort t below is' (know_all t (λ i. AllByRecursion (NoSort t) (below i)) n is' known are.0))
at_no_sort t below n (Joins built probed) good is are known =
    all-append (NoSort t) (map (closed_by (at.Build n) n) (below built)) (map (through n) (below probed))
    (closed_no_sort t (at.Build n) n (below built) (known built are.0.lower are.0.under))
    (through_no_sort t n (below probed) (known probed are.1.lower are.1.under))
at_no_sort t below n (Sorts i) good is are known = sunk_no_sort t (at.Sort n) n false (below i) (known i are.lower are.under)

trails_no_sort : (t : Tree) (below : ℕ → List Trail) (bound n : ℕ) → IsTree t → AreTrails t below → n < bound → t.under t.root n ≡ true → AllByRecursion (NoSort t) (below n)
trails_no_sort t below zero n good are lt u = absurd (omega (arith, lt))
trails_no_sort t below (suc bound) n good are lt u =
    let P : List Trail → Type 0 = AllByRecursion (NoSort t) in
    subst P (sym (are n u)) (at_no_sort t below n (t.kind n) good refl (good.inputs n u) (λ i less under. trails_no_sort t below bound i good are (omega (arith, less, lt)) under))

abbrev pub StartsAtNoSort : Plan → ℕ → Way → Type 0
StartsAtNoSort plan root p = (meaning_of plan root).is_sort p.start ≡ false

ways_no_sort : (plan : Plan) (root : ℕ) (ps : List Trail) → AllByRecursion (NoSort (tree_of plan root)) ps → AllByRecursion (StartsAtNoSort plan root) (map way_of_trail ps)
ways_no_sort plan root [] h = tt
ways_no_sort plan root (p ∷ ps) h = (h.0, ways_no_sort plan root ps h.1)

pub fresh : (plan : Plan) (root : ℕ) → IsWellFormed plan root → AllByRecursion (StartsAtNoSort plan root) (ways_of plan root)
fresh plan root good =
    let t = tree_of plan root in
    let ok = is_tree plan root good in
    let size = length plan.nodes in
    let here = there plan root root good ok.root_under in
    let all = trails_no_sort t (trails plan) (suc root) root ok (are_trails plan root good (λ n u. there plan root n good u)) (omega arith) ok.root_under in
    let P : List Way → Type 0 = AllByRecursion (StartsAtNoSort plan root) in
    subst P (sym (ways_are plan root (within plan root root good here ok.root_under)))
    (ways_no_sort plan root (map (closed_by at.Ordered size) (trails plan root)) (closed_no_sort t at.Ordered size (trails plan root) all))

-- a sort at which a leg begins is fed, where no way begins there
legs_fed : (n start : ℕ) (legs : List Leg) → starts n start legs ≤ one (start == n) + legs_to n legs
legs_fed n start [] = omega arith
legs_fed n start (leg ∷ legs) = let r = legs_fed n leg.sink legs in omega (arith, r)

pub begun_fed : (n : ℕ) (ps : List Way) → AllByRecursion (λ p. p.start ≢ n) ps → begun n ps ≤ feeds n ps
begun_fed n [] h = omega arith
begun_fed n (p ∷ ps) h =
    let r = begun_fed n ps h.1 in
    let l = legs_fed n p.start p.legs in
    let z : one (p.start == n) ≡ 0 = ap one (eq-false p.start n h.0) in
    omega (arith, r, l, z)

-- ---- what a source reads is a scan

all_member : (p : ℕ → Bool) (xs : List ℕ) (i : ℕ) → list_all p xs ≡ true → member i xs ≡ true → p i ≡ true
all_member p [] i h m = cc
all_member p (x ∷ xs) i h m =
    let parts = and_parts (p x) (list_all p xs) h in
    elim (or-case (eqb x i) (member i xs) m) [ inl e ↦ ap p (sym (eq-is x i e)) ∙ parts.0 | inr e ↦ all_member p xs i parts.1 e ]

union_scans : (nodes : List Node) (is : List ℕ) (source : Bool) (i : ℕ) → list_all (is_scan_at nodes) is ≡ source → is_source_over (union_kind source is) ≡ true → member i is ≡ true → is_scan_at nodes i ≡ true
union_scans nodes is true i e h m = all_member (is_scan_at nodes) is i e m
union_scans nodes is false i e h m = cc

pub source_reads : (nodes : List Node) (x : Node) (i : ℕ) → is_source_over (kind_of nodes x) ≡ true → member i (inputs_of x) ≡ true → is_scan_at nodes i ≡ true
source_reads nodes (node.DataFrameScan frame columns) i h m = cc
source_reads nodes (node.Filter k predicate) i h m = cc
source_reads nodes (node.SimpleProjection k columns) i h m = cc
source_reads nodes (node.Select k exprs) i h m = cc
source_reads nodes (node.HStack k exprs) i h m = cc
source_reads nodes (node.MapFunction k function) i h m = cc
source_reads nodes (node.Union is) i h m = union_scans nodes is (list_all (is_scan_at nodes) is) i refl h m
source_reads nodes (node.Join l r left_on right_on options) i h m = cc
source_reads nodes (node.Sort k by options) i h m = cc
