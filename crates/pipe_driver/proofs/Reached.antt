-- What has come where no branch is left, and what that says of nodes that no branch runs by themselves.
use Rattle.std.proofs.Common.{◌≡◌, ℕ, ◌+◌, ◌<◌, ◌≤◌, Bool, true, false, not, ◌||◌, eqb, List, [], ◌∷◌, ◌++◌, length, refl, sym, ap, ◌∙◌, arith, inl, inr}
use Rattle.std.specs.List.{flat_map, list_all}
use Rattle.std.proofs.lemmas.Bool.{and_parts}
use Rattle.pipe_schema.specs.Rows.{Row}
use Rattle.pipe_schema.specs.Weights.{total}
use Rattle.pipe_schema.proofs.Weights.{total-append}
use Rattle.pipe_plan.specs.Faults.{IsWellFormed}
use Rattle.pipe_plan.specs.Node.{Node}
use Rattle.pipe_plan.specs.Node as node
use Rattle.pipe_plan.specs.Plan.{Plan}
use Rattle.pipe_plan.specs.PlanRows.{rows_of, rows_at, node_rows}
use Rattle.pipe_plan.specs.Schemas.{schemas_to}
use Rattle.pipe_plan.specs.Under.{node_at, inputs_of, is_under}
use Rattle.pipe_plan.specs.Walk.{walk}
use Rattle.pipe_driver.specs.Branches.{is_scan, is_scan_at}
use Rattle.pipe_driver.proofs.Down.{walk-at, walk-below}
use Rattle.pipe_driver.proofs.Readers.{there-under}
use Rattle.pipe_driver.proofs.Sound.{member}
use Rattle.pipe_driver.specs.Meaning.{Meaning, OutOf, due, is_part, is_source_over, meaning_of}
use Rattle.pipe_driver.specs.Shape.{kind_of, union_kind}
use Rattle.pipe_driver.specs.Ways.{own_brings}
use Rattle.pipe_driver.proofs.PlanParts.{part_reader, reading, there}
use Rattle.pipe_driver.proofs.Tests.{by_test, and-cases, and-both, eq-is, not-both, or-case}
use Rattle.pipe_driver.specs.State.{World, Counts, pending, gained_brings, IsBetween}
use Rattle.pipe_driver.specs.Within.{RowsAreThere, RunNodesTellAll, RunNodesAreLow}
use Rattle.pipe_driver.proofs.Sums.{split4, pending_nil}

-- ---- all rows are there

pub all_there : RowsAreThere
all_there m w c is n run =
    let x = OutOf n in
    let none : (j : ℕ) → 0 < c.probers j → ⊥ = λ j some. (let e = is.left.probers j in omega arith) in
    record {
      sums = λ f. (
          let own = pending c.probers (own_brings m x) m.joins in
          let gained = pending c.probers (gained_brings m w x) m.joins in
          let e = (is.left.rows x run).sums f in
          let a = split4 f (w.there x) [] [] own in
          let b = total-append f (due m x) gained in
          let y = pending_nil f c.probers (own_brings m x) m.joins (λ j some. absurd (none j some)) in
          let z = pending_nil f c.probers (gained_brings m w x) m.joins (λ j some. absurd (none j some)) in
          omega arith);
    }

-- ---- scans that a union of scans reads

-- a node that is a source and has an input is a union of scans
pub record Unites (nodes : List Node) (x : Node) : Type 0 where
  pub all : List ℕ
  pub is : x ≡ node.Union all
  pub scans : list_all (is_scan_at nodes) all ≡ true

scans_alone : (is : List ℕ) (b : Bool) → is_source_over (union_kind b is) ≡ true → b ≡ true
scans_alone is true h = refl
scans_alone is false h = absurd (let f : false ≡ true = h in cc)

union_at : (nodes : List Node) (x : Node) (i : ℕ) → is_source_over (kind_of nodes x) ≡ true → member i (inputs_of x) ≡ true → Unites nodes x
union_at nodes (node.DataFrameScan frame columns) i h m = absurd (let f : false ≡ true = m in cc)
union_at nodes (node.Filter k predicate) i h m = absurd (let f : false ≡ true = h in cc)
union_at nodes (node.SimpleProjection k columns) i h m = absurd (let f : false ≡ true = h in cc)
union_at nodes (node.Select k exprs) i h m = absurd (let f : false ≡ true = h in cc)
union_at nodes (node.HStack k exprs) i h m = absurd (let f : false ≡ true = h in cc)
union_at nodes (node.MapFunction k function) i h m = absurd (let f : false ≡ true = h in cc)
union_at nodes (node.Union is) i h m = record { all = is; is = refl; scans = scans_alone is (list_all (is_scan_at nodes) is) h }
union_at nodes (node.Join l r left_on right_on options) i h m = absurd (let f : false ≡ true = h in cc)
union_at nodes (node.Sort k by options) i h m = absurd (let f : false ≡ true = h in cc)

pub scan_of : (nodes : List Node) (is : List ℕ) (i : ℕ) → list_all (is_scan_at nodes) is ≡ true → member i is ≡ true → is_scan_at nodes i ≡ true
scan_of nodes [] i h m = absurd (let f : false ≡ true = m in cc)
scan_of nodes (k ∷ is) i h m =
    let parts = and_parts (is_scan_at nodes k) (list_all (is_scan_at nodes) is) h in
    elim (or-case (eqb k i) (member i is) m) [ inl e ↦ ap (is_scan_at nodes) (sym (eq-is k i e)) ∙ parts.0 | inr e ↦ scan_of nodes is i parts.1 e ]

-- the union that reads a scan
pub record Reads (plan : Plan) (root n : ℕ) : Type 0 where
  pub reader : ℕ
  pub under : is_under plan.nodes root reader ≡ true
  pub mine : member n (inputs_of (node_at plan.nodes reader)) ≡ true
  pub unites : Unites plan.nodes (node_at plan.nodes reader)

pub read_by : (plan : Plan) (root n : ℕ) → is_part plan root n ≡ true → Reads plan root n
read_by plan root n part =
    let r = part_reader plan root n part in
    let is = reading plan root r.0 n r.1.0 in
    record { reader = r.0; under = is.under; mine = is.reads_it; unites = union_at plan.nodes (node_at plan.nodes r.0) n r.1.1 is.reads_it }

-- none reads such a union in turn
reader_run : (plan : Plan) (root n : ℕ) → (r : Reads plan root n) → (meaning_of plan root).is_run r.reader ≡ true
reader_run plan root n r =
    by_test ((meaning_of plan root).is_run r.reader ≡ true) (is_part plan root r.reader)
    (λ part. absurd (
    let s = read_by plan root r.reader part in
    let in_all = ap (λ y. member r.reader (inputs_of y)) (sym s.unites.is) ∙ s.mine in
    let scan = scan_of plan.nodes s.unites.all r.reader s.unites.scans in_all in
    not-both (is_scan_at plan.nodes r.reader) scan (ap is_scan r.unites.is)))
    (λ apart. and-both (is_under plan.nodes root r.reader) (not (is_part plan root r.reader)) r.under (ap not apart))

-- ---- its rows

length_both : (a b : List Row) → length (a ++ b) ≡ length a + length b
length_both [] b = omega arith
length_both (row ∷ a) b = omega (arith, length_both a b)

among : (f : ℕ → List Row) (is : List ℕ) (i : ℕ) → member i is ≡ true → length (f i) ≤ length (flat_map f is)
among f [] i m = absurd (let e : false ≡ true = m in cc)
among f (k ∷ is) i m =
    let both = length_both (f k) (flat_map f is) in
    elim (or-case (eqb k i) (member i is) m) [
      | inl e ↦ (let same = ap (λ j. length (f j)) (eq-is k i e) in omega arith)
      | inr e ↦ (let rest = among f is i e in omega arith)
    ]

scan_within : (plan : Plan) (root n : ℕ) → IsWellFormed plan root → (r : Reads plan root n) → length (rows_of plan n) ≤ length (rows_of plan r.reader)
scan_within plan root n good r =
    let nodes = plan.nodes in
    let k = r.reader in
    let lt = there plan root k good r.under in
    let low = there-under plan root k good lt r.under n r.mine in
    let below = walk [] (rows_at plan) k in
    let all = r.unites.all in
    let mine = ap (λ y. member n (inputs_of y)) (sym r.unites.is) ∙ r.mine in
    let e = ap length (walk-at [] (rows_at plan) (length nodes) k lt) in
    let g = ap (λ y. length (node_rows plan.frames (schemas_to plan k) below y)) r.unites.is in
    let same = ap length (walk-below [] (rows_at plan) (length nodes) k n (omega arith) low) in
    let part = among below all n mine in
    omega arith

pub all_within : RunNodesTellAll
all_within plan root limit good run n under =
    by_test (length (rows_of plan n) ≤ limit) (is_part plan root n)
    (λ part. (
    let r = read_by plan root n part in
    let l = scan_within plan root n good r in
    let u = run r.reader (reader_run plan root n r) in omega arith))
    (λ apart. run n (and-both (is_under plan.nodes root n) (not (is_part plan root n)) under (ap not apart)))

pub run_low : RunNodesAreLow
run_low plan root n good run = there plan root n good (and-cases (is_under plan.nodes root n) (not (is_part plan root n)) run).0
