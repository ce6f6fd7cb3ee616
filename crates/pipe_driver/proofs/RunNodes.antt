-- The nodes that legs begin at and go through are run.
use Rattle.std.proofs.Common.{◌≡◌, ℕ, zero, suc, ◌+◌, ◌<◌, Bool, true, false, not, cond, ◌||◌, ◌==◌, eqb, inl, inr, List, [], ◌∷◌, ◌++◌, length, Option, Some, None, refl, sym, ap, ◌∙◌, arith}
use Rattle.std.specs.List.{flat_map, list_all}
use Rattle.pipe_schema.specs.Weights.{total}
use Rattle.pipe_plan.specs.Faults.{IsWellFormed}
use Rattle.pipe_plan.specs.Node.{Node}
use Rattle.pipe_plan.specs.Node as node
use Rattle.pipe_plan.specs.Plan.{Plan}
use Rattle.pipe_plan.specs.Swap.{swaps}
use Rattle.pipe_plan.specs.Under.{node_at, inputs_of, is_under}
use Rattle.pipe_driver.specs.Branches.{is_scan, is_scan_at}
use Rattle.pipe_driver.proofs.Covers.{self-member, side-member}
use Rattle.pipe_driver.proofs.Readers.{input-under, one-reader, there-under}
use Rattle.pipe_driver.proofs.Sound.{member, root-there, under-self}
use Rattle.pipe_events.specs.PlanStages.{stage_at}
use Rattle.pipe_driver.specs.Chains.{chain_of, ends_in, goes_through, reader, reads, through_first}
use Rattle.pipe_driver.specs.Legs.{ways_of}
use Rattle.pipe_driver.specs.Meaning.{is_part, is_source_over, meaning_of, tree_of}
use Rattle.pipe_driver.specs.Shape.{Kind, Begins, Each, Unites, Joins, Sorts, kind_at, kind_of, union_kind, is_joining, is_sorting, sources_by, sources_of}
use Rattle.pipe_driver.specs.Ways.{one, occurs, starts_of}
use Rattle.pipe_driver.proofs.Chains.{chain_from, chain_none, found_is}
use Rattle.pipe_driver.proofs.PlanParts.{is_tree, part_reader, reading, reads_below, there}
use Rattle.pipe_driver.proofs.Tests.{and-both, and-cases, by_test, eq-is, not-both, occurs-append, occurs-total, or-first, or-right, some-left}
use Rattle.pipe_driver.proofs.Runnable.{at_sources}
use Rattle.pipe_driver.specs.Within.{ChainsAreRun, LegsBeginAtRunNodes}
use Rattle.pipe_driver.proofs.Reached.{Reads, read_by, run_low, scan_of}

-- ---- inputs

-- an input of a node that isn't a source is run
input_run : (plan : Plan) (root n i : ℕ) → IsWellFormed plan root → is_under plan.nodes root n ≡ true → is_source_over (kind_at plan.nodes n) ≡ false → member i (inputs_of (node_at plan.nodes n)) ≡ true → (meaning_of plan root).is_run i ≡ true
input_run plan root n i good under other mine =
    let lt = there plan root n good under in
    by_test ((meaning_of plan root).is_run i ≡ true) (is_part plan root i)
    (λ part. absurd (
    let r = part_reader plan root i part in
    let is = reading plan root r.0 i r.1.0 in
    let same = one-reader plan root r.0 n i good (there plan root r.0 good is.under) lt is.under under is.reads_it mine in
    not-both (is_source_over (kind_at plan.nodes r.0)) r.1.1 (ap (λ k. is_source_over (kind_at plan.nodes k)) same ∙ other)))
    (λ apart. and-both (is_under plan.nodes root i) (not (is_part plan root i)) (input-under plan root n i good lt under mine) (ap not apart))

-- ---- sources

-- where a source of a node is found: it is the node, or a source of an input
data Comes (n s : ℕ) (f : ℕ → List ℕ) (source : Bool) (inputs : List ℕ) : Type 0 where
  Here : s ≡ n → Comes n s f source inputs
  From : (i : ℕ) → source ≡ false → member i inputs ≡ true → 0 < occurs s (f i) → Comes n s f source inputs

one_is : (n s : ℕ) → 0 < occurs s (n ∷ []) → s ≡ n
one_is n s on = by_test (s ≡ n) (n == s) (λ e. sym (eq-is n s e)) (λ e. (let z = ap one e in absurd (omega arith)))

of_one : (n s i : ℕ) (f : ℕ → List ℕ) → 0 < occurs s (f i) → Comes n s f false (i ∷ [])
of_one n s i f on = From i refl (self-member i []) on

of_some : (n s : ℕ) (f : ℕ → List ℕ) (is all : List ℕ) → ((i : ℕ) → member i is ≡ true → member i all ≡ true) → 0 < occurs s (flat_map f is) → Comes n s f false all
of_some n s f [] all from on = absurd (omega arith)
of_some n s f (i ∷ is) all from on =
    let e = occurs-append s (f i) (flat_map f is) in
    elim (some-left (occurs s (f i))) [
      | inr here ↦ From i refl (from i (self-member i is)) here
      | inl none ↦ of_some n s f is all (λ k m. from k (or-right (eqb i k) (member k is) m)) (omega arith)
    ]

of_union : (n s : ℕ) (f : ℕ → List ℕ) (source : Bool) (is : List ℕ) → 0 < occurs s (sources_by f n (union_kind source is)) → Comes n s f (is_source_over (union_kind source is)) is
of_union n s f true is on = Here (one_is n s on)
of_union n s f false is on = of_some n s f is is (λ i m. m) on

comes : (plan : Plan) (n s : ℕ) (f : ℕ → List ℕ) (x : Node) → 0 < occurs s (sources_by f n (kind_of plan.nodes x)) → Comes n s f (is_source_over (kind_of plan.nodes x)) (inputs_of x)
comes plan n s f (node.DataFrameScan frame columns) on = Here (one_is n s on)
comes plan n s f (node.Filter i predicate) on = of_one n s i f on
comes plan n s f (node.SimpleProjection i columns) on = of_one n s i f on
comes plan n s f (node.Select i exprs) on = of_one n s i f on
comes plan n s f (node.HStack i exprs) on = of_one n s i f on
comes plan n s f (node.MapFunction i function) on = of_one n s i f on
comes plan n s f (node.Union is) on = of_union n s f (list_all (is_scan_at plan.nodes) is) is on
comes plan n s f (node.Join l r left_on right_on options) on =
    let b = cond (swaps options) r l in
    let p = cond (swaps options) l r in
    let e = occurs-append s (f b) (f p) in
    let members = side-member l r (swaps options) in
    elim (some-left (occurs s (f b))) [
      | inr here ↦ From b refl members.0 here
      | inl none ↦ From p refl members.1 (omega arith)
    ]
comes plan n s f (node.Sort i by options) on =
    elim (some-left (occurs s (n ∷ []))) [
      | inr here ↦ Here (one_is n s here)
      | inl none ↦ From i refl (self-member i []) (omega arith)
    ]

sources_run : (plan : Plan) (root : ℕ) → IsWellFormed plan root → (b n s : ℕ) → n < b → is_under plan.nodes root n ≡ true → (meaning_of plan root).is_run n ≡ true → 0 < occurs s (sources_of plan.nodes n) → (meaning_of plan root).is_run s ≡ true
sources_run plan root good zero n s lt under run on = absurd (omega arith)
sources_run plan root good (suc b) n s lt under run on =
    let e = ap (occurs s) ((is_tree plan root good).sources n under) in
    let split : Comes n s (sources_of plan.nodes) (is_source_over (kind_at plan.nodes n)) (inputs_of (node_at plan.nodes n)) → (meaning_of plan root).is_run s ≡ true = elim [
      | Here same ↦ ap (meaning_of plan root).is_run same ∙ run
      | From i other mine i_on ↦ (
          let low = there-under plan root n good (there plan root n good under) under i mine in
          sources_run plan root good b i s (omega arith) (input-under plan root n i good (there plan root n good under) under mine) (input_run plan root n i good under other mine) i_on)
    ] in split (comes plan n s (sources_of plan.nodes) (node_at plan.nodes n) (omega arith))

-- nothing reads the root
root_run : (plan : Plan) (root : ℕ) → IsWellFormed plan root → (meaning_of plan root).is_run root ≡ true
root_run plan root good =
    let root_in = (root-there plan root good.faultless).0 in
    let under = under-self plan.nodes root root_in in
    by_test ((meaning_of plan root).is_run root ≡ true) (is_part plan root root)
    (λ part. absurd (
    let r = read_by plan root root part in
    let low = there-under plan root r.reader good (there plan root r.reader good r.under) r.under root r.mine in
    let high = (is_tree plan root good).lower root r.reader under r.under in omega arith))
    (λ apart. and-both (is_under plan.nodes root root) (not (is_part plan root root)) under (ap not apart))

pub begin_run : LegsBeginAtRunNodes
begin_run plan root n good begun =
    let a = occurs-total n (flat_map starts_of (ways_of plan root)) in
    let b = at_sources plan root good (λ k. one (k == n)) in
    let e = occurs-total n (sources_of plan.nodes root) in
    let under = under-self plan.nodes root (root-there plan root good.faultless).0 in
    sources_run plan root good (suc root) root n (omega arith) under (root_run plan root good) (omega arith)

-- ---- chains

-- a scan has no input
no_input : (x : Node) (i : ℕ) → is_scan x ≡ true → member i (inputs_of x) ≡ true → ⊥
no_input (node.DataFrameScan frame columns) i h m = let f : false ≡ true = m in cc
no_input (node.Filter k predicate) i h m = let f : false ≡ true = h in cc
no_input (node.SimpleProjection k columns) i h m = let f : false ≡ true = h in cc
no_input (node.Select k exprs) i h m = let f : false ≡ true = h in cc
no_input (node.HStack k exprs) i h m = let f : false ≡ true = h in cc
no_input (node.MapFunction k function) i h m = let f : false ≡ true = h in cc
no_input (node.Union is) i h m = let f : false ≡ true = h in cc
no_input (node.Join l r left_on right_on options) i h m = let f : false ≡ true = h in cc
no_input (node.Sort k by options) i h m = let f : false ≡ true = h in cc

-- a node that reads another is no scan that a union reads
reader_runs : (plan : Plan) (root r i : ℕ) → reads (stage_at plan root r) i ≡ true → (meaning_of plan root).is_run r ≡ true
reader_runs plan root r i h =
    let is = reading plan root r i h in
    by_test ((meaning_of plan root).is_run r ≡ true) (is_part plan root r)
    (λ part. absurd (
    let by = read_by plan root r part in
    let in_all = ap (λ y. member r (inputs_of y)) (sym by.unites.is) ∙ by.mine in
    no_input (node_at plan.nodes r) i (scan_of plan.nodes by.unites.all r by.unites.scans in_all) is.reads_it))
    (λ apart. and-both (is_under plan.nodes root r) (not (is_part plan root r)) is.under (ap not apart))

next_run : (plan : Plan) (root n op : ℕ) (ops : List ℕ) → IsWellFormed plan root → (meaning_of plan root).above n ≡ op ∷ ops → (meaning_of plan root).is_run op ≡ true
next_run plan root n op ops good above =
    let stage = stage_at plan root in
    let size = length plan.nodes in
    let Goal : Type 0 = (meaning_of plan root).is_run op ≡ true in
    let split : (o : Option ℕ) → reader stage size n ≡ o → Goal = elim [
      | None ↦ λ e. absurd (let f : [] ≡ op ∷ ops = sym (ap (λ c. c.operators) (chain_none stage size n e)) ∙ above in cc)
      | Some r ↦ λ e. (
          let c = chain_from stage size n r (reads_below plan root good) e in
          let found = found_is (λ k. reads (stage k) n) size r e in
          by_test Goal (goes_through (stage r) n)
          (λ t. (
          let d = c ∙ ap (λ b. cond b (through_first r (chain_of stage size r)) (ends_in r)) t in
          let f : r ∷ (chain_of stage size r).operators ≡ op ∷ ops = sym (ap (λ x. x.operators) d) ∙ above in
          let same : r ≡ op = cc in
          ap (meaning_of plan root).is_run (sym same) ∙ reader_runs plan root r n found.passes))
          (λ t. absurd (let d = c ∙ ap (λ b. cond b (through_first r (chain_of stage size r)) (ends_in r)) t in let f : [] ≡ op ∷ ops = sym (ap (λ x. x.operators) d) ∙ above in cc)))
    ] in split (reader stage size n) refl

pub chains_run : ChainsAreRun
chains_run plan root good =
    let ok = is_tree plan root good in
    record {
      next = λ n op ops above. next_run plan root n op ops good above;
      sorts = λ n sort. (let both = and-cases (is_under plan.nodes root n) (is_sorting (kind_at plan.nodes n)) sort in ok.sorts_run n both.0 both.1);
      joins = λ n join. (let both = and-cases (is_under plan.nodes root n) (is_joining (kind_at plan.nodes n)) join in ok.joins_run n both.0 both.1);
      low = λ n run. run_low plan root n good run;
    }
