-- A well-formed plan by its parts.
use Rattle.std.proofs.Common.{◌≡◌, ◌≢◌, ℕ, ◌<◌, Bool, true, false, not, cond, ◌||◌, eqb, inl, inr, List, [], ◌∷◌, ◌++◌, length, refl, sym, ap, subst, ◌∙◌, arith, Option, Some, None}
use Rattle.std.specs.List.{flat_map, list_any, list_all, AllByRecursion}
use Rattle.std.proofs.lemmas.Bool.{and_parts}
use Rattle.std.proofs.lemmas.Bool.Decides.{Decides-eqb}
use Rattle.pipe_frame.specs.Frame.{Table}
use Rattle.pipe_schema.specs.Rows.{Row}
use Rattle.pipe_schema.specs.declared.field.Field.{Field}
use Rattle.pipe_schema.specs.Weights.{total}
use Rattle.pipe_schema.proofs.Weights.{SameBag, SameBag-trans, SameBag-from_equal, total-append}
use Rattle.pipe_expr.specs.Shares.{probe_share}
use Rattle.pipe_plan.specs.Walk.{walk}
use Rattle.pipe_plan.specs.Node.{Node}
use Rattle.pipe_plan.specs.Node as node
use Rattle.pipe_plan.specs.Plan.{Plan}
use Rattle.pipe_plan.specs.Under.{node_at, inputs_of, is_under}
use Rattle.pipe_plan.specs.PlanRows.{rows_of}
use Rattle.pipe_plan.specs.Schemas.{schemas_to}
use Rattle.pipe_plan.specs.Swap.{swaps}
use Rattle.pipe_plan.specs.Faults.{repeats, IsWellFormed}
use Rattle.pipe_plan.specs.declared.ir.JoinOptions.{JoinOptions}
use Rattle.pipe_driver.specs.Branches.{is_scan, is_scan_at, built_side, probed_side}
use Rattle.pipe_driver.proofs.Down.{walk-at, walk-below}
use Rattle.pipe_driver.proofs.Sound.{member, any-member, under-self, under-trans, under-one, root-there, good-node, first_false}
use Rattle.pipe_driver.proofs.Covers.{under-cases, side-member, self-member, second_false}
use Rattle.pipe_driver.proofs.Readers.{there-under, input-under, under-low, one-reader, apart}
use Rattle.pipe_events.specs.Stages.{Stage, Each, Union, Joined, JoinStage, Stages, feeds, through, own_rows, stage_rows, rows, rows_at, rows_to, IsBelow}
use Rattle.pipe_events.specs.Worlds.{ends}
use Rattle.pipe_events.specs.PlanStages.{stage_of, stage_at, Setting, stages_of}
use Rattle.pipe_events.proofs.StageLemmas.{node_split}
use Rattle.pipe_events.proofs.PlanLemmas.{stages_have_rows}
use Rattle.pipe_driver.specs.Shape.{Kind, Begins, Unites, Joins, Sorts, kind_of, kind_at, union_kind, is_joining, is_sorting, sources_by, joins_by, sources_at, joins_at, sources_of, joins_of}
use Rattle.pipe_driver.specs.Shape as kind
use Rattle.pipe_driver.specs.Chains.{through_first, ends_in, goes_through, reads, reader, chain_of}
use Rattle.pipe_driver.specs.Meaning.{Tree, tree_of, join_own, is_source_over, is_read_whole, is_part}
use Rattle.pipe_driver.proofs.Tests.{by_test, eq-is, eq-false, not-both, or-case, or-first, or-right, and-cases, and-both}
use Rattle.pipe_driver.proofs.Chains.{ReadsBelow, found_one, found_none, found_is, chain_from, chain_none, chain_up}
use Rattle.pipe_driver.proofs.Trees.{IsInput, EndsAt, AreApart, AreInputs, HasRows, under_inputs, IsTree}

-- ---- nodes under the root

pub there : (plan : Plan) (root n : ℕ) → IsWellFormed plan root → is_under plan.nodes root n ≡ true → n < length plan.nodes
there plan root n good u =
    let root_in = (root-there plan root good.faultless).0 in
    let l = under-low plan root root n good root_in (under-self plan.nodes root root_in) u in omega arith

pub stage_is : (plan : Plan) (root n : ℕ) → is_under plan.nodes root n ≡ true → stage_at plan root n ≡ stage_of plan.frames (schemas_to plan n) (node_at plan.nodes n)
stage_is plan root n u = ap (λ b. cond b (stage_of plan.frames (schemas_to plan n) (node_at plan.nodes n)) (Union [])) u

once : (plan : Plan) (root n : ℕ) → IsWellFormed plan root → is_under plan.nodes root n ≡ true → repeats (inputs_of (node_at plan.nodes n)) ≡ false
once plan root n good u = second_false _ (repeats (inputs_of (node_at plan.nodes n))) (first_false _ _ (first_false _ _ (good-node plan root n good.faultless (there plan root n good u) u)))

-- ---- what a stage reads are the inputs of its node

one_member : (i k : ℕ) → (eqb k i || false) ≡ true → member i (k ∷ []) ≡ true
one_member i k h = h

reads_one : (i k : ℕ) → ((eqb k i || false) || false) ≡ true → member i (k ∷ []) ≡ true
reads_one i k h = elim (or-case (eqb k i || false) false h) [ inl e ↦ e | inr e ↦ absurd (let f : false ≡ true = e in cc) ]

reads_two : (i l r : ℕ) (swapped : Bool) → ((eqb (cond swapped l r) i || false) || eqb (cond swapped r l) i) ≡ true → member i (l ∷ r ∷ []) ≡ true
reads_two i l r true h = elim (or-case (eqb l i || false) (eqb r i) h) [
  | inl e ↦ elim (or-case (eqb l i) false e) [ inl g ↦ or-first (eqb l i) (eqb r i || false) g | inr g ↦ absurd (let f : false ≡ true = g in cc) ]
  | inr e ↦ or-right (eqb l i) (eqb r i || false) (or-first (eqb r i) false e)
]
reads_two i l r false h = elim (or-case (eqb r i || false) (eqb l i) h) [
  | inl e ↦ or-right (eqb l i) (eqb r i || false) e
  | inr e ↦ or-first (eqb l i) (eqb r i || false) e
]

read_member : (frames : List Table) (schema : ℕ → List Field) (x : Node) (i : ℕ) → reads (stage_of frames schema x) i ≡ true → member i (inputs_of x) ≡ true
read_member frames schema (node.DataFrameScan frame columns) i h = absurd (let f : false ≡ true = h in cc)
read_member frames schema (node.Filter k predicate) i h = reads_one i k h
read_member frames schema (node.SimpleProjection k columns) i h = reads_one i k h
read_member frames schema (node.Select k exprs) i h = reads_one i k h
read_member frames schema (node.HStack k exprs) i h = reads_one i k h
read_member frames schema (node.MapFunction k function) i h = reads_one i k h
read_member frames schema (node.Union is) i h = elim (or-case (member i is) false h) [ inl e ↦ e | inr e ↦ absurd (let f : false ≡ true = e in cc) ]
read_member frames schema (node.Join left right left_on right_on options) i h = reads_two i left right (swaps options) h
read_member frames schema (node.Sort k by options) i h = or-first (eqb k i) false h

-- a reader is under the root, and has the node as an input
pub record IsReading (plan : Plan) (root r i : ℕ) : Type 0 where
  pub under : is_under plan.nodes root r ≡ true
  pub reads_it : member i (inputs_of (node_at plan.nodes r)) ≡ true

pub reading : (plan : Plan) (root r i : ℕ) → reads (stage_at plan root r) i ≡ true → IsReading plan root r i
reading plan root r i h =
    by_test (IsReading plan root r i) (is_under plan.nodes root r)
    (λ u. record { under = u; reads_it = read_member plan.frames (schemas_to plan r) (node_at plan.nodes r) i (ap (λ s. reads s i) (sym (stage_is plan root r u)) ∙ h) })
    (λ u. absurd (let e : stage_at plan root r ≡ Union [] = ap (λ b. cond b (stage_of plan.frames (schemas_to plan r) (node_at plan.nodes r)) (Union [])) u in
    let f : false ≡ true = sym (ap (λ s. reads s i) e) ∙ h in cc))

pub reads_below : (plan : Plan) (root : ℕ) → IsWellFormed plan root → ReadsBelow (stage_at plan root) (length plan.nodes)
reads_below plan root good k i lt h = let r = reading plan root k i h in there-under plan root k good lt r.under i r.reads_it

-- the one reader of an input
reader_is : (plan : Plan) (root n i : ℕ) → IsWellFormed plan root → is_under plan.nodes root n ≡ true → reads (stage_at plan root n) i ≡ true → reader (stage_at plan root) (length plan.nodes) i ≡ Some n
reader_is plan root n i good u h =
    let own = reading plan root n i h in
    found_one (λ k. reads (stage_at plan root k) i) (length plan.nodes) n (there plan root n good u) h
    (λ k l g. (let r = reading plan root k i g in one-reader plan root k n i good l (there plan root n good u) r.under u r.reads_it own.reads_it))

root_read : (plan : Plan) (root : ℕ) → IsWellFormed plan root → reader (stage_at plan root) (length plan.nodes) root ≡ None
root_read plan root good =
    found_none (λ k. reads (stage_at plan root k) root) (length plan.nodes) (λ k l h. (
    let r = reading plan root k root h in
    let low = there-under plan root k good l r.under root r.reads_it in
    let root_in = (root-there plan root good.faultless).0 in
    let high = under-low plan root root k good root_in (under-self plan.nodes root root_in) r.under in
    absurd (omega arith)))

-- ---- inputs

abbrev tree : Plan → ℕ → Tree
tree plan root = tree_of plan root

input_at : (plan : Plan) (root n i : ℕ) → IsWellFormed plan root → is_under plan.nodes root n ≡ true → member i (inputs_of (node_at plan.nodes n)) ≡ true → goes_through (stage_at plan root n) i ≡ true → IsInput (tree plan root) n i
input_at plan root n i good u m h =
    let lt = there plan root n good u in
    let low = there-under plan root n good lt u i m in
    let r = reader_is plan root n i good u (or-first (goes_through (stage_at plan root n) i) (ends (stage_at plan root n) i) h) in
    let c = chain_from (stage_at plan root) (length plan.nodes) i n (reads_below plan root good) r
    ∙ ap (λ b. cond b (through_first n (chain_of (stage_at plan root) (length plan.nodes) n)) (ends_in n)) h in
    record {
      lower = low;
      under = input-under plan root n i good lt u m;
      within = λ k v. under-trans plan.nodes i k (length plan.nodes) n lt (omega arith) (under-one plan.nodes n i lt low m) v;
      above = ap (λ x. x.operators) c;
      above_sink = ap (λ x. x.sink) c;
    }

ends_here : (plan : Plan) (root n i : ℕ) → IsWellFormed plan root → is_under plan.nodes root n ≡ true → member i (inputs_of (node_at plan.nodes n)) ≡ true → goes_through (stage_at plan root n) i ≡ false → ends (stage_at plan root n) i ≡ true → EndsAt (tree plan root) n i
ends_here plan root n i good u m other h =
    let lt = there plan root n good u in
    let low = there-under plan root n good lt u i m in
    let r = reader_is plan root n i good u (or-right (goes_through (stage_at plan root n) i) (ends (stage_at plan root n) i) h) in
    let c = chain_from (stage_at plan root) (length plan.nodes) i n (reads_below plan root good) r
    ∙ ap (λ b. cond b (through_first n (chain_of (stage_at plan root) (length plan.nodes) n)) (ends_in n)) other in
    record {
      lower = low;
      under = input-under plan root n i good lt u m;
      within = λ k v. under-trans plan.nodes i k (length plan.nodes) n lt (omega arith) (under-one plan.nodes n i lt low m) v;
      above = ap (λ x. x.operators) c;
      above_sink = ap (λ x. x.sink) c;
    }

itself : (n : ℕ) → eqb n n ≡ true
itself n = (Decides-eqb n n).1 refl

-- a node of one input whose rows go through it
through_input : (plan : Plan) (root n i : ℕ) (x : Node) (op : Row → List Row) → IsWellFormed plan root → is_under plan.nodes root n ≡ true → node_at plan.nodes n ≡ x → inputs_of x ≡ i ∷ [] → stage_of plan.frames (schemas_to plan n) x ≡ Each i op → IsInput (tree plan root) n i
through_input plan root n i x op good u is inputs st =
    input_at plan root n i good u (ap (λ y. member i (inputs_of y)) is ∙ ap (member i) inputs ∙ self-member i [])
    (ap (λ s. goes_through s i) (stage_is plan root n u ∙ ap (stage_of plan.frames (schemas_to plan n)) is ∙ st) ∙ or-first (eqb i i) false (itself i))

union_inputs : (plan : Plan) (root n : ℕ) (all is : List ℕ) → IsWellFormed plan root → is_under plan.nodes root n ≡ true → node_at plan.nodes n ≡ node.Union all → ((i : ℕ) → member i is ≡ true → member i all ≡ true) → AllByRecursion (IsInput (tree plan root) n) is
union_inputs plan root n all [] good u is from = tt
union_inputs plan root n all (i ∷ is) good u same from = (
  input_at plan root n i good u (ap (λ y. member i (inputs_of y)) same ∙ from i (self-member i is))
      (ap (λ s. goes_through s i) (stage_is plan root n u ∙ ap (stage_of plan.frames (schemas_to plan n)) same) ∙ from i (self-member i is)),
  union_inputs plan root n all is good u same (λ k m. from k (or-right (eqb i k) (member k is) m)),
)

-- which of some nodes a node is under
under_which : (nodes : List Node) (k : ℕ) (is : List ℕ) → list_any (λ o. is_under nodes o k) is ≡ true → (i : ℕ) × ((member i is ≡ true) × (is_under nodes i k ≡ true))
under_which nodes k [] h = absurd (let f : false ≡ true = h in cc)
under_which nodes k (i ∷ is) h = by_test ((j : ℕ) × ((member j (i ∷ is) ≡ true) × (is_under nodes j k ≡ true))) (is_under nodes i k)
    (λ e. (i, (self-member i is, e)))
    (λ e. (let r = under_which nodes k is (sym (ap (λ b. b || list_any (λ o. is_under nodes o k) is) e) ∙ h) in (r.0, (or-right (eqb i r.0) (member r.0 is) r.1.0, r.1.1))))

union_apart : (plan : Plan) (root n : ℕ) (all is : List ℕ) → IsWellFormed plan root → is_under plan.nodes root n ≡ true → node_at plan.nodes n ≡ node.Union all → ((i : ℕ) → member i is ≡ true → member i all ≡ true) → repeats is ≡ false → AreApart (tree plan root) is
union_apart plan root n all [] good u same from r = tt
union_apart plan root n all (i ∷ is) good u same from r = (
  λ k a b. (
      let w = under_which plan.nodes k is b in
      let ne : i ≢ w.0 = λ e. not-both (member i is) (ap (λ j. member j is) e ∙ w.1.0) (first_false (member i is) (repeats is) r) in
      apart plan root n i w.0 k good (there plan root n good u) u
      (ap (λ y. member i (inputs_of y)) same ∙ from i (self-member i is)) (ap (λ y. member w.0 (inputs_of y)) same ∙ from w.0 (or-right (eqb i w.0) (member w.0 is) w.1.0)) ne a w.1.1),
  union_apart plan root n all is good u same (λ k m. from k (or-right (eqb i k) (member k is) m)) (second_false (member i is) (repeats is) r),
)

two_apart : (l r : ℕ) (swapped : Bool) → repeats (l ∷ r ∷ []) ≡ false → cond swapped r l ≢ cond swapped l r
two_apart l r true h e = not-both (eqb r l) ((Decides-eqb r l).1 e) (first_false (eqb r l) false (first_false (eqb r l || false) (repeats (r ∷ [])) h))
two_apart l r false h e = not-both (eqb r l) ((Decides-eqb r l).1 (sym e)) (first_false (eqb r l) false (first_false (eqb r l || false) (repeats (r ∷ [])) h))

join_inputs : (plan : Plan) (root n l r : ℕ) (left_on right_on : List _) (options : JoinOptions) → IsWellFormed plan root → is_under plan.nodes root n ≡ true → node_at plan.nodes n ≡ node.Join l r left_on right_on options
    → AreInputs (tree plan root) n (Joins (built_side l r options) (probed_side l r options))
join_inputs plan root n l r left_on right_on options good u is =
    let b = built_side l r options in
    let p = probed_side l r options in
    let st = stage_is plan root n u ∙ ap (stage_of plan.frames (schemas_to plan n)) is in
    let members = side-member l r (swaps options) in
    let inputs : (k : ℕ) → member k (l ∷ r ∷ []) ≡ true → member k (inputs_of (node_at plan.nodes n)) ≡ true = λ k m. ap (λ y. member k (inputs_of y)) is ∙ m in
    let differ : b ≢ p = two_apart l r (swaps options) (ap (λ y. repeats (inputs_of y)) (sym is) ∙ once plan root n good u) in
    let no : goes_through (stage_at plan root n) b ≡ false = ap (λ s. goes_through s b) st ∙ ap (λ t. t || false) (eq-false p b (λ e. differ (sym e))) in (
      ends_here plan root n b good u (inputs b members.0) no (ap (λ s. ends s b) st ∙ itself b),
      input_at plan root n p good u (inputs p members.1) (ap (λ s. goes_through s p) st ∙ or-first (eqb p p) false (itself p)),
      λ k a c. apart plan root n b p k good (there plan root n good u) u (inputs b members.0) (inputs p members.1) differ a c,
    )

-- a union that isn't a source has some input
some_input : (nodes : List Node) (is : List ℕ) → list_all (is_scan_at nodes) is ≡ false → is ≡ [] → ⊥
some_input nodes [] h e = let f : true ≡ false = h in cc
some_input nodes (i ∷ is) h e = let f : i ∷ is ≡ [] = e in cc

union_are : (plan : Plan) (root n : ℕ) (is : List ℕ) (is_source : Bool) → list_all (is_scan_at plan.nodes) is ≡ is_source → IsWellFormed plan root → is_under plan.nodes root n ≡ true → node_at plan.nodes n ≡ node.Union is → AreInputs (tree plan root) n (union_kind is_source is)
union_are plan root n is true e good u same = tt
union_are plan root n is false e good u same = (
  union_inputs plan root n is is good u same (λ i m. m),
  union_apart plan root n is is good u same (λ i m. m) (ap (λ y. repeats (inputs_of y)) (sym same) ∙ once plan root n good u),
  some_input plan.nodes is e,
)

inputs_by : (plan : Plan) (root n : ℕ) (x : Node) → IsWellFormed plan root → is_under plan.nodes root n ≡ true → node_at plan.nodes n ≡ x → AreInputs (tree plan root) n (kind_of plan.nodes x)
inputs_by plan root n (node.DataFrameScan frame columns) good u is = tt
inputs_by plan root n (node.Filter i predicate) good u is = through_input plan root n i (node.Filter i predicate) _ good u is refl refl
inputs_by plan root n (node.SimpleProjection i columns) good u is = through_input plan root n i (node.SimpleProjection i columns) _ good u is refl refl
inputs_by plan root n (node.Select i exprs) good u is = through_input plan root n i (node.Select i exprs) _ good u is refl refl
inputs_by plan root n (node.HStack i exprs) good u is = through_input plan root n i (node.HStack i exprs) _ good u is refl refl
inputs_by plan root n (node.MapFunction i function) good u is = through_input plan root n i (node.MapFunction i function) _ good u is refl refl
inputs_by plan root n (node.Union is) good u same = union_are plan root n is (list_all (is_scan_at plan.nodes) is) refl good u same
inputs_by plan root n (node.Join l r left_on right_on options) good u is = join_inputs plan root n l r left_on right_on options good u is
inputs_by plan root n (node.Sort i by options) good u is =
    let st = stage_is plan root n u ∙ ap (stage_of plan.frames (schemas_to plan n)) is in
    ends_here plan root n i good u (ap (λ y. member i (inputs_of y)) is ∙ self-member i []) (ap (λ s. goes_through s i) st) (ap (λ s. ends s i) st ∙ itself i)

-- ---- rows

abbrev one_worker : Setting
one_worker = record { workers = 1; parts = 1; part = λ key. 0 }

abbrev stages : Plan → ℕ → Stages
stages plan root = stages_of plan root one_worker

rows_are : (plan : Plan) (root n : ℕ) → is_under plan.nodes root n ≡ true → rows (stages plan root) n ≡ rows_of plan n
rows_are plan root n u = stages_have_rows plan root one_worker n u

two_below : (k l r : ℕ) (swapped : Bool) → l < k → r < k → (cond swapped l r < k) × (cond swapped r l < k)
two_below k l r true a b = (a, b)
two_below k l r false a b = (b, a)

is_below : (frames : List Table) (schema : ℕ → List Field) (k : ℕ) (x : Node) → ((i : ℕ) → member i (inputs_of x) ≡ true → i < k) → IsBelow k (stage_of frames schema x)
is_below frames schema k (node.DataFrameScan frame columns) h = tt
is_below frames schema k (node.Filter i predicate) h = tt
is_below frames schema k (node.SimpleProjection i columns) h = tt
is_below frames schema k (node.Select i exprs) h = tt
is_below frames schema k (node.HStack i exprs) h = tt
is_below frames schema k (node.MapFunction i function) h = tt
is_below frames schema k (node.Union is) h = tt
is_below frames schema k (node.Join l r left_on right_on options) h = two_below k l r (swaps options) (h l (self-member l (r ∷ []))) (h r (or-right (eqb l r) (member r (r ∷ [])) (self-member r [])))
is_below frames schema k (node.Sort i by options) h = h i (self-member i [])

-- the rows of a node are its own and what it makes of those that go through it, over the rows of the stages below it
rows_split : (plan : Plan) (root n : ℕ) (s : Stage) → IsWellFormed plan root → is_under plan.nodes root n ≡ true → stage_at plan root n ≡ s → IsBelow n s
    → SameBag (rows_of plan n) (own_rows (rows (stages plan root)) s ++ flat_map (through (rows (stages plan root)) s) (flat_map (rows_to (stages plan root) n) (feeds s)))
rows_split plan root n s good u is low =
    let st = stages plan root in
    let lt = there plan root n good u in
    let here : rows_of plan n ≡ stage_rows (rows_to st n) s = sym (rows_are plan root n u) ∙ walk-at [] (rows_at st) (length plan.nodes) n lt ∙ ap (stage_rows (rows_to st n)) is in
    SameBag-trans (SameBag-from_equal here)
    (node_split n s (rows_to st n) (rows st) low (λ i l. walk-below [] (rows_at st) (length plan.nodes) n i (omega arith) l))

rows_below : (plan : Plan) (root n i : ℕ) → IsWellFormed plan root → is_under plan.nodes root n ≡ true → is_under plan.nodes root i ≡ true → i < n → rows_to (stages plan root) n i ≡ rows_of plan i
rows_below plan root n i good u v l =
    let st = stages plan root in let lt = there plan root n good u in
    walk-below [] (rows_at st) n (length plan.nodes) i l (omega arith) ∙ rows_are plan root i v

below_of : (plan : Plan) (root n : ℕ) (x : Node) → IsWellFormed plan root → is_under plan.nodes root n ≡ true → node_at plan.nodes n ≡ x → IsBelow n (stage_of plan.frames (schemas_to plan n) x)
below_of plan root n x good u is = is_below plan.frames (schemas_to plan n) n x (λ i m. there-under plan root n good (there plan root n good u) u i (ap (λ y. member i (inputs_of y)) is ∙ m))

nil_right : {X : Type 0} (xs : List X) (f : X → ℕ) → total f (xs ++ []) ≡ total f xs
nil_right xs f = total-append f xs [] ∙ omega arith

flat_nil : {X Y : Type 0} (g : X → List Y) (xs : List X) (f : Y → ℕ) → total f (flat_map g (xs ++ [])) ≡ total f (flat_map g xs)
flat_nil g [] f = refl
flat_nil g (x ∷ xs) f = let r = flat_nil g xs f in let a = total-append f (g x) (flat_map g (xs ++ [])) in let b = total-append f (g x) (flat_map g xs) in omega arith

-- a node that makes something of each row
each_rows : (plan : Plan) (root n i : ℕ) (x : Node) (op : Row → List Row) → IsWellFormed plan root → is_under plan.nodes root n ≡ true → node_at plan.nodes n ≡ x → stage_of plan.frames (schemas_to plan n) x ≡ Each i op → IsInput (tree plan root) n i
    → SameBag (rows_of plan n) (flat_map (through (rows_of plan) (stage_at plan root n)) (rows_of plan i))
each_rows plan root n i x op good u is st input =
    let e = stage_is plan root n u ∙ ap (stage_of plan.frames (schemas_to plan n)) is ∙ st in
    let split = rows_split plan root n (Each i op) good u e tt in
    let r = rows_below plan root n i good u input.under input.lower in
    let P : List Row → Type 0 = λ rs. SameBag (rows_of plan n) (flat_map op (rs ++ [])) in
    let made = subst P r split in
    let back : flat_map (through (rows_of plan) (stage_at plan root n)) (rows_of plan i) ≡ flat_map op (rows_of plan i) = ap (λ s. flat_map (through (rows_of plan) s) (rows_of plan i)) e in
    record {
      sums = λ f. (
          let a = made.sums f in
          let q : total f (flat_map op (rows_of plan i ++ [])) ≡ total f (flat_map op (rows_of plan i)) = flat_nil op (rows_of plan i) f in
          let b = ap (total f) back in omega arith);
    }

flat_equal : {X Y : Type 0} (g h : X → List Y) (xs : List X) (P : X → Type 0) → AllByRecursion P xs → ((x : X) → P x → g x ≡ h x) → flat_map g xs ≡ flat_map h xs
flat_equal g h [] P all e = refl
flat_equal g h (x ∷ xs) P all e = ap (λ l. l ++ flat_map g xs) (e x all.0) ∙ ap (λ l. h x ++ l) (flat_equal g h xs P all.1 e)

union_rows : (plan : Plan) (root n : ℕ) (is : List ℕ) → IsWellFormed plan root → is_under plan.nodes root n ≡ true → node_at plan.nodes n ≡ node.Union is → AllByRecursion (IsInput (tree plan root) n) is
    → SameBag (rows_of plan n) (flat_map (through (rows_of plan) (stage_at plan root n)) (flat_map (rows_of plan) is))
union_rows plan root n is good u same inputs =
    let e = stage_is plan root n u ∙ ap (stage_of plan.frames (schemas_to plan n)) same in
    let split = rows_split plan root n (Union is) good u e tt in
    let r = flat_equal (rows_to (stages plan root) n) (rows_of plan) is (IsInput (tree plan root) n) inputs (λ i input. rows_below plan root n i good u input.under input.lower) in
    let pass : Row → List Row = λ row. row ∷ [] in
    let P : List Row → Type 0 = λ rs. SameBag (rows_of plan n) (flat_map pass rs) in
    let made = subst P r split in
    let back : flat_map (through (rows_of plan) (stage_at plan root n)) (flat_map (rows_of plan) is) ≡ flat_map pass (flat_map (rows_of plan) is) = ap (λ s. flat_map (through (rows_of plan) s) (flat_map (rows_of plan) is)) e in
    record { sums = λ f. made.sums f ∙ sym (ap (total f) back) }

union_has : (plan : Plan) (root n : ℕ) (is : List ℕ) (is_source : Bool) → IsWellFormed plan root → is_under plan.nodes root n ≡ true → node_at plan.nodes n ≡ node.Union is → AreInputs (tree plan root) n (union_kind is_source is) → HasRows (tree plan root) n (union_kind is_source is)
union_has plan root n is true good u same are = tt
union_has plan root n is false good u same are = union_rows plan root n is good u same are.0

own_same : (j : JoinStage) (a b : ℕ → List Row) → a j.probe ≡ b j.probe → a j.build ≡ b j.build → own_rows a (Joined j) ≡ own_rows b (Joined j)
own_same j a b p q = rw (p, q) refl

made_same : (j : JoinStage) (a b : ℕ → List Row) (xs ys : List Row) → a j.build ≡ b j.build → xs ≡ ys → flat_map (through a (Joined j)) (xs ++ []) ≡ flat_map (through b (Joined j)) (ys ++ [])
made_same j a b xs ys q e = ap (λ r. flat_map (λ row. probe_share j.join j.right_built r row) (xs ++ [])) q ∙ ap (λ rs. flat_map (through b (Joined j)) (rs ++ [])) e

join_rows : (plan : Plan) (root n b p : ℕ) (j : JoinStage) → IsWellFormed plan root → is_under plan.nodes root n ≡ true → stage_at plan root n ≡ Joined j → j.build ≡ b → j.probe ≡ p → EndsAt (tree plan root) n b → IsInput (tree plan root) n p
    → SameBag (rows_of plan n) (flat_map (through (rows_of plan) (stage_at plan root n)) (rows_of plan p) ++ join_own (rows_of plan) (stage_at plan root n))
join_rows plan root n b p j good u e is_b is_p ends_b input =
    let st = stages plan root in
    let Q : ℕ → Type 0 = λ k. k < n in
    let low_b : j.build < n = subst Q (sym is_b) ends_b.lower in
    let low_p : j.probe < n = subst Q (sym is_p) input.lower in
    let split = rows_split plan root n (Joined j) good u e (low_p, low_b) in
    let all_b : rows st j.build ≡ rows_of plan j.build = rows_are plan root j.build (ap (is_under plan.nodes root) is_b ∙ ends_b.under) in
    let all_p : rows st j.probe ≡ rows_of plan j.probe = rows_are plan root j.probe (ap (is_under plan.nodes root) is_p ∙ input.under) in
    let at_p : rows_to st n j.probe ≡ rows_of plan j.probe = rows_below plan root n j.probe good u (ap (is_under plan.nodes root) is_p ∙ input.under) low_p in
    let own : own_rows (rows st) (Joined j) ≡ own_rows (rows_of plan) (Joined j) = own_same j (rows st) (rows_of plan) all_p all_b in
    let made : flat_map (through (rows st) (Joined j)) (rows_to st n j.probe ++ []) ≡ flat_map (through (rows_of plan) (Joined j)) (rows_of plan j.probe ++ []) =
    made_same j (rows st) (rows_of plan) (rows_to st n j.probe) (rows_of plan j.probe) all_b at_p in
    let back : flat_map (through (rows_of plan) (stage_at plan root n)) (rows_of plan p) ≡ flat_map (through (rows_of plan) (Joined j)) (rows_of plan j.probe) =
    ap (λ s. flat_map (through (rows_of plan) s) (rows_of plan p)) e ∙ ap (λ k. flat_map (through (rows_of plan) (Joined j)) (rows_of plan k)) (sym is_p) in
    let own_back : join_own (rows_of plan) (stage_at plan root n) ≡ own_rows (rows_of plan) (Joined j) = ap (join_own (rows_of plan)) e in
    record {
      sums = λ f. (
          let a = split.sums f in
          let c = total-append f (own_rows (rows st) (Joined j)) (flat_map (through (rows st) (Joined j)) (rows_to st n j.probe ++ [])) in
          let d = ap (total f) own in
          let g = ap (total f) made in
          let h = flat_nil (through (rows_of plan) (Joined j)) (rows_of plan j.probe) f in
          let k = ap (total f) back in
          let l = ap (total f) own_back in
          let m = total-append f (flat_map (through (rows_of plan) (stage_at plan root n)) (rows_of plan p)) (join_own (rows_of plan) (stage_at plan root n)) in omega arith);
    }

rows_by : (plan : Plan) (root n : ℕ) (x : Node) → IsWellFormed plan root → is_under plan.nodes root n ≡ true → node_at plan.nodes n ≡ x → AreInputs (tree plan root) n (kind_of plan.nodes x) → HasRows (tree plan root) n (kind_of plan.nodes x)
rows_by plan root n (node.DataFrameScan frame columns) good u is are = tt
rows_by plan root n (node.Filter i predicate) good u is are = each_rows plan root n i (node.Filter i predicate) _ good u is refl are
rows_by plan root n (node.SimpleProjection i columns) good u is are = each_rows plan root n i (node.SimpleProjection i columns) _ good u is refl are
rows_by plan root n (node.Select i exprs) good u is are = each_rows plan root n i (node.Select i exprs) _ good u is refl are
rows_by plan root n (node.HStack i exprs) good u is are = each_rows plan root n i (node.HStack i exprs) _ good u is refl are
rows_by plan root n (node.MapFunction i function) good u is are = each_rows plan root n i (node.MapFunction i function) _ good u is refl are
rows_by plan root n (node.Union is) good u same are = union_has plan root n is (list_all (is_scan_at plan.nodes) is) good u same are
rows_by plan root n (node.Join l r left_on right_on options) good u is are =
    join_rows plan root n (built_side l r options) (probed_side l r options) _ good u (stage_is plan root n u ∙ ap (stage_of plan.frames (schemas_to plan n)) is) refl refl are.0 are.1
rows_by plan root n (node.Sort i by options) good u is are = tt

-- ---- sources and joins

flat_below : {X : Type 0} (plan : Plan) (root n : ℕ) (a b : ℕ → List X) (is : List ℕ) → AllByRecursion (IsInput (tree plan root) n) is → ((i : ℕ) → i < n → a i ≡ b i) → flat_map a is ≡ flat_map b is
flat_below plan root n a b is inputs same = flat_equal a b is (IsInput (tree plan root) n) inputs (λ i input. same i input.lower)

sources_same : (plan : Plan) (root n : ℕ) (k : Kind) (a b : ℕ → List ℕ) → AreInputs (tree plan root) n k → ((i : ℕ) → i < n → a i ≡ b i) → sources_by a n k ≡ sources_by b n k
sources_same plan root n Begins a b are same = refl
sources_same plan root n (kind.Each i) a b are same = same i are.lower
sources_same plan root n (Unites is) a b are same = flat_below plan root n a b is are.0 same
sources_same plan root n (Joins l r) a b are same = ap (λ x. x ++ a r) (same l are.0.lower) ∙ ap (λ x. b l ++ x) (same r are.1.lower)
sources_same plan root n (Sorts i) a b are same = ap (λ x. n ∷ x) (same i are.lower)

joins_same : (plan : Plan) (root n : ℕ) (k : Kind) (a b : ℕ → List ℕ) → AreInputs (tree plan root) n k → ((i : ℕ) → i < n → a i ≡ b i) → joins_by a n k ≡ joins_by b n k
joins_same plan root n Begins a b are same = refl
joins_same plan root n (kind.Each i) a b are same = same i are.lower
joins_same plan root n (Unites is) a b are same = flat_below plan root n a b is are.0 same
joins_same plan root n (Joins l r) a b are same = ap (λ x. x ++ n ∷ a r) (same l are.0.lower) ∙ ap (λ x. b l ++ n ∷ x) (same r are.1.lower)
joins_same plan root n (Sorts i) a b are same = same i are.lower

-- ---- scans that a source reads together

-- which nodes are read by a source
pub part_reader : (plan : Plan) (root n : ℕ) → is_part plan root n ≡ true → (r : ℕ) × ((reads (stage_at plan root r) n ≡ true) × (is_source_over (kind_at plan.nodes r) ≡ true))
part_reader plan root n h =
    let size = length plan.nodes in
    let split : (o : Option ℕ) → reader (stage_at plan root) size n ≡ o → is_read_whole (kind_at plan.nodes) o ≡ true → (r : ℕ) × ((reads (stage_at plan root r) n ≡ true) × (is_source_over (kind_at plan.nodes r) ≡ true)) = elim [
      | None ↦ λ e g. absurd (let f : false ≡ true = g in cc)
      | Some r ↦ λ e g. (r, ((found_is (λ k. reads (stage_at plan root k) n) size r e).passes, g))
    ] in split (reader (stage_at plan root) size n) refl h

all_member : (p : ℕ → Bool) (xs : List ℕ) (i : ℕ) → list_all p xs ≡ true → member i xs ≡ true → p i ≡ true
all_member p [] i h m = absurd (let f : false ≡ true = m in cc)
all_member p (x ∷ xs) i h m =
    let parts = and_parts (p x) (list_all p xs) h in
    elim (or-case (eqb x i) (member i xs) m) [ inl e ↦ ap p (sym (eq-is x i e)) ∙ parts.0 | inr e ↦ all_member p xs i parts.1 e ]

union_scans : (nodes : List Node) (is : List ℕ) (is_source : Bool) (i : ℕ) → list_all (is_scan_at nodes) is ≡ is_source → is_source_over (union_kind is_source is) ≡ true → member i is ≡ true → is_scan_at nodes i ≡ true
union_scans nodes is true i e h m = all_member (is_scan_at nodes) is i e m
union_scans nodes is false i e h m = absurd (let f : false ≡ true = h in cc)

-- what a source reads is a scan
source_reads : (nodes : List Node) (x : Node) (i : ℕ) → is_source_over (kind_of nodes x) ≡ true → member i (inputs_of x) ≡ true → is_scan_at nodes i ≡ true
source_reads nodes (node.DataFrameScan frame columns) i h m = absurd (let f : false ≡ true = m in cc)
source_reads nodes (node.Filter k predicate) i h m = absurd (let f : false ≡ true = h in cc)
source_reads nodes (node.SimpleProjection k columns) i h m = absurd (let f : false ≡ true = h in cc)
source_reads nodes (node.Select k exprs) i h m = absurd (let f : false ≡ true = h in cc)
source_reads nodes (node.HStack k exprs) i h m = absurd (let f : false ≡ true = h in cc)
source_reads nodes (node.MapFunction k function) i h m = absurd (let f : false ≡ true = h in cc)
source_reads nodes (node.Union is) i h m = union_scans nodes is (list_all (is_scan_at nodes) is) i refl h m
source_reads nodes (node.Join l r left_on right_on options) i h m = absurd (let f : false ≡ true = h in cc)
source_reads nodes (node.Sort k by options) i h m = absurd (let f : false ≡ true = h in cc)

part_scan : (plan : Plan) (root n : ℕ) → is_part plan root n ≡ true → is_scan_at plan.nodes n ≡ true
part_scan plan root n h =
    let r = part_reader plan root n h in
    let reads_it = (reading plan root r.0 n r.1.0).reads_it in
    source_reads plan.nodes (node_at plan.nodes r.0) n r.1.1 reads_it

scan_begins : (nodes : List Node) (x : Node) → is_scan x ≡ true → kind_of nodes x ≡ Begins
scan_begins nodes (node.DataFrameScan frame columns) h = refl
scan_begins nodes (node.Filter k predicate) h = absurd (let f : false ≡ true = h in cc)
scan_begins nodes (node.SimpleProjection k columns) h = absurd (let f : false ≡ true = h in cc)
scan_begins nodes (node.Select k exprs) h = absurd (let f : false ≡ true = h in cc)
scan_begins nodes (node.HStack k exprs) h = absurd (let f : false ≡ true = h in cc)
scan_begins nodes (node.MapFunction k function) h = absurd (let f : false ≡ true = h in cc)
scan_begins nodes (node.Union is) h = absurd (let f : false ≡ true = h in cc)
scan_begins nodes (node.Join l r left_on right_on options) h = absurd (let f : false ≡ true = h in cc)
scan_begins nodes (node.Sort k by options) h = absurd (let f : false ≡ true = h in cc)

-- a node of another kind is no such scan
is_run_at : (plan : Plan) (root n : ℕ) (test : Kind → Bool) → is_under plan.nodes root n ≡ true → test Begins ≡ false → test (kind_at plan.nodes n) ≡ true → (tree plan root).is_run n ≡ true
is_run_at plan root n test u unlike h =
    by_test ((tree plan root).is_run n ≡ true) (is_part plan root n)
    (λ e. absurd (not-both (test (kind_at plan.nodes n)) h (ap test (scan_begins plan.nodes (node_at plan.nodes n) (part_scan plan root n e)) ∙ unlike)))
    (λ e. and-both (is_under plan.nodes root n) (not (is_part plan root n)) u (ap not e))

-- a scan is above nothing
scan_inputs : (x : Node) (i : ℕ) → is_scan x ≡ true → member i (inputs_of x) ≡ true → ⊥
scan_inputs (node.DataFrameScan frame columns) i h m = let f : false ≡ true = m in cc
scan_inputs (node.Filter k predicate) i h m = let f : false ≡ true = h in cc
scan_inputs (node.SimpleProjection k columns) i h m = let f : false ≡ true = h in cc
scan_inputs (node.Select k exprs) i h m = let f : false ≡ true = h in cc
scan_inputs (node.HStack k exprs) i h m = let f : false ≡ true = h in cc
scan_inputs (node.MapFunction k function) i h m = let f : false ≡ true = h in cc
scan_inputs (node.Union is) i h m = let f : false ≡ true = h in cc
scan_inputs (node.Join l r left_on right_on options) i h m = let f : false ≡ true = h in cc
scan_inputs (node.Sort k by options) i h m = let f : false ≡ true = h in cc

-- ---- what is under a node, but the node itself

one_under : (nodes : List Node) (j k i : ℕ) → member i (j ∷ []) ≡ true → is_under nodes i k ≡ true → is_under nodes j k ≡ true
one_under nodes j k i m h = elim (or-case (eqb j i) false m) [ inl e ↦ ap (λ o. is_under nodes o k) (eq-is j i e) ∙ h | inr e ↦ absurd (let f : false ≡ true = e in cc) ]

two_under : (nodes : List Node) (l r k i : ℕ) (swapped : Bool) → member i (l ∷ r ∷ []) ≡ true → is_under nodes i k ≡ true → (is_under nodes (cond swapped r l) k || is_under nodes (cond swapped l r) k) ≡ true
two_under nodes l r k i true m h = elim (or-case (eqb l i) (member i (r ∷ [])) m) [
  | inl e ↦ or-right (is_under nodes r k) (is_under nodes l k) (ap (λ o. is_under nodes o k) (eq-is l i e) ∙ h)
  | inr e ↦ or-first (is_under nodes r k) (is_under nodes l k) (one_under nodes r k i e h)
]
two_under nodes l r k i false m h = elim (or-case (eqb l i) (member i (r ∷ [])) m) [
  | inl e ↦ or-first (is_under nodes l k) (is_under nodes r k) (ap (λ o. is_under nodes o k) (eq-is l i e) ∙ h)
  | inr e ↦ or-right (is_under nodes l k) (is_under nodes r k) (one_under nodes r k i e h)
]

negated : (b : Bool) → not b ≡ true → b ≡ false
negated true h = absurd (let f : false ≡ true = h in cc)
negated false h = refl

union_under : (plan : Plan) (root n k i : ℕ) (is : List ℕ) (is_source : Bool) → list_all (is_scan_at plan.nodes) is ≡ is_source → IsWellFormed plan root → is_under plan.nodes root n ≡ true → node_at plan.nodes n ≡ node.Union is → member i is ≡ true → is_under plan.nodes i k ≡ true → (tree plan root).is_run k ≡ true
    → under_inputs (is_under plan.nodes) (union_kind is_source is) k ≡ true
union_under plan root n k i is false e good u same m h run = any-member (λ o. is_under plan.nodes o k) is i m h
union_under plan root n k i is true e good u same m h run =
    let nodes = plan.nodes in
    let lt = there plan root n good u in
    let low = there-under plan root n good lt u i (ap (λ y. member i (inputs_of y)) same ∙ m) in
    let scan = all_member (is_scan_at nodes) is i e m in
    let st = stage_is plan root n u ∙ ap (stage_of plan.frames (schemas_to plan n)) same in
    let reads_i : reads (stage_at plan root n) i ≡ true = ap (λ s. reads s i) st ∙ or-first (member i is) false m in
    let source : is_source_over (kind_at nodes n) ≡ true = ap (λ y. is_source_over (kind_of nodes y)) same ∙ ap (λ b. is_source_over (union_kind b is)) e in
    let part : is_part plan root i ≡ true = ap (is_read_whole (kind_at nodes)) (reader_is plan root n i good u reads_i) ∙ source in
    elim (under-cases nodes i k (node_at nodes i) (omega arith) refl h) [
      | inl q ↦ absurd (not-both (is_part plan root k) (ap (is_part plan root) (sym q) ∙ part) (negated (is_part plan root k) (and-cases (is_under nodes root k) (not (is_part plan root k)) run).1))
      | inr q ↦ absurd (scan_inputs (node_at nodes i) q.0 scan q.1.0)
    ]

parts_by : (plan : Plan) (root n k : ℕ) (x : Node) → IsWellFormed plan root → is_under plan.nodes root n ≡ true → node_at plan.nodes n ≡ x → (i : ℕ) → member i (inputs_of x) ≡ true → is_under plan.nodes i k ≡ true → (tree plan root).is_run k ≡ true → under_inputs (is_under plan.nodes) (kind_of plan.nodes x) k ≡ true
parts_by plan root n k (node.DataFrameScan frame columns) good u is i m h run = absurd (let f : false ≡ true = m in cc)
parts_by plan root n k (node.Filter j predicate) good u is i m h run = one_under plan.nodes j k i m h
parts_by plan root n k (node.SimpleProjection j columns) good u is i m h run = one_under plan.nodes j k i m h
parts_by plan root n k (node.Select j exprs) good u is i m h run = one_under plan.nodes j k i m h
parts_by plan root n k (node.HStack j exprs) good u is i m h run = one_under plan.nodes j k i m h
parts_by plan root n k (node.MapFunction j function) good u is i m h run = one_under plan.nodes j k i m h
parts_by plan root n k (node.Union is) good u same i m h run = union_under plan root n k i is (list_all (is_scan_at plan.nodes) is) refl good u same m h run
parts_by plan root n k (node.Join l r left_on right_on options) good u is i m h run = two_under plan.nodes l r k i (swaps options) m h
parts_by plan root n k (node.Sort j by options) good u is i m h run = one_under plan.nodes j k i m h

-- ---- the whole

pub is_tree : (plan : Plan) (root : ℕ) → IsWellFormed plan root → IsTree (tree_of plan root)
is_tree plan root good =
    let nodes = plan.nodes in
    let size = length nodes in
    let t = tree_of plan root in
    let root_in = (root-there plan root good.faultless).0 in
    let root_u = under-self nodes root root_in in
    let inputs : (n : ℕ) → is_under nodes root n ≡ true → AreInputs t n (kind_at nodes n) = λ n u. inputs_by plan root n (node_at nodes n) good u refl in
    let below = reads_below plan root good in
    let none = chain_none (stage_at plan root) size root (root_read plan root good) in
    record {
      inputs = inputs;
      rows = λ n u. rows_by plan root n (node_at nodes n) good u refl (inputs n u);
      sources = λ n u. (let lt = there plan root n good u in walk-at [] (sources_at nodes) size n lt ∙ sources_same plan root n (kind_at nodes n) (walk [] (sources_at nodes) n) (sources_of nodes) (inputs n u) (λ i l. walk-below [] (sources_at nodes) n size i l (omega arith)));
      joins = λ n u. (let lt = there plan root n good u in walk-at [] (joins_at nodes) size n lt ∙ joins_same plan root n (kind_at nodes n) (walk [] (joins_at nodes) n) (joins_of nodes) (inputs n u) (λ i l. walk-below [] (joins_at nodes) n size i l (omega arith)));
      parts = λ n k u h ne run. elim (under-cases nodes n k (node_at nodes n) (there plan root n good u) refl h) [
        | inl e ↦ absurd (ne (sym e))
        | inr q ↦ parts_by plan root n k (node_at nodes n) good u refl q.0 q.1.0 q.1.1 run
      ];
      self = λ n u. under-self nodes n (there plan root n good u);
      root_under = root_u;
      trans = λ a b c u v w. under-trans nodes b c size a (there plan root a good u) (omega arith) v w;
      lower = λ a b u v. under-low plan root a b good (there plan root a good u) u v;
      run_under = λ n h. (and-cases (is_under nodes root n) (not (is_part plan root n)) h).0;
      sorts_run = λ n u h. is_run_at plan root n is_sorting u refl h;
      joins_run = λ n u h. is_run_at plan root n is_joining u refl h;
      ordered = root_in;
      root_above = ap (λ c. c.operators) none;
      root_sink = ap (λ c. c.sink) none;
      up = λ n u. (chain_up (stage_at plan root) size n below (there plan root n good u)).sink;
      above = λ n j u le. (chain_up (stage_at plan root) size n below (there plan root n good u)).none j le;
    }
