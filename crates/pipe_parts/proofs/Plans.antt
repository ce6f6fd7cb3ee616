-- Plans in parts, node by node.
use Rattle.std.proofs.Common.{◌≡◌, ℕ, zero, suc, ◌<◌, Bool, true, false, cond, eqb, ◌||◌, List, [], ◌∷◌, ◌++◌, map, length, Option, Some, None, refl, ap, sym, subst, ◌∙◌, arith, inl}
use Rattle.std.specs.List.{AllByRecursion, flat_map}
use Rattle.std.proofs.lemmas.Bool.Decides.{Decides-eqb}
use Rattle.pipe_frame.specs.Frame.{Table}
use Rattle.pipe_schema.specs.Rows.{Row, Same}
use Rattle.pipe_schema.specs.declared.field.Field.{Field}
use Rattle.pipe_schema.proofs.Weights.{SameBag-refl, SameBag-from_equal}
use Rattle.pipe_rows.specs.SortOrder.{sorted}
use Rattle.pipe_expr.specs.Projections.{fields_named, row_named, select_fields, select_row, hstack_fields, hstack_row, function_fields, function_rows}
use Rattle.pipe_expr.specs.Joins.{join_rows}
use Rattle.pipe_expr.specs.declared.join_words.FunctionIR.TheVariants as function
use Rattle.pipe_plan.specs.Node.{Node}
use Rattle.pipe_plan.specs.Node as node
use Rattle.pipe_plan.specs.Plan.{Plan}
use Rattle.pipe_plan.specs.Under.{node_at, inputs_of, is_under}
use Rattle.pipe_plan.specs.Schemas.{frame_at, node_schema, schemas_to, schema_of, join_over, scan_fields}
use Rattle.pipe_plan.specs.PlanRows.{node_rows, rows_at, rows_to, rows_of, scan_rows, slice_rows, sort_keys}
use Rattle.pipe_plan.specs.Faults.{or_else, unknown_in, unknown_scanned, IsWellFormed}
use Rattle.pipe_check.proofs.Agree.{agree-members, schema-agree}
use Rattle.pipe_check.proofs.Walks.{member, itself, walk-at, walk-below, schema-own, schema-below}
use Rattle.pipe_events.specs.Fits.{FitRows, FramesFit}
use Rattle.pipe_events.proofs.Plans.{rows_fit, sorts_sure}
use Rattle.pipe_rules.specs.Placed.{first_input}
use Rattle.pipe_rules.proofs.Filters.{all-left, all-right}
use Rattle.pipe_parts.proofs.Granted.{Granted, granted}
use Rattle.pipe_parts.specs.Wishes.{name_before, columns_below, wishes_below, alone, ways}
use Rattle.pipe_parts.specs.declared.wish.Wish.{Wish}
use Rattle.pipe_parts.specs.declared.wish.Wish.TheVariants.{Split, Key, Whole}
use Rattle.pipe_parts.specs.Choices.{Choice, IsIn, before_each, choices_for, node_choices, ways_at, choices_at, choices_to}
use Rattle.pipe_parts.specs.Parts.{Parted, LieAs, unframed, frame_in, scanned, IsScanCut}
use Rattle.pipe_parts.specs.Laws.{part_rows, HasKey, NodesLieAsWished}
use Rattle.pipe_parts.proofs.Lying.{lie-same}
use Rattle.pipe_parts.proofs.ColumnsBelow.{filter-down, projection-down, select-down, hstack-down, unpivot-down, rename-down}
use Rattle.pipe_parts.proofs.Asked.{in-map, in-flat, the-one, AskKeys, Lying, IsGood, flat-good, mapped-good, filtered-good, union-good, sort-good}
use Rattle.pipe_parts.proofs.Joined.{join-good}

-- ---- nodes whatever they scan

abbrev is_scan : Node → Bool
is_scan (node.DataFrameScan frame columns) = true
is_scan (node.Filter input predicate) = false
is_scan (node.SimpleProjection input columns) = false
is_scan (node.Select input exprs) = false
is_scan (node.HStack input exprs) = false
is_scan (node.MapFunction input function) = false
is_scan (node.Union inputs) = false
is_scan (node.Join left right left_on right_on options) = false
is_scan (node.Sort input by options) = false

unframed-own : (x : Node) → is_scan x ≡ false → unframed x ≡ x
unframed-own (node.DataFrameScan frame columns) e = cc
unframed-own (node.Filter input predicate) e = refl
unframed-own (node.SimpleProjection input columns) e = refl
unframed-own (node.Select input exprs) e = refl
unframed-own (node.HStack input exprs) e = refl
unframed-own (node.MapFunction input function) e = refl
unframed-own (node.Union inputs) e = refl
unframed-own (node.Join left right left_on right_on options) e = refl
unframed-own (node.Sort input by options) e = refl

unframed-scan : (x : Node) → is_scan (unframed x) ≡ is_scan x
unframed-scan (node.DataFrameScan frame columns) = refl
unframed-scan (node.Filter input predicate) = refl
unframed-scan (node.SimpleProjection input columns) = refl
unframed-scan (node.Select input exprs) = refl
unframed-scan (node.HStack input exprs) = refl
unframed-scan (node.MapFunction input function) = refl
unframed-scan (node.Union inputs) = refl
unframed-scan (node.Join left right left_on right_on options) = refl
unframed-scan (node.Sort input by options) = refl

-- a node that is no scan is the same in each part
same-node : (x y : Node) → is_scan x ≡ false → unframed y ≡ unframed x → y ≡ x
same-node x y plain e =
    let no_scan : is_scan y ≡ false = sym (unframed-scan y) ∙ ap is_scan e ∙ unframed-scan x ∙ plain in
    sym (unframed-own y no_scan) ∙ e ∙ unframed-own x plain

-- a scan of the same columns
same-scan : (frame : ℕ) (columns : Option (List (List ℕ))) (y : Node) → unframed y ≡ node.DataFrameScan 0 columns → y ≡ node.DataFrameScan (frame_in y) columns
same-scan frame columns (node.DataFrameScan f other) e = (let is : other ≡ columns = cc in ap (node.DataFrameScan f) is)
same-scan frame columns (node.Filter input predicate) e = cc
same-scan frame columns (node.SimpleProjection input names) e = cc
same-scan frame columns (node.Select input exprs) e = cc
same-scan frame columns (node.HStack input exprs) e = cc
same-scan frame columns (node.MapFunction input function) e = cc
same-scan frame columns (node.Union inputs) e = cc
same-scan frame columns (node.Join left right left_on right_on options) e = cc
same-scan frame columns (node.Sort input by options) e = cc

node-mapped : (nodes : List Node) (k : ℕ) → node_at (map unframed nodes) k ≡ unframed (node_at nodes k)
node-mapped [] k = refl
node-mapped (x ∷ nodes) zero = refl
node-mapped (x ∷ nodes) (suc k) = node-mapped nodes k

map-long : {A B : Type 0} (f : A → B) (xs : List A) → length (map f xs) ≡ length xs
map-long f [] = refl
map-long f (x ∷ xs) = ap suc (map-long f xs)

-- ---- what a plan's node gives, by its inputs

-- rows by schemas and rows that agree at the inputs
flat-agree : (a b : ℕ → List Row) (is : List ℕ) → ((i : ℕ) → member i is ≡ true → a i ≡ b i) → flat_map a is ≡ flat_map b is
flat-agree a b [] h = refl
flat-agree a b (i ∷ is) h =
    ap (λ l. l ++ flat_map a is) (h i (let e = itself i in rw e refl))
    ∙ ap (λ l. b i ++ l) (flat-agree a b is (λ k m. h k (elim (eqb i k) as (λ t. (t || member k is) ≡ true) [ true ↦ refl | false ↦ m ])))

first-member : (i : ℕ) (is : List ℕ) → member i (i ∷ is) ≡ true
first-member i is = let e = itself i in rw e refl

second-member : (h i : ℕ) (is : List ℕ) → member i (h ∷ i ∷ is) ≡ true
second-member h i is = elim (eqb h i) as (λ b. (b || member i (i ∷ is)) ≡ true) [ true ↦ refl | false ↦ first-member i is ]

-- a scan reads no input
scan-agree : (frames : List Table) (s t : ℕ → List Field) (a b : ℕ → List Row) (x : Node) → is_scan x ≡ true → node_rows frames s a x ≡ node_rows frames t b x
scan-agree frames s t a b (node.DataFrameScan frame columns) e = refl
scan-agree frames s t a b (node.Filter input predicate) e = cc
scan-agree frames s t a b (node.SimpleProjection input columns) e = cc
scan-agree frames s t a b (node.Select input exprs) e = cc
scan-agree frames s t a b (node.HStack input exprs) e = cc
scan-agree frames s t a b (node.MapFunction input function) e = cc
scan-agree frames s t a b (node.Union inputs) e = cc
scan-agree frames s t a b (node.Join left right left_on right_on options) e = cc
scan-agree frames s t a b (node.Sort input by options) e = cc

rows-agree : (frames others : List Table) (s t : ℕ → List Field) (a b : ℕ → List Row) (x : Node) → is_scan x ≡ false → ((i : ℕ) → member i (inputs_of x) ≡ true → s i ≡ t i) → ((i : ℕ) → member i (inputs_of x) ≡ true → a i ≡ b i) → node_rows frames s a x ≡ node_rows others t b x
rows-agree frames others s t a b (node.DataFrameScan frame columns) plain es er = cc
rows-agree frames others s t a b (node.Filter input predicate) plain es er =
    ap (λ f. node_rows frames (λ i. f) a (node.Filter input predicate)) (es input (first-member input [])) ∙ ap (λ l. node_rows others t (λ i. l) (node.Filter input predicate)) (er input (first-member input []))
rows-agree frames others s t a b (node.SimpleProjection input columns) plain es er =
    ap (λ f. node_rows frames (λ i. f) a (node.SimpleProjection input columns)) (es input (first-member input [])) ∙ ap (λ l. node_rows others t (λ i. l) (node.SimpleProjection input columns)) (er input (first-member input []))
rows-agree frames others s t a b (node.Select input exprs) plain es er =
    ap (λ f. node_rows frames (λ i. f) a (node.Select input exprs)) (es input (first-member input [])) ∙ ap (λ l. node_rows others t (λ i. l) (node.Select input exprs)) (er input (first-member input []))
rows-agree frames others s t a b (node.HStack input exprs) plain es er =
    ap (λ f. node_rows frames (λ i. f) a (node.HStack input exprs)) (es input (first-member input [])) ∙ ap (λ l. node_rows others t (λ i. l) (node.HStack input exprs)) (er input (first-member input []))
rows-agree frames others s t a b (node.MapFunction input function) plain es er =
    ap (λ f. node_rows frames (λ i. f) a (node.MapFunction input function)) (es input (first-member input [])) ∙ ap (λ l. node_rows others t (λ i. l) (node.MapFunction input function)) (er input (first-member input []))
rows-agree frames others s t a b (node.Union inputs) plain es er = flat-agree a b inputs er
rows-agree frames others s t a b (node.Join left right left_on right_on options) plain es er =
    ap (λ f. join_rows (join_over f (s right) left_on right_on options) (a left) (a right)) (es left (first-member left (right ∷ [])))
    ∙ ap (λ f. join_rows (join_over (t left) f left_on right_on options) (a left) (a right)) (es right (second-member left right []))
    ∙ ap (λ l. join_rows (join_over (t left) (t right) left_on right_on options) l (a right)) (er left (first-member left (right ∷ [])))
    ∙ ap (λ l. join_rows (join_over (t left) (t right) left_on right_on options) (b left) l) (er right (second-member left right []))
rows-agree frames others s t a b (node.Sort input by options) plain es er =
    ap (λ f. node_rows frames (λ i. f) a (node.Sort input by options)) (es input (first-member input [])) ∙ ap (λ l. node_rows others t (λ i. l) (node.Sort input by options)) (er input (first-member input []))

-- the rows of a node are made of those of its inputs
pub rows-granted : (plan : Plan) (root n : ℕ) → IsWellFormed plan root → is_under plan.nodes root n ≡ true → rows_of plan n ≡ node_rows plan.frames (schema_of plan) (rows_of plan) (node_at plan.nodes n)
rows-granted plan root n good under =
    let x = node_at plan.nodes n in
    let g = granted plan root n good under in
    let there = g.there in
    let same_schemas : (i : ℕ) → member i (inputs_of x) ≡ true → schemas_to plan n i ≡ schema_of plan i = λ i m. schema-below plan n i (g.fed i m).0 there in
    let same_rows : (i : ℕ) → member i (inputs_of x) ≡ true → rows_to plan n i ≡ rows_of plan i = λ i m. (let lt = (g.fed i m).0 in walk-below [] (rows_at plan) n (length plan.nodes) i lt (omega arith)) in
    let split : (y : Node) → (b : Bool) → is_scan y ≡ b → ((i : ℕ) → member i (inputs_of y) ≡ true → schemas_to plan n i ≡ schema_of plan i) → ((i : ℕ) → member i (inputs_of y) ≡ true → rows_to plan n i ≡ rows_of plan i) → node_rows plan.frames (schemas_to plan n) (rows_to plan n) y ≡ node_rows plan.frames (schema_of plan) (rows_of plan) y = λ y. elim [
      | true ↦ λ e a b. scan-agree plan.frames (schemas_to plan n) (schema_of plan) (rows_to plan n) (rows_of plan) y e
      | false ↦ λ e a b. rows-agree plan.frames plan.frames (schemas_to plan n) (schema_of plan) (rows_to plan n) (rows_of plan) y e a b
    ] in
    walk-at [] (rows_at plan) (length plan.nodes) n there ∙ split x (is_scan x) refl same_schemas same_rows

schema-frames : (frames others : List Table) (s : ℕ → List Field) (x : Node) → is_scan x ≡ false → node_schema frames s x ≡ node_schema others s x
schema-frames frames others s (node.DataFrameScan frame columns) plain = cc
schema-frames frames others s (node.Filter input predicate) plain = refl
schema-frames frames others s (node.SimpleProjection input columns) plain = refl
schema-frames frames others s (node.Select input exprs) plain = refl
schema-frames frames others s (node.HStack input exprs) plain = refl
schema-frames frames others s (node.MapFunction input function) plain = refl
schema-frames frames others s (node.Union inputs) plain = refl
schema-frames frames others s (node.Join left right left_on right_on options) plain = refl
schema-frames frames others s (node.Sort input by options) plain = refl

-- ---- choices of a node

pub plain-choices : (below : ℕ → Wish → List Choice) (n : ℕ) (x : Node) (asked : List (List Wish)) (wish : Wish) → is_scan x ≡ false → node_choices below n x asked wish ≡ flat_map (choices_for below (inputs_of x)) asked
plain-choices below n (node.DataFrameScan frame columns) asked wish plain = cc
plain-choices below n (node.Filter input predicate) asked wish plain = refl
plain-choices below n (node.SimpleProjection input columns) asked wish plain = refl
plain-choices below n (node.Select input exprs) asked wish plain = refl
plain-choices below n (node.HStack input exprs) asked wish plain = refl
plain-choices below n (node.MapFunction input function) asked wish plain = refl
plain-choices below n (node.Union inputs) asked wish plain = refl
plain-choices below n (node.Join left right left_on right_on options) asked wish plain = refl
plain-choices below n (node.Sort input by options) asked wish plain = refl

pub ways-agree : (s t : ℕ → List Field) (n : ℕ) (x : Node) (wish : Wish) → ((i : ℕ) → member i (inputs_of x) ≡ true → s i ≡ t i) → ways (s (first_input (inputs_of x))) n x wish ≡ ways (t (first_input (inputs_of x))) n x wish
ways-agree s t n (node.DataFrameScan frame columns) wish h = refl
ways-agree s t n (node.Filter input predicate) wish h = ap (λ f. ways f n (node.Filter input predicate) wish) (h input (first-member input []))
ways-agree s t n (node.SimpleProjection input columns) wish h = ap (λ f. ways f n (node.SimpleProjection input columns) wish) (h input (first-member input []))
ways-agree s t n (node.Select input exprs) wish h = ap (λ f. ways f n (node.Select input exprs) wish) (h input (first-member input []))
ways-agree s t n (node.HStack input exprs) wish h = ap (λ f. ways f n (node.HStack input exprs) wish) (h input (first-member input []))
ways-agree s t n (node.MapFunction input function) wish h = ap (λ f. ways f n (node.MapFunction input function) wish) (h input (first-member input []))
ways-agree s t n (node.Union inputs) wish h = refl
ways-agree s t n (node.Join left right left_on right_on options) wish h = ap (λ f. ways f n (node.Join left right left_on right_on options) wish) (h left (first-member left (right ∷ [])))
ways-agree s t n (node.Sort input by options) wish h = refl

first-none : {X : Type 0} (a b : Option X) → or_else a b ≡ None → a ≡ None
first-none (Some x) b e = cc
first-none None b e = refl

second-none : {X : Type 0} (a b : Option X) → or_else a b ≡ None → b ≡ None
second-none (Some x) b e = cc
second-none None b e = e

-- ---- a node of a plan in parts

module _ (plan : Plan) (root : ℕ) (good : IsWellFormed plan root) (fits : FramesFit plan) (parted : Parted) (same : (p : ℕ) → p < parted.count → map unframed (parted.plan p).nodes ≡ map unframed plan.nodes) where
  abbrev s : ℕ → List Field
  s = schema_of plan

  abbrev r : ℕ → List Row
  r = rows_of plan

  abbrev q : ℕ → ℕ → List Row
  q = part_rows parted

  fit : (i : ℕ) → is_under plan.nodes root i ≡ true → FitRows (s i) (r i)
  fit i under = rows_fit plan root good.faultless fits i under

  node-good : (n : ℕ) → is_under plan.nodes root n ≡ true → (x : Node) → node_at plan.nodes n ≡ x → Granted plan root n x → is_scan x ≡ false → (up : Wish) → HasKey (node_schema plan.frames s x) up → (way : List Wish) → IsIn way (ways (s (first_input (inputs_of x))) n x up) → IsGood parted s r q up (node_schema plan.frames s x) (node_rows plan.frames s r x) (λ p. node_rows plan.frames s (λ i. q i p) x) (inputs_of x) way
  node-good n under (node.DataFrameScan frame columns) at g plain up has way h = cc
  node-good n under (node.Filter input predicate) at g plain up has way h =
      filtered-good parted s r q (node.Filter input predicate) input predicate (filter-down (s input) input predicate) (fit input (g.fed input (first-member input [])).1) up has way h
  node-good n under (node.SimpleProjection input columns) at g plain up has way h =
      mapped-good parted s r q (node.SimpleProjection input columns) input (fields_named (s input) columns) (row_named (s input) columns) (projection-down (s input) input columns g.known) (fit input (g.fed input (first-member input [])).1) up has way h
  node-good n under (node.Select input exprs) at g plain up has way h =
      mapped-good parted s r q (node.Select input exprs) input (select_fields (s input) exprs) (select_row (s input) exprs) (select-down (s input) input exprs g.known) (fit input (g.fed input (first-member input [])).1) up has way h
  node-good n under (node.HStack input exprs) at g plain up has way h =
      mapped-good parted s r q (node.HStack input exprs) input (hstack_fields (s input) exprs) (hstack_row (s input) exprs) (hstack-down (s input) input exprs g.known) (fit input (g.fed input (first-member input [])).1) up has way h
  node-good n under (node.MapFunction input (function.Unpivot on index variable value)) at g plain up has way h =
      let u = function.Unpivot on index variable value in
      flat-good parted s r q (node.MapFunction input u) input (function_fields u (s input)) (function_rows u (s input)) (unpivot-down (s input) input on index variable value g.known) (fit input (g.fed input (first-member input [])).1) up has way h
  node-good n under (node.MapFunction input (function.Rename pairs)) at g plain up has way h =
      let u = function.Rename pairs in
      let below = (g.fed input (first-member input [])).1 in
      flat-good parted s r q (node.MapFunction input u) input (function_fields u (s input)) (function_rows u (s input)) (rename-down (s input) input pairs (granted plan root input good below).distinct) (fit input below) up has way h
  node-good n under (node.Union inputs) at g plain up has way h = union-good parted s r q inputs g.typed up has way h
  node-good n under (node.Join left right left_on right_on options) at g plain up has way h =
      let j = join_over (s left) (s right) left_on right_on options in
      let x = node.Join left right left_on right_on options in
      join-good parted s r q left right j refl refl (fit left (g.fed left (first-member left (right ∷ []))).1)
      (first-none _ _ g.known) (second-none _ _ g.known) x (λ name. refl) options.how n up has way h
  node-good n under (node.Sort input by options) at g plain up has way h =
      let below = (g.fed input (first-member input [])).0 in
      let there = g.there in
      let alike = sorts_sure plan root good.faultless fits n input by options there under at in
      let schema : schemas_to plan n input ≡ s input = schema-below plan n input below there in
      sort-good parted s r q options.slice (sort_keys (s input) by options) input
      (subst (λ f. (bag : List Row) → Same bag (r input) → slice_rows options.slice (sorted (sort_keys f by options) bag) ≡ slice_rows options.slice (sorted (sort_keys f by options) (r input))) schema alike)
      up has way h

  -- ---- the parts' own plans

  part-there : (p : ℕ) → p < parted.count → (n : ℕ) → n < length plan.nodes → n < length (parted.plan p).nodes
  part-there p lt n there =
      let a = map-long unframed (parted.plan p).nodes in
      let b = map-long unframed plan.nodes in
      let e : length (map unframed (parted.plan p).nodes) ≡ length (map unframed plan.nodes) = ap length (same p lt) in
      omega arith

  part-node : (p : ℕ) → p < parted.count → (n : ℕ) → unframed (node_at (parted.plan p).nodes n) ≡ unframed (node_at plan.nodes n)
  part-node p lt n = sym (node-mapped (parted.plan p).nodes n) ∙ ap (λ nodes. node_at nodes n) (same p lt) ∙ node-mapped plan.nodes n

  -- a node lies as wished, and has its schema in each part
  record NodeLies (n : ℕ) (wish : Wish) : Type 0 where
    schema : (p : ℕ) → p < parted.count → schema_of (parted.plan p) n ≡ s n
    lies : LieAs parted wish (s n) (r n) (q n)

  module _ (n : ℕ) (under : is_under plan.nodes root n ≡ true) where
    abbrev x : Node
    x = node_at plan.nodes n

    g : Granted plan root n x
    g = granted plan root n good under

    -- ---- no scan

    module _ (plain : is_scan x ≡ false) where
      plain-node : (p : ℕ) → p < parted.count → node_at (parted.plan p).nodes n ≡ x
      plain-node p lt = same-node x (node_at (parted.plan p).nodes n) plain (part-node p lt n)

      module _ (schemas : (i : ℕ) → member i (inputs_of x) ≡ true → (p : ℕ) → p < parted.count → schema_of (parted.plan p) i ≡ s i) where
        low-schemas : (p : ℕ) → p < parted.count → (i : ℕ) → member i (inputs_of x) ≡ true → schemas_to (parted.plan p) n i ≡ s i
        low-schemas p lt i m = schema-below (parted.plan p) n i (g.fed i m).0 (part-there p lt n g.there) ∙ schemas i m p lt

        plain-schema : (p : ℕ) → p < parted.count → schema_of (parted.plan p) n ≡ s n
        plain-schema p lt =
            schema-own (parted.plan p) n (part-there p lt n g.there)
            ∙ ap (node_schema (parted.plan p).frames (schemas_to (parted.plan p) n)) (plain-node p lt)
            ∙ schema-agree (parted.plan p).frames (schemas_to (parted.plan p) n) s x (agree-members (schemas_to (parted.plan p) n) s (inputs_of x) (low-schemas p lt))
            ∙ schema-frames (parted.plan p).frames plan.frames s x plain
            ∙ sym g.made

        plain-rows : (p : ℕ) → p < parted.count → q n p ≡ node_rows plan.frames s (λ i. q i p) x
        plain-rows p lt =
            let there = part-there p lt n g.there in
            walk-at [] (rows_at (parted.plan p)) (length (parted.plan p).nodes) n there
            ∙ ap (node_rows (parted.plan p).frames (schemas_to (parted.plan p) n) (rows_to (parted.plan p) n)) (plain-node p lt)
            ∙ rows-agree (parted.plan p).frames plan.frames (schemas_to (parted.plan p) n) s (rows_to (parted.plan p) n) (λ i. q i p) x plain (low-schemas p lt)
            (λ i m. (let below = (g.fed i m).0 in walk-below [] (rows_at (parted.plan p)) n (length (parted.plan p).nodes) i below (omega arith)))

        plain-lies : (wish : Wish) (way : List Wish) → IsGood parted s r q wish (node_schema plan.frames s x) (node_rows plan.frames s r x) (λ p. node_rows plan.frames s (λ i. q i p) x) (inputs_of x) way → Lying parted s r q (inputs_of x) way → NodeLies n wish
        plain-lies wish way is lying = record {
          schema = plain-schema;
          lies = subst (λ f. LieAs parted wish f (r n) (q n)) (sym g.made)
              (lie-same parted wish (node_schema plan.frames s x) (r n) (node_rows plan.frames s r x) (q n) (λ p. node_rows plan.frames s (λ i. q i p) x)
              (SameBag-from_equal (rows-granted plan root n good under)) (λ p lt. SameBag-from_equal (plain-rows p lt)) (is.lies lying));
        }

    -- ---- a scan

    module _ (frame : ℕ) (columns : Option (List (List ℕ))) (at : x ≡ node.DataFrameScan frame columns) where
      abbrev table : Table
      table = scanned plan n

      scan-node : (p : ℕ) → p < parted.count → node_at (parted.plan p).nodes n ≡ node.DataFrameScan (frame_in (node_at (parted.plan p).nodes n)) columns
      scan-node p lt = same-scan frame columns (node_at (parted.plan p).nodes n) (part-node p lt n ∙ ap unframed at)

      own-table : frame_at plan.frames frame ≡ table
      own-table = ap (λ y. frame_at plan.frames (frame_in y)) (sym at)

      scan-schema : s n ≡ scan_fields table.schema columns
      scan-schema = g.made ∙ ap (node_schema plan.frames s) at ∙ ap (λ t. scan_fields t.schema columns) own-table

      scan-list : r n ≡ scan_rows table columns
      scan-list = rows-granted plan root n good under ∙ ap (node_rows plan.frames s r) at ∙ ap (λ t. scan_rows t columns) own-table

      part-schema : (p : ℕ) → p < parted.count → schema_of (parted.plan p) n ≡ scan_fields (scanned (parted.plan p) n).schema columns
      part-schema p lt =
          schema-own (parted.plan p) n (part-there p lt n g.there)
          ∙ ap (node_schema (parted.plan p).frames (schemas_to (parted.plan p) n)) (scan-node p lt)

      part-list : (p : ℕ) → p < parted.count → q n p ≡ scan_rows (scanned (parted.plan p) n) columns
      part-list p lt =
          walk-at [] (rows_at (parted.plan p)) (length (parted.plan p).nodes) n (part-there p lt n g.there)
          ∙ ap (node_rows (parted.plan p).frames (schemas_to (parted.plan p) n) (rows_to (parted.plan p) n)) (scan-node p lt)

    -- a key's columns stand below a projection as they are
    named-below : (fields : List Field) (names columns : List (List ℕ)) → columns_below fields (node.SimpleProjection 0 names) columns ≡ Some columns
    named-below fields names [] = refl
    named-below fields names (name ∷ columns) = ap (name_before (Some name)) (named-below fields names columns)

    one-way : (fields : List Field) (names : List (List ℕ)) (wish : Wish) → IsIn (alone wish) (map alone (wishes_below fields (node.SimpleProjection 0 names) wish))
    one-way fields names Split = inl refl
    one-way fields names (Key key columns) = (let e = named-below fields names columns in rw e (inl refl))
    one-way fields names Whole = inl refl

    -- columns named of a frame whose rows lie as wished
    named-lie : (t : Table) (u : ℕ → Table) (columns : Option (List (List ℕ))) (known : unknown_scanned t.schema columns ≡ None) → FitRows t.schema t.rows → ((p : ℕ) → p < parted.count → (u p).schema ≡ t.schema) → (wish : Wish) → HasKey (scan_fields t.schema columns) wish → LieAs parted wish t.schema t.rows (λ p. (u p).rows) → LieAs parted wish (scan_fields t.schema columns) (scan_rows t columns) (λ p. scan_rows (u p) columns)
    named-lie t u None known fit_rows schemas wish has lies = lies
    named-lie t u (Some names) known fit_rows schemas wish has lies =
        let made = mapped-good parted (λ i. t.schema) (λ i. t.rows) (λ i p. (u p).rows) (node.SimpleProjection 0 names) 0 (fields_named t.schema names) (row_named t.schema names) (projection-down t.schema 0 names known) fit_rows wish has (alone wish) (one-way t.schema names wish) in
        lie-same parted wish (fields_named t.schema names) (map (row_named t.schema names) t.rows) (map (row_named t.schema names) t.rows) (λ p. map (row_named (u p).schema names) (u p).rows) (λ p. map (row_named t.schema names) (u p).rows)
        (SameBag-refl (map (row_named t.schema names) t.rows)) (λ p lt. SameBag-from_equal (ap (λ f. map (row_named f names) (u p).rows) (schemas p lt)))
        (made.lies (lies, tt))

    scan-lies : (frame : ℕ) (columns : Option (List (List ℕ))) → x ≡ node.DataFrameScan frame columns → (wish : Wish) → HasKey (s n) wish → IsScanCut plan parted (record { scan = n; cut = wish }) → NodeLies n wish
    scan-lies frame columns at wish has cut =
        let t = scanned plan n in
        let known : unknown_scanned t.schema columns ≡ None = sym (ap (λ f. unknown_scanned f.schema columns) (own-table frame columns at)) ∙ sym (ap (unknown_in plan.frames s) at) ∙ g.known in
        let fit_rows : FitRows t.schema t.rows = fits (frame_in x) in
        let fields = scan-schema frame columns at in
        record {
          schema = λ p lt. part-schema frame columns at p lt ∙ ap (λ f. scan_fields f columns) (cut.columns p lt) ∙ sym fields;
          lies = subst (λ f. LieAs parted wish f (r n) (q n)) (sym fields)
              (lie-same parted wish (scan_fields t.schema columns) (r n) (scan_rows t columns) (q n) (λ p. scan_rows (scanned (parted.plan p) n) columns)
              (SameBag-from_equal (scan-list frame columns at)) (λ p lt. SameBag-from_equal (part-list frame columns at p lt))
              (named-lie t (λ p. scanned (parted.plan p) n) columns known fit_rows cut.columns wish (subst (λ f. HasKey f wish) fields has) cut.rows));
        }

  -- ---- inputs

  abbrev Claim : (ℕ → Wish → List Choice) → Type 0
  Claim below =
      (i : ℕ) → is_under plan.nodes root i ≡ true → (wish : Wish) → HasKey (s i) wish → (choice : Choice) → IsIn choice (below i wish) → AllByRecursion (IsScanCut plan parted) choice → NodeLies i wish

  record InputsLie (is : List ℕ) (ws : List Wish) : Type 0 where
    lying : Lying parted s r q is ws
    schemas : (i : ℕ) → member i is ≡ true → (p : ℕ) → p < parted.count → schema_of (parted.plan p) i ≡ s i

  inputs-lie : (below : ℕ → Wish → List Choice) → Claim below → (is : List ℕ) → ((i : ℕ) → member i is ≡ true → is_under plan.nodes root i ≡ true) → (ws : List Wish) → AskKeys s is ws → (choice : Choice) → IsIn choice (choices_for below is ws) → AllByRecursion (IsScanCut plan parted) choice → InputsLie is ws
  inputs-lie below claim [] unders [] asks choice h cut = record { lying = tt; schemas = λ i m. absurd (let no_ : false ≡ true = m in cc) }
  inputs-lie below claim [] unders (w ∷ ws) asks choice h cut = absurd asks
  inputs-lie below claim (i ∷ is) unders [] asks choice h cut = absurd asks
  inputs-lie below claim (i ∷ is) unders (w ∷ ws) asks choice h cut =
      let first = in-flat (before_each (choices_for below is ws)) (below i w) choice h in
      let c : Choice = first.0 in
      let later = in-map (λ d. c ++ d) (choices_for below is ws) choice first.2 in
      let d : Choice = later.0 in
      let both : AllByRecursion (IsScanCut plan parted) (c ++ d) = subst (AllByRecursion (IsScanCut plan parted)) (sym later.2) cut in
      let one = claim i (unders i (first-member i is)) w asks.0 c first.1 (all-left (IsScanCut plan parted) c d both) in
      let more = inputs-lie below claim is (λ k m. unders k (elim (eqb i k) as (λ t. (t || member k is) ≡ true) [ true ↦ refl | false ↦ m ])) ws asks.1 d later.1 (all-right (IsScanCut plan parted) c d both) in
      record {
        lying = (one.lies, more.lying);
        schemas = λ k m p lt.
            let split : (b : Bool) → eqb i k ≡ b → (b || member k is) ≡ true → schema_of (parted.plan p) k ≡ s k = elim [
              | true ↦ λ e _. subst (λ o. schema_of (parted.plan p) o ≡ s o) ((Decides-eqb i k).0 e) (one.schema p lt)
              | false ↦ λ _ o. more.schemas k o p lt
            ] in split (eqb i k) refl m;
      }

  at-node : (n : ℕ) → is_under plan.nodes root n ≡ true → (below : ℕ → Wish → List Choice) → Claim below → (wish : Wish) → HasKey (s n) wish → (choice : Choice) → IsIn choice (choices_at plan below n wish) → AllByRecursion (IsScanCut plan parted) choice → (y : Node) → node_at plan.nodes n ≡ y → NodeLies n wish
  at-node n under below claim wish has choice h cut (node.DataFrameScan frame columns) at =
      let here : IsIn choice ((record { scan = n; cut = wish } ∷ []) ∷ []) = subst (λ z. IsIn choice (node_choices below n z (ways_at plan n wish) wish)) at h in
      let is = the-one (record { scan = n; cut = wish } ∷ []) choice here in
      scan-lies n under frame columns at wish has (subst (AllByRecursion (IsScanCut plan parted)) (sym is) cut).0
  at-node n under below claim wish has choice h cut y at =
      let z = node_at plan.nodes n in
      let plain : is_scan z ≡ false = ap is_scan at in
      let g = granted plan root n good under in
      let listed : IsIn choice (flat_map (choices_for below (inputs_of z)) (ways_at plan n wish)) = subst (IsIn choice) (plain-choices below n z (ways_at plan n wish) wish plain) h in
      let found = in-flat (choices_for below (inputs_of z)) (ways_at plan n wish) choice listed in
      let way : List Wish = found.0 in
      let low = ways-agree (schemas_to plan n) s n z wish (λ i m. schema-below plan n i (g.fed i m).0 g.there) in
      let is = node-good n under z refl g plain wish (subst (λ f. HasKey f wish) g.made has) way (subst (IsIn way) low found.1) in
      let inputs = inputs-lie below claim (inputs_of z) (λ i m. (g.fed i m).1) way is.asks choice found.2 cut in
      plain-lies n under plain inputs.schemas wish way is inputs.lying

  claims : (k : ℕ) → Claim (choices_to plan k)
  claims zero i under wish has choice h cut = absurd h
  claims (suc k) i under wish has choice h cut =
      let split : (b : Bool) → eqb i k ≡ b → IsIn choice ((cond b (choices_at plan (choices_to plan k) k) (choices_to plan k i)) wish) → NodeLies i wish = elim [
        | true ↦ λ e o. (
            let is : i ≡ k = (Decides-eqb i k).0 e in
            at-node i under (choices_to plan k) (claims k) wish has choice (subst (λ m. IsIn choice (choices_at plan (choices_to plan k) m wish)) (sym is) o) cut (node_at plan.nodes i) refl)
        | false ↦ λ _ o. claims k i under wish has choice o cut
      ] in split (eqb i k) refl h

pub nodes-lie : NodesLieAsWished
nodes-lie plan root good fits n under wish has choice h parted cut =
    (claims plan root good fits parted cut.nodes (length plan.nodes) n under wish has choice h cut.scans).lies
