-- A filter on a node keeps the rows that the node gives with the conjunct where it goes.
use Rattle.std.proofs.Common.{◌≡◌, ℕ, Bool, true, false, cond, List, [], ◌∷◌, ◌++◌, Option, Some, None, map, eqb, refl, ap, sym, ◌∙◌}
use Rattle.std.specs.Prelude.{◌||◌, ◌&&◌, not, filter}
use Rattle.std.specs.Str.{bytes_eq}
use Rattle.std.specs.List.{list_any, flat_map}
use Rattle.std.specs.Cmp.Lexicographic.{pointwise}
use Rattle.std.proofs.lemmas.Bool.Decides.{Decides-eqb}
use Rattle.pipe_schema.specs.Cell.{eq_dtype, is_true_cell}
use Rattle.pipe_frame.specs.Frame.{Table}
use Rattle.pipe_schema.specs.Rows.{Row}
use Rattle.pipe_schema.specs.Schema.{has_name, names_of, first_repeated, first_unknown}
use Rattle.pipe_schema.specs.declared.field.Field.{Field}
use Rattle.pipe_rows.specs.SortOrder.{sorted}
use Rattle.pipe_expr.specs.Formula.{Formula, NamedFormula}
use Rattle.pipe_expr.specs.Types.{columns_in}
use Rattle.pipe_expr.specs.Values.{value_of}
use Rattle.pipe_expr.specs.Projections.{passes, filter_rows, fields_named, row_named, select_fields, select_row, expr_named, expr_field, expr_cell, new_exprs, hstack_fields, hstack_row, renamed_field, unpivoted_row, function_fields, function_rows}
use Rattle.pipe_expr.specs.Joins.{Join, is_kept, pair_fields, makes_pairs, kept_cells, null_of, pair, pad_left, matches, pairs_of, pairs, has_right_match, lacks_right_match, unmatched_left, padded_left, rows_by}
use Rattle.pipe_expr.specs.declared.join_words.RenamePair.{RenamePair}
use Rattle.pipe_expr.specs.declared.join_words.FunctionIR.TheVariants as function
use Rattle.pipe_expr.specs.declared.join_words.JoinType.{JoinType}
use Rattle.pipe_expr.specs.declared.join_words.JoinType.TheVariants as how
use Rattle.pipe_plan.specs.Node.{Node}
use Rattle.pipe_plan.specs.Node as node
use Rattle.pipe_plan.specs.Schemas.{node_schema, join_over}
use Rattle.pipe_plan.specs.PlanRows.{node_rows, sort_keys, slice_rows}
use Rattle.pipe_plan.specs.Faults.{eq_field}
use Rattle.pipe_plan.specs.declared.ir.PlanSlice.{PlanSlice}
use Rattle.pipe_plan.specs.declared.ir.SortOptions.{SortOptions}
use Rattle.pipe_events.specs.Fits.{FitsRow, FitRows}
use Rattle.pipe_events.proofs.Lists.{all-map, all-filter}
use Rattle.pipe_events.proofs.Rows.{same-dtype}
use Rattle.pipe_rules.specs.Names.{with_names}
use Rattle.pipe_rules.specs.Placing.{Placing, Above, OnInputs, OnLeft, OnRight, reads_only, on_inputs_if, is_plain, plain_name, is_replacing, is_passed_on, old_name, is_not_in, right_name, on_left_or, on_right_or, below_join, below_slice}
use Rattle.pipe_rules.specs.Placed.{filtered_all, filtered_at, placing_at, rows_placed, IsReady}
use Rattle.pipe_rules.specs.FilterLaws.{FiltersGoDown}
use Rattle.pipe_rules.proofs.Filters.{all-always, all-of, all-both, all-tested, filter-map, filter-append, filter-flat, filter-whole, filter-constant, filter-swap}
use Rattle.pipe_rules.proofs.Renamed.{value-renamed, value-same}
use Rattle.pipe_rules.proofs.Under.{named-under, same-name, each-known}
use Rattle.pipe_rules.proofs.Columns.{of-named, of-index, of-select, of-hstack, of-renamed, of-left, past-left, in-more, shown, of-right}
use Rattle.pipe_rules.proofs.Sorted.{filter-sorted}

pub and-first : (a b : Bool) → (a && b) ≡ true → a ≡ true
and-first true b e = refl
and-first false b e = cc

pub and-second : (a b : Bool) → (a && b) ≡ true → b ≡ true
and-second true b e = e
and-second false b e = cc

pub or-first : (a b : Bool) → (a || b) ≡ false → a ≡ false
or-first true b e = cc
or-first false b e = refl

pub or-second : (a b : Bool) → (a || b) ≡ false → b ≡ false
or-second true b e = cc
or-second false b e = e

pub not-true : (b : Bool) → not b ≡ true → b ≡ false
not-true true e = cc
not-true false e = refl

pub not-false : (b : Bool) → not b ≡ false → b ≡ true
not-false true e = refl
not-false false e = cc

-- a name is one of the fields'
abbrev pub Known : List Field → List ℕ → Type 0
Known fields name = has_name (names_of fields) name ≡ true

-- ---- one row from each

mapped : (f : Row → Row) (s out : List Field) (c below : Formula) → ((row : Row) → value_of below s row ≡ value_of c out (f row)) → (rows : List Row) → filter_rows c out (map f rows) ≡ map f (filter_rows below s rows)
mapped f s out c below same rows = filter-map (passes c out) (passes below s) f rows (all-always _ (λ row. ap is_true_cell (sym (same row))) rows)

projected : (s : List Field) (columns : List (List ℕ)) (c : Formula) (row : Row) → first_unknown (fields_named s columns) (columns_in c) ≡ None → value_of c s row ≡ value_of c (fields_named s columns) (row_named s columns row)
projected s columns c row known =
    let out = fields_named s columns in
    let made = row_named s columns row in
    value-same c s row out made (all-of (Known out) _ (λ name h. sym (named-under name out made ∙ of-named name s row columns h)) (columns_in c) (each-known out (columns_in c) known))

selected : (s : List Field) (exprs : List NamedFormula) (c : Formula) (row : Row) → reads_only (is_plain exprs) c ≡ true → value_of (with_names (plain_name exprs) c) s row ≡ value_of c (select_fields s exprs) (select_row s exprs row)
selected s exprs c row plain =
    let out = select_fields s exprs in
    let made = select_row s exprs row in
    value-renamed (plain_name exprs) c s row out made (all-of (λ name. is_plain exprs name ≡ true) _ (λ name h. sym (named-under name out made ∙ of-select name s row exprs h)) (columns_in c) (all-tested (is_plain exprs) (columns_in c) plain))

stacked : (s : List Field) (exprs : List NamedFormula) (c : Formula) (row : Row) → reads_only (is_passed_on s exprs) c ≡ true → value_of c s row ≡ value_of c (hstack_fields s exprs) (hstack_row s exprs row)
stacked s exprs c row passed =
    let out = hstack_fields s exprs in
    let made = hstack_row s exprs row in
    value-same c s row out made (all-of (λ name. is_passed_on s exprs name ≡ true) _ (λ name h.
    let there = and-first (has_name (names_of s) name) (not (is_replacing (expr_named exprs name))) h in
    let stays = not-true (is_replacing (expr_named exprs name)) (and-second (has_name (names_of s) name) (not (is_replacing (expr_named exprs name))) h) in
    sym (named-under name out made ∙ of-hstack name s row exprs (map (expr_field s) (new_exprs s exprs)) (map (expr_cell s row) (new_exprs s exprs)) s there stays))
    (columns_in c) (all-tested (is_passed_on s exprs) (columns_in c) passed))

-- ---- functions

renamed-value : (s : List Field) (pairs : List RenamePair) (c : Formula) (row : Row) → first_repeated (names_of s) ≡ None → first_unknown (map (renamed_field pairs) s) (columns_in c) ≡ None → value_of (with_names (old_name pairs s) c) s row ≡ value_of c (map (renamed_field pairs) s) row
renamed-value s pairs c row once known =
    let out = map (renamed_field pairs) s in
    value-renamed (old_name pairs s) c s row out row (all-of (Known out) _ (λ name h. named-under (old_name pairs s name) s row ∙ sym (of-renamed name pairs s row once h) ∙ sym (named-under name out row)) (columns_in c) (each-known out (columns_in c) known))

one-kept : {X : Type 0} (a b : Bool) (x : X) → a ≡ b → cond a (x ∷ []) [] ≡ cond b (x ∷ []) []
one-kept a b x e = ap (λ t. cond t (x ∷ []) []) e

unpivoted-value : (s : List Field) (on index : List (List ℕ)) (variable value : List ℕ) (c : Formula) (row : Row) (name : List ℕ) → reads_only (has_name index) c ≡ true → value_of c s row ≡ value_of c (function_fields (function.Unpivot on index variable value) s) (unpivoted_row s index row name)
unpivoted-value s on index variable value c row column reads =
    let out = function_fields (function.Unpivot on index variable value) s in
    let made = unpivoted_row s index row column in
    value-same c s row out made (all-of (λ name. has_name index name ≡ true) _ (λ name h. sym (named-under name out made ∙ of-index name s row _ _ index h)) (columns_in c) (all-tested (has_name index) (columns_in c) reads))

-- ---- unions

pub same-fields : (f g : List Field) → pointwise eq_field f g ≡ true → f ≡ g
same-fields [] [] e = refl
same-fields [] (_ ∷ _) e = cc
same-fields (_ ∷ _) [] e = cc
same-fields (a ∷ f) (b ∷ g) e =
    let here : eq_field a b ≡ true = and-first (eq_field a b) (pointwise eq_field f g) e in
    let name : a.name ≡ b.name = same-name a.name b.name (and-first (bytes_eq a.name b.name) (eq_dtype a.dtype b.dtype) here) in
    let t : a.dtype ≡ b.dtype = same-dtype a.dtype b.dtype (and-second (bytes_eq a.name b.name) (eq_dtype a.dtype b.dtype) here) in
    let first : a ≡ b = ap (λ n. let field : Field = record { name = n; dtype = a.dtype } in field) name ∙ ap (λ d. let field : Field = record { name = b.name; dtype = d } in field) t in
    ap (λ x. x ∷ f) first ∙ ap (λ l. b ∷ l) (same-fields f g (and-second (eq_field a b) (pointwise eq_field f g) e))

-- ---- joins

module _ (j : Join) (c : Formula) where
  -- whatever stands behind a left row
  left-value : (more : List Field) (l cells : Row) → FitsRow j.left l → reads_only (has_name (names_of j.left)) c ≡ true → passes c (j.left ++ more) (l ++ cells) ≡ passes c j.left l
  left-value more l cells fits reads =
      ap is_true_cell (sym (value-same c j.left l (j.left ++ more) (l ++ cells) (all-of (Known j.left) _ (λ name h. named-under name j.left l ∙ sym (of-left name j.left more l cells fits h) ∙ sym (named-under name (j.left ++ more) (l ++ cells))) (columns_in c) (all-tested (has_name (names_of j.left)) (columns_in c) reads))))

  abbrev below_right : Formula
  below_right = with_names (right_name j j.right) c

  right-value : (l r : Row) → FitsRow j.left l → FitsRow j.right r → first_repeated (names_of j.right) ≡ None → reads_only (is_not_in j.left) c ≡ true → first_unknown (pair_fields j) (columns_in c) ≡ None → passes c (pair_fields j) (pair j l r) ≡ passes below_right j.right r
  right-value l r fl fr once reads known =
      let out = pair_fields j in
      let made = pair j l r in
      ap is_true_cell (sym (value-renamed (right_name j j.right) c j.right r out made (all-of (λ name. Known out name × (is_not_in j.left name ≡ true)) _ (λ name h.
      let absent = not-true (has_name (names_of j.left) name) h.1 in
      let there : has_name (names_of (shown j j.right)) name ≡ true = in-more name j.left (shown j j.right) absent h.0 in
      named-under (right_name j j.right name) j.right r ∙ sym (of-right j name j.right r fr once there) ∙ sym (past-left name j.left (shown j j.right) l (kept_cells (is_kept j) j.right r) fl absent) ∙ sym (named-under name out made))
      (columns_in c) (all-both (Known out) (λ name. is_not_in j.left name ≡ true) (columns_in c) (each-known out (columns_in c) known) (all-tested (is_not_in j.left) (columns_in c) reads)))))

  module _ (left right : List Row) (hl : FitRows j.left left) (hr : FitRows j.right right) where
    abbrev on_pairs : Row → Bool
    on_pairs = passes c (pair_fields j)

    abbrev on_lefts : Row → Bool
    on_lefts = passes c j.left

    pairs-left : reads_only (has_name (names_of j.left)) c ≡ true → filter on_pairs (pairs j left right) ≡ pairs j (filter on_lefts left) right
    pairs-left reads = filter-whole on_pairs on_lefts (pairs_of j right) left (all-of (FitsRow j.left) _ (λ l fl. filter-constant on_pairs (on_lefts l) (pairs_of j right l) (all-map (λ r. Unit {0}) (λ row. on_pairs row ≡ on_lefts l) (pair j l) (λ r _. left-value (shown j j.right) l (kept_cells (is_kept j) j.right r) fl reads) (filter (matches j l) right) (all-always (λ r. Unit {0}) (λ r. tt) (filter (matches j l) right)))) left hl)

    padded-left : reads_only (has_name (names_of j.left)) c ≡ true → filter on_pairs (padded_left j left right) ≡ padded_left j (filter on_lefts left) right
    padded-left reads =
        filter-map on_pairs on_lefts (pad_left j) (unmatched_left j left right) (all-of (FitsRow j.left) _ (λ l fl. left-value (shown j j.right) l (map null_of (filter (is_kept j) j.right)) fl reads) (unmatched_left j left right) (all-filter (FitsRow j.left) (lacks_right_match j right) left hl))
        ∙ ap (map (pad_left j)) (filter-swap on_lefts (lacks_right_match j right) left)

    pairs-right : first_repeated (names_of j.right) ≡ None → reads_only (is_not_in j.left) c ≡ true → first_unknown (pair_fields j) (columns_in c) ≡ None → filter on_pairs (pairs j left right) ≡ pairs j left (filter_rows below_right j.right right)
    pairs-right once reads known = filter-flat on_pairs (pairs_of j right) (pairs_of j (filter_rows below_right j.right right)) left (all-of (FitsRow j.left) _ (λ l fl.
        filter-map on_pairs (passes below_right j.right) (pair j l) (filter (matches j l) right) (all-of (FitsRow j.right) _ (λ r fr. right-value l r fl fr once reads known) (filter (matches j l) right) (all-filter (FitsRow j.right) (matches j l) right hr))
        ∙ ap (map (pair j l)) (filter-swap (passes below_right j.right) (matches j l) right)) left hl)

    -- the rows of a kind of join with a conjunct where it goes
    abbrev kind_fields : JoinType → List Field
    kind_fields kind = cond (makes_pairs kind) (pair_fields j) j.left

    abbrev kind_placed : JoinType → Placing → List Row
    kind_placed kind (Above f) = filter_rows f (kind_fields kind) (rows_by kind j left right)
    kind_placed kind (OnInputs f) = rows_by kind j (filter_rows f j.left left) (filter_rows f j.right right)
    kind_placed kind (OnLeft f) = rows_by kind j (filter_rows f j.left left) right
    kind_placed kind (OnRight f) = rows_by kind j left (filter_rows f j.right right)

    either-side : (a b : Bool) → reads_only (has_name (names_of j.left)) c ≡ a → reads_only (is_not_in j.left) c ≡ b → first_repeated (names_of j.right) ≡ None → first_unknown (pair_fields j) (columns_in c) ≡ None → filter on_pairs (pairs j left right) ≡ kind_placed how.Inner (on_left_or a c (on_right_or b below_right (Above c)))
    either-side true b e f once known = pairs-left e
    either-side false true e f once known = pairs-right once f known
    either-side false false e f once known = refl

    outer-side : (a : Bool) → reads_only (has_name (names_of j.left)) c ≡ a → filter on_pairs (pairs j left right ++ padded_left j left right) ≡ kind_placed how.Left (on_left_or a c (Above c))
    outer-side true e = filter-append on_pairs (pairs j left right) (padded_left j left right) ∙ ap (λ l. l ++ filter on_pairs (padded_left j left right)) (pairs-left e) ∙ ap (λ l. pairs j (filter on_lefts left) right ++ l) (padded-left e)
    outer-side false e = refl

    semi-side : (a : Bool) → filter on_lefts (filter (has_right_match j right) left) ≡ kind_placed how.Semi (on_left_or a c (Above c))
    semi-side true = filter-swap on_lefts (has_right_match j right) left
    semi-side false = refl

    anti-side : (a : Bool) → filter on_lefts (filter (lacks_right_match j right) left) ≡ kind_placed how.Anti (on_left_or a c (Above c))
    anti-side true = filter-swap on_lefts (lacks_right_match j right) left
    anti-side false = refl

    cross-inner : (p : Placing) → kind_placed how.Inner p ≡ kind_placed how.Cross p
    cross-inner (Above f) = refl
    cross-inner (OnInputs f) = refl
    cross-inner (OnLeft f) = refl
    cross-inner (OnRight f) = refl

    by-kind : (kind : JoinType) → first_repeated (names_of j.right) ≡ None → first_unknown (kind_fields kind) (columns_in c) ≡ None → filter_rows c (kind_fields kind) (rows_by kind j left right) ≡ kind_placed kind (below_join kind j c)
    by-kind how.Inner once known = either-side (reads_only (has_name (names_of j.left)) c) (reads_only (is_not_in j.left) c) refl refl once known
    by-kind how.Cross once known = either-side (reads_only (has_name (names_of j.left)) c) (reads_only (is_not_in j.left) c) refl refl once known ∙ cross-inner (below_join how.Cross j c)
    by-kind how.Left once known = outer-side (reads_only (has_name (names_of j.left)) c) refl
    by-kind how.Semi once known = semi-side (reads_only (has_name (names_of j.left)) c)
    by-kind how.Anti once known = anti-side (reads_only (has_name (names_of j.left)) c)
    by-kind how.Full once known = refl

-- ---- a node

module _ (frames : List Table) (schema : ℕ → List Field) (rows : ℕ → List Row) where
  pub first-is : (i : ℕ) (is : List ℕ) → list_any (λ m. eqb m i) (i ∷ is) ≡ true
  first-is i is = let self : eqb i i ≡ true = (Decides-eqb i i).1 refl in rw self refl

  pub next-is : (h i : ℕ) (is : List ℕ) → list_any (λ m. eqb m i) is ≡ true → list_any (λ m. eqb m i) (h ∷ is) ≡ true
  next-is h i is e = elim (eqb h i) as (λ b. (b || list_any (λ m. eqb m i) is) ≡ true) [ true ↦ refl | false ↦ e ]

  united : (c : Formula) (first : ℕ) (is : List ℕ) → list_any (λ i. not (pointwise eq_field (schema first) (schema i))) is ≡ false → filter_rows c (schema first) (flat_map rows is) ≡ flat_map (filtered_all c schema rows) is
  united c first [] e = refl
  united c first (i ∷ is) e =
      let same = same-fields (schema first) (schema i) (not-false (pointwise eq_field (schema first) (schema i)) (or-first (not (pointwise eq_field (schema first) (schema i))) _ e)) in
      filter-append (passes c (schema first)) (rows i) (flat_map rows is)
      ∙ ap (λ s. filter_rows c s (rows i) ++ filter_rows c (schema first) (flat_map rows is)) same
      ∙ ap (λ l. filter_rows c (schema i) (rows i) ++ l) (united c first is (or-second (not (pointwise eq_field (schema first) (schema i))) _ e))

  -- the rows of a sort with a conjunct where it goes
  abbrev sort_placed : ℕ → List (List ℕ) → SortOptions → Option PlanSlice → Placing → List Row
  sort_placed input by options slice (Above f) = filter_rows f (schema input) (slice_rows slice (sorted (sort_keys (schema input) by options) (rows input)))
  sort_placed input by options slice (OnInputs f) = slice_rows slice (sorted (sort_keys (schema input) by options) (filter_rows f (schema input) (rows input)))
  sort_placed input by options slice (OnLeft f) = slice_rows slice (sorted (sort_keys (schema input) by options) (filtered_at input f schema rows input))
  sort_placed input by options slice (OnRight f) = slice_rows slice (sorted (sort_keys (schema input) by options) (filtered_at 0 f schema rows input))

  sort-down : (input : ℕ) (by : List (List ℕ)) (c : Formula) → FitRows (schema input) (rows input) → (options : SortOptions) (slice : Option PlanSlice) → filter_rows c (schema input) (slice_rows slice (sorted (sort_keys (schema input) by options) (rows input))) ≡ sort_placed input by options slice (below_slice slice c)
  sort-down input by c fits options None = filter-sorted (sort_keys (schema input) by options) (passes c (schema input)) (schema input) (rows input) fits
  sort-down input by c fits options (Some slice) = refl

  sort-is : (input : ℕ) (by : List (List ℕ)) (options : SortOptions) (p : Placing) → sort_placed input by options options.slice p ≡ rows_placed frames schema rows (node.Sort input by options) p
  sort-is input by options (Above f) = refl
  sort-is input by options (OnInputs f) = refl
  sort-is input by options (OnLeft f) = refl
  sort-is input by options (OnRight f) = refl

  down : (x : Node) (c : Formula) → IsReady frames schema rows x → first_unknown (node_schema frames schema x) (columns_in c) ≡ None → filter_rows c (node_schema frames schema x) (node_rows frames schema rows x) ≡ rows_placed frames schema rows x (placing_at schema x c)
  down (node.DataFrameScan frame columns) c ready known = refl
  down (node.Filter input predicate) c ready known = filter-swap (passes c (schema input)) (passes predicate (schema input)) (rows input)
  down (node.SimpleProjection input columns) c ready known = mapped (row_named (schema input) columns) (schema input) (fields_named (schema input) columns) c c (λ row. projected (schema input) columns c row known) (rows input)
  down (node.Select input exprs) c ready known =
      let s = schema input in
      let split : (b : Bool) → reads_only (is_plain exprs) c ≡ b → filter_rows c (select_fields s exprs) (map (select_row s exprs) (rows input)) ≡ rows_placed frames schema rows (node.Select input exprs) (on_inputs_if b c (with_names (plain_name exprs) c)) = elim [
        | true ↦ λ e. mapped (select_row s exprs) s (select_fields s exprs) c (with_names (plain_name exprs) c) (λ row. selected s exprs c row e) (rows input)
        | false ↦ λ e. refl
      ]
      in split (reads_only (is_plain exprs) c) refl
  down (node.HStack input exprs) c ready known =
      let s = schema input in
      let split : (b : Bool) → reads_only (is_passed_on s exprs) c ≡ b → filter_rows c (hstack_fields s exprs) (map (hstack_row s exprs) (rows input)) ≡ rows_placed frames schema rows (node.HStack input exprs) (on_inputs_if b c c) = elim [
        | true ↦ λ e. mapped (hstack_row s exprs) s (hstack_fields s exprs) c c (λ row. stacked s exprs c row e) (rows input)
        | false ↦ λ e. refl
      ]
      in split (reads_only (is_passed_on s exprs) c) refl
  down (node.MapFunction input (function.Unpivot on index variable value)) c ready known =
      let s = schema input in
      let f = function.Unpivot on index variable value in
      let out = function_fields f s in
      let split : (b : Bool) → reads_only (has_name index) c ≡ b → filter_rows c out (flat_map (function_rows f s) (rows input)) ≡ rows_placed frames schema rows (node.MapFunction input f) (on_inputs_if b c c) = elim [
        | true ↦ λ e. filter-whole (passes c out) (passes c s) (function_rows f s) (rows input) (all-always _ (λ row. filter-constant (passes c out) (passes c s row) (function_rows f s row) (all-map (λ name. Unit {0}) (λ made. passes c out made ≡ passes c s row) (unpivoted_row s index row) (λ name _. ap is_true_cell (sym (unpivoted-value s on index variable value c row name e))) on (all-always (λ name. Unit {0}) (λ name. tt) on))) (rows input))
        | false ↦ λ e. refl
      ]
      in split (reads_only (has_name index) c) refl
  down (node.MapFunction input (function.Rename pairs)) c ready known =
      let s = schema input in
      let f = function.Rename pairs in
      let out = function_fields f s in
      let below = with_names (old_name pairs s) c in
      let once = ready.once input (first-is input []) in
      filter-whole (passes c out) (passes below s) (function_rows f s) (rows input) (all-always _ (λ row. one-kept (passes c out row) (passes below s row) row (ap is_true_cell (sym (renamed-value s pairs c row once known)))) (rows input))
  down (node.Union []) c ready known = refl
  down (node.Union (first ∷ is)) c ready known =
      filter-append (passes c (schema first)) (rows first) (flat_map rows is)
      ∙ ap (λ l. filter_rows c (schema first) (rows first) ++ l) (united c first is ready.typed)
  down (node.Join left right left_on right_on options) c ready known =
      let x = node.Join left right left_on right_on options in
      let j = join_over (schema left) (schema right) left_on right_on options in
      let fl : FitRows j.left (rows left) = ready.fit left (first-is left (right ∷ [])) in
      let fr : FitRows j.right (rows right) = ready.fit right (next-is left right (right ∷ []) (first-is right [])) in
      let once = ready.once right (next-is left right (right ∷ []) (first-is right [])) in
      let is_left : eqb left left ≡ true = (Decides-eqb left left).1 refl in
      let is_right : eqb right right ≡ true = (Decides-eqb right right).1 refl in
      let apart : eqb right left ≡ false = or-first (eqb right left) false (or-first (eqb right left || false) _ ready.apart) in
      let other : eqb left right ≡ false =
      (let split : (b : Bool) → eqb left right ≡ b → b ≡ false = elim [
        | true ↦ λ e. (let same : left ≡ right = (Decides-eqb left right).0 e in let again : eqb right left ≡ true = (Decides-eqb right left).1 (sym same) in cc)
        | false ↦ λ e. refl
      ] in split (eqb left right) refl) in
      let on_node : (p : Placing) → kind_placed j c (rows left) (rows right) fl fr options.how p ≡ rows_placed frames schema rows x p = elim [
        | Above f ↦ refl
        | OnInputs f ↦ refl
        | OnLeft f ↦ rw (is_left, apart) refl
        | OnRight f ↦ rw (is_right, other) refl
      ]
      in by-kind j c (rows left) (rows right) fl fr options.how once known ∙ on_node (below_join options.how j c)
  down (node.Sort input by options) c ready known =
      sort-down input by c (ready.fit input (first-is input [])) options options.slice
      ∙ sort-is input by options (below_slice options.slice c)

pub goes-down : FiltersGoDown
goes-down = down
