-- The law of needed columns, by kind of node.
use Rattle.std.proofs.Common.{◌≡◌, ℕ, Bool, true, false, cond, eqb, ◌||◌, ◌&&◌, List, [], ◌∷◌, ◌++◌, map, Option, Some, None, refl, ap, sym, ◌∙◌, subst}
use Rattle.std.specs.Prelude.{filter}
use Rattle.std.specs.List.{AllByRecursion, flat_map, list_any}
use Rattle.std.specs.Str.{bytes_eq}
use Rattle.std.proofs.lemmas.Bool.Decides.{Decides-eqb}
use Rattle.pipe_frame.specs.Frame.{Table}
use Rattle.pipe_schema.specs.Rows.{Row}
use Rattle.pipe_schema.specs.Schema.{has_name, names_of, first_repeated, first_unknown}
use Rattle.pipe_schema.specs.declared.field.Field.{Field}
use Rattle.pipe_schema.proofs.Weights.{SameBag, SameBag-sym, SameBag-trans, SameBag-map, SameBag-from_rows, Same-from_bag}
use Rattle.pipe_rows.specs.SortOrder.{SortBy, sorted}
use Rattle.pipe_rows.proofs.SortLaw.{sorted-same}
use Rattle.pipe_expr.specs.Formula.{Formula, NamedFormula}
use Rattle.pipe_expr.specs.Types.{columns_in}
use Rattle.pipe_expr.specs.Projections.{fields_named, row_named, renamed_field, function_rows}
use Rattle.pipe_expr.specs.declared.join_words.RenamePair.{RenamePair}
use Rattle.pipe_expr.specs.declared.join_words.FunctionIR.TheVariants as function
use Rattle.pipe_plan.specs.Node.{Node}
use Rattle.pipe_plan.specs.Node as node
use Rattle.pipe_plan.specs.Schemas.{frame_at, node_schema, union_fields, join_over, scan_fields}
use Rattle.pipe_plan.specs.PlanRows.{node_rows, slice_rows, sort_keys}
use Rattle.pipe_plan.specs.Faults.{or_else, repeats}
use Rattle.pipe_plan.specs.declared.ir.JoinOptions.{JoinOptions}
use Rattle.pipe_plan.specs.declared.ir.SortOptions.{SortOptions}
use Rattle.pipe_plan.specs.declared.ir.PlanSlice.{PlanSlice}
use Rattle.pipe_rules.specs.Placed.{is_input, IsReady}
use Rattle.pipe_rules.proofs.Filters.{all-of, all-left, all-right}
use Rattle.pipe_rules.proofs.Under.{each-known}
use Rattle.pipe_rules.specs.Needs.{Names, needed_exprs, columns_read, keys_read, is_shown, left_need, right_need, sort_need}
use Rattle.pipe_rules.specs.Narrowed.{is_existing, kept_names, narrow_schema, narrow_rows, narrow_node}
use Rattle.pipe_rules.specs.NeedLaws.{AreMet, IsWanted, AreSameAt, NeedsServe}
use Rattle.pipe_rules.proofs.Kept.{all-known, names-named, IsThere, there-all, whole-fields, whole-rows, kept-once, same-list}
use Rattle.pipe_rules.proofs.Exprs.{kept-read}
use Rattle.pipe_rules.proofs.Plain.{same-types, columns-narrow, handed-on, filter-narrow, projection-narrow, select-narrow, hstack-narrow, unpivot-narrow, rename-narrow}
use Rattle.pipe_rules.proofs.Sides.{each-in, AreMetAt, joined-narrow}

itself : (n : ℕ) → eqb n n ≡ true
itself n = (Decides-eqb n n).1 refl

first-input : (i : ℕ) (is : List ℕ) → list_any (λ m. eqb m i) (i ∷ is) ≡ true
first-input i is = let e = itself i in rw e refl

or-left : (a b : Bool) → a ≡ true → (a || b) ≡ true
or-left true b e = refl
or-left false b e = cc

or-right : (a b : Bool) → b ≡ true → (a || b) ≡ true
or-right true b e = refl
or-right false b e = e

or-false : (a b : Bool) → (a || b) ≡ false → a ≡ false
or-false true b e = cc
or-false false b e = refl

first-none : {X : Type 0} (a b : Option X) → or_else a b ≡ None → a ≡ None
first-none (Some x) b e = cc
first-none None b e = refl

second-none : {X : Type 0} (a b : Option X) → or_else a b ≡ None → b ≡ None
second-none (Some x) b e = cc
second-none None b e = e

or-assoc : (a b c : Bool) → ((a || b) || c) ≡ (a || (b || c))
or-assoc true b c = refl
or-assoc false b c = refl

has-append : (a b : List (List ℕ)) (name : List ℕ) → has_name (a ++ b) name ≡ (has_name a name || has_name b name)
has-append [] b name = refl
has-append (n ∷ a) b name =
    ap (λ t. bytes_eq n name || t) (has-append a b name)
    ∙ sym (or-assoc (bytes_eq n name) (has_name a name) (has_name b name))

-- a renaming hands rows on
one-each : (pairs : List RenamePair) (s : List Field) (rows : List Row) → flat_map (function_rows (function.Rename pairs) s) rows ≡ map (λ row. row) rows
one-each pairs s [] = refl
one-each pairs s (row ∷ rows) = ap (λ l. row ∷ l) (one-each pairs s rows)

-- names that are wanted are kept
wanted-there : (keep needed : Names) (s : List Field) (names : List (List ℕ)) → ((name : List ℕ) → has_name (names_of s) name ≡ true → needed name ≡ true → keep name ≡ true) → AllByRecursion (IsWanted needed s) names → AllByRecursion (IsThere keep s) names
wanted-there keep needed s names met want = all-of (IsWanted needed s) (IsThere keep s) (λ name w. record { kept = met name w.there w.wanted; there = w.there }) names want

module _ (frames : List Table) (schema : ℕ → List Field) (rows : ℕ → List Row) (needed : Names) (keep : ℕ → Names) (names : List (List ℕ)) where
  abbrev t : ℕ → List Field
  t = narrow_schema keep schema

  abbrev q : ℕ → List Row
  q = narrow_rows keep schema rows

  abbrev Serves : Node → Type 0
  Serves x = AreSameAt names (node_schema frames schema x) (node_rows frames schema rows x) (node_schema frames t (narrow_node frames t needed x)) (node_rows frames t q (narrow_node frames t needed x))

  abbrev Want : List Field → Type 0
  Want s = AllByRecursion (IsWanted needed s) names

  scan-served : (frame : ℕ) (columns : Option (List (List ℕ))) → IsReady frames schema rows (node.DataFrameScan frame columns) → Want (scan_fields (frame_at frames frame).schema columns) → Serves (node.DataFrameScan frame columns)
  scan-served frame None ready want =
      let table = frame_at frames frame in
      handed-on needed names needed table.schema table.rows (wanted-there needed needed table.schema names (λ name _ w. w) want)
  scan-served frame (Some columns) ready want =
      let table = frame_at frames frame in
      let s = table.schema in
      let is : filter needed (names_of (fields_named s columns)) ≡ filter needed columns = ap (filter needed) (names-named s columns) in
      subst (λ l. AreSameAt names (fields_named s columns) (map (row_named s columns) table.rows) (fields_named s l) (map (row_named s l) table.rows)) (sym is)
      (columns-narrow needed names s columns table.rows ready.known want)

  filter-served : (input : ℕ) (predicate : Formula) → IsReady frames schema rows (node.Filter input predicate) → AreMet schema (node.Filter input predicate) needed keep → Want (schema input) → Serves (node.Filter input predicate)
  filter-served input predicate ready met want =
      let own = first-input input [] in
      filter-narrow needed names (keep input) (schema input) (rows input) (ready.fit input own) predicate
      (there-all (keep input) (schema input) (columns_in predicate) (λ name has reads. met input name own has (or-right (needed name) (has_name (columns_in predicate) name) reads)) ready.known)
      (wanted-there (keep input) needed (schema input) names (λ name has w. met input name own has (or-left (needed name) (has_name (columns_in predicate) name) w)) want)

  projection-served : (input : ℕ) (columns : List (List ℕ)) → IsReady frames schema rows (node.SimpleProjection input columns) → AreMet schema (node.SimpleProjection input columns) needed keep → Want (fields_named (schema input) columns) → Serves (node.SimpleProjection input columns)
  projection-served input columns ready met want =
      projection-narrow needed names (keep input) (schema input) (rows input) (ready.fit input (first-input input [])) columns ready.known (λ name w has. met input name (first-input input []) has w) want

  some-known : (s : List Field) (exprs : List NamedFormula) → first_unknown s (columns_read exprs) ≡ None → first_unknown s (columns_read (needed_exprs needed exprs)) ≡ None
  some-known s exprs known = all-known s (columns_read (needed_exprs needed exprs)) (kept-read (λ name. has_name (names_of s) name ≡ true) needed exprs (each-known s (columns_read exprs) known))

  select-served : (input : ℕ) (exprs : List NamedFormula) → IsReady frames schema rows (node.Select input exprs) → AreMet schema (node.Select input exprs) needed keep → Want (node_schema frames schema (node.Select input exprs)) → Serves (node.Select input exprs)
  select-served input exprs ready met want =
      select-narrow needed names (keep input) (schema input) (rows input) (ready.fit input (first-input input [])) exprs
      (there-all (keep input) (schema input) (columns_read (needed_exprs needed exprs)) (λ name has reads. met input name (first-input input []) has reads) (some-known (schema input) exprs ready.known))
      want

  hstack-served : (input : ℕ) (exprs : List NamedFormula) → IsReady frames schema rows (node.HStack input exprs) → AreMet schema (node.HStack input exprs) needed keep → Want (node_schema frames schema (node.HStack input exprs)) → Serves (node.HStack input exprs)
  hstack-served input exprs ready met want =
      let own = first-input input [] in
      let reads = columns_read (needed_exprs needed exprs) in
      hstack-narrow needed names (keep input) (schema input) (rows input) (ready.fit input own) exprs
      (there-all (keep input) (schema input) reads (λ name has r. met input name own has (or-right (needed name) (has_name reads name) r)) (some-known (schema input) exprs ready.known))
      (λ name w has. met input name own has (or-left (needed name) (has_name reads name) w))
      want

  unpivot-served : (input : ℕ) (on index : List (List ℕ)) (variable value : List ℕ) → (let x = node.MapFunction input (function.Unpivot on index variable value) in IsReady frames schema rows x → AreMet schema x needed keep → Serves x)
  unpivot-served input on index variable value ready met =
      let all = there-all (keep input) (schema input) (on ++ index) (λ name has r. met input name (first-input input []) has (sym (has-append on index name) ∙ r)) ready.known in
      unpivot-narrow needed names (keep input) (schema input) (rows input) (ready.fit input (first-input input [])) on index variable value
      (all-left (IsThere (keep input) (schema input)) on index all)
      (all-right (IsThere (keep input) (schema input)) on index all)

  rename-served : (input : ℕ) (pairs : List RenamePair) → (let x = node.MapFunction input (function.Rename pairs) in IsReady frames schema rows x → AreMet schema x needed keep → Want (node_schema frames schema x) → Serves x)
  rename-served input pairs ready met want =
      let s = schema input in
      let own = first-input input [] in
      let once = ready.once input own in
      let once_t : first_repeated (names_of (t input)) ≡ None = ap first_repeated (names-named s (kept_names (keep input) s)) ∙ kept-once (keep input) (names_of s) once in
      let out = node_schema frames schema (node.MapFunction input (function.Rename pairs)) in
      let some = filter (is_existing (t input)) pairs in
      let narrower = map (renamed_field some) (t input) in
      subst (λ l. AreSameAt names out l narrower (flat_map (function_rows (function.Rename some) (t input)) (q input))) (sym (one-each pairs s (rows input)))
      (subst (AreSameAt names out (map (λ row. row) (rows input)) narrower) (sym (one-each some (t input) (q input)))
      (rename-narrow needed names (keep input) s (rows input) (ready.fit input own) pairs once once_t (each-in (t input)) (λ name has w. met input name own has w) want))

  -- ---- all of the inputs

  all-same : (x : Node) (inputs : List ℕ) → IsReady frames schema rows x → ((i : ℕ) (name : List ℕ) → is_input x i ≡ true → has_name (names_of (schema i)) name ≡ true → keep i name ≡ true) → ((i : ℕ) → list_any (λ m. eqb m i) inputs ≡ true → is_input x i ≡ true) → flat_map q inputs ≡ flat_map rows inputs
  all-same x [] ready whole among = refl
  all-same x (i ∷ inputs) ready whole among =
      let own = among i (first-input i inputs) in
      ap (λ l. l ++ flat_map q inputs) (whole-rows (keep i) (schema i) (ready.once i own) (λ name has. whole i name own has) (rows i) (ready.fit i own))
      ∙ ap (λ l. rows i ++ l) (all-same x inputs ready whole (λ k m. among k (or-right (eqb i k) (list_any (λ m. eqb m k) inputs) m)))

  union-fields : (x : Node) (inputs : List ℕ) → IsReady frames schema rows x → ((i : ℕ) (name : List ℕ) → is_input x i ≡ true → has_name (names_of (schema i)) name ≡ true → keep i name ≡ true) → ((i : ℕ) → list_any (λ m. eqb m i) inputs ≡ true → is_input x i ≡ true) → union_fields t inputs ≡ union_fields schema inputs
  union-fields x [] ready whole among = refl
  union-fields x (i ∷ inputs) ready whole among =
      let own = among i (first-input i inputs) in
      whole-fields (keep i) (schema i) (ready.once i own) (λ name has. whole i name own has)

  union-served : (inputs : List ℕ) → IsReady frames schema rows (node.Union inputs) → AreMet schema (node.Union inputs) needed keep → Serves (node.Union inputs)
  union-served inputs ready met =
      let x = node.Union inputs in
      let fields = union-fields x inputs ready (λ i name own has. met i name own has refl) (λ i m. m) in
      let lists = all-same x inputs ready (λ i name own has. met i name own has refl) (λ i m. m) in
      let s = union_fields schema inputs in
      let r = flat_map rows inputs in
      subst (λ f. AreSameAt names s r f (flat_map q inputs)) (sym fields)
      (subst (AreSameAt names s r s) (sym lists) (record { types = same-types names s; same = same-list (map (row_named s names) r) (map (row_named s names) r) refl }))

  -- ---- sorts

  sorted-served : (input : ℕ) (keys others : List SortBy) → AllByRecursion (IsThere (keep input) (schema input)) names → AreSameAt names (schema input) (sorted keys (rows input)) (t input) (sorted others (q input))
  sorted-served input keys others there =
      let s = schema input in
      let r = rows input in
      let plain = handed-on needed names (keep input) s r there in
      let one : SameBag (map (row_named (t input) names) (sorted others (q input))) (map (row_named (t input) names) (q input)) = SameBag-map (row_named (t input) names) (SameBag-from_rows (sorted-same others [] (q input))) in
      let other : SameBag (map (row_named s names) (sorted keys r)) (map (row_named s names) r) = SameBag-map (row_named s names) (SameBag-from_rows (sorted-same keys [] r)) in
      record {
        types = plain.types;
        same = Same-from_bag (SameBag-trans one (SameBag-trans (SameBag-from_rows plain.same) (SameBag-sym other)));
      }

  sort-served : (input : ℕ) (by : List (List ℕ)) (options : SortOptions) (slice : Option PlanSlice) → IsReady frames schema rows (node.Sort input by options) → ((name : List ℕ) → has_name (names_of (schema input)) name ≡ true → sort_need slice by needed name ≡ true → keep input name ≡ true) → Want (schema input) → AreSameAt names (schema input) (slice_rows slice (sorted (sort_keys (schema input) by options) (rows input))) (t input) (slice_rows slice (sorted (sort_keys (t input) by options) (q input)))
  sort-served input by options None ready met want =
      sorted-served input (sort_keys (schema input) by options) (sort_keys (t input) by options)
      (wanted-there (keep input) needed (schema input) names (λ name has w. met name has (or-left (needed name) (has_name by name) w)) want)
  sort-served input by options (Some slice) ready met want =
      let s = schema input in
      let r = rows input in
      let own = first-input input [] in
      let made : List Field → List Row → List Row = λ f l. slice_rows (Some slice) (sorted (sort_keys f by options) l) in
      let fields : t input ≡ s = whole-fields (keep input) s (ready.once input own) (λ name has. met name has refl) in
      let lists : q input ≡ r = whole-rows (keep input) s (ready.once input own) (λ name has. met name has refl) r (ready.fit input own) in
      subst (λ f. AreSameAt names s (made s r) f (made f (q input))) (sym fields)
      (subst (λ l. AreSameAt names s (made s r) s (made s l)) (sym lists) (record { types = same-types names s; same = same-list (map (row_named s names) (made s r)) (map (row_named s names) (made s r)) refl }))

  -- ---- joins

  join-served : (left right : ℕ) (left_on right_on : List Formula) (options : JoinOptions) → (let x = node.Join left right left_on right_on options in IsReady frames schema rows x → AreMet schema x needed keep → Want (node_schema frames schema x) → Serves x)
  join-served left right left_on right_on options ready met want =
      let x = node.Join left right left_on right_on options in
      let j = join_over (schema left) (schema right) left_on right_on options in
      let own_left = first-input left (right ∷ []) in
      let own_right : is_input x right ≡ true = or-right (eqb left right) (list_any (λ m. eqb m right) (right ∷ [])) (first-input right []) in
      let apart : eqb right left ≡ false = or-false (eqb right left) false (or-false (list_any (λ m. eqb m left) (right ∷ [])) (repeats (right ∷ [])) ready.apart) in
      let is_left : eqb left left ≡ true = itself left in
      let met_left : (name : List ℕ) → has_name (names_of (schema left)) name ≡ true → left_need j needed name ≡ true → keep left name ≡ true = λ name has n. met left name own_left has (ap (λ b. cond b (left_need j needed name) (right_need j needed name)) is_left ∙ n) in
      let met_right : (name : List ℕ) → has_name (names_of (schema right)) name ≡ true → right_need j needed name ≡ true → keep right name ≡ true = λ name has n. met right name own_right has (ap (λ b. cond b (left_need j needed name) (right_need j needed name)) apart ∙ n) in
      let left_known = first-none (first_unknown (schema left) (keys_read left_on)) (first_unknown (schema right) (keys_read right_on)) ready.known in
      let right_known = second-none (first_unknown (schema left) (keys_read left_on)) (first_unknown (schema right) (keys_read right_on)) ready.known in
      let sides : AreMetAt j needed (keep left) (keep right) = record {
        left_reads = there-all (keep left) (schema left) (keys_read left_on) (λ name has r. met_left name has (or-left (needed name || has_name (keys_read left_on) name) (has_name (names_of (schema right)) name && right_need j needed name) (or-right (needed name) (has_name (keys_read left_on) name) r))) left_known;
        right_reads = there-all (keep right) (schema right) (keys_read right_on) (λ name has r. met_right name has (or-right (is_shown j needed name) (has_name (keys_read right_on) name) r)) right_known;
        left_met = met_left;
        right_met = met_right;
        left_once = ready.once left own_left;
        right_once = ready.once right own_right;
      } in
      joined-narrow j needed (keep left) (keep right) sides names (rows left) (rows right) (ready.fit left own_left) (ready.fit right own_right) want

pub needs-serve : NeedsServe
needs-serve frames schema rows (node.DataFrameScan frame columns) needed keep names ready met want = scan-served frames schema rows needed keep names frame columns ready want
needs-serve frames schema rows (node.Filter input predicate) needed keep names ready met want = filter-served frames schema rows needed keep names input predicate ready met want
needs-serve frames schema rows (node.SimpleProjection input columns) needed keep names ready met want = projection-served frames schema rows needed keep names input columns ready met want
needs-serve frames schema rows (node.Select input exprs) needed keep names ready met want = select-served frames schema rows needed keep names input exprs ready met want
needs-serve frames schema rows (node.HStack input exprs) needed keep names ready met want = hstack-served frames schema rows needed keep names input exprs ready met want
needs-serve frames schema rows (node.MapFunction input (function.Unpivot on index variable value)) needed keep names ready met want = unpivot-served frames schema rows needed keep names input on index variable value ready met
needs-serve frames schema rows (node.MapFunction input (function.Rename pairs)) needed keep names ready met want = rename-served frames schema rows needed keep names input pairs ready met want
needs-serve frames schema rows (node.Union inputs) needed keep names ready met want = union-served frames schema rows needed keep names inputs ready met
needs-serve frames schema rows (node.Join left right left_on right_on options) needed keep names ready met want = join-served frames schema rows needed keep names left right left_on right_on options ready met want
needs-serve frames schema rows (node.Sort input by options) needed keep names ready met want = sort-served frames schema rows needed keep names input by options options.slice ready (λ name has n. met input name (first-input input []) has n) want
