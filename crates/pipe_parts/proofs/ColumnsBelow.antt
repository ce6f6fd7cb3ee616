-- The values of a key in what a node makes of a row are those of the row, in the columns below.
use Rattle.std.proofs.Common.{◌≡◌, ℕ, Bool, true, false, ◌||◌, List, [], ◌∷◌, ◌++◌, map, Option, Some, None, refl, ap, sym, subst, ◌∙◌, inl, inr}
use Rattle.std.specs.Str.{bytes_eq}
use Rattle.std.specs.List.{AllByRecursion, flat_map}
use Rattle.pipe_schema.specs.Rows.{Row}
use Rattle.pipe_schema.specs.Schema.{has_name, names_of, first_repeated, first_unknown}
use Rattle.pipe_schema.specs.declared.any_value.AnyValue.TheVariants as cell
use Rattle.pipe_schema.specs.declared.data_type.DataType.TheVariants as dtype
use Rattle.pipe_schema.specs.declared.field.Field.{Field}
use Rattle.pipe_expr.specs.Formula.{Formula, NamedFormula, Column}
use Rattle.pipe_expr.specs.Types.{columns_in}
use Rattle.pipe_expr.specs.Values.{value_of, named_cell}
use Rattle.pipe_expr.specs.Projections.{passes, fields_named, row_named, select_fields, select_row, expr_named, new_exprs, hstack_fields, hstack_row, renamed_field, function_fields, function_rows, unpivoted_row, on_type}
use Rattle.pipe_expr.specs.declared.join_words.RenamePair.{RenamePair}
use Rattle.pipe_expr.specs.declared.join_words.FunctionIR.TheVariants as function
use Rattle.pipe_plan.specs.Node.{Node}
use Rattle.pipe_plan.specs.Node as node
use Rattle.pipe_plan.specs.Faults.{expr_columns}
use Rattle.pipe_events.specs.PlanStages.{one_row, filtered_row}
use Rattle.pipe_events.specs.Fits.{FitsRow}
use Rattle.pipe_events.proofs.Lists.{all-map, all-filter}
use Rattle.pipe_rules.specs.Placing.{column_of, column_under, is_replacing, old_name}
use Rattle.pipe_rules.proofs.Filters.{all-always, all-of, all-both, all-right}
use Rattle.pipe_rules.proofs.Under.{named-under, same-name, each-known}
use Rattle.pipe_rules.proofs.Columns.{of-named, of-index, of-hstack, of-renamed, old-in}
use Rattle.pipe_parts.proofs.Exprs.{names-named, one-read, select-cell, hstack-cell, not-new}
use Rattle.pipe_parts.specs.Wishes.{name_if, stacked_below, column_below, name_before, columns_below, key_by, wishes_below}
use Rattle.pipe_parts.specs.declared.wish.Wish.{Wish}
use Rattle.pipe_parts.specs.declared.wish.Wish.TheVariants.{Split, Key, Whole}
use Rattle.pipe_parts.specs.Choices.{IsIn}
use Rattle.pipe_parts.specs.Laws.{HasColumn, HasKey}
use Rattle.pipe_parts.proofs.Lying.{KeepsKey, Goes}

-- one of some names that all have a property
pub pick : (P : List ℕ → Type 0) (names : List (List ℕ)) (name : List ℕ) → AllByRecursion P names → has_name names name ≡ true → P name
pick P [] name all h = absurd (let no_ : false ≡ true = h in cc)
pick P (n ∷ names) name all h =
    let split : (b : Bool) → bytes_eq n name ≡ b → (b || has_name names name) ≡ true → P name = elim [
      | true ↦ λ e _. subst P (same-name n name e) all.0
      | false ↦ λ _ k. pick P names name all.1 k
    ]
    in split (bytes_eq n name) refl h

inner-of : {X : Type 0} {a b : X} → Some a ≡ Some b → a ≡ b
inner-of e = cc

-- ---- one column

module _ (s out : List Field) (f : Row → List Row) (x : Node) where
  -- a column stands below, with the values that it has above
  pub record IsBelow (name below : List ℕ) : Type 0 where
    pub there : HasColumn s below
    pub same : (row : Row) → FitsRow s row → AllByRecursion (λ made. named_cell out made name ≡ named_cell s row below) (f row)

  -- each column of the output that is plain below stands there
  abbrev pub ColumnsGoDown : Type 0
  ColumnsGoDown = (name below : List ℕ) → HasColumn out name → column_below s x name ≡ Some below → IsBelow name below

  -- ---- several

  module _ (down : ColumnsGoDown) where
    keep-more : (name below : List ℕ) (names columns : List (List ℕ)) → IsBelow name below → KeepsKey s out f columns names → KeepsKey s out f (below ∷ columns) (name ∷ names)
    keep-more name below names columns one more row fit =
        all-of (λ made. (named_cell out made name ≡ named_cell s row below) × (row_named out names made ≡ row_named s columns row)) (λ made. row_named out (name ∷ names) made ≡ row_named s (below ∷ columns) row)
        (λ made both. ap (λ c. c ∷ row_named out names made) both.0 ∙ ap (λ l. named_cell s row below ∷ l) both.1) (f row)
        (all-both (λ made. named_cell out made name ≡ named_cell s row below) (λ made. row_named out names made ≡ row_named s columns row) (f row) (one.same row fit) (more row fit))

    columns-keep : (names columns : List (List ℕ)) → columns_below s x names ≡ Some columns → AllByRecursion (HasColumn out) names → KeepsKey s out f columns names × AllByRecursion (HasColumn s) columns
    columns-keep [] columns e has =
        let is : [] ≡ columns = inner-of e in
        subst (λ l. KeepsKey s out f l [] × AllByRecursion (HasColumn s) l) is
        ((λ row fit. all-always (λ made. row_named out [] made ≡ row_named s [] row) (λ made. refl) (f row)), tt)
    columns-keep (name ∷ names) columns e has =
        let split : (o : Option (List ℕ)) (os : Option (List (List ℕ))) → column_below s x name ≡ o → columns_below s x names ≡ os → name_before o os ≡ Some columns → KeepsKey s out f columns (name ∷ names) × AllByRecursion (HasColumn s) columns = elim [
          | None ↦ λ os a b k. absurd (let no_ : None ≡ Some columns = k in cc)
          | Some below ↦ elim [
            | None ↦ λ a b k. absurd (let no_ : None ≡ Some columns = k in cc)
            | Some later ↦ λ a b k. (
                let is : below ∷ later ≡ columns = inner-of k in
                let one = down name below has.0 a in
                let more = columns-keep names later b has.1 in
                subst (λ l. KeepsKey s out f l (name ∷ names) × AllByRecursion (HasColumn s) l) is
                (keep-more name below names later one more.0, (one.there, more.1)))
          ]
        ] in split (column_below s x name) (columns_below s x names) refl refl e

    -- a wish goes down to each that the node asks for it
    pub wish-goes : (up down_wish : Wish) → HasKey out up → IsIn down_wish (wishes_below s x up) → Goes s out f down_wish up × HasKey s down_wish
    wish-goes Split down_wish has (inl e) = subst (λ d. Goes s out f d Split × HasKey s d) e (tt, tt)
    wish-goes Split down_wish has (inr h) = absurd h
    wish-goes Whole down_wish has (inl e) = subst (λ d. Goes s out f d Whole × HasKey s d) e (tt, tt)
    wish-goes Whole down_wish has (inr h) = absurd h
    wish-goes (Key key names) down_wish has h =
        let split : (os : Option (List (List ℕ))) → columns_below s x names ≡ os → IsIn down_wish (key_by key os) → Goes s out f down_wish (Key key names) × HasKey s down_wish = elim [
          | None ↦ λ _ k. absurd k
          | Some columns ↦ λ is. elim [
            | inl e ↦ (let kept = columns-keep names columns is has in subst (λ d. Goes s out f d (Key key names) × HasKey s d) e ((refl, kept.0), kept.1))
            | inr k ↦ absurd k
          ]
        ] in split (columns_below s x names) refl h

-- ---- by kind of node

module _ (s : List Field) (input : ℕ) where
  pub filter-down : (predicate : Formula) → ColumnsGoDown s s (filtered_row predicate s) (node.Filter input predicate)
  filter-down predicate name below has e =
      let is : name ≡ below = inner-of e in
      subst (IsBelow s s (filtered_row predicate s) (node.Filter input predicate) name) is (record {
        there = has;
        same = λ row fit. all-filter (λ made. named_cell s made name ≡ named_cell s row name) (passes predicate s) (row ∷ []) (refl, tt);
      })

  pub projection-down : (columns : List (List ℕ)) → first_unknown s columns ≡ None → ColumnsGoDown s (fields_named s columns) (one_row (row_named s columns)) (node.SimpleProjection input columns)
  projection-down columns known name below has e =
      let is : name ≡ below = inner-of e in
      let named : has_name columns name ≡ true = sym (ap (λ l. has_name l name) (names-named s columns)) ∙ has in
      subst (IsBelow s (fields_named s columns) (one_row (row_named s columns)) (node.SimpleProjection input columns) name) is (record {
        there = pick (HasColumn s) columns name (each-known s columns known) named;
        same = λ row fit. (named-under name (fields_named s columns) (row_named s columns row) ∙ of-named name s row columns has, tt);
      })

  -- the column that a formula is
  column-value : (formula : Formula) (below : List ℕ) (row : Row) → column_of formula ≡ Some below → value_of formula s row ≡ named_cell s row below
  column-value (Column n) below row e = ap (named_cell s row) (inner-of e)
  column-value _ below row e = absurd (let no_ : None ≡ Some below = e in cc)

  column-read : (P : List ℕ → Type 0) (formula : Formula) (below : List ℕ) → column_of formula ≡ Some below → AllByRecursion P (columns_in formula) → P below
  column-read P (Column n) below e all = subst P (inner-of e) all.0
  column-read P _ below e all = absurd (let no_ : None ≡ Some below = e in cc)

  pub select-down : (exprs : List NamedFormula) → first_unknown s (flat_map expr_columns exprs) ≡ None → ColumnsGoDown s (select_fields s exprs) (one_row (select_row s exprs)) (node.Select input exprs)
  select-down exprs known name below has e =
      let split : (o : Option NamedFormula) → expr_named exprs name ≡ o → column_under o ≡ Some below → IsBelow s (select_fields s exprs) (one_row (select_row s exprs)) (node.Select input exprs) name below = elim [
        | None ↦ λ _ k. absurd (let no_ : None ≡ Some below = k in cc)
        | Some expr ↦ λ is k. record {
          there = column-read (HasColumn s) expr.formula below k (one-read (HasColumn s) exprs name expr (each-known s (flat_map expr_columns exprs) known) is);
          same = λ row fit. (named-under name (select_fields s exprs) (select_row s exprs row) ∙ select-cell s row exprs name expr is ∙ column-value expr.formula below row k, tt);
        }
      ] in split (expr_named exprs name) refl e

  pub hstack-down : (exprs : List NamedFormula) → first_unknown s (flat_map expr_columns exprs) ≡ None → ColumnsGoDown s (hstack_fields s exprs) (one_row (hstack_row s exprs)) (node.HStack input exprs)
  hstack-down exprs known name below has e =
      let out = hstack_fields s exprs in
      let f : Row → List Row = one_row (hstack_row s exprs) in
      let split : (o : Option NamedFormula) → expr_named exprs name ≡ o → stacked_below name o ≡ Some below → IsBelow s out f (node.HStack input exprs) name below = elim [
        | None ↦ λ is k. (
            let own = not-new s s exprs name is has in
            subst (IsBelow s out f (node.HStack input exprs) name) (inner-of k) (record {
              there = own;
              same = λ row fit. (named-under name out (hstack_row s exprs row) ∙ of-hstack name s row exprs (select_fields s (new_exprs s exprs)) (select_row s (new_exprs s exprs) row) s own (ap is_replacing is), tt);
            }))
        | Some expr ↦ λ is k. record {
          there = column-read (HasColumn s) expr.formula below k (one-read (HasColumn s) exprs name expr (each-known s (flat_map expr_columns exprs) known) is);
          same = λ row fit. (named-under name out (hstack_row s exprs row) ∙ hstack-cell s row exprs name expr is ∙ column-value expr.formula below row k, tt);
        }
      ] in split (expr_named exprs name) refl e

  pub unpivot-down : (on index : List (List ℕ)) (variable value : List ℕ) → first_unknown s (on ++ index) ≡ None → (let u = function.Unpivot on index variable value in ColumnsGoDown s (function_fields u s) (function_rows u s) (node.MapFunction input u))
  unpivot-down on index variable value known name below has e =
      let u = function.Unpivot on index variable value in
      let split : (b : Bool) → has_name index name ≡ b → name_if b name ≡ Some below → IsBelow s (function_fields u s) (function_rows u s) (node.MapFunction input u) name below = elim [
        | true ↦ λ is k. subst (IsBelow s (function_fields u s) (function_rows u s) (node.MapFunction input u) name) (inner-of k) (record {
          there = pick (HasColumn s) index name (all-right (HasColumn s) on index (each-known s (on ++ index) known)) is;
          same = λ row fit. all-map (λ column. Unit {0}) (λ made. named_cell (function_fields u s) made name ≡ named_cell s row name) (unpivoted_row s index row)
              (λ column _. named-under name (function_fields u s) (unpivoted_row s index row column) ∙ of-index name s row (record { name = variable; dtype = dtype.String } ∷ record { name = value; dtype = on_type s on } ∷ []) (cell.String column ∷ named_cell s row column ∷ []) index is)
              on (all-always (λ column. Unit {0}) (λ column. tt) on);
        })
        | false ↦ λ _ k. absurd (let no_ : None ≡ Some below = k in cc)
      ] in split (has_name index name) refl e

  pub rename-down : (pairs : List RenamePair) → first_repeated (names_of s) ≡ None → (let u = function.Rename pairs in ColumnsGoDown s (function_fields u s) (function_rows u s) (node.MapFunction input u))
  rename-down pairs once name below has e =
      let u = function.Rename pairs in
      let old = old_name pairs s name in
      subst (IsBelow s (function_fields u s) (function_rows u s) (node.MapFunction input u) name) (inner-of e) (record {
        there = old-in name pairs s has;
        same = λ row fit. (named-under name (map (renamed_field pairs) s) row ∙ of-renamed name pairs s row once has ∙ sym (named-under old s row), tt);
      })
