-- Nodes of one input, and scans, over what is left of their input.
use Rattle.std.proofs.Common.{◌≡◌, ℕ, Bool, true, false, not, cond, eqb, ◌||◌, List, [], ◌∷◌, ◌++◌, map, length, Option, Some, None, refl, ap, sym, ◌∙◌, subst}
use Rattle.std.specs.Prelude.{filter, is_none, nat_le}
use Rattle.std.specs.Str.{bytes_eq}
use Rattle.std.specs.List.{AllByRecursion, list_any}
use Rattle.pipe_frame.specs.Frame.{Table}
use Rattle.pipe_schema.specs.Schema.{has_name, names_of, first_repeated, first_unknown}
use Rattle.pipe_schema.specs.declared.data_type.DataType.{DataType}
use Rattle.pipe_schema.specs.declared.data_type.DataType.TheVariants as dtype
use Rattle.pipe_schema.specs.declared.field.Field.{Field}
use Rattle.pipe_expr.specs.Formula.{Formula, NamedFormula}
use Rattle.pipe_expr.specs.Types.{columns_in, type_of_column}
use Rattle.pipe_expr.specs.Projections.{expr_name, expr_field, fields_named, select_fields, expr_named, is_new, new_exprs, stacked_field, replaced_field, hstack_fields, renamed, renamed_field, function_fields}
use Rattle.pipe_expr.specs.declared.join_words.RenamePair.{RenamePair}
use Rattle.pipe_expr.specs.declared.join_words.FunctionIR.TheVariants as function
use Rattle.pipe_plan.specs.Node.{Node}
use Rattle.pipe_plan.specs.Node as node
use Rattle.pipe_plan.specs.Schemas.{frame_at, scan_fields, node_schema}
use Rattle.pipe_plan.specs.Faults.{is_empty, is_void, names_nothing, eq_types, on_differ, is_named_untyped, has_no_type, existing_of, expr_columns}
use Rattle.pipe_plan.specs.declared.ir.SortOptions.{SortOptions}
use Rattle.pipe_plan.specs.declared.ir.PlanSlice.{PlanSlice}
use Rattle.pipe_events.proofs.Lists.{all-filter}
use Rattle.pipe_rules.specs.Placed.{is_input}
use Rattle.pipe_rules.proofs.Filters.{all-of, all-left, all-right, all-always, filter-same, filter-map, filter-append, filter-swap}
use Rattle.pipe_rules.proofs.Under.{same-name, each-known}
use Rattle.pipe_rules.proofs.Columns.{named-expr}
use Rattle.pipe_rules.proofs.Down.{or-first, or-second}
use Rattle.pipe_rules.specs.Needs.{Names, need, is_needed, needed_exprs, columns_read, sort_need}
use Rattle.pipe_rules.specs.Narrowed.{kept_names, is_existing, narrow_node}
use Rattle.pipe_rules.proofs.Kept.{kept-has, kept-once, all-in, all-known, names-named, IsThere, there-all}
use Rattle.pipe_rules.proofs.Exprs.{kept-read}
use Rattle.pipe_optimize.proofs.NameLists.{first-is, only-one, or-left, or-right, clash, head-has, Begins, first-kept, filter-again, all-kept, has-append, has-first, has-second, has-either, once-right, once-clash, once-both, has-map, map-from, once-map, map-apart}
use Rattle.pipe_optimize.proofs.Cut.{IsCut, cut-has, cut-known, cut-type, cut-narrower, cut-none}
use Rattle.pipe_rules.proofs.Renumber.{heads}
use Rattle.pipe_optimize.proofs.Over.{IsOver, IsServed, met-true, out-once, out-single}

only-input : (i : ℕ) → list_any (λ m. eqb m i) (i ∷ []) ≡ true
only-input i = first-is i []

-- a list that something of it passes isn't empty
passed-full : (needed : Names) (names : List (List ℕ)) → list_any needed names ≡ true → is_empty (filter needed names) ≡ false
passed-full needed [] h = cc
passed-full needed (n ∷ names) h =
    let split : (b : Bool) → (b || list_any needed names) ≡ true → is_empty (cond b (n ∷ filter needed names) (filter needed names)) ≡ false = elim [
      | true ↦ λ e. refl
      | false ↦ λ e. passed-full needed names e
    ] in split (needed n) h

map-full : {A B : Type 0} (f : A → B) (xs : List A) → is_empty (map f xs) ≡ is_empty xs
map-full f [] = refl
map-full f (x ∷ xs) = refl

pub sort-needs : (slice : Option PlanSlice) (by : List (List ℕ)) (needed : Names) (name : List ℕ) → needed name ≡ true → sort_need slice by needed name ≡ true
sort-needs None by needed name n = or-left (needed name) (has_name by name) n
sort-needs (Some slice) by needed name n = refl

sort-reads : (slice : Option PlanSlice) (by : List (List ℕ)) (needed : Names) (name : List ℕ) → has_name by name ≡ true → sort_need slice by needed name ≡ true
sort-reads None by needed name n = or-right (needed name) (has_name by name) n
sort-reads (Some slice) by needed name n = refl

-- ---- expressions

pub selected-names : (s : List Field) (exprs : List NamedFormula) → names_of (select_fields s exprs) ≡ map expr_name exprs
selected-names s [] = refl
selected-names s (e ∷ exprs) = ap (λ l. e.name ∷ l) (selected-names s exprs)

pub needed-names : (needed : Names) (exprs : List NamedFormula) → filter needed (map expr_name exprs) ≡ map expr_name (needed_exprs needed exprs)
needed-names needed exprs = filter-map needed (is_needed needed) expr_name exprs (all-always (λ e. needed e.name ≡ is_needed needed e) (λ e. refl) exprs)

kept-none : {X : Type 0} (p q : X → Bool) (xs : List X) → list_any p xs ≡ false → list_any p (filter q xs) ≡ false
kept-none p q [] h = refl
kept-none p q (x ∷ xs) h =
    let rest = kept-none p q xs (or-second (p x) (list_any p xs) h) in
    let split : (b : Bool) → list_any p (cond b (x ∷ filter q xs) (filter q xs)) ≡ false = elim [
      | true ↦ ap (λ c. c || list_any p (filter q xs)) (or-first (p x) (list_any p xs) h) ∙ rest
      | false ↦ rest
    ] in split (q x)

typed-still : (needed : Names) (s t : List Field) (cut : IsCut needed s t) (exprs : List NamedFormula) → AllByRecursion (IsThere needed s) (columns_read exprs) → list_any (is_named_untyped t) exprs ≡ list_any (is_named_untyped s) exprs
typed-still needed s t cut [] h = refl
typed-still needed s t cut (e ∷ exprs) h =
    ap (λ o. is_none o || list_any (is_named_untyped t) exprs) (cut-type needed s t cut e.formula (all-left (IsThere needed s) (columns_in e.formula) (columns_read exprs) h))
    ∙ ap (λ b. is_named_untyped s e || b) (typed-still needed s t cut exprs (all-right (IsThere needed s) (columns_in e.formula) (columns_read exprs) h))

some-known : (needed : Names) (s : List Field) (exprs : List NamedFormula) → first_unknown s (columns_read exprs) ≡ None → first_unknown s (columns_read (needed_exprs needed exprs)) ≡ None
some-known needed s exprs known = all-known s (columns_read (needed_exprs needed exprs)) (kept-read (λ name. has_name (names_of s) name ≡ true) needed exprs (each-known s (columns_read exprs) known))

-- an extension keeps the input's names
stacked-names : (s part : List Field) (exprs : List NamedFormula) → names_of (map (stacked_field s exprs) part) ≡ names_of part
stacked-names s [] exprs = refl
stacked-names s (field ∷ part) exprs =
    let split : (o : Option NamedFormula) → expr_named exprs field.name ≡ o → (replaced_field s field o).name ≡ field.name = elim [
      | None ↦ λ e. refl
      | Some f ↦ λ e. same-name f.name field.name (named-expr exprs field.name f e)
    ] in
    ap (λ n. n ∷ names_of (map (stacked_field s exprs) part)) (split (expr_named exprs field.name) refl)
    ∙ ap (λ l. field.name ∷ l) (stacked-names s part exprs)

pub names-append : (a b : List Field) → names_of (a ++ b) ≡ names_of a ++ names_of b
names-append [] b = refl
names-append (f ∷ a) b = ap (λ l. f.name ∷ l) (names-append a b)

pub hstack-names : (s : List Field) (exprs : List NamedFormula) → names_of (hstack_fields s exprs) ≡ names_of s ++ map expr_name (new_exprs s exprs)
hstack-names s exprs =
    names-append (map (stacked_field s exprs) s) (map (expr_field s) (new_exprs s exprs))
    ∙ ap (λ l. l ++ names_of (select_fields s (new_exprs s exprs))) (stacked-names s s exprs)
    ∙ ap (λ l. names_of s ++ l) (selected-names s (new_exprs s exprs))

-- ---- renamings

pub renamed-names : (pairs : List RenamePair) (fields : List Field) → names_of (map (renamed_field pairs) fields) ≡ map (renamed pairs) (names_of fields)
renamed-names pairs [] = refl
renamed-names pairs (f ∷ fields) = ap (λ l. renamed pairs f.name ∷ l) (renamed-names pairs fields)

renamed-still : (names : List (List ℕ)) (pairs : List RenamePair) (name : List ℕ) → has_name names name ≡ true → renamed (filter (λ p. has_name names p.existing) pairs) name ≡ renamed pairs name
renamed-still names [] name h = refl
renamed-still names (pair ∷ pairs) name h =
    let some = filter (λ p. has_name names p.existing) pairs in
    let rest = renamed-still names pairs name h in
    let split : (b c : Bool) → bytes_eq pair.existing name ≡ b → has_name names pair.existing ≡ c → renamed (cond c (pair ∷ some) some) name ≡ cond b pair.new_name (renamed pairs name) = elim [
      | true ↦ elim [
        | true ↦ λ f g. ap (λ b. cond b pair.new_name (renamed some name)) f
        | false ↦ λ f g. clash (has_name names pair.existing) (ap (has_name names) (same-name pair.existing name f) ∙ h) g
      ]
      | false ↦ elim [
        | true ↦ λ f g. ap (λ b. cond b pair.new_name (renamed some name)) f ∙ rest
        | false ↦ λ f g. rest
      ]
    ] in split (bytes_eq pair.existing name) (has_name names pair.existing) refl refl

pub map-same : {A B : Type 0} (f g : A → B) (xs : List A) → AllByRecursion (λ x. f x ≡ g x) xs → map f xs ≡ map g xs
map-same f g [] h = refl
map-same f g (x ∷ xs) h = ap (λ y. y ∷ map f xs) h.0 ∙ ap (λ l. g x ∷ l) (map-same f g xs h.1)

-- ---- an unpivot

pub unpivot-names : (s : List Field) (on index : List (List ℕ)) (variable value : List ℕ) → names_of (function_fields (function.Unpivot on index variable value) s) ≡ index ++ variable ∷ value ∷ []
unpivot-names s on index variable value = names-append (fields_named s index) _ ∙ ap (λ l. l ++ variable ∷ value ∷ []) (names-named s index)

any-still : (s t : List Field) (o : Option DataType) (names : List (List ℕ)) → AllByRecursion (λ n. type_of_column n t ≡ type_of_column n s) names → list_any (λ n. not (eq_types o (type_of_column n t))) names ≡ list_any (λ n. not (eq_types o (type_of_column n s))) names
any-still s t o [] h = refl
any-still s t o (n ∷ names) h =
    ap (λ q. not (eq_types o q) || list_any (λ n. not (eq_types o (type_of_column n t))) names) h.0
    ∙ ap (λ b. not (eq_types o (type_of_column n s)) || b) (any-still s t o names h.1)

differ-still : (s t : List Field) (names : List (List ℕ)) → AllByRecursion (λ n. type_of_column n t ≡ type_of_column n s) names → on_differ t names ≡ on_differ s names
differ-still s t [] h = refl
differ-still s t (name ∷ names) h =
    ap (λ o. list_any (λ n. not (eq_types o (type_of_column n t))) names) h.0
    ∙ any-still s t (type_of_column name s) names h.1

module _ (frames : List Table) (s t : ℕ → List Field) (needed : Names) (needs : ℕ → Names) where
  abbrev Over : Node → Type 0
  Over x = IsOver frames s t needed needs x

  abbrev Serves : Node → Type 0
  Serves x = IsServed frames s t needed x (narrow_node frames t needed x)

  -- ---- scans

  scan-names : (frame : ℕ) (columns : Option (List (List ℕ))) → (let fields = scan_fields (frame_at frames frame).schema columns in names_of (node_schema frames t (narrow_node frames t needed (node.DataFrameScan frame columns))) ≡ filter needed (names_of fields))
  scan-names frame columns = names-named (frame_at frames frame).schema (kept_names needed (scan_fields (frame_at frames frame).schema columns))

  scan-known : (schema : List Field) (columns : Option (List (List ℕ))) → Rattle.pipe_plan.specs.Faults.unknown_scanned schema columns ≡ None → first_unknown schema (kept_names needed (scan_fields schema columns)) ≡ None
  scan-known schema None known = all-known schema (filter needed (names_of schema)) (all-filter (λ name. has_name (names_of schema) name ≡ true) needed (names_of schema) (all-in (names_of schema)))
  scan-known schema (Some columns) known =
      ap (λ l. first_unknown schema (filter needed l)) (names-named schema columns)
      ∙ all-known schema (filter needed columns) (all-filter (λ name. has_name (names_of schema) name ≡ true) needed columns (each-known schema columns known))

  pub scan-node : (frame : ℕ) (columns : Option (List (List ℕ))) → Over (node.DataFrameScan frame columns) → Serves (node.DataFrameScan frame columns)
  scan-node frame columns over =
      let x = node.DataFrameScan frame columns in
      let schema = (frame_at frames frame).schema in
      let fields = scan_fields schema columns in
      let is = scan-names frame columns in
      let once = out-once frames s t needed needs x over in
      record {
        known = scan-known schema columns over.known;
        typed = refl;
        single = refl;
        whole = ap (λ b. b || is_empty (kept_names needed fields)) (or-first (nat_le (length frames) frame) (names_nothing columns) over.whole) ∙ passed-full needed (names_of fields) over.some;
        joinable = refl;
        sortable = refl;
        names = ap (filter needed) is ∙ filter-again needed (names_of fields);
        sub = λ name h. (kept-has needed (names_of fields) name (sym (ap (λ l. has_name l name) is) ∙ h)).0;
        first = λ name rest e n. subst (Begins name) (sym is) (first-kept needed (names_of fields) name rest e n);
        once = ap first_repeated is ∙ kept-once needed (names_of fields) once;
        needs = λ i name own has. refl;
      }

  -- ---- nodes that hand their input on

  module _ (input : ℕ) (x : Node) (own : is_input x input ≡ true) (over : Over x) (handed : (name : List ℕ) → needed name ≡ true → need s x needed input name ≡ true) where
    abbrev cut : IsCut (needs input) (s input) (t input)
    cut = over.cut input own

    handed-need : (name : List ℕ) → has_name (names_of (s input)) name ≡ true → needed name ≡ true → needs input name ≡ true
    handed-need name has n = met-true frames s t needed needs x over input name own has (handed name n)

    pub handed-names : filter needed (names_of (t input)) ≡ filter needed (names_of (s input))
    handed-names = cut-narrower (needs input) (s input) (t input) cut needed handed-need

    pub handed-first : (name : List ℕ) (rest : List (List ℕ)) → names_of (s input) ≡ name ∷ rest → needed name ≡ true → Begins name (names_of (t input))
    handed-first name rest e n = cut.first name rest e (handed-need name (head-has (names_of (s input)) name rest e) n)

  pub filter-node : (input : ℕ) (predicate : Formula) → Over (node.Filter input predicate) → Serves (node.Filter input predicate)
  filter-node input predicate over =
      let x = node.Filter input predicate in
      let own = only-input input in
      let cut = over.cut input own in
      let reads = there-all (needs input) (s input) (columns_in predicate) (λ name has r. met-true frames s t needed needs x over input name own has (or-right (needed name) (has_name (columns_in predicate) name) r)) over.known in
      let handed : (name : List ℕ) → needed name ≡ true → (needed name || has_name (columns_in predicate) name) ≡ true = λ name n. or-left (needed name) (has_name (columns_in predicate) name) n in
      record {
        known = cut-known (needs input) (s input) (t input) cut (columns_in predicate) reads;
        typed = ap (λ o. not (eq_types o (Some dtype.Boolean))) (cut-type (needs input) (s input) (t input) cut predicate reads) ∙ over.typed;
        single = refl;
        whole = refl;
        joinable = refl;
        sortable = refl;
        names = handed-names input x own over handed;
        sub = cut.sub;
        first = handed-first input x own over handed;
        once = cut.once;
        needs = λ i name own has. refl;
      }

  pub sort-node : (input : ℕ) (by : List (List ℕ)) (options : SortOptions) → Over (node.Sort input by options) → Serves (node.Sort input by options)
  sort-node input by options over =
      let x = node.Sort input by options in
      let own = only-input input in
      let cut = over.cut input own in
      let reads = there-all (needs input) (s input) by (λ name has r. met-true frames s t needed needs x over input name own has (sort-reads options.slice by needed name r)) over.known in
      let handed : (name : List ℕ) → needed name ≡ true → sort_need options.slice by needed name ≡ true = λ name n. sort-needs options.slice by needed name n in
      record {
        known = cut-known (needs input) (s input) (t input) cut by reads;
        typed = refl;
        single = refl;
        whole = refl;
        joinable = refl;
        sortable = over.sortable;
        names = handed-names input x own over handed;
        sub = cut.sub;
        first = handed-first input x own over handed;
        once = cut.once;
        needs = λ i name own has. refl;
      }

  -- ---- projections

  pub projection-node : (input : ℕ) (columns : List (List ℕ)) → Over (node.SimpleProjection input columns) → Serves (node.SimpleProjection input columns)
  projection-node input columns over =
      let x = node.SimpleProjection input columns in
      let own = only-input input in
      let cut = over.cut input own in
      let some = filter needed columns in
      let is = names-named (t input) some in
      let was = names-named (s input) columns in
      let there : AllByRecursion (IsThere (needs input) (s input)) some = all-of (λ name. (needed name ≡ true) × (has_name (names_of (s input)) name ≡ true)) (IsThere (needs input) (s input)) (λ name h. record { kept = met-true frames s t needed needs x over input name own h.1 h.0; there = h.1 }) some (all-kept needed (λ name. has_name (names_of (s input)) name ≡ true) columns (each-known (s input) columns over.known)) in
      record {
        known = cut-known (needs input) (s input) (t input) cut some there;
        typed = refl;
        single = refl;
        whole = passed-full needed columns (ap (list_any needed) (sym was) ∙ over.some);
        joinable = refl;
        sortable = refl;
        names = ap (filter needed) is ∙ filter-again needed columns ∙ ap (filter needed) (sym was);
        sub = λ name h. ap (λ l. has_name l name) was ∙ (kept-has needed columns name (sym (ap (λ l. has_name l name) is) ∙ h)).0;
        first = λ name rest e n. subst (Begins name) (sym is) (first-kept needed columns name rest (sym was ∙ e) n);
        once = ap first_repeated is ∙ kept-once needed columns (ap first_repeated (sym was) ∙ out-once frames s t needed needs x over);
        needs = λ i name own has. refl;
      }

  pub select-node : (input : ℕ) (exprs : List NamedFormula) → Over (node.Select input exprs) → Serves (node.Select input exprs)
  select-node input exprs over =
      let x = node.Select input exprs in
      let own = only-input input in
      let cut = over.cut input own in
      let some = needed_exprs needed exprs in
      let names = map expr_name exprs in
      let is : names_of (select_fields (t input) some) ≡ filter needed names = selected-names (t input) some ∙ sym (needed-names needed exprs) in
      let was = selected-names (s input) exprs in
      let reads = there-all (needs input) (s input) (columns_read some) (λ name has r. met-true frames s t needed needs x over input name own has r) (some-known needed (s input) exprs over.known) in
      record {
        known = cut-known (needs input) (s input) (t input) cut (columns_read some) reads;
        typed = typed-still (needs input) (s input) (t input) cut some reads ∙ kept-none (is_named_untyped (s input)) (is_needed needed) exprs over.typed;
        single = refl;
        whole = sym (map-full expr_name some) ∙ ap is_empty (sym (needed-names needed exprs)) ∙ passed-full needed names (ap (list_any needed) (sym was) ∙ over.some);
        joinable = refl;
        sortable = refl;
        names = ap (filter needed) is ∙ filter-again needed names ∙ ap (filter needed) (sym was);
        sub = λ name h. ap (λ l. has_name l name) was ∙ (kept-has needed names name (sym (ap (λ l. has_name l name) is) ∙ h)).0;
        first = λ name rest e n. subst (Begins name) (sym is) (first-kept needed names name rest (sym was ∙ e) n);
        once = ap first_repeated is ∙ kept-once needed names (ap first_repeated (sym was) ∙ out-once frames s t needed needs x over);
        needs = λ i name own has. ap (λ l. has_name (columns_read l) name) (filter-again (is_needed needed) exprs);
      }

  -- ---- extensions

  module _ (input : ℕ) (exprs : List NamedFormula) (over : Over (node.HStack input exprs)) where
    abbrev x : Node
    x = node.HStack input exprs

    abbrev some : List NamedFormula
    some = needed_exprs needed exprs

    abbrev fresh : List (List ℕ)
    fresh = map expr_name (new_exprs (s input) exprs)

    stacked-need : (name : List ℕ) → has_name (names_of (s input)) name ≡ true → needed name ≡ true → needs input name ≡ true
    stacked-need name has n = met-true frames s t needed needs x over input name (only-input input) has (or-left (needed name) (has_name (columns_read some) name) n)

    same-new : (e : NamedFormula) → (needed e.name ≡ true) × Unit {0} → is_new (t input) e ≡ is_new (s input) e
    same-new e h = ap not (cut-has (needs input) (s input) (t input) (over.cut input (only-input input)) e.name (λ has. stacked-need e.name has h.0))

    fresh-left : map expr_name (new_exprs (t input) some) ≡ filter needed fresh
    fresh-left =
        ap (map expr_name) (filter-same (is_new (t input)) (is_new (s input)) some (all-of (λ e. (is_needed needed e ≡ true) × Unit {0}) (λ e. is_new (t input) e ≡ is_new (s input) e) same-new some (all-kept (is_needed needed) (λ e. Unit {0}) exprs (all-always (λ e. Unit {0}) (λ e. tt) exprs))))
        ∙ ap (map expr_name) (filter-swap (is_new (s input)) (is_needed needed) exprs)
        ∙ sym (needed-names needed (new_exprs (s input) exprs))

    names-left : names_of (hstack_fields (t input) some) ≡ names_of (t input) ++ filter needed fresh
    names-left = hstack-names (t input) some ∙ ap (λ l. names_of (t input) ++ l) fresh-left

    names-were : names_of (hstack_fields (s input) exprs) ≡ names_of (s input) ++ fresh
    names-were = hstack-names (s input) exprs

    stacked-first : (name : List ℕ) (rest front : List (List ℕ)) → names_of (s input) ≡ front → front ++ fresh ≡ name ∷ rest → needed name ≡ true → Begins name (names_of (t input) ++ filter needed fresh)
    stacked-first name rest [] at e n =
        let none = cut-none (needs input) (s input) (t input) (over.cut input (only-input input)) at in
        subst (λ l. Begins name (l ++ filter needed fresh)) (sym none) (first-kept needed fresh name rest e n)
    stacked-first name rest (m ∷ front) at e n =
        let is : m ≡ name = heads e in
        let own : names_of (s input) ≡ name ∷ front = at ∙ ap (λ k. k ∷ front) is in
        let first = (over.cut input (only-input input)).first name front own (stacked-need name (head-has (names_of (s input)) name front own) n) in
        record { rest = first.rest ++ filter needed fresh; is = ap (λ l. l ++ filter needed fresh) first.is }

    pub hstack-node : Serves x
    hstack-node =
        let own = only-input input in
        let cut = over.cut input own in
        let once : first_repeated (names_of (s input) ++ fresh) ≡ None = ap first_repeated (sym names-were) ∙ out-once frames s t needed needs x over in
        let reads = there-all (needs input) (s input) (columns_read some) (λ name has r. met-true frames s t needed needs x over input name own has (or-right (needed name) (has_name (columns_read some) name) r)) (some-known needed (s input) exprs over.known) in
        record {
          known = cut-known (needs input) (s input) (t input) cut (columns_read some) reads;
          typed = typed-still (needs input) (s input) (t input) cut some reads ∙ kept-none (is_named_untyped (s input)) (is_needed needed) exprs over.typed;
          single = ap first_repeated (sym (needed-names needed exprs)) ∙ kept-once needed (map expr_name exprs) (out-single frames s t needed needs x over);
          whole = refl;
          joinable = refl;
          sortable = refl;
          names =
              ap (filter needed) names-left
              ∙ filter-append needed (names_of (t input)) (filter needed fresh)
              ∙ ap (λ l. l ++ filter needed (filter needed fresh)) (cut-narrower (needs input) (s input) (t input) cut needed stacked-need)
              ∙ ap (λ l. filter needed (names_of (s input)) ++ l) (filter-again needed fresh)
              ∙ sym (filter-append needed (names_of (s input)) fresh)
              ∙ ap (filter needed) (sym names-were);
          sub = λ name h. ap (λ l. has_name l name) names-were ∙ has-either (names_of (t input)) (filter needed fresh) name (has_name (names_of (s input) ++ fresh) name ≡ true)
              (λ k. has-first (names_of (s input)) fresh name (cut.sub name k))
              (λ k. has-second (names_of (s input)) fresh name (kept-has needed fresh name k).0)
              (sym (ap (λ l. has_name l name) names-left) ∙ h);
          first = λ name rest e n. subst (Begins name) (sym names-left) (stacked-first name rest (names_of (s input)) refl (sym names-were ∙ e) n);
          once = ap first_repeated names-left ∙ once-both (names_of (t input)) (filter needed fresh) cut.once (kept-once needed fresh (once-right (names_of (s input)) fresh once)) (λ name h k. once-clash (names_of (s input)) fresh name once (cut.sub name h) (kept-has needed fresh name k).0);
          needs = λ i name own has. ap (λ l. needed name || has_name (columns_read l) name) (filter-again (is_needed needed) exprs);
        }

  -- ---- functions

  pub unpivot-node : (input : ℕ) (on index : List (List ℕ)) (variable value : List ℕ) → (let x = node.MapFunction input (function.Unpivot on index variable value) in Over x → Serves x)
  unpivot-node input on index variable value over =
      let x = node.MapFunction input (function.Unpivot on index variable value) in
      let own = only-input input in
      let cut = over.cut input own in
      let all = there-all (needs input) (s input) (on ++ index) (λ name has r. met-true frames s t needed needs x over input name own has (sym (has-append on index name) ∙ r)) over.known in
      let same : names_of (function_fields (function.Unpivot on index variable value) (t input)) ≡ names_of (function_fields (function.Unpivot on index variable value) (s input)) = unpivot-names (t input) on index variable value ∙ sym (unpivot-names (s input) on index variable value) in
      record {
        known = cut-known (needs input) (s input) (t input) cut (on ++ index) all;
        typed = differ-still (s input) (t input) on (all-of (IsThere (needs input) (s input)) (λ n. type_of_column n (t input) ≡ type_of_column n (s input)) (λ n h. cut.types n h.kept h.there) on (all-left (IsThere (needs input) (s input)) on index all)) ∙ over.typed;
        single = out-single frames s t needed needs x over;
        whole = over.whole;
        joinable = refl;
        sortable = refl;
        names = ap (filter needed) same;
        sub = λ name h. sym (ap (λ l. has_name l name) same) ∙ h;
        first = λ name rest e n. record { rest = rest; is = same ∙ e };
        once = ap first_repeated same ∙ out-once frames s t needed needs x over;
        needs = λ i name own has. refl;
      }

  module _ (input : ℕ) (pairs : List RenamePair) (over : Over (node.MapFunction input (function.Rename pairs))) where
    abbrev r : Node
    r = node.MapFunction input (function.Rename pairs)

    abbrev left_pairs : List RenamePair
    left_pairs = filter (is_existing (t input)) pairs

    abbrev anew : List ℕ → List ℕ
    anew = renamed pairs

    anew-still : (name : List ℕ) → has_name (names_of (t input)) name ≡ true → renamed left_pairs name ≡ anew name
    anew-still name h = renamed-still (names_of (t input)) pairs name h

    names-anew : names_of (map (renamed_field left_pairs) (t input)) ≡ map anew (names_of (t input))
    names-anew = renamed-names left_pairs (t input) ∙ map-same (renamed left_pairs) anew (names_of (t input)) (all-of (λ name. has_name (names_of (t input)) name ≡ true) (λ name. renamed left_pairs name ≡ anew name) anew-still (names_of (t input)) (all-in (names_of (t input))))

    names-before : names_of (map (renamed_field pairs) (s input)) ≡ map anew (names_of (s input))
    names-before = renamed-names pairs (s input)

    renamed-need : (name : List ℕ) → has_name (names_of (s input)) name ≡ true → needed (anew name) ≡ true → needs input name ≡ true
    renamed-need name has n = met-true frames s t needed needs r over input name (only-input input) has n

    needed-anew : (names : List (List ℕ)) → filter needed (map anew names) ≡ map anew (filter (λ name. needed (anew name)) names)
    needed-anew names = filter-map needed (λ name. needed (anew name)) anew names (all-always (λ name. needed (anew name) ≡ needed (anew name)) (λ name. refl) names)

    renamed-first : (name : List ℕ) (rest names : List (List ℕ)) → names_of (s input) ≡ names → map anew names ≡ name ∷ rest → needed name ≡ true → Begins name (map anew (names_of (t input)))
    renamed-first name rest [] at e n = absurd (let no_ : [] ≡ name ∷ rest = e in cc)
    renamed-first name rest (m ∷ names) at e n =
        let is : anew m ≡ name = heads e in
        let first = (over.cut input (only-input input)).first m names at (renamed-need m (head-has (names_of (s input)) m names at) (ap needed is ∙ n)) in
        record { rest = map anew first.rest; is = ap (map anew) first.is ∙ ap (λ k. k ∷ map anew first.rest) is }

    renamed-same : (i : ℕ) (name : List ℕ) → is_input r i ≡ true → has_name (names_of (t i)) name ≡ true → need t (narrow_node frames t needed r) needed i name ≡ need s r needed i name
    renamed-same i name own has =
        let is : input ≡ i = only-one input i own in
        ap needed (anew-still name (ap (λ k. has_name (names_of (t k)) name) is ∙ has))

    pub rename-node : Serves r
    rename-node =
        let own = only-input input in
        let cut = over.cut input own in
        let once : first_repeated (map anew (names_of (s input))) ≡ None = ap first_repeated (sym names-before) ∙ out-once frames s t needed needs r over in
        let existing : map existing_of left_pairs ≡ filter (has_name (names_of (t input))) (map existing_of pairs) = sym (filter-map (has_name (names_of (t input))) (is_existing (t input)) existing_of pairs (all-always (λ p. has_name (names_of (t input)) p.existing ≡ is_existing (t input) p) (λ p. refl) pairs)) in
        record {
          known = ap (first_unknown (t input)) existing ∙ all-known (t input) (filter (has_name (names_of (t input))) (map existing_of pairs)) (all-of (λ name. (has_name (names_of (t input)) name ≡ true) × Unit {0}) (λ name. has_name (names_of (t input)) name ≡ true) (λ name h. h.0) (filter (has_name (names_of (t input))) (map existing_of pairs)) (all-kept (has_name (names_of (t input))) (λ name. Unit {0}) (map existing_of pairs) (all-always (λ name. Unit {0}) (λ name. tt) (map existing_of pairs))));
          typed = refl;
          single = ap first_repeated existing ∙ kept-once (has_name (names_of (t input))) (map existing_of pairs) (out-single frames s t needed needs r over);
          whole = refl;
          joinable = refl;
          sortable = refl;
          names =
              ap (filter needed) names-anew
              ∙ needed-anew (names_of (t input))
              ∙ ap (map anew) (cut-narrower (needs input) (s input) (t input) cut (λ name. needed (anew name)) renamed-need)
              ∙ sym (needed-anew (names_of (s input)))
              ∙ ap (filter needed) (sym names-before);
          sub = λ name h. ap (λ l. has_name l name) names-before ∙ map-from anew (names_of (t input)) name (has_name (map anew (names_of (s input))) name ≡ true) (λ m there is. ap (has_name (map anew (names_of (s input)))) (sym is) ∙ has-map anew (names_of (s input)) m (cut.sub m there)) (sym (ap (λ l. has_name l name) names-anew) ∙ h);
          first = λ name rest e n. subst (Begins name) (sym names-anew) (renamed-first name rest (names_of (s input)) refl (sym names-before ∙ e) n);
          once = ap first_repeated names-anew ∙ once-map anew (names_of (t input)) cut.once (λ a b h k same. map-apart anew (names_of (s input)) once a b (cut.sub a h) (cut.sub b k) same);
          needs = λ i name own has. renamed-same i name own has;
        }
