-- What a node gives over what is left of its inputs, as far as it is needed.
use Rattle.std.proofs.Common.{◌≡◌, ℕ, true, eqb, List, [], ◌∷◌, map, Some, refl, ap, sym, ◌∙◌, subst}
use Rattle.std.specs.Prelude.{filter}
use Rattle.std.specs.List.{AllByRecursion, list_any}
use Rattle.pipe_frame.specs.Frame.{Table}
use Rattle.pipe_schema.specs.Rows.{Row, Same}
use Rattle.pipe_schema.specs.Schema.{has_name, names_of}
use Rattle.pipe_schema.specs.declared.field.Field.{Field}
use Rattle.pipe_schema.proofs.Weights.{SameBag, SameBag-sym, SameBag-trans, SameBag-map, SameBag-from_equal, SameBag-from_rows, Same-from_bag}
use Rattle.pipe_expr.specs.Types.{type_of_column}
use Rattle.pipe_expr.specs.Projections.{fields_named, row_named}
use Rattle.pipe_expr.specs.declared.join_words.FunctionIR.TheVariants as function
use Rattle.pipe_plan.specs.Node.{Node}
use Rattle.pipe_plan.specs.Node as node
use Rattle.pipe_plan.specs.Under.{inputs_of}
use Rattle.pipe_plan.specs.Schemas.{frame_at, scan_fields, node_schema}
use Rattle.pipe_plan.specs.PlanRows.{node_rows}
use Rattle.pipe_plan.specs.Faults.{repeats}
use Rattle.pipe_events.specs.Fits.{FitsRow, FitRows}
use Rattle.pipe_events.proofs.Rows.{named-row}
use Rattle.pipe_events.proofs.Lists.{all-map}
use Rattle.pipe_rules.specs.Placed.{is_input, IsReady}
use Rattle.pipe_rules.proofs.Filters.{all-of, all-both, all-always}
use Rattle.pipe_rules.specs.Needs.{Names, is_needed}
use Rattle.pipe_rules.specs.Narrowed.{kept_names, is_existing, narrow_row, narrow_schema, narrow_rows, narrow_node}
use Rattle.pipe_rules.specs.NeedLaws.{AreMet, IsWanted, HasSameType, AreSameAt}
use Rattle.pipe_rules.proofs.Kept.{kept-has, has-kept, all-in, names-named, same-fields}
use Rattle.pipe_rules.proofs.Served.{needs-serve}
use Rattle.pipe_rules.proofs.Renumber.{own-inputs, schema-renumbered, rows-renumbered}
use Rattle.pipe_rules.proofs.Granted.{map-members}
use Rattle.pipe_optimize.proofs.NameLists.{first-is, filter-twice, filter-again, all-kept}
use Rattle.pipe_optimize.proofs.Cut.{IsCut}
use Rattle.pipe_optimize.proofs.Over.{IsOver, IsServed, met-true}
use Rattle.pipe_optimize.proofs.Bags.{node-bags}

-- rows are the same as far as the needed columns go
pub record IsAlike (needed : Names) (s t : List Field) (rows others : List Row) : Type 0 where
  pub same : (names : List (List ℕ)) → AllByRecursion (IsWanted needed s) names → Same (map (row_named t names) others) (map (row_named s names) rows)

-- ---- narrowed twice is narrowed once

scan-twice : (schema : List Field) (needed : Names) (names : List (List ℕ)) → filter needed (names_of (fields_named schema (filter needed names))) ≡ filter needed names
scan-twice schema needed names = ap (filter needed) (names-named schema (filter needed names)) ∙ filter-again needed names

-- the inputs of a narrowed node
pub narrow-inputs : (frames : List Table) (t : ℕ → List Field) (needed : Names) (x : Node) → inputs_of (narrow_node frames t needed x) ≡ inputs_of x
narrow-inputs frames t needed (node.DataFrameScan frame columns) = refl
narrow-inputs frames t needed (node.Filter input predicate) = refl
narrow-inputs frames t needed (node.SimpleProjection input columns) = refl
narrow-inputs frames t needed (node.Select input exprs) = refl
narrow-inputs frames t needed (node.HStack input exprs) = refl
narrow-inputs frames t needed (node.MapFunction input function) = refl
narrow-inputs frames t needed (node.Union inputs) = refl
narrow-inputs frames t needed (node.Join left right left_on right_on options) = refl
narrow-inputs frames t needed (node.Sort input by options) = refl

module _ (frames : List Table) (t u v : ℕ → List Field) (needed : Names) where
  narrow-twice : (x : Node) → ((i : ℕ) → is_input x i ≡ true → u i ≡ v i) → ((i : ℕ) (name : List ℕ) → is_input x i ≡ true → has_name (names_of (u i)) name ≡ true → has_name (names_of (t i)) name ≡ true) → narrow_node frames u needed (narrow_node frames t needed x) ≡ narrow_node frames v needed x
  narrow-twice (node.DataFrameScan frame columns) same sub = ap (λ l. node.DataFrameScan frame (Some l)) (scan-twice (frame_at frames frame).schema needed (names_of (scan_fields (frame_at frames frame).schema columns)))
  narrow-twice (node.Filter input predicate) same sub = refl
  narrow-twice (node.SimpleProjection input columns) same sub = ap (node.SimpleProjection input) (filter-again needed columns)
  narrow-twice (node.Select input exprs) same sub = ap (node.Select input) (filter-again (is_needed needed) exprs)
  narrow-twice (node.HStack input exprs) same sub = ap (node.HStack input) (filter-again (is_needed needed) exprs)
  narrow-twice (node.MapFunction input (function.Unpivot on index variable value)) same sub = refl
  narrow-twice (node.MapFunction input (function.Rename pairs)) same sub =
      ap (λ l. node.MapFunction input (function.Rename l))
      (filter-twice (is_existing (u input)) (is_existing (t input)) pairs (all-always (λ p. is_existing (u input) p ≡ true → is_existing (t input) p ≡ true) (λ p h. sub input p.existing (first-is input []) h) pairs)
      ∙ ap (λ f. filter (is_existing f) pairs) (same input (first-is input [])))
  narrow-twice (node.Union inputs) same sub = refl
  narrow-twice (node.Join left right left_on right_on options) same sub = refl
  narrow-twice (node.Sort input by options) same sub = refl

-- ---- a node over what is left

module _ (frames : List Table) (s t : ℕ → List Field) (needed : Names) (needs : ℕ → Names) (x : Node) (over : IsOver frames s t needed needs x) (served : IsServed frames s t needed x (narrow_node frames t needed x)) where
  abbrev y : Node
  y = narrow_node frames t needed x

  abbrev u : ℕ → List Field
  u = narrow_schema needs s

  abbrev v : ℕ → List Field
  v = narrow_schema needs t

  -- narrowed to what is needed, all inputs are as they were
  same-narrow : (i : ℕ) → is_input x i ≡ true → v i ≡ u i
  same-narrow i own =
      let cut = over.cut i own in
      ap (fields_named (t i)) cut.names
      ∙ same-fields (kept_names (needs i) (s i)) (s i) (t i)
      (all-of (λ name. (needs i name ≡ true) × (has_name (names_of (s i)) name ≡ true)) (λ name. type_of_column name (t i) ≡ type_of_column name (s i)) (λ name h. cut.types name h.0 h.1) (kept_names (needs i) (s i)) (all-kept (needs i) (λ name. has_name (names_of (s i)) name ≡ true) (names_of (s i)) (all-in (names_of (s i)))))

  both-narrow : narrow_node frames v needed y ≡ narrow_node frames u needed x
  both-narrow = narrow-twice frames t v u needed x same-narrow (λ i name own h. (kept-has (needs i) (names_of (t i)) name (sym (ap (λ l. has_name l name) (names-named (t i) (kept_names (needs i) (t i)))) ∙ h)).0)

  own-of : (i : ℕ) → is_input y i ≡ true → is_input x i ≡ true
  own-of i h = ap (λ is. list_any (λ m. eqb m i) is) (sym (narrow-inputs frames t needed x)) ∙ h

  met-left : AreMet t y needed needs
  met-left i name own has h =
      let at = own-of i own in
      met-true frames s t needed needs x over i name at ((over.cut i at).sub name has) (sym (served.needs i name at has) ∙ h)

  met-were : AreMet s x needed needs
  met-were i name own has h = met-true frames s t needed needs x over i name own has h

  module _ (r q : ℕ → List Row) (fit : (i : ℕ) → is_input x i ≡ true → FitRows (s i) (r i)) (fit-left : (i : ℕ) → is_input x i ≡ true → FitRows (t i) (q i)) (alike : (i : ℕ) → is_input x i ≡ true → IsAlike (needs i) (s i) (t i) (r i) (q i)) where
    ready-were : IsReady frames s r x
    ready-were = record { known = over.known; typed = over.typed; apart = over.apart; fit = fit; once = over.once }

    ready-left : IsReady frames t q y
    ready-left = record {
      known = served.known;
      typed = served.typed;
      apart = ap repeats (narrow-inputs frames t needed x) ∙ over.apart;
      fit = λ i own. fit-left i (own-of i own);
      once = λ i own. (over.cut i (own-of i own)).once;
    }

    abbrev ru : ℕ → List Row
    ru = narrow_rows needs s r

    abbrev qv : ℕ → List Row
    qv = narrow_rows needs t q

    abbrev z : Node
    z = narrow_node frames u needed x

    z-inputs : inputs_of z ≡ inputs_of x
    z-inputs = narrow-inputs frames u needed x

    own-z : (i : ℕ) → is_input z i ≡ true → is_input x i ≡ true
    own-z i h = ap (λ is. list_any (λ m. eqb m i) is) (sym z-inputs) ∙ h

    wanted-own : (i : ℕ) → AllByRecursion (IsWanted (needs i) (s i)) (kept_names (needs i) (s i))
    wanted-own i = all-of (λ name. (needs i name ≡ true) × (has_name (names_of (s i)) name ≡ true)) (IsWanted (needs i) (s i)) (λ name h. record { wanted = h.0; there = h.1 }) (kept_names (needs i) (s i)) (all-kept (needs i) (λ name. has_name (names_of (s i)) name ≡ true) (names_of (s i)) (all-in (names_of (s i))))

    input-bags : (i : ℕ) → is_input x i ≡ true → SameBag (qv i) (ru i)
    input-bags i own = subst (λ l. SameBag (map (row_named (t i) l) (q i)) (ru i)) (sym (over.cut i own).names) (SameBag-from_rows ((alike i own).same (kept_names (needs i) (s i)) (wanted-own i)))

    fit-narrow : (i : ℕ) → is_input x i ≡ true → FitRows (u i) (ru i)
    fit-narrow i own = all-map (FitsRow (s i)) (FitsRow (u i)) (narrow_row (needs i) (s i)) (λ row h. named-row (s i) (kept_names (needs i) (s i)) row h) (r i) (fit i own)

    schemas-same : node_schema frames v z ≡ node_schema frames u z
    schemas-same =
        ap (node_schema frames v) (sym (own-inputs z))
        ∙ schema-renumbered frames v u z (inputs_of z) (map-members v u (inputs_of z) (λ i own. same-narrow i (own-z i own)))

    rows-same : SameBag (node_rows frames v qv z) (node_rows frames u ru z)
    rows-same =
        SameBag-trans
        (SameBag-from_equal (ap (node_rows frames v qv) (sym (own-inputs z)) ∙ rows-renumbered frames v u qv qv z (inputs_of z) (map-members v u (inputs_of z) (λ i own. same-narrow i (own-z i own))) refl))
        (SameBag-sym (node-bags frames u ru qv z (λ i own. fit-narrow i (own-z i own)) (λ i own. SameBag-sym (input-bags i (own-z i own)))))

    module _ (names : List (List ℕ)) (want : AllByRecursion (IsWanted needed (node_schema frames s x)) names) where
      were : AreSameAt names (node_schema frames s x) (node_rows frames s r x) (node_schema frames u z) (node_rows frames u ru z)
      were = needs-serve frames s r x needed needs names ready-were met-were want

      want-left : AllByRecursion (IsWanted needed (node_schema frames t y)) names
      want-left = all-of (IsWanted needed (node_schema frames s x)) (IsWanted needed (node_schema frames t y)) (λ name w. record {
        wanted = w.wanted;
        there = (kept-has needed (names_of (node_schema frames t y)) name (ap (λ l. has_name l name) served.names ∙ has-kept needed (names_of (node_schema frames s x)) name w.there w.wanted)).0;
      }) names want

      left-raw : AreSameAt names (node_schema frames t y) (node_rows frames t q y) (node_schema frames v (narrow_node frames v needed y)) (node_rows frames v qv (narrow_node frames v needed y))
      left-raw = needs-serve frames t q y needed needs names ready-left met-left want-left

      left : AreSameAt names (node_schema frames t y) (node_rows frames t q y) (node_schema frames v z) (node_rows frames v qv z)
      left = subst (λ n. AreSameAt names (node_schema frames t y) (node_rows frames t q y) (node_schema frames v n) (node_rows frames v qv n)) both-narrow left-raw

      pub types-left : AllByRecursion (λ name. type_of_column name (node_schema frames t y) ≡ type_of_column name (node_schema frames s x)) names
      types-left = all-of (λ name. HasSameType (node_schema frames t y) (node_schema frames v z) name × HasSameType (node_schema frames s x) (node_schema frames u z) name) (λ name. type_of_column name (node_schema frames t y) ≡ type_of_column name (node_schema frames s x))
          (λ name h. sym h.0 ∙ ap (type_of_column name) schemas-same ∙ h.1) names (all-both (HasSameType (node_schema frames t y) (node_schema frames v z)) (HasSameType (node_schema frames s x) (node_schema frames u z)) names left.types were.types)

      pub rows-left : Same (map (row_named (node_schema frames t y) names) (node_rows frames t q y)) (map (row_named (node_schema frames s x) names) (node_rows frames s r x))
      rows-left = Same-from_bag (
          SameBag-trans (SameBag-sym (SameBag-from_rows left.same))
          (SameBag-trans (SameBag-map (row_named (node_schema frames v z) names) rows-same)
          (SameBag-trans (SameBag-from_equal (ap (λ f. map (row_named f names) (node_rows frames u ru z)) schemas-same))
          (SameBag-from_rows were.same))))

  -- ---- what is left of the node

  pub cut-left : IsCut needed (node_schema frames s x) (node_schema frames t y)
  cut-left = record {
    names = served.names;
    sub = served.sub;
    types = λ name n has. (types-left (λ i. []) (λ i. []) (λ i own. tt) (λ i own. tt) (λ i own. record { same = λ names want. record { each = λ row. refl } }) (name ∷ []) (record { wanted = n; there = has }, tt)).0;
    first = served.first;
    once = served.once;
  }
