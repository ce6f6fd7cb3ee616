-- The rows of a node under a filter are those of the node with each conjunct where it goes.
use Rattle.std.proofs.Common.{◌≡◌, ℕ, Bool, true, false, cond, List, [], ◌∷◌, Option, Some, None, map, eqb, refl, ap, sym, ◌∙◌}
use Rattle.std.specs.Prelude.{◌||◌}
use Rattle.std.specs.List.{AllByRecursion}
use Rattle.std.proofs.lemmas.Bool.Decides.{Decides-eqb}
use Rattle.pipe_frame.specs.Frame.{Table}
use Rattle.pipe_schema.specs.Rows.{Row}
use Rattle.pipe_schema.specs.Schema.{first_unknown, has_name, names_of}
use Rattle.pipe_schema.specs.declared.field.Field.{Field}
use Rattle.pipe_expr.specs.Formula.{Formula}
use Rattle.pipe_expr.specs.Types.{columns_in}
use Rattle.pipe_expr.specs.Projections.{passes, filter_rows}
use Rattle.pipe_expr.specs.Joins.{Join}
use Rattle.pipe_expr.specs.declared.join_words.JoinType.{JoinType}
use Rattle.pipe_expr.specs.declared.join_words.JoinType.TheVariants as how
use Rattle.pipe_expr.specs.declared.join_words.FunctionIR.TheVariants as function
use Rattle.pipe_plan.specs.Node.{Node}
use Rattle.pipe_plan.specs.Node as node
use Rattle.pipe_plan.specs.Under.{inputs_of}
use Rattle.pipe_plan.specs.Schemas.{node_schema, join_over}
use Rattle.pipe_plan.specs.PlanRows.{node_rows}
use Rattle.pipe_plan.specs.declared.ir.PlanSlice.{PlanSlice}
use Rattle.pipe_events.specs.Fits.{FitsRow, FitRows}
use Rattle.pipe_events.proofs.Lists.{all-filter}
use Rattle.pipe_rules.specs.Conjuncts.{passes_each, filter_each}
use Rattle.pipe_rules.specs.Placing.{Placing, Above, OnInputs, OnLeft, OnRight, reads_only, on_inputs_if, is_plain, is_passed_on, is_not_in, on_left_or, on_right_or, below_join, below_slice, on_right, right_name, plain_name}
use Rattle.pipe_rules.specs.Names.{with_names}
use Rattle.pipe_rules.specs.Placed.{filtered_all, filtered_at, first_input, second_input, placing_at, rows_placed, IsReady}
use Rattle.pipe_rules.proofs.Filters.{filter-both, filter-constant, filter-swap, all-always}
use Rattle.pipe_rules.proofs.Down.{goes-down}
use Rattle.pipe_rules.specs.Parted.{Parts, parts_of, is_join, parted, rows_below}

pub same-function : {A : Type 0} (f g : ℕ → A) → ((n : ℕ) → f n ≡ g n) → f ≡ g
same-function f g h = λ i n. h n i

pub each-next : (c : Formula) (cs : List Formula) (s : List Field) (rows : List Row) → filter_each (c ∷ cs) s rows ≡ filter_each cs s (filter_rows c s rows)
each-next c cs s rows = filter-both (passes c s) (passes_each cs s) rows

pub each-none : (s : List Field) (rows : List Row) → filter_each [] s rows ≡ rows
each-none s rows = filter-constant (passes_each [] s) true rows (all-always (λ row. passes_each [] s row ≡ true) (λ row. refl) rows)

-- ---- where the conjuncts of a node may go

abbrev NotSides : Placing → Type 0
NotSides (Above f) = Unit {0}
NotSides (OnInputs f) = Unit {0}
NotSides (OnLeft f) = ⊥
NotSides (OnRight f) = ⊥

abbrev NotInputs : Placing → Type 0
NotInputs (Above f) = Unit {0}
NotInputs (OnInputs f) = ⊥
NotInputs (OnLeft f) = Unit {0}
NotInputs (OnRight f) = Unit {0}

inputs-if : (b : Bool) (c d : Formula) → NotSides (on_inputs_if b c d)
inputs-if true c d = tt
inputs-if false c d = tt

below-slice : (slice : Option PlanSlice) (c : Formula) → NotSides (below_slice slice c)
below-slice None c = tt
below-slice (Some slice) c = tt

plain-placing : (schema : ℕ → List Field) (x : Node) (c : Formula) → is_join x ≡ false → NotSides (placing_at schema x c)
plain-placing schema (node.DataFrameScan frame columns) c e = tt
plain-placing schema (node.Filter input predicate) c e = tt
plain-placing schema (node.SimpleProjection input columns) c e = tt
plain-placing schema (node.Select input exprs) c e = inputs-if (reads_only (is_plain exprs) c) c (with_names (plain_name exprs) c)
plain-placing schema (node.HStack input exprs) c e = inputs-if (reads_only (is_passed_on (schema input) exprs) c) c c
plain-placing schema (node.MapFunction input (function.Unpivot on index variable value)) c e = inputs-if (reads_only (has_name index) c) c c
plain-placing schema (node.MapFunction input (function.Rename pairs)) c e = tt
plain-placing schema (node.Union inputs) c e = tt
plain-placing schema (node.Join left right left_on right_on options) c e = cc
plain-placing schema (node.Sort input by options) c e = below-slice options.slice c

left-or : (b : Bool) (c : Formula) (p : Placing) → NotInputs p → NotInputs (on_left_or b c p)
left-or true c p h = tt
left-or false c p h = h

right-or : (b : Bool) (c : Formula) (p : Placing) → NotInputs p → NotInputs (on_right_or b c p)
right-or true c p h = tt
right-or false c p h = h

kind-placing : (kind : JoinType) (j : Join) (c : Formula) → NotInputs (below_join kind j c)
kind-placing how.Inner j c = left-or (reads_only (has_name (names_of j.left)) c) c (on_right j c) (right-or (reads_only (is_not_in j.left) c) (with_names (right_name j j.right) c) (Above c) tt)
kind-placing how.Cross j c = left-or (reads_only (has_name (names_of j.left)) c) c (on_right j c) (right-or (reads_only (is_not_in j.left) c) (with_names (right_name j j.right) c) (Above c) tt)
kind-placing how.Left j c = left-or (reads_only (has_name (names_of j.left)) c) c (Above c) tt
kind-placing how.Semi j c = left-or (reads_only (has_name (names_of j.left)) c) c (Above c) tt
kind-placing how.Anti j c = left-or (reads_only (has_name (names_of j.left)) c) c (Above c) tt
kind-placing how.Full j c = tt

join-placing : (schema : ℕ → List Field) (x : Node) (c : Formula) → is_join x ≡ true → NotInputs (placing_at schema x c)
join-placing schema (node.Join left right left_on right_on options) c e = kind-placing options.how (join_over (schema left) (schema right) left_on right_on options) c
join-placing schema _ c e = cc

or-first : (a b : Bool) → (a || b) ≡ false → a ≡ false
or-first true b e = cc
or-first false b e = refl

-- the inputs of a join are two
two-inputs : (frames : List Table) (schema : ℕ → List Field) (rows : ℕ → List Row) (x : Node) → IsReady frames schema rows x → is_join x ≡ true → eqb (second_input (inputs_of x)) (first_input (inputs_of x)) ≡ false
two-inputs frames schema rows (node.Join left right left_on right_on options) ready e = or-first (eqb right left) false (or-first (eqb right left || false) _ ready.apart)
two-inputs frames schema rows _ ready e = cc

module _ (frames : List Table) (schema : ℕ → List Field) (x : Node) where
  abbrev out : List Field
  out = node_schema frames schema x

  abbrev made : (ℕ → List Row) → List Row
  made rows = node_rows frames schema rows x

  abbrev Known : Formula → Type 0
  Known c = first_unknown out (columns_in c) ≡ None

  all-ready : (c : Formula) (rows : ℕ → List Row) → IsReady frames schema rows x → IsReady frames schema (filtered_all c schema rows) x
  all-ready c rows ready = record {
    known = ready.known;
    typed = ready.typed;
    apart = ready.apart;
    fit = λ i m. all-filter (FitsRow (schema i)) (passes c (schema i)) (rows i) (ready.fit i m);
    once = ready.once;
  }

  at-ready : (k : ℕ) (c : Formula) (rows : ℕ → List Row) → IsReady frames schema rows x → IsReady frames schema (filtered_at k c schema rows) x
  at-ready k c rows ready = record {
    known = ready.known;
    typed = ready.typed;
    apart = ready.apart;
    fit = λ i m. elim (eqb i k) as (λ b. FitRows (schema i) (cond b (filter_rows c (schema i) (rows i)) (rows i))) [
      | true ↦ all-filter (FitsRow (schema i)) (passes c (schema i)) (rows i) (ready.fit i m)
      | false ↦ ready.fit i m
    ];
    once = ready.once;
  }

  -- no conjuncts leave the rows as they are
  nothing-below : (rows : ℕ → List Row) → rows_below schema x (parts_of []) rows ≡ rows
  nothing-below rows = same-function (rows_below schema x (parts_of []) rows) rows (λ i.
      let split : (a b c : Bool) → filter_each (cond a (cond b [] (cond c [] [])) []) (schema i) (rows i) ≡ rows i = elim [
        | true ↦ elim [ true ↦ λ c. each-none (schema i) (rows i) | false ↦ elim [ true ↦ each-none (schema i) (rows i) | false ↦ each-none (schema i) (rows i) ] ]
        | false ↦ λ b c. each-none (schema i) (rows i)
      ]
      in split (is_join x) (eqb i (first_input (inputs_of x))) (eqb i (second_input (inputs_of x))))

  abbrev next_parts : Placing → List Placing → Parts
  next_parts p ps = parts_of (p ∷ ps)

  inputs-below : (f : Formula) (ps : List Placing) (rows : ℕ → List Row) → is_join x ≡ false → rows_below schema x (parts_of ps) (filtered_all f schema rows) ≡ rows_below schema x (next_parts (OnInputs f) ps) rows
  inputs-below f ps rows plain = same-function _ _ (λ i. rw plain (sym (each-next f (parts_of ps).inputs (schema i) (rows i))))

  left-below : (f : Formula) (ps : List Placing) (rows : ℕ → List Row) → is_join x ≡ true → rows_below schema x (parts_of ps) (filtered_at (first_input (inputs_of x)) f schema rows) ≡ rows_below schema x (next_parts (OnLeft f) ps) rows
  left-below f ps rows join = same-function _ _ (λ i.
      let split : (b c : Bool) → filter_each (cond b (parts_of ps).left (cond c (parts_of ps).right [])) (schema i) (cond b (filter_rows f (schema i) (rows i)) (rows i)) ≡ filter_each (cond b (f ∷ (parts_of ps).left) (cond c (parts_of ps).right [])) (schema i) (rows i) = elim [
        | true ↦ λ c. sym (each-next f (parts_of ps).left (schema i) (rows i))
        | false ↦ λ c. refl
      ]
      in rw join (split (eqb i (first_input (inputs_of x))) (eqb i (second_input (inputs_of x)))))

  right-below : (f : Formula) (ps : List Placing) (rows : ℕ → List Row) → is_join x ≡ true → eqb (second_input (inputs_of x)) (first_input (inputs_of x)) ≡ false → rows_below schema x (parts_of ps) (filtered_at (second_input (inputs_of x)) f schema rows) ≡ rows_below schema x (next_parts (OnRight f) ps) rows
  right-below f ps rows join apart = same-function _ _ (λ i.
      let l = first_input (inputs_of x) in
      let r = second_input (inputs_of x) in
      let split : (b c : Bool) → eqb i l ≡ b → eqb i r ≡ c → filter_each (cond b (parts_of ps).left (cond c (parts_of ps).right [])) (schema i) (cond c (filter_rows f (schema i) (rows i)) (rows i)) ≡ filter_each (cond b (parts_of ps).left (cond c (f ∷ (parts_of ps).right) [])) (schema i) (rows i) = elim [
        | true ↦ elim [
          | true ↦ λ e g. (let same : r ≡ l = sym ((Decides-eqb i r).0 g) ∙ (Decides-eqb i l).0 e in let again : eqb r l ≡ true = (Decides-eqb r l).1 same in cc)
          | false ↦ λ e g. refl
        ]
        | false ↦ elim [
          | true ↦ λ e g. sym (each-next f (parts_of ps).right (schema i) (rows i))
          | false ↦ λ e g. refl
        ]
      ]
      in rw join (split (eqb i l) (eqb i r) refl refl))

  -- what a placing says of the node
  abbrev NotSidesOrJoin : Placing → Type 0
  NotSidesOrJoin (Above f) = Unit {0}
  NotSidesOrJoin (OnInputs f) = is_join x ≡ false
  NotSidesOrJoin (OnLeft f) = is_join x ≡ true
  NotSidesOrJoin (OnRight f) = is_join x ≡ true

  sided-by : (p : Placing) (b : Bool) → is_join x ≡ b → cond b (NotInputs p) (NotSides p) → NotSidesOrJoin p
  sided-by (Above f) b e h = tt
  sided-by (OnInputs f) true e h = absurd h
  sided-by (OnInputs f) false e h = e
  sided-by (OnLeft f) true e h = e
  sided-by (OnLeft f) false e h = absurd h
  sided-by (OnRight f) true e h = e
  sided-by (OnRight f) false e h = absurd h

  sided : (c : Formula) → NotSidesOrJoin (placing_at schema x c)
  sided c =
      let split : (b : Bool) → is_join x ≡ b → NotSidesOrJoin (placing_at schema x c) = elim [
        | true ↦ λ e. sided-by (placing_at schema x c) true e (join-placing schema x c e)
        | false ↦ λ e. sided-by (placing_at schema x c) false e (plain-placing schema x c e)
      ]
      in split (is_join x) refl

  pub parts-down : (cs : List Formula) (rows : ℕ → List Row) → IsReady frames schema rows x → AllByRecursion Known cs → filter_each cs out (made rows) ≡ filter_each (parted schema x cs).above out (made (rows_below schema x (parted schema x cs) rows))
  parts-down [] rows ready known = ap (λ r. filter_each [] out (made r)) (sym (nothing-below rows))
  parts-down (c ∷ cs) rows ready known =
      let ps = map (placing_at schema x) cs in
      let above = (parts_of ps).above in
      let first = each-next c cs out (made rows) ∙ ap (filter_each cs out) (goes-down frames schema rows x c ready known.0) in
      let split : (p : Placing) → NotSidesOrJoin p → filter_each cs out (rows_placed frames schema rows x p) ≡ filter_each (next_parts p ps).above out (made (rows_below schema x (next_parts p ps) rows)) = elim [
        | Above f ↦ λ h.
            filter-swap (passes_each cs out) (passes f out) (made rows)
            ∙ ap (filter_rows f out) (parts-down cs rows ready known.1)
            ∙ filter-swap (passes f out) (passes_each above out) (made (rows_below schema x (parts_of ps) rows))
            ∙ sym (each-next f above out (made (rows_below schema x (parts_of ps) rows)))
        | OnInputs f ↦ λ h.
            parts-down cs (filtered_all f schema rows) (all-ready f rows ready) known.1
            ∙ ap (λ r. filter_each above out (made r)) (inputs-below f ps rows h)
        | OnLeft f ↦ λ h.
            parts-down cs (filtered_at (first_input (inputs_of x)) f schema rows) (at-ready (first_input (inputs_of x)) f rows ready) known.1
            ∙ ap (λ r. filter_each above out (made r)) (left-below f ps rows h)
        | OnRight f ↦ λ h.
            parts-down cs (filtered_at (second_input (inputs_of x)) f schema rows) (at-ready (second_input (inputs_of x)) f rows ready) known.1
            ∙ ap (λ r. filter_each above out (made r)) (right-below f ps rows h (two-inputs frames schema rows x ready h))
      ]
      in first ∙ split (placing_at schema x c) (sided c)
