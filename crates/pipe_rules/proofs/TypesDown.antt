-- A conjunct has the same type where it goes.
use Rattle.std.proofs.Common.{◌≡◌, ℕ, Bool, true, false, cond, List, [], ◌∷◌, ◌++◌, Option, Some, None, map, eqb, refl, ap, sym, ◌∙◌, subst}
use Rattle.std.specs.Prelude.{◌||◌, not}
use Rattle.std.specs.List.{list_any}
use Rattle.std.specs.Cmp.Lexicographic.{pointwise}
use Rattle.std.proofs.lemmas.Bool.Decides.{Decides-eqb}
use Rattle.pipe_frame.specs.Frame.{Table}
use Rattle.pipe_schema.specs.Rows.{Row}
use Rattle.pipe_schema.specs.Schema.{has_name, names_of, first_repeated, first_unknown}
use Rattle.pipe_schema.specs.declared.field.Field.{Field}
use Rattle.pipe_expr.specs.Formula.{Formula, NamedFormula}
use Rattle.pipe_expr.specs.Types.{columns_in, type_of}
use Rattle.pipe_expr.specs.Projections.{fields_named, select_fields, expr_named, expr_field, new_exprs, hstack_fields, renamed_field, function_fields}
use Rattle.pipe_expr.specs.Joins.{Join, pair_fields, makes_pairs}
use Rattle.pipe_expr.specs.declared.join_words.RenamePair.{RenamePair}
use Rattle.pipe_expr.specs.declared.join_words.FunctionIR.TheVariants as function
use Rattle.pipe_expr.specs.declared.join_words.JoinType.{JoinType}
use Rattle.pipe_expr.specs.declared.join_words.JoinType.TheVariants as how
use Rattle.pipe_plan.specs.Node.{Node}
use Rattle.pipe_plan.specs.Node as node
use Rattle.pipe_plan.specs.Schemas.{node_schema, join_over}
use Rattle.pipe_plan.specs.Faults.{eq_field}
use Rattle.pipe_plan.specs.declared.ir.PlanSlice.{PlanSlice}
use Rattle.pipe_rules.specs.Names.{with_names}
use Rattle.pipe_rules.specs.Placing.{Placing, Above, OnInputs, OnLeft, OnRight, reads_only, on_inputs_if, is_plain, plain_name, is_replacing, is_passed_on, old_name, is_not_in, right_name, on_left_or, on_right_or, below_join, below_slice}
use Rattle.pipe_rules.specs.Placed.{placing_at, is_input, IsReady, HasTypeOf}
use Rattle.pipe_rules.specs.FilterLaws.{TypesGoDown}
use Rattle.pipe_rules.proofs.Filters.{all-of, all-both, all-tested}
use Rattle.pipe_rules.proofs.Renamed.{type-renamed, type-same}
use Rattle.pipe_rules.proofs.Under.{each-known}
use Rattle.pipe_rules.proofs.Columns.{in-more, shown}
use Rattle.pipe_rules.proofs.ColumnTypes.{named-type, index-type, select-type, hstack-type, renamed-type, left-type, past-left-type, right-type}
use Rattle.pipe_rules.proofs.Down.{and-first, and-second, or-first, or-second, not-true, not-false, Known, same-fields, first-is, next-is}

projected : (s : List Field) (columns : List (List ℕ)) (c : Formula) → first_unknown s columns ≡ None → first_unknown (fields_named s columns) (columns_in c) ≡ None → type_of c s ≡ type_of c (fields_named s columns)
projected s columns c reads known =
    let out = fields_named s columns in
    type-same c s out (all-of (Known out) _ (λ name h. sym (named-type name s columns reads h)) (columns_in c) (each-known out (columns_in c) known))

selected : (s : List Field) (exprs : List NamedFormula) (c : Formula) → list_any (Rattle.pipe_plan.specs.Faults.is_named_untyped s) exprs ≡ false → reads_only (is_plain exprs) c ≡ true → type_of (with_names (plain_name exprs) c) s ≡ type_of c (select_fields s exprs)
selected s exprs c types plain =
    type-renamed (plain_name exprs) c s (select_fields s exprs) (all-of (λ name. is_plain exprs name ≡ true) _ (λ name h. sym (select-type name s exprs types h)) (columns_in c) (all-tested (is_plain exprs) (columns_in c) plain))

stacked : (s : List Field) (exprs : List NamedFormula) (c : Formula) → reads_only (is_passed_on s exprs) c ≡ true → type_of c s ≡ type_of c (hstack_fields s exprs)
stacked s exprs c passed =
    type-same c s (hstack_fields s exprs) (all-of (λ name. is_passed_on s exprs name ≡ true) _ (λ name h.
    let there = and-first (has_name (names_of s) name) (not (is_replacing (expr_named exprs name))) h in
    let stays = not-true (is_replacing (expr_named exprs name)) (and-second (has_name (names_of s) name) (not (is_replacing (expr_named exprs name))) h) in
    sym (hstack-type name s exprs (map (expr_field s) (new_exprs s exprs)) s there stays))
    (columns_in c) (all-tested (is_passed_on s exprs) (columns_in c) passed))

unpivoted : (s : List Field) (on index : List (List ℕ)) (variable value : List ℕ) (c : Formula) → first_unknown s index ≡ None → reads_only (has_name index) c ≡ true → type_of c s ≡ type_of c (function_fields (function.Unpivot on index variable value) s)
unpivoted s on index variable value c known reads =
    type-same c s (function_fields (function.Unpivot on index variable value) s) (all-of (λ name. has_name index name ≡ true) _ (λ name h. sym (index-type name s _ index known h)) (columns_in c) (all-tested (has_name index) (columns_in c) reads))

renamed-down : (s : List Field) (pairs : List RenamePair) (c : Formula) → first_repeated (names_of s) ≡ None → first_unknown (map (renamed_field pairs) s) (columns_in c) ≡ None → type_of (with_names (old_name pairs s) c) s ≡ type_of c (map (renamed_field pairs) s)
renamed-down s pairs c once known =
    let out = map (renamed_field pairs) s in
    type-renamed (old_name pairs s) c s out (all-of (Known out) _ (λ name h. sym (renamed-type name pairs s once h)) (columns_in c) (each-known out (columns_in c) known))

-- names behind others that are known
behind-known : (fields : List Field) (xs ys : List (List ℕ)) → first_unknown fields (xs ++ ys) ≡ None → first_unknown fields ys ≡ None
behind-known fields [] ys e = e
behind-known fields (x ∷ xs) ys e =
    let split : (b : Bool) → cond b (first_unknown fields (xs ++ ys)) (Some x) ≡ None → first_unknown fields ys ≡ None = elim [
      | true ↦ λ h. behind-known fields xs ys h
      | false ↦ λ h. cc
    ] in split (has_name (names_of fields) x) e

module _ (j : Join) (c : Formula) where
  on-left : reads_only (has_name (names_of j.left)) c ≡ true → type_of c j.left ≡ type_of c (pair_fields j)
  on-left reads = type-same c j.left (pair_fields j) (all-of (Known j.left) _ (λ name h. sym (left-type name j.left (shown j j.right) h)) (columns_in c) (all-tested (has_name (names_of j.left)) (columns_in c) reads))

  on-right : first_repeated (names_of j.right) ≡ None → reads_only (is_not_in j.left) c ≡ true → first_unknown (pair_fields j) (columns_in c) ≡ None → type_of (with_names (right_name j j.right) c) j.right ≡ type_of c (pair_fields j)
  on-right once reads known =
      let out = pair_fields j in
      type-renamed (right_name j j.right) c j.right out (all-of (λ name. Known out name × (is_not_in j.left name ≡ true)) _ (λ name h.
      let absent = not-true (has_name (names_of j.left) name) h.1 in
      let there : has_name (names_of (shown j j.right)) name ≡ true = in-more name j.left (shown j j.right) absent h.0 in
      sym (right-type j name j.right once there) ∙ sym (past-left-type name j.left (shown j j.right) absent))
      (columns_in c) (all-both (Known out) (λ name. is_not_in j.left name ≡ true) (columns_in c) (each-known out (columns_in c) known) (all-tested (is_not_in j.left) (columns_in c) reads)))

  abbrev kind_fields : JoinType → List Field
  kind_fields kind = cond (makes_pairs kind) (pair_fields j) j.left

  abbrev KindTyped : JoinType → Placing → Type 0
  KindTyped kind (Above f) = f ≡ c
  KindTyped kind (OnInputs f) = ⊥
  KindTyped kind (OnLeft f) = type_of f j.left ≡ type_of c (kind_fields kind)
  KindTyped kind (OnRight f) = type_of f j.right ≡ type_of c (kind_fields kind)

  either-side : (kind : JoinType) → makes_pairs kind ≡ true → (a b : Bool) → reads_only (has_name (names_of j.left)) c ≡ a → reads_only (is_not_in j.left) c ≡ b → first_repeated (names_of j.right) ≡ None → first_unknown (pair_fields j) (columns_in c) ≡ None → KindTyped kind (on_left_or a c (on_right_or b (with_names (right_name j j.right) c) (Above c)))
  either-side kind p true b e f once known = rw p (on-left e)
  either-side kind p false true e f once known = rw p (on-right once f known)
  either-side kind p false false e f once known = refl

  outer-side : (a : Bool) → reads_only (has_name (names_of j.left)) c ≡ a → KindTyped how.Left (on_left_or a c (Above c))
  outer-side true e = on-left e
  outer-side false e = refl

  semi-side : (kind : JoinType) → makes_pairs kind ≡ false → (a : Bool) → KindTyped kind (on_left_or a c (Above c))
  semi-side kind p true = rw p refl
  semi-side kind p false = refl

  by-kind : (kind : JoinType) → first_repeated (names_of j.right) ≡ None → first_unknown (kind_fields kind) (columns_in c) ≡ None → KindTyped kind (below_join kind j c)
  by-kind how.Inner once known = either-side how.Inner refl (reads_only (has_name (names_of j.left)) c) (reads_only (is_not_in j.left) c) refl refl once known
  by-kind how.Cross once known = either-side how.Cross refl (reads_only (has_name (names_of j.left)) c) (reads_only (is_not_in j.left) c) refl refl once known
  by-kind how.Left once known = outer-side (reads_only (has_name (names_of j.left)) c) refl
  by-kind how.Semi once known = semi-side how.Semi refl (reads_only (has_name (names_of j.left)) c)
  by-kind how.Anti once known = semi-side how.Anti refl (reads_only (has_name (names_of j.left)) c)
  by-kind how.Full once known = refl

module _ (frames : List Table) (schema : ℕ → List Field) (rows : ℕ → List Row) where
  only-input : (P : ℕ → Type 0) (input i : ℕ) → list_any (λ m. eqb m i) (input ∷ []) ≡ true → P input → P i
  only-input P input i e h =
      let split : (b : Bool) → eqb input i ≡ b → (b || false) ≡ true → P i = elim [
        | true ↦ λ is _. subst P ((Decides-eqb input i).0 is) h
        | false ↦ λ _ k. cc
      ] in split (eqb input i) refl e

  united : (c : Formula) (first : ℕ) (is : List ℕ) → list_any (λ i. not (pointwise eq_field (schema first) (schema i))) is ≡ false → (i : ℕ) → list_any (λ m. eqb m i) is ≡ true → type_of c (schema i) ≡ type_of c (schema first)
  united c first [] e i m = cc
  united c first (k ∷ is) e i m =
      let split : (b : Bool) → eqb k i ≡ b → (b || list_any (λ n. eqb n i) is) ≡ true → type_of c (schema i) ≡ type_of c (schema first) = elim [
        | true ↦ λ is_k _. (
            let same = same-fields (schema first) (schema k) (not-false (pointwise eq_field (schema first) (schema k)) (or-first (not (pointwise eq_field (schema first) (schema k))) _ e)) in
            ap (λ n. type_of c (schema n)) (sym ((Decides-eqb k i).0 is_k)) ∙ ap (type_of c) (sym same))
        | false ↦ λ _ more. united c first is (or-second (not (pointwise eq_field (schema first) (schema k))) _ e) i more
      ] in split (eqb k i) refl m

  sort-down : (input : ℕ) (c : Formula) (slice : Option PlanSlice) (x : Node) → ((i : ℕ) → is_input x i ≡ true → type_of c (schema i) ≡ type_of c (node_schema frames schema x)) → HasTypeOf frames schema x c (below_slice slice c)
  sort-down input c None x h = h
  sort-down input c (Some slice) x h = refl

  down : (x : Node) (c : Formula) → IsReady frames schema rows x → first_unknown (node_schema frames schema x) (columns_in c) ≡ None → HasTypeOf frames schema x c (placing_at schema x c)
  down (node.DataFrameScan frame columns) c ready known = refl
  down (node.Filter input predicate) c ready known = λ i m. only-input (λ n. type_of c (schema n) ≡ type_of c (schema input)) input i m refl
  down (node.SimpleProjection input columns) c ready known = λ i m. only-input (λ n. type_of c (schema n) ≡ type_of c (fields_named (schema input) columns)) input i m (projected (schema input) columns c ready.known known)
  down (node.Select input exprs) c ready known =
      let s = schema input in
      let below = with_names (plain_name exprs) c in
      let split : (b : Bool) → reads_only (is_plain exprs) c ≡ b → HasTypeOf frames schema (node.Select input exprs) c (on_inputs_if b c below) = elim [
        | true ↦ λ e i m. only-input (λ n. type_of below (schema n) ≡ type_of c (select_fields s exprs)) input i m (selected s exprs c ready.typed e)
        | false ↦ λ e. refl
      ]
      in split (reads_only (is_plain exprs) c) refl
  down (node.HStack input exprs) c ready known =
      let s = schema input in
      let split : (b : Bool) → reads_only (is_passed_on s exprs) c ≡ b → HasTypeOf frames schema (node.HStack input exprs) c (on_inputs_if b c c) = elim [
        | true ↦ λ e i m. only-input (λ n. type_of c (schema n) ≡ type_of c (hstack_fields s exprs)) input i m (stacked s exprs c e)
        | false ↦ λ e. refl
      ]
      in split (reads_only (is_passed_on s exprs) c) refl
  down (node.MapFunction input (function.Unpivot on index variable value)) c ready known =
      let s = schema input in
      let f = function.Unpivot on index variable value in
      let split : (b : Bool) → reads_only (has_name index) c ≡ b → HasTypeOf frames schema (node.MapFunction input f) c (on_inputs_if b c c) = elim [
        | true ↦ λ e i m. only-input (λ n. type_of c (schema n) ≡ type_of c (function_fields f s)) input i m (unpivoted s on index variable value c (behind-known s on index ready.known) e)
        | false ↦ λ e. refl
      ]
      in split (reads_only (has_name index) c) refl
  down (node.MapFunction input (function.Rename pairs)) c ready known =
      let s = schema input in
      let below = with_names (old_name pairs s) c in
      λ i m. only-input (λ n. type_of below (schema n) ≡ type_of c (map (renamed_field pairs) s)) input i m (renamed-down s pairs c (ready.once input (first-is frames schema rows input [])) known)
  down (node.Union []) c ready known = λ i m. cc
  down (node.Union (first ∷ is)) c ready known = λ i m. (
      let split : (b : Bool) → eqb first i ≡ b → (b || list_any (λ n. eqb n i) is) ≡ true → type_of c (schema i) ≡ type_of c (schema first) = elim [
        | true ↦ λ same _. ap (λ n. type_of c (schema n)) (sym ((Decides-eqb first i).0 same))
        | false ↦ λ _ more. united c first is ready.typed i more
      ] in split (eqb first i) refl m)
  down (node.Join left right left_on right_on options) c ready known =
      let x = node.Join left right left_on right_on options in
      let j = join_over (schema left) (schema right) left_on right_on options in
      let once = ready.once right (next-is frames schema rows left right (right ∷ []) (first-is frames schema rows right [])) in
      let on_node : (p : Placing) → KindTyped j c options.how p → HasTypeOf frames schema x c p = elim [
        | Above f ↦ λ h. h
        | OnInputs f ↦ λ h. absurd h
        | OnLeft f ↦ λ h. h
        | OnRight f ↦ λ h. h
      ]
      in on_node (below_join options.how j c) (by-kind j c options.how once known)
  down (node.Sort input by options) c ready known =
      sort-down input c options.slice (node.Sort input by options) (λ i m. only-input (λ n. type_of c (schema n) ≡ type_of c (schema input)) input i m refl)

pub types-down : TypesGoDown
types-down = down
