-- Where conjuncts go by kinds of nodes, by names that are looked up.
use Rattle.std.proofs.Common.{◌≡◌, ℕ, Bool, true, false, cond, ◌&&◌, List, [], ◌∷◌, ◌++◌, Option, Some, None, length, map, refl, ap, sym, ◌∙◌}
use Rattle.std.specs.Prelude.{filter}
use Rattle.std.specs.Str.{bytes_eq}
use Rattle.pipe_schema.specs.Schema.{has_name, names_of}
use Rattle.pipe_schema.specs.declared.field.Field.{Field}
use Rattle.pipe_expr.specs.declared.expr.Expr.{Expr}
use Rattle.pipe_expr.specs.declared.expr.NamedExpr.{NamedExpr}
use Rattle.pipe_expr.specs.Formula.{Formula, formula_of, named_formula_of, Column, Literal, Add, Sub, Mul, Eq, NotEq, Lt, LtEq, Gt, GtEq, And, Or, Not, IsNull, IsNotNull}
use Rattle.pipe_expr.specs.Joins.{is_kept, suffixed_name, column_names}
use Rattle.pipe_expr.specs.Projections.{renamed}
use Rattle.pipe_expr.specs.declared.join_words.FunctionIR.{FunctionIR}
use Rattle.pipe_expr.specs.declared.join_words.FunctionIR.TheVariants as function
use Rattle.pipe_expr.specs.declared.join_words.JoinType.{JoinType}
use Rattle.pipe_expr.specs.declared.join_words.JoinType.TheVariants as how
use Rattle.pipe_expr.specs.declared.join_words.RenamePair.{RenamePair}
use Rattle.pipe_plan.specs.Node.{node_of}
use Rattle.pipe_plan.specs.Schemas.{join_over}
use Rattle.pipe_plan.specs.declared.ir.IR.{IR}
use Rattle.pipe_plan.specs.declared.ir.IR.TheVariants as ir
use Rattle.pipe_plan.specs.declared.ir.JoinOptions.{JoinOptions}
use Rattle.pipe_plan.specs.declared.ir.PlanSlice.{PlanSlice}
use Rattle.pipe_plan.specs.declared.ir.SortOptions.{SortOptions}
use Rattle.pipe_check.specs.Sides.{is_kept_by}
use Rattle.pipe_rules.specs.Names.{with_names}
use Rattle.pipe_rules.specs.Placing.{Placing, Above, OnInputs, reads_only, is_not_in, on_left_or, on_right_or, below_select, below_hstack, old_name, below_function, right_name, on_right, below_join, below_slice, placing}
use Rattle.pipe_rules.specs.Placements.{placing_of}
use Rattle.pipe_rules.specs.declared.placement.Placement.{Placement}
use Rattle.pipe_rules.specs.Through.{stays_above, goes_down, through_index, old_pair, through_names, shown_by, shown_names, onto_right, through_sides}

two-same : {A B : Type 0} (f : A → A → B) {a b c d : A} → a ≡ b → c ≡ d → f a c ≡ f b d
two-same f {b = b} {c = c} e g = ap (λ x. f x c) e ∙ ap (f b) g

-- names that are the same
names-same : (f g : List ℕ → List ℕ) → ((name : List ℕ) → f name ≡ g name) → (c : Formula) → with_names f c ≡ with_names g c
names-same f g h (Column name) = ap Column (h name)
names-same f g h (Literal t value) = refl
names-same f g h (Add l r) = two-same Add (names-same f g h l) (names-same f g h r)
names-same f g h (Sub l r) = two-same Sub (names-same f g h l) (names-same f g h r)
names-same f g h (Mul l r) = two-same Mul (names-same f g h l) (names-same f g h r)
names-same f g h (Eq l r) = two-same Eq (names-same f g h l) (names-same f g h r)
names-same f g h (NotEq l r) = two-same NotEq (names-same f g h l) (names-same f g h r)
names-same f g h (Lt l r) = two-same Lt (names-same f g h l) (names-same f g h r)
names-same f g h (LtEq l r) = two-same LtEq (names-same f g h l) (names-same f g h r)
names-same f g h (Gt l r) = two-same Gt (names-same f g h l) (names-same f g h r)
names-same f g h (GtEq l r) = two-same GtEq (names-same f g h l) (names-same f g h r)
names-same f g h (And l r) = two-same And (names-same f g h l) (names-same f g h r)
names-same f g h (Or l r) = two-same Or (names-same f g h l) (names-same f g h r)
names-same f g h (Not c) = ap Not (names-same f g h c)
names-same f g h (IsNull c) = ap IsNull (names-same f g h c)
names-same f g h (IsNotNull c) = ap IsNotNull (names-same f g h c)

all-same : (f g : Formula → Placing) → ((c : Formula) → f c ≡ g c) → (cs : List Formula) → map f cs ≡ map g cs
all-same f g h [] = refl
all-same f g h (c ∷ cs) = ap (λ p. p ∷ map f cs) (h c) ∙ ap (λ l. g c ∷ l) (all-same f g h cs)

-- ---- functions

old-renamed : (pairs : List RenamePair) (fields : List Field) (name : List ℕ) → renamed (map (old_pair pairs) fields) name ≡ old_name pairs fields name
old-renamed pairs [] name = refl
old-renamed pairs (field ∷ fields) name = ap (λ r. cond (bytes_eq (renamed pairs field.name) name) field.name r) (old-renamed pairs fields name)

through-old : (pairs : List RenamePair) (input : List Field) (c : Formula) → through_names (map (old_pair pairs) input) c ≡ below_function input (function.Rename pairs) c
through-old pairs input c = ap OnInputs (names-same (renamed (map (old_pair pairs) input)) (old_name pairs input) (old-renamed pairs input) c)

pub unpivot-all : (input : List Field) (f : FunctionIR) (on index : List (List ℕ)) (variable value : List ℕ) (ps : List Placing) (cs : List Formula) → f ≡ function.Unpivot on index variable value → ps ≡ map (through_index index) cs → ps ≡ map (below_function input f) cs
unpivot-all input f on index variable value ps cs is placed =
    placed ∙ all-same (through_index index) (below_function input f) (λ c. sym (ap (λ g. below_function input g c) is)) cs

pub rename-all : (input : List Field) (f : FunctionIR) (pairs : List RenamePair) (ps : List Placing) (cs : List Formula) → f ≡ function.Rename pairs → ps ≡ map (through_names (map (old_pair pairs) input)) cs → ps ≡ map (below_function input f) cs
rename-all input f pairs ps cs is placed =
    placed ∙ all-same (through_names (map (old_pair pairs) input)) (below_function input f) (λ c. through-old pairs input c ∙ sym (ap (λ g. below_function input g c) is)) cs

pub ruleset function_rules = (unpivot-all, rename-all)

-- ---- joins

module _ (left right : List Field) (left_on right_on : List Formula) (options : JoinOptions) where
  right-renamed : (fields : List Field) (name : List ℕ) → renamed (shown_names left fields (column_names right_on) options) name ≡ right_name (join_over left right left_on right_on options) fields name
  right-renamed [] name = refl
  right-renamed (field ∷ fields) name =
      let j = join_over left right left_on right_on options in
      let rest = right-renamed fields name in
      let kept = filter (is_kept_by (column_names right_on) options) fields in
      elim (is_kept j field) as (λ b. renamed (map (shown_by left options.suffix) (cond b (field ∷ kept) kept)) name ≡ cond (b && bytes_eq (suffixed_name j field.name) name) field.name (right_name j fields name)) [
        | true ↦ ap (λ r. cond (bytes_eq (suffixed_name j field.name) name) field.name r) rest
        | false ↦ rest
      ]

  right-same : (c : Formula) → onto_right left (shown_names left right (column_names right_on) options) c ≡ on_right (join_over left right left_on right_on options) c
  right-same c =
      let shown = shown_names left right (column_names right_on) options in
      let j = join_over left right left_on right_on options in
      ap (λ b. on_right_or (reads_only (is_not_in left) c) b (Above c)) (names-same (renamed shown) (right_name j right) (right-renamed right) c)

  sides-same : (kind : JoinType) (c : Formula) → through_sides kind left (shown_names left right (column_names right_on) options) c ≡ below_join kind (join_over left right left_on right_on options) c
  sides-same how.Inner c = ap (on_left_or (reads_only (has_name (names_of left)) c) c) (right-same c)
  sides-same how.Cross c = ap (on_left_or (reads_only (has_name (names_of left)) c) c) (right-same c)
  sides-same how.Left c = refl
  sides-same how.Semi c = refl
  sides-same how.Anti c = refl
  sides-same how.Full c = refl

-- ---- nodes

-- no conjunct
pub none-all : (pl : Formula → Placing) (ps : List Placement) (cs : List Expr) → length cs ≡ 0 → ps ≡ [] → map placing_of ps ≡ map pl (map formula_of cs)
none-all pl ps [] long none = ap (map placing_of) none
none-all pl ps (c ∷ cs) long none = cc

module _ (l r : List Field) (x : IR) (ps : List Placing) (cs : List Formula) where
  at-node : (y : IR) (f : Formula → Placing) → x ≡ y → ((c : Formula) → f c ≡ placing l r (node_of y) c) → ps ≡ map f cs → ps ≡ map (placing l r (node_of x)) cs
  at-node y f is same placed = placed ∙ all-same f (placing l r (node_of x)) (λ c. same c ∙ sym (ap (λ z. placing l r (node_of z) c) is)) cs

  pub scan-all : (frame : ℕ) (columns : Option (List (List ℕ))) → x ≡ ir.DataFrameScan frame columns → ps ≡ map stays_above cs → ps ≡ map (placing l r (node_of x)) cs
  scan-all frame columns is = at-node (ir.DataFrameScan frame columns) stays_above is (λ c. refl)

  pub filter-all : (input : ℕ) (predicate : Expr) → x ≡ ir.Filter input predicate → ps ≡ map goes_down cs → ps ≡ map (placing l r (node_of x)) cs
  filter-all input predicate is = at-node (ir.Filter input predicate) goes_down is (λ c. refl)

  pub projection-all : (input : ℕ) (columns : List (List ℕ)) → x ≡ ir.SimpleProjection input columns → ps ≡ map goes_down cs → ps ≡ map (placing l r (node_of x)) cs
  projection-all input columns is = at-node (ir.SimpleProjection input columns) goes_down is (λ c. refl)

  pub select-all : (input : ℕ) (exprs : List NamedExpr) → x ≡ ir.Select input exprs → ps ≡ map (below_select (map named_formula_of exprs)) cs → ps ≡ map (placing l r (node_of x)) cs
  select-all input exprs is = at-node (ir.Select input exprs) (below_select (map named_formula_of exprs)) is (λ c. refl)

  pub stack-all : (input : ℕ) (exprs : List NamedExpr) → x ≡ ir.HStack input exprs → ps ≡ map (below_hstack l (map named_formula_of exprs)) cs → ps ≡ map (placing l r (node_of x)) cs
  stack-all input exprs is = at-node (ir.HStack input exprs) (below_hstack l (map named_formula_of exprs)) is (λ c. refl)

  pub function-all : (input : ℕ) (f : FunctionIR) → x ≡ ir.MapFunction input f → ps ≡ map (below_function l f) cs → ps ≡ map (placing l r (node_of x)) cs
  function-all input f is = at-node (ir.MapFunction input f) (below_function l f) is (λ c. refl)

  pub union-all : (inputs : List ℕ) → x ≡ ir.Union inputs → ps ≡ map goes_down cs → ps ≡ map (placing l r (node_of x)) cs
  union-all inputs is = at-node (ir.Union inputs) goes_down is (λ c. refl)

  pub join-all : (left right : ℕ) (left_on right_on : List Expr) (options : JoinOptions) → x ≡ ir.Join left right left_on right_on options → ps ≡ map (through_sides options.how l (shown_names l r (column_names (map formula_of right_on)) options)) cs → ps ≡ map (placing l r (node_of x)) cs
  join-all left right left_on right_on options is =
      at-node (ir.Join left right left_on right_on options) (through_sides options.how l (shown_names l r (column_names (map formula_of right_on)) options)) is
      (sides-same l r (map formula_of left_on) (map formula_of right_on) options options.how)

  pub sort-all : (input : ℕ) (by : List (List ℕ)) (options : SortOptions) → x ≡ ir.Sort input by options → options.slice ≡ None → ps ≡ map goes_down cs → ps ≡ map (placing l r (node_of x)) cs
  sort-all input by options is none = at-node (ir.Sort input by options) goes_down is (λ c. sym (ap (λ s. below_slice s c) none))

  pub slice-all : (input : ℕ) (by : List (List ℕ)) (options : SortOptions) (slice : PlanSlice) → x ≡ ir.Sort input by options → options.slice ≡ Some slice → ps ≡ map stays_above cs → ps ≡ map (placing l r (node_of x)) cs
  slice-all input by options slice is some = at-node (ir.Sort input by options) stays_above is (λ c. sym (ap (λ s. below_slice s c) some))

pub ruleset node_rules = (none-all, scan-all, filter-all, projection-all, select-all, stack-all, function-all, union-all, join-all, sort-all, slice-all)
