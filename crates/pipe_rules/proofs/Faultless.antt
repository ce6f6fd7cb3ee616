-- The faults of a node rest on its inputs' schemas, whatever their numbers; what a node has that has no fault.
use Rattle.std.proofs.Common.{◌≡◌, ℕ, Bool, true, false, not, ◌||◌, List, [], ◌∷◌, map, Some, None, refl, ap, sym, ◌∙◌}
use Rattle.std.specs.List.{list_any, flat_map}
use Rattle.std.specs.Cmp.Lexicographic.{pointwise}
use Rattle.pipe_frame.specs.Frame.{Table}
use Rattle.pipe_schema.specs.Schema.{names_of, first_unknown, first_repeated}
use Rattle.pipe_schema.specs.declared.data_type.DataType.TheVariants as dtype
use Rattle.pipe_schema.specs.declared.field.Field.{Field}
use Rattle.pipe_expr.specs.Types.{type_of, columns_in}
use Rattle.pipe_plan.specs.Node.{Node}
use Rattle.pipe_plan.specs.Node as node
use Rattle.pipe_plan.specs.Under.{inputs_of}
use Rattle.pipe_plan.specs.Schemas.{join_over}
use Rattle.pipe_plan.specs.Faults.{or_else, eq_field, eq_types, is_empty, is_void, unknown_in, duplicate_in, once_names, is_mistyped, is_mistyped_function, keys_mistyped, is_named_untyped, expr_columns, function_names, inputs_differ, is_bad_join, is_bad_sort}
use Rattle.pipe_check.specs.Checking.{fault_with}
use Rattle.pipe_rules.specs.Placing.{below_hstack, below_function, below_join}
use Rattle.pipe_rules.specs.Placed.{first_input, second_input, placing_at}
use Rattle.pipe_rules.specs.Renumbered.{with_inputs}
use Rattle.pipe_rules.specs.Low.{is_filter, IsLow}
use Rattle.pipe_rules.proofs.Renumber.{heads, tails, first-same, second-same, two, schema-renumbered}

-- ---- what rests on the inputs' schemas

any-same : (p : List Field → Bool) (f g : ℕ → List Field) (ks is : List ℕ) → map f ks ≡ map g is → list_any (λ i. p (f i)) ks ≡ list_any (λ i. p (g i)) is
any-same p f g [] [] e = refl
any-same p f g [] (i ∷ is) e = cc
any-same p f g (k ∷ ks) [] e = cc
any-same p f g (k ∷ ks) (i ∷ is) e = two (λ a b. p a || b) (heads e) (any-same p f g ks is (tails e))

pub differ-same : (f g : ℕ → List Field) (ks is : List ℕ) → map f ks ≡ map g is → inputs_differ f ks ≡ inputs_differ g is
differ-same f g [] [] e = refl
differ-same f g [] (i ∷ is) e = cc
differ-same f g (k ∷ ks) [] e = cc
differ-same f g (k ∷ ks) (i ∷ is) e =
    ap (λ s. list_any (λ j. not (pointwise eq_field s (f j))) ks) (heads e)
    ∙ any-same (λ s. not (pointwise eq_field (g i) s)) f g ks is (tails e)

empty-same : (f g : ℕ → List Field) (ks is : List ℕ) → map f ks ≡ map g is → is_empty ks ≡ is_empty is
empty-same f g [] [] e = refl
empty-same f g [] (i ∷ is) e = cc
empty-same f g (k ∷ ks) [] e = cc
empty-same f g (k ∷ ks) (i ∷ is) e = refl

none-more : (f g : ℕ → List Field) (ks : List ℕ) → map f ks ≡ map g [] → ks ≡ []
none-more f g [] e = refl
none-more f g (k ∷ ks) e = cc

one-more : (f g : ℕ → List Field) (ks : List ℕ) (i : ℕ) → map f ks ≡ map g (i ∷ []) → first_input ks ∷ [] ≡ ks
one-more f g [] i e = cc
one-more f g (k ∷ ks) i e = ap (λ l. k ∷ l) (sym (none-more f g ks (tails e)))

two-more : (f g : ℕ → List Field) (ks : List ℕ) (i j : ℕ) → map f ks ≡ map g (i ∷ j ∷ []) → first_input ks ∷ second_input ks ∷ [] ≡ ks
two-more f g [] i j e = cc
two-more f g (k ∷ ks) i j e = ap (λ l. k ∷ l) (one-more f g ks j (tails e))

module _ (frames : List Table) (f g : ℕ → List Field) where
  -- the inputs are those that were given
  pub inputs-given : (x : Node) (ks : List ℕ) → map f ks ≡ map g (inputs_of x) → inputs_of (with_inputs x ks) ≡ ks
  inputs-given (node.DataFrameScan frame columns) ks e = sym (none-more f g ks e)
  inputs-given (node.Filter input predicate) ks e = one-more f g ks input e
  inputs-given (node.SimpleProjection input columns) ks e = one-more f g ks input e
  inputs-given (node.Select input exprs) ks e = one-more f g ks input e
  inputs-given (node.HStack input exprs) ks e = one-more f g ks input e
  inputs-given (node.MapFunction input function) ks e = one-more f g ks input e
  inputs-given (node.Union inputs) ks e = refl
  inputs-given (node.Join left right left_on right_on options) ks e = two-more f g ks left right e
  inputs-given (node.Sort input by options) ks e = one-more f g ks input e

  pub void-renumbered : (x : Node) (ks : List ℕ) → map f ks ≡ map g (inputs_of x) → is_void frames (with_inputs x ks) ≡ is_void frames x
  void-renumbered (node.DataFrameScan frame columns) ks e = refl
  void-renumbered (node.Filter input predicate) ks e = refl
  void-renumbered (node.SimpleProjection input columns) ks e = refl
  void-renumbered (node.Select input exprs) ks e = refl
  void-renumbered (node.HStack input exprs) ks e = refl
  void-renumbered (node.MapFunction input function) ks e = refl
  void-renumbered (node.Union inputs) ks e = empty-same f g ks inputs e
  void-renumbered (node.Join left right left_on right_on options) ks e = refl
  void-renumbered (node.Sort input by options) ks e = refl

  unknown-renumbered : (x : Node) (ks : List ℕ) → map f ks ≡ map g (inputs_of x) → unknown_in frames f (with_inputs x ks) ≡ unknown_in frames g x
  unknown-renumbered (node.DataFrameScan frame columns) ks e = refl
  unknown-renumbered (node.Filter input predicate) ks e = ap (λ s. first_unknown s (columns_in predicate)) (first-same f g ks input [] e)
  unknown-renumbered (node.SimpleProjection input columns) ks e = ap (λ s. first_unknown s columns) (first-same f g ks input [] e)
  unknown-renumbered (node.Select input exprs) ks e = ap (λ s. first_unknown s (flat_map expr_columns exprs)) (first-same f g ks input [] e)
  unknown-renumbered (node.HStack input exprs) ks e = ap (λ s. first_unknown s (flat_map expr_columns exprs)) (first-same f g ks input [] e)
  unknown-renumbered (node.MapFunction input function) ks e = ap (λ s. first_unknown s (function_names function)) (first-same f g ks input [] e)
  unknown-renumbered (node.Union inputs) ks e = refl
  unknown-renumbered (node.Join left right left_on right_on options) ks e = two (λ a b. or_else (first_unknown a (flat_map columns_in left_on)) (first_unknown b (flat_map columns_in right_on))) (first-same f g ks left (right ∷ []) e) (second-same f g ks left right [] e)
  unknown-renumbered (node.Sort input by options) ks e = ap (λ s. first_unknown s by) (first-same f g ks input [] e)

  typed-renumbered : (x : Node) (ks : List ℕ) → map f ks ≡ map g (inputs_of x) → is_mistyped f (with_inputs x ks) ≡ is_mistyped g x
  typed-renumbered (node.DataFrameScan frame columns) ks e = refl
  typed-renumbered (node.Filter input predicate) ks e = ap (λ s. not (eq_types (type_of predicate s) (Some dtype.Boolean))) (first-same f g ks input [] e)
  typed-renumbered (node.SimpleProjection input columns) ks e = refl
  typed-renumbered (node.Select input exprs) ks e = ap (λ s. list_any (is_named_untyped s) exprs) (first-same f g ks input [] e)
  typed-renumbered (node.HStack input exprs) ks e = ap (λ s. list_any (is_named_untyped s) exprs) (first-same f g ks input [] e)
  typed-renumbered (node.MapFunction input function) ks e = ap (λ s. is_mistyped_function s function) (first-same f g ks input [] e)
  typed-renumbered (node.Union inputs) ks e = differ-same f g ks inputs e
  typed-renumbered (node.Join left right left_on right_on options) ks e = two (λ a b. keys_mistyped a b left_on right_on) (first-same f g ks left (right ∷ []) e) (second-same f g ks left right [] e)
  typed-renumbered (node.Sort input by options) ks e = refl

  pub placing-renumbered : (x : Node) (ks : List ℕ) → map f ks ≡ map g (inputs_of x) → (c : Rattle.pipe_expr.specs.Formula.Formula) → placing_at f (with_inputs x ks) c ≡ placing_at g x c
  placing-renumbered (node.DataFrameScan frame columns) ks e c = refl
  placing-renumbered (node.Filter input predicate) ks e c = refl
  placing-renumbered (node.SimpleProjection input columns) ks e c = refl
  placing-renumbered (node.Select input exprs) ks e c = refl
  placing-renumbered (node.HStack input exprs) ks e c = ap (λ s. below_hstack s exprs c) (first-same f g ks input [] e)
  placing-renumbered (node.MapFunction input function) ks e c = ap (λ s. below_function s function c) (first-same f g ks input [] e)
  placing-renumbered (node.Union inputs) ks e c = refl
  placing-renumbered (node.Join left right left_on right_on options) ks e c = two (λ a b. below_join options.how (join_over a b left_on right_on options) c) (first-same f g ks left (right ∷ []) e) (second-same f g ks left right [] e)
  placing-renumbered (node.Sort input by options) ks e c = refl

-- ---- what doesn't

once-renumbered : (x : Node) (ks : List ℕ) → once_names (with_inputs x ks) ≡ once_names x
once-renumbered (node.DataFrameScan frame columns) ks = refl
once-renumbered (node.Filter input predicate) ks = refl
once-renumbered (node.SimpleProjection input columns) ks = refl
once-renumbered (node.Select input exprs) ks = refl
once-renumbered (node.HStack input exprs) ks = refl
once-renumbered (node.MapFunction input function) ks = refl
once-renumbered (node.Union inputs) ks = refl
once-renumbered (node.Join left right left_on right_on options) ks = refl
once-renumbered (node.Sort input by options) ks = refl

join-renumbered : (x : Node) (ks : List ℕ) → is_bad_join (with_inputs x ks) ≡ is_bad_join x
join-renumbered (node.DataFrameScan frame columns) ks = refl
join-renumbered (node.Filter input predicate) ks = refl
join-renumbered (node.SimpleProjection input columns) ks = refl
join-renumbered (node.Select input exprs) ks = refl
join-renumbered (node.HStack input exprs) ks = refl
join-renumbered (node.MapFunction input function) ks = refl
join-renumbered (node.Union inputs) ks = refl
join-renumbered (node.Join left right left_on right_on options) ks = refl
join-renumbered (node.Sort input by options) ks = refl

sort-renumbered : (x : Node) (ks : List ℕ) → is_bad_sort (with_inputs x ks) ≡ is_bad_sort x
sort-renumbered (node.DataFrameScan frame columns) ks = refl
sort-renumbered (node.Filter input predicate) ks = refl
sort-renumbered (node.SimpleProjection input columns) ks = refl
sort-renumbered (node.Select input exprs) ks = refl
sort-renumbered (node.HStack input exprs) ks = refl
sort-renumbered (node.MapFunction input function) ks = refl
sort-renumbered (node.Union inputs) ks = refl
sort-renumbered (node.Join left right left_on right_on options) ks = refl
sort-renumbered (node.Sort input by options) ks = refl

pub filter-renumbered : (x : Node) (ks : List ℕ) → is_filter (with_inputs x ks) ≡ is_filter x
filter-renumbered (node.DataFrameScan frame columns) ks = refl
filter-renumbered (node.Filter input predicate) ks = refl
filter-renumbered (node.SimpleProjection input columns) ks = refl
filter-renumbered (node.Select input exprs) ks = refl
filter-renumbered (node.HStack input exprs) ks = refl
filter-renumbered (node.MapFunction input function) ks = refl
filter-renumbered (node.Union inputs) ks = refl
filter-renumbered (node.Join left right left_on right_on options) ks = refl
filter-renumbered (node.Sort input by options) ks = refl

-- what is no filter stands low
pub no-filter : (s : ℕ → List Field) (nodes : List Node) (x : Node) → is_filter x ≡ false → IsLow s nodes x
no-filter s nodes (node.DataFrameScan frame columns) e = tt
no-filter s nodes (node.Filter input predicate) e = absurd (let no_ : true ≡ false = e in cc)
no-filter s nodes (node.SimpleProjection input columns) e = tt
no-filter s nodes (node.Select input exprs) e = tt
no-filter s nodes (node.HStack input exprs) e = tt
no-filter s nodes (node.MapFunction input function) e = tt
no-filter s nodes (node.Union inputs) e = tt
no-filter s nodes (node.Join left right left_on right_on options) e = tt
no-filter s nodes (node.Sort input by options) e = tt

-- ---- all faults

pub no-fault : (frames : List Table) (s : ℕ → List Field) (m : ℕ) (x : Node) → unknown_in frames s x ≡ None → duplicate_in frames s x ≡ None → is_mistyped s x ≡ false → is_bad_join x ≡ false → is_bad_sort x ≡ false → fault_with false frames s m x ≡ None
no-fault frames s m x unknown twice typed joins sorts = rw (unknown, twice, typed, joins, sorts) refl

pub fault-renumbered : (frames : List Table) (f g : ℕ → List Field) (m : ℕ) (x : Node) (ks : List ℕ) → map f ks ≡ map g (inputs_of x) → unknown_in frames g x ≡ None → duplicate_in frames g x ≡ None → is_mistyped g x ≡ false → is_bad_join x ≡ false → is_bad_sort x ≡ false → fault_with false frames f m (with_inputs x ks) ≡ None
fault-renumbered frames f g m x ks e unknown twice typed joins sorts =
    no-fault frames f m (with_inputs x ks)
    (unknown-renumbered frames f g x ks e ∙ unknown)
    (two (λ s o. or_else (first_repeated (names_of s)) (first_repeated o)) (schema-renumbered frames f g x ks e) (once-renumbered x ks) ∙ twice)
    (typed-renumbered frames f g x ks e ∙ typed)
    (join-renumbered x ks ∙ joins)
    (sort-renumbered x ks ∙ sorts)
