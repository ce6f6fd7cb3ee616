-- A filter is one by its conjuncts.
use Rattle.std.proofs.Common.{◌≡◌, Bool, true, false, List, [], ◌∷◌, ◌++◌, Option, Some, None, refl, ap, sym, ◌∙◌}
use Rattle.std.specs.Prelude.{◌&&◌}
use Rattle.std.specs.List.{list_all}
use Rattle.pipe_schema.specs.Cell.{is_true_cell, boolean_cell}
use Rattle.pipe_schema.specs.Rows.{Row}
use Rattle.pipe_schema.specs.declared.any_value.AnyValue.{AnyValue}
use Rattle.pipe_schema.specs.declared.any_value.AnyValue.TheVariants as cell
use Rattle.pipe_schema.specs.declared.field.Field.{Field}
use Rattle.pipe_expr.specs.Formula.{Formula, Column, Literal, Add, Sub, Mul, Eq, NotEq, Lt, LtEq, Gt, GtEq, And, Or, Not, IsNull, IsNotNull}
use Rattle.pipe_expr.specs.Nullables.{both}
use Rattle.pipe_expr.specs.Values.{value_of, truth_of}
use Rattle.pipe_expr.specs.Projections.{passes}
use Rattle.pipe_rules.specs.Conjuncts.{conjuncts_of, passes_one, passes_each}
use Rattle.pipe_rules.specs.FilterLaws.{ConjunctsFilter}
use Rattle.pipe_rules.proofs.Filters.{filter-same, all-always}

-- whether a truth value is there and true
is_yes : Option Bool → Bool
is_yes None = false
is_yes (Some b) = b

cell-yes : (o : Option Bool) → is_true_cell (boolean_cell o) ≡ is_yes o
unfolding is_yes
cell-yes None = refl
cell-yes (Some true) = refl
cell-yes (Some false) = refl

both-yes : (a b : Option Bool) → is_yes (both a b) ≡ (is_yes a && is_yes b)
unfolding is_yes
both-yes None None = refl
both-yes None (Some true) = refl
both-yes None (Some false) = refl
both-yes (Some true) None = refl
both-yes (Some true) (Some true) = refl
both-yes (Some true) (Some false) = refl
both-yes (Some false) None = refl
both-yes (Some false) (Some true) = refl
both-yes (Some false) (Some false) = refl

truth-yes : (c : AnyValue) → is_yes (truth_of c) ≡ is_true_cell c
unfolding is_yes
truth-yes cell.Null = refl
truth-yes (cell.Boolean true) = refl
truth-yes (cell.Boolean false) = refl
truth-yes (cell.Int32 x) = refl
truth-yes (cell.Int64 x) = refl
truth-yes (cell.UInt32 x) = refl
truth-yes (cell.UInt64 x) = refl
truth-yes (cell.String x) = refl
truth-yes (cell.Binary x) = refl
truth-yes (cell.Int128 x) = refl

-- both parts of an `And` are true where it is
pub and-passes : (a b : Formula) (schema : List Field) (row : Row) → passes (And a b) schema row ≡ (passes a schema row && passes b schema row)
and-passes a b schema row =
    let x = value_of a schema row in
    let y = value_of b schema row in
    cell-yes (both (truth_of x) (truth_of y)) ∙ both-yes (truth_of x) (truth_of y)
    ∙ ap (λ t. t && is_yes (truth_of y)) (truth-yes x) ∙ ap (λ t. is_true_cell x && t) (truth-yes y)

pub all-append : {X : Type 0} (test : X → Bool) (a b : List X) → list_all test (a ++ b) ≡ (list_all test a && list_all test b)
all-append test [] b = refl
all-append test (x ∷ a) b =
    ap (λ t. test x && t) (all-append test a b)
    ∙ elim (test x) as (λ t. (t && (list_all test a && list_all test b)) ≡ ((t && list_all test a) && list_all test b)) [ true ↦ refl | false ↦ refl ]

alone : (b : Bool) → b ≡ (b && true)
alone true = refl
alone false = refl

pub each-passes : (f : Formula) (schema : List Field) (row : Row) → passes f schema row ≡ passes_each (conjuncts_of f) schema row
each-passes (And a b) schema row =
    and-passes a b schema row
    ∙ ap (λ t. t && passes b schema row) (each-passes a schema row)
    ∙ ap (λ t. passes_each (conjuncts_of a) schema row && t) (each-passes b schema row)
    ∙ sym (all-append (passes_one schema row) (conjuncts_of a) (conjuncts_of b))
each-passes (Column name) schema row = alone (passes (Column name) schema row)
each-passes (Literal t value) schema row = alone (passes (Literal t value) schema row)
each-passes (Add a b) schema row = alone (passes (Add a b) schema row)
each-passes (Sub a b) schema row = alone (passes (Sub a b) schema row)
each-passes (Mul a b) schema row = alone (passes (Mul a b) schema row)
each-passes (Eq a b) schema row = alone (passes (Eq a b) schema row)
each-passes (NotEq a b) schema row = alone (passes (NotEq a b) schema row)
each-passes (Lt a b) schema row = alone (passes (Lt a b) schema row)
each-passes (LtEq a b) schema row = alone (passes (LtEq a b) schema row)
each-passes (Gt a b) schema row = alone (passes (Gt a b) schema row)
each-passes (GtEq a b) schema row = alone (passes (GtEq a b) schema row)
each-passes (Or a b) schema row = alone (passes (Or a b) schema row)
each-passes (Not a) schema row = alone (passes (Not a) schema row)
each-passes (IsNull a) schema row = alone (passes (IsNull a) schema row)
each-passes (IsNotNull a) schema row = alone (passes (IsNotNull a) schema row)

pub conjuncts-filter : ConjunctsFilter
conjuncts-filter f schema rows = filter-same (passes f schema) (passes_each (conjuncts_of f) schema) rows (all-always _ (each-passes f schema) rows)
