-- The conjuncts of a predicate: its parts joined by `And` at the top.
use Rattle.std.specs.Prelude.{List, [], ◌∷◌, ◌++◌, Bool, filter}
use Rattle.std.specs.List.{list_all, flat_map}
use Rattle.pipe_schema.specs.Rows.{Row}
use Rattle.pipe_schema.specs.declared.field.Field.{Field}
use Rattle.pipe_expr.specs.Formula.{Formula, Column, Literal, Add, Sub, Mul, Eq, NotEq, Lt, LtEq, Gt, GtEq, And, Or, Not, IsNull, IsNotNull}
use Rattle.pipe_expr.specs.Projections.{passes}

-- the conjuncts, from left to right
abbrev pub conjuncts_of : Formula → List Formula
conjuncts_of (And left right) = conjuncts_of left ++ conjuncts_of right
conjuncts_of (Column name) = Column name ∷ []
conjuncts_of (Literal t value) = Literal t value ∷ []
conjuncts_of (Add left right) = Add left right ∷ []
conjuncts_of (Sub left right) = Sub left right ∷ []
conjuncts_of (Mul left right) = Mul left right ∷ []
conjuncts_of (Eq left right) = Eq left right ∷ []
conjuncts_of (NotEq left right) = NotEq left right ∷ []
conjuncts_of (Lt left right) = Lt left right ∷ []
conjuncts_of (LtEq left right) = LtEq left right ∷ []
conjuncts_of (Gt left right) = Gt left right ∷ []
conjuncts_of (GtEq left right) = GtEq left right ∷ []
conjuncts_of (Or left right) = Or left right ∷ []
conjuncts_of (Not inner) = Not inner ∷ []
conjuncts_of (IsNull inner) = IsNull inner ∷ []
conjuncts_of (IsNotNull inner) = IsNotNull inner ∷ []

-- the conjuncts of several predicates, one after another
abbrev pub all_conjuncts : List Formula → List Formula
all_conjuncts formulas = flat_map conjuncts_of formulas

-- whether a predicate is true at a row
abbrev pub passes_one : List Field → Row → Formula → Bool
passes_one schema row predicate = passes predicate schema row

-- whether each of some predicates is true at a row
abbrev pub passes_each : List Formula → List Field → Row → Bool
passes_each predicates schema row = list_all (passes_one schema row) predicates

-- the rows at which each of some predicates is true
abbrev pub filter_each : List Formula → List Field → List Row → List Row
filter_each predicates schema rows = filter (passes_each predicates schema) rows
