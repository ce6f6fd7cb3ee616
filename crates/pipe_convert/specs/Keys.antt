-- The keys of a join's side.
use Rattle.std.specs.Prelude.{List}
use Rattle.std.specs.List.{AllByRecursion}
use Rattle.pipe_schema.specs.declared.field.Field.{Field}
use Rattle.pipe_expr.specs.Formula.{Formula}
use Rattle.pipe_expr.specs.Typing.{IsTyped}

-- keys that have types over a schema
abbrev pub IsKey : List Field → Formula → Type 0
IsKey schema formula = IsTyped formula schema

abbrev pub AreKeys : List Field → List Formula → Type 0
AreKeys schema formulas = AllByRecursion (IsKey schema) formulas
