-- Which right columns a join keeps, and under which names, by the names of its left side and of its keys.
use Rattle.std.specs.Prelude.{◌≡◌, ℕ, List, ◌++◌, Bool, not, ◌&&◌, if◌then◌else◌}
use Rattle.pipe_schema.specs.Schema.{has_name, names_of}
use Rattle.pipe_schema.specs.declared.field.Field.{Field}
use Rattle.pipe_expr.specs.Formula.{Formula}
use Rattle.pipe_expr.specs.Joins.{coalesces, pair_fields, join_fields}
use Rattle.pipe_plan.specs.Schemas.{join_over}
use Rattle.pipe_plan.specs.declared.ir.JoinOptions.{JoinOptions}

abbrev pub is_kept_by : List (List ℕ) → JoinOptions → Field → Bool
is_kept_by keys options field =
    not (coalesces options.how options.coalesce && has_name keys field.name)

abbrev pub suffixed_by : List Field → List ℕ → Field → Field
suffixed_by left suffix field = record {
  name = if has_name (names_of left) field.name then field.name ++ suffix else field.name;
  dtype = field.dtype;
}

-- the fields of pairs of two sides, whatever the left keys
abbrev pub ArePaired : List Field → List Field → List Formula → JoinOptions → List Field → Type 0
ArePaired left right right_on options fields =
    (left_on : List Formula) → fields ≡ pair_fields (join_over left right left_on right_on options)

-- the fields of a join of two sides, whatever the left keys
abbrev pub AreJoined : List Field → List Field → List Formula → JoinOptions → List Field → Type 0
AreJoined left right right_on options fields =
    (left_on : List Formula) → fields ≡ join_fields (join_over left right left_on right_on options)
