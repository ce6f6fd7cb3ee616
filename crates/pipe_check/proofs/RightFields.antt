-- The right columns that the code keeps are those of the join.
use Rattle.std.proofs.Common.{◌≡◌, ℕ, List, ◌++◌, map, filter, ap, ◌∙◌}
use Rattle.pipe_schema.specs.declared.field.Field.{Field}
use Rattle.pipe_expr.specs.Formula.{Formula}
use Rattle.pipe_expr.specs.Joins.{column_names, pair_fields}
use Rattle.pipe_plan.specs.Schemas.{join_over}
use Rattle.pipe_check.specs.Sides.{is_kept_by, suffixed_by}
use Rattle.pipe_plan.specs.declared.ir.JoinOptions.{JoinOptions}

pub right_fields : (left right : List Field) (left_on right_on : List Formula) (options : JoinOptions) (keys : List (List ℕ)) (columns old fields : List Field) → fields ≡ old ++ map (suffixed_by columns options.suffix) (filter (is_kept_by keys options) right) → old ≡ left → columns ≡ left → keys ≡ column_names right_on → fields ≡ pair_fields (join_over left right left_on right_on options)
right_fields left right left_on right_on options keys columns old fields pushed copied named dropped =
    pushed
    ∙ ap (λ o. o ++ map (suffixed_by columns options.suffix) (filter (is_kept_by keys options) right)) copied
    ∙ ap (λ l. left ++ map (suffixed_by l options.suffix) (filter (is_kept_by keys options) right)) named
    ∙ ap (λ k. left ++ map (suffixed_by left options.suffix) (filter (is_kept_by k options) right)) dropped
