-- The six comparisons, as tests of an order.
use Rattle.std.specs.Prelude.{Bool}
use Rattle.std.specs.Ordering.{is_eq, is_ne, is_lt, is_le, is_gt, is_ge}
use Rattle.std.specs.declared.cmp.Ordering.{Ordering}
use Rattle.pipe_pairs.specs.declared.comparison.Comparison.{Comparison}
use Rattle.pipe_pairs.specs.declared.comparison.Comparison.TheVariants as comparison

-- whether a comparison holds of two values that stand in an order
abbrev pub holds_of : Comparison → Ordering → Bool
holds_of comparison.Eq = is_eq
holds_of comparison.NotEq = is_ne
holds_of comparison.Lt = is_lt
holds_of comparison.LtEq = is_le
holds_of comparison.Gt = is_gt
holds_of comparison.GtEq = is_ge
