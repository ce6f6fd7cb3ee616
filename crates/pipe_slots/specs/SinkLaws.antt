-- A sink ends alike, in whatever order its rows came.
use Rattle.std.proofs.Common.{List}
use Rattle.pipe_schema.specs.Rows.{Row, Same}
use Rattle.pipe_schema.proofs.Weights.{SameBag-from_rows, SameBag-sym, SameBag-trans, Same-from_bag}
use Rattle.pipe_source.specs.OrderedLaws as ordered
use Rattle.pipe_sort.specs.SortLaws as sorts
use Rattle.pipe_slots.specs.Sinks.{SinkSetting, OrderedBy, SortedBy, BuiltBy, CrossedBy, may_end}

same_bag : (a b rows : List Row) → Same a b → Same a rows → Same b rows
same_bag a b rows h k = Same-from_bag (SameBag-trans (SameBag-sym (SameBag-from_rows h)) (SameBag-from_rows k))

pub any_order : {H : Type 0} (s : SinkSetting H) (a b rows : List Row) → Same a b → may_end s a rows → may_end s b rows
any_order (OrderedBy schema) a b rows h ends = ordered.any_order schema a b rows h ends
any_order (SortedBy settings) a b rows h ends = sorts.any_order settings a b rows h ends
any_order (BuiltBy setting) a b rows h ends = same_bag a b rows h ends
any_order (CrossedBy setting) a b rows h ends = same_bag a b rows h ends
