use Rattle.std.proofs.Common.{◌≡◌, None, map, take, drop}
use Rattle.pipe_schema.specs.Schema.{first_unknown}
use Rattle.pipe_source.specs.Unpivots.{column_at}
use Rattle.pipe_source.proofs.named.named_columns.Given as goal

abbrev pub invariant-loop-name : goal.invariant-loop-name
invariant-loop-name l = record {
  columns : l.columns.items ≡ map (column_at l.frame l.rows) (take l.name-index l.names);
  known : first_unknown l.frame.schema (drop l.name-index l.names) ≡ None;
}
