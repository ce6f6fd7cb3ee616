use Rattle.std.proofs.Common.{◌≡◌, None, map, take, drop}
use Rattle.pipe_schema.specs.Schema.{first_unknown}
use Rattle.pipe_source.specs.Lent.{lent, whole_column}
use Rattle.pipe_source.proofs.named.columns_named.Given as goal

abbrev pub invariant-loop-name : goal.invariant-loop-name
invariant-loop-name l = record {
  columns : map lent l.columns.items ≡ map (whole_column l.frame) (take l.name-index l.names);
  known : first_unknown l.frame.schema (drop l.name-index l.names) ≡ None;
}
