use Rattle.std.proofs.Common.{◌≡◌, map, take}
use Rattle.pipe_source.specs.Renamings.{renamed_column}
use Rattle.pipe_source.proofs.renamed.renamed_columns.Given as goal

abbrev pub invariant-loop-column : goal.invariant-loop-column
invariant-loop-column l = l.renamed.items ≡ map (renamed_column l.pairs) (take l.column-index l.columns)
