use Rattle.std.proofs.Common.{◌≡◌, ◌<◌, ◌+◌, ◌∙◌, sym, ap, subst, length, map, All, arith}
use Rattle.std.specs.List.{AllByRecursion}
use Rattle.pipe_schema.specs.declared.data_type.DataType.{DataType}
use Rattle.pipe_expr.specs.Projections.{on_type}
use Rattle.pipe_source.specs.Lent.{lent, whole_column, HasCells}
use Rattle.pipe_source.proofs.Ranges.{repeated-below}
use Rattle.pipe_source.proofs.UnpivotColumns.{known-apart, lent-cells, first-type, assembled}
use Rattle.pipe_source.proofs.unpivoted.unpivoted_columns.Goals as goal

pub columns_named-requires : goal.columns_named-requires
columns_named-requires c = (known-apart c.args.frame.now.schema c.args.on.now c.args.index.now c.requires.reads.known).0

pub named_columns-requires-clause-known : goal.named_columns-requires-clause-known
named_columns-requires-clause-known c = (known-apart c.args.frame.now.schema c.args.on.now c.args.index.now c.requires.reads.known).1

pub named_columns-requires-clause-there : goal.named_columns-requires-clause-there
named_columns-requires-clause-there c =
    subst (All (λ i. i < length c.args.frame.now.rows)) (sym (c.as_slice.ensures.value ∙ c.in_ok-places.ensures)) (repeated-below (length c.args.on.now) c.args.from c.args.count (length c.args.frame.now.rows) c.requires.there)

pub flattened-requires-clause-few : goal.flattened-requires-clause-few
flattened-requires-clause-few c = omega (arith, c.requires.there, c.requires.size)

pub flattened-requires-clause-there : goal.flattened-requires-clause-there
flattened-requires-clause-there c =
    let frame = c.args.frame.now in
    let on = c.args.on.now in
    let end = c.args.from + c.args.count in
    let columns = c.as_slice-2.result.now in
    let chosen : map lent columns ≡ map (whole_column frame) on = ap (map lent) c.as_slice-2.ensures.value ∙ c.in_ok-chosen.ensures in
    let type : c.dtype-dtype.result ≡ on_type frame.schema on =
    c.dtype-dtype.ensures ∙ first-type frame on c.in_ok-chosen.chosen.items c.index.result.now c.requires.reads.some c.in_ok-chosen.ensures c.index.ensures in
    subst (λ (t : DataType). AllByRecursion (HasCells t end) columns) (sym type) (lent-cells frame (on_type frame.schema on) end on columns chosen c.requires.reads.typed c.requires.there)

pub returns : goal.returns
returns c =
    let frame = c.args.frame.now in
    let on = c.args.on.now in
    let columns = c.as_slice-2.result.now in
    let chosen : map lent columns ≡ map (whole_column frame) on = ap (map lent) c.as_slice-2.ensures.value ∙ c.in_ok-chosen.ensures in
    let type : c.dtype-dtype.result ≡ on_type frame.schema on =
    c.dtype-dtype.ensures ∙ first-type frame on c.in_ok-chosen.chosen.items c.index.result.now c.requires.reads.some c.in_ok-chosen.ensures c.index.ensures in
    assembled on c.args.index.now c.args.variable.now c.args.value.now c.in_ok-try_clone.field-0 c.in_ok-name.name frame c.args.from c.args.count c.as_slice.result.now c.dtype-dtype.result columns c.in_ok-columns.columns.items c.push.new.self.items c.push-2.new.self.items c.in_ok-names.names c.in_ok-values.values
    (c.as_slice.ensures.value ∙ c.in_ok-places.ensures)
    chosen c.in_ok-columns.ensures c.in_ok-try_clone.ensures c.in_ok-name.ensures type c.in_ok-names.ensures c.in_ok-values.ensures c.in_ok-push.ensures.items c.in_ok-push-2.ensures.items
