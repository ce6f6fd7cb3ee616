use Rattle.std.proofs.Common.{◌≡◌, ◌∙◌, ap, length, arith}
use Rattle.pipe_column.specs.Series.{Cells}
use Rattle.pipe_source.proofs.ColumnsAt.{column-at, whole-height}
use Rattle.pipe_source.proofs.named.named_column.Goals as goal

pub take-requires : goal.take-requires
take-requires c =
    let even : length c.column_named.result.now.cells ≡ length c.args.frame.now.rows =
    ap (λ (x : Cells). length x.cells) c.column_named.ensures ∙ whole-height c.args.frame.now c.args.name.now in
    λ k d less. (let known = c.requires.there k d less in omega (arith, known, even))

pub returns : goal.returns
returns c =
    column-at c.args.frame.now c.args.rows.now c.args.name.now c.column_named.result.now _ c.column_named.ensures c.in_ok-take.ensures
