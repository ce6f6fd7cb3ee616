use Rattle.std.proofs.Common.{◌≡◌, ℕ, List, length, ap, ◌∙◌, subst, arith}
use Rattle.std.specs.Prelude.{Option}
use Rattle.std.specs.declared.vec.Vec.{Vec}
use Rattle.std.specs.declared.alloc.Global.{Global}
use Rattle.pipe_schema.specs.Rows.{Row}
use Rattle.pipe_column.specs.Series.{Cells}
use Rattle.pipe_schema.specs.declared.any_value.AnyValue.{AnyValue}
use Rattle.pipe_rows.specs.Decoding.{FindsRow, Encodes, pushed_row}
use Rattle.pipe_rows.proofs.RowLemmas.{holds_none, row_of_columns, holds_more, length-pushed, written_back}
use Rattle.pipe_rows.proofs.decode.decode_rows.Goals as goal

pub loop-i-init : goal.loop-i-init
loop-i-init c = rw c.in_ok-columns.ensures (holds_none c.args.fields.now c.args.dtypes.now c.args.rows.now)

pub push_row-requires : goal.push_row-requires
push_row-requires c =
    let P : Option (Vec AnyValue Global) → Type 0 = λ found. FindsRow c.args.fields.now c.args.dtypes.now c.row.result.now found in
    let found = subst P c.in-Some.is c.in_ok-row.ensures in
    rw c.deref_mut.ensures.value (row_of_columns c.args.fields.now c.args.dtypes.now c.args.rows.now c.loop-i.i c.loop-i.columns.items c.in-Some.row.items c.loop-i.invariant found.0)

pub loop-i-preserved : goal.loop-i-preserved
loop-i-preserved c =
    let P : Option (Vec AnyValue Global) → Type 0 = λ found. FindsRow c.args.fields.now c.args.dtypes.now c.row.result.now found in
    let found = subst P c.in-Some.is c.in_ok-row.ensures in
    let Q : List ℕ → Type 0 = λ bytes. Encodes c.args.fields.now c.args.dtypes.now c.in-Some.row.items bytes in
    let encodes = subst Q c.row.ensures found in
    let columns : List Cells = c.loop-i.columns.items in
    let row : Row = c.in-Some.row.items in
    let fits = row_of_columns c.args.fields.now c.args.dtypes.now c.args.rows.now c.loop-i.i columns row c.loop-i.invariant found.0 in
    let new : c.push_row.new.columns ≡ pushed_row columns row = c.in_ok-push_row.ensures ∙ ap (λ l. pushed_row l row) c.deref_mut.ensures.value in
    let wide : length (pushed_row columns row) ≡ length columns = length-pushed columns row fits in
    let long : length c.push_row.new.columns ≡ length columns = ap length new ∙ wide in
    let back = written_back columns c.push_row.new.columns c.loop-i.columns.len (omega arith) long in
    rw (back, new) (holds_more c.args.fields.now c.args.dtypes.now c.args.rows.now c.loop-i.i columns row c.loop-i.invariant encodes)
