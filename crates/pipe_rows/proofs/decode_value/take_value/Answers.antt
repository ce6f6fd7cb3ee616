use Rattle.std.proofs.Common.{sym, subst}
use Rattle.pipe_schema.specs.declared.data_type.DataType.{DataType}
use Rattle.pipe_rows.specs.Decoding.{FindsValue}
use Rattle.pipe_rows.proofs.NativeLemmas.{finds_int128}
use Rattle.pipe_rows.proofs.decode_value.take_value.Goals as goal

pub returns-in-Int128 : goal.returns-in-Int128
returns-in-Int128 c =
    let P : DataType → Type 0 = λ t. FindsValue t c.args.descending c.args.rest.now c.take_native-in-Int128.result in
    subst P (sym c.in-Int128.is) (finds_int128 c.args.descending c.args.rest.now c.take_native-in-Int128.result c.take_native-in-Int128.ensures)
