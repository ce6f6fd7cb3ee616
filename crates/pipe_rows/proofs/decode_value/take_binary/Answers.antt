use Rattle.std.proofs.Common.{subst}
use Rattle.std.specs.Prelude.{Option}
use Rattle.pipe_rows.specs.declared.decode_value.Unescaped.{Unescaped}
use Rattle.pipe_rows.specs.Ordered.{directed_bytes}
use Rattle.pipe_rows.specs.Decoding.{FindsText}
use Rattle.pipe_rows.proofs.BytesLemmas.{bytes_all}
use Rattle.pipe_rows.proofs.ValueLemmas.{binary_taken, binary_none}
use Rattle.pipe_rows.proofs.decode_value.take_binary.Goals as goal

pub returns-in-Some : goal.returns-in-Some
returns-in-Some c =
    let P : Option Unescaped → Type 0 = λ found. FindsText (directed_bytes c.args.descending c.args.rest.now) found in
    let taken = subst P c.in-Some.is c.in_ok-text.ensures in
    binary_taken c.args.descending c.args.rest.now c.in-Some.field-0.text.items c.in-Some.field-0.used c.binary_cell.result (bytes_all c.args.rest.now c.type_inv.rest) c.binary_cell.ensures.value c.binary_cell.ensures.range taken

pub returns-in-None : goal.returns-in-None
returns-in-None c =
    let P : Option Unescaped → Type 0 = λ found. FindsText (directed_bytes c.args.descending c.args.rest.now) found in
    binary_none c.args.descending c.args.rest.now (subst P c.in-None.is c.in_ok-text.ensures)
