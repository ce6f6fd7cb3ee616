use Rattle.std.proofs.Common.{rules, ◌≡◌, ◌*◌, ◌∙◌, List, ℕ, length, ap, sym, subst, arith}
use Rattle.std.specs.Vec.{with_items}
use Rattle.pipe_column.specs.Columns.{height_of}
use Rattle.pipe_rows.specs.Dense.{Filled}
use Rattle.pipe_rows.specs.Encoded.{unmarked}
use Rattle.pipe_rows.specs.Encodings.{AreTypedRows}
use Rattle.pipe_rows.proofs.DenseLemmas.{dense_rows, vector_written}
use Rattle.pipe_rows.proofs.dense.encode_dense.Goals as goal

pub returns : goal.returns
returns c =
    let n : ℕ = c.len-height.result in
    let high : c.len-height.result ≡ height_of c.args.columns.now = search rules in
    let back = vector_written c.in_ok-bytes.bytes c.write_columns-written.new.bytes (c.write_columns-written.ensures.long ∙ ap length c.deref_mut.ensures.value) in
    let P : List ℕ → Type 0 = λ l. Filled c.args.encodings.now c.args.columns.now c.len-height.result c.in_ok-width.width l in
    let filled = subst P (sym back) (c.write_columns-written.ensures.filled c.if-not-written.false) in
    let Q : ℕ → Type 0 = λ h. AreTypedRows c.args.columns.now h in
    (c.in_ok-rows.ensures ∙ dense_rows c.args.encodings.now c.args.columns.now n c.in_ok-width.width _ filled high, subst Q high filled.cells)
