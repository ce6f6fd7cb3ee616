use Rattle.std.proofs.Common.{◌≡◌, ◌+◌, suc, map, take, subst, arith}
use Rattle.serde_json.specs.Written.{WritesValue}
use Rattle.pipe_value.specs.Columns.{text_data}
use Rattle.pipe_spell.specs.Written.{HasWritten}
use Rattle.pipe_spell.proofs.Fronts.{all_written, one_written}
use Rattle.pipe_spell.proofs.writing.write_texts.Goals as goal

pub loop-i-preserved : goal.loop-i-preserved
loop-i-preserved c =
    let i = c.loop-i.i in
    let old = c.args.out.now in
    let mid = c.loop-i.out in
    let new = c.write_text.new.out in
    let w = c.in_ok-write_text.ensures in
    let next : suc i ≡ i + 1 = omega arith in
    subst (λ n. HasWritten (map text_data (take n c.args.column.now)) old new) next
    (one_written text_data c.args.column.now i old mid new (omega arith) c.loop-i.invariant
    (subst (λ x. WritesValue (text_data x) mid.tokens new.tokens) c.get.ensures w.ok) w.printable w.before)

pub returns-clause-ok : goal.returns-clause-ok
returns-clause-ok c = (all_written text_data c.args.column.now c.loop-i.i c.args.out.now c.loop-i.out (omega arith) c.loop-i.invariant).front
