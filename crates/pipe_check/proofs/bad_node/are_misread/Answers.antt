use Rattle.std.proofs.Common.{◌≡◌, ◌+◌, ◌<◌, true, length, drop, get_or, ap, sym, ◌∙◌, arith}
use Rattle.std.proofs.lemmas.Bool.{lt-leb}
use Rattle.std.proofs.lemmas.List.{drop_more, length-set}
use Rattle.pipe_check.specs.Checking.{is_misread, is_read_after}
use Rattle.pipe_check.proofs.Marks.{marked_now, read_now}
use Rattle.pipe_check.proofs.bad_node.are_misread.Goals as goal

pub loop-input-preserved : goal.loop-input-preserved
loop-input-preserved c =
    let read = c.loop-input.read in
    let n = c.args.n in
    let xs = c.args.inputs.now in
    let i = c.loop-input.input-index in
    let x = get_or xs i 0 in
    let below : x < n = c.if-n-input.false in
    let sized : length read ≡ length c.args.read.now = c.loop-input.invariant.sized in
    let fits : x < length read = omega (arith, c.requires) in
    let more = drop_more xs i 0 c.loop-input-test.true in
    record {
      sized = length-set read x true ∙ sized;
      bad = marked_now read n x (drop (i + 1) xs) fits (lt-leb n x below) c.if-read-input.false ∙ ap (is_misread read n) (sym more) ∙ c.loop-input.invariant.bad;
      marked = λ j. read_now read x (drop (i + 1) xs) j fits ∙ ap (λ ys. is_read_after read ys j) (sym more) ∙ c.loop-input.invariant.marked j;
    }
