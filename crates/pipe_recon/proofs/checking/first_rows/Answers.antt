use Rattle.std.proofs.Common.{◌≡◌, ◌+◌, ◌-◌, arith, rules, Some}
use Rattle.std.specs.Prelude.{slice_index_or, None}
use Rattle.pipe_recon.proofs.FirstRows.{all_rows, row_put}
use Rattle.pipe_recon.proofs.checking.first_rows.Goals as goal

pub loop-i-preserved-in_ok-insert : goal.loop-i-preserved-in_ok-insert
loop-i-preserved-in_ok-insert c =
    let next : c.loop-i.i ≡ (c.loop-i.i - 1) + 1 = omega (arith, c.loop-i-test.true) in
    let here : slice_index_or c.args.codes.now (c.loop-i.i - 1) None ≡ Some c.in-Some.bytes.now = search rules in
    record {
      inside = omega (arith, c.loop-i.invariant.inside);
      rows = row_put c.loop-i.i (c.loop-i.i - 1) c.args.codes.now c.in-Some.bytes.now c.loop-i.rows c.insert.new.self next c.loop-i.invariant.inside here c.in_ok-insert.ensures.updates c.loop-i.invariant.rows;
    }

pub returns : goal.returns
returns c = λ bytes. all_rows c.loop-i.i c.args.codes.now c.loop-i.rows bytes (omega (arith, c.loop-i-test.false)) c.loop-i.invariant.rows
