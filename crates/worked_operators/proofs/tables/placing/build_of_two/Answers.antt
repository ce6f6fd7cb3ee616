use Rattle.std.proofs.Common.{◌≡◌, ◌≤◌, length, ap, arith}
use Rattle.pipe_table.specs.Kept.{build_rows}
use Rattle.worked_operators.proofs.Halves.{few_of_one}
use Rattle.worked_operators.proofs.tables.placing.build_of_two.Goals as goal

pub combine-requires-clause-room : goal.combine-requires-clause-room
combine-requires-clause-room c =
    let one = few_of_one c.add_chunk.new.self c.in_ok-build.build c.new-2.result.frame.rows c.args.first.rows c.in_ok-add_chunk.ensures.added
    (ap build_rows c.in_ok-build.ensures) (ap (λ k. k.frame.rows) c.new-2.ensures) c.requires.few in
    let other = few_of_one c.add_chunk-2.new.self c.in_ok-other.other c.new-3.result.frame.rows c.args.second.rows c.in_ok-add_chunk-2.ensures.added
    c.in_ok-other.ensures.empty (ap (λ k. k.frame.rows) c.new-3.ensures) c.requires.others in
    omega (arith, one, other)
