use Rattle.std.proofs.Common.{◌*◌, ◌<◌, length, ap, arith, rules}
use Rattle.pipe_source.proofs.CutLemmas.{cut_length, frame_gives}
use Rattle.pipe_source.proofs.frame_source.DataFrameSource.next_chunks.Goals as goal

pub overflow_add-next_index : goal.overflow_add-next_index
overflow_add-next_index c =
    let most = cut_length (4 * c.args.context.now.workers) c.args.context.now.chunk_rows c.args.next_index.now 0 c.args.self.now.from c.args.self.now.schema c.args.self.now.rows in
    omega (arith, most, ap length c.in_ok-made.ensures, c.requires, c.len.ensures)

pub returns-clause-gives : goal.returns-clause-gives
returns-clause-gives c =
    let long : 0 < length c.in_ok-made.made.items = search rules in
    let g = frame_gives (4 * c.args.context.now.workers) c.args.context.now.chunk_rows c.args.next_index.now c.args.self.now c.advance.new.self c.in_ok-made.made.items (omega (arith, c.args.context.now.workers_in)) c.in_ok-made.ensures long c.advance.ensures in
    record { chunks = g.0; some = long; left = g.1 }
