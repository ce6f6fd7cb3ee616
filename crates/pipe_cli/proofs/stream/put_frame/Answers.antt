use Rattle.std.proofs.Common.{rules}
use Rattle.pipe_cli.proofs.BlockWriting.{always_err, blocks_failed, head_failed, no_memory}
use Rattle.pipe_cli.proofs.stream.put_frame.Goals as goal

pub returns-in_err-head-clause-front : goal.returns-in_err-head-clause-front
returns-in_err-head-clause-front g c =
    always_err _ _ (no_memory c.args.frame.now c.args.block_rows (g.W.RowWriter.seen c.args.out.now))

pub returns-in_err-tell-clause-front : goal.returns-in_err-tell-clause-front
returns-in_err-tell-clause-front g c =
    always_err _ _ (head_failed c.args.frame.now c.args.block_rows c.as_slice.result.now (g.W.RowWriter.seen c.args.out.now) (g.W.RowWriter.seen c.tell.new.out) (search rules) (search rules))

pub returns-in-Err-PutFault-clause-front : goal.returns-in-Err-PutFault-clause-front
returns-in-Err-PutFault-clause-front g c =
    blocks_failed c.args.frame.now c.args.block_rows c.as_slice.result.now (g.W.RowWriter.seen c.args.out.now) (g.W.RowWriter.seen c.tell.new.out) (g.W.RowWriter.seen c.stream_frame.new.out) (search rules) (search rules) (search rules)

pub returns-clause-front : goal.returns-clause-front
returns-clause-front g c =
    blocks_failed c.args.frame.now c.args.block_rows c.as_slice.result.now (g.W.RowWriter.seen c.args.out.now) (g.W.RowWriter.seen c.tell.new.out) (g.W.RowWriter.seen c.stream_frame.new.out) (search rules) (search rules) (search rules)
