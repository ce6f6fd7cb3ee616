use Rattle.pipe_source.proofs.Turned.{rename-goes}
use Rattle.pipe_source.proofs.function.FunctionOperator.turn.Goals as goal

pub returns-in_ok-made-in-Rename-clause-turns : goal.returns-in_ok-made-in-Rename-clause-turns
returns-in_ok-made-in-Rename-clause-turns c =
    let goes = rename-goes c.args.self.now.function _ c.as_slice.result.now c.args.self.now.workers c.args.self.now.cutting.size c.args.self.now.cutting.pieces.items c.args.chunk.now c.in_ok-made-in-Rename.made c.with_data.result c.in-Rename.is c.as_slice.ensures c.requires.fits c.in_ok-made-in-Rename.ensures c.with_data.ensures in
    record { answer_is = goes.answered; size_is = goes.sized; left_is = goes.leaves }
