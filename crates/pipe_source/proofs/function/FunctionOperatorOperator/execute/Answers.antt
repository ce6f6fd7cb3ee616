use Rattle.std.proofs.lemmas.Result.{IfOk-weaker}
use Rattle.pipe_source.proofs.Turned.{turned-pays, turned-fits, turned-answers}
use Rattle.pipe_source.proofs.function.FunctionOperatorOperator.execute.Goals as goal

pub returns-clause-gives : goal.returns-clause-gives
returns-clause-gives c =
    IfOk-weaker c.turn.result _ _ (λ r t. turned-pays c.args.self.now.function c.turn.new.self.function c.args.self.now.workers c.args.self.now.cutting.size c.args.self.now.cutting.pieces.items c.turn.new.self.cutting.pieces.items c.args.chunk.now r c.requires.takes c.requires.ready c.turn.ensures.function t.answer_is t.left_is) c.turn.ensures.turns

pub returns-clause-more : goal.returns-clause-more
returns-clause-more c =
    IfOk-weaker c.turn.result _ _ (λ r t more. turned-fits c.args.self.now.function c.turn.new.self.function c.args.self.now.workers c.args.self.now.cutting.size c.args.self.now.cutting.pieces.items c.turn.new.self.cutting.pieces.items c.args.chunk.now c.requires.takes c.requires.ready c.turn.ensures.function t.left_is) c.turn.ensures.turns

pub returns-clause-answers : goal.returns-clause-answers
returns-clause-answers c =
    IfOk-weaker c.turn.result _ _ (λ r t. turned-answers c.args.self.now c.turn.new.self c.args.chunk.now r t) c.turn.ensures.turns
