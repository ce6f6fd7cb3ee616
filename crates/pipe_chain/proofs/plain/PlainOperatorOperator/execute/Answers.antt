use Rattle.pipe_chain.proofs.PlainPays.{plain-gives, plain-memory}
use Rattle.pipe_chain.proofs.plain.PlainOperatorOperator.execute.Goals as goal

pub returns-clause-gives : goal.returns-clause-gives
returns-clause-gives g c =
    plain-gives (g.O.Operator.each c.args.self.now.operator) (g.O.Operator.rest c.args.self.now.operator) (g.O.Operator.rest c.execute.new.self) c.args.chunk.now.frame.schema c.args.shared.now c.args.chunk.now c.execute.result c.execute.ensures.gives

pub returns-clause-memory : goal.returns-clause-memory
returns-clause-memory g c = plain-memory c.execute.result _
