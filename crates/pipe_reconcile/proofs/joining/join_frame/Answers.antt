use Rattle.pipe_reconcile.proofs.Running.{schema_told, within_told}
use Rattle.pipe_plan.specs.Plan.{plan_of}
use Rattle.pipe_reconcile.proofs.joining.join_frame.Goals as goal

pub returns-clause-schema : goal.returns-clause-schema
returns-clause-schema g c = schema_told c.run_join.result (plan_of c.in_ok-arena.arena) c.args.lefts c.args.rights c.run_join.ensures.schema c.in_ok-arena.ensures.plan

pub returns-clause-within : goal.returns-clause-within
returns-clause-within g c = within_told c.run_join.result c.args.config.now.row_limit (plan_of c.in_ok-arena.arena) c.args.lefts c.args.rights c.run_join.ensures.within c.in_ok-arena.ensures.plan
