use Rattle.pipe_optimize.proofs.Shared.{all-existing}
use Rattle.pipe_optimize.proofs.narrowing.narrow_pairs.Goals as goal

pub returns-then-has_renamed : goal.returns-then-has_renamed
returns-then-has_renamed c = all-existing c.args.names.now c.args.pairs c.as_slice.result.now c.has_renamed.result c.if-has_renamed.true c.has_renamed.ensures c.as_slice.ensures
