use Rattle.std.proofs.Common.{arith}
use Rattle.pipe_chain.proofs.ClaimSteps.{opens}
use Rattle.pipe_chain.proofs.claims.Claims.new.Goals as goal

pub of_words-requires : goal.of_words-requires
of_words-requires c = opens c.args.seats (omega arith)
