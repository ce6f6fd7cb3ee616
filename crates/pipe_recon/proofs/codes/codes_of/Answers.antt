use Rattle.pipe_recon.proofs.KeyColumns.{codes_made}
use Rattle.pipe_recon.proofs.codes.codes_of.Goals as goal

pub returns-clause-codes : goal.returns-clause-codes
returns-clause-codes c =
    codes_made c.args.frame.now c.args.spec.now c.as_slice.result.now c.in_ok-keys.keys c.in_ok-codes.codes c.as_slice.ensures c.in_ok-keys.ensures.keys c.in_ok-codes.ensures
