use Rattle.pipe_recon.proofs.KeyColumns.{keys_encoded, keys_typed, some_column}
use Rattle.pipe_recon.proofs.codes.encoded_keys.Goals as goal

pub returns-clause-keys : goal.returns-clause-keys
returns-clause-keys c =
    let some = some_column c.args.frame.now c.in_ok-keys.keys c.args.on.now c.get_columns.result.now c.requires c.in_ok-keys.ensures c.get_columns.ensures.width in
    keys_encoded c.args.frame.now c.in_ok-keys.keys c.args.on.now c.get_columns.result.now c.in_ok-encoded.encoded c.in_ok-encoded.ensures.rows c.in_ok-keys.ensures some c.get_columns.ensures.rows c.get_columns.ensures.even

pub returns-clause-typed : goal.returns-clause-typed
returns-clause-typed c =
    let some = some_column c.args.frame.now c.in_ok-keys.keys c.args.on.now c.get_columns.result.now c.requires c.in_ok-keys.ensures c.get_columns.ensures.width in
    keys_typed c.args.frame.now c.in_ok-keys.keys c.args.on.now c.get_columns.result.now c.in_ok-encoded.ensures.cells c.get_columns.ensures.columns c.in_ok-keys.ensures some c.get_columns.ensures.rows c.get_columns.ensures.even
