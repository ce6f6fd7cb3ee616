use Rattle.std.proofs.Common.{refl}
use Rattle.pipe_convert.proofs.scan.scan_source.Goals as goal

pub returns : goal.returns
returns c =
    let made = c.in_ok-frame.ensures in
    rw c.from_df.ensures (record { whole = refl; gives_output = made.gives_output; rows = made.rows })
