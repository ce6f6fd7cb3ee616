use Rattle.std.proofs.Common.{ap, refl, ◌∙◌}
use Rattle.pipe_driver.specs.Branches.{is_scan}
use Rattle.pipe_convert.proofs.source.source_at.Goals as goal

pub node_frame-requires-clause-scan : goal.node_frame-requires-clause-scan
node_frame-requires-clause-scan c = ap is_scan c.numbered.ensures ∙ c.requires.scan

pub returns-clause-source : goal.returns-clause-source
returns-clause-source c =
    let made = c.in_ok-frame.ensures in
    rw c.from_df.ensures (rw c.in_ok-shared.ensures (record { whole = refl; gives_output = made.gives_output; rows = made.rows }))
