use Rattle.std.proofs.Common.{◌∙◌}
use Rattle.pipe_source.proofs.RenamedColumns.{renamed-table}
use Rattle.pipe_source.proofs.renamed.renamed_df.Goals as goal

pub frame_of-requires-clause-fields : goal.frame_of-requires-clause-fields
frame_of-requires-clause-fields c =
    (renamed-table c.args.pairs.now c.args.frame.now c.get_columns.result.now c.in_ok-columns.columns.items c.in_ok-columns.ensures c.get_columns.ensures.columns c.get_columns.ensures.width c.get_columns.ensures.rows c.get_columns.ensures.even c.requires).good

pub frame_of-requires-clause-even : goal.frame_of-requires-clause-even
frame_of-requires-clause-even c =
    (renamed-table c.args.pairs.now c.args.frame.now c.get_columns.result.now c.in_ok-columns.columns.items c.in_ok-columns.ensures c.get_columns.ensures.columns c.get_columns.ensures.width c.get_columns.ensures.rows c.get_columns.ensures.even c.requires).even

pub returns : goal.returns
returns c =
    c.in_ok-frame_of.ensures
    ∙ (renamed-table c.args.pairs.now c.args.frame.now c.get_columns.result.now c.in_ok-columns.columns.items c.in_ok-columns.ensures c.get_columns.ensures.columns c.get_columns.ensures.width c.get_columns.ensures.rows c.get_columns.ensures.even c.requires).whole
