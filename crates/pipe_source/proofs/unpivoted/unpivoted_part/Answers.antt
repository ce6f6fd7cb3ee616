use Rattle.std.proofs.Common.{◌∙◌}
use Rattle.pipe_source.proofs.UnpivotColumns.{reads-of, unpivoted-by}
use Rattle.pipe_source.proofs.unpivoted.unpivoted_part.Goals as goal

pub unpivoted_columns-requires-clause-reads : goal.unpivoted_columns-requires-clause-reads
unpivoted_columns-requires-clause-reads c =
    reads-of c.args.function.now _ _ _ _ _ _ c.args.frame.now.schema c.in-Unpivot.is c.as_slice-on.ensures c.as_slice-index.ensures c.requires.applies

pub frame_of-requires-clause-fields : goal.frame_of-requires-clause-fields
frame_of-requires-clause-fields c =
    (unpivoted-by c.args.function.now _ _ _ _ _ _ c.args.frame.now c.args.from c.args.count c.in_ok-columns-in-Unpivot.columns.items c.in-Unpivot.is c.as_slice-on.ensures c.as_slice-index.ensures c.in_ok-columns-in-Unpivot.ensures c.requires.there c.requires.applies).good

pub frame_of-requires-clause-even : goal.frame_of-requires-clause-even
frame_of-requires-clause-even c =
    (unpivoted-by c.args.function.now _ _ _ _ _ _ c.args.frame.now c.args.from c.args.count c.in_ok-columns-in-Unpivot.columns.items c.in-Unpivot.is c.as_slice-on.ensures c.as_slice-index.ensures c.in_ok-columns-in-Unpivot.ensures c.requires.there c.requires.applies).even

pub returns : goal.returns
returns c =
    c.in_ok-frame_of-in-Unpivot.ensures
    ∙ (unpivoted-by c.args.function.now _ _ _ _ _ _ c.args.frame.now c.args.from c.args.count c.in_ok-columns-in-Unpivot.columns.items c.in-Unpivot.is c.as_slice-on.ensures c.as_slice-index.ensures c.in_ok-columns-in-Unpivot.ensures c.requires.there c.requires.applies).whole
