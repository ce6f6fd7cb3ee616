use Rattle.std.proofs.Common.{◌+◌, ◌∙◌, ap, length, arith}
use Rattle.pipe_source.specs.Cutting.{next_size}
use Rattle.pipe_source.proofs.Turned.{begun-by, covers-within, covers-adjoin, goes-on, answer-last, answer-more}
use Rattle.pipe_source.proofs.function.FunctionOperator.unpivot_turn.Goals as goal

pub unpivoted_part-requires-2-clause-there : goal.unpivoted_part-requires-2-clause-there
unpivoted_part-requires-2-clause-there c =
    let begun = begun-by c.args.self.now.function c.args.self.now.cutting.size c.height-height.result (length c.args.chunk.now.frame.rows) c.args.self.now.cutting.pieces.items _ c.in_ok-from.field-0 (c.in-Some.from, c.in-Some.count) c.requires.unpivot c.requires.fits c.height-height.ensures c.in_ok-from.ensures.first c.in-Some.is in
    covers-within (c.in-Some.from + c.in-Some.count) (length c.args.chunk.now.frame.rows) _ begun.covers.2

pub adapt-requires : goal.adapt-requires
adapt-requires c =
    let begun = begun-by c.args.self.now.function c.args.self.now.cutting.size c.height-height.result (length c.args.chunk.now.frame.rows) c.args.self.now.cutting.pieces.items _ c.in_ok-from.field-0 (c.in-Some.from, c.in-Some.count) c.requires.unpivot c.requires.fits c.height-height.ensures c.in_ok-from.ensures.first c.in-Some.is in
    covers-adjoin (c.in-Some.from + c.in-Some.count) (length c.args.chunk.now.frame.rows) _ begun.covers.2 (omega (arith, c.requires.size))

pub returns-then-is_done-clause-turns : goal.returns-then-is_done-clause-turns
returns-then-is_done-clause-turns c =
    let goes = goes-on c.args.self.now.function c.args.self.now.workers c.args.self.now.cutting.size c.height-height.result c.height.result c.width.result c.determine_chunk_size-aim.result c.adapt.new.self.size c.args.chunk.now c.args.self.now.cutting.pieces.items _ c.adapt.new.self.pieces.items c.in_ok-from.field-0 (c.in-Some.from, c.in-Some.count) c.in_ok-made-2.made c.with_data-piece.result c.requires.unpivot c.height-height.ensures c.in_ok-from.ensures.first c.in-Some.is c.in_ok-made-2.ensures c.height.ensures c.width.ensures c.determine_chunk_size-aim.ensures c.with_data-piece.ensures (c.adapt.ensures.size ∙ ap (λ k. next_size k c.height.result c.height-height.result c.determine_chunk_size-aim.result) c.in_ok-from.ensures.size) c.adapt.ensures.pieces in
    record {
      answer_is = answer-last c.adapt.new.self.pieces.items c.with_data-piece.result c.is_done.result c.is_done.ensures c.if-is_done.true ∙ goes.answered;
      size_is = goes.sized;
      left_is = goes.leaves;
    }

pub returns-else-is_done-clause-turns : goal.returns-else-is_done-clause-turns
returns-else-is_done-clause-turns c =
    let goes = goes-on c.args.self.now.function c.args.self.now.workers c.args.self.now.cutting.size c.height-height.result c.height.result c.width.result c.determine_chunk_size-aim.result c.adapt.new.self.size c.args.chunk.now c.args.self.now.cutting.pieces.items _ c.adapt.new.self.pieces.items c.in_ok-from.field-0 (c.in-Some.from, c.in-Some.count) c.in_ok-made-2.made c.with_data-piece.result c.requires.unpivot c.height-height.ensures c.in_ok-from.ensures.first c.in-Some.is c.in_ok-made-2.ensures c.height.ensures c.width.ensures c.determine_chunk_size-aim.ensures c.with_data-piece.ensures (c.adapt.ensures.size ∙ ap (λ k. next_size k c.height.result c.height-height.result c.determine_chunk_size-aim.result) c.in_ok-from.ensures.size) c.adapt.ensures.pieces in
    record {
      answer_is = answer-more c.adapt.new.self.pieces.items c.with_data-piece.result c.is_done.result c.is_done.ensures c.if-is_done.false ∙ goes.answered;
      size_is = goes.sized;
      left_is = goes.leaves;
    }
