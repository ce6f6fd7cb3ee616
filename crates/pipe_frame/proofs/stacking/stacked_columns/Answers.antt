use Rattle.std.proofs.Common.{rules, arith, ◌∙◌, ap, sym, Some}
use Rattle.std.specs.List.{flat_map}
use Rattle.std.proofs.lemmas.List.{take_all}
use Rattle.pipe_frame.specs.Chunks.{chunk_rows, chunks_table}
use Rattle.pipe_frame.specs.Frame.{columns_of}
use Rattle.pipe_frame.proofs.Stacks.{take_one_more, length-columns_of, slice_get-columns_of}
use Rattle.pipe_frame.proofs.Queues.{queues_begin, column_is, queues_left}
use Rattle.pipe_frame.proofs.stacking.stacked_columns.Goals as goal

pub next_column-requires : goal.next_column-requires
next_column-requires c = queues_begin c.args.schema.now c.loop-k.k c.field.result.now c.field.ensures c.args.chunks.items c.loop-k.queues.items c.requires c.loop-k.invariant.left

pub loop-k-preserved : goal.loop-k-preserved
loop-k-preserved c =
    let chunks = c.args.chunks.items in
    let all = columns_of (chunks_table c.args.schema.now chunks) in
    let is = column_is c.args.schema.now c.loop-k.k c.field.result.now c.field.ensures chunks c.loop-k.queues.items c.in_ok-column.column c.requires c.loop-k.invariant.left c.in_ok-column.ensures.column in
    record {
      made = take_one_more all c.loop-k.columns.items c.push.new.self.items c.loop-k.k c.in_ok-column.column c.loop-k.invariant.made (slice_get-columns_of c.args.schema.now (flat_map chunk_rows chunks) c.loop-k.k c.field.result.now (search rules) c.field.ensures ∙ ap Some (sym is)) c.in_ok-push.ensures.items;
      left = queues_left c.args.schema.now c.loop-k.k c.field.result.now c.field.ensures chunks c.loop-k.queues.items c.in_ok-column.left.items c.requires c.loop-k.invariant.left c.in_ok-column.ensures.left;
    }

pub returns : goal.returns
returns c = c.loop-k.invariant.made ∙ take_all c.loop-k.k (columns_of (chunks_table c.args.schema.now c.args.chunks.items)) (let n = length-columns_of (chunks_table c.args.schema.now c.args.chunks.items) in omega (arith, n))
