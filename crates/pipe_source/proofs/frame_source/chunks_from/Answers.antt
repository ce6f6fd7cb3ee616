use Rattle.std.proofs.Common.{◌≡◌, ◌∙◌, List, ◌+◌, ap, arith}
use Rattle.std.proofs.lemmas.List.{drop_all}
use Rattle.pipe_frame.specs.Frame.{Table}
use Rattle.pipe_frame.specs.declared.chunk.DataChunk.{DataChunk}
use Rattle.pipe_schema.specs.declared.field.Field.{Field}
use Rattle.pipe_source.proofs.CutLemmas.{cut_on, cut_end}
use Rattle.pipe_source.proofs.frame_source.chunks_from.Goals as goal

pub returns-then-at-height : goal.returns-then-at-height
returns-then-at-height c =
    let out = drop_all c.loop-i.at c.args.frame.now.rows (omega arith) in
    cut_end _ _ _ _ _ _ _ _ _ c.loop-i.invariant.rest out

pub loop-i-preserved : goal.loop-i-preserved
loop-i-preserved c =
    let known = c.loop-i.invariant in
    let framed : c.in_ok-part.part ≡ record { schema = c.args.frame.now.schema; rows = c.in_ok-part.part.rows } =
    ap (λ (s : List Field). record { schema = s; rows = c.in_ok-part.part.rows }) (ap (λ (t : Table). t.schema) c.in_ok-part.ensures)
    in
    record {
      less = omega arith;
      rest = cut_on c.args.many c.loop-i.i c.args.size c.args.index 0 c.args.frame.now.schema c.loop-i.at c.min-width.result c.args.frame.now.rows c.in_ok-part.part.rows c.loop-i.chunks.items _ _ record { chunk = c.new.result; part = 0; from = c.loop-i.at } c.loop-i-test.true (omega arith) (omega arith) (ap (λ (t : Table). t.rows) c.in_ok-part.ensures) (ap (λ (d : DataChunk). record { chunk = d; part = 0; from = c.loop-i.at }) (c.new.ensures ∙ ap (λ (t : Table). record { chunk_index = c.args.index + c.loop-i.i; frame = t }) framed)) c.in_ok-push.ensures.items known.rest;
    }
