use Rattle.std.proofs.Common.{rules, ◌∙◌, ◌++◌, ◌≤◌, ◌+◌, List, ap, refl, length, drop, slice_index_or}
use Rattle.std.proofs.lemmas.List.{drop_all}
use Rattle.pipe_frame.specs.Frame.{Table}
use Rattle.pipe_source.specs.Runs.{cut_rows}
use Rattle.pipe_source.specs.declared.chunk_run.Piece.{Piece}
use Rattle.pipe_source.proofs.RunLemmas.{cut_begins, cut_here, cut_fits, cut_goes_on, cut_ends}
use Rattle.pipe_source.proofs.chunk_run.cut_pieces.Goals as goal

pub loop-piece-init : goal.loop-piece-init
loop-piece-init c = cut_begins c.args.frame.now.schema c.args.frame.now.rows c.args.pieces.now c.args.chunks.now.items c.requires

pub slice-requires : goal.slice-requires
slice-requires c =
    let i = c.loop-piece.piece-index in
    let pieces : List Piece = c.args.pieces.now in
    let piece : Piece = slice_index_or pieces i record { chunk_index = 0; height = 0 } in
    let goal_of = c.args.chunks.now.items ++ cut_rows c.args.frame.now.schema c.args.frame.now.rows c.args.pieces.now in
    let known = cut_here c.args.frame.now.schema c.args.frame.now.rows c.loop-piece.at i pieces record { chunk_index = 0; height = 0 } c.loop-piece.chunks.items goal_of c.loop-piece-test.true c.loop-piece.invariant in
    cut_fits c.args.frame.now.schema c.args.frame.now.rows c.loop-piece.at piece (drop (i + 1) pieces) c.loop-piece.chunks.items goal_of known

pub overflow_add-at : goal.overflow_add-at
overflow_add-at c =
    let i = c.loop-piece.piece-index in
    let pieces : List Piece = c.args.pieces.now in
    let piece : Piece = slice_index_or pieces i record { chunk_index = 0; height = 0 } in
    let goal_of = c.args.chunks.now.items ++ cut_rows c.args.frame.now.schema c.args.frame.now.rows c.args.pieces.now in
    let known = cut_here c.args.frame.now.schema c.args.frame.now.rows c.loop-piece.at i pieces record { chunk_index = 0; height = 0 } c.loop-piece.chunks.items goal_of c.loop-piece-test.true c.loop-piece.invariant in
    let fits : c.loop-piece.at + piece.height ≤ length c.args.frame.now.rows = cut_fits c.args.frame.now.schema c.args.frame.now.rows c.loop-piece.at piece (drop (i + 1) pieces) c.loop-piece.chunks.items goal_of known in
    search (rules, fits)

pub loop-piece-preserved : goal.loop-piece-preserved
loop-piece-preserved c =
    let i = c.loop-piece.piece-index in
    let pieces : List Piece = c.args.pieces.now in
    let piece : Piece = slice_index_or pieces i record { chunk_index = 0; height = 0 } in
    let goal_of = c.args.chunks.now.items ++ cut_rows c.args.frame.now.schema c.args.frame.now.rows c.args.pieces.now in
    let known = cut_here c.args.frame.now.schema c.args.frame.now.rows c.loop-piece.at i pieces record { chunk_index = 0; height = 0 } c.loop-piece.chunks.items goal_of c.loop-piece-test.true c.loop-piece.invariant in
    cut_goes_on c.args.frame.now.schema c.args.frame.now.rows c.loop-piece.at (c.loop-piece.at + piece.height) piece (drop (i + 1) pieces) c.loop-piece.chunks.items c.push.new.self.items goal_of c.new.result known refl
    (c.new.ensures ∙ ap (λ (t : Table). record { chunk_index = piece.chunk_index; frame = t }) c.in_ok-part.ensures) c.in_ok-push.ensures.items

pub returns : goal.returns
returns c = cut_ends c.args.frame.now.schema c.args.frame.now.rows c.loop-piece.at (drop c.loop-piece.piece-index c.args.pieces.now) c.loop-piece.chunks.items _ c.loop-piece.invariant (drop_all c.loop-piece.piece-index c.args.pieces.now (search rules))
