use Rattle.std.proofs.Common.{◌≡◌, ◌/◌, ◌∙◌, arith}
use Rattle.pipe_ops.specs.Offsets.{split_pieces}
use Rattle.pipe_ops.proofs.OffsetLemmas.{made-more, made-last, covers-split}
use Rattle.pipe_ops.proofs.offsets.split_offsets.Goals as goal

pub loop-preserved : goal.loop-preserved
loop-preserved c =
    let known = c.loop.invariant in
    record {
      made = rw c.in_ok-push_back.ensures.items (made-more c.loop.pieces.items (split_pieces c.args.len c.args.n) c.loop.at (c.args.len / c.args.n) c.loop.counter c.args.n c.args.len c.loop-test.true known.made);
      at = omega (arith, known.at);
      room = known.room;
      some = known.some;
    }

pub returns-clause-covers : goal.returns-clause-covers
returns-clause-covers c =
    let same : c.push_back-2.new.self.items ≡ split_pieces c.args.len c.args.n =
    c.in_ok-push_back-2.ensures.items
    ∙ made-last c.loop.pieces.items _ c.loop.at (c.args.len / c.args.n) c.loop.counter c.args.n c.args.len (omega (arith, c.requires.some)) c.loop.invariant.made in
    rw same (covers-split c.args.len c.args.n c.requires.some c.loop.invariant.some)
