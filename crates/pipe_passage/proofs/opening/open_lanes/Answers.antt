use Rattle.std.proofs.Common.{◌≡◌, length, subst, arith}
use Rattle.pipe_passage.specs.LaneSeats.{AllRest}
use Rattle.pipe_passage.proofs.Opened.{rest-length, opened-more, has-opened, more-of}
use Rattle.pipe_passage.proofs.opening.open_lanes.Goals as goal

pub open_lane-requires-clause-more : goal.open_lane-requires-clause-more
open_lane-requires-clause-more g c κs lives = more-of c.loop-thread_no.thread_no c.args.lanes (omega (arith, c.loop-thread_no-test.true)) c.args.shared.now c.requires.seats

pub loop-thread_no-preserved : goal.loop-thread_no-preserved
loop-thread_no-preserved g c = record {
  len = omega (arith, c.in_ok-push.ensures.len, c.loop-thread_no.invariant.len);
  opened = rw c.in_ok-push.ensures.items (opened-more g.H.KeyHasher.hash_of g.K.Sink c.args.shared.now c.args.stages.now c.args.target.now c.args.free.now c.loop-thread_no.free c.open_lane.new.free c.loop-thread_no.made.items c.in_ok-lane.lane c.loop-thread_no.invariant.opened c.in_ok-lane.ensures.opened);
  rest = c.in_ok-lane.ensures.rest;
}

pub returns-clause-opened : goal.returns-clause-opened
returns-clause-opened g c =
    let known = c.loop-thread_no.invariant in
    let all : length c.loop-thread_no.made.items ≡ c.args.lanes = omega (arith, known.len, c.loop-thread_no.made.ok.0, c.loop-thread_no-test.false) in
    let rest : AllRest (length c.loop-thread_no.made.items) c.args.shared.now c.loop-thread_no.free = subst (λ n. AllRest n c.args.shared.now c.loop-thread_no.free) (let e : c.loop-thread_no.thread_no ≡ length c.loop-thread_no.made.items = omega (arith, known.len, c.loop-thread_no.made.ok.0) in e) known.rest in
    λ limit. has-opened g.H.KeyHasher.hash_of g.K.Sink c.args.shared.now c.args.stages.now c.args.target.now limit c.args.free.now c.loop-thread_no.free c.loop-thread_no.made.items
    (omega (arith, all, c.requires.some)) (omega (arith, all, c.requires.few)) known.opened rest (rest-length 0 c.args.shared.now c.args.free.now c.requires.rest)
