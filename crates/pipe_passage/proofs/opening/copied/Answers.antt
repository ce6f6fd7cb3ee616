use Rattle.pipe_passage.proofs.opening.copied.Goals as goal

pub returns : goal.returns
returns g c =
    let e = c.in_ok-made.ensures in
    record { takes = e.takes; output = e.output; work = e.work; suits = e.suits; closed = e.closed; acts = e.acts; idle = e.idle }
