use Rattle.pipe_rules.proofs.Reaches.{pushed-open, pushed-closed}
use Rattle.pipe_rules.proofs.batch.push_reaching.Goals as goal

pub returns-then-len-lt-LARGEST : goal.returns-then-len-lt-LARGEST
returns-then-len-lt-LARGEST c fields all over chunked =
    pushed-open fields all c.args.chunks.now c.args.loose c.push.new.self c.args.one over chunked c.in_ok-push.ensures.ok

pub returns : goal.returns
returns c fields all over chunked =
    pushed-closed fields all c.args.chunks.now c.push-2.new.self c.args.loose c.push.new.self c.new.result c.args.one c.chunk_of.result over chunked c.in_ok-push.ensures.ok c.chunk_of.ensures c.in_ok-push-2.ensures.ok c.new.ensures
