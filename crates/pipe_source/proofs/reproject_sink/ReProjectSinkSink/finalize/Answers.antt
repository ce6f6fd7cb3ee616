use Rattle.pipe_source.specs.Supplies.{left_of}
use Rattle.pipe_source.proofs.EndingLemmas.{made_of_schema, made_ends}
use Rattle.pipe_source.proofs.reproject_sink.ReProjectSinkSink.finalize.Goals as goal

pub returns-in_ok-made-in-Source : goal.returns-in_ok-made-in-Source
returns-in_ok-made-in-Source g c =
    let sink = c.args.self.sink in
    let e = rw c.in-Source.is at c.in_ok-frame.ensures in
    let all = c.args.self.schemas c.in-Source.source (g.S.Sink.gives sink) e.1 in (
      e.0,
      made_of_schema c.args.self.schema (left_of c.in-Source.source) c.in_ok-made-in-Source.made.left c.in_ok-made-in-Source.ensures,
      made_ends (g.S.Sink.ends (g.S.Sink.setting sink) (g.S.Sink.held sink)) (g.S.Sink.builds sink) c.args.self.schema (g.S.Sink.gives sink) (left_of c.in-Source.source) c.in_ok-made-in-Source.made.left (g.S.Sink.left c.in-Source.source) e.0 e.2 (c.args.self.rows c.in-Source.source) all c.in_ok-made-in-Source.ensures,
    )
