use Rattle.std.proofs.Common.{ap, ◌∙◌}
use Rattle.pipe_schema.specs.Schema.{place_of}
use Rattle.pipe_rules.proofs.Selects.{place-some}
use Rattle.pipe_rules.proofs.join.LeftNamesNameTest.passes.Goals as goal

pub returns : goal.returns
returns c =
    c.is_some.ensures
    ∙ place-some c.args.self.now.left.now c.args.name.now c.index_of.result (c.index_of.ensures ∙ ap (λ b. place_of b c.args.self.now.left.now) c.as_bytes.ensures.bytes)
