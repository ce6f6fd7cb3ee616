use Rattle.std.proofs.Common.{is_some, not, ap, ◌∙◌}
use Rattle.pipe_schema.specs.Schema.{place_of}
use Rattle.pipe_rules.proofs.Selects.{place-some, turned}
use Rattle.pipe_rules.proofs.join.OtherNamesNameTest.passes.Goals as goal

pub returns : goal.returns
returns c =
    turned (is_some c.index_of.result) c.is_none.result c.is_none.ensures
    ∙ ap not (place-some c.args.self.now.left.now c.args.name.now c.index_of.result (c.index_of.ensures ∙ ap (λ b. place_of b c.args.self.now.left.now) c.as_bytes.ensures.bytes))
