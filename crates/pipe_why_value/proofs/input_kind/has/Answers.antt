use Rattle.std.proofs.Common.{◌≡◌, is_some, sym, ap, ◌∙◌}
use Rattle.pipe_why_value.proofs.Looks.{is_some_mapped}
use Rattle.pipe_why_value.proofs.input_kind.has.Goals as goal

pub returns : goal.returns
returns c = c.is_some.ensures ∙ sym (is_some_mapped _ c.get.result) ∙ ap is_some c.get.ensures
