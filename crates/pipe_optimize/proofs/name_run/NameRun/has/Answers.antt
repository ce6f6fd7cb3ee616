use Rattle.std.proofs.Common.{take, ap, ◌∙◌}
use Rattle.pipe_schema.specs.Schema.{has_name}
use Rattle.pipe_optimize.proofs.Noted.{noted-has}
use Rattle.pipe_optimize.proofs.name_run.NameRun.has.Goals as goal

pub returns-then-len-noted : goal.returns-then-len-noted
returns-then-len-noted c =
    c.is_below.ensures
    ∙ noted-has c.self.inside.index c.self.inside.names.items c.args.len c.args.name.now c.self.invariant c.if-len-noted.true
    ∙ ap (λ l. has_name (take c.args.len l) c.args.name.now) c.self.view_is

pub returns-else-len-noted : goal.returns-else-len-noted
returns-else-len-noted c =
    c.is_among.ensures
    ∙ ap (λ l. has_name l c.args.name.now) c.first_names.ensures
    ∙ ap (λ l. has_name (take c.args.len l) c.args.name.now) (c.as_slice.ensures.value ∙ c.self.view_is)
