use Rattle.std.proofs.Common.{◌+◌, take, drop, ap, ◌∙◌}
use Rattle.pipe_column.proofs.Parts.{part_seen}
use Rattle.pipe_column.proofs.part.Part.slice.Goals as goal

pub returns : goal.returns
returns g c = ap (λ v. take c.args.count (drop (c.self.inside.from + c.args.from) v.items)) c.in_ok-clone.ensures.cases ∙ part_seen c.self.inside.from c.self.inside.len c.args.from c.args.count c.self.inside.all.value.items c.self.view_is c.requires
