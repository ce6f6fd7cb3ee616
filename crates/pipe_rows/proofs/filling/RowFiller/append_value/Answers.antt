use Rattle.std.proofs.Common.{◌∷◌, []}
use Rattle.pipe_rows.proofs.FillingLemmas.{append_twice}
use Rattle.pipe_rows.proofs.filling.RowFiller.append_value.Goals as goal

pub returns : goal.returns
returns c = append_twice c.args.self.now c.append.new.self c.append-2.new.self c.args.i (1 ∷ []) c.args.bytes.now c.requires.inside c.append.ensures c.append-2.ensures
