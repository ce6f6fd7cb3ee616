use Rattle.std.proofs.Common.{◌++◌, map}
use Rattle.std.proofs.lemmas.Result.{on_ok_weaker}
use Rattle.pipe_value.specs.Columns.{integer_data, text_data, whole_data}
use Rattle.pipe_spell.proofs.Fronts.{front_append}
use Rattle.pipe_spell.proofs.writing.write_columns.Goals as goal

pub returns-clause-ok : goal.returns-clause-ok
returns-clause-ok c =
    let integers = map integer_data c.args.columns.now.integers in
    let wholes = map whole_data c.args.columns.now.wholes in
    let texts = map text_data c.args.columns.now.texts in
    on_ok_weaker c.write_texts.result (λ last.
    front_append integers (wholes ++ texts) c.args.out.now.tokens c.write_integers.new.out.tokens c.write_texts.new.out.tokens c.in_ok-write_integers.ensures.ok
    (front_append wholes texts c.write_integers.new.out.tokens c.write_wholes.new.out.tokens c.write_texts.new.out.tokens c.in_ok-write_wholes.ensures.ok last)) c.write_texts.ensures.ok
