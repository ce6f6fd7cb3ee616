use Rattle.pipe_selftest.proofs.Digits.{none_read}
use Rattle.pipe_selftest.proofs.words.number_in.Goals as goal

pub returns-in-Err-clause-none : goal.returns-in-Err-clause-none
returns-in-Err-clause-none c = λ _.
    none_read c.args.word.now c.from_str_radix.result c.in-Err.field-0 c.from_str_radix.ensures.value c.requires c.in-Err.is
