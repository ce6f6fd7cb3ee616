use Rattle.std.proofs.Common.{map, take}
use Rattle.pipe_value.specs.Columns.{text_data}
use Rattle.pipe_spell.specs.Written.{HasWritten}
use Rattle.pipe_spell.proofs.writing.write_texts.Given as goal

-- the items so far were written
abbrev pub invariant-loop-i : goal.invariant-loop-i
invariant-loop-i l = HasWritten (map text_data (take l.i l.column)) l.initial.out l.out
