use Rattle.std.proofs.Common.{◌≡◌, take, map}
use Rattle.pipe_rows.specs.declared.encoding.Encoding.TheVariants as encoding
use Rattle.pipe_rows.proofs.ordered.ordered_by.Given as goal

abbrev pub invariant-loop-field : goal.invariant-loop-field
invariant-loop-field l = l.encodings.items ≡ map encoding.Ordered (take l.field-index l.fields)
