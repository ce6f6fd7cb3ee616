use Rattle.std.proofs.Common.{ap, ◌∙◌}
use Rattle.std.proofs.lemmas.Int.{to_z-of_z}
use Rattle.std.specs.Int.{w128, to_be_bytes, cast_unsigned}
use Rattle.pipe_column.specs.Native.{top_flipped}
use Rattle.pipe_column.proofs.native.I128Native.write_ordered.Goals as goal

pub returns-clause-bytes : goal.returns-clause-bytes
returns-clause-bytes c =
    c.copy_from_slice.ensures.after
    ∙ c.to_be_bytes.ensures
    ∙ ap (to_be_bytes w128) c.flipped_128.ensures
    ∙ ap (λ z. to_be_bytes w128 (top_flipped 127 (cast_unsigned w128 z))) (to_z-of_z w128 c.args.self c.ranges.self)
