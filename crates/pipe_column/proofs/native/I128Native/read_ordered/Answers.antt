use Rattle.std.proofs.Common.{rules, ◌≡◌, ℤ, ap, sym, subst, ◌∙◌, FitsSigned}
use Rattle.std.proofs.lemmas.Int.{to_z-of_z}
use Rattle.std.specs.Int.{w128, to_be_bytes, cast_unsigned}
use Rattle.pipe_column.specs.Native.{top_flipped}
use Rattle.pipe_column.proofs.native.I128Native.read_ordered.Goals as goal

pub returns : goal.returns
returns c =
    let range : FitsSigned w128 c.unflipped_128.result = search rules in
    let Read : ℤ → Type 0 = λ z. (to_be_bytes w128 (top_flipped 127 (cast_unsigned w128 z)) ≡ c.args.bytes.now) × FitsSigned w128 z in
    subst Read (sym (to_z-of_z w128 c.unflipped_128.result range)) (ap (to_be_bytes w128) c.unflipped_128.ensures ∙ c.read_128.ensures, range)
