use Rattle.std.proofs.Common.{rules, ◌≡◌, ℤ, ap, sym, subst, ◌∙◌, FitsSigned}
use Rattle.std.proofs.lemmas.Int.{to_z-of_z}
use Rattle.std.specs.Int.{w64, to_be_bytes, cast_unsigned}
use Rattle.pipe_column.specs.Native.{top_flipped}
use Rattle.pipe_column.proofs.native.I64Native.read_ordered.Goals as goal

pub returns : goal.returns
returns c =
    let range : FitsSigned w64 c.unflipped_64.result = search rules in
    let Read : ℤ → Type 0 = λ z. (to_be_bytes w64 (top_flipped 63 (cast_unsigned w64 z)) ≡ c.args.bytes.now) × FitsSigned w64 z in
    subst Read (sym (to_z-of_z w64 c.unflipped_64.result range)) (ap (to_be_bytes w64) c.unflipped_64.ensures ∙ c.read_64.ensures, range)
