-- Lists of the same rows are as long.
use Rattle.std.proofs.Common.{◌≡◌, List, [], ◌∷◌, length, refl, sym, ◌∙◌, arith}
use Rattle.pipe_schema.specs.Rows.{Row, Same}
use Rattle.pipe_schema.specs.Weights.{total}
use Rattle.pipe_schema.proofs.Weights.{SameBag-from_rows}

one_each : (rows : List Row) → total (λ row. 1) rows ≡ length rows
one_each [] = refl
one_each (row ∷ rows) = omega (arith, one_each rows)

pub same_length : (a b : List Row) → Same a b → length a ≡ length b
same_length a b h = sym (one_each a) ∙ (SameBag-from_rows h).sums (λ row. 1) ∙ one_each b
