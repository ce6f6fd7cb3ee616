-- The columns of a key have one height.
use Rattle.std.proofs.Common.{◌≡◌, ℕ, ◌<◌, List, [], ◌∷◌, length, sym, subst, arith}
use Rattle.pipe_column.specs.Columns.{AllOfHeight, height_of}
use Rattle.pipe_column.specs.Series.{Cells}

height_is : (columns : List Cells) (height : ℕ) → 0 < length columns → AllOfHeight height columns → height_of columns ≡ height
height_is [] height some even = absurd (omega (arith, some))
height_is (column ∷ columns) height some even = even 0 column (omega arith)

pub columns_even : (columns : List Cells) (height : ℕ) → 0 < length columns → AllOfHeight height columns → AllOfHeight (height_of columns) columns
columns_even columns height some even = subst (λ (n : ℕ). AllOfHeight n columns) (sym (height_is columns height some even)) even
