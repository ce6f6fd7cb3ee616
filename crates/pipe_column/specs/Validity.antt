-- For each value of a column whether it is there.
use Rattle.std.specs.Prelude.{Bool, true, false, List, [], ◌∷◌, replicate}
use Rattle.pipe_column.specs.declared.validity.Marks.{Marks}
use Rattle.pipe_column.specs.declared.validity.Marks.TheVariants as kept
use Rattle.pipe_column.specs.declared.validities.Validities.{Validities}
use Rattle.pipe_column.specs.declared.validities.Validities.TheVariants as shown

-- the marks of the values, be they kept or not
abbrev pub marks_of : Marks → List Bool
marks_of (kept.All alloc count) = replicate count true
marks_of (kept.Each marks) = marks

-- the marks of the values of a column that lends them
abbrev pub validities : Validities → List Bool
validities (shown.All count) = replicate count true
validities (shown.Each marks) = marks.now

-- whether all marks are true
abbrev pub all_true : List Bool → Bool
all_true [] = true
all_true (true ∷ marks) = all_true marks
all_true (false ∷ marks) = false
