-- What a self-test writes: three lines, of a word and a number each.
--
-- A worked case, start 7 and 2 rows:
--
--   inner 2
--   left 3
--   full 3
use Rattle.std.specs.Prelude.{ℕ, List, [], ◌∷◌, ◌++◌, codes, decimal, length}
use Rattle.pipe_plan.specs.PlanRows.{rows_of}
use Rattle.pipe_selftest.specs.Joins.{full_root, inner_root, left_root, plan_from}

-- a word, a space, a number and the end of the line
abbrev pub line : List ℕ → ℕ → List ℕ
line word n = word ++ (32 ∷ decimal n) ++ 10 ∷ []

abbrev pub lines : (inner left full : ℕ) → List ℕ
lines inner left full =
    line (codes "inner") inner ++ line (codes "left") left ++ line (codes "full") full

-- how many rows a join has
abbrev pub row_count : (root start rows : ℕ) → ℕ
row_count root start rows = length (rows_of (plan_from start rows) root)

-- the lines of a self-test
abbrev pub selftest_lines : (start rows : ℕ) → List ℕ
selftest_lines start rows =
    lines (row_count inner_root start rows) (row_count left_root start rows)
    (row_count full_root start rows)
