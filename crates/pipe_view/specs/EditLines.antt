-- The lines of edits: compact JSON arrays, each ended by a newline. An edit that was made tells its number, and how many
-- rows it added to the view and took from it; one that found no row to take out tells its number alone.
--
-- A worked case: ["edit",0,1,1] for the first edit, which added a row and took one; ["absent",1] for the next, which
-- was to take out a row that isn't there.
use Rattle.std.specs.Prelude.{ℕ, suc, List, [], ◌∷◌, ◌++◌, codes}
use Rattle.serde_json.specs.Data.{string, array, item, no_items}
use Rattle.pipe_job.specs.Line.{line_of}
use Rattle.pipe_job.specs.Spelling.{whole}
use Rattle.pipe_view.specs.declared.row_edit.Outcome.{Outcome}
use Rattle.pipe_view.specs.declared.row_edit.Outcome.TheVariants.{Changed, Absent}

abbrev pub edit_line : (number plus minus : ℕ) → List ℕ
edit_line number plus minus =
    line_of (array (item (string (codes "edit")) (item (whole number) (item (whole plus) (item (whole minus) no_items)))))

abbrev pub absent_line : (number : ℕ) → List ℕ
absent_line number = line_of (array (item (string (codes "absent")) (item (whole number) no_items)))

-- what is told of an edit
abbrev pub outcome_line : (number : ℕ) → Outcome → List ℕ
outcome_line number (Changed plus minus) = edit_line number plus minus
outcome_line number Absent = absent_line number

-- the lines of edits, of which the first has a number
abbrev pub outcome_lines : (number : ℕ) → List Outcome → List ℕ
outcome_lines number [] = []
outcome_lines number (outcome ∷ outcomes) = outcome_line number outcome ++ outcome_lines (suc number) outcomes
