-- The lines of a reconciliation: compact JSON arrays, each ended by a newline. The first one tells how many rows are
-- matched and how many are not, of the left and of the right table; then there is one for each row, of its side, its
-- number, its class, and the number of its partner or null.
--
-- A worked case: the classes Matched 0 and Only on the left, and Matched 0 on the right.
--
--   [1,1,1,0]
--   ["left",0,"matched",0]
--   ["left",1,"left_only",null]
--   ["right",0,"matched",0]
use Rattle.std.specs.Prelude.{ℕ, suc, List, [], ◌∷◌, ◌++◌, Bool, true, false, codes}
use Rattle.std.specs.List.{count_by}
use Rattle.serde_json.specs.Data.{Data, null, string, array, item, no_items}
use Rattle.pipe_job.specs.Line.{line_of}
use Rattle.pipe_job.specs.Spelling.{list, whole}
use Rattle.pipe_recon.specs.declared.recon.Partner.{Partner}
use Rattle.pipe_recon.specs.declared.recon.Partner.TheVariants.{Matched, Only}
use Rattle.pipe_recon.specs.declared.recon.Recon.{Recon}
use Rattle.pipe_recon.specs.declared.lines.Side.{Side}
use Rattle.pipe_recon.specs.declared.lines.Side.TheVariants.{Left, Right}

abbrev pub is_matched : Partner → Bool
is_matched (Matched row) = true
is_matched Only = false

abbrev pub is_only : Partner → Bool
is_only (Matched row) = false
is_only Only = true

-- a line of four numbers
abbrev pub four_line : (a b c d : ℕ) → List ℕ
four_line a b c d = line_of (list whole (a ∷ b ∷ c ∷ d ∷ []))

-- how many rows are matched and how many are not, of either table
abbrev pub count_line : Recon → List ℕ
count_line recon =
    four_line (count_by is_matched recon.left) (count_by is_only recon.left)
    (count_by is_matched recon.right) (count_by is_only recon.right)

abbrev pub side_name : Side → List ℕ
side_name Left = codes "left"
side_name Right = codes "right"

abbrev pub class_name : Side → Partner → List ℕ
class_name side (Matched row) = codes "matched"
class_name Left Only = codes "left_only"
class_name Right Only = codes "right_only"

-- the number of the partner
abbrev pub partner_cell : Partner → Data
partner_cell (Matched row) = whole row
partner_cell Only = null

abbrev pub row_spelling : Side → ℕ → Partner → Data
row_spelling side i class =
    array (item (string (side_name side)) (item (whole i)
    (item (string (class_name side class)) (item (partner_cell class) no_items))))

abbrev pub row_line : Side → ℕ → Partner → List ℕ
row_line side i class = line_of (row_spelling side i class)

-- the lines of rows, of which the first has number i
abbrev pub row_lines : Side → ℕ → List Partner → List ℕ
row_lines side i [] = []
row_lines side i (class ∷ classes) = row_line side i class ++ row_lines side (suc i) classes

abbrev pub recon_lines : Recon → List ℕ
recon_lines recon =
    count_line recon ++ (row_lines Left 0 recon.left ++ row_lines Right 0 recon.right)
