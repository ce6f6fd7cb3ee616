-- The texts of lines, piece by piece: what their writer appends.
use Rattle.std.specs.Prelude.{ℕ, List, ◌++◌, codes, decimal}
use Rattle.pipe_recon.specs.declared.recon.Partner.{Partner}
use Rattle.pipe_recon.specs.declared.recon.Partner.TheVariants.{Matched, Only}
use Rattle.pipe_recon.specs.declared.lines.Side.{Side}
use Rattle.pipe_recon.specs.declared.lines.Side.TheVariants.{Left, Right}

-- what stands before a row's number
abbrev pub side_text : Side → List ℕ
side_text Left = codes "[\"left\","
side_text Right = codes "[\"right\","

-- what stands behind the number of a row without a partner
abbrev pub unmatched_text : Side → List ℕ
unmatched_text Left = codes ",\"left_only\",null]\n"
unmatched_text Right = codes ",\"right_only\",null]\n"

-- what stands behind a row's number
abbrev pub class_text : Side → Partner → List ℕ
class_text side (Matched row) = codes ",\"matched\"," ++ (decimal row ++ codes "]\n")
class_text side Only = unmatched_text side
