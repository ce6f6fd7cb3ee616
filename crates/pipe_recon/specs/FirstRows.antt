-- The least row of each code, as an ordered map.
use Rattle.std.specs.Prelude.{ℕ, List, Option, Some, None}
use Rattle.std.specs.BTreeMap.{BTreeMap, get_by}
use Rattle.std.specs.Cmp.Lexicographic.{slice_cmp}
use Rattle.std.specs.Ordering.{nat_cmp}
use Rattle.pipe_recon.specs.Codes.{Code}
use denote.Ref.{Bor}

-- the row at some bytes
abbrev pub row_of_bytes : BTreeMap (Bor (List ℕ)) ℕ → List ℕ → Option ℕ
row_of_bytes rows bytes = get_by (λ k. slice_cmp nat_cmp bytes k.now) rows

-- the row at a code
abbrev pub row_of_code : BTreeMap (Bor (List ℕ)) ℕ → Code → Option ℕ
row_of_code rows (Some bytes) = row_of_bytes rows bytes
row_of_code rows None = None
