-- What stands at a number.
use Rattle.std.specs.Prelude.{ℕ, List, slice_index_or}

-- 0 where nothing does
abbrev pub number_at : List ℕ → ℕ → ℕ
number_at ns k = slice_index_or ns k 0
