-- The words of a self-test: decimal digits, without a sign.
use Rattle.std.specs.Prelude.{ℕ, ◌-◌, ◌^◌, List, Bool, ◌&&◌, nat_le, length, Option, Some, None, if◌then◌else◌}
use Rattle.std.specs.Str.{all_ascii_digits}
use Rattle.std.specs.Str.Parse.{digits_value}

-- whether a word is 1 to 20 decimal digits
abbrev pub is_number : List ℕ → Bool
is_number word = nat_le 1 (length word) && nat_le (length word) 20 && all_ascii_digits word

-- the number that decimal digits tell
abbrev pub number_in : List ℕ → ℕ
number_in word = digits_value 10 word

-- the number that a word is, where it is one from least to most
abbrev pub number_within : (least most : ℕ) → List ℕ → Option ℕ
number_within least most word =
    if is_number word && nat_le least (number_in word) && nat_le (number_in word) most
    then Some (number_in word) else None

-- the state that a word is: a number below 2 ^ 64
abbrev pub start_in : List ℕ → Option ℕ
start_in word = number_within 0 (2 ^ 64 - 1) word

-- the number of rows that a word is: one from 1 to 1,000,000
abbrev pub rows_in : List ℕ → Option ℕ
rows_in word = number_within 1 1000000 word
