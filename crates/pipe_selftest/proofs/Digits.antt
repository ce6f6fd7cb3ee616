-- Words of digits.
use Rattle.std.proofs.Common.{◌≡◌, ℕ, ◌<◌, ◌≤◌, ◌^◌, Bool, true, false, List, length, Option, Some, None, Result, Ok, Err, inl, inr, refl, arith}
use Rattle.std.specs.Prelude.{◌&&◌, ◌⊎◌, nat_le, if◌then◌else◌}
use Rattle.std.specs.Result.{OkIff}
use Rattle.std.specs.Str.{all_ascii_digits}
use Rattle.std.specs.Str.Parse.{ParsesUnsigned, digits_value}
use Rattle.std.proofs.lemmas.Bool.{le-leb, leb-true, lt-leb}
use Rattle.std.proofs.lemmas.Bool.Decides.{leb_tells}
use Rattle.std.proofs.lemmas.Str.Parse.{IsNumeralModel, numerals_by_value, parse_digits, tells_all_ascii_digits}
use Rattle.pipe_selftest.specs.Words.{is_number, number_in, number_within}

own : IsNumeralModel (λ ds. all_ascii_digits ds ≡ true) (digits_value 10)
own = numerals_by_value _ tells_all_ascii_digits

-- what a conjunction of three says
first : (a b c : Bool) → a && b && c ≡ true → a ≡ true
first true b c e = refl
first false b c e = cc

third : (a b c : Bool) → a && b && c ≡ true → c ≡ true
third true true c e = e
third true false c e = cc
third false b c e = cc

digits_of : (word : List ℕ) → is_number word ≡ true → all_ascii_digits word ≡ true
digits_of word h = third (nat_le 1 (length word)) (nat_le (length word) 20) (all_ascii_digits word) h

some_digit : (word : List ℕ) → is_number word ≡ true → 0 < length word
some_digit word h = let one : nat_le 1 (length word) ≡ true = first (nat_le 1 (length word)) (nat_le (length word) 20) (all_ascii_digits word) h in omega (arith, leb-true 1 (length word) one)

not_below : (most n : ℕ) → (n < most → ⊥) → ((nat_le most n ≡ true) × (most ≤ n)) ⊎ ((nat_le most n ≡ false) × (n < most)) → most ≤ n
not_below most n h (inl t) = t.1
not_below most n h (inr t) = absurd (h t.1)

-- what is read of digits
pub number_read : {E : Type 0} (word : List ℕ) (r : Result ℕ E) (n : ℕ) → ParsesUnsigned 64 10 word r → is_number word ≡ true → r ≡ Ok n → n ≡ number_in word
number_read {E = E} word (Ok m) n p h e = let read : OkIff {E = E} (Ok m) ((0 < length word) × (number_in word < 2 ^ 64)) (number_in word) = parse_digits own {E = E} 64 word (Ok m) p (digits_of word h) in cc (e, read.1)
number_read word (Err f) n p h e = cc

pub none_read : {E : Type 0} (word : List ℕ) (r : Result ℕ E) (f : E) → ParsesUnsigned 64 10 word r → is_number word ≡ true → r ≡ Err f → 2 ^ 64 ≤ number_in word
none_read word (Ok m) f p h e = cc
none_read {E = E} word (Err g) f p h e =
    let read : OkIff {E = E} (Err g) ((0 < length word) × (number_in word < 2 ^ 64)) (number_in word) = parse_digits own {E = E} 64 word (Err g) p (digits_of word h) in
    not_below (2 ^ 64) (number_in word) (λ few. read (some_digit word h, few)) (leb_tells (2 ^ 64) (number_in word))

-- whether it is in its range
choose : (a b c : Bool) (n : ℕ) → a ≡ true → b ≡ true → c ≡ true → Some n ≡ (if a && b && c then Some n else None)
choose a b c n p q r = rw (p, q, r) refl

none_first : (a b c : Bool) (n : ℕ) → a ≡ false → None ≡ (if a && b && c then Some n else None)
none_first a b c n p = rw p refl

none_second : (a b c : Bool) (n : ℕ) → b ≡ false → None ≡ (if a && b && c then Some n else None)
none_second true b c n p = rw p refl
none_second false b c n p = refl

none_third : (a b c : Bool) (n : ℕ) → c ≡ false → None ≡ (if a && b && c then Some n else None)
none_third true true c n p = rw p refl
none_third true false c n p = refl
none_third false b c n p = refl

pub within : (least most n : ℕ) (word : List ℕ) → is_number word ≡ true → n ≡ number_in word → least ≤ n → n ≤ most → Some n ≡ number_within least most word
within least most n word h e low high = rw e (choose (is_number word) (nat_le least (number_in word)) (nat_le (number_in word) most) (number_in word) h (le-leb least (number_in word) (omega (arith, e, low))) (le-leb (number_in word) most (omega (arith, e, high))))

pub no_number : (least most : ℕ) (word : List ℕ) → is_number word ≡ false → None ≡ number_within least most word
no_number least most word h = none_first (is_number word) (nat_le least (number_in word)) (nat_le (number_in word) most) (number_in word) h

pub too_small : (least most n : ℕ) (word : List ℕ) → n ≡ number_in word → n < least → None ≡ number_within least most word
too_small least most n word e low = none_second (is_number word) (nat_le least (number_in word)) (nat_le (number_in word) most) (number_in word) (lt-leb least (number_in word) (omega (arith, e, low)))

pub too_large : (least most : ℕ) (word : List ℕ) → most < number_in word → None ≡ number_within least most word
too_large least most word high = none_third (is_number word) (nat_le least (number_in word)) (nat_le (number_in word) most) (number_in word) (lt-leb (number_in word) most high)
