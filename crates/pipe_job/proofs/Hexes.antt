-- A text of lower-case hexadecimal digits of even length is that of some bytes.
use Rattle.std.proofs.Common.{◌≡◌, ◌<◌, ◌≤◌, ◌+◌, ◌-◌, ◌*◌, ◌/◌, ◌%◌, ℕ, zero, suc, List, [], ◌∷◌, Bool, true, false, ◌&&◌, ◌==◌, cond, length, inl, inr, refl, ap, ap₂, sym, ◌∙◌, arith, rules, slice_index, subst, Result, Ok, Err, true≢false}
use Rattle.std.specs.Prelude.{nat_le, nat_lt, ◌⊎◌}
use Rattle.std.proofs.lemmas.Bool.{and_parts}
use Rattle.std.proofs.lemmas.Bool.Decides.{nat_tests, Decides-eqb}
use Rattle.hex.specs.Hex.{IsBytes, decode_of, encode_with, encode_lower, lower_digits}
use Rattle.hex.specs.declared.error.FromHexError.{FromHexError}
use Rattle.hex.specs.declared.error.FromHexError.TheVariants.{OddLength}
use Rattle.hex.proofs.HexLemmas.{decode_of-encode_lower, length-encode_with}
use Rattle.pipe_job.specs.Shape.{is_lower_digit, are_lower_digits, is_hex_text}

-- the digit of a value below 16
abbrev digit : ℕ → ℕ
digit v = cond (nat_lt v 10) (48 + v) (87 + v)

-- the value of a digit
abbrev value : ℕ → ℕ
value c = cond (nat_lt c 58) (c - 48) (c - 87)

abbrev all_digits : ℕ → Bool
all_digits zero = true
all_digits (suc n) = (slice_index lower_digits n == digit n) && all_digits n

digits_below : (k n : ℕ) → all_digits k ≡ true → n < k → slice_index lower_digits n ≡ digit n
digits_below zero n h lt = absurd (omega arith)
digits_below (suc k) n h lt =
    let p = and_parts (slice_index lower_digits k == digit k) (all_digits k) h in
    let here : n ≡ k → slice_index lower_digits n ≡ digit n = λ e. rw e ((Decides-eqb (slice_index lower_digits k) (digit k)).0 p.0) in
    let split : (b : Bool) → (n == k) ≡ b → slice_index lower_digits n ≡ digit n = elim [
      | true ↦ λ e. here ((Decides-eqb n k).0 e)
      | false ↦ λ e. digits_below k n p.1 (grind (arith, nat_tests))
    ] in split (n == k) refl

digit_at : (v : ℕ) → v < 16 → slice_index lower_digits v ≡ digit v
digit_at v lt = digits_below 16 v refl lt

value_small : (c : ℕ) → is_lower_digit c ≡ true → value c < 16
value_small c h = grind (arith, nat_tests)

digit_value : (c : ℕ) → is_lower_digit c ≡ true → digit (value c) ≡ c
digit_value c h = grind (arith, nat_tests)

digit_back : (c : ℕ) → is_lower_digit c ≡ true → slice_index lower_digits (value c) ≡ c
digit_back c h = digit_at (value c) (value_small c h) ∙ digit_value c h

bytes_cons : (b : ℕ) (rest : List ℕ) → b < 256 → IsBytes rest → IsBytes (b ∷ rest)
bytes_cons b rest h hs zero = h
bytes_cons b rest h hs (suc i) = hs i

-- bytes and that a text is theirs
record Spelled (s : List ℕ) : Type 0 where
  pub bytes : List ℕ
  pub each : IsBytes bytes
  pub spelled : encode_lower bytes ≡ s

spelled_bytes : (s : List ℕ) → are_lower_digits s ≡ true → length s % 2 ≡ 0 → Spelled s
unfolding encode_with
spelled_bytes [] h even = record { bytes = []; each = λ i. omega arith; spelled = refl }
spelled_bytes (a ∷ []) h even = absurd (omega arith)
spelled_bytes (a ∷ b ∷ rest) h even =
    let p = and_parts (is_lower_digit a) (are_lower_digits (b ∷ rest)) h in
    let q = and_parts (is_lower_digit b) (are_lower_digits rest) p.1 in
    let va = value_small a p.0 in
    let vb = value_small b q.0 in
    let later = spelled_bytes rest q.1 (omega arith) in
    let high : (value a * 16 + value b) / 16 ≡ value a = omega arith in
    let low : (value a * 16 + value b) % 16 ≡ value b = omega arith in
    record {
      bytes = (value a * 16 + value b) ∷ later.bytes;
      each = bytes_cons (value a * 16 + value b) later.bytes (omega arith) later.each;
      spelled = ap₂ (λ (x y : ℕ). slice_index lower_digits x ∷ slice_index lower_digits y ∷ encode_lower later.bytes) high low
          ∙ ap₂ (λ (x y : ℕ). x ∷ y ∷ encode_lower later.bytes) (digit_back a p.0) (digit_back b q.0)
          ∙ ap (λ (l : List ℕ). a ∷ b ∷ l) later.spelled;
    }

is_decoded : (s : List ℕ) (h : Spelled s) → decode_of s ≡ Ok h.bytes
is_decoded s h = ap decode_of (sym h.spelled) ∙ decode_of-encode_lower h.bytes h.each

-- what decodes has even length
odd_length : (s : List ℕ) → length s % 2 ≡ 1 → decode_of s ≡ Err OddLength
odd_length s odd = rw odd refl

even_length : (s bytes : List ℕ) → decode_of s ≡ Ok bytes → length s % 2 ≡ 0
even_length s bytes h =
    let split : (b : Bool) → (length s % 2 == 1) ≡ b → length s % 2 ≡ 0 = elim [
      | true ↦ λ e. cc (sym (odd_length s ((Decides-eqb (length s % 2) 1).0 e)) ∙ h)
      | false ↦ λ e. grind (arith, nat_tests)
    ] in split (length s % 2 == 1) refl

-- what was decoded of lower-case digits is spelled by them
pub hex_read : (s bytes : List ℕ) → are_lower_digits s ≡ true → decode_of s ≡ Ok bytes → (s ≡ encode_lower bytes) × IsBytes bytes
hex_read s bytes h decoded =
    let found = spelled_bytes s h (even_length s bytes decoded) in
    let same = sym (is_decoded s found) ∙ decoded in
    let bytes_same : found.bytes ≡ bytes = cc same in
    (sym found.spelled ∙ ap encode_lower bytes_same, subst IsBytes bytes_same found.each)

-- what isn't decoded isn't spelled so
pub hex_unread : (s : List ℕ) (e : FromHexError) → decode_of s ≡ Err e → is_hex_text s ≡ false
hex_unread s e h =
    let split : (b : Bool) → is_hex_text s ≡ b → b ≡ false = elim [
      | true ↦ λ yes. (
          let p = and_parts (are_lower_digits s) (length s % 2 == 0) yes in
          let found = spelled_bytes s p.0 ((Decides-eqb (length s % 2) 0).0 p.1) in
          let wrong = sym (is_decoded s found) ∙ h in
          cc wrong)
      | false ↦ λ no_text. refl
    ] in split (is_hex_text s) refl

pub hex_not_lower : (s : List ℕ) → are_lower_digits s ≡ false → is_hex_text s ≡ false
hex_not_lower s h = rw h refl

-- ---- the text of bytes

lower_digit : (v : ℕ) → v < 16 → is_lower_digit (slice_index lower_digits v) ≡ true
lower_digit v lt = rw (digit_at v lt) (grind (arith, nat_tests))

lower_text : (bytes : List ℕ) → IsBytes bytes → are_lower_digits (encode_lower bytes) ≡ true
unfolding encode_with
lower_text [] h = refl
lower_text (b ∷ bytes) h =
    let small : b < 256 = h 0 in
    rw (lower_digit (b / 16) (omega arith), lower_digit (b % 16) (omega arith), lower_text bytes (λ i. h (suc i))) refl

pub hex_text : (bytes : List ℕ) → IsBytes bytes → is_hex_text (encode_lower bytes) ≡ true
hex_text bytes h =
    let even : (length (encode_lower bytes) % 2 == 0) ≡ true = (Decides-eqb (length (encode_lower bytes) % 2) 0).1 (omega (arith, length-encode_with lower_digits bytes)) in
    rw (lower_text bytes h, even) refl

pub ruleset hex_rules = (hex_read, hex_unread, hex_not_lower)
