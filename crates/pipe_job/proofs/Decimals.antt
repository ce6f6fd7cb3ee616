-- The decimal text of a number of 128 bits is read as that number, and no other text is.
use Rattle.std.proofs.Common.{◌≡◌, ◌<◌, ◌^◌, ◌+◌, ℕ, suc, ℤ, pos, negsuc, neg_ℤ, List, [], ◌∷◌, Bool, true, false, ◌&&◌, ◌==◌, cond, length, get_or, drop, refl, ap, ap₂, sym, ◌∙◌, arith, rules, subst, decimal, true≢false}
use Rattle.std.specs.Prelude.{FitsSigned}
use Rattle.std.specs.Fmt.{signed_decimal}
use Rattle.std.specs.Int.{w128}
use Rattle.std.specs.Str.{bytes_eq}
use Rattle.std.specs.Str.Parse.{AllDigits, IsNumeral, digits_value, signed_digits_value, without_leading_sign}
use Rattle.std.proofs.lemmas.Fmt.{decimal_is_IsNumeral_wide}
use Rattle.std.proofs.lemmas.Str.Parse.{digit_from_value}
use Rattle.std.proofs.lemmas.Bool.{and_parts}
use Rattle.std.proofs.lemmas.Bool.Decides.{nat_tests, Decides-eqb}
use Rattle.serde_json.specs.Data.{string}
use Rattle.pipe_job.specs.Shape.{is_within, is_decimal_text}
use Rattle.pipe_job.specs.Spelling.{decimal_spelling}

-- ---- the range

within : (z : ℤ) → FitsSigned w128 z → is_within 127 z ≡ true
within (pos n) h = grind (arith, nat_tests)
within (negsuc n) h = grind (arith, nat_tests)

fits : (z : ℤ) → is_within 127 z ≡ true → FitsSigned w128 z
fits (pos n) h = grind (arith, nat_tests)
fits (negsuc n) h = grind (arith, nat_tests)

-- ---- the text of a number

-- digits stand behind no sign
no_sign : (ds : List ℕ) → IsNumeral 10 ds → without_leading_sign ds ≡ ds
no_sign [] h = absurd (omega (arith, h.0))
no_sign (c ∷ cs) h =
    let d = digit_from_value c h.1.0 in
    let minus : (c == 45) ≡ false = grind (arith, nat_tests) in
    let plus : (c == 43) ≡ false = grind (arith, nat_tests) in
    rw minus (rw plus refl)

unsigned_value : (ds : List ℕ) → IsNumeral 10 ds → signed_digits_value 10 ds ≡ pos (digits_value 10 ds)
unsigned_value [] h = absurd (omega (arith, h.0))
unsigned_value (c ∷ cs) h =
    let d = digit_from_value c h.1.0 in
    let minus : (c == 45) ≡ false = grind (arith, nat_tests) in
    let plus : (c == 43) ≡ false = grind (arith, nat_tests) in
    rw minus (rw plus refl)

-- what the text of a number in range stands for
pub value_of_decimal : (z : ℤ) → FitsSigned w128 z → IsNumeral 10 (without_leading_sign (signed_decimal z)) × (signed_digits_value 10 (signed_decimal z) ≡ z)
value_of_decimal (pos n) h =
    let k = decimal_is_IsNumeral_wide n (omega (arith, h.sfits)) in
    (rw (no_sign (decimal n) k.0) k.0, unsigned_value (decimal n) k.0 ∙ ap pos k.1)
value_of_decimal (negsuc n) h =
    let k = decimal_is_IsNumeral_wide (suc n) (omega (arith, h.sfits)) in
    (k.0, ap (λ (m : ℕ). neg_ℤ (pos m)) k.1)

pub decimal_again : (z : ℤ) → FitsSigned w128 z → is_decimal_text (signed_decimal z) ≡ true
decimal_again z h =
    let same = (value_of_decimal z h).1 in
    rw same (rw (within z h) (search rules))

-- ---- other texts

-- a text that passes is that of its number
pub decimal_text : (s : List ℕ) → is_decimal_text s ≡ true → (signed_decimal (signed_digits_value 10 s) ≡ s) × FitsSigned w128 (signed_digits_value 10 s)
decimal_text s h =
    let p = and_parts (is_within 127 (signed_digits_value 10 s)) (bytes_eq (signed_decimal (signed_digits_value 10 s)) s) h in
    (search rules, fits (signed_digits_value 10 s) p.0)

-- what isn't parsed doesn't pass
pub not_parsed : (s : List ℕ) → (IsNumeral 10 (without_leading_sign s) × FitsSigned w128 (signed_digits_value 10 s) → ⊥) → is_decimal_text s ≡ false
not_parsed s none =
    let split : (b : Bool) → is_decimal_text s ≡ b → is_decimal_text s ≡ false = elim [
      | true ↦ λ h. (
          let p = decimal_text s h in
          let digits = (value_of_decimal (signed_digits_value 10 s) p.1).0 in
          absurd (none (subst (λ (t : List ℕ). IsNumeral 10 (without_leading_sign t)) p.0 digits, p.1)))
      | false ↦ λ h. h
    ] in split (is_decimal_text s) refl

and_false : (b : Bool) → (b && false) ≡ false
and_false true = refl
and_false false = refl

-- what is parsed, but isn't the text of its number, doesn't pass
pub not_own_text : (s : List ℕ) (z : ℤ) → z ≡ signed_digits_value 10 s → bytes_eq (signed_decimal z) s ≡ false → is_decimal_text s ≡ false
not_own_text s z e differs =
    let same : bytes_eq (signed_decimal (signed_digits_value 10 s)) s ≡ false = rw (← e) differs in
    rw same (and_false (is_within 127 (signed_digits_value 10 s)))

-- what is parsed, and is the text of its number, is spelled so
pub own_text : (s : List ℕ) (z : ℤ) → IsNumeral 10 (without_leading_sign s) × FitsSigned w128 (signed_digits_value 10 s) → z ≡ signed_digits_value 10 s → bytes_eq (signed_decimal z) s ≡ true → (string s ≡ decimal_spelling z) × FitsSigned w128 z
own_text s z parsed e same =
    let text : signed_decimal z ≡ s = search rules in
    (ap string (sym text), rw e parsed.1)

pub ruleset decimal_rules = (not_parsed, not_own_text, own_text)
