-- The steps of decoding an ordered encoding.
use Rattle.std.proofs.Common.{◌≡◌, ℕ, zero, suc, ◌+◌, ◌-◌, ◌<◌, ◌≤◌, Bool, true, false, List, [], ◌∷◌, ◌++◌, length, get_or, take, drop, map, refl, ap, sym, ◌∙◌, arith, append_assoc}
use Rattle.std.specs.List.{flat_map}
use Rattle.std.proofs.lemmas.List.{length-map, take_all, length-append, length-drop, append-nil, drop-drop}
use Rattle.std.proofs.lemmas.Grind.{flat_map-append}
use Rattle.pipe_column.specs.Native.{IsBytes}
use Rattle.pipe_rows.specs.Ordered.{complement, directed_bytes, escaped_byte, ended_bytes}
use Rattle.pipe_rows.specs.Decoding.{IsEnded, TakesText}

-- ---- directions

pub directed_bytes-cons : (d : Bool) (x : ℕ) (xs : List ℕ) (y : ℕ) → y ∷ [] ≡ directed_bytes d (x ∷ []) → directed_bytes d (x ∷ xs) ≡ y ∷ directed_bytes d xs
directed_bytes-cons true x xs y e = cc
directed_bytes-cons false x xs y e = cc

complement_twice : (xs : List ℕ) → IsBytes xs → map complement (map complement xs) ≡ xs
complement_twice [] h = refl
complement_twice (x ∷ xs) h = let back : 255 - (255 - x) ≡ x = (let below = h.0 in omega arith) in ap (λ y. y ∷ map complement (map complement xs)) back ∙ ap (λ l. x ∷ l) (complement_twice xs h.1)

-- directing twice changes nothing
pub directed_twice : (d : Bool) (xs : List ℕ) → IsBytes xs → directed_bytes d (directed_bytes d xs) ≡ xs
directed_twice true xs h = complement_twice xs h
directed_twice false xs h = refl

pub directed_bytes-drop : (d : Bool) (i : ℕ) (xs : List ℕ) → directed_bytes d (drop i xs) ≡ drop i (directed_bytes d xs)
directed_bytes-drop false i xs = refl
directed_bytes-drop true zero xs = refl
directed_bytes-drop true (suc i) [] = refl
directed_bytes-drop true (suc i) (x ∷ xs) = directed_bytes-drop true i xs

pub directed_bytes-take : (d : Bool) (i : ℕ) (xs : List ℕ) → directed_bytes d (take i xs) ≡ take i (directed_bytes d xs)
directed_bytes-take false i xs = refl
directed_bytes-take true zero xs = refl
directed_bytes-take true (suc i) [] = refl
directed_bytes-take true (suc i) (x ∷ xs) = ap (λ l. complement x ∷ l) (directed_bytes-take true i xs)

pub length-directed_bytes : (d : Bool) (xs : List ℕ) → length (directed_bytes d xs) ≡ length xs
length-directed_bytes false xs = refl
length-directed_bytes true xs = length-map xs complement

directed_are_bytes : (d : Bool) (xs : List ℕ) → IsBytes xs → IsBytes (directed_bytes d xs)
directed_are_bytes false xs h = h
directed_are_bytes true [] h = tt
directed_are_bytes true (x ∷ xs) h = (omega arith, directed_are_bytes true xs h.1)

-- what is left from a place on, directed
pub directed_tail : (d : Bool) (xs : List ℕ) (at : ℕ) → directed_bytes d (take (length xs - at) (drop at xs)) ≡ drop at (directed_bytes d xs)
directed_tail d xs at = ap (directed_bytes d) (take_all (length xs - at) (drop at xs) (omega (arith, length-drop at xs))) ∙ directed_bytes-drop d at xs

-- ---- texts

not_nil : (text more : List ℕ) → ended_bytes text ++ more ≡ [] → ⊥
not_nil [] more e = absurd (omega (arith, ap length e))
not_nil (zero ∷ text) more e = absurd (omega (arith, ap length e))
not_nil (suc x ∷ text) more e = absurd (omega (arith, ap length e))

-- no text begins with nothing
pub ended_not_nil : IsEnded [] → ⊥
ended_not_nil h = not_nil h.text h.more h.is

not_other : (byte : ℕ) (tail text more : List ℕ) → (byte ≡ 0 → ⊥) → (byte ≡ 255 → ⊥) → ended_bytes text ++ more ≡ 0 ∷ byte ∷ tail → ⊥
not_other byte tail [] more a b e = a (ap (λ l. get_or l 1 0) (sym e))
not_other byte tail (zero ∷ text) more a b e = b (ap (λ l. get_or l 1 0) (sym e))
not_other byte tail (suc x ∷ text) more a b e = let head : suc x ≡ 0 = ap (λ l. get_or l 0 0) e in omega arith

-- a byte 0 is followed by 0 or 255
pub ended_not_other : (byte : ℕ) (tail : List ℕ) → (byte ≡ 0 → ⊥) → (byte ≡ 255 → ⊥) → IsEnded (0 ∷ byte ∷ tail) → ⊥
ended_not_other byte tail a b h = not_other byte tail h.text h.more a b h.is

after_byte : (byte : ℕ) (tail text more : List ℕ) → 0 < byte → ended_bytes text ++ more ≡ byte ∷ tail → IsEnded tail
after_byte byte tail [] more h e = absurd (let head : 0 ≡ byte = ap (λ l. get_or l 0 0) e in omega arith)
after_byte byte tail (zero ∷ text) more h e = absurd (let head : 0 ≡ byte = ap (λ l. get_or l 0 0) e in omega arith)
after_byte byte tail (suc x ∷ text) more h e = record { text = text; more = more; is = ap (drop 1) e }

after_zero : (tail text more : List ℕ) → ended_bytes text ++ more ≡ 0 ∷ 255 ∷ tail → IsEnded tail
after_zero tail [] more e = absurd (let second : 0 ≡ 255 = ap (λ l. get_or l 1 0) e in omega arith)
after_zero tail (zero ∷ text) more e = record { text = text; more = more; is = ap (drop 2) e }
after_zero tail (suc x ∷ text) more e = absurd (let head : suc x ≡ 0 = ap (λ l. get_or l 0 0) e in omega arith)

escaped_one : (byte : ℕ) → 0 < byte → escaped_byte byte ≡ byte ∷ []
escaped_one zero h = absurd (omega arith)
escaped_one (suc x) h = refl

-- a byte is taken
module _ (all text : List ℕ) (at : ℕ) (taken : flat_map escaped_byte text ++ drop at all ≡ all) where
  within_by : (n : ℕ) (front : List ℕ) → length front ≡ n → drop at all ≡ front ++ drop n (drop at all) → at ≤ length all → at + n ≤ length all
  within_by n front wide e le = omega (arith, wide, ap length e, length-append front (drop n (drop at all)), length-drop at all)

  taken_by : (n x : ℕ) (front : List ℕ) → drop at all ≡ front ++ drop n (drop at all) → escaped_byte x ≡ front → flat_map escaped_byte (text ++ x ∷ []) ++ drop (at + n) all ≡ all
  taken_by n x front e esc =
      ap (λ l. l ++ drop (at + n) all) (flat_map-append escaped_byte text (x ∷ []))
      ∙ append_assoc (flat_map escaped_byte text) (flat_map escaped_byte (x ∷ [])) (drop (at + n) all)
      ∙ ap (λ l. flat_map escaped_byte text ++ l) (ap (λ l. l ++ drop (at + n) all) (append-nil (escaped_byte x) ∙ esc) ∙ ap (λ l. front ++ l) (rest_at n) ∙ sym e)
      ∙ taken
    where
      rest_at : (n : ℕ) → drop (at + n) all ≡ drop n (drop at all)
      rest_at n = sym (drop-drop n at all)

  -- what is left after a byte that isn't 0 was taken, and the same of a byte 0 and of the end
  module _ (whole : IsEnded all → IsEnded (drop at all)) (le : at ≤ length all) where
    pub byte_within : (byte : ℕ) → drop at all ≡ byte ∷ drop 1 (drop at all) → at + 1 ≤ length all
    byte_within byte e = within_by 1 (byte ∷ []) refl e le

    pub byte_taken : (byte : ℕ) → 0 < byte → drop at all ≡ byte ∷ drop 1 (drop at all) → flat_map escaped_byte (text ++ byte ∷ []) ++ drop (at + 1) all ≡ all
    byte_taken byte h e = taken_by 1 byte (byte ∷ []) e (escaped_one byte h)

    pub byte_whole : (byte : ℕ) → 0 < byte → drop at all ≡ byte ∷ drop 1 (drop at all) → IsEnded all → IsEnded (drop (at + 1) all)
    byte_whole byte h e ended =
        let before = whole ended in
        let after = after_byte byte (drop 1 (drop at all)) before.text before.more h (before.is ∙ e) in rw (← drop-drop 1 at all) after

    pub zero_within : drop at all ≡ 0 ∷ 255 ∷ drop 2 (drop at all) → at + 2 ≤ length all
    zero_within e = within_by 2 (0 ∷ 255 ∷ []) refl e le

    pub zero_taken : drop at all ≡ 0 ∷ 255 ∷ drop 2 (drop at all) → flat_map escaped_byte (text ++ 0 ∷ []) ++ drop (at + 2) all ≡ all
    zero_taken e = taken_by 2 0 (0 ∷ 255 ∷ []) e refl

    pub zero_whole : drop at all ≡ 0 ∷ 255 ∷ drop 2 (drop at all) → IsEnded all → IsEnded (drop (at + 2) all)
    zero_whole e ended =
        let before = whole ended in
        let after = after_zero (drop 2 (drop at all)) before.text before.more (before.is ∙ e) in rw (← drop-drop 2 at all) after

    pub end_taken : drop at all ≡ 0 ∷ 0 ∷ drop 2 (drop at all) → TakesText all text (at + 2)
    end_taken e = record {
      within = within_by 2 (0 ∷ 0 ∷ []) refl e le;
      is =
          append_assoc (flat_map escaped_byte text) (0 ∷ 0 ∷ []) (drop (at + 2) all)
          ∙ ap (λ l. flat_map escaped_byte text ++ 0 ∷ 0 ∷ l) (sym (drop-drop 2 at all))
          ∙ ap (λ l. flat_map escaped_byte text ++ l) (sym e)
          ∙ taken;
    }
