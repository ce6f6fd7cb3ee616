-- The steps of writing an ordered encoding.
use Rattle.std.proofs.Common.{◌≡◌, ℕ, zero, suc, ◌+◌, ◌<◌, ◌≤◌, Bool, true, false, List, [], ◌∷◌, ◌++◌, length, get_or, drop, refl, ap, sym, ◌∙◌, arith}
use Rattle.std.specs.List.{flat_map}
use Rattle.std.proofs.lemmas.List.{map-append, length-map, length-append}
use Rattle.pipe_rows.specs.Ordered.{complement, directed_bytes, escaped_byte, ended_bytes}
use Rattle.std.proofs.Math.Seq.{drop-cons}

pub directed_bytes-append : (d : Bool) (xs ys : List ℕ) → directed_bytes d (xs ++ ys) ≡ directed_bytes d xs ++ directed_bytes d ys
directed_bytes-append true xs ys = map-append complement xs ys
directed_bytes-append false xs ys = refl

pub length-directed : (d : Bool) (xs : List ℕ) → length (directed_bytes d xs) ≡ length xs
length-directed true xs = length-map xs complement
length-directed false xs = refl

pub length-ended : (xs : List ℕ) → length (ended_bytes xs) ≡ length (flat_map escaped_byte xs) + 2
length-ended xs = length-append (flat_map escaped_byte xs) (0 ∷ 0 ∷ [])

-- the next byte of those that are left
pub drop_one : (xs : List ℕ) (k : ℕ) → k < length xs → drop k xs ≡ get_or xs k 0 ∷ drop (k + 1) xs
drop_one xs k lt = let next : suc k ≡ k + 1 = omega arith in drop-cons xs k 0 lt ∙ ap (λ n. get_or xs k 0 ∷ drop n xs) next

pub escaped_one : (d : Bool) (xs : List ℕ) (k : ℕ) → k < length xs → directed_bytes d (flat_map escaped_byte (drop k xs)) ≡ directed_bytes d (escaped_byte (get_or xs k 0)) ++ directed_bytes d (flat_map escaped_byte (drop (k + 1) xs))
escaped_one d xs k lt = ap (λ l. directed_bytes d (flat_map escaped_byte l)) (drop_one xs k lt) ∙ directed_bytes-append d (escaped_byte (get_or xs k 0)) (flat_map escaped_byte (drop (k + 1) xs))

escapes_long : (xs : List ℕ) → length xs ≤ length (flat_map escaped_byte xs)
escapes_long [] = omega arith
escapes_long (zero ∷ xs) = let rest = escapes_long xs in omega arith
escapes_long (suc x ∷ xs) = let rest = escapes_long xs in omega arith

-- bytes that don't grow have no 0
pub none_escaped : (xs : List ℕ) → length xs ≡ length (flat_map escaped_byte xs) → flat_map escaped_byte xs ≡ xs
none_escaped [] e = refl
none_escaped (zero ∷ xs) e = let rest = escapes_long xs in absurd (omega (arith, e))
none_escaped (suc x ∷ xs) e = ap (λ l. suc x ∷ l) (none_escaped xs (omega (arith, e)))

-- the end of a text
pub ended_last : (d : Bool) (last : ℕ) (xs : List ℕ) → last ∷ [] ≡ directed_bytes d (0 ∷ []) → directed_bytes d (flat_map escaped_byte xs) ++ last ∷ last ∷ [] ≡ directed_bytes d (ended_bytes xs)
ended_last true last xs e =
    let is : last ≡ 255 = ap (λ l. get_or l 0 0) e in
    ap (λ n. directed_bytes true (flat_map escaped_byte xs) ++ n ∷ n ∷ []) is ∙ sym (directed_bytes-append true (flat_map escaped_byte xs) (0 ∷ 0 ∷ []))
ended_last false last xs e =
    let is : last ≡ 0 = ap (λ l. get_or l 0 0) e in
    ap (λ n. flat_map escaped_byte xs ++ n ∷ n ∷ []) is

pub ruleset directed_rules = (directed_bytes-append)

pub ruleset width_rules = (length-directed, length-ended)
