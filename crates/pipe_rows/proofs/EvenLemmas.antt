-- Byte strings of one width.
use Rattle.std.proofs.Common.{◌≡◌, ℕ, zero, suc, ◌+◌, ◌*◌, ◌-◌, ◌<◌, ◌≤◌, List, [], ◌∷◌, ◌++◌, length, get_or, take, drop, refl, ap, sym, ◌∙◌, arith}
use Rattle.std.specs.Prelude.{true, slice_range}
use Rattle.std.proofs.lemmas.List.{take-append-le, drop-append-le, length-drop, length-append, drop-drop}
use native.Mathlib.Nat.{add-mul}
use Rattle.std.proofs.Math.Nat.{suc-mul}
use Rattle.pipe_column.specs.Column.{pieces_from, EndsFrom}
use Rattle.pipe_rows.specs.EvenRows.{even_rows, are_steps}

-- as many as were counted
pub length-even_rows : (width count : ℕ) (bytes : List ℕ) → length (even_rows width count bytes) ≡ count
length-even_rows width zero bytes = refl
length-even_rows width (suc count) bytes = ap suc (length-even_rows width count (drop width bytes))

-- the one at a place
pub even_at : (width count i : ℕ) (bytes : List ℕ) → i < count → get_or (even_rows width count bytes) i [] ≡ take width (drop (i * width) bytes)
even_at width zero i bytes lt = absurd (omega arith)
even_at width (suc count) zero bytes lt = let none : 0 ≡ 0 * width = omega arith in ap (λ n. take width (drop n bytes)) none
even_at width (suc count) (suc i) bytes lt =
    let next : width + i * width ≡ suc i * width = rw (suc-mul i width) (omega arith) in
    even_at width count i (drop width bytes) (omega arith) ∙ ap (take width) (drop-drop (i * width) width bytes ∙ ap (λ n. drop n bytes) next)

pub get_or-even_rows : (width count i start : ℕ) (bytes : List ℕ) → i < count → start ≡ i * width → get_or (even_rows width count bytes) i [] ≡ slice_range bytes start (start + width)
get_or-even_rows width count i start bytes lt e =
    let wide : start + width - start ≡ width = omega arith in
    even_at width count i bytes lt ∙ ap (λ n. take width (drop n bytes)) (sym e) ∙ ap (λ n. take n (drop start bytes)) (sym wide)

-- it lies within the bytes
pub even_within : (width count i : ℕ) → i < count → i * width + width ≤ count * width
even_within width zero i lt = absurd (omega arith)
even_within width (suc count) zero lt = rw (suc-mul count width) (omega arith)
even_within width (suc count) (suc i) lt = rw (suc-mul count width, suc-mul i width) (omega (arith, even_within width count i (omega arith)))

-- others behind them
pub even_rows-append : (width count more : ℕ) (bytes behind : List ℕ) → length bytes ≡ count * width → even_rows width (count + more) (bytes ++ behind) ≡ even_rows width count bytes ++ even_rows width more behind
even_rows-append width zero more [] behind h = let none : 0 + more ≡ more = omega arith in ap (λ n. even_rows width n behind) none
even_rows-append width zero more (_ ∷ _) behind h = absurd (omega arith)
even_rows-append width (suc count) more bytes behind h =
    let long : length bytes ≡ count * width + width = h ∙ suc-mul count width in
    let rest : length (drop width bytes) ≡ count * width = omega (arith, long, length-drop width bytes) in
    let n : suc count + more ≡ suc (count + more) = omega arith in
    ap (λ k. even_rows width k (bytes ++ behind)) n
    ∙ ap (λ l. l ∷ even_rows width (count + more) (drop width (bytes ++ behind))) (take-append-le width bytes behind (omega (arith, long)))
    ∙ ap (λ l. take width bytes ∷ even_rows width (count + more) l) (drop-append-le width bytes behind (omega (arith, long)))
    ∙ ap (λ l. take width bytes ∷ l) (even_rows-append width count more (drop width bytes) behind rest)

pub even_total : (width count more : ℕ) (bytes behind : List ℕ) → length bytes ≡ count * width → length behind ≡ more * width → length (bytes ++ behind) ≡ (count + more) * width
even_total width count more bytes behind h k = rw (length-append bytes behind, h, k, add-mul count more width) refl

-- ends in steps of a width are those of byte strings of that width
steps_head : (width start end : ℕ) (ends : List ℕ) → are_steps width start (end ∷ ends) ≡ true → (end ≡ start + width) × (are_steps width end ends ≡ true)
steps_head width start end ends h = grind arith

pub steps_pieces : (width start : ℕ) (bytes ends : List ℕ) → are_steps width start ends ≡ true → even_rows width (length ends) (drop start bytes) ≡ pieces_from start bytes ends
steps_pieces width start bytes [] h = refl
steps_pieces width start bytes (end ∷ ends) h =
    let both = steps_head width start end ends h in
    let here : end ≡ start + width = both.0 in
    let wide : width ≡ end - start = omega (arith, here) in
    let behind : start + width ≡ end = omega (arith, here) in
    ap (λ l. take width (drop start bytes) ∷ even_rows width (length ends) l) (drop-drop width start bytes ∙ ap (λ n. drop n bytes) behind)
    ∙ ap (λ n. take n (drop start bytes) ∷ even_rows width (length ends) (drop end bytes)) wide
    ∙ ap (λ l. slice_range bytes start end ∷ l) (steps_pieces width end bytes ends both.1)

pub steps_total : (width start total : ℕ) (ends : List ℕ) → are_steps width start ends ≡ true → EndsFrom start total ends → total ≡ start + length ends * width
steps_total width start total [] h e = omega (arith, e)
steps_total width start total (end ∷ ends) h e =
    let both = steps_head width start end ends h in
    rw (suc-mul (length ends) width) (omega (arith, both.0, steps_total width end total ends both.1 e.1))

pub ruleset even_rules = (length-even_rows, get_or-even_rows, even_within, even_rows-append, even_total)
