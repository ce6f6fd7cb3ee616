-- A part of a part of a list.
use Rattle.std.proofs.Common.{◌≡◌, ℕ, ◌+◌, ◌-◌, ◌≤◌, List, length, take, drop, ap, sym, subst, ◌∙◌, arith}
use Rattle.std.proofs.lemmas.List.{drop-drop, drop-take, take-take, length-take}

-- a part of a part is a part of the whole
part_of_part : {T : Type 0} (first len from count : ℕ) (xs : List T) → from + count ≤ len → take count (drop (first + from) xs) ≡ take count (drop from (take len (drop first xs)))
part_of_part first len from count xs h =
    let ys = drop first xs in
    let whole : from + (len - from) ≡ len = omega (arith, h) in
    let inner : drop from (take len ys) ≡ take (len - from) (drop from ys) = ap (λ n. drop from (take n ys)) (sym whole) ∙ drop-take from (len - from) ys in
    ap (take count) (sym (drop-drop from first xs)) ∙ sym (take-take count (len - from) (drop from ys) (omega (arith, h))) ∙ ap (take count) (sym inner)

-- the same of the part that the inner one is seen as
pub part_seen : {T : Type 0} (first len from count : ℕ) (xs : List T) {now : List T} → take len (drop first xs) ≡ now → from + count ≤ length now → take count (drop (first + from) xs) ≡ take count (drop from now)
part_seen first len from count xs v h =
    let Claim : List _ → Type 0 = λ now. from + count ≤ length now → take count (drop (first + from) xs) ≡ take count (drop from now) in
    let within : from + count ≤ length (take len (drop first xs)) → take count (drop (first + from) xs) ≡ take count (drop from (take len (drop first xs))) = λ at. part_of_part first len from count xs (omega (arith, at, length-take len (drop first xs))) in
    subst Claim v within h
