-- The operators between two sinks, cut to those that are there.
use Rattle.std.proofs.Common.{◌≡◌, ℕ, ◌-◌, ◌<◌, ◌≤◌, List, length, take, drop, refl, sym, ap, ◌∙◌, inl, inr, arith, min, length-drop}
use Rattle.std.proofs.lemmas.Bool.{cases_lt}
use Rattle.std.proofs.lemmas.List.{take_all, drop_all}
use Rattle.pipe_driver.specs.Texts.{between}

cut : (ops : List ℕ) (first offset end start : ℕ) → end ≡ min offset (length ops) → start ≡ min first end → take (end - start) (drop start ops) ≡ take (offset - first) (drop first ops)
cut ops first offset end start is_end is_start =
    let left = length-drop start ops in
    let right = length-drop first ops in
    let short : offset ≤ length ops → take (end - start) (drop start ops) ≡ take (offset - first) (drop first ops) = λ le. (
    let none : offset < first → take (end - start) (drop start ops) ≡ take (offset - first) (drop first ops) = λ lt. (
    let a : end - start ≡ 0 = omega arith in
    let b : offset - first ≡ 0 = omega arith in
    ap (λ n. take n (drop start ops)) a ∙ sym (ap (λ n. take n (drop first ops)) b)) in
    let some : first ≤ offset → take (end - start) (drop start ops) ≡ take (offset - first) (drop first ops) = λ ge. (
    let a : start ≡ first = omega arith in
    let b : end - start ≡ offset - first = omega arith in
    ap (λ n. take n (drop start ops)) b ∙ ap (λ n. take (offset - first) (drop n ops)) a) in
    elim (cases_lt offset first) [ inl lt ↦ none lt | inr ge ↦ some ge ]) in
    let long : length ops < offset → take (end - start) (drop start ops) ≡ take (offset - first) (drop first ops) = λ gt. (
    let all : take (end - start) (drop start ops) ≡ drop start ops = take_all (end - start) (drop start ops) (omega arith) in
    let other : take (offset - first) (drop first ops) ≡ drop first ops = take_all (offset - first) (drop first ops) (omega arith) in
    let none : length ops < first → drop start ops ≡ drop first ops = λ lt. drop_all start ops (omega arith) ∙ sym (drop_all first ops (omega arith)) in
    let some : first ≤ length ops → drop start ops ≡ drop first ops = λ ge. (let a : start ≡ first = omega arith in ap (λ n. drop n ops) a) in
    all ∙ elim (cases_lt (length ops) first) [ inl lt ↦ none lt | inr ge ↦ some ge ] ∙ sym other) in
    elim (cases_lt (length ops) offset) [ inl gt ↦ long gt | inr le ↦ short le ]

pub between_cut : (operators : List ℕ) (first offset : ℕ)
    → take (min offset (length operators) - min first (min offset (length operators))) (drop (min first (min offset (length operators))) operators) ≡ between operators first offset
between_cut operators first offset = cut operators first offset (min offset (length operators)) (min first (min offset (length operators))) refl refl
