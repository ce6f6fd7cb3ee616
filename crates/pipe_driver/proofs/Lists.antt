-- Lists that are seen from their end.
use Rattle.std.proofs.Common.{◌≡◌, ◌≢◌, ℕ, ◌-◌, ◌<◌, List, length, get_or, set, reverse, sym, ap, ◌∙◌, inl, inr, arith}
use Rattle.std.proofs.lemmas.List.{ext_get_or, length-set, length-reverse, get_or-reverse, get_or-set_same, get_or-set_other}
use Rattle.std.proofs.lemmas.Bool.{cases_eq}

pub set-reverse : {X : Type 0} (xs : List X) (k : ℕ) (v d : X) → k < length xs → reverse (set xs (length xs - 1 - k) v) ≡ set (reverse xs) k v
set-reverse xs k v d lt =
    let j = length xs - 1 - k in
    let sized : length (set xs j v) ≡ length xs = length-set xs j v in
    let long : length (reverse (set xs j v)) ≡ length xs = length-reverse (set xs j v) ∙ sized in
    let other : length (set (reverse xs) k v) ≡ length xs = length-set (reverse xs) k v ∙ length-reverse xs in
    ext_get_or d (reverse (set xs j v)) (set (reverse xs) k v) (long ∙ sym other) (λ i below.
    let inside : i < length xs = omega arith in
    let read : get_or (reverse (set xs j v)) i d ≡ get_or (set xs j v) (length xs - 1 - i) d =
    get_or-reverse (set xs j v) i d (omega arith) ∙ ap (λ n. get_or (set xs j v) (n - 1 - i) d) sized in
    let back : get_or (reverse xs) i d ≡ get_or xs (length xs - 1 - i) d = get_or-reverse xs i d inside in
    let long_too : k < length (reverse xs) = let e = length-reverse xs in omega arith in
    let same : i ≡ k → get_or (reverse (set xs j v)) i d ≡ get_or (set (reverse xs) k v) i d = λ e. (
    let there : length xs - 1 - i ≡ j = ap (λ n. length xs - 1 - n) e in
    read ∙ ap (λ n. get_or (set xs j v) n d) there ∙ get_or-set_same xs j v d (omega arith)
    ∙ sym (ap (λ n. get_or (set (reverse xs) k v) n d) e ∙ get_or-set_same (reverse xs) k v d long_too)) in
    let differ : i ≢ k → get_or (reverse (set xs j v)) i d ≡ get_or (set (reverse xs) k v) i d = λ ne. (
    let apart : length xs - 1 - i ≢ j = λ e. ne (omega arith) in
    read ∙ get_or-set_other xs j (length xs - 1 - i) v d apart ∙ sym back
    ∙ sym (get_or-set_other (reverse xs) k i v d ne)) in
    elim (cases_eq i k) [ inl e ↦ same e | inr ne ↦ differ ne ])

-- the same of a list that is seen reversed
pub set-seen : {X : Type 0} (xs seen : List X) (n k : ℕ) (v : X) → reverse xs ≡ seen → length xs ≡ n → k < length seen → reverse (set xs (n - 1 - k) v) ≡ set seen k v
set-seen xs seen n k v e sized lt =
    let inside : k < length xs = let r = length-reverse xs in let s = ap length e in omega arith in
    ap (λ m. reverse (set xs (m - 1 - k) v)) (sym sized) ∙ set-reverse xs k v v inside ∙ ap (λ l. set l k v) e
