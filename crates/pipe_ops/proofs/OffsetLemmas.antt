-- Pieces of a chunk: how they are made one by one, and that they cover it.
use Rattle.std.proofs.Common.{◌≡◌, ℕ, zero, suc, ◌+◌, ◌-◌, ◌*◌, ◌/◌, ◌<◌, ◌≤◌, List, [], ◌∷◌, ◌++◌, refl, ap, sym, ◌∙◌, arith, append_assoc}
use Rattle.std.proofs.Math.Nat.{mul-suc, div-mul-le_self}
use Rattle.pipe_ops.specs.Offsets.{pieces_from, split_pieces, Covers}

-- one piece more of two or more
pieces-more : (at size count end : ℕ) → 2 ≤ count → pieces_from at size count end ≡ (at, size) ∷ pieces_from (at + size) size (count - 1) end
pieces-more at size zero end h = absurd (omega arith)
pieces-more at size (suc zero) end h = absurd (omega arith)
pieces-more at size (suc (suc n)) end h =
    let e : suc (suc n) - 1 ≡ suc n = omega arith in rw e refl

pieces-last : (at size count end : ℕ) → count ≡ 1 → pieces_from at size count end ≡ (at, end - at) ∷ []
pieces-last at size count end h = rw h refl

-- what was made, and what is still to be made
pub made-more : (made whole : List (ℕ × ℕ)) (at size i n end : ℕ) → i < n → made ++ pieces_from at size (n + 1 - i) end ≡ whole → (made ++ (at, size) ∷ []) ++ pieces_from (at + size) size (n + 1 - (i + 1)) end ≡ whole
made-more made whole at size i n end less e =
    let more = pieces-more at size (n + 1 - i) end (omega arith) in
    let one : n + 1 - i - 1 ≡ n + 1 - (i + 1) = omega arith in
    append_assoc made ((at, size) ∷ []) (pieces_from (at + size) size (n + 1 - (i + 1)) end)
    ∙ ap (λ k. made ++ ((at, size) ∷ pieces_from (at + size) size k end)) (sym one)
    ∙ ap (λ ps. made ++ ps) (sym more) ∙ e

pub made-last : (made whole : List (ℕ × ℕ)) (at size i n end : ℕ) → i ≡ n → made ++ pieces_from at size (n + 1 - i) end ≡ whole → made ++ (at, end - at) ∷ [] ≡ whole
made-last made whole at size i n end same e = ap (λ ps. made ++ ps) (sym (pieces-last at size (n + 1 - i) end (omega arith))) ∙ e

-- the pieces of a size cover the rows, where there is room for them
covers-from : (at size count end : ℕ) → 0 < size → 0 < count → at + size * count ≤ end → Covers at (pieces_from at size count end) end
covers-from at size zero end some any room = absurd (omega arith)
covers-from at size (suc zero) end some any room =
    let e = mul-suc size zero in
    (refl, omega arith, omega arith)
covers-from at size (suc (suc n)) end some any room =
    let e = mul-suc size (suc n) in
    (refl, some, covers-from (at + size) size (suc n) end some (omega arith) (omega arith))

-- pieces cover what they are split of
pub covers-split : (rows count : ℕ) → 1 ≤ count → 0 < rows / count → Covers 0 (split_pieces rows count) rows
covers-split rows count some size =
    let room = div-mul-le_self rows count in
    covers-from 0 (rows / count) count rows size (omega arith) (omega arith)
