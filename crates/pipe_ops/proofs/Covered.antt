-- What pieces cover.
use Rattle.std.proofs.Common.{◌≡◌, ℕ, ◌+◌, ◌/◌, ◌<◌, ◌≤◌, List, [], ◌∷◌, ◌++◌, length, take, drop, ap, subst, sym, ◌∙◌, arith, drop-drop}
use Rattle.std.specs.List.{flat_map}
use Rattle.std.proofs.Math.Nat.{le-div_iff_mul-le}
use Rattle.std.proofs.Math.Seq.{drop-length}
use Rattle.std.proofs.lemmas.List.{take-append-drop}
use Rattle.pipe_ops.specs.Offsets.{split_pieces, joined_pieces, Covers, piece_of}
use Rattle.pipe_ops.proofs.OffsetLemmas.{covers-split}

pub split-covers : (rows n : ℕ) → 1 ≤ n → n ≤ rows → Covers 0 (split_pieces rows n) rows
split-covers rows n some few =
    let size : 1 ≤ rows / n = (le-div_iff_mul-le {k = n} {x = 1} {y = rows} (omega arith)).1 (omega arith) in
    covers-split rows n some (omega arith)

pub joined-covers : (at end : ℕ) (ps : List (ℕ × ℕ)) → Covers at ps end → Covers at (joined_pieces ps) end
joined-covers at end [] h = h
joined-covers at end (p ∷ []) h = h
joined-covers at end (p ∷ q ∷ ps) h =
    let both : at + p.1 + q.1 ≡ at + (p.1 + q.1) = omega arith in
    let some : 0 < p.1 + q.1 = omega (arith, h.1) in
    (h.0, some, joined-covers (at + (p.1 + q.1)) end ps (subst (λ n. Covers n ps end) both h.2.2))

covered-from : {X : Type 0} (rows : List X) (at : ℕ) (ps : List (ℕ × ℕ)) → Covers at ps (length rows) → flat_map (piece_of rows) ps ≡ drop at rows
covered-from rows at [] h = sym (ap (λ n. drop n rows) h ∙ drop-length rows)
covered-from rows at (p ∷ ps) h =
    ap (λ n. take p.1 (drop n rows) ++ flat_map (piece_of rows) ps) h.0
    ∙ ap (λ l. take p.1 (drop at rows) ++ l) (covered-from rows (at + p.1) ps h.2 ∙ sym (drop-drop p.1 at rows))
    ∙ take-append-drop p.1 (drop at rows)

pub covered-rows : {X : Type 0} (rows : List X) (ps : List (ℕ × ℕ)) → Covers 0 ps (length rows) → flat_map (piece_of rows) ps ≡ rows
covered-rows rows ps h = covered-from rows 0 ps h
