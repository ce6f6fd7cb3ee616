-- Byte strings with their marks.
use Rattle.std.proofs.Common.{◌≡◌, ℕ, zero, suc, ◌<◌, Bool, List, [], ◌∷◌, ◌++◌, length, get_or, map, refl, ap, sym, ◌∙◌, arith}
use Rattle.std.specs.Prelude.{false, replicate}
use Rattle.pipe_rows.specs.Encoded.{Encoded, unmarked, marked_rows}

-- as many rows as byte strings
pub length-marked_rows : (rows : List (List ℕ)) (marks : List Bool) → length marks ≡ length rows → length (marked_rows rows marks) ≡ length rows
length-marked_rows [] marks h = refl
length-marked_rows (_ ∷ _) [] h = cc
length-marked_rows (_ ∷ rows) (_ ∷ marks) h = ap suc (length-marked_rows rows marks (omega arith))

-- the row at a place
pub get_or-marked_rows : (rows : List (List ℕ)) (marks : List Bool) (i : ℕ) (mark : Bool) (d : Encoded) → length marks ≡ length rows → i < length rows → get_or (marked_rows rows marks) i d ≡ record { bytes = get_or rows i []; has_null = get_or marks i mark }
get_or-marked_rows [] marks i mark d h lt = absurd (omega arith)
get_or-marked_rows (_ ∷ _) [] i mark d h lt = cc
get_or-marked_rows (_ ∷ _) (_ ∷ _) zero mark d h lt = refl
get_or-marked_rows (_ ∷ rows) (_ ∷ marks) (suc i) mark d h lt = get_or-marked_rows rows marks i mark d (omega arith) (omega arith)

pub marked_rows-bytes : (rows : List (List ℕ)) (marks : List Bool) (i : ℕ) (d : Encoded) → length marks ≡ length rows → i < length rows → (get_or (marked_rows rows marks) i d).bytes ≡ get_or rows i []
marked_rows-bytes rows marks i d h lt = ap (λ (e : Encoded). e.bytes) (get_or-marked_rows rows marks i false d h lt)

pub marked_rows-mark : (rows : List (List ℕ)) (marks : List Bool) (i : ℕ) (mark : Bool) (d : Encoded) → length marks ≡ length rows → i < length rows → mark ≡ get_or marks i mark → (get_or (marked_rows rows marks) i d).has_null ≡ mark
marked_rows-mark rows marks i mark d h lt e = ap (λ (r : Encoded). r.has_null) (get_or-marked_rows rows marks i mark d h lt) ∙ sym e

-- rows behind rows
pub marked_rows-append : (rows more : List (List ℕ)) (marks further : List Bool) → length marks ≡ length rows → marked_rows (rows ++ more) (marks ++ further) ≡ marked_rows rows marks ++ marked_rows more further
marked_rows-append [] more [] further h = refl
marked_rows-append [] more (_ ∷ _) further h = cc
marked_rows-append (_ ∷ _) more [] further h = cc
marked_rows-append (bytes ∷ rows) more (mark ∷ marks) further h = ap (λ l. record { bytes = bytes; has_null = mark } ∷ l) (marked_rows-append rows more marks further (omega arith))

-- rows without a mark
pub marked_rows-none : (rows : List (List ℕ)) → marked_rows rows (replicate (length rows) false) ≡ map unmarked rows
marked_rows-none [] = refl
marked_rows-none (bytes ∷ rows) = ap (λ l. unmarked bytes ∷ l) (marked_rows-none rows)

pub ruleset marked_rules = (length-marked_rows, marked_rows-bytes, marked_rows-mark, marked_rows-append, marked_rows-none)
