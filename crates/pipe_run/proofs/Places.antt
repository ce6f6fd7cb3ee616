-- The positions of chunks, and of those that a source gives.
use Rattle.std.proofs.Common.{◌≡◌, ℕ, zero, suc, ◌+◌, ◌-◌, ◌*◌, ◌<◌, ◌≤◌, min, List, [], ◌∷◌, ◌++◌, length, take, drop, refl, ap, sym, ◌∙◌, arith, append_assoc, append-nil, length-append, length-drop}
use Rattle.std.specs.List.{AllByRecursion, flat_map, range_with_len}
use Rattle.std.proofs.lemmas.List.{take-append-drop}
use Rattle.pipe_schema.specs.Rows.{Row}
use Rattle.pipe_schema.specs.declared.field.Field.{Field}
use Rattle.pipe_ops.specs.Batches.{cut}
use Rattle.pipe_ops.specs.declared.source.Morsel.{Morsel}

-- the positions of a chunk's rows
abbrev pub places : Morsel → List ℕ
places m = range_with_len m.from (length m.chunk.frame.rows)

-- a chunk of some rows of the frame of a number
pub record IsPart (part : ℕ) (m : Morsel) : Type 0 where
  pub part_is : m.part ≡ part
  pub some : 1 ≤ length m.chunk.frame.rows

-- numbers from one on, in two parts
range_parts : (a n m : ℕ) → range_with_len a n ++ range_with_len (a + n) m ≡ range_with_len a (n + m)
range_parts a zero m = let e : a + 0 ≡ a = omega arith in let f : 0 + m ≡ m = omega arith in rw (e, f) refl
range_parts a (suc n) m =
    let e : a + suc n ≡ a + 1 + n = omega arith in
    let f : suc n + m ≡ suc (n + m) = omega arith in
    rw (e, f) (ap (λ l. a ∷ l) (range_parts (a + 1) n m))

-- where all rows are taken, it doesn't matter from where on none is left
step_by : (size from len a b : ℕ) → a + b ≡ len → ((b ≡ 0 → ⊥) → a ≡ size) → range_with_len from a ++ range_with_len (from + size) b ≡ range_with_len from len
step_by size from len a zero e h =
    let f : a ≡ len = omega (arith, e) in
    append-nil (range_with_len from a) ∙ ap (range_with_len from) f
step_by size from len a (suc b) e h =
    let full : a ≡ size = h (λ k. omega (arith, k)) in
    ap (λ k. range_with_len from a ++ range_with_len (from + k) (suc b)) (sym full) ∙ range_parts from a (suc b) ∙ ap (range_with_len from) e

take_few : (k : ℕ) (l : List Row) → length (take k l) ≤ k
take_few zero l = omega arith
take_few (suc k) [] = omega arith
take_few (suc k) (y ∷ l) = omega (arith, take_few k l)

some_left : (n : ℕ) → (n ≡ 0 → ⊥) → 1 ≤ n
some_left zero k = absurd (k refl)
some_left (suc n) k = omega arith

full_take : (size : ℕ) (rows : List Row) → (length (drop size rows) ≡ 0 → ⊥) → length (take size rows) ≡ size
full_take size rows h =
    let whole = ap length (take-append-drop size rows) in
    let both = length-append (take size rows) (drop size rows) in
    let left = length-drop size rows in
    omega (arith, whole, both, left, take_few size rows, some_left (length (drop size rows)) h)

dropped : (a b : ℕ) (l : List Row) → length (drop b (drop a l)) ≡ length (drop (a + b) l)
dropped a b l = omega (arith, length-drop b (drop a l), length-drop a l, length-drop (a + b) l)

zero_drop : (k : ℕ) (l : List Row) → length l ≡ 0 → length (drop k l) ≡ 0
zero_drop k l e = omega (arith, length-drop k l, e)

-- the chunks of a frame and what is left of it
pub cut_places : (n size index part from : ℕ) (schema : List Field) (rows : List Row)
    → flat_map places (cut n size index part from schema rows) ++ range_with_len (from + n * size) (length (drop (n * size) rows)) ≡ range_with_len from (length rows)
cut_places zero size index part from schema rows =
    let e : 0 * size ≡ 0 = omega arith in
    let f : from + 0 ≡ from = omega arith in
    rw (e, f) refl
cut_places (suc n) size index part from schema [] =
    ap (range_with_len (from + suc n * size)) (zero_drop (suc n * size) [] refl)
cut_places (suc n) size index part from schema (x ∷ xs) =
    let rows : List Row = x ∷ xs in
    let first = range_with_len from (length (take size rows)) in
    let others = flat_map places (cut n size (index + 1) part (from + size) schema (drop size rows)) in
    let e : from + suc n * size ≡ from + size + n * size = omega arith in
    let f : size + n * size ≡ suc n * size = omega arith in
    let rest = range_with_len (from + size + n * size) (length (drop (n * size) (drop size rows))) in
    let later : others ++ rest ≡ range_with_len (from + size) (length (drop size rows)) = cut_places n size (index + 1) part (from + size) schema (drop size rows) in
    let whole = ap length (take-append-drop size rows) in
    let both = length-append (take size rows) (drop size rows) in
    let end : range_with_len (from + suc n * size) (length (drop (suc n * size) rows)) ≡ rest =
    ap (λ k. range_with_len k (length (drop (suc n * size) rows))) e ∙ ap (range_with_len (from + size + n * size)) (ap (λ k. length (drop k rows)) (sym f) ∙ sym (dropped size (n * size) rows)) in
    ap (λ l. (first ++ others) ++ l) end
    ∙ append_assoc first others rest
    ∙ ap (λ l. first ++ l) later
    ∙ step_by size from (length rows) (length (take size rows)) (length (drop size rows)) (omega (arith, whole, both)) (λ h. full_take size rows h)

pub cut_parts : (n size index part from : ℕ) (schema : List Field) (rows : List Row) → 0 < size → AllByRecursion (IsPart part) (cut n size index part from schema rows)
cut_parts zero size index part from schema rows some = tt
cut_parts (suc n) size index part from schema [] some = tt
cut_parts (suc n) zero index part from schema (x ∷ xs) some = absurd (omega (arith, some))
cut_parts (suc n) (suc size) index part from schema (x ∷ xs) some =
    (record { part_is = refl; some = omega arith }, cut_parts n (suc size) (index + 1) part (from + suc size) schema (drop size xs) (omega arith))

-- what is left after a batch goes on where the batch ended
pub no_matter : (from n len left : ℕ) → left ≡ len - n → range_with_len (from + min n len) left ≡ range_with_len (from + n) left
no_matter from n len zero e = refl
no_matter from n len (suc left) e = let f : min n len ≡ n = omega (arith, e) in ap (λ k. range_with_len (from + k) (suc left)) f
