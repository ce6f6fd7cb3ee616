-- The cells of columns at a place.
use Rattle.std.proofs.Common.{◌≡◌, ℕ, zero, suc, ◌+◌, ◌≤◌, true, List, [], ◌∷◌, ◌++◌, append-nil, append_assoc, refl, ap, sym, ◌∙◌, arith}
use Rattle.std.specs.Borrow.{Bor}
use Rattle.std.specs.List.{AllByRecursion, flat_map, range_with_len}
use Rattle.pipe_schema.specs.Cell.{eq_dtype}
use Rattle.pipe_column.specs.Series.{Cells}
use Rattle.pipe_schema.specs.declared.data_type.DataType.{DataType}
use Rattle.pipe_schema.specs.declared.data_type.DataType.TheVariants as dtype
use Rattle.pipe_column.proofs.SeriesCells.{cell_at-map}
use Rattle.pipe_source.specs.Lent.{HasCells}

-- a type is itself
dtype-refl : (a : DataType) → eq_dtype a a ≡ true
dtype-refl dtype.Int32 = refl
dtype-refl dtype.Int64 = refl
dtype-refl dtype.UInt32 = refl
dtype-refl dtype.UInt64 = refl
dtype-refl dtype.Boolean = refl
dtype-refl dtype.String = refl
dtype-refl dtype.Binary = refl
dtype-refl dtype.Int128 = refl

pub same_dtype : (a b : DataType) → a ≡ b → eq_dtype a b ≡ true
same_dtype a b e = rw e (dtype-refl b)

-- columns of so many cells have fewer too
pub cells_there : (dtype : DataType) (end fewer : ℕ) (columns : List (Bor Cells)) → AllByRecursion (HasCells dtype end) columns → fewer ≤ end → AllByRecursion (HasCells dtype fewer) columns
cells_there dtype end fewer [] has less = tt
cells_there dtype end fewer (c ∷ columns) has less =
    let long = has.0.1 in ((has.0.0, omega arith), cells_there dtype end fewer columns has.1 less)

-- one number more
flat-from : {X : Type 0} (f : ℕ → List X) (a n : ℕ) → flat_map f (range_with_len a (suc n)) ≡ flat_map f (range_with_len a n) ++ f (a + n)
flat-from f a zero = append-nil (f a) ∙ ap f (let e : a ≡ a + 0 = omega arith in e)
flat-from f a (suc n) =
    ap (λ l. f a ++ l) (flat-from f (a + 1) n)
    ∙ sym (append_assoc (f a) (flat_map f (range_with_len (a + 1) n)) (f (a + 1 + n)))
    ∙ ap (λ k. (f a ++ flat_map f (range_with_len (a + 1) n)) ++ f k) (let e : a + 1 + n ≡ a + suc n = omega arith in e)

pub flat_more : {X : Type 0} (f : ℕ → List X) (n : ℕ) → flat_map f (range_with_len 0 (n + 1)) ≡ flat_map f (range_with_len 0 n) ++ f n
flat_more f n =
    let next : n + 1 ≡ suc n = omega arith in
    let at : 0 + n ≡ n = omega arith in
    ap (λ k. flat_map f (range_with_len 0 k)) next ∙ flat-from f 0 n ∙ ap (λ k. flat_map f (range_with_len 0 n) ++ f k) at

pub flat_next : {X : Type 0} (f : ℕ → List X) (a n : ℕ) → flat_map f (range_with_len a (n + 1)) ≡ flat_map f (range_with_len a n) ++ f (a + n)
flat_next f a n = let next : n + 1 ≡ suc n = omega arith in ap (λ k. flat_map f (range_with_len a k)) next ∙ flat-from f a n

pub ruleset flat_rules = (cell_at-map, same_dtype, cells_there, flat_next)
