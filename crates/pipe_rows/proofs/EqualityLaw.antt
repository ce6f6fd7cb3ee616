-- Equality encodings are equal exactly where the rows are.
use Rattle.std.proofs.Common.{◌≡◌, ℕ, ◌<◌, ◌^◌, Bool, true, false, List, [], ◌∷◌, ◌++◌, length, take, drop, refl, ap, sym, ◌∙◌, arith, append_assoc, to_z-of_z}
use Rattle.std.specs.Int.{w32, w64, w128, to_le_bytes, cast_unsigned, cast_signed}
use Rattle.std.specs.Str.{bytes_eq}
use Rattle.std.specs.Cmp.Lexicographic.{bytes_decides, pointwise_decides}
use Rattle.std.proofs.lemmas.List.{take_at, drop_at}
use Rattle.std.proofs.lemmas.Int.{ints}
use Rattle.pipe_schema.proofs.Cells.{eq_cell-sound, eq_cell-refl}
use Rattle.pipe_schema.specs.Cell.{eq_cell}
use Rattle.pipe_schema.specs.Rows.{Row, eq_row}
use Rattle.pipe_schema.specs.declared.any_value.AnyValue.{AnyValue}
use Rattle.pipe_schema.specs.declared.any_value.AnyValue.TheVariants as cell
use Rattle.pipe_schema.specs.declared.data_type.DataType.{DataType}
use Rattle.pipe_schema.specs.declared.data_type.DataType.TheVariants as dtype
use Rattle.pipe_rows.proofs.Decided.{number_apart}
use Rattle.pipe_rows.specs.Equality.{equality_cell, equality_row, sized_bytes, IsCell, IsRow}

-- what stands before and after a place
apart : (n : ℕ) (p q x y : List ℕ) → length p ≡ n → length q ≡ n → p ++ x ≡ q ++ y → (p ≡ q) × (x ≡ y)
apart n p q x y hp hq e = (sym (take_at p x n hp) ∙ ap (take n) e ∙ take_at q y n hq, sym (drop_at p x n hp) ∙ ap (drop n) e ∙ drop_at q y n hq)

sized_apart : (s t x y : List ℕ) → length s < 2 ^ 64 → length t < 2 ^ 64 → sized_bytes s ++ x ≡ sized_bytes t ++ y → (s ≡ t) × (x ≡ y)
sized_apart s t x y hs ht e =
    let both = number_apart 8 (length s) (length t) (s ++ x) (t ++ y) hs ht (sym (append_assoc (to_le_bytes w64 (length s)) s x) ∙ e ∙ append_assoc (to_le_bytes w64 (length t)) t y) in
    apart (length t) s t x y both.0 refl both.1

-- a cell's bytes tell the cell, whatever follows
pub cell_apart : (t : DataType) (a b : AnyValue) (x y : List ℕ) → IsCell t a → IsCell t b → equality_cell a ++ x ≡ equality_cell b ++ y → (a ≡ b) × (x ≡ y)
cell_apart t cell.Null cell.Null x y ha hb e = (refl, ap (drop 1) e)
cell_apart dtype.Int32 (cell.Int32 a) (cell.Int32 b) x y ha hb e =
    let both = number_apart 4 (cast_unsigned w32 a) (cast_unsigned w32 b) x y (omega (arith, ints)) (omega (arith, ints)) (ap (drop 1) e) in
    (ap cell.Int32 (sym (to_z-of_z ha.1) ∙ ap (cast_signed w32) both.0 ∙ to_z-of_z hb.1), both.1)
cell_apart dtype.Int64 (cell.Int64 a) (cell.Int64 b) x y ha hb e =
    let both = number_apart 8 (cast_unsigned w64 a) (cast_unsigned w64 b) x y (omega (arith, ints)) (omega (arith, ints)) (ap (drop 1) e) in
    (ap cell.Int64 (sym (to_z-of_z ha.1) ∙ ap (cast_signed w64) both.0 ∙ to_z-of_z hb.1), both.1)
cell_apart dtype.UInt32 (cell.UInt32 a) (cell.UInt32 b) x y ha hb e = let both = number_apart 4 a b x y ha.1 hb.1 (ap (drop 1) e) in (ap cell.UInt32 both.0, both.1)
cell_apart dtype.UInt64 (cell.UInt64 a) (cell.UInt64 b) x y ha hb e = let both = number_apart 8 a b x y ha.1 hb.1 (ap (drop 1) e) in (ap cell.UInt64 both.0, both.1)
cell_apart dtype.Boolean (cell.Boolean true) (cell.Boolean true) x y ha hb e = (refl, ap (drop 2) e)
cell_apart dtype.Boolean (cell.Boolean false) (cell.Boolean false) x y ha hb e = (refl, ap (drop 2) e)
cell_apart dtype.Boolean (cell.Boolean true) (cell.Boolean false) x y ha hb e = cc
cell_apart dtype.Boolean (cell.Boolean false) (cell.Boolean true) x y ha hb e = cc
cell_apart dtype.String (cell.String s) (cell.String t) x y ha hb e = let both = sized_apart s t x y ha.1.0 hb.1.0 (ap (drop 1) e) in (ap cell.String both.0, both.1)
cell_apart dtype.Binary (cell.Binary s) (cell.Binary t) x y ha hb e = let both = sized_apart s t x y ha.1.0 hb.1.0 (ap (drop 1) e) in (ap cell.Binary both.0, both.1)
cell_apart dtype.Int128 (cell.Int128 a) (cell.Int128 b) x y ha hb e =
    let both = number_apart 16 (cast_unsigned w128 a) (cast_unsigned w128 b) x y (omega (arith, ints)) (omega (arith, ints)) (ap (drop 1) e) in
    (ap cell.Int128 (sym (to_z-of_z ha.1) ∙ ap (cast_signed w128) both.0 ∙ to_z-of_z hb.1), both.1)
cell_apart _ _ _ x y ha hb e = cc

-- a row's bytes tell the row
pub row_apart : (dtypes : List DataType) (a b : Row) → IsRow dtypes a → IsRow dtypes b → equality_row a ≡ equality_row b → a ≡ b
row_apart [] [] [] ha hb e = refl
row_apart [] [] (_ ∷ _) ha hb e = absurd hb
row_apart [] (_ ∷ _) _ ha hb e = absurd ha
row_apart (_ ∷ _) [] _ ha hb e = absurd ha
row_apart (_ ∷ _) (_ ∷ _) [] ha hb e = absurd hb
row_apart (t ∷ dtypes) (x ∷ a) (y ∷ b) ha hb e =
    let both = cell_apart t x y (equality_row a) (equality_row b) ha.0 hb.0 e in
    ap (λ c. c ∷ a) both.0 ∙ ap (λ l. y ∷ l) (row_apart dtypes a b ha.1 hb.1 both.1)

-- two tests that hold of the same are one
same_tests : (p q : Bool) → (p ≡ true → q ≡ true) → (q ≡ true → p ≡ true) → p ≡ q
same_tests true q f g = sym (f refl)
same_tests false true f g = g refl
same_tests false false f g = refl

cells_decide : (a b : AnyValue) → (eq_cell a b ≡ true → a ≡ b) × (a ≡ b → eq_cell a b ≡ true)
cells_decide a b = (eq_cell-sound a b, λ e. rw e (eq_cell-refl b))

-- the test of two rows decides whether they are one
pub rows_decide : (a b : Row) → (eq_row a b ≡ true → a ≡ b) × (a ≡ b → eq_row a b ≡ true)
rows_decide a b = pointwise_decides cells_decide a b

-- the law
pub equal_rows : (dtypes : List DataType) (a b : Row) → IsRow dtypes a → IsRow dtypes b → bytes_eq (equality_row a) (equality_row b) ≡ eq_row a b
equal_rows dtypes a b ha hb =
    same_tests (bytes_eq (equality_row a) (equality_row b)) (eq_row a b)
    (λ e. (rows_decide a b).1 (row_apart dtypes a b ha hb ((bytes_decides (equality_row a) (equality_row b)).0 e)))
    (λ e. (bytes_decides (equality_row a) (equality_row b)).1 (ap equality_row ((rows_decide a b).0 e)))
