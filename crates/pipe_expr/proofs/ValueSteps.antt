-- From the values of the parts of an expression to its own.
use Rattle.std.proofs.Common.{◌≡◌, Bool, true, false, cond, List, [], ◌∷◌, Option, Some, None, is_some, length, map, replicate, refl, ap, sym, ◌∙◌, Bor}
use Rattle.std.proofs.lemmas.List.{length-map}
use Rattle.pipe_schema.specs.Cell.{eq_dtype, fits_dtype}
use Rattle.pipe_schema.specs.Rows.{Row}
use Rattle.pipe_frame.specs.Frame.{Table}
use Rattle.pipe_schema.specs.declared.any_value.AnyValue.{AnyValue}
use Rattle.pipe_schema.specs.declared.data_type.DataType.{DataType}
use Rattle.pipe_schema.specs.declared.field.Field.{Field}
use Rattle.pipe_schema.specs.declared.data_type.DataType.TheVariants as dtype
use Rattle.pipe_expr.specs.Types.{type_of, literal_type, not_type, null_test_type}
use Rattle.pipe_expr.specs.Values.{value_of, opposite_of, null_test_cell}
use Rattle.pipe_expr.specs.Nullables.{zip_with}
use Rattle.pipe_expr.specs.Operands.{operand_dtype, operand_cells}
use Rattle.pipe_expr.specs.Evaluation.{IsValueOf, type_of_two, value_of_two}
use Rattle.pipe_expr.specs.Formula.{Formula, Literal, Add, Sub, Mul, Eq, NotEq, Lt, LtEq, Gt, GtEq, And, Or, Not, IsNull, IsNotNull}
use Rattle.pipe_column.specs.Series.{Cells}
use Rattle.pipe_expr.specs.declared.operand.Operand.{Operand}
use Rattle.pipe_expr.specs.declared.operand.Operand.TheVariants as operand

-- ---- literals

literal_fits : (t : DataType) (v : AnyValue) → is_some (literal_type t v) ≡ true → fits_dtype t v ≡ true
literal_fits t v h =
    let split : (b : Bool) → is_some (cond b (Some t) None) ≡ true → b ≡ true = elim [ true ↦ λ e. refl | false ↦ λ e. cc ]
    in split (fits_dtype t v) h

constant_cells : (t : DataType) (v : AnyValue) (schema : List Field) (rows : List Row) → replicate (length rows) v ≡ map (value_of (Literal t v) schema) rows
constant_cells t v schema [] = refl
constant_cells t v schema (row ∷ rows) = ap (λ l. v ∷ l) (constant_cells t v schema rows)

pub literal_is_value : (t : DataType) (v : AnyValue) (table : Table) (b : Bor AnyValue) → b.now ≡ v → is_some (type_of (Literal t v) table.schema) ≡ true → IsValueOf (Literal t v) table (operand.Constant t b)
literal_is_value t v table b e h =
    let fits = literal_fits t v h in
    record {
      typed = rw fits refl;
      cells = rw e (constant_cells t v table.schema table.rows);
      sized = rw (e, fits) refl;
    }

-- ---- one side

map_same_map : (f g : Row → AnyValue) (h : AnyValue → AnyValue) (rows : List Row) → ((row : Row) → g row ≡ h (f row)) → map h (map f rows) ≡ map g rows
map_same_map f g h [] e = refl
map_same_map f g h (row ∷ rows) e = ap (λ x. x ∷ map h (map f rows)) (sym (e row)) ∙ ap (λ l. g row ∷ l) (map_same_map f g h rows e)

one_is_value : (f inner : Formula) (table : Table) (h : AnyValue → AnyValue) (o : Operand) (made : Cells) → ((row : Row) → value_of f table.schema row ≡ h (value_of inner table.schema row)) → type_of f table.schema ≡ Some (made.dtype) → IsValueOf inner table o → made.cells ≡ map h (operand_cells (length table.rows) o) → IsValueOf f table (operand.Owned made)
one_is_value f inner table h o made e t v m =
    let cells : made.cells ≡ map (value_of f table.schema) table.rows = m ∙ ap (map h) v.cells ∙ map_same_map (value_of inner table.schema) (value_of f table.schema) h table.rows e in
    record {
      typed = t;
      cells = cells;
      sized = ap length cells ∙ length-map table.rows (value_of f table.schema);
    }

not_typed : (t : Option DataType) → is_some (not_type t) ≡ true → not_type t ≡ Some dtype.Boolean
not_typed None h = cc
not_typed (Some a) h =
    let split : (b : Bool) → is_some (cond b (Some dtype.Boolean) None) ≡ true → cond b (Some dtype.Boolean) None ≡ Some dtype.Boolean = elim [ true ↦ λ e. refl | false ↦ λ e. cc ]
    in split (eq_dtype a dtype.Boolean) h

pub not_is_value : (inner : Formula) (table : Table) (o : Operand) (made : Cells) → IsValueOf inner table o → is_some (type_of (Not inner) table.schema) ≡ true → made.dtype ≡ dtype.Boolean → made.cells ≡ map opposite_of (operand_cells (length table.rows) o) → IsValueOf (Not inner) table (operand.Owned made)
not_is_value inner table o made v h d m = one_is_value (Not inner) inner table opposite_of o made (λ row. refl) (not_typed (type_of inner table.schema) h ∙ ap Some (sym d)) v m

pub is_null_is_value : (inner : Formula) (table : Table) (o : Operand) (made : Cells) → IsValueOf inner table o → made.dtype ≡ dtype.Boolean → made.cells ≡ map (null_test_cell true) (operand_cells (length table.rows) o) → IsValueOf (IsNull inner) table (operand.Owned made)
is_null_is_value inner table o made v d m = one_is_value (IsNull inner) inner table (null_test_cell true) o made (λ row. refl) (ap null_test_type v.typed ∙ ap Some (sym d)) v m

pub is_not_null_is_value : (inner : Formula) (table : Table) (o : Operand) (made : Cells) → IsValueOf inner table o → made.dtype ≡ dtype.Boolean → made.cells ≡ map (null_test_cell false) (operand_cells (length table.rows) o) → IsValueOf (IsNotNull inner) table (operand.Owned made)
is_not_null_is_value inner table o made v d m = one_is_value (IsNotNull inner) inner table (null_test_cell false) o made (λ row. refl) (ap null_test_type v.typed ∙ ap Some (sym d)) v m

-- ---- two sides

zip_rows : (f g w : Row → AnyValue) (h : AnyValue → AnyValue → AnyValue) (rows : List Row) → ((row : Row) → w row ≡ h (f row) (g row)) → zip_with h (map f rows) (map g rows) ≡ map w rows
zip_rows f g w h [] e = refl
zip_rows f g w h (row ∷ rows) e = ap (λ x. x ∷ zip_with h (map f rows) (map g rows)) (sym (e row)) ∙ ap (λ l. w row ∷ l) (zip_rows f g w h rows e)

-- an expression of an operator with two sides
pub record IsOfTwo (f left right : Formula) : Type 0 where
  pub typed : (schema : List Field) (a b : DataType) → type_of left schema ≡ Some a → type_of right schema ≡ Some b → type_of f schema ≡ type_of_two f a b
  pub value : (schema : List Field) (row : Row) → value_of f schema row ≡ value_of_two f (value_of left schema row) (value_of right schema row)

pub two_is_value : (f left right : Formula) (table : Table) (l r : Operand) (made : Cells) → IsOfTwo f left right → IsValueOf left table l → IsValueOf right table r → type_of_two f (operand_dtype l) (operand_dtype r) ≡ Some (made.dtype) → made.cells ≡ zip_with (value_of_two f) (operand_cells (length table.rows) l) (operand_cells (length table.rows) r) → IsValueOf f table (operand.Owned made)
two_is_value f left right table l r made is v w t m =
    let cells : made.cells ≡ map (value_of f table.schema) table.rows = m ∙ rw (v.cells, w.cells) (zip_rows (value_of left table.schema) (value_of right table.schema) (value_of f table.schema) (value_of_two f) table.rows (is.value table.schema)) in
    record {
      typed = is.typed table.schema (operand_dtype l) (operand_dtype r) v.typed w.typed ∙ t;
      cells = cells;
      sized = ap length cells ∙ length-map table.rows (value_of f table.schema);
    }

-- each operator with two sides
pub of_Add : {f l r : Formula} → f ≡ Add l r → IsOfTwo f l r
of_Add e = rw e (record { typed = λ s a b h k. rw (h, k) refl; value = λ s row. refl })

pub of_Sub : {f l r : Formula} → f ≡ Sub l r → IsOfTwo f l r
of_Sub e = rw e (record { typed = λ s a b h k. rw (h, k) refl; value = λ s row. refl })

pub of_Mul : {f l r : Formula} → f ≡ Mul l r → IsOfTwo f l r
of_Mul e = rw e (record { typed = λ s a b h k. rw (h, k) refl; value = λ s row. refl })

pub of_Eq : {f l r : Formula} → f ≡ Eq l r → IsOfTwo f l r
of_Eq e = rw e (record { typed = λ s a b h k. rw (h, k) refl; value = λ s row. refl })

pub of_NotEq : {f l r : Formula} → f ≡ NotEq l r → IsOfTwo f l r
of_NotEq e = rw e (record { typed = λ s a b h k. rw (h, k) refl; value = λ s row. refl })

pub of_Lt : {f l r : Formula} → f ≡ Lt l r → IsOfTwo f l r
of_Lt e = rw e (record { typed = λ s a b h k. rw (h, k) refl; value = λ s row. refl })

pub of_LtEq : {f l r : Formula} → f ≡ LtEq l r → IsOfTwo f l r
of_LtEq e = rw e (record { typed = λ s a b h k. rw (h, k) refl; value = λ s row. refl })

pub of_Gt : {f l r : Formula} → f ≡ Gt l r → IsOfTwo f l r
of_Gt e = rw e (record { typed = λ s a b h k. rw (h, k) refl; value = λ s row. refl })

pub of_GtEq : {f l r : Formula} → f ≡ GtEq l r → IsOfTwo f l r
of_GtEq e = rw e (record { typed = λ s a b h k. rw (h, k) refl; value = λ s row. refl })

pub of_And : {f l r : Formula} → f ≡ And l r → IsOfTwo f l r
of_And e = rw e (record { typed = λ s a b h k. rw (h, k) refl; value = λ s row. refl })

pub of_Or : {f l r : Formula} → f ≡ Or l r → IsOfTwo f l r
of_Or e = rw e (record { typed = λ s a b h k. rw (h, k) refl; value = λ s row. refl })
