-- The sizes of columns, by their values.
use Rattle.std.proofs.Math.Nat.{mul-suc}
use Rattle.std.proofs.Common.{◌≡◌, ℕ, ◌+◌, ◌*◌, Bool, ℤ, List, [], ◌∷◌, Option, Some, None, length, map, refl, ap, sym, ◌∙◌, arith}
use Rattle.std.specs.Prelude.{sum_by}
use Rattle.pipe_schema.specs.Cell.{int32_cell, int64_cell, uint32_cell, uint64_cell, boolean_cell, string_cell, binary_cell, int128_cell}
use Rattle.pipe_schema.specs.Sizes.{width_of, length_of, cell_size}
use Rattle.pipe_column.specs.Sizes.{nullable_length}
use Rattle.pipe_schema.specs.declared.any_value.AnyValue.{AnyValue}
use Rattle.pipe_schema.specs.declared.data_type.DataType.{DataType}
use Rattle.pipe_schema.specs.declared.data_type.DataType.TheVariants as dtype
use Rattle.pipe_schema.specs.Weights.{total}
use Rattle.pipe_schema.proofs.Weights.{total-sum_by}

-- cells that count their type's width alone
one_size : {T : Type 0} (d : DataType) (f : Option T → AnyValue) (column : List (Option T)) → ((x : Option T) → length_of (f x) ≡ 0) → total (cell_size d) (map f column) ≡ width_of d * length column
one_size d f [] h = omega arith
one_size d f (x ∷ column) h = omega (arith, h x, one_size d f column h, mul-suc (width_of d) (length column))

pub sized : {T : Type 0} (d : DataType) (f : Option T → AnyValue) (column : List (Option T)) → ((x : Option T) → length_of (f x) ≡ 0) → sum_by (cell_size d) (map f column) ≡ width_of d * length column
sized d f column h = sym (total-sum_by (cell_size d) (map f column)) ∙ one_size d f column h

-- a value of fixed width has no length
no_length-int32 : (x : Option ℤ) → length_of (int32_cell x) ≡ 0
no_length-int32 (Some x) = refl
no_length-int32 None = refl

no_length-int64 : (x : Option ℤ) → length_of (int64_cell x) ≡ 0
no_length-int64 (Some x) = refl
no_length-int64 None = refl

no_length-uint32 : (x : Option ℕ) → length_of (uint32_cell x) ≡ 0
no_length-uint32 (Some x) = refl
no_length-uint32 None = refl

no_length-uint64 : (x : Option ℕ) → length_of (uint64_cell x) ≡ 0
no_length-uint64 (Some x) = refl
no_length-uint64 None = refl

no_length-boolean : (x : Option Bool) → length_of (boolean_cell x) ≡ 0
no_length-boolean (Some x) = refl
no_length-boolean None = refl

no_length-int128 : (x : Option ℤ) → length_of (int128_cell x) ≡ 0
no_length-int128 (Some x) = refl
no_length-int128 None = refl

pub size-int32 : (column : List (Option ℤ)) → sum_by (cell_size dtype.Int32) (map int32_cell column) ≡ 4 * length column
size-int32 column = sized dtype.Int32 int32_cell column no_length-int32

pub size-int64 : (column : List (Option ℤ)) → sum_by (cell_size dtype.Int64) (map int64_cell column) ≡ 8 * length column
size-int64 column = sized dtype.Int64 int64_cell column no_length-int64

pub size-uint32 : (column : List (Option ℕ)) → sum_by (cell_size dtype.UInt32) (map uint32_cell column) ≡ 4 * length column
size-uint32 column = sized dtype.UInt32 uint32_cell column no_length-uint32

pub size-uint64 : (column : List (Option ℕ)) → sum_by (cell_size dtype.UInt64) (map uint64_cell column) ≡ 8 * length column
size-uint64 column = sized dtype.UInt64 uint64_cell column no_length-uint64

pub size-boolean : (column : List (Option Bool)) → sum_by (cell_size dtype.Boolean) (map boolean_cell column) ≡ 1 * length column
size-boolean column = sized dtype.Boolean boolean_cell column no_length-boolean

pub size-int128 : (column : List (Option ℤ)) → sum_by (cell_size dtype.Int128) (map int128_cell column) ≡ 16 * length column
size-int128 column = sized dtype.Int128 int128_cell column no_length-int128

-- cells that count their length too
long_size : (d : DataType) (f : Option (List ℕ) → AnyValue) (column : List (Option (List ℕ))) → ((x : Option (List ℕ)) → length_of (f x) ≡ nullable_length x) → total (cell_size d) (map f column) ≡ width_of d * length column + total nullable_length column
long_size d f [] h = omega arith
long_size d f (x ∷ column) h = omega (arith, h x, long_size d f column h, mul-suc (width_of d) (length column))

length_string : (x : Option (List ℕ)) → length_of (string_cell x) ≡ nullable_length x
length_string (Some x) = refl
length_string None = refl

length_binary : (x : Option (List ℕ)) → length_of (binary_cell x) ≡ nullable_length x
length_binary (Some x) = refl
length_binary None = refl

pub size-string : (column : List (Option (List ℕ))) → sum_by (cell_size dtype.String) (map string_cell column) ≡ 8 * length column + sum_by nullable_length column
size-string column = sym (total-sum_by (cell_size dtype.String) (map string_cell column)) ∙ long_size dtype.String string_cell column length_string ∙ ap (λ n. 8 * length column + n) (total-sum_by nullable_length column)

pub size-binary : (column : List (Option (List ℕ))) → sum_by (cell_size dtype.Binary) (map binary_cell column) ≡ 8 * length column + sum_by nullable_length column
size-binary column = sym (total-sum_by (cell_size dtype.Binary) (map binary_cell column)) ∙ long_size dtype.Binary binary_cell column length_binary ∙ ap (λ n. 8 * length column + n) (total-sum_by nullable_length column)

pub ruleset size_rules = (size-int32, size-int64, size-uint32, size-uint64, size-boolean, size-int128, size-string, size-binary)
