-- Packed items are spelled as the cells of a column.
use Rattle.std.proofs.Common.{◌≡◌, ℕ, ℤ, List, [], ◌∷◌, map, Bool, Option, Some, None, option_map, refl, sym, ap, ap₂, ◌∙◌}
use Rattle.std.specs.Fmt.{signed_decimal}
use Rattle.hex.specs.Hex.{encode_lower}
use Rattle.serde_json.specs.Data.{Data, array, item, boolean}
use Rattle.serde_json.specs.View.{items_of}
use Rattle.pipe_schema.specs.Cell.{int32_cell, int64_cell, uint32_cell, uint64_cell, boolean_cell, string_cell, binary_cell, int128_cell}
use Rattle.pipe_schema.specs.declared.any_value.AnyValue.{AnyValue}
use Rattle.pipe_value.specs.Columns.{integer_data, whole_data, text_data}
use Rattle.pipe_job.specs.Spelling.{list, maybe, cell_spelling}

items_same : {T : Type 0} (seen : T → Data) (cell : T → AnyValue) → ((x : T) → seen x ≡ cell_spelling (cell x)) → (xs : List T) → items_of (map seen xs) ≡ items_of (map cell_spelling (map cell xs))
items_same seen cell same [] = refl
items_same seen cell same (x ∷ xs) = ap₂ item (same x) (items_same seen cell same xs)

cells_same : {T : Type 0} (seen : T → Data) (cell : T → AnyValue) → ((x : T) → seen x ≡ cell_spelling (cell x)) → (xs : List T) (cells : List AnyValue) → cells ≡ map cell xs → list seen xs ≡ list cell_spelling cells
cells_same seen cell same xs cells e = ap array (items_same seen cell same xs ∙ ap (λ (l : List AnyValue). items_of (map cell_spelling l)) (sym e))

items_through : {T U : Type 0} (seen : U → Data) (see : T → U) (xs : List T) → items_of (map seen (map see xs)) ≡ items_of (map (λ x. seen (see x)) xs)
items_through seen see [] = refl
items_through seen see (x ∷ xs) = ap (item (seen (see x))) (items_through seen see xs)

int32_same : (x : Option ℤ) → integer_data x ≡ cell_spelling (int32_cell x)
int32_same None = refl
int32_same (Some z) = refl

int64_same : (x : Option ℤ) → integer_data x ≡ cell_spelling (int64_cell x)
int64_same None = refl
int64_same (Some z) = refl

uint32_same : (x : Option ℕ) → whole_data x ≡ cell_spelling (uint32_cell x)
uint32_same None = refl
uint32_same (Some n) = refl

uint64_same : (x : Option ℕ) → whole_data x ≡ cell_spelling (uint64_cell x)
uint64_same None = refl
uint64_same (Some n) = refl

truth_same : (x : Option Bool) → maybe boolean x ≡ cell_spelling (boolean_cell x)
truth_same None = refl
truth_same (Some b) = refl

string_same : (x : Option (List ℕ)) → text_data x ≡ cell_spelling (string_cell x)
string_same None = refl
string_same (Some s) = refl

binary_same : (x : Option (List ℕ)) → text_data (option_map encode_lower x) ≡ cell_spelling (binary_cell x)
binary_same None = refl
binary_same (Some b) = refl

int128_same : (x : Option ℤ) → text_data (option_map signed_decimal x) ≡ cell_spelling (int128_cell x)
int128_same None = refl
int128_same (Some z) = refl

pub of_int32 : (xs : List (Option ℤ)) (cells : List AnyValue) → cells ≡ map int32_cell xs → list integer_data xs ≡ list cell_spelling cells
of_int32 = cells_same integer_data int32_cell int32_same

pub of_int64 : (xs : List (Option ℤ)) (cells : List AnyValue) → cells ≡ map int64_cell xs → list integer_data xs ≡ list cell_spelling cells
of_int64 = cells_same integer_data int64_cell int64_same

pub of_uint32 : (xs : List (Option ℕ)) (cells : List AnyValue) → cells ≡ map uint32_cell xs → list whole_data xs ≡ list cell_spelling cells
of_uint32 = cells_same whole_data uint32_cell uint32_same

pub of_uint64 : (xs : List (Option ℕ)) (cells : List AnyValue) → cells ≡ map uint64_cell xs → list whole_data xs ≡ list cell_spelling cells
of_uint64 = cells_same whole_data uint64_cell uint64_same

pub of_boolean : (xs : List (Option Bool)) (cells : List AnyValue) → cells ≡ map boolean_cell xs → list (maybe boolean) xs ≡ list cell_spelling cells
of_boolean = cells_same (maybe boolean) boolean_cell truth_same

pub of_string : (xs : List (Option (List ℕ))) (cells : List AnyValue) → cells ≡ map string_cell xs → list text_data xs ≡ list cell_spelling cells
of_string = cells_same text_data string_cell string_same

pub of_binary : (xs : List (Option (List ℕ))) (cells : List AnyValue) → cells ≡ map binary_cell xs → list text_data (map (option_map encode_lower) xs) ≡ list cell_spelling cells
of_binary xs cells e =
    ap array (items_through text_data (option_map encode_lower) xs) ∙ cells_same (λ x. text_data (option_map encode_lower x)) binary_cell binary_same xs cells e

pub of_int128 : (xs : List (Option ℤ)) (cells : List AnyValue) → cells ≡ map int128_cell xs → list text_data (map (option_map signed_decimal) xs) ≡ list cell_spelling cells
of_int128 xs cells e =
    ap array (items_through text_data (option_map signed_decimal) xs) ∙ cells_same (λ x. text_data (option_map signed_decimal x)) int128_cell int128_same xs cells e

pub ruleset column_rules = (of_int32, of_int64, of_uint32, of_uint64, of_boolean, of_string, of_binary, of_int128)
