-- Rows meet exactly where their codes are the same.
use Rattle.std.proofs.Common.{◌≡◌, ℕ, ◌+◌, Bool, true, false, cond, List, [], ◌∷◌, Option, Some, None, map, refl, ap, sym, ◌∙◌}
use Rattle.std.specs.Prelude.{not, ◌&&◌, ◌||◌, if◌then◌else◌}
use Rattle.std.specs.List.{list_any}
use Rattle.std.specs.Str.{bytes_eq}
use Rattle.std.specs.Cmp.Lexicographic.{bytes_decides}
use Rattle.pipe_schema.specs.Cell.{is_null_cell}
use Rattle.pipe_frame.specs.Frame.{Table}
use Rattle.pipe_schema.specs.Rows.{Row, eq_row}
use Rattle.pipe_schema.specs.declared.data_type.DataType.{DataType}
use Rattle.pipe_schema.specs.declared.field.Field.{Field}
use Rattle.pipe_rows.specs.Encoded.{equality_encoded}
use Rattle.pipe_rows.specs.Equality.{IsRow, equality_row, has_null_cell}
use Rattle.pipe_rows.proofs.EqualityLaw.{equal_rows, row_apart}
use Rattle.pipe_expr.specs.Joins.{keys_match}
use Rattle.pipe_recon.specs.Codes.{Code, code_of, encoded_code, key_types, same_code}
use Rattle.pipe_recon.specs.Reconciliation.{key_cells, meets}
use Rattle.pipe_recon.specs.declared.recon_spec.ReconSpec.{ReconSpec}

null_cells : (key : Row) → has_null_cell key ≡ list_any is_null_cell key
null_cells [] = refl
null_cells (x ∷ key) = ap (λ b. is_null_cell x || b) (null_cells key)

and_false : (a : Bool) → (a && false) ≡ false
and_false true = refl
and_false false = refl

and_true : (a : Bool) → (a && true) ≡ a
and_true true = refl
and_true false = refl

-- keys of which one alone has a null aren't equal
nulls_apart : (dtypes : List DataType) (a b : Row) → IsRow dtypes a → IsRow dtypes b → has_null_cell a ≡ false → has_null_cell b ≡ true → eq_row a b ≡ false
nulls_apart dtypes a b typed other none some =
    let law : bytes_eq (equality_row a) (equality_row b) ≡ eq_row a b = equal_rows dtypes a b typed other in
    let split : (e : Bool) → bytes_eq (equality_row a) (equality_row b) ≡ e → e ≡ false = elim [
      | true ↦ λ same. (
          let equal : a ≡ b = row_apart dtypes a b typed other ((bytes_decides (equality_row a) (equality_row b)).0 same) in
          let clash : true ≡ false = sym some ∙ sym (ap has_null_cell equal) ∙ none in clash)
      | false ↦ λ same. refl
    ] in sym law ∙ split (bytes_eq (equality_row a) (equality_row b)) refl

-- what two keys' codes tell, by whether nulls join and whether each has a null
codes_tell : (dtypes : List DataType) (a b : Row) → IsRow dtypes a → IsRow dtypes b → (nulls x y : Bool) → has_null_cell a ≡ x → has_null_cell b ≡ y → same_code (cond (nulls || not x) (Some (equality_row a)) None) (cond (nulls || not y) (Some (equality_row b)) None) ≡ (eq_row a b && (nulls || not x))
codes_tell dtypes a b typed other true x y e f = equal_rows dtypes a b typed other ∙ sym (and_true (eq_row a b))
codes_tell dtypes a b typed other false true y e f = sym (and_false (eq_row a b))
codes_tell dtypes a b typed other false false true e f = sym (ap (λ t. t && true) (nulls_apart dtypes a b typed other e f))
codes_tell dtypes a b typed other false false false e f = equal_rows dtypes a b typed other ∙ sym (and_true (eq_row a b))

keys_tell : (dtypes : List DataType) (a b : Row) (nulls : Bool) → IsRow dtypes a → IsRow dtypes b → keys_match nulls a b ≡ same_code (encoded_code nulls (equality_encoded a)) (encoded_code nulls (equality_encoded b))
keys_tell dtypes a b nulls typed other =
    ap (λ n. eq_row a b && (nulls || not n)) (sym (null_cells a))
    ∙ sym (codes_tell dtypes a b typed other nulls (has_null_cell a) (has_null_cell b) refl refl)

-- rows whose keys have the same types
pub met : (left right : Table) (spec : ReconSpec) (dtypes : List DataType) (l r : Row) → IsRow dtypes (key_cells left.schema spec.on l) → IsRow dtypes (key_cells right.schema spec.on r) → meets left right spec l r ≡ same_code (code_of left.schema spec l) (code_of right.schema spec r)
met left right spec dtypes l r typed other = keys_tell dtypes (key_cells left.schema spec.on l) (key_cells right.schema spec.on r) spec.join_nulls typed other

-- codes the other way round
bytes_turned : (a b : List ℕ) → bytes_eq a b ≡ bytes_eq b a
bytes_turned a b =
    let split : (x y : Bool) → bytes_eq a b ≡ x → bytes_eq b a ≡ y → x ≡ y = elim [
      | true ↦ elim [ true ↦ λ e f. refl | false ↦ λ e f. (let same : b ≡ a = sym ((bytes_decides a b).0 e) in sym ((bytes_decides b a).1 same) ∙ f) ]
      | false ↦ elim [ true ↦ λ e f. (let same : a ≡ b = sym ((bytes_decides b a).0 f) in sym e ∙ (bytes_decides a b).1 same) | false ↦ λ e f. refl ]
    ] in split (bytes_eq a b) (bytes_eq b a) refl refl

pub code_turned : (a b : Code) → same_code a b ≡ same_code b a
code_turned (Some a) (Some b) = bytes_turned a b
code_turned (Some a) None = refl
code_turned None (Some b) = refl
code_turned None None = refl
