-- Names that a schema has, and the first that it lacks.
use Rattle.std.proofs.Common.{◌≡◌, ℕ, Bool, true, false, cond, List, [], ◌∷◌, ◌++◌, Option, Some, None, refl, ap, sym, ◌∙◌}
use Rattle.std.specs.Prelude.{is_some, ◌||◌}
use Rattle.std.specs.Str.{bytes_eq}
use Rattle.pipe_schema.specs.Schema.{has_name, names_of, first_unknown}
use Rattle.pipe_schema.specs.declared.data_type.DataType.{DataType}
use Rattle.pipe_schema.specs.declared.field.Field.{Field}
use Rattle.pipe_expr.specs.Types.{type_of, type_of_column, arithmetic_type, comparison_type, logic_type, not_type, null_test_type, columns_in, unknown_column}
use Rattle.pipe_expr.specs.Formula.{Formula, Column, Literal, Add, Sub, Mul, Eq, NotEq, Lt, LtEq, Gt, GtEq, And, Or, Not, IsNull, IsNotNull}

-- a name has a type exactly where a field has it
pub named_type : (name : List ℕ) (fields : List Field) → is_some (type_of_column name fields) ≡ has_name (names_of fields) name
named_type name [] = refl
named_type name (field ∷ fields) =
    elim (bytes_eq field.name name) as (λ b. is_some (cond b (Some field.dtype) (type_of_column name fields)) ≡ (b || has_name (names_of fields) name)) [
      | true ↦ refl
      | false ↦ named_type name fields
    ]

pub one_known : (name : List ℕ) (fields : List Field) (t : DataType) → type_of_column name fields ≡ Some t → first_unknown fields (name ∷ []) ≡ None
one_known name fields t e =
    ap (λ b. cond b None (Some name)) (sym (named_type name fields) ∙ ap is_some e)

pub one_unknown : (name : List ℕ) (fields : List Field) → type_of_column name fields ≡ None → first_unknown fields (name ∷ []) ≡ Some name
one_unknown name fields e =
    ap (λ b. cond b None (Some name)) (sym (named_type name fields) ∙ ap is_some e)

-- names before others come first
pub append_known : (fields : List Field) (xs ys : List (List ℕ)) → first_unknown fields xs ≡ None → first_unknown fields (xs ++ ys) ≡ first_unknown fields ys
append_known fields [] ys e = refl
append_known fields (x ∷ xs) ys e =
    let split : (b : Bool) → cond b (first_unknown fields xs) (Some x) ≡ None → cond b (first_unknown fields (xs ++ ys)) (Some x) ≡ first_unknown fields ys = elim [
      | true ↦ λ h. append_known fields xs ys h
      | false ↦ λ h. cc
    ] in split (has_name (names_of fields) x) e

pub append_unknown : (fields : List Field) (xs ys : List (List ℕ)) (name : List ℕ) → first_unknown fields xs ≡ Some name → first_unknown fields (xs ++ ys) ≡ Some name
append_unknown fields [] ys name e = cc
append_unknown fields (x ∷ xs) ys name e =
    let split : (b : Bool) → cond b (first_unknown fields xs) (Some x) ≡ Some name → cond b (first_unknown fields (xs ++ ys)) (Some x) ≡ Some name = elim [
      | true ↦ λ h. append_unknown fields xs ys name h
      | false ↦ λ h. h
    ] in split (has_name (names_of fields) x) e

pub ruleset known_rules = (one_known, one_unknown, append_known, append_unknown)

-- a formula that has a type names known columns alone

both_arithmetic : (a b : Option DataType) → is_some (arithmetic_type a b) ≡ true → (is_some a ≡ true) × (is_some b ≡ true)
both_arithmetic (Some a) (Some b) h = (refl, refl)
both_arithmetic (Some a) None h = cc
both_arithmetic None _ h = cc

both_comparison : (a b : Option DataType) → is_some (comparison_type a b) ≡ true → (is_some a ≡ true) × (is_some b ≡ true)
both_comparison (Some a) (Some b) h = (refl, refl)
both_comparison (Some a) None h = cc
both_comparison None _ h = cc

both_logic : (a b : Option DataType) → is_some (logic_type a b) ≡ true → (is_some a ≡ true) × (is_some b ≡ true)
both_logic (Some a) (Some b) h = (refl, refl)
both_logic (Some a) None h = cc
both_logic None _ h = cc

one_not : (a : Option DataType) → is_some (not_type a) ≡ true → is_some a ≡ true
one_not (Some a) h = refl
one_not None h = cc

one_null_test : (a : Option DataType) → is_some (null_test_type a) ≡ true → is_some a ≡ true
one_null_test (Some a) h = refl
one_null_test None h = cc

col_known : (name : List ℕ) (fields : List Field) → is_some (type_of_column name fields) ≡ true → first_unknown fields (name ∷ []) ≡ None
col_known name fields h = ap (λ b. cond b None (Some name)) (sym (named_type name fields) ∙ h)

both_known : (a b : Formula) (fields : List Field) → unknown_column fields a ≡ None → unknown_column fields b ≡ None → first_unknown fields (columns_in a ++ columns_in b) ≡ None
both_known a b s x y = append_known s (columns_in a) (columns_in b) x ∙ y

pub typed_known : (e : Formula) (fields : List Field) → is_some (type_of e fields) ≡ true → unknown_column fields e ≡ None
typed_known (Column name) s h = col_known name s h
typed_known (Literal t c) s h = refl
typed_known (Add a b) s h = let both = both_arithmetic (type_of a s) (type_of b s) h in both_known a b s (typed_known a s both.0) (typed_known b s both.1)
typed_known (Sub a b) s h = let both = both_arithmetic (type_of a s) (type_of b s) h in both_known a b s (typed_known a s both.0) (typed_known b s both.1)
typed_known (Mul a b) s h = let both = both_arithmetic (type_of a s) (type_of b s) h in both_known a b s (typed_known a s both.0) (typed_known b s both.1)
typed_known (Eq a b) s h = let both = both_comparison (type_of a s) (type_of b s) h in both_known a b s (typed_known a s both.0) (typed_known b s both.1)
typed_known (NotEq a b) s h = let both = both_comparison (type_of a s) (type_of b s) h in both_known a b s (typed_known a s both.0) (typed_known b s both.1)
typed_known (Lt a b) s h = let both = both_comparison (type_of a s) (type_of b s) h in both_known a b s (typed_known a s both.0) (typed_known b s both.1)
typed_known (LtEq a b) s h = let both = both_comparison (type_of a s) (type_of b s) h in both_known a b s (typed_known a s both.0) (typed_known b s both.1)
typed_known (Gt a b) s h = let both = both_comparison (type_of a s) (type_of b s) h in both_known a b s (typed_known a s both.0) (typed_known b s both.1)
typed_known (GtEq a b) s h = let both = both_comparison (type_of a s) (type_of b s) h in both_known a b s (typed_known a s both.0) (typed_known b s both.1)
typed_known (And a b) s h = let both = both_logic (type_of a s) (type_of b s) h in both_known a b s (typed_known a s both.0) (typed_known b s both.1)
typed_known (Or a b) s h = let both = both_logic (type_of a s) (type_of b s) h in both_known a b s (typed_known a s both.0) (typed_known b s both.1)
typed_known (Not a) s h = typed_known a s (one_not (type_of a s) h)
typed_known (IsNull a) s h = typed_known a s (one_null_test (type_of a s) h)
typed_known (IsNotNull a) s h = typed_known a s (one_null_test (type_of a s) h)
