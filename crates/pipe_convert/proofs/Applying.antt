-- A function of a plan without fault can read its input.
use Rattle.std.proofs.Common.{◌≡◌, ℕ, ◌<◌, Bool, true, false, cond, not, List, [], ◌∷◌, ◌++◌, length, Option, Some, None, is_some, refl, ap, sym, ◌∙◌, arith}
use Rattle.std.specs.List.{list_any, AllByRecursion}
use Rattle.pipe_schema.specs.Schema.{has_name, names_of, first_unknown}
use Rattle.pipe_schema.specs.declared.data_type.DataType.{DataType}
use Rattle.pipe_schema.specs.declared.field.Field.{Field}
use Rattle.pipe_expr.proofs.Known.{named_type}
use Rattle.pipe_expr.specs.Types.{type_of_column}
use Rattle.pipe_expr.specs.Projections.{known_type, on_type}
use Rattle.pipe_expr.specs.declared.join_words.FunctionIR.{FunctionIR}
use Rattle.pipe_expr.specs.declared.join_words.FunctionIR.TheVariants as function
use Rattle.pipe_plan.specs.Faults.{eq_types, is_void_function, function_names, on_differ, is_mistyped_function}
use Rattle.pipe_source.specs.Applied.{CanRead, IsOfType}
use Rattle.pipe_convert.proofs.Granted.{first_false, second_false}
use Rattle.pipe_convert.proofs.Types.{same_types_first}

there : (o : Option DataType) → is_some o ≡ true → o ≡ Some (known_type o)
there None h = cc
there (Some t) h = refl

first_known : (schema : List Field) (name : List ℕ) (names : List (List ℕ)) → first_unknown schema (name ∷ names) ≡ None → type_of_column name schema ≡ Some (known_type (type_of_column name schema))
first_known schema name names h =
    let split : (b : Bool) → cond b (first_unknown schema names) (Some name) ≡ None → b ≡ true = elim [
      | true ↦ λ e. refl
      | false ↦ λ e. cc
    ] in
    there (type_of_column name schema) (named_type name schema ∙ split (has_name (names_of schema) name) h)

each_type : (schema : List Field) (t : DataType) (names : List (List ℕ)) → list_any (λ n. not (eq_types (Some t) (type_of_column n schema))) names ≡ false → AllByRecursion (IsOfType schema t) names
each_type schema t [] h = tt
each_type schema t (name ∷ names) h =
    (same_types_first t (type_of_column name schema) (first_false _ (list_any (λ n. not (eq_types (Some t) (type_of_column n schema))) names) h), each_type schema t names (second_false (not (eq_types (Some t) (type_of_column name schema))) _ h))

some_first : {X : Type 0} (x : X) (xs : List X) → 0 < length (x ∷ xs)
some_first x xs = omega arith

on_typed : (schema : List Field) (on more : List (List ℕ)) → first_unknown schema (on ++ more) ≡ None → on_differ schema on ≡ false → AllByRecursion (IsOfType schema (on_type schema on)) on
on_typed schema [] more known same = tt
on_typed schema (name ∷ names) more known same =
    let typed = first_known schema name (names ++ more) known in
    (typed, each_type schema (known_type (type_of_column name schema)) names (sym (ap (λ o. list_any (λ n. not (eq_types o (type_of_column n schema))) names) typed) ∙ same))

pub can_read : (schema : List Field) (f : FunctionIR) → is_void_function f ≡ false → first_unknown schema (function_names f) ≡ None → is_mistyped_function schema f ≡ false → CanRead f schema
can_read schema (function.Unpivot [] index variable value) whole known typed = cc
can_read schema (function.Unpivot (name ∷ on) index variable value) whole known typed =
    record { some = some_first name on; known = known; typed = on_typed schema (name ∷ on) index known typed }
can_read schema (function.Rename pairs) whole known typed = tt
