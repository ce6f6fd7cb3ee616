-- Types and names that the check found right.
use Rattle.std.proofs.Common.{◌≡◌, ℕ, Bool, true, false, not, List, [], ◌∷◌, Option, Some, None, is_some, refl, ap, sym}
use Rattle.std.specs.Prelude.{is_none}
use Rattle.std.specs.List.{list_any}
use Rattle.pipe_schema.specs.Cell.{eq_dtype}
use Rattle.pipe_schema.specs.Schema.{names_of}
use Rattle.pipe_schema.specs.declared.data_type.DataType.{DataType}
use Rattle.pipe_schema.specs.declared.field.Field.{Field}
use Rattle.pipe_expr.specs.Formula.{NamedFormula}
use Rattle.pipe_expr.specs.Types.{type_of}
use Rattle.pipe_expr.specs.Projections.{fields_named}
use Rattle.pipe_plan.specs.Faults.{eq_types, is_named_untyped}
use Rattle.pipe_ops.proofs.SameTypes.{equal_dtypes}
use Rattle.pipe_convert.specs.Converted.{AreTyped}
use Rattle.pipe_convert.proofs.Granted.{first_false, second_false}

negated : (b : Bool) → not b ≡ false → b ≡ true
negated true h = refl
negated false h = cc

pub same_types : (a : Option DataType) (t : DataType) → not (eq_types a (Some t)) ≡ false → a ≡ Some t
same_types None t h = cc
same_types (Some u) t h = ap Some (equal_dtypes u t (negated (eq_dtype u t) h))

pub same_types_first : (t : DataType) (a : Option DataType) → not (eq_types (Some t) a) ≡ false → a ≡ Some t
same_types_first t None h = cc
same_types_first t (Some u) h = ap Some (sym (equal_dtypes t u (negated (eq_dtype t u) h)))

there-or : (o : Option DataType) → is_none o ≡ false → is_some o ≡ true
there-or None h = cc
there-or (Some t) h = refl

pub typed_all : (schema : List Field) (exprs : List NamedFormula) → list_any (is_named_untyped schema) exprs ≡ false → AreTyped schema exprs
typed_all schema [] h = tt
typed_all schema (e ∷ exprs) h =
    (there-or (type_of e.formula schema) (first_false _ (list_any (is_named_untyped schema) exprs) h), typed_all schema exprs (second_false (is_named_untyped schema e) _ h))

pub named-names : (schema : List Field) (names : List (List ℕ)) → names_of (fields_named schema names) ≡ names
named-names schema [] = refl
named-names schema (name ∷ names) = ap (λ l. name ∷ l) (named-names schema names)
