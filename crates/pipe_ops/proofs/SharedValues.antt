-- Shared values of which each is that of another list are the same expressions.
use Rattle.std.proofs.Common.{◌≡◌, List, [], ◌∷◌, map, ap, subst, sym, ◌∙◌}
use Rattle.std.specs.List.{AllByRecursion}
use Rattle.std.specs.declared.sync.Arc.{Arc}
use Rattle.pipe_schema.specs.declared.field.Field.{Field}
use Rattle.pipe_frame.proofs.Tables.{map_map}
use Rattle.pipe_expr.specs.Formula.{NamedFormula}
use Rattle.pipe_ops.specs.Exprs.{exprs_in, IsMadeFor, value_in, values_in}

pub same-exprs : {P A : Type 0} (expr_of : P → NamedFormula) (a b : List (Arc P A)) → values_in a ≡ values_in b → exprs_in expr_of a ≡ exprs_in expr_of b
same-exprs expr_of a b e = sym (map_map expr_of value_in a) ∙ ap (map expr_of) e ∙ map_map expr_of value_in b

abbrev IsFor : {P : Type 0} → (P → List Field) → List Field → P → Type 0
IsFor schema_of schema p = schema_of p ≡ schema

of-values : {P A : Type 0} (schema_of : P → List Field) (schema : List Field) (shared : List (Arc P A)) → AllByRecursion (IsMadeFor schema_of schema) shared → AllByRecursion (IsFor schema_of schema) (values_in shared)
of-values schema_of schema [] h = tt
of-values schema_of schema (x ∷ xs) h = (h.0, of-values schema_of schema xs h.1)

of-shared : {P A : Type 0} (schema_of : P → List Field) (schema : List Field) (shared : List (Arc P A)) → AllByRecursion (IsFor schema_of schema) (values_in shared) → AllByRecursion (IsMadeFor schema_of schema) shared
of-shared schema_of schema [] h = tt
of-shared schema_of schema (x ∷ xs) h = (h.0, of-shared schema_of schema xs h.1)

pub same-made : {P A : Type 0} (schema_of : P → List Field) (schema : List Field) (a b : List (Arc P A)) → values_in a ≡ values_in b → AllByRecursion (IsMadeFor schema_of schema) b → AllByRecursion (IsMadeFor schema_of schema) a
same-made schema_of schema a b e h = of-shared schema_of schema a (subst (AllByRecursion (IsFor schema_of schema)) (sym e) (of-values schema_of schema b h))
