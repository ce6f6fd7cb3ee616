-- The inputs of a union have the union's fields.
use Rattle.std.proofs.Common.{◌≡◌, ℕ, Bool, true, false, eqb, not, ◌||◌, List, [], ◌∷◌, refl, ap, sym, ◌∙◌}
use Rattle.std.specs.Prelude.{◌&&◌}
use Rattle.std.specs.Cmp.Lexicographic.{pointwise}
use Rattle.std.specs.Str.{bytes_eq}
use Rattle.std.proofs.lemmas.Bool.Decides.{Decides-eqb}
use Rattle.std.proofs.lemmas.Slice.Eq.{bytes_eq-Decides}
use Rattle.pipe_schema.specs.Cell.{eq_dtype}
use Rattle.pipe_schema.specs.declared.data_type.DataType.{DataType}
use Rattle.pipe_schema.specs.declared.field.Field.{Field}
use Rattle.pipe_ops.proofs.SameTypes.{equal_dtypes}
use Rattle.pipe_plan.specs.Faults.{eq_field, inputs_differ, IsWellFormed}
use Rattle.pipe_plan.specs.Node as node
use Rattle.pipe_plan.specs.Plan.{Plan}
use Rattle.pipe_plan.specs.Schemas.{schema_of, union_fields}
use Rattle.pipe_plan.specs.Under.{is_under, node_at}
use Rattle.pipe_check.proofs.Walks.{member, none-member}
use Rattle.pipe_convert.proofs.Granted.{granted}

pub first_true : (a b : Bool) → (a && b) ≡ true → a ≡ true
first_true true b h = refl
first_true false b h = cc

pub second_true : (a b : Bool) → (a && b) ≡ true → b ≡ true
second_true true b h = h
second_true false b h = cc

negated : (b : Bool) → not b ≡ false → b ≡ true
negated true h = refl
negated false h = cc

same-field : (x y : Field) → x.name ≡ y.name → x.dtype ≡ y.dtype → x ≡ y
same-field x y e f =
    let over : List ℕ → DataType → Field = λ name dtype. record { name = name; dtype = dtype } in
    ap (λ name. over name x.dtype) e ∙ ap (over y.name) f

same-fields : (a b : List Field) → pointwise eq_field a b ≡ true → a ≡ b
same-fields [] [] h = refl
same-fields [] (y ∷ b) h = cc
same-fields (x ∷ a) [] h = cc
same-fields (x ∷ a) (y ∷ b) h =
    let here = first_true (eq_field x y) (pointwise eq_field a b) h in
    let names : x.name ≡ y.name = (bytes_eq-Decides x.name y.name).0 (first_true (bytes_eq x.name y.name) (eq_dtype x.dtype y.dtype) here) in
    let types : x.dtype ≡ y.dtype = equal_dtypes x.dtype y.dtype (second_true (bytes_eq x.name y.name) (eq_dtype x.dtype y.dtype) here) in
    let rest = same-fields a b (second_true (eq_field x y) (pointwise eq_field a b) h) in
    ap (λ f. f ∷ a) (same-field x y names types) ∙ ap (λ fs. y ∷ fs) rest

fields-alike : (schema : ℕ → List Field) (inputs : List ℕ) (x : ℕ) → inputs_differ schema inputs ≡ false → member x inputs ≡ true → schema x ≡ union_fields schema inputs
fields-alike schema [] x h m = cc
fields-alike schema (i ∷ is) x h m =
    let split : (b : Bool) → eqb i x ≡ b → (b || member x is) ≡ true → schema x ≡ schema i = elim [
      | true ↦ λ e _. ap schema (sym ((Decides-eqb i x).0 e))
      | false ↦ λ e later. sym (same-fields (schema i) (schema x) (negated _ (none-member (λ k. not (pointwise eq_field (schema i) (schema k))) is x h later)))
    ]
    in split (eqb i x) refl m

pub union_schema : (plan : Plan) (root n : ℕ) → IsWellFormed plan root → is_under plan.nodes root n ≡ true → (inputs : List ℕ) → node_at plan.nodes n ≡ node.Union inputs → (x : ℕ) → member x inputs ≡ true → schema_of plan x ≡ schema_of plan n
union_schema plan root n good under inputs e x m =
    let g = granted plan root n (node.Union inputs) good under e in
    fields-alike (schema_of plan) inputs x g.typed m ∙ sym g.made
