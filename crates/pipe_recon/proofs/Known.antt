-- What tables have whose reconciliation isn't refused.
use Rattle.std.proofs.Common.{◌≡◌, ℕ, Bool, true, false, cond, List, [], ◌∷◌, Option, Some, None, map, refl, ap, sym, ◌∙◌}
use Rattle.std.specs.Prelude.{not, ◌||◌, is_none}
use Rattle.std.proofs.lemmas.Option.{none-some}
use Rattle.pipe_schema.specs.Cell.{eq_dtype}
use Rattle.pipe_frame.specs.Frame.{Table, select_fault}
use Rattle.pipe_schema.specs.Schema.{first_repeated, first_unknown, names_fault}
use Rattle.pipe_schema.specs.declared.data_type.DataType.{DataType}
use Rattle.pipe_schema.specs.declared.data_type.DataType.TheVariants as dtype
use Rattle.pipe_schema.specs.declared.field.Field.{Field}
use Rattle.pipe_expr.specs.Projections.{known_type}
use Rattle.pipe_expr.specs.Types.{type_of_column}
use Rattle.pipe_plan.specs.Faults.{eq_types, or_else, told, told_name}
use Rattle.pipe_plan.specs.declared.error.PipeError.{PipeError}
use Rattle.pipe_plan.specs.declared.error.PipeError.TheVariants as error
use Rattle.pipe_recon.specs.Codes.{key_types}
use Rattle.pipe_recon.specs.Refusals.{has_no_key, is_bad_key, lacks_name, recon_fault, types_differ, types_fault}

-- both parts are none where the first of them is
both_none : (a b : Option PipeError) → or_else a b ≡ None → (a ≡ None) × (b ≡ None)
both_none (Some e) b h = absurd (none-some e (sym h))
both_none None b h = (refl, h)

no_name : (e : List ℕ → PipeError) (name : Option (List ℕ)) → told_name e name ≡ None → name ≡ None
no_name e (Some name) h = absurd (none-some (e name) (sym h))
no_name e None h = refl

not_told : (holds : Bool) (e : PipeError) → told holds e ≡ None → holds ≡ false
not_told true e h = absurd (none-some e (sym h))
not_told false e h = refl

no_repeat : (name : Option (List ℕ)) → not (is_none name) ≡ false → name ≡ None
no_repeat (Some name) h = cc
no_repeat None h = refl

-- names that are a key of a table can be selected
selectable : (fields : List Field) (on : List (List ℕ)) → is_bad_key on ≡ false → first_unknown fields on ≡ None → select_fault fields on ≡ None
selectable fields [] good known = cc
selectable fields (name ∷ on) good known =
    let once : first_repeated (name ∷ on) ≡ None = no_repeat (first_repeated (name ∷ on)) good in
    rw (once, known) refl

eq_dtype-sound : (a b : DataType) → eq_dtype a b ≡ true → a ≡ b
eq_dtype-sound dtype.Int32 dtype.Int32 h = refl
eq_dtype-sound dtype.Int64 dtype.Int64 h = refl
eq_dtype-sound dtype.UInt32 dtype.UInt32 h = refl
eq_dtype-sound dtype.UInt64 dtype.UInt64 h = refl
eq_dtype-sound dtype.Boolean dtype.Boolean h = refl
eq_dtype-sound dtype.String dtype.String h = refl
eq_dtype-sound dtype.Binary dtype.Binary h = refl
eq_dtype-sound dtype.Int128 dtype.Int128 h = refl
eq_dtype-sound _ _ h = cc

one_type : (a b : Option DataType) → eq_types a b ≡ true → known_type a ≡ known_type b
one_type (Some a) (Some b) h = eq_dtype-sound a b h
one_type _ _ h = cc

both_false : (a b : Bool) → (not a || b) ≡ false → (a ≡ true) × (b ≡ false)
both_false true b h = (refl, h)
both_false false b h = cc

same_types : (left right : List Field) (on : List (List ℕ)) → types_differ left right on ≡ false → key_types left on ≡ key_types right on
same_types left right [] h = refl
same_types left right (name ∷ on) h =
    let parts = both_false (eq_types (type_of_column name left) (type_of_column name right)) (types_differ left right on) h in
    ap (λ t. t ∷ key_types left on) (one_type (type_of_column name left) (type_of_column name right) parts.0)
    ∙ ap (λ ts. known_type (type_of_column name right) ∷ ts) (same_types left right on parts.1)

-- what isn't refused
pub record IsKnown (left right : Table) (on : List (List ℕ)) : Type 0 where
  pub lefts : select_fault left.schema on ≡ None
  pub rights : select_fault right.schema on ≡ None
  pub types : key_types left.schema on ≡ key_types right.schema on

pub known : (left right : Table) (on : List (List ℕ)) → recon_fault left right on ≡ None → IsKnown left right on
known left right on h =
    let first = both_none (lacks_name 0 left.schema on) (or_else (lacks_name 1 right.schema on) (or_else (types_fault left.schema right.schema on) (has_no_key on))) h in
    let second = both_none (lacks_name 1 right.schema on) (or_else (types_fault left.schema right.schema on) (has_no_key on)) first.1 in
    let third = both_none (types_fault left.schema right.schema on) (has_no_key on) second.1 in
    let good : is_bad_key on ≡ false = not_told (is_bad_key on) (error.BadJoin 2) third.1 in
    record {
      lefts = selectable left.schema on good (no_name (error.UnknownColumn 0) (first_unknown left.schema on) first.0);
      rights = selectable right.schema on good (no_name (error.UnknownColumn 1) (first_unknown right.schema on) second.0);
      types = same_types left.schema right.schema on (not_told (types_differ left.schema right.schema on) (error.TypeMismatch 2) third.0);
    }

pub left_selectable : (left right : Table) (on : List (List ℕ)) → recon_fault left right on ≡ None → select_fault left.schema on ≡ None
left_selectable left right on good = (known left right on good).lefts

pub right_selectable : (left right : Table) (on : List (List ℕ)) → recon_fault left right on ≡ None → select_fault right.schema on ≡ None
right_selectable left right on good = (known left right on good).rights
