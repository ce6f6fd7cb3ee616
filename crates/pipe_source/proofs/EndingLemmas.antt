-- The rows of a source with the columns of a schema.
use Rattle.std.proofs.Common.{◌≡◌, ◌<◌, List, [], ◌∷◌, ◌++◌, Bool, false, length, map, refl, ap, sym, ◌∙◌, subst, arith}
use Rattle.std.specs.Prelude.{All}
use Rattle.std.proofs.lemmas.List.{length-map, get_or-map, map-append}
use Rattle.std.proofs.lemmas.List.Elements.{All-tail}
use Rattle.pipe_schema.specs.Rows.{Row}
use Rattle.pipe_schema.specs.Schema.{names_of}
use Rattle.pipe_schema.specs.declared.field.Field.{Field}
use Rattle.pipe_expr.specs.Projections.{row_named}
use Rattle.pipe_ops.specs.Batches.{Left}
use Rattle.pipe_source.specs.Endings.{IsOfSchema, ends_by}
use Rattle.pipe_source.specs.Law.{all_rows}
use Rattle.pipe_source.specs.Supplies.{reprojected_left, reprojected_all}

of_schema : (fields : List Field) (ls : List Left) → All (IsOfSchema fields) (reprojected_all fields ls)
of_schema fields ls k d h =
    let few : k < length ls = omega (arith, length-map ls (reprojected_left fields)) in
    ap (λ (l : Left). l.schema) (get_or-map (reprojected_left fields) ls k d d few)

rows_reprojected : (fields given : List Field) (ls : List Left) → All (IsOfSchema given) ls → all_rows (reprojected_all fields ls) ≡ map (row_named given (names_of fields)) (all_rows ls)
rows_reprojected fields given [] h = refl
rows_reprojected fields given (l ∷ ls) h =
    let here : l.schema ≡ given = h 0 l (omega arith) in
    let more = rows_reprojected fields given ls (All-tail (IsOfSchema given) l ls h) in
    ap (λ (s : List Field). map (row_named s (names_of fields)) l.rows ++ all_rows (reprojected_all fields ls)) here
    ∙ ap (λ (r : List Row). map (row_named given (names_of fields)) l.rows ++ r) more
    ∙ sym (map-append (row_named given (names_of fields)) l.rows (all_rows ls))

-- a source with other columns is of their schema
pub made_of_schema : (fields : List Field) (ls made : List Left) → made ≡ reprojected_all fields ls → All (IsOfSchema fields) made
made_of_schema fields ls made e = subst (All (IsOfSchema fields)) (sym e) (of_schema fields ls)

-- and gives the rows with these columns
pub made_ends : (Rightly : List Row → Type 0) (builds : Bool) (fields given : List Field) (ls made : List Left) (inner : List Row) → builds ≡ false → Rightly inner → inner ≡ all_rows ls → All (IsOfSchema given) ls → made ≡ reprojected_all fields ls → ends_by builds Rightly given fields (all_rows made)
made_ends Rightly builds fields given ls made inner none ends rows all e =
    let these : all_rows made ≡ map (row_named given (names_of fields)) inner =
    ap all_rows e ∙ rows_reprojected fields given ls all ∙ ap (map (row_named given (names_of fields))) (sym rows)
    in subst (λ b. ends_by b Rightly given fields (all_rows made)) (sym none) (record { inner = inner; ends = ends; made = these })
