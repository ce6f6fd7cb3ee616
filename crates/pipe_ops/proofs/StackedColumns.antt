-- The columns of a chunk, each replaced where an expression has its name.
use Rattle.std.proofs.Common.{◌≡◌, ℕ, ◌+◌, ◌<◌, List, [], ◌∷◌, ◌++◌, Option, Some, None, length, get_or, map, take, refl, ap, sym, ◌∙◌}
use Rattle.std.proofs.lemmas.List.{map-append, take_more}
use Rattle.std.specs.Prelude.{option_map}
use Rattle.pipe_frame.specs.Frame.{Table}
use Rattle.pipe_column.specs.Series.{Cells}
use Rattle.pipe_expr.specs.Formula.{NamedFormula}
use Rattle.pipe_ops.specs.Exprs.{column_or, column_of_expr}

-- a column in whose place that of an expression was made
pub column_made : (frame : Table) (column made : Cells) (e : Option NamedFormula) → option_map (column_of_expr frame) e ≡ Some made → column_or frame column e ≡ made
column_made frame column made None h = cc
column_made frame column made (Some e) h = cc

-- and one that stays
pub column_stays : (frame : Table) (column : Cells) (e : Option NamedFormula) → option_map (column_of_expr frame) e ≡ None → column_or frame column e ≡ column
column_stays frame column None h = refl
column_stays frame column (Some e) h = cc

-- one column more
pub column_next : (f : Cells → Cells) (items columns after : List Cells) (i : ℕ) (column made : Cells) → columns ≡ map f (take i items) → after ≡ columns ++ made ∷ [] → i < length items → column ≡ get_or items i column → f column ≡ made → after ≡ map f (take (i + 1) items)
column_next f items columns after i column made before pushed lt at e =
    let next : take (i + 1) items ≡ take i items ++ get_or items i column ∷ [] = take_more items i column lt in
    let last : f (get_or items i column) ≡ made = ap f (sym at) ∙ e in
    pushed ∙ ap (λ l. l ++ made ∷ []) before ∙ ap (λ c. map f (take i items) ++ c ∷ []) (sym last) ∙ sym (map-append f (take i items) (get_or items i column ∷ [])) ∙ ap (map f) (sym next)
