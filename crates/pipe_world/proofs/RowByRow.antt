-- Operators that go row by row.
use Rattle.std.proofs.Common.{◌≡◌, Bool, true, false, cond, List, [], ◌∷◌, ◌++◌, map, refl, ap, sym}
use Rattle.std.specs.Prelude.{filter}
use Rattle.std.specs.List.{flat_map}
use Rattle.pipe_schema.specs.Rows.{Row}
use Rattle.pipe_events.specs.PlanStages.{one_row}

pub by_row : (f : Row → Row) (l : List Row) → flat_map (one_row f) l ≡ map f l
by_row f [] = refl
by_row f (r ∷ l) = ap (λ rest. f r ∷ rest) (by_row f l)

pub by_test : (p : Row → Bool) (l : List Row) → flat_map (λ r. filter p (r ∷ [])) l ≡ filter p l
by_test p [] = refl
by_test p (r ∷ l) = elim (p r) as (λ b. cond b (r ∷ []) [] ++ flat_map (λ x. filter p (x ∷ [])) l ≡ cond b (r ∷ filter p l) (filter p l)) [ true ↦ ap (λ rest. r ∷ rest) (by_test p l) | false ↦ by_test p l ]

pub ruleset row_rules = (by_row, by_test)

-- rows that pass unchanged
pub as_they_are : (l : List Row) → flat_map (λ row. row ∷ []) l ≡ l
as_they_are [] = refl
as_they_are (r ∷ l) = ap (λ rest. r ∷ rest) (as_they_are l)

pub ruleset single_rules = (as_they_are)
