-- How many rows a slice keeps depends on how many there are.
use Rattle.std.proofs.Common.{◌≡◌, ℕ, zero, suc, ◌+◌, true, false, cond, List, [], ◌∷◌, length, take, drop, refl, ap, sym, arith, Option, Some, None}
use Rattle.std.specs.Ordering.{is_le}
use Rattle.pipe_schema.specs.Rows.{Row}
use Rattle.pipe_schema.specs.declared.field.Field.{Field}
use Rattle.pipe_rows.specs.SortOrder.{SortBy, insert_row, sorted, row_cmp}
use Rattle.pipe_plan.specs.PlanRows.{skipped, slice_rows, sort_keys}
use Rattle.pipe_plan.specs.declared.ir.SortOptions.{SortOptions}
use Rattle.pipe_plan.specs.declared.ir.PlanSlice.{PlanSlice}
use Rattle.pipe_events.specs.PlanStages.{sorted_slice}

insert-length : (keys : List SortBy) (row : Row) (rows : List Row) → length (insert_row keys row rows) ≡ length rows + 1
insert-length keys row [] = refl
insert-length keys row (next ∷ rows) =
    let rest = insert-length keys row rows in
    elim (is_le (row_cmp keys row next)) as (λ b. length (cond b (row ∷ next ∷ rows) (next ∷ insert_row keys row rows)) ≡ length (next ∷ rows) + 1) [ true ↦ omega arith | false ↦ omega arith ]

sorted-length : (keys : List SortBy) (rows : List Row) → length (sorted keys rows) ≡ length rows
sorted-length keys [] = refl
sorted-length keys (row ∷ rows) = let rest = sorted-length keys rows in let more = insert-length keys row (sorted keys rows) in omega arith

take-length : (n : ℕ) (a b : List Row) → length a ≡ length b → length (take n a) ≡ length (take n b)
take-length zero a b e = refl
take-length (suc n) [] [] e = refl
take-length (suc n) [] (y ∷ b) e = absurd (omega arith)
take-length (suc n) (x ∷ a) [] e = absurd (omega arith)
take-length (suc n) (x ∷ a) (y ∷ b) e = ap suc (take-length n a b (omega arith))

drop-length : (n : ℕ) (a b : List Row) → length a ≡ length b → length (drop n a) ≡ length (drop n b)
drop-length zero a b e = e
drop-length (suc n) [] [] e = refl
drop-length (suc n) [] (y ∷ b) e = absurd (omega arith)
drop-length (suc n) (x ∷ a) [] e = absurd (omega arith)
drop-length (suc n) (x ∷ a) (y ∷ b) e = drop-length n a b (omega arith)

slice-length : (slice : Option PlanSlice) (a b : List Row) → length a ≡ length b → length (slice_rows slice a) ≡ length (slice_rows slice b)
slice-length None a b e = e
slice-length (Some slice) a b e = take-length slice.len (drop (skipped slice.offset) a) (drop (skipped slice.offset) b) (drop-length (skipped slice.offset) a b e)

pub sorted-slice-length : (schema : List Field) (by : List (List ℕ)) (options : SortOptions) (rows : List Row) → length (slice_rows options.slice rows) ≡ length (sorted_slice schema by options rows)
sorted-slice-length schema by options rows = slice-length options.slice rows (sorted (sort_keys schema by options) rows) (sym (sorted-length (sort_keys schema by options) rows))

pub ruleset slice_rules = (sorted-slice-length)
