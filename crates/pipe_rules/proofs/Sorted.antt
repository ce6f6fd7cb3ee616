-- A filter passes a sort that has no slice.
use Rattle.std.proofs.Common.{◌≡◌, ◌+◌, Bool, true, false, cond, List, [], ◌∷◌, ◌++◌, refl, ap, sym, ◌∙◌, arith}
use Rattle.std.specs.Prelude.{filter, not}
use Rattle.std.specs.Ordering.{is_le}
use Rattle.std.specs.List.{AllByRecursion}
use Rattle.pipe_schema.specs.Rows.{Row, eq_row, times, Same}
use Rattle.pipe_schema.specs.declared.field.Field.{Field}
use Rattle.pipe_rows.specs.SortOrder.{SortBy, row_cmp, insert_row, sorted}
use Rattle.pipe_events.specs.Fits.{FitRows}
use Rattle.pipe_events.proofs.Orders.{sorts-alike}
use Rattle.pipe_rules.proofs.Filters.{filter-constant}

module _ (keys : List SortBy) (p : Row → Bool) where
  insert-out : (x : Row) (rows : List Row) → p x ≡ false → filter p (insert_row keys x rows) ≡ filter p rows
  insert-out x [] e = rw e refl
  insert-out x (y ∷ ys) e = elim (is_le (row_cmp keys x y)) as (λ b. filter p (cond b (x ∷ y ∷ ys) (y ∷ insert_row keys x ys)) ≡ filter p (y ∷ ys)) [
    | true ↦ rw e refl
    | false ↦ ap (λ l. cond (p y) (y ∷ l) l) (insert-out x ys e)
  ]

  abbrev In : List Row → Type 0
  In rows = AllByRecursion (λ x. p x ≡ true) rows

  abbrev Out : List Row → Type 0
  Out rows = AllByRecursion (λ x. p x ≡ false) rows

  insert-in : (x : Row) (rows : List Row) → p x ≡ true → In rows → In (insert_row keys x rows)
  insert-in x [] e h = (e, tt)
  insert-in x (y ∷ ys) e h = elim (is_le (row_cmp keys x y)) as (λ b. In (cond b (x ∷ y ∷ ys) (y ∷ insert_row keys x ys))) [
    | true ↦ (e, h)
    | false ↦ (h.0, insert-in x ys e h.1)
  ]

  sorted-in : (rows : List Row) → In rows → In (sorted keys rows)
  sorted-in [] h = tt
  sorted-in (x ∷ rows) h = insert-in x (sorted keys rows) h.0 (sorted-in rows h.1)

  sorted-out : (a b : List Row) → Out a → filter p (sorted keys (a ++ b)) ≡ filter p (sorted keys b)
  sorted-out [] b h = refl
  sorted-out (x ∷ a) b h = insert-out x (sorted keys (a ++ b)) h.0 ∙ sorted-out a b h.1

  those-in : (rows : List Row) → In (filter p rows)
  those-in [] = tt
  those-in (x ∷ rows) =
      let split : (b : Bool) → p x ≡ b → In (cond b (x ∷ filter p rows) (filter p rows)) = elim [ true ↦ λ e. (e, those-in rows) | false ↦ λ e. those-in rows ]
      in split (p x) refl

  abbrev out_of : Row → Bool
  out_of x = not (p x)

  those-out : (rows : List Row) → Out (filter out_of rows)
  those-out [] = tt
  those-out (x ∷ rows) =
      let split : (b : Bool) → p x ≡ b → Out (cond (not b) (x ∷ filter out_of rows) (filter out_of rows)) = elim [ true ↦ λ e. those-out rows | false ↦ λ e. (e, those-out rows) ]
      in split (p x) refl

  times-append : (r : Row) (a b : List Row) → times eq_row r (a ++ b) ≡ times eq_row r a + times eq_row r b
  times-append r [] b = omega arith
  times-append r (x ∷ a) b = (let ih = times-append r a b in omega arith)

  times-halves : (r : Row) (rows : List Row) → times eq_row r rows ≡ times eq_row r (filter out_of rows) + times eq_row r (filter p rows)
  times-halves r [] = refl
  times-halves r (x ∷ rows) =
      let ih = times-halves r rows in
      elim (p x) as (λ b. cond (eq_row r x) 1 0 + times eq_row r rows ≡ times eq_row r (cond (not b) (x ∷ filter out_of rows) (filter out_of rows)) + times eq_row r (cond b (x ∷ filter p rows) (filter p rows))) [
        | true ↦ omega arith
        | false ↦ omega arith
      ]

  halves : (rows : List Row) → Same rows (filter out_of rows ++ filter p rows)
  halves rows = record { each = λ r. times-halves r rows ∙ sym (times-append r (filter out_of rows) (filter p rows)) }

  pub filter-sorted : (fields : List Field) (rows : List Row) → FitRows fields rows → filter p (sorted keys rows) ≡ sorted keys (filter p rows)
  filter-sorted fields rows fits =
      ap (filter p) (sorts-alike keys fields rows (filter out_of rows ++ filter p rows) fits (halves rows))
      ∙ sorted-out (filter out_of rows) (filter p rows) (those-out rows)
      ∙ filter-constant p true (sorted keys (filter p rows)) (sorted-in (filter p rows) (those-in rows))
