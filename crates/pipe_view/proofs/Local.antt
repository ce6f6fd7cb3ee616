-- What has a code stands in the group of the code alone.
use Rattle.std.proofs.Common.{◌≡◌, ℕ, ◌+◌, ◌≤◌, Bool, true, false, cond, List, [], ◌∷◌, ◌++◌, map, length, refl, ap, sym, ◌∙◌, subst, arith, append-nil}
use Rattle.std.specs.Prelude.{filter, not, ◌&&◌, ◌||◌, unwrap_or, option_map, Option, Some, None, sum_by}
use Rattle.std.specs.List.{flat_map, list_any, AllByRecursion}
use Rattle.std.specs.Map.{keys_of, values_of, lookup, remove_entry}
use Rattle.std.specs.BTreeMap.{is_at}
use Rattle.std.proofs.lemmas.Map.Keys.{sorted_head, sorted_tail}
use Rattle.std.proofs.lemmas.Map.Entries.{sum_by-remove_entry}
use Rattle.pipe_schema.specs.Rows.{Row, eq_row, times}
use Rattle.pipe_schema.specs.declared.any_value.AnyValue.{AnyValue}
use Rattle.pipe_schema.specs.Weights.{total}
use Rattle.pipe_schema.proofs.Weights.{total-append, SameBag-from_rows, eq_row-sound, eq_row-refl}
use Rattle.pipe_expr.specs.Joins.{Join, joins, join_rows}
use Rattle.pipe_expr.specs.Shares.{all_shares}
use Rattle.pipe_expr.proofs.ShareLaw.{shares-right_built, shares-left_built}
use Rattle.pipe_view.specs.Sides.{probed_key, has_probed_key, has_built_key, partners, is_view_kind, keeps_built}
use Rattle.pipe_view.specs.Changes.{comes, goes, pairs_that_come, paddings_that_go, own_padding, met_by_row, rows_that_come, rows_that_go}
use Rattle.pipe_view.specs.Codes.{code_of, row_code, GroupRows, GroupList, no_rows, group_rows, group_at, rows_in, side_rows, HaveCode, IsPlaced, AreSorted, ArePlaced, Code, code_cmp}
use Rattle.pipe_view.proofs.Tests.{filter-first, filter-last, any-first, any-last, all-map}
use Rattle.pipe_view.proofs.Changing.{uncovers_beside, is_covered, row-more}
use Rattle.pipe_view.proofs.Placing.{HaveOther, others-in, at-code, not-at}
use Rattle.pipe_view.proofs.Weighing.{total-side, length-total}

side-code : (j : Join) (of_left : Bool) (k : Code) (g : GroupRows) → IsPlaced j (k, g) → HaveCode j of_left k (group_rows of_left g)
side-code j true k g h = h.left
side-code j false k g h = h.right

not-true : (t : Bool) → (t ≡ true → ⊥) → t ≡ false
not-true true h = absurd (h refl)
not-true false h = refl

none-in : (of_left : Bool) → group_rows of_left no_rows ≡ []
none-in true = refl
none-in false = refl

module _ (j : Join) (of_left : Bool) (c : Code) (q : Row → Bool) (coded : (row : Row) → q row ≡ true → row_code j of_left row ≡ c) where
  fails-other : (rows : List Row) → HaveOther j of_left c rows → AllByRecursion (λ row. q row ≡ false) rows
  fails-other rows h = all-map _ _ rows (λ row ne. not-true (q row) (λ e. ne (coded row e))) h

  fails-of : (k : Code) (rows : List Row) → (c ≡ k → ⊥) → HaveCode j of_left k rows → AllByRecursion (λ row. q row ≡ false) rows
  fails-of k rows ne h = all-map _ _ rows (λ row at. not-true (q row) (λ e. ne (sym (coded row e) ∙ at))) h

  later-other : (e : Code × GroupRows) (groups : GroupList) → AreSorted (e ∷ groups) → ArePlaced j (e ∷ groups) → c ≡ e.0 → HaveOther j of_left c (side_rows of_left groups)
  later-other e groups sorted placed at = subst (λ k. HaveOther j of_left k (side_rows of_left groups)) (sym at) (others-in j of_left e.0 groups (sorted_head code_cmp e.0 (keys_of groups) sorted) placed.1)

  pub filter-local : (groups : GroupList) → AreSorted groups → ArePlaced j groups → filter q (side_rows of_left groups) ≡ filter q (group_rows of_left (group_at c groups))
  filter-local [] sorted placed = ap (filter q) (sym (none-in of_left))
  filter-local (e ∷ groups) sorted placed =
      let split : (t : Bool) → is_at (code_cmp c) e.0 ≡ t → filter q (group_rows of_left e.1 ++ side_rows of_left groups) ≡ filter q (group_rows of_left (unwrap_or (cond t (Some e.1) (lookup (is_at (code_cmp c)) groups)) no_rows)) =
      elim [
        | true ↦ λ h. filter-first q (group_rows of_left e.1) (side_rows of_left groups) (fails-other (side_rows of_left groups) (later-other e groups sorted placed (at-code j c e.0 h)))
        | false ↦ λ h. filter-last q (group_rows of_left e.1) (side_rows of_left groups) (fails-of e.0 (group_rows of_left e.1) (not-at j c e.0 h) (side-code j of_left e.0 e.1 placed.0)) ∙ filter-local groups (sorted_tail code_cmp e.0 (keys_of groups) sorted) placed.1
      ]
      in split (is_at (code_cmp c) e.0) refl

  pub any-local : (groups : GroupList) → AreSorted groups → ArePlaced j groups → list_any q (side_rows of_left groups) ≡ list_any q (group_rows of_left (group_at c groups))
  any-local [] sorted placed = ap (list_any q) (sym (none-in of_left))
  any-local (e ∷ groups) sorted placed =
      let split : (t : Bool) → is_at (code_cmp c) e.0 ≡ t → list_any q (group_rows of_left e.1 ++ side_rows of_left groups) ≡ list_any q (group_rows of_left (unwrap_or (cond t (Some e.1) (lookup (is_at (code_cmp c)) groups)) no_rows)) =
      elim [
        | true ↦ λ h. any-first q (group_rows of_left e.1) (side_rows of_left groups) (fails-other (side_rows of_left groups) (later-other e groups sorted placed (at-code j c e.0 h)))
        | false ↦ λ h. any-last q (group_rows of_left e.1) (side_rows of_left groups) (fails-of e.0 (group_rows of_left e.1) (not-at j c e.0 h) (side-code j of_left e.0 e.1 placed.0)) ∙ any-local groups (sorted_tail code_cmp e.0 (keys_of groups) sorted) placed.1
      ]
      in split (is_at (code_cmp c) e.0) refl

times-filter : (z : Row) (rows : List Row) → times eq_row z rows ≡ length (filter (eq_row z) rows)
times-filter z [] = refl
times-filter z (row ∷ rows) = elim (eq_row z row) as (λ t. cond t 1 0 + times eq_row z rows ≡ length (cond t (row ∷ filter (eq_row z) rows) (filter (eq_row z) rows))) [ true ↦ omega (arith, times-filter z rows) | false ↦ omega (arith, times-filter z rows) ]

-- how often a row stands in a table
pub times-local : (j : Join) (of_left : Bool) (z : Row) (groups : GroupList) → AreSorted groups → ArePlaced j groups → times eq_row z (side_rows of_left groups) ≡ times eq_row z (group_rows of_left (group_at (row_code j of_left z) groups))
times-local j of_left z groups sorted placed =
    times-filter z (side_rows of_left groups)
    ∙ ap length (filter-local j of_left (row_code j of_left z) (eq_row z) (λ row e. ap (row_code j of_left) (sym (eq_row-sound z row e))) groups sorted placed)
    ∙ sym (times-filter z (group_rows of_left (group_at (row_code j of_left z) groups)))

-- a weight of one group is at most that of all
pub weight-in : (f : GroupRows → ℕ) → f no_rows ≡ 0 → (c : Code) (groups : GroupList) → f (group_at c groups) ≤ sum_by f (values_of groups)
weight-in f z c groups =
    let gone = sum_by-remove_entry f (is_at (code_cmp c)) groups in
    let by_look : (o : Option GroupRows) → f (unwrap_or o no_rows) ≡ unwrap_or (option_map f o) 0 = elim [ None ↦ z | Some g ↦ refl ] in
    let one = by_look (lookup (is_at (code_cmp c)) groups) in
    omega (arith, gone, one)

both-hold : (a b : Bool) → (a && b) ≡ true → (a ≡ true) × (b ≡ true)
both-hold true b h = (refl, h)
both-hold false b h = cc

-- ---- what comes and goes, told by the whole tables

module _ (j : Join) (right_built : Bool) (row : Row) (groups : GroupList) (sorted : AreSorted groups) (placed : ArePlaced j groups) where
  abbrev pub own_code : Code
  own_code = row_code j right_built row

  met-local : met_by_row j right_built row (side_rows (not right_built) groups) ≡ met_by_row j right_built row (group_rows (not right_built) (group_at own_code groups))
  met-local =
      let key = probed_key j right_built row in
      filter-local j (not right_built) own_code (λ b. joins j.join_nulls key && has_built_key j right_built key b)
      (λ b h. ap code_of (eq_row-sound (probed_key j (not right_built) b) key (both-hold (joins j.join_nulls key) (has_built_key j right_built key b) h).1))
      groups sorted placed

  covered-local : is_covered j right_built row (side_rows right_built groups ++ []) ≡ is_covered j right_built row (group_rows right_built (group_at own_code groups) ++ [])
  covered-local =
      let key = probed_key j right_built row in
      ap (is_covered j right_built row) (append-nil (side_rows right_built groups))
      ∙ any-local j right_built own_code (has_probed_key j right_built key) (λ p h. ap code_of (eq_row-sound (probed_key j right_built p) key h)) groups sorted placed
      ∙ ap (is_covered j right_built row) (sym (append-nil (group_rows right_built (group_at own_code groups))))

  abbrev uncovers : Bool
  uncovers = uncovers_beside j right_built row (group_rows right_built (group_at own_code groups) ++ [])

  same-uncovers : uncovers_beside j right_built row (side_rows right_built groups ++ []) ≡ uncovers
  same-uncovers = ap (λ t. keeps_built j.how right_built && not t) covered-local

  come-local : rows_that_come j right_built (uncovers_beside j right_built row (side_rows right_built groups ++ [])) row (side_rows (not right_built) groups) ≡ rows_that_come j right_built uncovers row (group_rows (not right_built) (group_at own_code groups))
  come-local =
      ap (λ t. rows_that_come j right_built t row (side_rows (not right_built) groups)) same-uncovers
      ∙ ap (λ met. pairs_that_come j right_built uncovers row met ++ own_padding j right_built row met) met-local

  go-local : rows_that_go j right_built (uncovers_beside j right_built row (side_rows right_built groups ++ [])) row (side_rows (not right_built) groups) ≡ rows_that_go j right_built uncovers row (group_rows (not right_built) (group_at own_code groups))
  go-local =
      ap (λ t. rows_that_go j right_built t row (side_rows (not right_built) groups)) same-uncovers
      ∙ ap (paddings_that_go j right_built uncovers row) met-local

  -- the shares of the tables with one row more
  pub tables-more : is_view_kind j.how ≡ true → (w : Row → ℕ) →
      total w (all_shares j right_built (side_rows right_built groups ++ row ∷ []) (side_rows (not right_built) groups)) + total w (rows_that_go j right_built uncovers row (group_rows (not right_built) (group_at own_code groups)))
      ≡ total w (all_shares j right_built (side_rows right_built groups) (side_rows (not right_built) groups)) + total w (rows_that_come j right_built uncovers row (group_rows (not right_built) (group_at own_code groups)))
  tables-more kind w =
      let law = row-more j right_built row kind (side_rows right_built groups) [] (side_rows (not right_built) groups) w in
      let come = ap (total w) come-local in
      let go = ap (total w) go-local in
      let same = ap (λ l. total w (all_shares j right_built l (side_rows (not right_built) groups))) (append-nil (side_rows right_built groups)) in
      omega (arith, law, come, go, same)
