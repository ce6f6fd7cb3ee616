-- One probed row more: the rows of the join after it, with those that go, are the rows before it with those that come.
use Rattle.std.proofs.Common.{◌≡◌, ℕ, ◌+◌, ◌≤◌, Bool, true, false, cond, List, [], ◌∷◌, ◌++◌, map, length, refl, ap, sym, ◌∙◌, subst, arith, append-nil}
use Rattle.std.specs.Prelude.{filter, not, ◌&&◌, ◌||◌}
use Rattle.std.specs.List.{flat_map, list_any}
use Rattle.pipe_schema.specs.Rows.{Row, eq_row}
use Rattle.pipe_schema.specs.Weights.{total}
use Rattle.pipe_schema.proofs.Weights.{SameBag, SameBag-trans, SameBag-sym, total-append, total-map, total-filter, total-flat_map, total-same, total-plus, eq_row-sound, eq_row-refl}
use Rattle.pipe_expr.specs.Joins.{Join, joins}
use Rattle.pipe_expr.specs.Shares.{meets, met_by, probe_pair, pad_built, lacks_probed_match, has_probed_match, probe_share, built_share, padded_built, unmatched_built, all_shares}
use Rattle.pipe_view.specs.Sides.{probed_key, built_key, has_probed_key, has_built_key, is_view_kind, keeps_built}
use Rattle.pipe_view.specs.Changes.{is_hidden, comes, goes, pairs_that_come, paddings_that_go, own_padding, met_by_row, rows_that_come, rows_that_go}
use Rattle.pipe_view.proofs.Tests.{any-alike, any-middle, filter-all}
use Rattle.pipe_view.proofs.Meeting.{meets-by_key, meets-by_built, met-rows, share-comes, own-share, no-paddings_go}

zeros : {X : Type 0} (xs : List X) → total (λ x. 0) xs ≡ 0
zeros [] = refl
zeros (x ∷ xs) = omega (arith, zeros xs)

-- ---- pairs that take the place of a padding that is the same

module _ (j : Join) (right_built : Bool) (p : Row) (w : Row → ℕ) where
  hidden-step : (b : Row) (t : Bool) → is_hidden j right_built p b ≡ t → (come go pads all : ℕ) → come + pads ≡ all + go →
      cond (not t) (w (probe_pair j right_built p b)) 0 + come + (w (pad_built j right_built b) + pads) ≡ w (probe_pair j right_built p b) + all + (cond (not t) (w (pad_built j right_built b)) 0 + go)
  hidden-step b true e come go pads all h =
      let same : w (probe_pair j right_built p b) ≡ w (pad_built j right_built b) = ap w (eq_row-sound (probe_pair j right_built p b) (pad_built j right_built b) e) in
      omega (arith, h, same)
  hidden-step b false e come go pads all h = omega (arith, h)

  total-kept : (f : Row → Row) (t : Bool) (b : Row) (l : List Row) → total w (map f (cond t (b ∷ l) l)) ≡ cond t (w (f b)) 0 + total w (map f l)
  total-kept f true b l = refl
  total-kept f false b l = omega arith

  -- pairs that come and the paddings before, as all pairs and the paddings that go
  pub uncovered : (met : List Row) →
      total w (pairs_that_come j right_built true p met) + total w (map (pad_built j right_built) met) ≡ total w (map (probe_pair j right_built p) met) + total w (paddings_that_go j right_built true p met)
  uncovered [] = refl
  uncovered (b ∷ met) =
      let come = total-kept (probe_pair j right_built p) (comes j right_built true p b) b (filter (comes j right_built true p) met) in
      let go = total-kept (pad_built j right_built) (goes j right_built true p b) b (filter (goes j right_built true p) met) in
      let step = hidden-step b (is_hidden j right_built p b) refl (total w (pairs_that_come j right_built true p met)) (total w (paddings_that_go j right_built true p met)) (total w (map (pad_built j right_built) met)) (total w (map (probe_pair j right_built p) met)) (uncovered met) in
      omega (arith, come, go, step)

-- what stands padded before a row that uncovers
abbrev pub covered_before : Join → (right_built uncovers : Bool) → Row → List Row → List Row
covered_before j right_built uncovers p built = cond uncovers (map (pad_built j right_built) (met_by_row j right_built p built)) []

-- what comes, with what stood padded, is the share with what goes
pub come-go : (j : Join) (right_built uncovers : Bool) (p : Row) (built : List Row) → is_view_kind j.how ≡ true → (w : Row → ℕ) →
    total w (rows_that_come j right_built uncovers p built) + total w (covered_before j right_built uncovers p built) ≡ total w (probe_share j right_built built p) + total w (rows_that_go j right_built uncovers p built)
come-go j right_built false p built k w =
    let come = ap (total w) (share-comes j right_built built p k) in
    let go = ap (total w) (no-paddings_go j right_built p (met_by_row j right_built p built)) in
    omega (arith, come, go)
come-go j right_built true p built k w =
    let met = met_by_row j right_built p built in
    let pad = own_padding j right_built p met in
    let share = ap (total w) (share-comes j right_built built p k) in
    let first = total-append w (pairs_that_come j right_built true p met) pad in
    let second = total-append w (pairs_that_come j right_built false p met) pad in
    let plain : total w (pairs_that_come j right_built false p met) ≡ total w (map (probe_pair j right_built p) met) = ap (λ l. total w (map (probe_pair j right_built p) l)) (filter-all met) in
    let both = uncovered j right_built p w met in
    omega (arith, share, first, second, plain, both)

-- ---- the paddings of the built side

and-right : (a b : Bool) → a ≡ true → (a && b) ≡ b
and-right true b h = refl
and-right false b h = cc

both-hold : (a b : Bool) → (a && b) ≡ true → (a ≡ true) × (b ≡ true)
both-hold true b h = (refl, h)
both-hold false b h = cc

module _ (j : Join) (right_built : Bool) (x : Row) where
  -- beside a built row that a row meets, another row meets it where it has the row's key
  pub met-alike : (b q : Row) → meets j right_built x b ≡ true → met_by j right_built b q ≡ has_probed_key j right_built (probed_key j right_built x) q
  met-alike b q h =
      let kx = probed_key j right_built x in
      let kb = built_key j right_built b in
      let parts = both-hold (joins j.join_nulls kb) (has_probed_key j right_built kb x) (sym (meets-by_built j right_built x b) ∙ h) in
      let same : kx ≡ kb = eq_row-sound kx kb parts.1 in
      meets-by_built j right_built q b ∙ and-right (joins j.join_nulls kb) (has_probed_key j right_built kb q) parts.0 ∙ ap (λ k. has_probed_key j right_built k q) (sym same)

  -- whether some row has the key of the row
  abbrev pub is_covered : List Row → Bool
  is_covered rest = list_any (has_probed_key j right_built (probed_key j right_built x)) rest

  lost : (t m : Bool) (n : ℕ) → cond (not (t || m)) n 0 + cond m (cond (not t) n 0) 0 ≡ cond (not t) n 0
  lost true true n = refl
  lost true false n = refl
  lost false true n = omega arith
  lost false false n = omega arith

  lost-at : (first last : List Row) (w : Row → ℕ) (b : Row) →
      cond (lacks_probed_match j right_built (first ++ x ∷ last) b) (w (pad_built j right_built b)) 0 + cond (meets j right_built x b) (cond (not (is_covered (first ++ last))) (w (pad_built j right_built b)) 0) 0 ≡ cond (lacks_probed_match j right_built (first ++ last) b) (w (pad_built j right_built b)) 0
  lost-at first last w b =
      let n = w (pad_built j right_built b) in
      let rest = has_probed_match j right_built (first ++ last) b in
      let middle = ap (λ t. cond (not t) n 0) (any-middle (met_by j right_built b) first x last) in
      let split : (m : Bool) → meets j right_built x b ≡ m → cond m (cond (not (is_covered (first ++ last))) n 0) 0 ≡ cond m (cond (not rest) n 0) 0 =
      elim [
        | true ↦ λ e. ap (λ t. cond (not t) n 0) (sym (any-alike (met_by j right_built b) _ (first ++ last) (λ q. met-alike b q e)))
        | false ↦ λ e. refl
      ] in
      let same = split (meets j right_built x b) refl in
      let cases = lost rest (meets j right_built x b) n in
      omega (arith, middle, same, cases)

  total-padded : (w : Row → ℕ) (probed built : List Row) → total w (padded_built j right_built probed built) ≡ total (λ b. cond (lacks_probed_match j right_built probed b) (w (pad_built j right_built b)) 0) built
  total-padded w probed built = total-map (pad_built j right_built) w (unmatched_built j right_built probed built) ∙ total-filter (lacks_probed_match j right_built probed) (λ b. w (pad_built j right_built b)) built

  none-either : (m : Bool) (z : ℕ) → cond m z z ≡ z
  none-either true z = refl
  none-either false z = refl

  total-uncovered : (w : Row → ℕ) (t : Bool) (built : List Row) → total (λ b. cond (meets j right_built x b) (cond (not t) (w (pad_built j right_built b)) 0) 0) built ≡ total w (covered_before j right_built (not t) x built)
  total-uncovered w true built = total-same _ (λ b. 0) built (λ b. none-either (meets j right_built x b) 0) ∙ zeros built
  total-uncovered w false built =
      sym (total-filter (meets j right_built x) (λ b. w (pad_built j right_built b)) built) ∙ sym (total-map (pad_built j right_built) w (filter (meets j right_built x) built))
      ∙ ap (λ l. total w (map (pad_built j right_built) l)) (met-rows j right_built x built)

  paddings-lost : (w : Row → ℕ) (first last built : List Row) →
      total w (padded_built j right_built (first ++ x ∷ last) built) + total w (covered_before j right_built (not (is_covered (first ++ last))) x built) ≡ total w (padded_built j right_built (first ++ last) built)
  paddings-lost w first last built =
      let after = total-padded w (first ++ x ∷ last) built in
      let gone = total-uncovered w (is_covered (first ++ last)) built in
      let before = total-padded w (first ++ last) built in
      let each = sym (total-same _ _ built (lost-at first last w)) in
      let parts = total-plus (λ b. cond (lacks_probed_match j right_built (first ++ x ∷ last) b) (w (pad_built j right_built b)) 0) (λ b. cond (meets j right_built x b) (cond (not (is_covered (first ++ last))) (w (pad_built j right_built b)) 0) 0) built in
      omega (arith, after, gone, before, each, parts)

  own-lost : (keeps : Bool) (w : Row → ℕ) (first last built : List Row) →
      total w (cond keeps (padded_built j right_built (first ++ x ∷ last) built) []) + total w (covered_before j right_built (keeps && not (is_covered (first ++ last))) x built) ≡ total w (cond keeps (padded_built j right_built (first ++ last) built) [])
  own-lost true w first last built = paddings-lost w first last built
  own-lost false w first last built = refl

  pieces-middle : (f : Row → List Row) (w : Row → ℕ) (first last : List Row) → total w (flat_map f (first ++ x ∷ last)) ≡ total w (flat_map f (first ++ last)) + total w (f x)
  pieces-middle f w [] last = omega (arith, total-append w (f x) (flat_map f last))
  pieces-middle f w (y ∷ first) last =
      omega (arith, pieces-middle f w first last, total-append w (f y) (flat_map f (first ++ x ∷ last)), total-append w (f y) (flat_map f (first ++ last)))

  -- whether built rows that the row meets stand padded beside some other rows
  abbrev pub uncovers_beside : List Row → Bool
  uncovers_beside rest = keeps_built j.how right_built && not (is_covered rest)

  -- the law
  pub row-more : is_view_kind j.how ≡ true → (first last built : List Row) (w : Row → ℕ) →
      total w (all_shares j right_built (first ++ x ∷ last) built) + total w (rows_that_go j right_built (uncovers_beside (first ++ last)) x built)
      ≡ total w (all_shares j right_built (first ++ last) built) + total w (rows_that_come j right_built (uncovers_beside (first ++ last)) x built)
  row-more k first last built w =
      let after = total-append w (flat_map (probe_share j right_built built) (first ++ x ∷ last)) (built_share j right_built (first ++ x ∷ last) built) in
      let before = total-append w (flat_map (probe_share j right_built built) (first ++ last)) (built_share j right_built (first ++ last) built) in
      let pieces = pieces-middle (probe_share j right_built built) w first last in
      let own_after = ap (total w) (own-share j right_built (first ++ x ∷ last) built k) in
      let own_before = ap (total w) (own-share j right_built (first ++ last) built k) in
      let own = own-lost (keeps_built j.how right_built) w first last built in
      let both = come-go j right_built (uncovers_beside (first ++ last)) x built k w in
      omega (arith, after, before, pieces, own_after, own_before, own, both)
