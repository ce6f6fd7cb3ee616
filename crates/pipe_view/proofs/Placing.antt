-- Rows of different codes never meet, so the rows of a join are those of its groups, one after another.
use Rattle.std.proofs.Common.{◌≡◌, ℕ, ◌+◌, ◌<◌, Bool, true, false, cond, List, [], ◌∷◌, ◌++◌, map, refl, ap, sym, ◌∙◌, subst, arith, append-nil, append_assoc}
use Rattle.std.specs.Prelude.{filter, not, ◌&&◌, ◌||◌, unwrap_or, Option, Some, None}
use Rattle.std.specs.List.{flat_map, list_any, AllByRecursion}
use Rattle.std.specs.List.Sorted.{IsStrictlySortedBy}
use Rattle.std.specs.Map.{keys_of, values_of, lookup}
use Rattle.std.specs.BTreeMap.{is_at}
use Rattle.std.specs.Ordering.{is_eq}
use Rattle.std.specs.declared.cmp.Ordering.{Ordering}
use Rattle.std.specs.declared.cmp.Ordering.TheVariants.{Less, Equal, Greater}
use Rattle.pipe_view.proofs.CodeOrder.{code_itself, same_code}
use Rattle.std.proofs.lemmas.Map.Keys.{sorted_head, sorted_tail}
use Rattle.pipe_schema.specs.Rows.{Row, eq_row, times}
use Rattle.pipe_schema.specs.Weights.{total}
use Rattle.pipe_schema.proofs.Weights.{SameBag, SameBag-refl, SameBag-trans, SameBag-sym, SameBag-from_equal, SameBag-append, SameBag-from_rows, total-append, total-same, eq_row-sound, eq_row-refl}
use Rattle.pipe_expr.specs.Joins.{Join, joins, join_rows}
use Rattle.pipe_expr.specs.Shares.{meets, met_by, has_built_match, has_probed_match, lacks_probed_match, row_where, probe_pairs, probe_pair, pad_probed, pad_built, pairs_or_padding, share_by, own_by, probe_share, built_share, padded_built, all_shares}
use Rattle.pipe_expr.specs.declared.join_words.JoinType.{JoinType}
use Rattle.pipe_expr.specs.declared.join_words.JoinType.TheVariants as how
use Rattle.pipe_expr.proofs.ShareLaw.{shares-right_built, shares-left_built}
use Rattle.pipe_view.specs.Sides.{probed_key, built_key, has_probed_key, is_view_kind}
use Rattle.pipe_view.specs.Codes.{code_of, row_code, GroupRows, GroupList, no_rows, group_rows, group_at, rows_in, side_rows, HaveCode, IsPlaced, AreSorted, ArePlaced, Code, code_cmp}
use Rattle.pipe_view.specs.Joined.{group_join}
use Rattle.pipe_view.proofs.Tests.{filter-first, filter-last, any-first, any-last, pieces-alike_in, filter-alike_in, all-map, all-append}
use Rattle.pipe_view.proofs.Meeting.{meets-by_built, group-shares}

both-hold : (a b : Bool) → (a && b) ≡ true → (a ≡ true) × (b ≡ true)
both-hold true b h = (refl, h)
both-hold false b h = cc

-- rows that meet have one code
code-of_match : (j : Join) (p b : Row) → meets j true p b ≡ true → row_code j true p ≡ row_code j false b
code-of_match j p b h =
    let kb = built_key j true b in
    let parts = both-hold (joins j.join_nulls kb) (has_probed_key j true kb p) (sym (meets-by_built j true p b) ∙ h) in
    ap code_of (eq_row-sound (probed_key j true p) kb parts.1)

not-true : (t : Bool) → (t ≡ true → ⊥) → t ≡ false
not-true true h = absurd (h refl)
not-true false h = refl

-- rows of different codes don't meet
apart : (j : Join) (p b : Row) (c d : Code) → row_code j true p ≡ c → row_code j false b ≡ d → (c ≡ d → ⊥) → meets j true p b ≡ false
apart j p b c d hp hb ne = not-true (meets j true p b) (λ e. ne (sym hp ∙ code-of_match j p b e ∙ hb))

-- rows of other codes than one
abbrev pub HaveOther : Join → (right_built : Bool) → Code → List Row → Type 0
HaveOther j right_built c rows = AllByRecursion (λ row. row_code j right_built row ≡ c → ⊥) rows

module _ (j : Join) where
  -- a probed row beside built rows of other codes, behind or before those that it may meet
  misses-built : (p : Row) (c : Code) (rows : List Row) → row_code j true p ≡ c → HaveOther j false c rows → AllByRecursion (λ b. meets j true p b ≡ false) rows
  misses-built p c rows hp h = all-map _ _ rows (λ b ne. apart j p b c (row_code j false b) hp refl (λ e. ne (sym e))) h

  misses-built_of : (p : Row) (c : Code) (rows : List Row) → (row_code j true p ≡ c → ⊥) → HaveCode j false c rows → AllByRecursion (λ b. meets j true p b ≡ false) rows
  misses-built_of p c rows ne h = all-map _ _ rows (λ b hb. apart j p b (row_code j true p) c refl hb ne) h

  misses-probed : (b : Row) (c : Code) (rows : List Row) → row_code j false b ≡ c → HaveOther j true c rows → AllByRecursion (λ p. met_by j true b p ≡ false) rows
  misses-probed b c rows hb h = all-map _ _ rows (λ p ne. apart j p b (row_code j true p) c refl hb ne) h

  misses-probed_of : (b : Row) (c : Code) (rows : List Row) → (row_code j false b ≡ c → ⊥) → HaveCode j true c rows → AllByRecursion (λ p. met_by j true b p ≡ false) rows
  misses-probed_of b c rows ne h = all-map _ _ rows (λ p hp. apart j p b c (row_code j false b) hp refl (λ e. ne (sym e))) h

  -- the share of a row rests on what it meets alone
  share-alike : (kind : JoinType) (p : Row) (a b : List Row) → filter (meets j true p) a ≡ filter (meets j true p) b → list_any (meets j true p) a ≡ list_any (meets j true p) b → share_by kind j true a p ≡ share_by kind j true b p
  share-alike how.Inner p a b f g = ap (map (probe_pair j true p)) f
  share-alike how.Left p a b f g = ap (λ l. map (probe_pair j true p) l ++ row_where (not (list_any (meets j true p) a)) (pad_probed j true p)) f ∙ ap (λ t. map (probe_pair j true p) (filter (meets j true p) b) ++ row_where (not t) (pad_probed j true p)) g
  share-alike how.Full p a b f g = ap (λ l. map (probe_pair j true p) l ++ row_where (not (list_any (meets j true p) a)) (pad_probed j true p)) f ∙ ap (λ t. map (probe_pair j true p) (filter (meets j true p) b) ++ row_where (not t) (pad_probed j true p)) g
  share-alike how.Cross p a b f g = ap (map (probe_pair j true p)) f
  share-alike how.Semi p a b f g = ap (λ t. row_where t p) g
  share-alike how.Anti p a b f g = ap (λ t. row_where (not t) p) g

  first-shares : (c : Code) (a b rest : List Row) → HaveCode j true c a → HaveOther j false c rest → flat_map (probe_share j true (b ++ rest)) a ≡ flat_map (probe_share j true b) a
  first-shares c a b rest ha hr =
      pieces-alike_in _ _ a (all-map _ _ a (λ p hp.
      let misses = misses-built p c rest hp hr in
      share-alike j.how p (b ++ rest) b (filter-first (meets j true p) b rest misses) (any-first (meets j true p) b rest misses)) ha)

  last-shares : (c : Code) (rest b more : List Row) → HaveOther j true c rest → HaveCode j false c b → flat_map (probe_share j true (b ++ more)) rest ≡ flat_map (probe_share j true more) rest
  last-shares c rest b more hr hb =
      pieces-alike_in _ _ rest (all-map _ _ rest (λ p ne.
      let misses = misses-built_of p c b ne hb in
      share-alike j.how p (b ++ more) more (filter-last (meets j true p) b more misses) (any-last (meets j true p) b more misses)) hr)

  first-paddings : (c : Code) (a rest b : List Row) → HaveOther j true c rest → HaveCode j false c b → padded_built j true (a ++ rest) b ≡ padded_built j true a b
  first-paddings c a rest b hr hb =
      ap (map (pad_built j true)) (filter-alike_in _ _ b (all-map _ _ b (λ r hc. ap not (any-first (met_by j true r) a rest (misses-probed r c rest hc hr))) hb))

  last-paddings : (c : Code) (a more rest : List Row) → HaveCode j true c a → HaveOther j false c rest → padded_built j true (a ++ more) rest ≡ padded_built j true more rest
  last-paddings c a more rest ha hr =
      ap (map (pad_built j true)) (filter-alike_in _ _ rest (all-map _ _ rest (λ r ne. ap not (any-last (met_by j true r) a more (misses-probed_of r c a ne ha))) hr))

  map-append : {X Y : Type 0} (f : X → Y) (xs ys : List X) → map f (xs ++ ys) ≡ map f xs ++ map f ys
  map-append f [] ys = refl
  map-append f (x ∷ xs) ys = ap (λ l. f x ∷ l) (map-append f xs ys)

  filter-append : {X : Type 0} (q : X → Bool) (xs ys : List X) → filter q (xs ++ ys) ≡ filter q xs ++ filter q ys
  filter-append q [] ys = refl
  filter-append q (x ∷ xs) ys = elim (q x) as (λ t. cond t (x ∷ filter q (xs ++ ys)) (filter q (xs ++ ys)) ≡ cond t (x ∷ filter q xs) (filter q xs) ++ filter q ys) [ true ↦ ap (λ l. x ∷ l) (filter-append q xs ys) | false ↦ filter-append q xs ys ]

  pieces-append : {X Y : Type 0} (f : X → List Y) (xs ys : List X) → flat_map f (xs ++ ys) ≡ flat_map f xs ++ flat_map f ys
  pieces-append f [] ys = refl
  pieces-append f (x ∷ xs) ys = ap (λ l. f x ++ l) (pieces-append f xs ys) ∙ sym (append_assoc (f x) (flat_map f xs) (flat_map f ys))

  -- one group and the rows of others
  module _ (c : Code) (a b left right : List Row) (ha : HaveCode j true c a) (hb : HaveCode j false c b) (hl : HaveOther j true c left) (hr : HaveOther j false c right) where
    shares-apart : flat_map (probe_share j true (b ++ right)) (a ++ left) ≡ flat_map (probe_share j true b) a ++ flat_map (probe_share j true right) left
    shares-apart =
        pieces-append (probe_share j true (b ++ right)) a left
        ∙ ap (λ l. l ++ flat_map (probe_share j true (b ++ right)) left) (first-shares c a b right ha hr)
        ∙ ap (λ l. flat_map (probe_share j true b) a ++ l) (last-shares c left b right hl hb)

    paddings-apart : padded_built j true (a ++ left) (b ++ right) ≡ padded_built j true a b ++ padded_built j true left right
    paddings-apart =
        ap (map (pad_built j true)) (filter-append (lacks_probed_match j true (a ++ left)) b right)
        ∙ map-append (pad_built j true) (filter (lacks_probed_match j true (a ++ left)) b) (filter (lacks_probed_match j true (a ++ left)) right)
        ∙ ap (λ l. l ++ padded_built j true (a ++ left) right) (first-paddings c a left b hl hb)
        ∙ ap (λ l. padded_built j true a b ++ l) (last-paddings c a left right ha hr)

    own-apart : (kind : JoinType) → own_by kind j true (a ++ left) (b ++ right) ≡ own_by kind j true a b ++ own_by kind j true left right
    own-apart how.Inner = refl
    own-apart how.Left = refl
    own-apart how.Full = paddings-apart
    own-apart how.Cross = refl
    own-apart how.Semi = refl
    own-apart how.Anti = refl

    apart-shares : (w : Row → ℕ) → total w (all_shares j true (a ++ left) (b ++ right)) ≡ total w (all_shares j true a b) + total w (all_shares j true left right)
    apart-shares w =
        let whole = total-append w (flat_map (probe_share j true (b ++ right)) (a ++ left)) (built_share j true (a ++ left) (b ++ right)) in
        let shares = ap (total w) shares-apart ∙ total-append w (flat_map (probe_share j true b) a) (flat_map (probe_share j true right) left) in
        let own = ap (total w) (own-apart j.how) ∙ total-append w (built_share j true a b) (built_share j true left right) in
        let first = total-append w (flat_map (probe_share j true b) a) (built_share j true a b) in
        let last = total-append w (flat_map (probe_share j true right) left) (built_share j true left right) in
        omega (arith, whole, shares, own, first, last)

  -- ---- all groups

  no-shares : (kind : JoinType) (w : Row → ℕ) → total w (own_by kind j true [] []) ≡ 0
  no-shares how.Inner w = refl
  no-shares how.Left w = refl
  no-shares how.Full w = refl
  no-shares how.Cross w = refl
  no-shares how.Semi w = refl
  no-shares how.Anti w = refl

  less-apart : (c d : Code) → code_cmp c d ≡ Less → d ≡ c → ⊥
  less-apart c d h e = let clash : Less ≡ Equal = sym h ∙ ap (code_cmp c) e ∙ code_itself c in cc

  pub others-in : (right_built : Bool) (c : Code) (groups : GroupList) → AllByRecursion (λ k. code_cmp c k ≡ Less) (keys_of groups) → ArePlaced j groups → HaveOther j right_built c (side_rows right_built groups)
  others-in right_built c [] h placed = tt
  others-in true c (e ∷ groups) h placed =
      all-append _ (e.1).left (side_rows true groups) (all-map _ _ (e.1).left (λ row at here. less-apart c e.0 h.0 (sym at ∙ here)) (placed.0).left) (others-in true c groups h.1 placed.1)
  others-in false c (e ∷ groups) h placed =
      all-append _ (e.1).right (side_rows false groups) (all-map _ _ (e.1).right (λ row at here. less-apart c e.0 h.0 (sym at ∙ here)) (placed.0).right) (others-in false c groups h.1 placed.1)

  shares-by_group : (w : Row → ℕ) (groups : GroupList) → AreSorted groups → ArePlaced j groups →
      total w (all_shares j true (side_rows true groups) (side_rows false groups)) ≡ total (λ e. total w (all_shares j true (e.1).left (e.1).right)) groups
  shares-by_group w [] sorted placed = no-shares j.how w
  shares-by_group w (e ∷ groups) sorted placed =
      let head = sorted_head code_cmp e.0 (keys_of groups) sorted in
      let tail = sorted_tail code_cmp e.0 (keys_of groups) sorted in
      apart-shares e.0 (e.1).left (e.1).right (side_rows true groups) (side_rows false groups) (placed.0).left (placed.0).right (others-in true e.0 groups head placed.1) (others-in false e.0 groups head placed.1) w
      ∙ ap (λ n. total w (all_shares j true (e.1).left (e.1).right) + n) (shares-by_group w groups tail placed.1)

  -- the rows of a join by its groups
  group-total : (w : Row → ℕ) (g : GroupRows) → is_view_kind j.how ≡ true → total w (group_join j g) ≡ total w (all_shares j true g.left g.right)
  group-total w g k = ap (total w) (group-shares j g.left g.right k)

  pub rows-by_group : is_view_kind j.how ≡ true → (w : Row → ℕ) (groups : GroupList) → AreSorted groups → ArePlaced j groups →
      total w (join_rows j (side_rows true groups) (side_rows false groups)) ≡ total (λ e. total w (group_join j e.1)) groups
  rows-by_group k w groups sorted placed =
      let law = SameBag-from_rows (shares-right_built j (side_rows true groups) (side_rows false groups)) in
      sym (law.sums w) ∙ shares-by_group w groups sorted placed ∙ total-same _ _ groups (λ e. sym (group-total w e.1 k))

  -- the rows of the join of a group, by the shares of either side
  pub group-by_side : (right_built : Bool) (w : Row → ℕ) (g : GroupRows) → is_view_kind j.how ≡ true → total w (group_join j g) ≡ total w (all_shares j right_built (group_rows right_built g) (group_rows (not right_built) g))
  group-by_side true w g k = group-total w g k
  group-by_side false w g k =
      let right = SameBag-from_rows (shares-right_built j g.left g.right) in
      let left = SameBag-from_rows (shares-left_built j g.left g.right) in
      group-total w g k ∙ right.sums w ∙ sym (left.sums w)

  -- ---- what is known of one group

  self-at : (c : Code) → is_at (code_cmp c) c ≡ true
  self-at c = ap is_eq (code_itself c)

  pub at-code : (c : Code) (k : Code) → is_at (code_cmp c) k ≡ true → c ≡ k
  at-code c k h =
      let split : (o : Ordering) → o ≡ code_cmp c k → is_eq o ≡ true → c ≡ k =
      elim [ Less ↦ λ e t. cc | Equal ↦ λ e t. same_code c k (sym e) | Greater ↦ λ e t. cc ]
      in split (code_cmp c k) refl h

  pub not-at : (c : Code) (k : Code) → is_at (code_cmp c) k ≡ false → c ≡ k → ⊥
  not-at c k h e =
      let same : is_at (code_cmp c) k ≡ true = ap (λ n. is_at (code_cmp c) n) (sym e) ∙ self-at c in
      let clash : true ≡ false = sym same ∙ h in cc

  pub placed-at : (c : Code) (groups : GroupList) → ArePlaced j groups → IsPlaced j (c, group_at c groups)
  placed-at c [] placed = record { left = tt; right = tt }
  placed-at c (e ∷ groups) placed =
      let split : (t : Bool) → is_at (code_cmp c) e.0 ≡ t → IsPlaced j (c, unwrap_or (cond t (Some e.1) (lookup (is_at (code_cmp c)) groups)) no_rows) =
      elim [
        | true ↦ λ h. (let at = at-code c e.0 h in record { left = subst (λ k. HaveCode j true k (e.1).left) (sym at) (placed.0).left; right = subst (λ k. HaveCode j false k (e.1).right) (sym at) (placed.0).right })
        | false ↦ λ h. placed-at c groups placed.1
      ]
      in split (is_at (code_cmp c) e.0) refl
