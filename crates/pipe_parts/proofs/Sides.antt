-- Joins in parts: one side in parts beside the whole other side, both sides by the join's keys, and both sides whole.
use Rattle.std.proofs.Common.{◌≡◌, ℕ, ◌<◌, Bool, true, false, ◌&&◌, not, List, [], ◌++◌, map, append-nil, refl, ap, sym, ◌∙◌}
use Rattle.std.specs.Prelude.{filter}
use Rattle.std.specs.List.{AllByRecursion, flat_map}
use Rattle.pipe_schema.specs.Rows.{Row, eq_row}
use Rattle.pipe_schema.specs.declared.any_value.AnyValue.{AnyValue}
use Rattle.pipe_schema.proofs.Weights.{SameBag, SameBag-refl, SameBag-sym, SameBag-trans, SameBag-from_equal, SameBag-append, SameBag-map, SameBag-filter, SameBag-flat_map, eq_row-sound}
use Rattle.pipe_expr.specs.Joins.{Join, key_of, joins, matches, rows_by}
use Rattle.pipe_expr.specs.Shares.{meets, met_by, has_built_match, lacks_probed_match, row_where, probe_pair, pad_probed, pad_built, probe_pairs, share_by, own_by}
use Rattle.pipe_expr.specs.declared.join_words.JoinType.{JoinType}
use Rattle.pipe_expr.specs.declared.join_words.JoinType.TheVariants as how
use Rattle.pipe_expr.proofs.ShareLaw.{right-built, left-built}
use Rattle.pipe_rules.proofs.Filters.{all-always, all-of, filter-same}
use Rattle.pipe_parts.specs.Parts.{together}
use Rattle.pipe_parts.proofs.Together.{together-same, together-flat, together-filter, together-map, together-append, together-nothing, together-one, any-same, filter-none, pieces-same}

and-first : (a b : Bool) → (a && b) ≡ true → a ≡ true
and-first true b e = refl
and-first false b e = cc

module _ (j : Join) where
  -- ---- a row's share rests on the rows that it meets

  pairs-share : (right_built : Bool) (l : Row) (a b : List Row) → SameBag (filter (meets j right_built l) a) (filter (meets j right_built l) b) → SameBag (probe_pairs j right_built a l) (probe_pairs j right_built b l)
  pairs-share right_built l a b h = SameBag-map (probe_pair j right_built l) h

  padding-share : (right_built : Bool) (l : Row) (a b : List Row) → SameBag (filter (meets j right_built l) a) (filter (meets j right_built l) b) → SameBag (row_where (not (has_built_match j right_built a l)) (pad_probed j right_built l)) (row_where (not (has_built_match j right_built b l)) (pad_probed j right_built l))
  padding-share right_built l a b h = SameBag-from_equal (ap (λ t. row_where (not t) (pad_probed j right_built l)) (any-same (meets j right_built l) a b h))

  pub same-share : (kind : JoinType) (right_built : Bool) (l : Row) (a b : List Row) → SameBag (filter (meets j right_built l) a) (filter (meets j right_built l) b) → SameBag (share_by kind j right_built a l) (share_by kind j right_built b l)
  same-share how.Inner right_built l a b h = pairs-share right_built l a b h
  same-share how.Left true l a b h = SameBag-append (pairs-share true l a b h) (padding-share true l a b h)
  same-share how.Left false l a b h = pairs-share false l a b h
  same-share how.Full right_built l a b h = SameBag-append (pairs-share right_built l a b h) (padding-share right_built l a b h)
  same-share how.Cross right_built l a b h = pairs-share right_built l a b h
  same-share how.Semi true l a b h = SameBag-from_equal (ap (λ t. row_where t l) (any-same (meets j true l) a b h))
  same-share how.Semi false l a b h = SameBag-refl []
  same-share how.Anti true l a b h = SameBag-from_equal (ap (λ t. row_where (not t) l) (any-same (meets j true l) a b h))
  same-share how.Anti false l a b h = SameBag-refl []

  -- the shares of the same rows over the same rows
  pub same-shares : (kind : JoinType) (right_built : Bool) {a b c d : List Row} → SameBag a b → SameBag c d → SameBag (flat_map (share_by kind j right_built c) a) (flat_map (share_by kind j right_built d) b)
  same-shares kind right_built {a = a} {b = b} {c = c} {d = d} h k =
      SameBag-trans (SameBag-flat_map (share_by kind j right_built c) h)
      (pieces-same (λ row. Unit {0}) (share_by kind j right_built c) (share_by kind j right_built d) b (λ row _. same-share kind right_built row c d (SameBag-filter (meets j right_built row) k)) (all-always (λ row. Unit {0}) (λ row. tt) b))

  -- ---- one side in parts, the other whole with each of them

  module _ (kind : JoinType) (right_built : Bool) (rows : List Row → List Row → List Row) (shared : (probed built : List Row) → SameBag (flat_map (share_by kind j right_built built) probed) (rows probed built)) where
    pub one-side : (n : ℕ) (probed : List Row) (part : ℕ → List Row) (built : List Row) (whole : ℕ → List Row) → SameBag (together n part) probed → ((p : ℕ) → p < n → SameBag (whole p) built) → SameBag (together n (λ p. rows (part p) (whole p))) (rows probed built)
    one-side n probed part built whole h k =
        let share = share_by kind j right_built built in
        let each : (p : ℕ) → p < n → SameBag (rows (part p) (whole p)) (flat_map share (part p)) = λ p lt.
        SameBag-trans (SameBag-sym (shared (part p) (whole p))) (same-shares kind right_built (SameBag-refl (part p)) (k p lt)) in
        SameBag-trans (together-same n (λ p. rows (part p) (whole p)) (λ p. flat_map share (part p)) each)
        (SameBag-trans (SameBag-sym (SameBag-from_equal (together-flat share n part)))
        (SameBag-trans (SameBag-flat_map share h) (shared probed built)))

  -- ---- both sides by the join's keys

  -- a row lies in the part of its key
  abbrev pub LeftPlaced : (List AnyValue → ℕ) → ℕ → Row → Type 0
  LeftPlaced place p row = place (key_of j.left j.left_on row) ≡ p

  abbrev pub RightPlaced : (List AnyValue → ℕ) → ℕ → Row → Type 0
  RightPlaced place p row = place (key_of j.right j.right_on row) ≡ p

  -- rows of two parts don't match
  apart : (place : List AnyValue → ℕ) (p q : ℕ) (l r : Row) → LeftPlaced place p l → RightPlaced place q r → (q ≡ p → ⊥) → matches j l r ≡ false
  apart place p q l r hl hr other =
      let split : (b : Bool) → matches j l r ≡ b → b ≡ false = elim [
        | true ↦ λ e. (
            let same : key_of j.left j.left_on l ≡ key_of j.right j.right_on r = eq_row-sound (key_of j.left j.left_on l) (key_of j.right j.right_on r) (and-first (eq_row (key_of j.left j.left_on l) (key_of j.right j.right_on r)) (joins j.join_nulls (key_of j.left j.left_on l)) e) in
            absurd (other (sym hr ∙ sym (ap place same) ∙ hl)))
        | false ↦ λ e. refl
      ]
      in split (matches j l r) refl

  module _ (place : List AnyValue → ℕ) (n : ℕ) (lefts rights : List Row) (left right : ℕ → List Row) (hl : SameBag (together n left) lefts) (hr : SameBag (together n right) rights) (pl : (p : ℕ) → p < n → AllByRecursion (LeftPlaced place p) (left p)) (pr : (p : ℕ) → p < n → AllByRecursion (RightPlaced place p) (right p)) where
    -- a left row meets the right rows of its part alone
    met-right : (p : ℕ) → p < n → (l : Row) → LeftPlaced place p l → SameBag (filter (matches j l) (right p)) (filter (matches j l) rights)
    met-right p lt l h =
        SameBag-sym (SameBag-trans (SameBag-sym (SameBag-filter (matches j l) hr))
        (SameBag-from_equal (
        together-filter (matches j l) n right
        ∙ together-one n p (λ q. filter (matches j l) (right q)) lt (λ q k other. filter-none (matches j l) (right q) (all-of (RightPlaced place q) (λ r. matches j l r ≡ false) (λ r g. apart place p q l r h g other) (right q) (pr q k))))))

    -- and a right row the left rows of its part
    met-left : (p : ℕ) → p < n → (r : Row) → RightPlaced place p r → SameBag (filter (met_by j true r) (left p)) (filter (met_by j true r) lefts)
    met-left p lt r h =
        SameBag-sym (SameBag-trans (SameBag-sym (SameBag-filter (met_by j true r) hl))
        (SameBag-from_equal (
        together-filter (met_by j true r) n left
        ∙ together-one n p (λ q. filter (met_by j true r) (left q)) lt (λ q k other. filter-none (met_by j true r) (left q) (all-of (LeftPlaced place q) (λ l. matches j l r ≡ false) (λ l g. apart place q p l r g h (λ same. other (sym same))) (left q) (pl q k))))))

    shares-keyed : (kind : JoinType) → SameBag (together n (λ p. flat_map (share_by kind j true (right p)) (left p))) (flat_map (share_by kind j true rights) lefts)
    shares-keyed kind =
        let share = share_by kind j true rights in
        let each : (p : ℕ) → p < n → SameBag (flat_map (share_by kind j true (right p)) (left p)) (flat_map share (left p)) = λ p lt.
        pieces-same (LeftPlaced place p) (share_by kind j true (right p)) share (left p) (λ l h. same-share kind true l (right p) rights (met-right p lt l h)) (pl p lt) in
        SameBag-trans (together-same n (λ p. flat_map (share_by kind j true (right p)) (left p)) (λ p. flat_map share (left p)) each)
        (SameBag-trans (SameBag-sym (SameBag-from_equal (together-flat share n left))) (SameBag-flat_map share hl))

    nothing-own : SameBag (together n (λ p. let none : List Row = [] in none)) []
    nothing-own = SameBag-from_equal (together-nothing n (λ p. let none : List Row = [] in none) (λ p lt. refl))

    full-own : SameBag (together n (λ p. map (pad_built j true) (filter (lacks_probed_match j true (left p)) (right p)))) (map (pad_built j true) (filter (lacks_probed_match j true lefts) rights))
    full-own =
        let lacks = lacks_probed_match j true lefts in
        let each : (p : ℕ) → p < n → SameBag (map (pad_built j true) (filter (lacks_probed_match j true (left p)) (right p))) (map (pad_built j true) (filter lacks (right p))) = λ p lt.
        SameBag-from_equal (ap (map (pad_built j true)) (filter-same (lacks_probed_match j true (left p)) lacks (right p) (all-of (RightPlaced place p) (λ r. lacks_probed_match j true (left p) r ≡ lacks r) (λ r h. ap not (any-same (met_by j true r) (left p) lefts (met-left p lt r h))) (right p) (pr p lt)))) in
        SameBag-trans (together-same n (λ p. map (pad_built j true) (filter (lacks_probed_match j true (left p)) (right p))) (λ p. map (pad_built j true) (filter lacks (right p))) each)
        (SameBag-trans (SameBag-from_equal (together-map (pad_built j true) n (λ p. filter lacks (right p))))
        (SameBag-map (pad_built j true)
        (SameBag-trans (SameBag-sym (SameBag-from_equal (together-filter lacks n right))) (SameBag-filter lacks hr))))

    own-keyed : (kind : JoinType) → SameBag (together n (λ p. own_by kind j true (left p) (right p))) (own_by kind j true lefts rights)
    own-keyed how.Inner = nothing-own
    own-keyed how.Left = nothing-own
    own-keyed how.Full = full-own
    own-keyed how.Cross = nothing-own
    own-keyed how.Semi = nothing-own
    own-keyed how.Anti = nothing-own

    pub both-keyed : (kind : JoinType) → SameBag (together n (λ p. rows_by kind j (left p) (right p))) (rows_by kind j lefts rights)
    both-keyed kind =
        let shares : ℕ → List Row = λ p. flat_map (share_by kind j true (right p)) (left p) in
        let own : ℕ → List Row = λ p. own_by kind j true (left p) (right p) in
        SameBag-trans (together-same n (λ p. rows_by kind j (left p) (right p)) (λ p. shares p ++ own p) (λ p lt. SameBag-sym (right-built kind j (left p) (right p))))
        (SameBag-trans (together-append n shares own)
        (SameBag-trans (SameBag-append (shares-keyed kind) (own-keyed kind)) (right-built kind j lefts rights)))

  -- ---- both sides whole

  padded-same : {a b c d : List Row} → SameBag a b → SameBag c d → SameBag (map (pad_built j true) (filter (lacks_probed_match j true a) c)) (map (pad_built j true) (filter (lacks_probed_match j true b) d))
  padded-same {a = a} {b = b} {c = c} {d = d} h k =
      SameBag-trans
      (SameBag-from_equal (ap (map (pad_built j true)) (filter-same (lacks_probed_match j true a) (lacks_probed_match j true b) c (all-always (λ r. lacks_probed_match j true a r ≡ lacks_probed_match j true b r) (λ r. ap not (any-same (met_by j true r) a b (SameBag-filter (met_by j true r) h))) c))))
      (SameBag-map (pad_built j true) (SameBag-filter (lacks_probed_match j true b) k))

  own-same : (kind : JoinType) {a b c d : List Row} → SameBag a b → SameBag c d → SameBag (own_by kind j true a c) (own_by kind j true b d)
  own-same how.Inner h k = SameBag-refl []
  own-same how.Left h k = SameBag-refl []
  own-same how.Full h k = padded-same h k
  own-same how.Cross h k = SameBag-refl []
  own-same how.Semi h k = SameBag-refl []
  own-same how.Anti h k = SameBag-refl []

  pub both-whole : (kind : JoinType) {a b c d : List Row} → SameBag a b → SameBag c d → SameBag (rows_by kind j a c) (rows_by kind j b d)
  both-whole kind {a = a} {b = b} {c = c} {d = d} h k =
      SameBag-trans (SameBag-sym (right-built kind j a c))
      (SameBag-trans (SameBag-append (same-shares kind true h k) (own-same kind h k)) (right-built kind j b d))

  -- ---- which sides may be in parts

  bare : {X : Type 0} {a b : List X} → SameBag (a ++ []) b → SameBag a b
  bare {a = a} h = SameBag-trans (SameBag-sym (SameBag-from_equal (append-nil a))) h

  -- the left side in parts: joins that keep no right row by itself
  pub left-shared : (kind : JoinType) (left right : List Row) → own_by kind j true left right ≡ [] → SameBag (flat_map (share_by kind j true right) left) (rows_by kind j left right)
  left-shared kind left right none =
      bare (SameBag-trans (SameBag-sym (SameBag-from_equal (ap (λ l. flat_map (share_by kind j true right) left ++ l) none))) (right-built kind j left right))

  -- the right side in parts: joins that keep no left row by itself
  pub right-shared : (kind : JoinType) (left right : List Row) → own_by kind j false right left ≡ [] → SameBag (flat_map (share_by kind j false left) right) (rows_by kind j left right)
  right-shared kind left right none =
      bare (SameBag-trans (SameBag-sym (SameBag-from_equal (ap (λ l. flat_map (share_by kind j false left) right ++ l) none))) (left-built kind j left right))
