-- Joins: what each way asks of the two sides, and that the join's rows lie as wished.
use Rattle.std.proofs.Common.{◌≡◌, ℕ, ◌<◌, Bool, true, false, cond, ◌&&◌, List, [], ◌∷◌, ◌++◌, map, Option, Some, None, refl, ap, sym, subst, ◌∙◌, ◌⊎◌, inl, inr}
use Rattle.std.specs.Prelude.{filter}
use Rattle.std.specs.Str.{bytes_eq}
use Rattle.std.specs.List.{AllByRecursion, flat_map, list_all}
use Rattle.std.specs.Cmp.Lexicographic.{pointwise}
use Rattle.pipe_schema.specs.Rows.{Row, Same}
use Rattle.pipe_schema.specs.Schema.{has_name, names_of, first_unknown}
use Rattle.pipe_schema.specs.declared.any_value.AnyValue.{AnyValue}
use Rattle.pipe_schema.specs.declared.field.Field.{Field}
use Rattle.pipe_schema.proofs.Weights.{SameBag, SameBag-from_rows, Same-from_bag}
use Rattle.pipe_expr.specs.Formula.{Formula, Column}
use Rattle.pipe_expr.specs.Types.{columns_in}
use Rattle.pipe_expr.specs.Values.{named_cell}
use Rattle.pipe_expr.specs.Projections.{row_named}
use Rattle.pipe_expr.specs.Joins.{Join, key_of, matches, column_names, is_kept, suffixed, pair_fields, makes_pairs, kept_cells, null_of, pair, pad_left, pairs_of, pairs, has_right_match, lacks_right_match, unmatched_left, rows_by}
use Rattle.pipe_expr.specs.Shares.{own_by}
use Rattle.pipe_expr.specs.declared.join_words.JoinType.{JoinType}
use Rattle.pipe_expr.specs.declared.join_words.JoinType.TheVariants as how
use Rattle.pipe_plan.specs.Node.{Node}
use Rattle.pipe_plan.specs.Faults.{is_column}
use Rattle.pipe_events.specs.Fits.{FitsRow, FitRows}
use Rattle.pipe_events.proofs.Lists.{all-append, all-map, all-flat, all-filter}
use Rattle.pipe_rules.proofs.Filters.{all-always, all-of, all-both, all-right}
use Rattle.pipe_rules.proofs.Under.{named-under, same-name, each-known}
use Rattle.pipe_rules.proofs.Columns.{of-left}
use Rattle.pipe_parts.specs.Wishes.{name_if, name_before, column_below, columns_below, key_by, wishes_below, beside_whole, same_names, by_key, split_ways, keyed_on, key_ways, join_ways}
use Rattle.pipe_parts.specs.declared.wish.Wish.{Wish}
use Rattle.pipe_parts.specs.declared.wish.Wish.TheVariants.{Split, Key, Whole}
use Rattle.pipe_parts.specs.Choices.{IsIn}
use Rattle.pipe_parts.specs.Parts.{Parted, together, IsPlaced, LieAs}
use Rattle.pipe_parts.specs.Laws.{HasColumn, HasKey}
use Rattle.pipe_parts.proofs.Sides.{one-side, both-keyed, both-whole, left-shared, right-shared, LeftPlaced, RightPlaced}
use Rattle.pipe_parts.proofs.Lying.{parts-have}
use Rattle.pipe_parts.proofs.Asked.{in-append, in-map, the-one, IsGood}

-- ---- plain keys

plain-known : (P : List ℕ → Type 0) (on : List Formula) → AllByRecursion P (flat_map columns_in on) → AllByRecursion P (column_names on)
plain-known P [] all = tt
plain-known P (Column name ∷ on) all = (all.0, plain-known P on all.1)
plain-known P (f ∷ on) all = plain-known P on (all-right P (columns_in f) (flat_map columns_in on) all)

plain-key : (s : List Field) (row : Row) (on : List Formula) → list_all is_column on ≡ true → key_of s on row ≡ row_named s (column_names on) row
plain-key s row [] e = refl
plain-key s row (Column name ∷ on) e = ap (λ l. named_cell s row name ∷ l) (plain-key s row on e)
plain-key s row (f ∷ on) e = absurd (let no_ : false ≡ true = e in cc)

and-first : (a b : Bool) → (a && b) ≡ true → a ≡ true
and-first true b e = refl
and-first false b e = cc

and-second : (a b : Bool) → (a && b) ≡ true → b ≡ true
and-second true b e = e
and-second false b e = cc

names-same : (a b : List (List ℕ)) → same_names a b ≡ true → a ≡ b
names-same [] [] e = refl
names-same [] (_ ∷ _) e = cc
names-same (_ ∷ _) [] e = cc
names-same (x ∷ a) (y ∷ b) e =
    let one = same-name x y (and-first (bytes_eq x y) (pointwise bytes_eq a b) e) in
    let more = names-same a b (and-second (bytes_eq x y) (pointwise bytes_eq a b) e) in
    ap (λ z. z ∷ a) one ∙ ap (λ l. y ∷ l) more

inner-of : {X : Type 0} {a b : X} → Some a ≡ Some b → a ≡ b
inner-of e = cc

module _ (parted : Parted) (s : ℕ → List Field) (rows : ℕ → List Row) (parts : ℕ → ℕ → List Row) (left right : ℕ) (j : Join) (sl : j.left ≡ s left) (sr : j.right ≡ s right) (fit : FitRows j.left (rows left)) where
  abbrev n : ℕ
  n = parted.count

  abbrev out : JoinType → List Field
  out kind = cond (makes_pairs kind) (pair_fields j) j.left

  abbrev Good : JoinType → Wish → List Wish → Type 0
  Good kind up way = IsGood parted s rows parts up (out kind) (rows_by kind j (rows left) (rows right)) (λ p. rows_by kind j (parts left p) (parts right p)) (left ∷ right ∷ []) way

  split-of : (kind : JoinType) → SameBag (together n (λ p. rows_by kind j (parts left p) (parts right p))) (rows_by kind j (rows left) (rows right)) → LieAs parted Split (out kind) (rows_by kind j (rows left) (rows right)) (λ p. rows_by kind j (parts left p) (parts right p))
  split-of kind h = Same-from_bag h

  -- ---- one side in parts

  -- joins that keep no right row by itself
  abbrev NoneOwn : JoinType → Type 0
  NoneOwn kind = (l r : List Row) → own_by kind j true l r ≡ []

  left-parts : (kind : JoinType) → NoneOwn kind → Same (together n (parts left)) (rows left) → ((p : ℕ) → p < n → Same (parts right p) (rows right)) → SameBag (together n (λ p. rows_by kind j (parts left p) (parts right p))) (rows_by kind j (rows left) (rows right))
  left-parts kind none h k =
      one-side j kind true (λ probed built. rows_by kind j probed built) (λ probed built. left-shared j kind probed built (none probed built)) n (rows left) (parts left) (rows right) (parts right)
      (SameBag-from_rows h) (λ p lt. SameBag-from_rows (k p lt))

  left-good : (kind : JoinType) → NoneOwn kind → Good kind Split (Split ∷ Whole ∷ [])
  left-good kind none = record {
    asks = (tt, (tt, tt));
    lies = λ lying. split-of kind (left-parts kind none lying.0 lying.1.0);
  }

  right-good : (kind : JoinType) → ((l r : List Row) → own_by kind j false r l ≡ []) → Good kind Split (Whole ∷ Split ∷ [])
  right-good kind none = record {
    asks = (tt, (tt, tt));
    lies = λ lying. split-of kind (
        one-side j kind false (λ probed built. rows_by kind j built probed) (λ probed built. right-shared j kind built probed (none built probed)) n (rows right) (parts right) (rows left) (parts left)
        (SameBag-from_rows lying.1.0) (λ p lt. SameBag-from_rows (lying.0 p lt)));
  }

  whole-good : (kind : JoinType) (way : List Wish) → IsIn way ((Whole ∷ Whole ∷ []) ∷ []) → Good kind Whole way
  whole-good kind way h = subst (Good kind Whole) (the-one (Whole ∷ Whole ∷ []) way h) (record {
    asks = (tt, (tt, tt));
    lies = λ lying p lt. Same-from_bag (both-whole j kind (SameBag-from_rows (lying.0 p lt)) (SameBag-from_rows (lying.1.0 p lt)));
  })

  -- ---- both sides by a key

  known : first_unknown j.left (flat_map columns_in j.left_on) ≡ None → AllByRecursion (HasColumn (s left)) (column_names j.left_on)
  known e = subst (λ f. AllByRecursion (HasColumn f) (column_names j.left_on)) sl (plain-known (HasColumn j.left) j.left_on (each-known j.left (flat_map columns_in j.left_on) e))

  known-right : first_unknown j.right (flat_map columns_in j.right_on) ≡ None → AllByRecursion (HasColumn (s right)) (column_names j.right_on)
  known-right e = subst (λ f. AllByRecursion (HasColumn f) (column_names j.right_on)) sr (plain-known (HasColumn j.right) j.right_on (each-known j.right (flat_map columns_in j.right_on) e))

  abbrev KeyLies : ℕ → List (List ℕ) → ℕ → Type 0
  KeyLies key columns i = LieAs parted (Key key columns) (s i) (rows i) (parts i)

  keyed-parts : (kind : JoinType) (key : ℕ) → list_all is_column j.left_on ≡ true → list_all is_column j.right_on ≡ true → KeyLies key (column_names j.left_on) left → KeyLies key (column_names j.right_on) right → SameBag (together n (λ p. rows_by kind j (parts left p) (parts right p))) (rows_by kind j (rows left) (rows right))
  keyed-parts kind key pl pr h k =
      let place : List AnyValue → ℕ = parted.place key in
      both-keyed j place n (rows left) (rows right) (parts left) (parts right) (SameBag-from_rows h.all) (SameBag-from_rows k.all)
      (λ p lt. all-of (IsPlaced place (s left) (column_names j.left_on) p) (LeftPlaced j place p) (λ row e. ap place (plain-key j.left row j.left_on pl ∙ ap (λ f. row_named f (column_names j.left_on) row) sl) ∙ e) (parts left p) (h.placed p lt))
      (λ p lt. all-of (IsPlaced place (s right) (column_names j.right_on) p) (RightPlaced j place p) (λ row e. ap place (plain-key j.right row j.right_on pr ∙ ap (λ f. row_named f (column_names j.right_on) row) sr) ∙ e) (parts right p) (k.placed p lt))
      kind

  module _ (kl : first_unknown j.left (flat_map columns_in j.left_on) ≡ None) (kr : first_unknown j.right (flat_map columns_in j.right_on) ≡ None) where
    -- what holds of the one way by a key, if there is one
    by-key : (key : ℕ) (P : List Wish → Type 0) → (list_all is_column j.left_on ≡ true → list_all is_column j.right_on ≡ true → P (Key key (column_names j.left_on) ∷ Key key (column_names j.right_on) ∷ [])) → (way : List Wish) → IsIn way (by_key key j.left_on j.right_on) → P way
    by-key key P made way h =
        let ways : List (List Wish) = (Key key (column_names j.left_on) ∷ Key key (column_names j.right_on) ∷ []) ∷ [] in
        let split : (b : Bool) → (list_all is_column j.left_on && list_all is_column j.right_on) ≡ b → IsIn way (cond b ways []) → P way = elim [
          | true ↦ λ e k. subst P (the-one (Key key (column_names j.left_on) ∷ Key key (column_names j.right_on) ∷ []) way k) (made (and-first (list_all is_column j.left_on) (list_all is_column j.right_on) e) (and-second (list_all is_column j.left_on) (list_all is_column j.right_on) e))
          | false ↦ λ _ k. absurd k
        ] in split (list_all is_column j.left_on && list_all is_column j.right_on) refl h

    split-keyed : (kind : JoinType) (key : ℕ) (way : List Wish) → IsIn way (by_key key j.left_on j.right_on) → Good kind Split way
    split-keyed kind key way h = by-key key (Good kind Split) (λ pl pr. record {
      asks = (known kl, (known-right kr, tt));
      lies = λ lying. split-of kind (keyed-parts kind key pl pr lying.0 lying.1.0);
    }) way h

    pub split-good : (kind : JoinType) (key : ℕ) (way : List Wish) → IsIn way (split_ways kind (by_key key j.left_on j.right_on)) → Good kind Split way
    split-good how.Inner key way (inl e) = subst (Good how.Inner Split) e (left-good how.Inner (λ l r. refl))
    split-good how.Inner key way (inr (inl e)) = subst (Good how.Inner Split) e (right-good how.Inner (λ l r. refl))
    split-good how.Inner key way (inr (inr h)) = split-keyed how.Inner key way h
    split-good how.Left key way (inl e) = subst (Good how.Left Split) e (left-good how.Left (λ l r. refl))
    split-good how.Left key way (inr h) = split-keyed how.Left key way h
    split-good how.Full key way h = split-keyed how.Full key way h
    split-good how.Cross key way (inl e) = subst (Good how.Cross Split) e (left-good how.Cross (λ l r. refl))
    split-good how.Cross key way (inr (inl e)) = subst (Good how.Cross Split) e (right-good how.Cross (λ l r. refl))
    split-good how.Cross key way (inr (inr h)) = absurd h
    split-good how.Semi key way (inl e) = subst (Good how.Semi Split) e (left-good how.Semi (λ l r. refl))
    split-good how.Semi key way (inr h) = split-keyed how.Semi key way h
    split-good how.Anti key way (inl e) = subst (Good how.Anti Split) e (left-good how.Anti (λ l r. refl))
    split-good how.Anti key way (inr h) = split-keyed how.Anti key way h

    -- ---- a key from above

    -- the values of left columns in what is made of a left row
    values : (more : List Field) (cells : Row) (l : Row) → FitsRow j.left l → (columns : List (List ℕ)) → AllByRecursion (HasColumn j.left) columns → row_named (j.left ++ more) columns (l ++ cells) ≡ row_named j.left columns l
    values more cells l h [] has = refl
    values more cells l h (name ∷ columns) has =
        let one : named_cell (j.left ++ more) (l ++ cells) name ≡ named_cell j.left l name = named-under name (j.left ++ more) (l ++ cells) ∙ of-left name j.left more l cells h has.0 ∙ sym (named-under name j.left l) in
        ap (λ c. c ∷ row_named (j.left ++ more) columns (l ++ cells)) one ∙ ap (λ r. named_cell j.left l name ∷ r) (values more cells l h columns has.1)

    abbrev more_fields : List Field
    more_fields = map (suffixed j) (filter (is_kept j) j.right)

    module _ (place : List AnyValue → ℕ) (columns : List (List ℕ)) (has : AllByRecursion (HasColumn j.left) columns) (p : ℕ) where
      abbrev Low : Row → Type 0
      Low row = FitsRow j.left row × IsPlaced place j.left columns p row

      abbrev Up : JoinType → Row → Type 0
      Up kind = IsPlaced place (out kind) columns p

      pairs-placed : (l r : List Row) → AllByRecursion Low l → AllByRecursion (IsPlaced place (pair_fields j) columns p) (pairs j l r)
      pairs-placed l r all =
          all-flat Low (IsPlaced place (pair_fields j) columns p) (pairs_of j r) (λ a h.
          all-map (λ b. Unit {0}) (IsPlaced place (pair_fields j) columns p) (pair j a) (λ b _. ap place (values more_fields (kept_cells (is_kept j) j.right b) a h.0 columns has) ∙ h.1) (filter (matches j a) r) (all-always (λ b. Unit {0}) (λ b. tt) (filter (matches j a) r))) l all

      lefts-placed : (l r : List Row) → AllByRecursion Low l → AllByRecursion (IsPlaced place (pair_fields j) columns p) (map (pad_left j) (unmatched_left j l r))
      lefts-placed l r all =
          all-map Low (IsPlaced place (pair_fields j) columns p) (pad_left j) (λ a h. ap place (values more_fields (map null_of (filter (is_kept j) j.right)) a h.0 columns has) ∙ h.1) (unmatched_left j l r) (all-filter Low (lacks_right_match j r) l all)

      -- joins whose rows begin with left rows
      placed-by : (kind : JoinType) → (kind ≡ how.Full → ⊥) → (l r : List Row) → AllByRecursion Low l → AllByRecursion (Up kind) (rows_by kind j l r)
      placed-by how.Inner other l r all = pairs-placed l r all
      placed-by how.Left other l r all = all-append (IsPlaced place (pair_fields j) columns p) (pairs j l r) (map (pad_left j) (unmatched_left j l r)) (pairs-placed l r all) (lefts-placed l r all)
      placed-by how.Full other l r all = absurd (other refl)
      placed-by how.Cross other l r all = pairs-placed l r all
      placed-by how.Semi other l r all = all-of Low (IsPlaced place j.left columns p) (λ row h. h.1) (filter (has_right_match j r) l) (all-filter Low (has_right_match j r) l all)
      placed-by how.Anti other l r all = all-of Low (IsPlaced place j.left columns p) (λ row h. h.1) (filter (lacks_right_match j r) l) (all-filter Low (lacks_right_match j r) l all)

    -- the join's rows lie by a key of left columns, where the left rows do
    keyed-of : (kind : JoinType) → (kind ≡ how.Full → ⊥) → (key : ℕ) (columns : List (List ℕ)) → AllByRecursion (HasColumn j.left) columns → KeyLies key columns left → SameBag (together n (λ p. rows_by kind j (parts left p) (parts right p))) (rows_by kind j (rows left) (rows right)) → LieAs parted (Key key columns) (out kind) (rows_by kind j (rows left) (rows right)) (λ p. rows_by kind j (parts left p) (parts right p))
    keyed-of kind other key columns has h all = record {
      all = Same-from_bag all;
      placed = λ p lt.
          let place : List AnyValue → ℕ = parted.place key in
          placed-by place columns has p kind other (parts left p) (parts right p)
          (all-both (FitsRow j.left) (IsPlaced place j.left columns p) (parts left p)
          (parts-have parted (FitsRow j.left) (Key key columns) (s left) (rows left) (parts left) h fit p lt)
          (subst (λ f. AllByRecursion (IsPlaced place f columns p) (parts left p)) (sym sl) (h.placed p lt)));
    }

    -- ---- the ways by a key from above

    -- a key of left columns stands below as it is
    join-columns : (x : Node) (input : List Field) → ((name : List ℕ) → column_below input x name ≡ name_if (has_name (names_of input) name) name) → (names columns : List (List ℕ)) → columns_below input x names ≡ Some columns → (names ≡ columns) × AllByRecursion (HasColumn input) names
    join-columns x input plain [] columns e = (inner-of e, tt)
    join-columns x input plain (name ∷ names) columns e =
        let split : (b : Bool) (os : Option (List (List ℕ))) → has_name (names_of input) name ≡ b → columns_below input x names ≡ os → name_before (name_if b name) os ≡ Some columns → ((name ∷ names) ≡ columns) × AllByRecursion (HasColumn input) (name ∷ names) = elim [
          | false ↦ λ os a b k. absurd (let no_ : None ≡ Some columns = k in cc)
          | true ↦ elim [
            | None ↦ λ a b k. absurd (let no_ : None ≡ Some columns = k in cc)
            | Some later ↦ λ a b k. (let ih = join-columns x input plain names later b in (ap (λ l. name ∷ l) ih.0 ∙ inner-of k, (a, ih.1)))
          ]
        ] in split (has_name (names_of input) name) (columns_below input x names) refl refl (sym (ap (λ o. name_before o (columns_below input x names)) (plain name)) ∙ e)

    module _ (x : Node) (plain : (name : List ℕ) → column_below (s left) x name ≡ name_if (has_name (names_of (s left)) name) name) (kind : JoinType) (other : kind ≡ how.Full → ⊥) (none : NoneOwn kind) (key : ℕ) (columns : List (List ℕ)) where
      left-has : AllByRecursion (HasColumn (s left)) columns → AllByRecursion (HasColumn j.left) columns
      left-has has = subst (λ f. AllByRecursion (HasColumn f) columns) (sym sl) has

      pub left-key-good : (way : List Wish) → IsIn way (map beside_whole (wishes_below (s left) x (Key key columns))) → Good kind (Key key columns) way
      left-key-good way h =
          let found = in-map beside_whole (key_by key (columns_below (s left) x columns)) way h in
          let w : Wish = found.0 in
          let split : (os : Option (List (List ℕ))) → columns_below (s left) x columns ≡ os → IsIn w (key_by key os) → Good kind (Key key columns) way = elim [
            | None ↦ λ _ k. absurd k
            | Some below ↦ λ is k. (
                let same = join-columns x (s left) plain columns below is in
                let wish : Key key columns ≡ w = ap (Key key) same.0 ∙ the-one (Key key below) w k in
                subst (Good kind (Key key columns)) (ap beside_whole wish ∙ found.2) (record {
                  asks = (same.1, (tt, tt));
                  lies = λ lying. keyed-of kind other key columns (left-has same.1) lying.0 (left-parts kind none lying.0.all lying.1.0);
                }))
          ] in split (columns_below (s left) x columns) refl found.1

      pub both-key-good : AllByRecursion (HasColumn (out kind)) columns → (way : List Wish) → IsIn way (keyed_on key columns j.left_on j.right_on) → Good kind (Key key columns) way
      both-key-good has way h =
          let split : (b : Bool) → same_names columns (column_names j.left_on) ≡ b → IsIn way (cond b (by_key key j.left_on j.right_on) []) → Good kind (Key key columns) way = elim [
            | false ↦ λ _ k. absurd k
            | true ↦ λ e k. (
                let are : columns ≡ column_names j.left_on = names-same columns (column_names j.left_on) e in
                let own : AllByRecursion (HasColumn (s left)) columns = subst (λ l. AllByRecursion (HasColumn (s left)) l) (sym are) (known kl) in
                by-key key (Good kind (Key key columns)) (λ pl pr. record {
                  asks = (known kl, (known-right kr, tt));
                  lies = λ lying. keyed-of kind other key columns (left-has own) (subst (λ l. KeyLies key l left) (sym are) lying.0) (keyed-parts kind key pl pr lying.0 lying.1.0);
                }) way k)
          ] in split (same_names columns (column_names j.left_on)) refl h

      pub either-good : AllByRecursion (HasColumn (out kind)) columns → (way : List Wish) → IsIn way (map beside_whole (wishes_below (s left) x (Key key columns)) ++ keyed_on key columns j.left_on j.right_on) → Good kind (Key key columns) way
      either-good has way h =
          let split : IsIn way (map beside_whole (wishes_below (s left) x (Key key columns))) ⊎ IsIn way (keyed_on key columns j.left_on j.right_on) → Good kind (Key key columns) way = elim [
            | inl k ↦ left-key-good way k
            | inr k ↦ both-key-good has way k
          ] in split (in-append way (map beside_whole (wishes_below (s left) x (Key key columns))) (keyed_on key columns j.left_on j.right_on) h)

    module _ (x : Node) (plain : (name : List ℕ) → column_below (s left) x name ≡ name_if (has_name (names_of (s left)) name) name) where
      key-good : (kind : JoinType) (key : ℕ) (columns : List (List ℕ)) → AllByRecursion (HasColumn (out kind)) columns → (way : List Wish) → IsIn way (key_ways kind (map beside_whole (wishes_below (s left) x (Key key columns))) (keyed_on key columns j.left_on j.right_on)) → Good kind (Key key columns) way
      key-good how.Inner key columns has way h = either-good x plain how.Inner (λ e. cc) (λ l r. refl) key columns has way h
      key-good how.Left key columns has way h = either-good x plain how.Left (λ e. cc) (λ l r. refl) key columns has way h
      key-good how.Full key columns has way h = absurd h
      key-good how.Cross key columns has way h = left-key-good x plain how.Cross (λ e. cc) (λ l r. refl) key columns way h
      key-good how.Semi key columns has way h = either-good x plain how.Semi (λ e. cc) (λ l r. refl) key columns has way h
      key-good how.Anti key columns has way h = either-good x plain how.Anti (λ e. cc) (λ l r. refl) key columns has way h

      pub join-good : (kind : JoinType) (number : ℕ) (up : Wish) → HasKey (out kind) up → (way : List Wish) → IsIn way (join_ways kind number j.left_on j.right_on (wishes_below (s left) x up) up) → Good kind up way
      join-good kind number Split has way h = split-good kind number way h
      join-good kind number (Key key columns) has way h = key-good kind key columns has way h
      join-good kind number Whole has way h = whole-good kind way h
