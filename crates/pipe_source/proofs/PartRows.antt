-- Columns by their parts, row by row.
use Rattle.std.proofs.Common.{◌≡◌, ℕ, ◌+◌, ◌≤◌, ◌<◌, suc, Bool, false, List, [], ◌∷◌, ◌++◌, Option, None, length, map, take, drop, drop-cons, get_or, append_assoc, subst, refl, ap, sym, ◌∙◌, arith, All}
use Rattle.std.specs.Borrow.{Bor}
use Rattle.std.specs.List.{AllByRecursion, flat_map, range_with_len}
use Rattle.std.proofs.lemmas.List.{length-map, length-append, length-drop, map-append, take_more, get_or_default}
use Rattle.std.proofs.lemmas.List.Elements.{recursion_from_All}
use Rattle.pipe_column.specs.Column.{nullable, nullables}
use Rattle.pipe_column.specs.Series.{Cells}
use Rattle.pipe_column.specs.Validity.{validities}
use Rattle.pipe_schema.specs.declared.any_value.AnyValue.{AnyValue}
use Rattle.pipe_schema.specs.declared.any_value.AnyValue.TheVariants as cell
use Rattle.pipe_schema.specs.declared.data_type.DataType.{DataType}
use Rattle.pipe_column.proofs.Nullables.{length-nullables, nullables-push, get_or-nullables}
use Rattle.pipe_column.proofs.SeriesCells.{cell_at-map}
use Rattle.pipe_source.specs.Lent.{lent_cells, lent_row, cells_between, HasCells}
use Rattle.pipe_source.specs.Parts.{Parts, part_values, part_cells, part_at, parts_at, IsEven, HasPlaces}
use Rattle.pipe_source.proofs.Ranges.{map-flat, flat-same}

module _ {T : Type 0} (of : Option T → AnyValue) where
  first-cells : (p : Parts T) (all : List (Parts T)) (c : Bor Cells) (columns : List (Bor Cells)) → map (part_cells of) (p ∷ all) ≡ map lent_cells (c ∷ columns) → part_cells of p ≡ lent_cells c
  first-cells p all c columns e = ap (λ (l : List (List AnyValue)). get_or l 0 []) e

  other-cells : (p : Parts T) (all : List (Parts T)) (c : Bor Cells) (columns : List (Bor Cells)) → map (part_cells of) (p ∷ all) ≡ map lent_cells (c ∷ columns) → map (part_cells of) all ≡ map lent_cells columns
  other-cells p all c columns e = ap (λ (l : List (List AnyValue)). drop 1 l) e

  -- parts have the places of their columns
  places : (dtype : DataType) (n : ℕ) (all : List (Parts T)) (columns : List (Bor Cells)) → map (part_cells of) all ≡ map lent_cells columns → AllByRecursion IsEven all → AllByRecursion (HasCells dtype n) columns → AllByRecursion (HasPlaces n) all
  places dtype n [] columns e even has = tt
  places dtype n (p ∷ all) [] e even has = cc
  places dtype n (p ∷ all) (c ∷ columns) e even has =
      let first : length (part_cells of p) ≡ length c.now.cells = ap length (first-cells p all c columns e) in
      let wide : length (part_cells of p) ≡ length p.1.now = length-map (part_values p) of ∙ length-nullables (validities p.0) p.1.now even.0 in
      let same = even.0 in
      let long = has.0.1 in
      ((even.0, omega arith), places dtype n all columns (other-cells p all c columns e) even.1 has.1)

  pub parts_there : (dtype : DataType) (n : ℕ) (all : List (Parts T)) (columns : List (Bor Cells)) → map (part_cells of) all ≡ map lent_cells columns → All IsEven all → AllByRecursion (HasCells dtype n) columns → AllByRecursion (HasPlaces n) all
  parts_there dtype n all columns e even has = places dtype n all columns e (recursion_from_All IsEven all even) has

  -- what stands at a place of them are the columns' cells
  pub row-cells : of None ≡ cell.Null → (all : List (Parts T)) (columns : List (Bor Cells)) → map (part_cells of) all ≡ map lent_cells columns → (i : ℕ) → map of (parts_at all i) ≡ lent_row columns i
  row-cells missing [] [] e i = refl
  row-cells missing [] (c ∷ columns) e i = cc
  row-cells missing (p ∷ all) [] e i = cc
  row-cells missing (p ∷ all) (c ∷ columns) e i =
      ap (λ x. x ∷ map of (parts_at all i)) (sym (cell_at-map of (part_values p) i missing) ∙ ap (λ (l : List AnyValue). get_or l i cell.Null) (first-cells p all c columns e))
      ∙ ap (λ l. get_or (lent_cells c) i cell.Null ∷ l) (row-cells missing all columns (other-cells p all c columns e) i)

  pub between-cells : of None ≡ cell.Null → (all : List (Parts T)) (columns : List (Bor Cells)) → map (part_cells of) all ≡ map lent_cells columns → (from count : ℕ) → map of (flat_map (parts_at all) (range_with_len from count)) ≡ cells_between columns from count
  between-cells missing all columns e from count =
      map-flat of (parts_at all) (range_with_len from count)
      ∙ flat-same (λ i. map of (parts_at all i)) (lent_row columns) (range_with_len from count) (row-cells missing all columns e)

-- fewer places are there too
pub fewer_places : {T : Type 0} (n m : ℕ) (all : List (Parts T)) → m ≤ n → AllByRecursion (HasPlaces n) all → AllByRecursion (HasPlaces m) all
fewer_places n m [] less there = tt
fewer_places n m (p ∷ all) less there =
    let long = there.0.1 in
    ((there.0.0, omega arith), fewer_places n m all less there.1)

-- one of some columns that have so many places has them
pub place_there : {T : Type 0} (n k : ℕ) (all : List (Parts T)) (p : Parts T) → AllByRecursion (HasPlaces n) (drop k all) → k < length all → p ≡ get_or all k p → HasPlaces n p
place_there n k all p there less is =
    let first = (subst (AllByRecursion (HasPlaces n)) (drop-cons all k p less) there).0 in
    subst (HasPlaces n) (sym is) first

-- what stands at a place of a column
pub part_read : {T : Type 0} (p : Parts T) (i : ℕ) (m : Bool) (x : T) → HasPlaces (i + 1) p → m ≡ get_or (validities p.0) i false → x ≡ get_or p.1.now i x → nullable m (get_or p.1.now i x) ≡ part_at i p
part_read p i m x there marked is =
    let same = there.0 in
    let long = there.1 in
    let valid : m ≡ get_or (validities p.0) i m = marked ∙ get_or_default (validities p.0) i false m (omega arith) in
    ap (nullable m) (sym is)
    ∙ sym (get_or-nullables (validities p.0) p.1.now i m x same (omega arith) valid is)

-- and of one column more
pub row_more : {T : Type 0} (old : List (Option T)) (validity validity_more : List Bool) (values values_more : List T) (all : List (Parts T)) (k i : ℕ) (p : Parts T) (m : Bool) (x : T) → validity_more ≡ validity ++ m ∷ [] → values_more ≡ values ++ x ∷ [] → nullables validity values ≡ old ++ parts_at (take k all) i → length validity ≡ length values → k < length all → p ≡ get_or all k p → nullable m x ≡ part_at i p → nullables validity_more values_more ≡ old ++ parts_at (take (k + 1) all) i
row_more old validity validity_more values values_more all k i p m x is_validity is_values made even less is here =
    let more : parts_at (take (k + 1) all) i ≡ parts_at (take k all) i ++ part_at i p ∷ [] =
    ap (map (part_at i)) (take_more all k p less) ∙ map-append (part_at i) (take k all) (get_or all k p ∷ []) ∙ ap (λ q. parts_at (take k all) i ++ part_at i q ∷ []) (sym is) in
    ap (λ v. nullables v values_more) is_validity
    ∙ ap (λ l. nullables (validity ++ m ∷ []) l) is_values
    ∙ nullables-push validity values m x even
    ∙ ap (λ l. l ++ nullable m x ∷ []) made
    ∙ append_assoc old (parts_at (take k all) i) (nullable m x ∷ [])
    ∙ ap (λ o. old ++ (parts_at (take k all) i ++ o ∷ [])) here
    ∙ ap (λ l. old ++ l) (sym more)

-- what is left of such columns
pub places_left : {T : Type 0} (n k : ℕ) (all : List (Parts T)) (p : Parts T) → AllByRecursion (HasPlaces n) (drop k all) → k < length all → AllByRecursion (HasPlaces n) (drop (k + 1) all)
places_left n k all p there less =
    let next : suc k ≡ k + 1 = omega arith in
    subst (λ (i : ℕ). AllByRecursion (HasPlaces n) (drop i all)) next (subst (AllByRecursion (HasPlaces n)) (drop-cons all k p less) there).1

-- one more of both
pub even_more : {X Y : Type 0} (xs more_xs : List X) (ys more_ys : List Y) (x : X) (y : Y) → more_xs ≡ xs ++ x ∷ [] → more_ys ≡ ys ++ y ∷ [] → length xs ≡ length ys → length more_xs ≡ length more_ys
even_more xs more_xs ys more_ys x y is_x is_y even =
    let a : length more_xs ≡ length xs + 1 = ap length is_x ∙ length-append xs (x ∷ []) in
    let b : length more_ys ≡ length ys + 1 = ap length is_y ∙ length-append ys (y ∷ []) in
    omega arith

-- one of what had room
pub room_more : {X Y : Type 0} (xs more : List X) (x : X) (k : ℕ) (all : List Y) (room same : ℕ) → more ≡ xs ++ x ∷ [] → same ≡ room → length xs + length (drop k all) ≤ room → k < length all → length more + length (drop (k + 1) all) ≤ same
room_more xs more x k all room same is e fits less =
    let a : length more ≡ length xs + 1 = ap length is ∙ length-append xs (x ∷ []) in
    let now = length-drop k all in
    let then = length-drop (k + 1) all in
    omega arith
