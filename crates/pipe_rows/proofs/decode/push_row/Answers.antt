use Rattle.std.proofs.Common.{◌≡◌, ℕ, suc, ◌<◌, ◌≤◌, List, [], ◌∷◌, ◌++◌, length, get_or, set, take, drop, rules, refl, sym, ◌∙◌, subst, arith}
use Rattle.std.proofs.lemmas.List.{take_all, length-append, append-nil}
use Rattle.std.proofs.Math.ListN.{drop_of_length-le}
use Rattle.pipe_schema.specs.Rows.{Row}
use Rattle.pipe_column.specs.Series.{Cells}
use Rattle.pipe_schema.specs.declared.any_value.AnyValue.{AnyValue}
use Rattle.pipe_rows.specs.Equality.{IsCell, IsRow, dtypes_of}
use Rattle.pipe_rows.specs.Decoding.{pushed_row}
use Rattle.pipe_rows.proofs.RowLemmas.{pushed-last, last_fits, last_below, others_fit, row_wide}
use Rattle.pipe_rows.proofs.decode.push_row.Goals as goal

pub loop-value-init : goal.loop-value-init
loop-value-init c =
    let wide = row_wide c.args.columns.now c.args.row.items c.requires in
    let le : length c.args.columns.now ≤ length c.args.row.items = omega arith in
    let all : take (length c.args.row.items) c.args.columns.now ≡ c.args.columns.now = take_all (length c.args.row.items) c.args.columns.now le in
    let none : drop (length c.args.row.items) c.args.columns.now ≡ [] = drop_of_length-le c.args.columns.now le in
    record {
      fits = rw all c.requires;
      pushed = rw (all, none) (append-nil (pushed_row c.args.columns.now c.args.row.items));
    }

-- the row with its last cell
abbrev Fits : List Cells → Row → Type 0
Fits columns row = IsRow (dtypes_of (take (length row) columns)) row

pub bounds-columns-len : goal.bounds-columns-len
bounds-columns-len c =
    let P : Row → Type 0 = λ row. Fits c.loop-value.columns row in
    let below = last_below c.loop-value.columns c.pop.new.self.items c.in-Some.value (subst P c.in-Some.ensures.items c.loop-value.invariant.fits) in
    omega arith

pub offset_bounds-columns-len : goal.offset_bounds-columns-len
offset_bounds-columns-len c =
    let P : Row → Type 0 = λ row. Fits c.loop-value.columns row in
    let below = last_below c.loop-value.columns c.pop.new.self.items c.in-Some.value (subst P c.in-Some.ensures.items c.loop-value.invariant.fits) in
    let lt : c.len.result < length c.loop-value.columns = omega arith in
    search rules

pub push-requires : goal.push-requires
push-requires c =
    let P : Row → Type 0 = λ row. Fits c.loop-value.columns row in
    let last = last_fits c.loop-value.columns c.pop.new.self.items c.in-Some.value c.index-columns-len.result (subst P c.in-Some.ensures.items c.loop-value.invariant.fits) in
    let e : length c.pop.new.self.items ≡ c.len.result = omega arith in
    let Q : ℕ → Type 0 = λ n. IsCell (get_or c.loop-value.columns n c.index-columns-len.result).dtype c.in-Some.value in
    (subst Q e last.1).0

pub loop-value-preserved : goal.loop-value-preserved
loop-value-preserved c =
    let columns : List Cells = c.loop-value.columns in
    let row : Row = c.pop.new.self.items in
    let x : AnyValue = c.in-Some.value in
    let last : Cells = c.push.new.self in
    let P : Row → Type 0 = λ r. Fits columns r in
    let fits = subst P c.in-Some.ensures.items c.loop-value.invariant.fits in
    let e : length row ≡ c.len.result = omega arith in
    let final : List Cells = pushed_row c.args.columns.now c.args.row.items in
    let R : Row → Type 0 = λ r. pushed_row (take (length r) columns) r ++ drop (length r) columns ≡ final in
    let before = subst R c.in-Some.ensures.items c.loop-value.invariant.pushed in
    let S : ℕ → Type 0 = λ n. pushed_row (take n columns) (row ++ x ∷ []) ++ drop n columns ≡ final in
    let long : length (row ++ x ∷ []) ≡ suc (length row) = omega (arith, length-append row (x ∷ [])) in
    let at_n = subst S long before in
    let below = last_below columns row x fits in
    let T : ℕ → Type 0 = λ n. IsRow (dtypes_of (take (length row) (set columns n last))) row in
    let U : ℕ → Type 0 = λ n. pushed_row (take (length row) (set columns n last)) row ++ drop (length row) (set columns n last) ≡ final in
    let V : ℕ → Type 0 = λ n. last ≡ record (get_or columns n c.index-columns-len.result) { cells = (get_or columns n c.index-columns-len.result).cells ++ x ∷ [] } in
    let same = subst V (sym e) c.in_ok-push.ensures.ok in
    record {
      fits = subst T e (others_fit columns row x last fits);
      pushed = subst U e (sym (pushed-last columns row x last c.index-columns-len.result (length row) refl below same) ∙ at_n);
    }
