-- Operations on the columns of a frame are operations on its rows.
use Rattle.std.proofs.Common.{◌≡◌, ℕ, zero, suc, ◌+◌, ◌-◌, ◌<◌, ◌≤◌, Bool, true, false, List, [], ◌∷◌, ◌++◌, Option, Some, None, length, map, get_or, set, take, drop, replicate, refl, ap, subst, sym, ◌∙◌, arith, add-one, length-append}
use Rattle.std.specs.Prelude.{All, ◌⊎◌}
use Rattle.std.proofs.Common.{inl, inr}
use Rattle.std.proofs.lemmas.Bool.{cases_lt}
use Rattle.std.proofs.lemmas.List.{length-map, get_or-map, get_or-take, get_or-drop, length-drop, length-take-le, take_at, take_all, set-get_or, get_or_append_left, get_or-append_right, drop_more}
use Rattle.std.proofs.lemmas.List.FromFn.{fill_by_all}
use Rattle.std.proofs.lemmas.List.Elements.{All-cons, All-nil}
use Rattle.pipe_schema.specs.Rows.{Row}
use Rattle.pipe_schema.specs.Cell.{boolean_cell}
use Rattle.pipe_column.specs.Series.{Cells, cell_at, cell_or_null}
use Rattle.pipe_schema.specs.Schema.{IsSchema}
use Rattle.pipe_column.specs.Columns.{taken_column, taken_columns, part_column, front_column, stacked_column, stacked_front, true_places, field_of, row_at, column_rows, AllOfHeight, height_of}
use Rattle.pipe_frame.specs.Frame.{Table, table_of, IsRowOrNone, row_or_nulls, chosen_rows, kept_rows}
use Rattle.pipe_schema.specs.declared.field.Field.{Field}
use Rattle.pipe_schema.specs.declared.any_value.AnyValue.{AnyValue}
use Rattle.pipe_schema.specs.declared.any_value.AnyValue.TheVariants as cell
use Rattle.pipe_frame.proofs.Tables.{length-column_rows, get_or-column_rows}

-- ---- one column after another

-- a list whose front was changed by a function, one place further
fronted : {X : Type 0} (f : X → X) (xs : List X) (i : ℕ) (x : X) → i < length xs → x ≡ get_or (map f (take i xs) ++ drop i xs) i x → set (map f (take i xs) ++ drop i xs) i (f x) ≡ map f (take (suc i) xs) ++ drop (suc i) xs
fronted f [] i x lt e = absurd (omega arith)
fronted f (y ∷ xs) zero x lt e = ap (λ z. f z ∷ xs) e
fronted f (y ∷ xs) (suc i) x lt e = ap (λ l. f y ∷ l) (fronted f xs i x (omega arith) e)

pub fronted-more : {X : Type 0} (f : X → X) (xs : List X) (i : ℕ) (x y : X) {now : List X} → now ≡ map f (take i xs) ++ drop i xs → i < length xs → x ≡ get_or now i x → y ≡ f (get_or now i x) → set now i y ≡ map f (take (i + 1) xs) ++ drop (i + 1) xs
fronted-more f xs i x y v lt e s = let changed : y ≡ f x = s ∙ ap f (sym e) in rw (v, changed, add-one) (fronted f xs i x lt (rw v at e))

-- ---- columns behind columns

length-stacked : (n : ℕ) (columns others : List Cells) → length (stacked_front n columns others) ≡ length columns
length-stacked zero columns others = refl
length-stacked (suc n) [] others = refl
length-stacked (suc n) (c ∷ columns) [] = refl
length-stacked (suc n) (c ∷ columns) (o ∷ others) = ap suc (length-stacked n columns others)

-- the next column is still as it was
stacked-at : (i : ℕ) (columns others : List Cells) (d : Cells) → get_or (stacked_front i columns others) i d ≡ get_or columns i d
stacked-at zero columns others d = refl
stacked-at (suc i) [] others d = refl
stacked-at (suc i) (c ∷ columns) [] d = refl
stacked-at (suc i) (c ∷ columns) (o ∷ others) d = stacked-at i columns others d

stacked-set : (i : ℕ) (columns others : List Cells) (x y : Cells) → i < length columns → i < length others → x ≡ get_or columns i x → y ≡ get_or others i y → set (stacked_front i columns others) i (stacked_column x y) ≡ stacked_front (suc i) columns others
stacked-set i [] others x y lt below p q = absurd (omega arith)
stacked-set i (c ∷ columns) [] x y lt below p q = absurd (omega arith)
stacked-set zero (c ∷ columns) (o ∷ others) x y lt below p q = ap (λ z. stacked_column z y ∷ columns) p ∙ ap (λ z. stacked_column c z ∷ columns) q
stacked-set (suc i) (c ∷ columns) (o ∷ others) x y lt below p q = ap (λ l. stacked_column c o ∷ l) (stacked-set i columns others x y (omega arith) (omega arith) p q)

pub same_length : (columns others : List Cells) → map field_of columns ≡ map field_of others → length columns ≡ length others
same_length columns others e = sym (length-map columns field_of) ∙ ap length e ∙ length-map others field_of

pub stacked-more : (i : ℕ) (columns others : List Cells) (x y z : Cells) {now : List Cells} → now ≡ stacked_front i columns others → map field_of columns ≡ map field_of others → i < length columns → x ≡ get_or now i x → y ≡ get_or others i y → z ≡ stacked_column (get_or now i x) y → set now i z ≡ stacked_front (i + 1) columns others
stacked-more i columns others x y z v same lt p q e =
    let changed : z ≡ stacked_column x y = e ∙ ap (λ c. stacked_column c y) (sym p) in
    rw (v, changed, add-one) (stacked-set i columns others x y lt (omega (arith, same_length columns others same)) ((rw v at p) ∙ stacked-at i columns others x) q)

-- the next column is of the type of the one that comes behind it
pub stacked-dtype : (i : ℕ) (columns others : List Cells) (x y : Cells) {now : List Cells} → now ≡ stacked_front i columns others → map field_of columns ≡ map field_of others → i < length columns → y ≡ get_or others i y → (get_or now i x).dtype ≡ y.dtype
stacked-dtype i columns others x y v same lt q =
    let here : get_or (map field_of columns) i (field_of x) ≡ field_of (get_or columns i x) = get_or-map field_of columns i x (field_of x) lt in
    let there : get_or (map field_of others) i (field_of x) ≡ field_of (get_or others i y) = get_or-map field_of others i y (field_of x) (omega (arith, same_length columns others same)) in
    let both : field_of (get_or columns i x) ≡ field_of (get_or others i y) = sym here ∙ ap (λ l. get_or l i (field_of x)) same ∙ there in
    ap (λ l. (get_or l i x).dtype) v ∙ ap (λ c. c.dtype) (stacked-at i columns others x) ∙ ap (λ f. f.dtype) both ∙ ap (λ c. c.dtype) (sym q)

even-rest : (height : ℕ) (c : Cells) (columns : List Cells) → AllOfHeight height (c ∷ columns) → AllOfHeight height columns
even-rest height c columns even k d lt = even (suc k) d (omega arith)

even-head : (height : ℕ) (c : Cells) (columns : List Cells) → AllOfHeight height (c ∷ columns) → length c.cells ≡ height
even-head height c columns even = even 0 c (omega arith)

front-same : (height : ℕ) (columns : List Cells) → AllOfHeight height columns → map (front_column height) columns ≡ columns
front-same height [] even = refl
front-same height (c ∷ columns) even =
    let here : take height c.cells ≡ c.cells = take_all height c.cells (omega (arith, even-head height c columns even)) in
    ap (λ cells. record c { cells = cells } ∷ map (front_column height) columns) here ∙ ap (λ l. c ∷ l) (front-same height columns (even-rest height c columns even))

-- cut to their height, the columns are as they were
stacked-back : (n height : ℕ) (columns others : List Cells) → AllOfHeight height columns → map (front_column height) (stacked_front n columns others) ≡ columns
stacked-back zero height columns others even = front-same height columns even
stacked-back (suc n) height [] others even = refl
stacked-back (suc n) height (c ∷ columns) [] even = front-same height (c ∷ columns) even
stacked-back (suc n) height (c ∷ columns) (o ∷ others) even =
    let here : take height (c.cells ++ o.cells) ≡ c.cells = take_at c.cells o.cells height (even-head height c columns even) in
    ap (λ cells. record c { cells = cells } ∷ map (front_column height) (stacked_front n columns others)) here ∙ ap (λ l. c ∷ l) (stacked-back n height columns others (even-rest height c columns even))

pub stacked-undone : (i height : ℕ) (columns others : List Cells) (x z : Cells) {now after : List Cells} → now ≡ stacked_front i columns others → AllOfHeight height columns → x ≡ get_or now i x → z ≡ get_or now i x → after ≡ map (front_column height) (set now i z) → after ≡ columns
stacked-undone i height columns others x z {now = now} v even p e a =
    a ∙ ap (λ w. map (front_column height) (set now i w)) e ∙ ap (map (front_column height)) (set-get_or now i x) ∙ ap (map (front_column height)) v ∙ stacked-back i height columns others even

-- ---- the fields stay

pub fields-kept : (f : Cells → Cells) → ((c : Cells) → field_of (f c) ≡ field_of c) → (columns : List Cells) → map field_of (map f columns) ≡ map field_of columns
fields-kept f h [] = refl
fields-kept f h (c ∷ columns) = ap (λ x. x ∷ map field_of (map f columns)) (h c) ∙ ap (λ l. field_of c ∷ l) (fields-kept f h columns)

pub fields-stacked : (n : ℕ) (columns others : List Cells) → map field_of (stacked_front n columns others) ≡ map field_of columns
fields-stacked zero columns others = refl
fields-stacked (suc n) [] others = refl
fields-stacked (suc n) (c ∷ columns) [] = refl
fields-stacked (suc n) (c ∷ columns) (o ∷ others) = ap (λ l. field_of c ∷ l) (fields-stacked n columns others)

-- ---- rows at places

-- the row at a place of some columns, or of nulls
abbrev row_in : List Cells → Option ℕ → Row
row_in columns place = map (λ c. cell_or_null c.cells place) columns

row_at-taken : (columns : List Cells) (places : List (Option ℕ)) (k : ℕ) → k < length places → row_at (taken_columns places columns) k ≡ row_in columns (get_or places k None)
row_at-taken [] places k lt = refl
row_at-taken (c ∷ columns) places k lt =
    ap (λ x. x ∷ row_at (taken_columns places columns) k) (get_or-map (cell_or_null c.cells) places k None cell.Null lt) ∙ ap (λ l. cell_or_null c.cells (get_or places k None) ∷ l) (row_at-taken columns places k lt)

nulls : (columns : List Cells) → row_in columns None ≡ replicate (length (map field_of columns)) cell.Null
nulls [] = refl
nulls (c ∷ columns) = ap (λ l. cell.Null ∷ l) (nulls columns)

row_in-table : (columns : List Cells) (height : ℕ) (place : Option ℕ) → IsRowOrNone height place → row_or_nulls (table_of columns height) place ≡ row_in columns place
row_in-table columns height (Some i) lt = get_or-column_rows columns height i lt
row_in-table columns height None lt = sym (nulls columns)

column_rows-taken : (columns : List Cells) (height : ℕ) (places : List (Option ℕ)) → All (IsRowOrNone height) places → column_rows (taken_columns places columns) (length places) ≡ map (row_or_nulls (table_of columns height)) places
column_rows-taken columns height places inside =
    sym (fill_by_all (row_at (taken_columns places columns)) (map (row_or_nulls (table_of columns height)) places) (length places) [] (length-map places _)
    (λ k lt. get_or-map (row_or_nulls (table_of columns height)) places k None [] lt ∙ row_in-table columns height (get_or places k None) (inside k None lt) ∙ sym (row_at-taken columns places k lt)))

-- the frame of taken columns
pub table_of-taken : (columns : List Cells) (height : ℕ) (places : List (Option ℕ)) (n : ℕ) {table : Table} {items : List Cells} → table_of columns height ≡ table → All (IsRowOrNone (length table.rows)) places → items ≡ taken_columns places columns → n ≡ length places → table_of items n ≡ record { schema = table.schema; rows = map (row_or_nulls table) places }
table_of-taken columns height places n {table = table} {items = items} v inside e count =
    let Claim : Table → Type 0 = λ t. All (IsRowOrNone (length t.rows)) places → table_of items n ≡ record { schema = t.schema; rows = map (row_or_nulls t) places } in
    let proof : Claim (table_of columns height) = λ all.
    let within : All (IsRowOrNone height) places = rw length-column_rows at all in
    rw (e, count) (ap (λ s. record { schema = s; rows = column_rows (taken_columns places columns) (length places) }) (fields-kept (taken_column places) (λ c. refl) columns) ∙ ap (λ r. record { schema = map field_of columns; rows = r }) (column_rows-taken columns height places within))
    in subst Claim v proof inside

even-map : (f : Cells → Cells) (n : ℕ) (columns : List Cells) → ((k : ℕ) (d : Cells) → k < length columns → length (f (get_or columns k d)).cells ≡ n) → AllOfHeight n (map f columns)
even-map f n columns h k d lt =
    let below : k < length columns = omega (arith, length-map columns f) in
    rw (get_or-map f columns k d d below) (h k d below)

-- they are a frame
pub good-taken : (columns : List Cells) (places : List (Option ℕ)) (n : ℕ) {schema copy : List Field} {items : List Cells} → schema ≡ map field_of columns → IsSchema schema → copy ≡ schema → items ≡ taken_columns places columns → n ≡ length places → (copy ≡ map field_of items) × IsSchema copy × AllOfHeight n items
good-taken columns places n same good again e count =
    (again ∙ same ∙ sym (fields-kept (taken_column places) (λ c. refl) columns) ∙ sym (ap (map field_of) e), rw again good, rw (e, count) (even-map (taken_column places) (length places) columns (λ k d lt. length-map places _)))

-- a place for each row number
pub rows-chosen : (table : Table) (rows : List ℕ) → map (row_or_nulls table) (map Some rows) ≡ chosen_rows table.rows rows
rows-chosen table [] = refl
rows-chosen table (i ∷ rows) = ap (λ l. get_or table.rows i [] ∷ l) (rows-chosen table rows)

pub places-inside : (height : ℕ) (rows : List ℕ) → All (λ i. i < height) rows → All (IsRowOrNone height) (map Some rows)
places-inside height rows inside k d lt =
    let below : k < length rows = omega (arith, length-map rows (λ (i : ℕ). Some i)) in
    rw (get_or-map (λ (i : ℕ). Some i) rows k 0 d below) (inside k 0 below)

-- ---- rows where a mask is true

below_more : (n m : ℕ) (places : List ℕ) → All (λ i. i < n) places → n ≤ m → All (λ i. i < m) places
below_more n m places h le k d lt = omega (arith, h k d lt)

pub true_places-below : (n : ℕ) (mask : List (Option Bool)) → All (λ i. i < n + length mask) (true_places n mask)
true_places-below n [] = let P : ℕ → Type 0 = λ i. i < n + 0 in All-nil P
true_places-below n (Some true ∷ mask) = let P : ℕ → Type 0 = λ i. i < n + suc (length mask) in All-cons P n (true_places (n + 1) mask) (omega arith) (below_more (n + 1 + length mask) (n + suc (length mask)) _ (true_places-below (n + 1) mask) (omega arith))
true_places-below n (Some false ∷ mask) = below_more (n + 1 + length mask) (n + suc (length mask)) _ (true_places-below (n + 1) mask) (omega arith)
true_places-below n (None ∷ mask) = below_more (n + 1 + length mask) (n + suc (length mask)) _ (true_places-below (n + 1) mask) (omega arith)

rows-kept : (all : List Row) (n : ℕ) (mask : List (Option Bool)) → n + length mask ≤ length all → chosen_rows all (true_places n mask) ≡ kept_rows (map boolean_cell mask) (drop n all)
rows-kept all n [] le = refl
rows-kept all n (Some true ∷ mask) le =
    ap (λ l. get_or all n [] ∷ l) (rows-kept all (n + 1) mask (omega arith)) ∙ sym (ap (kept_rows (cell.Boolean true ∷ map boolean_cell mask)) (drop_more all n [] (omega arith)))
rows-kept all n (Some false ∷ mask) le = rows-kept all (n + 1) mask (omega arith) ∙ sym (ap (kept_rows (cell.Boolean false ∷ map boolean_cell mask)) (drop_more all n [] (omega arith)))
rows-kept all n (None ∷ mask) le = rows-kept all (n + 1) mask (omega arith) ∙ sym (ap (kept_rows (cell.Null ∷ map boolean_cell mask)) (drop_more all n [] (omega arith)))

pub rows-filtered : (table : Table) (mask : List (Option Bool)) (cells : List AnyValue) (places : List ℕ) → cells ≡ map boolean_cell mask → length cells ≡ length table.rows → places ≡ true_places 0 mask → map (row_or_nulls table) (map Some places) ≡ kept_rows cells table.rows
rows-filtered table mask cells places e even p =
    let long : length mask ≡ length table.rows = sym (length-map mask boolean_cell) ∙ ap length (sym e) ∙ even in
    rows-chosen table places ∙ ap (chosen_rows table.rows) p ∙ rows-kept table.rows 0 mask (omega arith) ∙ ap (λ l. kept_rows l table.rows) (sym e)

pub places-filtered : (height : ℕ) (mask : List (Option Bool)) (cells : List AnyValue) (places : List ℕ) → cells ≡ map boolean_cell mask → length cells ≡ height → places ≡ true_places 0 mask → All (IsRowOrNone height) (map Some places)
places-filtered height mask cells places e even p =
    let long : length mask ≡ height = sym (length-map mask boolean_cell) ∙ ap length (sym e) ∙ even in
    places-inside height places (rw p (below_more (0 + length mask) height (true_places 0 mask) (true_places-below 0 mask) (omega arith)))

-- ---- so many rows from a place on

row_at-part : (columns : List Cells) (from count k : ℕ) → k < count → row_at (map (part_column from count) columns) k ≡ row_at columns (from + k)
row_at-part [] from count k lt = refl
row_at-part (c ∷ columns) from count k lt =
    ap (λ x. x ∷ row_at (map (part_column from count) columns) k) (get_or-take count (drop from c.cells) k cell.Null lt ∙ get_or-drop from c.cells k cell.Null) ∙ ap (λ l. cell_at c.cells (from + k) ∷ l) (row_at-part columns from count k lt)

part-length : {X : Type 0} (xs : List X) (from count : ℕ) → from + count ≤ length xs → length (take count (drop from xs)) ≡ count
part-length xs from count le = length-take-le count (drop from xs) (omega (arith, length-drop from xs))

column_rows-part : (columns : List Cells) (height from count : ℕ) → from + count ≤ height → column_rows (map (part_column from count) columns) count ≡ take count (drop from (column_rows columns height))
column_rows-part columns height from count le =
    sym (fill_by_all (row_at (map (part_column from count) columns)) (take count (drop from (column_rows columns height))) count [] (part-length (column_rows columns height) from count (rw length-column_rows le))
    (λ k lt. get_or-take count (drop from (column_rows columns height)) k [] lt ∙ get_or-drop from (column_rows columns height) k [] ∙ get_or-column_rows columns height (from + k) (omega arith) ∙ sym (row_at-part columns from count k lt)))

pub table_of-part : (columns : List Cells) (height from count : ℕ) {table : Table} {items : List Cells} → table_of columns height ≡ table → from + count ≤ length table.rows → items ≡ map (part_column from count) columns → table_of items count ≡ record { schema = table.schema; rows = take count (drop from table.rows) }
table_of-part columns height from count {table = table} {items = items} v inside e =
    let Claim : Table → Type 0 = λ t. from + count ≤ length t.rows → table_of items count ≡ record { schema = t.schema; rows = take count (drop from t.rows) } in
    let proof : Claim (table_of columns height) = λ le.
    let within : from + count ≤ height = rw length-column_rows at le in
    rw e (ap (λ s. record { schema = s; rows = column_rows (map (part_column from count) columns) count }) (fields-kept (part_column from count) (λ c. refl) columns) ∙ ap (λ r. record { schema = map field_of columns; rows = r }) (column_rows-part columns height from count within))
    in subst Claim v proof inside

pub good-part : (columns : List Cells) (height from count : ℕ) {table : Table} {schema copy : List Field} {items : List Cells} → table_of columns height ≡ table → from + count ≤ length table.rows → schema ≡ map field_of columns → IsSchema schema → AllOfHeight height columns → copy ≡ schema → items ≡ map (part_column from count) columns → (copy ≡ map field_of items) × IsSchema copy × AllOfHeight count items
good-part columns height from count v inside same good even again e =
    let within : from + count ≤ height = omega (arith, inside, ap (λ t. length t.rows) v, length-column_rows columns height) in
    (again ∙ same ∙ sym (fields-kept (part_column from count) (λ c. refl) columns) ∙ sym (ap (map field_of) e), rw again good, rw e (even-map (part_column from count) count columns (λ k d lt. part-length (get_or columns k d).cells from count (omega (arith, even k d lt)))))

-- ---- rows behind rows

row_at-stacked_low : (n height k : ℕ) (columns others : List Cells) → AllOfHeight height columns → k < height → row_at (stacked_front n columns others) k ≡ row_at columns k
row_at-stacked_low zero height k columns others even lt = refl
row_at-stacked_low (suc n) height k [] others even lt = refl
row_at-stacked_low (suc n) height k (c ∷ columns) [] even lt = refl
row_at-stacked_low (suc n) height k (c ∷ columns) (o ∷ others) even lt =
    ap (λ x. x ∷ row_at (stacked_front n columns others) k) (get_or_append_left c.cells o.cells cell.Null k (omega (arith, even-head height c columns even))) ∙ ap (λ l. cell_at c.cells k ∷ l) (row_at-stacked_low n height k columns others (even-rest height c columns even) lt)

row_at-stacked_high : (height k : ℕ) (columns others : List Cells) → AllOfHeight height columns → length columns ≡ length others → height ≤ k → row_at (stacked_front (length columns) columns others) k ≡ row_at others (k - height)
row_at-stacked_high height k [] [] even same le = refl
row_at-stacked_high height k [] (o ∷ others) even same le = absurd (omega arith)
row_at-stacked_high height k (c ∷ columns) [] even same le = absurd (omega arith)
row_at-stacked_high height k (c ∷ columns) (o ∷ others) even same le =
    ap (λ x. x ∷ row_at (stacked_front (length columns) columns others) k) (get_or-append_right c.cells o.cells height k cell.Null (even-head height c columns even) le) ∙ ap (λ l. cell_at o.cells (k - height) ∷ l) (row_at-stacked_high height k columns others (even-rest height c columns even) (omega arith) le)

column_rows-stacked : (columns others : List Cells) (height further : ℕ) → AllOfHeight height columns → length columns ≡ length others → column_rows (stacked_front (length columns) columns others) (height + further) ≡ column_rows columns height ++ column_rows others further
column_rows-stacked columns others height further even same =
    let stacked : List Cells = stacked_front (length columns) columns others in
    let front = length-column_rows columns height in
    let back = length-column_rows others further in
    let at : (k : ℕ) → k < height + further → get_or (column_rows columns height ++ column_rows others further) k [] ≡ row_at stacked k = λ k lt.
    let split : (k < height) ⊎ (height ≤ k) → get_or (column_rows columns height ++ column_rows others further) k [] ≡ row_at stacked k = elim [
      | inl low ↦ get_or_append_left (column_rows columns height) (column_rows others further) [] k (omega arith) ∙ get_or-column_rows columns height k low ∙ sym (row_at-stacked_low (length columns) height k columns others even low)
      | inr high ↦ get_or-append_right (column_rows columns height) (column_rows others further) height k [] front high ∙ get_or-column_rows others further (k - height) (omega arith) ∙ sym (row_at-stacked_high height k columns others even same high)
    ] in split (cases_lt k height)
    in sym (fill_by_all (row_at stacked) (column_rows columns height ++ column_rows others further) (height + further) [] (length-append (column_rows columns height) (column_rows others further) ∙ omega arith) at)

height_of-stacked : (columns others : List Cells) (height further : ℕ) (n : ℕ) → AllOfHeight height columns → AllOfHeight further others → length columns ≡ length others → 0 < length columns → n ≡ length columns → height_of (stacked_front n columns others) ≡ height + further
height_of-stacked [] others height further n even later same some e = absurd (omega arith)
height_of-stacked (c ∷ columns) [] height further n even later same some e = absurd (omega arith)
height_of-stacked (c ∷ columns) (o ∷ others) height further n even later same some e =
    ap (λ k. height_of (stacked_front k (c ∷ columns) (o ∷ others))) e ∙ length-append c.cells o.cells ∙ omega (arith, even-head height c columns even, even-head further o others later)

even-stacked : (columns others : List Cells) (height further : ℕ) → AllOfHeight height columns → AllOfHeight further others → length columns ≡ length others → AllOfHeight (height + further) (stacked_front (length columns) columns others)
even-stacked [] [] height further even later same = let Even : Cells → Type 0 = λ c. length c.cells ≡ height + further in All-nil Even
even-stacked [] (o ∷ others) height further even later same = absurd (omega arith)
even-stacked (c ∷ columns) [] height further even later same = absurd (omega arith)
even-stacked (c ∷ columns) (o ∷ others) height further even later same =
    let Even : Cells → Type 0 = λ c. length c.cells ≡ height + further in
    All-cons Even (stacked_column c o) (stacked_front (length columns) columns others) (length-append c.cells o.cells ∙ omega (arith, even-head height c columns even, even-head further o others later)) (even-stacked columns others height further (even-rest height c columns even) (even-rest further o others later) (omega arith))

-- a schema has a field
some_field : (columns : List Cells) → IsSchema (map field_of columns) → 0 < length columns
some_field [] good = cc
some_field (c ∷ columns) good = omega arith

-- the frame of columns behind columns
table_of-stacked : (columns others : List Cells) (height further n : ℕ) {table other : Table} {items : List Cells} → table_of columns height ≡ table → table_of others further ≡ other → table.schema ≡ other.schema → IsSchema (map field_of columns) → AllOfHeight height columns → AllOfHeight further others → items ≡ stacked_front (length columns) columns others → n ≡ height_of items → (AllOfHeight n items) × (table_of items n ≡ record { schema = table.schema; rows = table.rows ++ other.rows })
table_of-stacked columns others height further n {table = table} {other = other} {items = items} v w same good even later e count =
    let fields : map field_of columns ≡ map field_of others = ap (λ t. t.schema) v ∙ same ∙ sym (ap (λ t. t.schema) w) in
    let long : length columns ≡ length others = same_length columns others fields in
    let total : n ≡ height + further = count ∙ ap height_of e ∙ height_of-stacked columns others height further (length columns) even later long (some_field columns good) refl in
    let rows : table_of items n ≡ record { schema = map field_of columns; rows = column_rows columns height ++ column_rows others further } =
    rw (e, total) (ap (λ s. record { schema = s; rows = column_rows (stacked_front (length columns) columns others) (height + further) }) (fields-stacked (length columns) columns others) ∙ ap (λ r. record { schema = map field_of columns; rows = r }) (column_rows-stacked columns others height further even long))
    in (rw (e, total) (even-stacked columns others height further even later long), rows ∙ ap (λ t. record { schema = t.schema; rows = t.rows ++ column_rows others further }) v ∙ ap (λ t. record { schema = table.schema; rows = table.rows ++ t.rows }) w)

pub good-stacked : (columns others : List Cells) (height further n : ℕ) {schema : List Field} {table other : Table} {items : List Cells} → table_of columns height ≡ table → table_of others further ≡ other → table.schema ≡ other.schema → schema ≡ map field_of columns → IsSchema schema → AllOfHeight height columns → AllOfHeight further others → items ≡ stacked_front (length columns) columns others → n ≡ height_of items → (schema ≡ map field_of items) × IsSchema schema × AllOfHeight n items
good-stacked columns others height further n v w same fields good even later e count =
    (fields ∙ sym (ap (map field_of) e ∙ fields-stacked (length columns) columns others), good, (table_of-stacked columns others height further n v w same (rw fields at good) even later e count).0)

pub table-stacked : (columns others : List Cells) (height further n : ℕ) {schema : List Field} {table other : Table} {items : List Cells} → table_of columns height ≡ table → table_of others further ≡ other → table.schema ≡ other.schema → schema ≡ map field_of columns → IsSchema schema → AllOfHeight height columns → AllOfHeight further others → items ≡ stacked_front (length columns) columns others → n ≡ height_of items → table_of items n ≡ record { schema = table.schema; rows = table.rows ++ other.rows }
table-stacked columns others height further n v w same fields good even later e count =
    (table_of-stacked columns others height further n v w same (rw fields at good) even later e count).1
