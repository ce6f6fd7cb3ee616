-- Selecting columns by their names.
use Rattle.std.proofs.Common.{◌≡◌, ℕ, zero, suc, ◌+◌, ◌<◌, Bool, true, false, cond, List, [], ◌∷◌, ◌++◌, Option, Some, None, length, map, get_or, take, drop, refl, ap, sym, ◌∙◌, arith}
use Rattle.std.specs.Prelude.{slice_get, is_some, option_map}
use Rattle.std.specs.Str.{bytes_eq}
use Rattle.std.specs.List.{range_with_len, cons_option}
use Rattle.std.specs.Cmp.Lexicographic.{bytes_decides}
use Rattle.std.proofs.lemmas.Option.{slice_get-map, slice_get-get_or}
use Rattle.std.proofs.lemmas.List.{length-map, take_more, drop_more}
use Rattle.std.proofs.lemmas.List.Elements.{All-cons, All-nil, filter_map-append}
use Rattle.pipe_column.specs.Series.{Cells}
use Rattle.pipe_schema.specs.Schema.{has_name, name_of, names_of, names_fault, IsSchema, place_from, place_of, first_unknown}
use Rattle.pipe_column.specs.Columns.{field_of, cell_in, row_at, column_rows, AllOfHeight}
use Rattle.pipe_frame.specs.Frame.{Table, table_of, at_places, place_named, places_named, row_at_places, selected}
use Rattle.pipe_schema.specs.declared.field.Field.{Field}
use Rattle.pipe_schema.proofs.NamePlaces.{is_some-place_from}
use Rattle.pipe_frame.proofs.Tables.{map_map, map_same}

-- ---- what stands at places

cons_option-map : {X Y : Type 0} (f : X → Y) (o : Option X) (xs : List X) → cons_option (option_map f o) (map f xs) ≡ map f (cons_option o xs)
cons_option-map f (Some x) xs = refl
cons_option-map f None xs = refl

at_places-map : {X Y : Type 0} (f : X → Y) (xs : List X) (places : List ℕ) → at_places (map f xs) places ≡ map f (at_places xs places)
at_places-map f xs [] = refl
at_places-map f xs (i ∷ places) =
    ap (λ o. cons_option o (at_places (map f xs) places)) (slice_get-map f xs i) ∙ ap (cons_option (option_map f (slice_get xs i))) (at_places-map f xs places) ∙ cons_option-map f (slice_get xs i) (at_places xs places)

slice_get-even : (height : ℕ) (columns : List Cells) (i : ℕ) (c : Cells) → slice_get columns i ≡ Some c → AllOfHeight height columns → length c.cells ≡ height
slice_get-even height [] i c e even = cc
slice_get-even height (b ∷ columns) zero c e even = let same : b ≡ c = cc in rw (← same) (even 0 b (omega arith))
slice_get-even height (b ∷ columns) (suc i) c e even = slice_get-even height columns i c e (λ k d lt. even (suc k) d (omega arith))

even-at_places : (height : ℕ) (columns : List Cells) (places : List ℕ) → AllOfHeight height columns → AllOfHeight height (at_places columns places)
even-at_places height columns [] even = let Even : Cells → Type 0 = λ c. length c.cells ≡ height in All-nil Even
even-at_places height columns (i ∷ places) even =
    let Even : Cells → Type 0 = λ c. length c.cells ≡ height in
    let split : (o : Option Cells) → slice_get columns i ≡ o → AllOfHeight height (cons_option o (at_places columns places)) = elim [
      | Some c ↦ λ e. All-cons Even c (at_places columns places) (slice_get-even height columns i c e even) (even-at_places height columns places even)
      | None ↦ λ e. even-at_places height columns places even
    ] in split (slice_get columns i) refl

-- selecting in each column is selecting in each row
column_rows-selected : (columns : List Cells) (height : ℕ) (places : List ℕ) → column_rows (at_places columns places) height ≡ map (row_at_places places) (column_rows columns height)
column_rows-selected columns height places =
    map_same (row_at (at_places columns places)) (λ k. row_at_places places (row_at columns k)) (range_with_len 0 height) (λ k. sym (at_places-map (cell_in k) columns places))
    ∙ sym (map_map (row_at_places places) (row_at columns) (range_with_len 0 height))

-- ---- places of names

place_found : (n : ℕ) (name : List ℕ) (fields : List Field) (i : ℕ) → place_from n name fields ≡ Some i → (k : ℕ) × ((i ≡ n + k) × (slice_get (names_of fields) k ≡ Some name))
place_found n name [] i e = absurd (cc)
place_found n name (f ∷ fields) i e =
    let split : (b : Bool) → bytes_eq f.name name ≡ b → cond b (Some n) (place_from (n + 1) name fields) ≡ Some i → (k : ℕ) × ((i ≡ n + k) × (slice_get (names_of (f ∷ fields)) k ≡ Some name)) = elim [
      | true ↦ λ same found. let here : n ≡ i = cc in (0, (omega arith, ap Some ((bytes_decides f.name name).0 same)))
      | false ↦ λ other found. let later = place_found (n + 1) name fields i found in (suc later.0, (omega (arith, later.1.0), later.1.1))
    ] in split (bytes_eq f.name name) refl e

slice_get-inside : {X : Type 0} (xs : List X) (k : ℕ) (x : X) → slice_get xs k ≡ Some x → k < length xs
slice_get-inside [] k x e = absurd (cc)
slice_get-inside (y ∷ xs) zero x e = omega arith
slice_get-inside (y ∷ xs) (suc k) x e = omega (arith, slice_get-inside xs k x e)

place_of-name : (name : List ℕ) (fields : List Field) (i : ℕ) → place_of name fields ≡ Some i → slice_get (names_of fields) i ≡ Some name
place_of-name name fields i e = let found = place_found 0 name fields i e in let same : i ≡ found.0 = omega (arith, found.1.0) in ap (slice_get (names_of fields)) same ∙ found.1.1

pub place_of-inside : (name : List ℕ) (fields : List Field) (columns : List Cells) (i : ℕ) → Some i ≡ place_of name fields → fields ≡ map field_of columns → i < length columns
place_of-inside name fields columns i e same =
    omega (arith, slice_get-inside (names_of fields) i name (place_of-name name fields i (sym e)), length-map fields name_of, length-map columns field_of, ap length same)

names-found : (fields : List Field) (names : List (List ℕ)) → first_unknown fields names ≡ None → at_places (names_of fields) (places_named fields names) ≡ names
names-found fields [] h = refl
names-found fields (name ∷ names) h =
    let split : (o : Option ℕ) → place_of name fields ≡ o → cond (is_some o) (first_unknown fields names) (Some name) ≡ None → at_places (names_of fields) (cons_option o (places_named fields names)) ≡ name ∷ names = elim [
      | Some i ↦ λ e rest. ap (λ x. cons_option x (at_places (names_of fields) (places_named fields names))) (place_of-name name fields i e) ∙ ap (λ l. name ∷ l) (names-found fields names rest)
      | None ↦ λ e none. absurd (cc)
    ] in split (place_of name fields) refl (ap (λ b. cond b (first_unknown fields names) (Some name)) (is_some-place_from 0 name fields) ∙ h)

-- the fields of known names have these names
names-selected : (fields : List Field) (names : List (List ℕ)) → first_unknown fields names ≡ None → names_of (at_places fields (places_named fields names)) ≡ names
names-selected fields names h = sym (at_places-map name_of fields (places_named fields names)) ∙ names-found fields names h

-- ---- one more name

at_places-push : {X : Type 0} (xs : List X) (places : List ℕ) (i : ℕ) (x : X) → i < length xs → x ≡ get_or xs i x → at_places xs (places ++ i ∷ []) ≡ at_places xs places ++ x ∷ []
at_places-push xs places i x lt e =
    filter_map-append (slice_get xs) places (i ∷ []) ∙ ap (λ o. at_places xs places ++ cons_option o []) (slice_get-get_or xs i x lt ∙ ap Some (sym e))

places_named-push : (fields : List Field) (names : List (List ℕ)) (name : List ℕ) (i : ℕ) → Some i ≡ place_of name fields → places_named fields (names ++ name ∷ []) ≡ places_named fields names ++ i ∷ []
places_named-push fields names name i e =
    filter_map-append (place_named fields) names (name ∷ []) ∙ ap (λ o. places_named fields names ++ cons_option o []) (sym e)

pub selected-more : (columns : List Cells) (fields : List Field) (names : List (List ℕ)) (k : ℕ) (name : List ℕ) (i : ℕ) (x y : Cells) {made after : List Cells} → made ≡ at_places columns (places_named fields (take k names)) → k < length names → name ≡ get_or names k name → Some i ≡ place_of name fields → i < length columns → x ≡ get_or columns i x → y ≡ x → after ≡ made ++ y ∷ [] → after ≡ at_places columns (places_named fields (take (k + 1) names))
selected-more columns fields names k name i x y h lt e found inside p copy a =
    let names' : take (k + 1) names ≡ take k names ++ name ∷ [] = take_more names k name lt ∙ ap (λ n. take k names ++ n ∷ []) (sym e) in
    a ∙ ap (λ l. l ++ y ∷ []) h ∙ ap (λ z. at_places columns (places_named fields (take k names)) ++ z ∷ []) copy
    ∙ sym (ap (λ l. at_places columns (places_named fields l)) names' ∙ ap (at_places columns) (places_named-push fields (take k names) name i found) ∙ at_places-push columns (places_named fields (take k names)) i x inside p)

pub known-more : (fields : List Field) (names : List (List ℕ)) (k : ℕ) (name : List ℕ) (i : ℕ) → first_unknown fields (drop k names) ≡ first_unknown fields names → k < length names → name ≡ get_or names k name → Some i ≡ place_of name fields → first_unknown fields (drop (k + 1) names) ≡ first_unknown fields names
known-more fields names k name i h lt e found =
    let rest : drop k names ≡ name ∷ drop (k + 1) names = drop_more names k name lt ∙ ap (λ n. n ∷ drop (k + 1) names) (sym e) in
    let there : has_name (names_of fields) name ≡ true = sym (is_some-place_from 0 name fields) ∙ ap is_some (sym found) in
    sym (ap (λ b. cond b (first_unknown fields (drop (k + 1) names)) (Some name)) there) ∙ sym (ap (first_unknown fields) rest) ∙ h

-- ---- the frame of the selected columns

pub good-selected : (columns : List Cells) (height : ℕ) (fields : List Field) (names : List (List ℕ)) {items : List Cells} → fields ≡ map field_of columns → names_fault names ≡ None → first_unknown fields names ≡ None → AllOfHeight height columns → items ≡ at_places columns (places_named fields names) → (IsSchema (map field_of items)) × (AllOfHeight height items)
good-selected columns height fields names {items = items} same good known even e =
    let made : map field_of items ≡ at_places fields (places_named fields names) = ap (map field_of) e ∙ sym (at_places-map field_of columns (places_named fields names)) ∙ ap (λ l. at_places l (places_named fields names)) (sym same) in
    (ap names_fault (ap names_of made ∙ names-selected fields names known) ∙ good, rw e (even-at_places height columns (places_named fields names) even))

pub table_of-selected : (columns : List Cells) (height : ℕ) (fields : List Field) (names : List (List ℕ)) {table : Table} {items : List Cells} → table_of columns height ≡ table → fields ≡ map field_of columns → items ≡ at_places columns (places_named fields names) → table_of items height ≡ selected table names
table_of-selected columns height fields names {table = table} {items = items} v same e =
    let whole : items ≡ at_places columns (places_named (map field_of columns) names) = e ∙ ap (λ l. at_places columns (places_named l names)) same in
    let places : List ℕ = places_named (map field_of columns) names in
    let schema : map field_of (at_places columns places) ≡ at_places (map field_of columns) places = sym (at_places-map field_of columns places) in
    ap (λ l. table_of l height) whole
    ∙ ap (λ s. record { schema = s; rows = column_rows (at_places columns places) height }) schema
    ∙ ap (λ r. record { schema = at_places (map field_of columns) places; rows = r }) (column_rows-selected columns height places)
    ∙ ap (λ t. selected t names) v
