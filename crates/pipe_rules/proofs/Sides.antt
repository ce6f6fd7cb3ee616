-- Joins over sides that are narrowed.
use Rattle.std.proofs.Common.{◌≡◌, ℕ, suc, Bool, true, false, cond, ◌||◌, ◌&&◌, not, List, [], ◌∷◌, ◌++◌, map, length, None, refl, ap, sym, ◌∙◌, subst}
use Rattle.std.specs.Prelude.{filter}
use Rattle.std.specs.Str.{bytes_eq}
use Rattle.std.specs.List.{AllByRecursion, list_any}
use Rattle.pipe_schema.specs.Rows.{Row}
use Rattle.pipe_schema.specs.Schema.{has_name, names_of, first_repeated}
use Rattle.pipe_schema.specs.declared.any_value.AnyValue.{AnyValue}
use Rattle.pipe_schema.specs.declared.any_value.AnyValue.TheVariants as cell
use Rattle.pipe_schema.specs.declared.field.Field.{Field}
use Rattle.pipe_expr.specs.Formula.{Formula, Column}
use Rattle.pipe_expr.specs.Types.{columns_in, type_of_column}
use Rattle.pipe_expr.specs.Values.{named_cell}
use Rattle.pipe_expr.specs.Projections.{field_named, fields_named, row_named}
use Rattle.pipe_expr.specs.Joins.{Join, makes_pairs, key_cell, key_of, keys_match, matches, matched_by, has_right_match, lacks_right_match, has_left_match, lacks_left_match, column_names, is_kept, suffixed_name, suffixed, pair_fields, kept_cells, null_of, pair, pad_left, partner_cell, left_padding, pad_right, pairs_of, pairs, matched_left, unmatched_left, unmatched_right, padded_left, padded_right, rows_by, join_rows, join_fields}
use Rattle.pipe_expr.specs.declared.join_words.JoinType.{JoinType}
use Rattle.pipe_expr.specs.declared.join_words.JoinType.TheVariants as how
use Rattle.pipe_events.specs.Fits.{FitsRow, FitRows}
use Rattle.pipe_events.proofs.Lists.{all-filter}
use Rattle.pipe_rules.specs.Placing.{right_name}
use Rattle.pipe_rules.proofs.Filters.{all-of, all-always, filter-map, all-left, all-right}
use Rattle.pipe_rules.proofs.Under.{cell_under, named-under, own-name, same-name, in-rest}
use Rattle.pipe_rules.proofs.Columns.{shown, in-more, right-in, of-right}
use Rattle.pipe_rules.proofs.ColumnTypes.{left-type, past-left-type, right-type}
use Rattle.pipe_events.proofs.Rows.{named-row}
use Rattle.pipe_rules.specs.Needs.{Names, keys_read, is_shown, right_need, left_need}
use Rattle.pipe_rules.specs.Narrowed.{kept_names, narrow_fields, narrow_row}
use Rattle.pipe_rules.specs.NeedLaws.{IsWanted, HasSameType, AreSameAt}
use Rattle.pipe_rules.proofs.Plain.{handed-on}
use Rattle.pipe_rules.proofs.Kept.{all-in, fields-in, kept-once, kept-has, names-named, map-all, IsThere, narrow-has, narrow-cell, narrow-type, narrow-value, same-row, same-list}

-- ---- a row in two parts

fits-length : (fields : List Field) (row : Row) → FitsRow fields row → length row ≡ length fields
fits-length [] [] h = refl
fits-length [] (c ∷ row) h = absurd h
fits-length (field ∷ fields) [] h = absurd h
fits-length (field ∷ fields) (c ∷ row) h = ap suc (fits-length fields row h.1)

fewer : {m n : ℕ} → suc m ≡ suc n → m ≡ n
fewer e = cc

first-part : (name : List ℕ) (fields more : List Field) (row cells : Row) → length row ≡ length fields → has_name (names_of fields) name ≡ true → cell_under name (fields ++ more) (row ++ cells) ≡ cell_under name fields row
first-part name [] more row cells long h = cc
first-part name (field ∷ fields) more [] cells long h = cc
first-part name (field ∷ fields) more (c ∷ row) cells long h =
    let split : (b : Bool) → (b || has_name (names_of fields) name) ≡ true → cond b c (cell_under name (fields ++ more) (row ++ cells)) ≡ cond b c (cell_under name fields row) = elim [
      | true ↦ λ k. refl
      | false ↦ λ k. first-part name fields more row cells (fewer long) k
    ] in split (bytes_eq field.name name) h

second-part : (name : List ℕ) (fields more : List Field) (row cells : Row) → length row ≡ length fields → has_name (names_of fields) name ≡ false → cell_under name (fields ++ more) (row ++ cells) ≡ cell_under name more cells
second-part name [] more [] cells long h = refl
second-part name [] more (c ∷ row) cells long h = cc
second-part name (field ∷ fields) more [] cells long h = cc
second-part name (field ∷ fields) more (c ∷ row) cells long h =
    let split : (b : Bool) → (b || has_name (names_of fields) name) ≡ false → cond b c (cell_under name (fields ++ more) (row ++ cells)) ≡ cell_under name more cells = elim [
      | true ↦ λ k. cc
      | false ↦ λ k. second-part name fields more row cells (fewer long) k
    ] in split (bytes_eq field.name name) h

-- nulls under any names
all-null : (g : Field → Field) (name : List ℕ) (fields : List Field) → cell_under name (map g fields) (map null_of fields) ≡ cell.Null
all-null g name [] = refl
all-null g name (field ∷ fields) = elim (bytes_eq (g field).name name) as (λ b. cond b cell.Null (cell_under name (map g fields) (map null_of fields)) ≡ cell.Null) [ true ↦ refl | false ↦ all-null g name fields ]

-- what is made of each name
by-name : (h : List ℕ → AnyValue) (name : List ℕ) (fields : List Field) → has_name (names_of fields) name ≡ true → cell_under name fields (map (λ f. h f.name) fields) ≡ h name
by-name h name [] e = cc
by-name h name (field ∷ fields) e =
    let split : (b : Bool) → bytes_eq field.name name ≡ b → (b || has_name (names_of fields) name) ≡ true → cond b (h field.name) (cell_under name fields (map (λ f. h f.name) fields)) ≡ h name = elim [
      | true ↦ λ f k. ap h (same-name field.name name f)
      | false ↦ λ f k. by-name h name fields k
    ] in split (bytes_eq field.name name) refl e

map-length : {A B : Type 0} (g : A → B) (xs : List A) → length (map g xs) ≡ length xs
map-length g [] = refl
map-length g (x ∷ xs) = ap suc (map-length g xs)

-- ---- names on the right side

and-true : (a b : Bool) → a ≡ true → b ≡ true → (a && b) ≡ true
and-true true b e f = f
and-true false b e f = cc

left-true : (a b : Bool) → a ≡ true → (a || b) ≡ true
left-true true b e = refl
left-true false b e = cc

right-true : (a b : Bool) → b ≡ true → (a || b) ≡ true
right-true true b e = refl
right-true false b e = e

module _ (j : Join) where
  abbrev keeps : List ℕ → Bool
  keeps name = not (j.coalesced && has_name (column_names j.right_on) name)

  -- the right column that is shown under a name is kept, and gets that name
  pub right-back : (name : List ℕ) (fields : List Field) → has_name (names_of (shown j fields)) name ≡ true → (keeps (right_name j fields name) ≡ true) × (suffixed_name j (right_name j fields name) ≡ name)
  right-back name [] h = absurd (let no_ : false ≡ true = h in cc)
  right-back name (field ∷ fields) h =
      let split : (kept same : Bool) → keeps field.name ≡ kept → bytes_eq (suffixed_name j field.name) name ≡ same → has_name (names_of (map (suffixed j) (cond kept (field ∷ filter (is_kept j) fields) (filter (is_kept j) fields)))) name ≡ true → (keeps (cond (kept && same) field.name (right_name j fields name)) ≡ true) × (suffixed_name j (cond (kept && same) field.name (right_name j fields name)) ≡ name) = elim [
        | true ↦ elim [
          | true ↦ λ e f k. (e, same-name (suffixed_name j field.name) name f)
          | false ↦ λ e f k. right-back name fields (in-rest (bytes_eq (suffixed_name j field.name) name) (has_name (names_of (shown j fields)) name) f k)
        ]
        | false ↦ λ same e f k. right-back name fields k
      ] in split (keeps field.name) (bytes_eq (suffixed_name j field.name) name) refl refl h

  -- and what is kept is shown
  pub shown-has : (name x : List ℕ) (fields : List Field) → has_name (names_of fields) x ≡ true → keeps x ≡ true → suffixed_name j x ≡ name → has_name (names_of (shown j fields)) name ≡ true
  shown-has name x [] h kept is = cc
  shown-has name x (field ∷ fields) h kept is =
      let split : (b c : Bool) → bytes_eq field.name x ≡ b → keeps field.name ≡ c → (b || has_name (names_of fields) x) ≡ true → has_name (names_of (map (suffixed j) (cond c (field ∷ filter (is_kept j) fields) (filter (is_kept j) fields)))) name ≡ true = elim [
        | true ↦ elim [
          | true ↦ λ e f k. (
              let at : suffixed_name j field.name ≡ name = ap (suffixed_name j) (same-name field.name x e) ∙ is in
              let own = own-name name in
              left-true (bytes_eq (suffixed_name j field.name) name) (has_name (names_of (shown j fields)) name) (ap (λ n. bytes_eq n name) at ∙ own))
          | false ↦ λ e f k. (let yes : keeps field.name ≡ true = ap keeps (same-name field.name x e) ∙ kept in cc)
        ]
        | false ↦ elim [
          | true ↦ λ e f k. right-true (bytes_eq (suffixed_name j field.name) name) (has_name (names_of (shown j fields)) name) (shown-has name x fields k kept is)
          | false ↦ λ e f k. shown-has name x fields k kept is
        ]
      ] in split (bytes_eq field.name x) (keeps field.name) refl refl h

-- each field's name is among those of the fields
pub each-in : (fields : List Field) → AllByRecursion (λ f. has_name (names_of fields) f.name ≡ true) fields
each-in fields = fields-in fields fields (all-in (names_of fields))

-- ---- both sides narrowed

any-map : {A : Type 0} (p : A → Bool) (q : A → Bool) (f : A → A) (xs : List A) → ((x : A) → p (f x) ≡ q x) → list_any p (map f xs) ≡ list_any q xs
any-map p q f [] h = refl
any-map p q f (x ∷ xs) h = ap (λ b. b || list_any p (map f xs)) (h x) ∙ ap (λ b. q x || b) (any-map p q f xs h)

map-append : {A B : Type 0} (f : A → B) (xs ys : List A) → map f (xs ++ ys) ≡ map f xs ++ map f ys
map-append f [] ys = refl
map-append f (x ∷ xs) ys = ap (λ l. f x ∷ l) (map-append f xs ys)

each-key : (P : List ℕ → Type 0) (on : List Formula) → AllByRecursion P (keys_read on) → AllByRecursion (λ f. AllByRecursion P (columns_in f)) on
each-key P [] h = tt
each-key P (f ∷ on) h = (all-left P (columns_in f) (keys_read on) h, each-key P on (all-right P (columns_in f) (keys_read on) h))

two : {A B C : Type 0} (f : A → B → C) {a b : A} {c d : B} → a ≡ b → c ≡ d → f a c ≡ f b d
two f {b = b} {c = c} e h = ap (λ x. f x c) e ∙ ap (f b) h

-- a join's sides, each with the names that are kept of it
pub record AreMetAt (j : Join) (needed kl kr : Names) : Type 0 where
  pub left_reads : AllByRecursion (IsThere kl j.left) (keys_read j.left_on)
  pub right_reads : AllByRecursion (IsThere kr j.right) (keys_read j.right_on)
  pub left_met : (name : List ℕ) → has_name (names_of j.left) name ≡ true → left_need j needed name ≡ true → kl name ≡ true
  pub right_met : (name : List ℕ) → has_name (names_of j.right) name ≡ true → right_need j needed name ≡ true → kr name ≡ true
  pub left_once : first_repeated (names_of j.left) ≡ None
  pub right_once : first_repeated (names_of j.right) ≡ None

abbrev pub narrow_join : Join → Names → Names → Join
narrow_join j kl kr = record {
  how = j.how;
  join_nulls = j.join_nulls;
  coalesced = j.coalesced;
  suffix = j.suffix;
  left = narrow_fields kl j.left;
  right = narrow_fields kr j.right;
  left_on = j.left_on;
  right_on = j.right_on;
}

module _ (j : Join) (needed kl kr : Names) (met : AreMetAt j needed kl kr) where
  abbrev i : Join
  i = narrow_join j kl kr

  abbrev nl : Row → Row
  nl = narrow_row kl j.left

  abbrev nr : Row → Row
  nr = narrow_row kr j.right

  left-key : (l : Row) → key_of i.left i.left_on (nl l) ≡ key_of j.left j.left_on l
  left-key l = map-all (key_cell i.left (nl l)) (key_cell j.left l) j.left_on (all-of (λ f. AllByRecursion (IsThere kl j.left) (columns_in f)) (λ f. key_cell i.left (nl l) f ≡ key_cell j.left l f) (narrow-value kl j.left l) j.left_on (each-key (IsThere kl j.left) j.left_on met.left_reads))

  right-key : (r : Row) → key_of i.right i.right_on (nr r) ≡ key_of j.right j.right_on r
  right-key r = map-all (key_cell i.right (nr r)) (key_cell j.right r) j.right_on (all-of (λ f. AllByRecursion (IsThere kr j.right) (columns_in f)) (λ f. key_cell i.right (nr r) f ≡ key_cell j.right r f) (narrow-value kr j.right r) j.right_on (each-key (IsThere kr j.right) j.right_on met.right_reads))

  match-same : (l r : Row) → matches i (nl l) (nr r) ≡ matches j l r
  match-same l r = two (keys_match j.join_nulls) (left-key l) (right-key r)

  right-match : (rows : List Row) (l : Row) → has_right_match i (map nr rows) (nl l) ≡ has_right_match j rows l
  right-match rows l = any-map (matches i (nl l)) (matches j l) nr rows (match-same l)

  left-match : (rows : List Row) (r : Row) → has_left_match i (map nl rows) (nr r) ≡ has_left_match j rows r
  left-match rows r = any-map (matched_by i (nr r)) (matched_by j r) nl rows (λ l. match-same l r)

  matched-narrow : (lefts rights : List Row) → matched_left i (map nl lefts) (map nr rights) ≡ map nl (matched_left j lefts rights)
  matched-narrow lefts rights = filter-map (has_right_match i (map nr rights)) (has_right_match j rights) nl lefts (all-always (λ l. has_right_match i (map nr rights) (nl l) ≡ has_right_match j rights l) (right-match rights) lefts)

  unmatched-narrow : (lefts rights : List Row) → unmatched_left i (map nl lefts) (map nr rights) ≡ map nl (unmatched_left j lefts rights)
  unmatched-narrow lefts rights = filter-map (lacks_right_match i (map nr rights)) (lacks_right_match j rights) nl lefts (all-always (λ l. lacks_right_match i (map nr rights) (nl l) ≡ lacks_right_match j rights l) (λ l. ap not (right-match rights l)) lefts)

  unmatched-right-narrow : (lefts rights : List Row) → unmatched_right i (map nl lefts) (map nr rights) ≡ map nr (unmatched_right j lefts rights)
  unmatched-right-narrow lefts rights = filter-map (lacks_left_match i (map nl lefts)) (lacks_left_match j lefts) nr rights (all-always (λ r. lacks_left_match i (map nl lefts) (nr r) ≡ lacks_left_match j lefts r) (λ r. ap not (left-match lefts r)) rights)

  -- ---- names

  -- a narrower side has no other names
  left-has : (x : List ℕ) → has_name (names_of i.left) x ≡ true → has_name (names_of j.left) x ≡ true
  left-has x h = (kept-has kl (names_of j.left) x (sym (ap (λ l. has_name l x) (names-named j.left (kept_names kl j.left))) ∙ h)).0

  left-lacks : (x : List ℕ) → has_name (names_of j.left) x ≡ false → has_name (names_of i.left) x ≡ false
  left-lacks x out =
      let split : (b : Bool) → has_name (names_of i.left) x ≡ b → b ≡ false = elim [
        | true ↦ λ e. (let yes = left-has x e in cc)
        | false ↦ λ e. refl
      ] in split (has_name (names_of i.left) x) refl

  -- a right name that is needed gets the suffix as before
  needed-suffix : (x : List ℕ) → has_name (names_of j.right) x ≡ true → right_need j needed x ≡ true → suffixed_name i x ≡ suffixed_name j x
  needed-suffix x there wants =
      let split : (b : Bool) → has_name (names_of j.left) x ≡ b → suffixed_name i x ≡ cond b (x ++ j.suffix) x = elim [
        | true ↦ λ e. (
            let need : left_need j needed x ≡ true = right-true (needed x || has_name (keys_read j.left_on) x) (has_name (names_of j.right) x && right_need j needed x) (and-true (has_name (names_of j.right) x) (right_need j needed x) there wants) in
            let here = narrow-has kl j.left x (record { kept = met.left_met x e need; there = e }) in
            ap (λ b. cond b (x ++ j.suffix) x) here)
        | false ↦ λ e. ap (λ b. cond b (x ++ j.suffix) x) (left-lacks x e)
      ] in split (has_name (names_of j.left) x) refl

  module _ (name : List ℕ) (paired : makes_pairs j.how ≡ true) (wanted : needed name ≡ true) (out : has_name (names_of j.left) name ≡ false) where
    -- what is shown under a needed name is needed
    shown-need : (x : List ℕ) → keeps j x ≡ true → suffixed_name j x ≡ name → right_need j needed x ≡ true
    shown-need x kept is = left-true (is_shown j needed x) (has_name (keys_read j.right_on) x) (and-true (makes_pairs j.how && keeps j x) (needed (suffixed_name j x)) (and-true (makes_pairs j.how) (keeps j x) paired kept) (ap needed is ∙ wanted))

    -- a column of the right side is shown under the name as before
    same-test : (x : List ℕ) → has_name (names_of j.right) x ≡ true → (keeps j x && bytes_eq (suffixed_name i x) name) ≡ (keeps j x && bytes_eq (suffixed_name j x) name)
    same-test x there =
        let split : (k a b l : Bool) → keeps j x ≡ k → bytes_eq (suffixed_name i x) name ≡ a → bytes_eq (suffixed_name j x) name ≡ b → has_name (names_of i.left) x ≡ l → (k && a) ≡ (k && b) = elim [
          | true ↦ elim [
            | true ↦ elim [
              | true ↦ λ l e f g h. refl
              | false ↦ elim [
                | true ↦ λ e f g h. (
                    let here = left-has x h in
                    let alike : suffixed_name i x ≡ suffixed_name j x = ap (λ b. cond b (x ++ j.suffix) x) (h ∙ sym here) in
                    let no_ : bytes_eq (suffixed_name j x) name ≡ true = ap (λ n. bytes_eq n name) (sym alike) ∙ f in cc)
                | false ↦ λ e f g h. (
                    let own : suffixed_name i x ≡ x = ap (λ b. cond b (x ++ j.suffix) x) h in
                    let is : x ≡ name = sym own ∙ same-name (suffixed_name i x) name f in
                    let lacks : has_name (names_of j.left) x ≡ false = ap (has_name (names_of j.left)) is ∙ out in
                    let alike : suffixed_name j x ≡ x = ap (λ b. cond b (x ++ j.suffix) x) lacks in
                    let own_name = own-name name in
                    let no_ : bytes_eq (suffixed_name j x) name ≡ true = ap (λ n. bytes_eq n name) (alike ∙ is) ∙ own_name in cc)
              ]
            ]
            | false ↦ elim [
              | true ↦ λ l e f g h. (
                  let is = same-name (suffixed_name j x) name g in
                  let alike = needed-suffix x there (shown-need x e is) in
                  let own_name = own-name name in
                  let no_ : bytes_eq (suffixed_name i x) name ≡ true = ap (λ n. bytes_eq n name) (alike ∙ is) ∙ own_name in cc)
              | false ↦ λ l e f g h. refl
            ]
          ]
          | false ↦ λ a b l e f g h. refl
        ] in
        let k = split (keeps j x) (bytes_eq (suffixed_name i x) name) (bytes_eq (suffixed_name j x) name) (has_name (names_of i.left) x) refl refl refl refl in k

    -- the right column under the name is found among those that are kept
    right-kept : (part : List Field) → AllByRecursion (λ f. has_name (names_of j.right) f.name ≡ true) part → kr (right_name j part name) ≡ true → right_name i (fields_named j.right (filter kr (names_of part))) name ≡ right_name j part name
    right-kept [] inside k = refl
    right-kept (field ∷ part) inside k =
        let rest = filter kr (names_of part) in
        let tail = right_name i (fields_named j.right rest) name in
        let same = same-test field.name inside.0 in
        let split : (b c : Bool) → (keeps j field.name && bytes_eq (suffixed_name j field.name) name) ≡ b → kr field.name ≡ c → kr (cond b field.name (right_name j part name)) ≡ true → right_name i (fields_named j.right (cond c (field.name ∷ rest) rest)) name ≡ cond b field.name (right_name j part name) = elim [
          | true ↦ elim [
            | true ↦ λ e f k. ap (λ b. cond b field.name tail) (same ∙ e)
            | false ↦ λ e f k. cc
          ]
          | false ↦ elim [
            | true ↦ λ e f k. ap (λ b. cond b field.name tail) (same ∙ e) ∙ right-kept part inside.1 k
            | false ↦ λ e f k. right-kept part inside.1 k
          ]
        ] in split (keeps j field.name && bytes_eq (suffixed_name j field.name) name) (kr field.name) refl refl k

    module _ (there : has_name (names_of (shown j j.right)) name ≡ true) where
      abbrev x : List ℕ
      x = right_name j j.right name

      x-there : IsThere kr j.right x
      x-there =
          let inside = right-in j name j.right there in
          let back = right-back j name j.right there in
          record { kept = met.right_met x inside (shown-need x back.0 back.1); there = inside }

      x-same : right_name i i.right name ≡ x
      x-same = right-kept j.right (each-in j.right) x-there.kept

      x-shown : has_name (names_of (shown i i.right)) name ≡ true
      x-shown =
          let back = right-back j name j.right there in
          let inside = x-there in
          shown-has i name x i.right (narrow-has kr j.right x inside) back.0 (needed-suffix x inside.there (shown-need x back.0 back.1) ∙ back.1)

      right-once : first_repeated (names_of i.right) ≡ None
      right-once = ap first_repeated (names-named j.right (kept_names kr j.right)) ∙ kept-once kr (names_of j.right) met.right_once

      right-cell : (r : Row) → FitsRow j.right r → cell_under name (shown i i.right) (kept_cells (is_kept i) i.right (nr r)) ≡ cell_under name (shown j j.right) (kept_cells (is_kept j) j.right r)
      right-cell r fits =
          of-right i name i.right (nr r) (named-row j.right (kept_names kr j.right) r fits) right-once x-shown
          ∙ ap (λ n. cell_under n i.right (nr r)) x-same
          ∙ sym (named-under x i.right (nr r))
          ∙ narrow-cell kr j.right r x x-there
          ∙ named-under x j.right r
          ∙ sym (of-right j name j.right r fits met.right_once there)

      right-column : type_of_column name (shown i i.right) ≡ type_of_column name (shown j j.right)
      right-column =
          right-type i name i.right right-once x-shown
          ∙ ap (λ n. type_of_column n i.right) x-same
          ∙ narrow-type kr j.right x x-there
          ∙ sym (right-type j name j.right met.right_once there)

  -- ---- rows in two parts

  left-there : (name : List ℕ) → needed name ≡ true → has_name (names_of j.left) name ≡ true → IsThere kl j.left name
  left-there name wanted there = record { kept = met.left_met name there (left-true (needed name || has_name (keys_read j.left_on) name) (has_name (names_of j.right) name && right_need j needed name) (left-true (needed name) (has_name (keys_read j.left_on) name) wanted)); there = there }

  module _ (paired : makes_pairs j.how ≡ true) where
    pair-type : (name : List ℕ) → IsWanted needed (pair_fields j) name → type_of_column name (pair_fields i) ≡ type_of_column name (pair_fields j)
    pair-type name w =
        let split : (b : Bool) → has_name (names_of j.left) name ≡ b → type_of_column name (pair_fields i) ≡ type_of_column name (pair_fields j) = elim [
          | true ↦ λ e. (
              let h = left-there name w.wanted e in
              left-type name i.left (shown i i.right) (narrow-has kl j.left name h) ∙ narrow-type kl j.left name h ∙ sym (left-type name j.left (shown j j.right) e))
          | false ↦ λ e. (
              let there = in-more name j.left (shown j j.right) e w.there in
              past-left-type name i.left (shown i i.right) (left-lacks name e) ∙ right-column name paired w.wanted e there ∙ sym (past-left-type name j.left (shown j j.right) e))
        ] in split (has_name (names_of j.left) name) refl

    -- a row whose parts have the same under needed names
    two-parts : (a b c d : Row) → length a ≡ length j.left → length c ≡ length i.left → ((name : List ℕ) → IsThere kl j.left name → cell_under name i.left c ≡ cell_under name j.left a) → ((name : List ℕ) → needed name ≡ true → has_name (names_of j.left) name ≡ false → has_name (names_of (shown j j.right)) name ≡ true → cell_under name (shown i i.right) d ≡ cell_under name (shown j j.right) b) → (name : List ℕ) → IsWanted needed (pair_fields j) name → named_cell (pair_fields i) (c ++ d) name ≡ named_cell (pair_fields j) (a ++ b) name
    two-parts a b c d long longer lefts rights name w =
        let split : (t : Bool) → has_name (names_of j.left) name ≡ t → cell_under name (pair_fields i) (c ++ d) ≡ cell_under name (pair_fields j) (a ++ b) = elim [
          | true ↦ λ e. (
              let h = left-there name w.wanted e in
              first-part name i.left (shown i i.right) c d longer (narrow-has kl j.left name h) ∙ lefts name h ∙ sym (first-part name j.left (shown j j.right) a b long e))
          | false ↦ λ e. (
              let there = in-more name j.left (shown j j.right) e w.there in
              second-part name i.left (shown i i.right) c d longer (left-lacks name e) ∙ rights name w.wanted e there ∙ sym (second-part name j.left (shown j j.right) a b long e))
        ] in named-under name (pair_fields i) (c ++ d) ∙ split (has_name (names_of j.left) name) refl ∙ sym (named-under name (pair_fields j) (a ++ b))

    own-left : (l : Row) (name : List ℕ) → IsThere kl j.left name → cell_under name i.left (nl l) ≡ cell_under name j.left l
    own-left l name h = sym (named-under name i.left (nl l)) ∙ narrow-cell kl j.left l name h ∙ named-under name j.left l

    slim-length : (l : Row) → length (nl l) ≡ length i.left
    slim-length l = map-length (named_cell j.left l) (kept_names kl j.left) ∙ sym (map-length (field_named j.left) (kept_names kl j.left))

    pair-cell : (l r : Row) → FitsRow j.left l → FitsRow j.right r → (name : List ℕ) → IsWanted needed (pair_fields j) name → named_cell (pair_fields i) (pair i (nl l) (nr r)) name ≡ named_cell (pair_fields j) (pair j l r) name
    pair-cell l r fl fr =
        two-parts l (kept_cells (is_kept j) j.right r) (nl l) (kept_cells (is_kept i) i.right (nr r)) (fits-length j.left l fl) (slim-length l) (own-left l)
        (λ name wanted out there. right-cell name paired wanted out there r fr)

    pad-left-cell : (l : Row) → FitsRow j.left l → (name : List ℕ) → IsWanted needed (pair_fields j) name → named_cell (pair_fields i) (pad_left i (nl l)) name ≡ named_cell (pair_fields j) (pad_left j l) name
    pad-left-cell l fl =
        two-parts l (map null_of (filter (is_kept j) j.right)) (nl l) (map null_of (filter (is_kept i) i.right)) (fits-length j.left l fl) (slim-length l) (own-left l)
        (λ name wanted out there. all-null (suffixed i) name (filter (is_kept i) i.right) ∙ sym (all-null (suffixed j) name (filter (is_kept j) j.right)))

    -- what stands under a left name beside a right row without a match
    abbrev padding : Join → Row → List ℕ → AnyValue
    padding k r name = cond k.coalesced (partner_cell k.right r k.left_on k.right_on name) cell.Null

    partner-same : (r : Row) (left_on right_on : List Formula) (name : List ℕ) → AllByRecursion (λ f. AllByRecursion (IsThere kr j.right) (columns_in f)) right_on → partner_cell i.right (nr r) left_on right_on name ≡ partner_cell j.right r left_on right_on name
    partner-same r [] right_on name h = refl
    partner-same r (Column n ∷ left_on) [] name h = refl
    partner-same r (Column n ∷ left_on) (on ∷ right_on) name h = two (λ a b. cond (bytes_eq n name) a b) (narrow-value kr j.right r on h.0) (partner-same r left_on right_on name h.1)
    partner-same r (_ ∷ left_on) [] name h = refl
    partner-same r (_ ∷ left_on) (on ∷ right_on) name h = partner-same r left_on right_on name h.1

    padding-same : (r : Row) (name : List ℕ) → padding i (nr r) name ≡ padding j r name
    padding-same r name = ap (λ c. cond j.coalesced c cell.Null) (partner-same r j.left_on j.right_on name (each-key (IsThere kr j.right) j.right_on met.right_reads))

    pad-right-cell : (r : Row) → FitsRow j.right r → (name : List ℕ) → IsWanted needed (pair_fields j) name → named_cell (pair_fields i) (pad_right i (nr r)) name ≡ named_cell (pair_fields j) (pad_right j r) name
    pad-right-cell r fr =
        two-parts (map (left_padding j r) j.left) (kept_cells (is_kept j) j.right r) (map (left_padding i (nr r)) i.left) (kept_cells (is_kept i) i.right (nr r))
        (map-length (left_padding j r) j.left) (map-length (left_padding i (nr r)) i.left)
        (λ name h. by-name (padding i (nr r)) name i.left (narrow-has kl j.left name h) ∙ padding-same r name ∙ sym (by-name (padding j r) name j.left h.there))
        (λ name wanted out there. right-cell name paired wanted out there r fr)

    -- ---- lists of rows

    module _ (names : List (List ℕ)) (want : AllByRecursion (IsWanted needed (pair_fields j)) names) where
      abbrev shows : Row → Row
      shows = row_named (pair_fields j) names

      abbrev shows' : Row → Row
      shows' = row_named (pair_fields i) names

      row-of : (a b : Row) → ((name : List ℕ) → IsWanted needed (pair_fields j) name → named_cell (pair_fields i) b name ≡ named_cell (pair_fields j) a name) → shows' b ≡ shows a
      row-of a b h = same-row names (pair_fields j) (pair_fields i) a b (all-of (IsWanted needed (pair_fields j)) (λ name. named_cell (pair_fields i) b name ≡ named_cell (pair_fields j) a name) h names want)

      pairs-of-narrow : (l : Row) → FitsRow j.left l → (rights : List Row) → FitRows j.right rights → map shows' (pairs_of i (map nr rights) (nl l)) ≡ map shows (pairs_of j rights l)
      pairs-of-narrow l fl [] fit = refl
      pairs-of-narrow l fl (r ∷ rights) fit =
          let rest = pairs-of-narrow l fl rights fit.1 in
          let head = row-of (pair j l r) (pair i (nl l) (nr r)) (pair-cell l r fl fit.0) in
          let matched = match-same l r in
          let split : (b : Bool) → map shows' (map (pair i (nl l)) (cond b (nr r ∷ filter (matches i (nl l)) (map nr rights)) (filter (matches i (nl l)) (map nr rights)))) ≡ map shows (map (pair j l) (cond b (r ∷ filter (matches j l) rights) (filter (matches j l) rights))) = elim [
            | true ↦ two (λ a b. a ∷ b) head rest
            | false ↦ rest
          ] in
          ap (λ b. map shows' (map (pair i (nl l)) (cond b (nr r ∷ filter (matches i (nl l)) (map nr rights)) (filter (matches i (nl l)) (map nr rights))))) matched
          ∙ split (matches j l r)

      pairs-narrow : (lefts rights : List Row) → FitRows j.left lefts → FitRows j.right rights → map shows' (pairs i (map nl lefts) (map nr rights)) ≡ map shows (pairs j lefts rights)
      pairs-narrow [] rights fl fr = refl
      pairs-narrow (l ∷ lefts) rights fl fr =
          map-append shows' (pairs_of i (map nr rights) (nl l)) (pairs i (map nl lefts) (map nr rights))
          ∙ two (λ a b. a ++ b) (pairs-of-narrow l fl.0 rights fr) (pairs-narrow lefts rights fl.1 fr)
          ∙ sym (map-append shows (pairs_of j rights l) (pairs j lefts rights))

      one-by-one : (f g : Row → Row) (slim : Row → Row) (fields : List Field) (rows : List Row) → FitRows fields rows → ((row : Row) → FitsRow fields row → shows' (g (slim row)) ≡ shows (f row)) → map shows' (map g (map slim rows)) ≡ map shows (map f rows)
      one-by-one f g slim fields [] fit h = refl
      one-by-one f g slim fields (row ∷ rows) fit h = two (λ a b. a ∷ b) (h row fit.0) (one-by-one f g slim fields rows fit.1 h)

      padded-left-narrow : (lefts rights : List Row) → FitRows j.left lefts → map shows' (padded_left i (map nl lefts) (map nr rights)) ≡ map shows (padded_left j lefts rights)
      padded-left-narrow lefts rights fl =
          ap (λ l. map shows' (map (pad_left i) l)) (unmatched-narrow lefts rights)
          ∙ one-by-one (pad_left j) (pad_left i) nl j.left (unmatched_left j lefts rights) (all-filter (FitsRow j.left) (lacks_right_match j rights) lefts fl) (λ l h. row-of (pad_left j l) (pad_left i (nl l)) (pad-left-cell l h))

      padded-right-narrow : (lefts rights : List Row) → FitRows j.right rights → map shows' (padded_right i (map nl lefts) (map nr rights)) ≡ map shows (padded_right j lefts rights)
      padded-right-narrow lefts rights fr =
          ap (λ l. map shows' (map (pad_right i) l)) (unmatched-right-narrow lefts rights)
          ∙ one-by-one (pad_right j) (pad_right i) nr j.right (unmatched_right j lefts rights) (all-filter (FitsRow j.right) (lacks_left_match j lefts) rights fr) (λ r h. row-of (pad_right j r) (pad_right i (nr r)) (pad-right-cell r h))

      pair-types : AllByRecursion (HasSameType (pair_fields j) (pair_fields i)) names
      pair-types = all-of (IsWanted needed (pair_fields j)) (HasSameType (pair_fields j) (pair_fields i)) pair-type names want

-- ---- the whole join

pub joined-narrow : (j : Join) (needed kl kr : Names) (met : AreMetAt j needed kl kr) (names : List (List ℕ)) (lefts rights : List Row) → FitRows j.left lefts → FitRows j.right rights → AllByRecursion (IsWanted needed (join_fields j)) names → AreSameAt names (join_fields j) (join_rows j lefts rights) (join_fields (narrow_join j kl kr)) (join_rows (narrow_join j kl kr) (map (narrow_row kl j.left) lefts) (map (narrow_row kr j.right) rights))
joined-narrow j needed kl kr met names lefts rights fl fr want =
    let i = narrow_join j kl kr in
    let ls = map (narrow_row kl j.left) lefts in
    let rs = map (narrow_row kr j.right) rights in
    let P = row_named (pair_fields j) names in
    let P' = row_named (pair_fields i) names in
    let three : (a b c d e f : List Row) → map P' d ≡ map P a → map P' e ≡ map P b → map P' f ≡ map P c → map P' (d ++ e ++ f) ≡ map P (a ++ b ++ c) = λ a b c d e f x y z.
    map-append P' (d ++ e) f ∙ two (λ u v. u ++ v) (map-append P' d e ∙ two (λ u v. u ++ v) x y ∙ sym (map-append P a b)) z ∙ sym (map-append P (a ++ b) c) in
    let left-alone : AllByRecursion (IsWanted needed j.left) names → (some others : List Row) → others ≡ map (narrow_row kl j.left) some → AreSameAt names j.left some i.left others = λ w some others is.
    subst (AreSameAt names j.left some i.left) (sym is) (handed-on needed names kl j.left some (all-of (IsWanted needed j.left) (IsThere kl j.left) (λ name v. left-there j needed kl kr met name v.wanted v.there) names w)) in
    let by : (k : JoinType) → j.how ≡ k → AllByRecursion (IsWanted needed (cond (makes_pairs k) (pair_fields j) j.left)) names → AreSameAt names (cond (makes_pairs k) (pair_fields j) j.left) (rows_by k j lefts rights) (cond (makes_pairs k) (pair_fields i) i.left) (rows_by k i ls rs) = elim [
      | how.Inner ↦ λ at w. (let paired = ap makes_pairs at in record {
        types = pair-types j needed kl kr met paired names w;
        same = same-list (map P' (pairs i ls rs)) (map P (pairs j lefts rights)) (pairs-narrow j needed kl kr met paired names w lefts rights fl fr);
      })
      | how.Left ↦ λ at w. (let paired = ap makes_pairs at in record {
        types = pair-types j needed kl kr met paired names w;
        same = same-list (map P' (pairs i ls rs ++ padded_left i ls rs)) (map P (pairs j lefts rights ++ padded_left j lefts rights)) (
            map-append P' (pairs i ls rs) (padded_left i ls rs)
            ∙ two (λ u v. u ++ v) (pairs-narrow j needed kl kr met paired names w lefts rights fl fr) (padded-left-narrow j needed kl kr met paired names w lefts rights fl)
            ∙ sym (map-append P (pairs j lefts rights) (padded_left j lefts rights)));
      })
      | how.Full ↦ λ at w. (let paired = ap makes_pairs at in record {
        types = pair-types j needed kl kr met paired names w;
        same = same-list (map P' (rows_by how.Full i ls rs)) (map P (rows_by how.Full j lefts rights))
            (three (pairs j lefts rights) (padded_left j lefts rights) (padded_right j lefts rights) (pairs i ls rs) (padded_left i ls rs) (padded_right i ls rs)
            (pairs-narrow j needed kl kr met paired names w lefts rights fl fr)
            (padded-left-narrow j needed kl kr met paired names w lefts rights fl)
            (padded-right-narrow j needed kl kr met paired names w lefts rights fr));
      })
      | how.Cross ↦ λ at w. (let paired = ap makes_pairs at in record {
        types = pair-types j needed kl kr met paired names w;
        same = same-list (map P' (pairs i ls rs)) (map P (pairs j lefts rights)) (pairs-narrow j needed kl kr met paired names w lefts rights fl fr);
      })
      | how.Semi ↦ λ at w. left-alone w (matched_left j lefts rights) (matched_left i ls rs) (matched-narrow j needed kl kr met lefts rights)
      | how.Anti ↦ λ at w. left-alone w (unmatched_left j lefts rights) (unmatched_left i ls rs) (unmatched-narrow j needed kl kr met lefts rights)
    ] in by j.how refl want
