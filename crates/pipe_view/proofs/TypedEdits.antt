-- How far rows and edits are typed.
use Rattle.std.proofs.Common.{◌≡◌, ◌<◌, ◌≤◌, ◌+◌, ℕ, zero, suc, map, List, [], ◌∷◌, ◌++◌, Bool, false, ◌&&◌, length, take, drop, get_or, refl, ap, ap₂, sym, ◌∙◌, subst, arith, append-nil, append_assoc, take-suc, drop-cons}
use Rattle.std.proofs.lemmas.Bool.{and_right}
use Rattle.std.proofs.lemmas.List.{take_all, map-append}
use Rattle.std.specs.List.{AllByRecursion}
use Rattle.serde_json.specs.Data.{Data, array, string, item, no_items}
use Rattle.serde_json.specs.View.{items_of}
use Rattle.pipe_schema.specs.Rows.{Row}
use Rattle.pipe_schema.specs.declared.any_value.AnyValue.{AnyValue}
use Rattle.pipe_schema.specs.declared.field.Field.{Field}
use Rattle.pipe_job.specs.Shape.{is_cell}
use Rattle.pipe_job.specs.Spelling.{cell_spelling, FitsType}
use Rattle.pipe_view.specs.declared.row_edit.RowEdit.{RowEdit}
use Rattle.pipe_view.specs.EditSpelling.{EditFits, IsEditOf, IsRowOf, RowFits, are_cells, are_edits, columns_on, edit_spelling, is_edit}
use Rattle.pipe_view.specs.RawSpelling.{RawCellFits, RawEditFits, kind_name, raw_cell_spelling, raw_edit_spelling, side_name}
use Rattle.pipe_view.specs.declared.raw_cell.RawCell.{RawCell}
use Rattle.pipe_view.specs.declared.raw_edit.RawEdit.{RawEdit}

-- the first cells are the row, and where a later one may not stand in its column, the whole is no row
pub record RowSoFar (fields : List Field) (all rest : List RawCell) (i : ℕ) (row : Row) : Type 0 where
  pub spelled : map raw_cell_spelling all ≡ map cell_spelling row ++ map raw_cell_spelling rest
  pub typed : RowFits (take i fields) row
  pub fitting : AllByRecursion RawCellFits rest
  pub refused : are_cells (drop i fields) rest ≡ false → are_cells fields all ≡ false

fits_more : (fields : List Field) (row : Row) (f : Field) (x : AnyValue) → RowFits fields row → FitsType f.dtype x → RowFits (fields ++ f ∷ []) (row ++ x ∷ [])
fits_more [] [] f x h k = (k, tt)
fits_more [] (y ∷ row) f x h k = absurd h
fits_more (g ∷ fields) [] f x h k = absurd h
fits_more (g ∷ fields) (y ∷ row) f x h k = (h.0, fits_more fields row f x h.1 k)

-- at the start
pub no_cell_yet : (fields : List Field) (all : List RawCell) → AllByRecursion RawCellFits all → RowSoFar fields all all 0 []
no_cell_yet fields all fits = record { spelled = refl; typed = tt; fitting = fits; refused = λ h. h }

-- the next cell fits
pub next_fits : (fields : List Field) (all rest later : List RawCell) (i : ℕ) (row : Row) (c : RawCell) → RowSoFar fields all rest i row → rest ≡ c ∷ later → RawCellFits c
next_fits fields all rest later i row c so e =
    let both = subst (λ (cs : List RawCell). AllByRecursion RawCellFits cs) e so.fitting in
    both.0

-- one cell more
next_cell : (fields : List Field) (all rest later : List RawCell) (i : ℕ) (row : Row) (c : RawCell) (x : AnyValue) (f : Field) → i < length fields → f ≡ get_or fields i f → RowSoFar fields all rest i row → rest ≡ c ∷ later
    → (raw_cell_spelling c ≡ cell_spelling x) × FitsType f.dtype x → RowSoFar fields all later (suc i) (row ++ x ∷ [])
next_cell fields all rest later i row c x f lt at so e read =
    let both = subst (λ (cs : List RawCell). AllByRecursion RawCellFits cs) e so.fitting in
    let front : drop i fields ≡ f ∷ drop (suc i) fields = drop-cons fields i f lt ∙ ap (λ (y : Field). y ∷ drop (suc i) fields) (sym at) in
    let taken : take (suc i) fields ≡ take i fields ++ f ∷ [] = take-suc fields i f lt ∙ ap (λ (y : Field). take i fields ++ y ∷ []) (sym at) in
    record {
      spelled = so.spelled ∙ ap (λ (cs : List RawCell). map cell_spelling row ++ map raw_cell_spelling cs) e
          ∙ ap (λ (d : Data). map cell_spelling row ++ d ∷ map raw_cell_spelling later) read.0
          ∙ sym (append_assoc (map cell_spelling row) (cell_spelling x ∷ []) (map raw_cell_spelling later))
          ∙ ap (λ (ds : List Data). ds ++ map raw_cell_spelling later) (sym (map-append cell_spelling row (x ∷ [])));
      typed = subst (λ (l : List Field). RowFits l (row ++ x ∷ [])) (sym taken) (fits_more (take i fields) row f x so.typed read.1);
      fitting = both.1;
      refused = λ none. so.refused (ap₂ are_cells front e ∙ and_right (is_cell f.dtype (raw_cell_spelling c)) (are_cells (drop (suc i) fields) later) none);
    }

pub one_more : (fields : List Field) (all rest later : List RawCell) (i n : ℕ) (row made : Row) (c : RawCell) (x : AnyValue) (f : Field) → i < length fields → f ≡ get_or fields i f → RowSoFar fields all rest i row → rest ≡ c ∷ later
    → (raw_cell_spelling c ≡ cell_spelling x) × FitsType f.dtype x → n ≡ i + 1 → made ≡ row ++ x ∷ [] → RowSoFar fields all later n made
one_more fields all rest later i n row made c x f lt at so e read next whole =
    let number : suc i ≡ n = omega (arith, next) in
    subst (λ (r : Row). RowSoFar fields all later n r) (sym whole)
    (subst (λ (m : ℕ). RowSoFar fields all later m (row ++ x ∷ [])) number (next_cell fields all rest later i row c x f lt at so e read))

-- a cell that may not stand in its column
pub no_cell : (fields : List Field) (all rest later : List RawCell) (i : ℕ) (row : Row) (c : RawCell) (f : Field) → i < length fields → f ≡ get_or fields i f → RowSoFar fields all rest i row → rest ≡ c ∷ later
    → is_cell f.dtype (raw_cell_spelling c) ≡ false → are_cells fields all ≡ false
no_cell fields all rest later i row c f lt at so e none =
    let front : drop i fields ≡ f ∷ drop (suc i) fields = drop-cons fields i f lt ∙ ap (λ (y : Field). y ∷ drop (suc i) fields) (sym at) in
    so.refused (ap₂ are_cells front e ∙ ap (λ (b : Bool). b && are_cells (drop (suc i) fields) later) none)

-- a column without a cell
pub too_few : (fields : List Field) (all rest : List RawCell) (i : ℕ) (row : Row) (f : Field) → i < length fields → RowSoFar fields all rest i row → rest ≡ [] → are_cells fields all ≡ false
too_few fields all rest i row f lt so e = so.refused (ap₂ are_cells (drop-cons fields i f lt) e)

past : (fields : List Field) (i : ℕ) → length fields ≤ i → drop i fields ≡ []
past [] zero h = refl
past [] (suc i) h = refl
past (f ∷ fields) zero h = absurd (omega (arith, h))
past (f ∷ fields) (suc i) h = past fields i (omega (arith, h))

-- a cell without a column
pub too_many : (fields : List Field) (all rest later : List RawCell) (i : ℕ) (row : Row) (c : RawCell) → length fields ≤ i → RowSoFar fields all rest i row → rest ≡ c ∷ later → are_cells fields all ≡ false
too_many fields all rest later i row c far so e = so.refused (ap₂ are_cells (past fields i far) e)

-- at the end, all is read
pub row_read : (fields : List Field) (all rest : List RawCell) (i : ℕ) (row : Row) → length fields ≤ i → RowSoFar fields all rest i row → rest ≡ [] → IsRowOf fields all row
row_read fields all rest i row far so e = (
  so.spelled ∙ ap (λ (cs : List RawCell). map cell_spelling row ++ map raw_cell_spelling cs) e ∙ append-nil (map cell_spelling row),
  subst (λ (l : List Field). RowFits l row) (take_all i fields far) so.typed,
)

pub ruleset row_rules = (no_cell_yet, next_fits, no_cell, too_few, too_many, row_read)

-- ---- edits

pub edit_typed : (left right : List Field) (raw : RawEdit) (edit : RowEdit) → edit.side ≡ raw.side → edit.kind ≡ raw.kind → IsRowOf (columns_on raw.side left right) raw.cells edit.row → IsEditOf left right raw edit
edit_typed left right raw edit side kind read =
    let same : raw_edit_spelling raw ≡ edit_spelling edit = ap (λ (ds : List Data). array (item (string (side_name raw.side)) (item (string (kind_name raw.kind)) (item (array (items_of ds)) no_items)))) read.0
    ∙ ap₂ (λ s k. array (item (string (side_name s)) (item (string (kind_name k)) (item (array (items_of (map cell_spelling edit.row))) no_items)))) (sym side) (sym kind) in
    (same, subst (λ s. RowFits (columns_on s left right) edit.row) (sym side) read.1)

-- the first edits are typed, and where a later one can't be, the whole can't
pub record EditsSoFar (left right : List Field) (all rest : List RawEdit) (edits : List RowEdit) : Type 0 where
  pub spelled : map raw_edit_spelling all ≡ map edit_spelling edits ++ map raw_edit_spelling rest
  pub typed : AllByRecursion (EditFits left right) edits
  pub fitting : AllByRecursion RawEditFits rest
  pub refused : are_edits left right rest ≡ false → are_edits left right all ≡ false

fit_one_more : {A : Type 0} (Fits : A → Type 0) (items : List A) (x : A) → AllByRecursion Fits items → Fits x → AllByRecursion Fits (items ++ x ∷ [])
fit_one_more Fits [] x h f = (f, h)
fit_one_more Fits (y ∷ items) x h f = (h.0, fit_one_more Fits items x h.1 f)

pub no_edit_yet : (left right : List Field) (all : List RawEdit) → AllByRecursion RawEditFits all → EditsSoFar left right all all []
no_edit_yet left right all fits = record { spelled = refl; typed = tt; fitting = fits; refused = λ h. h }

pub next_edit_fits : (left right : List Field) (all rest later : List RawEdit) (edits : List RowEdit) (raw : RawEdit) → EditsSoFar left right all rest edits → rest ≡ raw ∷ later → RawEditFits raw
next_edit_fits left right all rest later edits raw so e =
    let both = subst (λ (rs : List RawEdit). AllByRecursion RawEditFits rs) e so.fitting in
    both.0

pub next_edit : (left right : List Field) (all rest later : List RawEdit) (edits : List RowEdit) (raw : RawEdit) (edit : RowEdit) → EditsSoFar left right all rest edits → rest ≡ raw ∷ later → IsEditOf left right raw edit → EditsSoFar left right all later (edits ++ edit ∷ [])
next_edit left right all rest later edits raw edit so e read =
    let both = subst (λ (rs : List RawEdit). AllByRecursion RawEditFits rs) e so.fitting in
    record {
      spelled = so.spelled ∙ ap (λ (rs : List RawEdit). map edit_spelling edits ++ map raw_edit_spelling rs) e
          ∙ ap (λ (d : Data). map edit_spelling edits ++ d ∷ map raw_edit_spelling later) read.0
          ∙ sym (append_assoc (map edit_spelling edits) (edit_spelling edit ∷ []) (map raw_edit_spelling later))
          ∙ ap (λ (ds : List Data). ds ++ map raw_edit_spelling later) (sym (map-append edit_spelling edits (edit ∷ [])));
      typed = fit_one_more (EditFits left right) edits edit so.typed read.1;
      fitting = both.1;
      refused = λ none. so.refused (ap (are_edits left right) e ∙ and_right (is_edit left right raw) (are_edits left right later) none);
    }

pub no_edit : (left right : List Field) (all rest later : List RawEdit) (edits : List RowEdit) (raw : RawEdit) → EditsSoFar left right all rest edits → rest ≡ raw ∷ later → is_edit left right raw ≡ false → are_edits left right all ≡ false
no_edit left right all rest later edits raw so e none = so.refused (ap (are_edits left right) e ∙ ap (λ (b : Bool). b && are_edits left right later) none)

pub edits_read : (left right : List Field) (all rest : List RawEdit) (edits : List RowEdit) → EditsSoFar left right all rest edits → rest ≡ [] → (map raw_edit_spelling all ≡ map edit_spelling edits) × AllByRecursion (EditFits left right) edits
edits_read left right all rest edits so e =
    (so.spelled ∙ ap (λ (rs : List RawEdit). map edit_spelling edits ++ map raw_edit_spelling rs) e ∙ append-nil (map edit_spelling edits), so.typed)

pub ruleset edits_rules = (no_edit_yet, next_edit_fits, next_edit, no_edit, edits_read)
