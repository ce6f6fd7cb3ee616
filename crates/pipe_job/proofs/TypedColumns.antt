-- A typed column that was read is a column of cells.
use Rattle.std.proofs.Common.{◌≡◌, ℕ, Bool, Result, List, [], ◌∷◌, map, Option, Some, None, refl, ap, ap₂, ◌∙◌, sym, subst}
use Rattle.std.specs.Prelude.{⊤}
use Rattle.std.specs.Result.{IsErrAnd}
use Rattle.std.specs.List.{AllByRecursion}
use Rattle.hex.specs.Hex.{IsBytes}
use Rattle.serde_json.specs.Data.{Data, Items, item, array, string}
use Rattle.serde_json.specs.View.{items_of}
use Rattle.pipe_schema.specs.declared.any_value.AnyValue.{AnyValue}
use Rattle.pipe_schema.specs.declared.any_value.AnyValue.TheVariants as cell
use Rattle.pipe_schema.specs.declared.data_type.DataType.{DataType}
use Rattle.pipe_schema.specs.declared.data_type.DataType.TheVariants as dtype
use Rattle.pipe_schema.specs.Cell.{string_cell, binary_cell}
use Rattle.pipe_column.specs.Series.{Cells, named_cells}
use Rattle.pipe_job.specs.Spelling.{list, maybe, MaybeFits, hex_spelling, cell_spelling, FitsType}
use Rattle.pipe_job.specs.FrameSpelling.{IsColumn}
use Rattle.pipe_job.specs.Reads.{ReadWhere}
use Rattle.pipe_job.specs.Shape.{is_list, is_maybe, is_value, is_cell}
use Rattle.pipe_job.specs.declared.misread.Misread.{Misread}
use Rattle.pipe_job.proofs.Shapes.{Refuses, passed_on}

-- ---- nullable values and their cells

spelled_cell : {T : Type 0} (f : Option T → AnyValue) (spell : T → Data) → f None ≡ cell.Null → ((x : T) → spell x ≡ cell_spelling (f (Some x))) → (x : Option T) → maybe spell x ≡ cell_spelling (f x)
spelled_cell f spell missing same None = sym (ap cell_spelling missing)
spelled_cell f spell missing same (Some x) = same x

fitting_cell : {T : Type 0} (f : Option T → AnyValue) (Fits : T → Type 0) (t : DataType) → f None ≡ cell.Null → ((x : T) → Fits x → FitsType t (f (Some x))) → (x : Option T) → MaybeFits Fits x → FitsType t (f x)
fitting_cell f Fits t missing each None h = subst (FitsType t) (sym missing) tt
fitting_cell f Fits t missing each (Some x) h = each x h

-- ---- columns

items_typed : {A : Type 0} (f : A → AnyValue) (spell : A → Data) → ((x : A) → spell x ≡ cell_spelling (f x)) → (xs : List A) → items_of (map spell xs) ≡ items_of (map cell_spelling (map f xs))
items_typed f spell same [] = refl
items_typed f spell same (x ∷ xs) = ap₂ (λ (d : Data) (ds : Items). item d ds) (same x) (items_typed f spell same xs)

fits_typed : {A : Type 0} (f : A → AnyValue) (Fits : A → Type 0) (t : DataType) → ((x : A) → Fits x → FitsType t (f x)) → (xs : List A) → AllByRecursion Fits xs → AllByRecursion (FitsType t) (map f xs)
fits_typed f Fits t each [] h = h
fits_typed f Fits t each (x ∷ xs) h = (each x h.0, fits_typed f Fits t each xs h.1)

-- the column of some nullable values, as read
pub typed_native : {T : Type 0} (f : Option T → AnyValue) (spell : T → Data) (Fits : T → Type 0) (t : DataType) → f None ≡ cell.Null → ((x : T) → spell x ≡ cell_spelling (f (Some x))) → ((x : T) → Fits x → FitsType t (f (Some x)))
    → (name : List ℕ) (v : Data) (column : List (Option T)) (c : Cells) → c ≡ named_cells name t (map f column) → v ≡ list (maybe spell) column → AllByRecursion (MaybeFits Fits) column → IsColumn name t v c
typed_native f spell Fits t missing same each name v column c made e h =
    let cells : c.cells ≡ map f column = ap (λ (k : Cells). k.cells) made in
    let AllFit : List AnyValue → Type 0 = λ l. AllByRecursion (FitsType t) l in
    record {
      name_is = ap (λ (k : Cells). k.name) made;
      dtype_is = ap (λ (k : Cells). k.dtype) made;
      spelled = e ∙ ap array (items_typed f (maybe spell) (spelled_cell f spell missing same) column) ∙ ap (list cell_spelling) (sym cells);
      fits = subst AllFit (sym cells) (fits_typed f (MaybeFits Fits) t (fitting_cell f Fits t missing each) column h);
    }

-- what is no column of values is no column of cells
pub same_test : {Y : Type 0} (t : DataType) (shape : Data → Bool) → is_value t ≡ shape → (v : Data) (Q : Y → Type 0) (e : Misread) (r : Result Y Misread) → Refuses (is_list (is_maybe shape) v) e → IsErrAnd r (λ f. f ≡ e) → ReadWhere (is_list (is_cell t) v) Q r
same_test t shape same v Q e r h k =
    let here : is_list (is_cell t) v ≡ is_list (is_maybe shape) v = ap (λ (s : Data → Bool). is_list (is_maybe s) v) same in
    passed_on (is_list (is_cell t) v) (is_list (is_maybe shape) v) Q e r h k (λ fails. here ∙ fails)

-- the same at a type that is told
at_type : (name : List ℕ) (t u : DataType) (v : Data) (c : Cells) → u ≡ t → IsColumn name t v c → IsColumn name u v c
at_type name t u v c e h = subst (λ (w : DataType). IsColumn name w v c) (sym e) h

all_fit : (xs : List (Option (List ℕ))) → AllByRecursion (MaybeFits (λ _. ⊤)) xs
all_fit [] = tt
all_fit (None ∷ xs) = (tt, all_fit xs)
all_fit (Some x ∷ xs) = (tt, all_fit xs)

pub typed_string : (name : List ℕ) (u : DataType) (v : Data) (column : List (Option (List ℕ))) (c : Cells) → u ≡ dtype.String → c ≡ named_cells name dtype.String (map string_cell column) → v ≡ list (maybe string) column → IsColumn name u v c
typed_string name u v column c type made e =
    at_type name dtype.String u v c type (typed_native string_cell string (λ _. ⊤) dtype.String refl (λ x. refl) (λ x h. refl) name v column c made e (all_fit column))

pub typed_binary : (name : List ℕ) (u : DataType) (v : Data) (column : List (Option (List ℕ))) (c : Cells) → u ≡ dtype.Binary → c ≡ named_cells name dtype.Binary (map binary_cell column) → v ≡ list (maybe hex_spelling) column → AllByRecursion (MaybeFits IsBytes) column → IsColumn name u v c
typed_binary name u v column c type made e h =
    at_type name dtype.Binary u v c type (typed_native binary_cell hex_spelling IsBytes dtype.Binary refl (λ x. refl) (λ x k. (refl, k)) name v column c made e h)
