-- Columns of chunks that are taken one after another.
use Rattle.std.proofs.Common.{◌≡◌, ℕ, ◌+◌, ◌<◌, List, [], ◌∷◌, ◌++◌, Some, length, map, drop, refl, ap, sym, subst, ◌∙◌, arith}
use Rattle.std.specs.Prelude.{All}
use Rattle.std.specs.List.{slice_get, flat_map}
use Rattle.std.proofs.lemmas.List.{map-append, append-nil, append_assoc, at_drop_more}
use Rattle.std.proofs.lemmas.List.Elements.{All-nil, All-cons, All-tail}
use Rattle.std.proofs.lemmas.Option.{slice_get_within}
use Rattle.pipe_frame.specs.Chunks.{chunk_rows, HasSchema}
use Rattle.pipe_frame.specs.Frame.{Table, cell_of_row, column_of, columns_of}
use Rattle.pipe_frame.specs.Queues.{first_cells, others, BeginsWith, chunk_columns, columns_left, with_cells}
use Rattle.pipe_column.specs.Series.{Cells, named_cells}
use Rattle.pipe_schema.specs.declared.any_value.AnyValue.{AnyValue}
use Rattle.pipe_frame.specs.declared.chunk.DataChunk.{DataChunk}
use Rattle.pipe_schema.specs.declared.data_type.DataType.{DataType}
use Rattle.pipe_schema.specs.declared.field.Field.{Field}
use Rattle.pipe_frame.proofs.Stacks.{column_at-field, length-columns_of}

pub no_items : {X : Type 0} (xs : List X) → length xs ≡ 0 → xs ≡ []
no_items [] e = refl
no_items (x ∷ xs) e = absurd (omega (arith, e))

-- ---- one queue

pub first_fits : (dtype : DataType) (queue rest : List Cells) (first : Cells) → BeginsWith dtype queue → queue ≡ first ∷ rest → dtype ≡ first.dtype
first_fits dtype queue rest first h e = subst (BeginsWith dtype) e h

-- ---- the first columns of queues

-- those that are taken so far, and those that are left
pub record AreAppended (before column : Cells) (queues rest left : List (List Cells)) : Type 0 where
  pub cells : column.cells ++ flat_map first_cells rest ≡ before.cells ++ flat_map first_cells queues
  pub name : column.name ≡ before.name
  pub dtype : column.dtype ≡ before.dtype
  pub left_are : left ++ map others rest ≡ map others queues
  pub begin : All (BeginsWith before.dtype) rest

pub appended_begins : (before : Cells) (queues left : List (List Cells)) → left ≡ [] → All (BeginsWith before.dtype) queues → AreAppended before before queues queues left
appended_begins before queues left none h = record {
  cells = refl;
  name = refl;
  dtype = refl;
  left_are = ap (λ l. l ++ map others queues) none;
  begin = h;
}

-- the next one fits
pub appended_fits : (before column : Cells) (queues rest rest' left : List (List Cells)) (queue : List Cells) → AreAppended before column queues rest left → rest ≡ queue ∷ rest' → BeginsWith column.dtype queue
appended_fits before column queues rest rest' left queue known step =
    subst (λ d. BeginsWith d queue) (sym known.dtype) ((subst (All (BeginsWith before.dtype)) step known.begin) 0 queue (omega arith))

pub appended_goes_on : (before column now : Cells) (queues rest rest' left left' : List (List Cells)) (queue more : List Cells) → AreAppended before column queues rest left → rest ≡ queue ∷ rest' → now ≡ with_cells column (first_cells queue) → more ≡ others queue → left' ≡ left ++ (more ∷ []) → AreAppended before now queues rest' left'
appended_goes_on before column now queues rest rest' left left' queue more known step put is push =
    let behind = flat_map first_cells rest' in
    record {
      cells = ap (λ (c : Cells). c.cells ++ behind) put ∙ append_assoc column.cells (first_cells queue) behind ∙ ap (λ l. column.cells ++ flat_map first_cells l) (sym step) ∙ known.cells;
      name = ap (λ (c : Cells). c.name) put ∙ known.name;
      dtype = ap (λ (c : Cells). c.dtype) put ∙ known.dtype;
      left_are = ap (λ l. l ++ map others rest') (push ∙ ap (λ m. left ++ (m ∷ [])) is) ∙ append_assoc left (others queue ∷ []) (map others rest') ∙ ap (λ l. left ++ map others l) (sym step) ∙ known.left_are;
      begin = All-tail (BeginsWith before.dtype) queue rest' (subst (All (BeginsWith before.dtype)) step known.begin);
    }

pub appended_cells : (before column : Cells) (queues rest left : List (List Cells)) → AreAppended before column queues rest left → rest ≡ [] → column ≡ with_cells before (flat_map first_cells queues)
appended_cells before column queues rest left known none =
    let cells : column.cells ≡ before.cells ++ flat_map first_cells queues = sym (append-nil column.cells) ∙ sym (ap (λ l. column.cells ++ flat_map first_cells l) none) ∙ known.cells in
    ap (λ n. record { name = n; dtype = column.dtype; cells = column.cells }) known.name
    ∙ ap (λ d. record { name = before.name; dtype = d; cells = column.cells }) known.dtype
    ∙ ap (λ l. record { name = before.name; dtype = before.dtype; cells = l }) cells

pub appended_left : (before column : Cells) (queues rest left : List (List Cells)) → AreAppended before column queues rest left → rest ≡ [] → left ≡ map others queues
appended_left before column queues rest left known none = sym (append-nil left) ∙ sym (ap (λ l. left ++ map others l) none) ∙ known.left_are

-- a column that had no cell
pub filled_column : (name : List ℕ) (dtype : DataType) (given : List ℕ) (column now : Cells) (more : List AnyValue) → given ≡ name → column ≡ record { name = given; dtype = dtype; cells = [] } → now ≡ with_cells column more → now ≡ named_cells name dtype more
filled_column name dtype given column now more e c n = n ∙ ap (λ (q : Cells). with_cells q more) (c ∙ ap (λ m. record { name = m; dtype = dtype; cells = [] }) e)

-- ---- the columns of chunks

-- chunks whose columns are queued so far, and those that are left
pub queued_goes_on : (chunks rest rest' : List DataChunk) (chunk : DataChunk) (queues queues' : List (List Cells)) (queue : List Cells) → queues ++ map chunk_columns rest ≡ map chunk_columns chunks → rest ≡ chunk ∷ rest' → queue ≡ chunk_columns chunk → queues' ≡ queues ++ (queue ∷ []) → queues' ++ map chunk_columns rest' ≡ map chunk_columns chunks
queued_goes_on chunks rest rest' chunk queues queues' queue known step is push =
    ap (λ l. l ++ map chunk_columns rest') (push ∙ ap (λ q. queues ++ (q ∷ [])) is) ∙ append_assoc queues (chunk_columns chunk ∷ []) (map chunk_columns rest') ∙ ap (λ l. queues ++ map chunk_columns l) (sym step) ∙ known

pub queued_ends : (chunks rest : List DataChunk) (queues : List (List Cells)) → queues ++ map chunk_columns rest ≡ map chunk_columns chunks → rest ≡ [] → queues ≡ map chunk_columns chunks
queued_ends chunks rest queues known none = sym (append-nil queues) ∙ sym (ap (λ l. queues ++ map chunk_columns l) none) ∙ known

module _ (schema : List Field) (k : ℕ) (field : Field) (is : slice_get schema k ≡ Some field) where
  -- the next column is that of the field
  split : (chunk : DataChunk) → HasSchema schema chunk → columns_left k chunk ≡ column_of chunk.frame.rows k field ∷ columns_left (k + 1) chunk
  split chunk same =
      let here : slice_get chunk.frame.schema k ≡ Some field = ap (λ s. slice_get s k) same ∙ is in
      let d : Cells = column_of chunk.frame.rows k field in
      let lt : k < length (columns_of chunk.frame) = omega (arith, slice_get_within chunk.frame.schema k field here, length-columns_of chunk.frame) in
      at_drop_more (λ l. l) (columns_of chunk.frame) k d lt ∙ ap (λ c. c ∷ drop (k + 1) (columns_of chunk.frame)) (column_at-field chunk.frame k field d here)

  begin_with : (chunks : List DataChunk) → All (HasSchema schema) chunks → All (BeginsWith field.dtype) (map (columns_left k) chunks)
  begin_with [] h = All-nil (BeginsWith field.dtype)
  begin_with (chunk ∷ chunks) h =
      All-cons (BeginsWith field.dtype) (columns_left k chunk) (map (columns_left k) chunks) (subst (BeginsWith field.dtype) (sym (split chunk (h 0 chunk (omega arith)))) refl) (begin_with chunks (All-tail (HasSchema schema) chunk chunks h))

  firsts_are : (chunks : List DataChunk) → All (HasSchema schema) chunks → flat_map first_cells (map (columns_left k) chunks) ≡ map (cell_of_row k) (flat_map chunk_rows chunks)
  firsts_are [] h = refl
  firsts_are (chunk ∷ chunks) h =
      ap (λ l. l ++ flat_map first_cells (map (columns_left k) chunks)) (ap first_cells (split chunk (h 0 chunk (omega arith))))
      ∙ ap (λ l. map (cell_of_row k) chunk.frame.rows ++ l) (firsts_are chunks (All-tail (HasSchema schema) chunk chunks h))
      ∙ sym (map-append (cell_of_row k) chunk.frame.rows (flat_map chunk_rows chunks))

  others_are : (chunks : List DataChunk) → All (HasSchema schema) chunks → map others (map (columns_left k) chunks) ≡ map (columns_left (k + 1)) chunks
  others_are [] h = refl
  others_are (chunk ∷ chunks) h =
      ap (λ l. l ∷ map others (map (columns_left k) chunks)) (ap others (split chunk (h 0 chunk (omega arith))))
      ∙ ap (λ l. columns_left (k + 1) chunk ∷ l) (others_are chunks (All-tail (HasSchema schema) chunk chunks h))

  -- what is asked of queues for it, what it has, and what is left
  pub queues_begin : (chunks : List DataChunk) (queues : List (List Cells)) → All (HasSchema schema) chunks → queues ≡ map (columns_left k) chunks → All (BeginsWith field.dtype) queues
  queues_begin chunks queues h e = subst (All (BeginsWith field.dtype)) (sym e) (begin_with chunks h)

  pub column_is : (chunks : List DataChunk) (queues : List (List Cells)) (column : Cells) → All (HasSchema schema) chunks → queues ≡ map (columns_left k) chunks → column ≡ named_cells field.name field.dtype (flat_map first_cells queues) → column ≡ column_of (flat_map chunk_rows chunks) k field
  column_is chunks queues column h e c = c ∙ ap (named_cells field.name field.dtype) (ap (flat_map first_cells) e ∙ firsts_are chunks h)

  pub queues_left : (chunks : List DataChunk) (queues left : List (List Cells)) → All (HasSchema schema) chunks → queues ≡ map (columns_left k) chunks → left ≡ map others queues → left ≡ map (columns_left (k + 1)) chunks
  queues_left chunks queues left h e l = l ∙ ap (map others) e ∙ others_are chunks h
