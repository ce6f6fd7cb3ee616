-- The size of a frame of one column, and a stacker that goes on holding frames of numbers.
use Rattle.std.proofs.Common.{◌≡◌, ℕ, Bool, true, false, cond, Option, Some, None, List, [], ◌∷◌, ◌*◌, ◌/◌, length, map, refl, sym, ap, ◌∙◌, arith}
use Rattle.std.proofs.lemmas.Bool.Decides.{nat_tests}
use Rattle.std.specs.Prelude.{nat_lt, IfSome, IfOk, OnOk, Result, Ok, Err, sum_by}
use Rattle.pipe_column.specs.Native.{has_fixed_width}
use Rattle.pipe_column.specs.Series.{Cells, named_cells}
use Rattle.pipe_schema.specs.declared.any_value.AnyValue.{AnyValue}
use Rattle.pipe_schema.specs.declared.any_value.AnyValue.TheVariants as cell
use Rattle.pipe_schema.specs.declared.data_type.DataType.{DataType}
use Rattle.pipe_schema.specs.declared.data_type.DataType.TheVariants as dtype
use Rattle.pipe_schema.specs.declared.error.FrameError.{FrameError}
use Rattle.pipe_column.specs.Columns.{field_of, column_rows, AllOfHeight}
use Rattle.pipe_frame.specs.Frame.{Table, table_of}
use Rattle.pipe_schema.specs.Sizes.{width_of, length_of}
use Rattle.pipe_column.specs.Sizes.{column_size}
use Rattle.pipe_frame.specs.Sizes.{frame_size}
use Rattle.pipe_frame.specs.Stacker.{Holding, stacked_on, joined, still_held}
use Rattle.pipe_schema.proofs.Weights.{total-sum_by}
use Rattle.pipe_column.proofs.Sizes.{sized}
use Rattle.pipe_frame.proofs.Sizes.{size-columns}
use Rattle.worked_frames.specs.Numbers.{one_field, HoldsNumbers}

-- ---- what a stacker holds

stacked_on-schema : (held : Option Table) (next : Table) → IfSome held (λ table. table.schema ≡ one_field dtype.UInt64) → next.schema ≡ one_field dtype.UInt64 → (stacked_on held next).schema ≡ one_field dtype.UInt64
stacked_on-schema (Some table) next h e = h
stacked_on-schema None next h e = e

joined-schema : (b : Bool) (held : Option Table) (next : Table) → IfSome held (λ table. table.schema ≡ one_field dtype.UInt64) → next.schema ≡ one_field dtype.UInt64 → (stacked_on (cond b None held) next).schema ≡ one_field dtype.UInt64
joined-schema true held next h e = e
joined-schema false held next h e = stacked_on-schema held next h e

pub holds-more : (stacker : Holding) (next : Table) → HoldsNumbers stacker → next.schema ≡ one_field dtype.UInt64 → HoldsNumbers (record stacker { held = still_held stacker next })
holds-more stacker next h e =
    let fields = joined-schema (nat_lt (stacker.limit / 4) (frame_size next)) stacker.held next h.schema e in
    let split : (b : Bool) → nat_lt stacker.limit (frame_size (joined stacker next)) ≡ b → HoldsNumbers (record stacker { held = cond b None (Some (joined stacker next)) }) = elim [
      | true ↦ λ big. record { schema = tt; within = omega arith; small = h.small }
      | false ↦ λ fits. record { schema = fields; within = grind (arith, nat_tests); small = h.small }
    ] in split (nat_lt stacker.limit (frame_size (joined stacker next))) refl

-- ---- sizes

fixed_no_length : (c : AnyValue) → has_fixed_width c ≡ true → length_of c ≡ 0
fixed_no_length cell.Null h = refl
fixed_no_length (cell.Int32 x) h = refl
fixed_no_length (cell.Int64 x) h = refl
fixed_no_length (cell.UInt32 x) h = refl
fixed_no_length (cell.UInt64 x) h = refl
fixed_no_length (cell.Boolean x) h = refl
fixed_no_length (cell.String x) h = cc
fixed_no_length (cell.Binary x) h = cc
fixed_no_length (cell.Int128 x) h = refl

pub no_length : {T : Type 0} (f : Option T → AnyValue) → f None ≡ cell.Null → ((x : T) → has_fixed_width (f (Some x)) ≡ true) → (x : Option T) → length_of (f x) ≡ 0
no_length f missing fixed (Some x) = fixed_no_length (f (Some x)) (fixed x)
no_length f missing fixed None = ap length_of missing

-- the size of a frame of one column
pub size-one : (made : Result Table FrameError) (columns : List Cells) (height : ℕ) (column : Cells) (size : ℕ) → IfOk made (λ frame. frame.schema ≡ map field_of columns) → IfOk made (λ frame. frame.rows ≡ column_rows columns height) → OnOk made (AllOfHeight height columns) → columns ≡ column ∷ [] → column_size column ≡ size → IfOk made (λ frame. frame_size frame ≡ size)
size-one (Err e) columns height column size s r even is sum = tt
size-one (Ok frame) columns height column size s r even is sum =
    let seen : table_of columns height ≡ frame = sym (ap (λ f. record { schema = f; rows = frame.rows }) s ∙ ap (λ l. record { schema = map field_of columns; rows = l }) r) in
    let whole : sum_by column_size (column ∷ []) ≡ column_size column = sym (total-sum_by column_size (column ∷ [])) ∙ omega arith in
    size-columns columns height seen even ∙ ap (sum_by column_size) is ∙ whole ∙ sum

pub size-fixed : {T : Type 0} (name : List ℕ) (d : DataType) (f : Option T → AnyValue) (column : List (Option T)) (rows : ℕ) → f None ≡ cell.Null → ((x : T) → has_fixed_width (f (Some x)) ≡ true) → length column ≡ rows → column_size (named_cells name d (map f column)) ≡ width_of d * rows
size-fixed name d f column rows missing fixed long = sized d f column (no_length f missing fixed) ∙ ap (λ n. width_of d * n) long
