use Rattle.std.proofs.Common.{◌≡◌, ℕ, ◌-◌, ◌<◌, List, length, get_or, take, drop, false, subst, arith, add-one}
use Rattle.std.specs.Prelude.{Option}
use Rattle.std.proofs.lemmas.List.{take_all, length-drop}
use Rattle.std.proofs.Math.Seq.{drop-cons}
use Rattle.pipe_schema.specs.Rows.{Row}
use Rattle.pipe_schema.specs.declared.data_type.DataType.{DataType}
use Rattle.pipe_schema.specs.declared.data_type.DataType.TheVariants as dtype
use Rattle.pipe_rows.specs.declared.sort_field.SortField.{SortField}
use Rattle.pipe_rows.specs.declared.decode_value.Decoded.{Decoded}
use Rattle.pipe_rows.specs.Decoding.{FindsCell, TakesCell, StartsWithCell}
use Rattle.pipe_rows.proofs.RowLemmas.{no_cell, whole_after, taken_after, within_after, row_done, bytes_left}
use Rattle.pipe_rows.proofs.decode.decode_row.Goals as goal

-- the field that the code reads
abbrev field_at : List SortField → ℕ → SortField
field_at fields k = get_or fields k (record { descending = false; nulls_last = false })

abbrev dtype_at : List DataType → ℕ → DataType
dtype_at dtypes k = get_or dtypes k dtype.Int32

-- what is left of the bytes, as the code slices it
tail_is : (bytes : List ℕ) (at : ℕ) → take (length bytes - at) (drop at bytes) ≡ drop at bytes
tail_is bytes at = take_all (length bytes - at) (drop at bytes) (omega (arith, length-drop at bytes))

pub loop-k-preserved : goal.loop-k-preserved
loop-k-preserved c =
    let fields : List SortField = c.args.fields.now in
    let dtypes : List DataType = c.args.dtypes.now in
    let bytes : List ℕ = c.args.bytes.now in
    let k : ℕ = c.loop-k.k in
    let at : ℕ = c.loop-k.at in
    let items : Row = c.loop-k.row.items in
    let f : SortField = field_at fields k in
    let t : DataType = dtype_at dtypes k in
    let P : Option Decoded → Type 0 = λ found. FindsCell f t (take (length bytes - at) (drop at bytes)) found in
    let sliced = subst P c.in-Some.is c.in_ok-value.ensures in
    let value = c.in-Some.field-0.value in
    let used = c.in-Some.field-0.used in
    let Q : List ℕ → Type 0 = λ tail. TakesCell f t tail value used in
    let taken = subst Q (tail_is bytes at) sliced in
    let below : k < length dtypes = omega arith in
    let below_fields : k < length fields = (let long = c.requires in omega arith) in
    let df = drop-cons fields k (record { descending = false; nulls_last = false }) below_fields in
    let dt = drop-cons dtypes k dtype.Int32 below in
    record {
      within = within_after fields dtypes bytes items k at f t df dt c.loop-k.invariant.whole value used taken c.loop-k.invariant.within;
      taken = rw (c.in_ok-push.ensures.items, add-one) (taken_after fields dtypes bytes items k at f t df dt c.loop-k.invariant.whole value used taken c.loop-k.invariant.taken);
      whole = rw add-one (whole_after fields dtypes bytes items k at f t df dt c.loop-k.invariant.whole value used taken);
    }

pub returns-in_default : goal.returns-in_default
returns-in_default c =
    let fields : List SortField = c.args.fields.now in
    let dtypes : List DataType = c.args.dtypes.now in
    let bytes : List ℕ = c.args.bytes.now in
    let k : ℕ = c.loop-k.k in
    let at : ℕ = c.loop-k.at in
    let f : SortField = field_at fields k in
    let t : DataType = dtype_at dtypes k in
    let P : Option Decoded → Type 0 = λ found. FindsCell f t (take (length bytes - at) (drop at bytes)) found in
    let sliced = subst P c.in_default.is c.in_ok-value.ensures in
    let Q : List ℕ → Type 0 = λ tail. StartsWithCell f t tail → ⊥ in
    let none = subst Q (tail_is bytes at) sliced in
    let below : k < length dtypes = omega arith in
    let below_fields : k < length fields = (let long = c.requires in omega arith) in
    no_cell fields dtypes bytes c.loop-k.row.items k at f t (drop-cons fields k (record { descending = false; nulls_last = false }) below_fields) (drop-cons dtypes k dtype.Int32 below) c.loop-k.invariant.whole none

pub returns-then-at-bytes : goal.returns-then-at-bytes
returns-then-at-bytes c =
    row_done c.args.fields.now c.args.dtypes.now c.args.bytes.now c.loop-k.row.items c.loop-k.k c.loop-k.at (let long = c.requires in omega arith) (omega arith) (omega arith) c.loop-k.invariant.taken

pub returns-else-at-bytes : goal.returns-else-at-bytes
returns-else-at-bytes c =
    bytes_left c.args.fields.now c.args.dtypes.now c.args.bytes.now c.loop-k.k c.loop-k.at (let long = c.requires in omega arith) (let within = c.loop-k.invariant.within in let unequal = c.if-at-bytes.false in omega arith) c.loop-k.invariant.whole
