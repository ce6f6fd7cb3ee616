use Rattle.std.proofs.Common.{◌≡◌, ◌+◌, length, map, ◌++◌, ap, ◌∙◌, arith}
use Rattle.pipe_value.specs.Columns.{columns_data}
use Rattle.pipe_value.specs.View.{view}
use Rattle.pipe_value.proofs.Views.{view-Array, view-Packed}
use Rattle.pipe_value.proofs.Places.{array_of, counted, counted_both}
use Rattle.pipe_value.proofs.value.Value.array_len.Goals as goal

pub returns-in-Array : goal.returns-in-Array
returns-in-Array c =
    array_of (view c.args.self.now) (map view c.in-Array.values.items) c.len.result (ap view c.in-Array.is ∙ view-Array c.in-Array.values) (c.len.ensures ∙ c.in-Array.values.ok.0 ∙ counted c.in-Array.values.items)

pub returns-in-Some-checked_add : goal.returns-in-Some-checked_add
returns-in-Some-checked_add c =
    let columns = columns_data c.in-Packed.columns.value in
    let values = c.in-Packed.values.items in
    let packed : c.in-Some.packed ≡ length columns = rw c.deref.ensures at c.in-Some.ensures in
    let both : c.in-Some-checked_add.count ≡ c.in-Some.packed + c.len-in-Packed-2.result = c.in-Some-checked_add.ensures.1 in
    let further : c.len-in-Packed-2.result ≡ length values = c.len-in-Packed-2.ensures ∙ c.in-Packed.values.ok.0 in
    array_of (view c.args.self.now) (columns ++ map view values) _ (ap view c.in-Packed.is ∙ view-Packed c.in-Packed.columns c.in-Packed.values) (omega (arith, both, packed, further, counted_both columns values))
