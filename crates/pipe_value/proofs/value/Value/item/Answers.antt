use Rattle.std.proofs.Common.{List, get_or, map, ◌++◌, sym, ap, ◌∙◌, arith}
use Rattle.serde_json.specs.Data.{Data, null}
use Rattle.pipe_value.specs.Columns.{columns_data}
use Rattle.pipe_value.specs.Items.{IsFound}
use Rattle.pipe_value.specs.View.{view}
use Rattle.pipe_value.proofs.Views.{view-Array, view-Packed}
use Rattle.pipe_value.proofs.Places.{elements_of, at_value, at_front, at_back, found_here, found_past, within_values, within_further}
use Rattle.pipe_value.proofs.value.Value.item.Goals as goal

pub index-requires : goal.index-requires
index-requires c =
    let same = elements_of (view c.args.self.now) (map view c.in-Array.values.items) (ap view c.in-Array.is ∙ view-Array c.in-Array.values) in
    let lt = within_values (view c.args.self.now) c.in-Array.values.items c.args.i same c.requires in
    omega (arith, lt, c.in-Array.values.ok.0)

pub index-requires-in-Past : goal.index-requires-in-Past
index-requires-in-Past c =
    let columns = columns_data c.in-Packed.columns.value in
    let same = elements_of (view c.args.self.now) (columns ++ map view c.in-Packed.values.items) (ap view c.in-Packed.is ∙ view-Packed c.in-Packed.columns c.in-Packed.values) in
    let found : IsFound columns c.args.i c.in_ok-value-in-Packed.field-0 = rw c.deref.ensures at c.in_ok-value-in-Packed.ensures in
    let lt = within_further (view c.args.self.now) columns c.in-Packed.values.items c.args.i c.in-Past.further same c.requires (found_past columns c.args.i _ c.in-Past.further c.in-Past.is found) in
    omega (arith, lt, c.in-Packed.values.ok.0)

pub returns-in-Array : goal.returns-in-Array
returns-in-Array c =
    let same = elements_of (view c.args.self.now) (map view c.in-Array.values.items) (ap view c.in-Array.is ∙ view-Array c.in-Array.values) in
    ap view c.index.ensures ∙ at_value c.in-Array.values.items c.args.i c.index.result.now (within_values (view c.args.self.now) c.in-Array.values.items c.args.i same c.requires)
    ∙ ap (λ (ds : List Data). get_or ds c.args.i null) (sym same)

pub returns-in-Here : goal.returns-in-Here
returns-in-Here c =
    let columns = columns_data c.in-Packed.columns.value in
    let further = map view c.in-Packed.values.items in
    let same = elements_of (view c.args.self.now) (columns ++ further) (ap view c.in-Packed.is ∙ view-Packed c.in-Packed.columns c.in-Packed.values) in
    let found : IsFound columns c.args.i c.in_ok-value-in-Packed.field-0 = rw c.deref.ensures at c.in_ok-value-in-Packed.ensures in
    let here = found_here columns c.args.i _ c.in-Here.value c.in-Here.is found in
    here.1 ∙ at_front columns further c.args.i here.0 ∙ ap (λ (ds : List Data). get_or ds c.args.i null) (sym same)

pub returns-in-Past : goal.returns-in-Past
returns-in-Past c =
    let columns = columns_data c.in-Packed.columns.value in
    let values = c.in-Packed.values.items in
    let k = c.in-Past.further in
    let same = elements_of (view c.args.self.now) (columns ++ map view values) (ap view c.in-Packed.is ∙ view-Packed c.in-Packed.columns c.in-Packed.values) in
    let found : IsFound columns c.args.i c.in_ok-value-in-Packed.field-0 = rw c.deref.ensures at c.in_ok-value-in-Packed.ensures in
    let place = found_past columns c.args.i _ k c.in-Past.is found in
    ap view c.index-in-Past.ensures ∙ at_value values k c.index-in-Past.result.now (within_further (view c.args.self.now) columns values c.args.i k same c.requires place)
    ∙ at_back columns (map view values) k ∙ ap (λ i. get_or (columns ++ map view values) i null) (sym place) ∙ ap (λ (ds : List Data). get_or ds c.args.i null) (sym same)
