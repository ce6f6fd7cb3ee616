use Rattle.std.proofs.Common.{◌≡◌, ◌∙◌, ap, map, sym}
use Rattle.std.proofs.lemmas.List.{map-id}
use Rattle.pipe_schema.specs.Schema.{names_fault}
use Rattle.pipe_column.specs.Columns.{field_of}
use Rattle.pipe_frame.proofs.Selects.{good-selected, table_of-selected}
use Rattle.pipe_frame.proofs.data_frame.DataFrame.select.Goals as goal

pub of_checked-requires : goal.of_checked-requires
of_checked-requires c =
    let good = good-selected c.self.inside.columns.items c.self.inside.height c.self.inside.schema c.args.names.now c.self.invariant.0 (ap names_fault (sym (map-id c.args.names.now)) ∙ c.in_ok-check_names.ensures.ok) (c.in_ok-columns.ensures.known) c.self.invariant.2 (rw c.as_slice.ensures.value at c.in_ok-columns.ensures.ok) in
    rw (c.in_ok-fields.ensures, c.as_slice-2.ensures.value) good.0

pub invariant_of-result : goal.invariant_of-result
invariant_of-result c =
    let good = good-selected c.self.inside.columns.items c.self.inside.height c.self.inside.schema c.args.names.now c.self.invariant.0 (ap names_fault (sym (map-id c.args.names.now)) ∙ c.in_ok-check_names.ensures.ok) (c.in_ok-columns.ensures.known) c.self.invariant.2 (rw c.as_slice.ensures.value at c.in_ok-columns.ensures.ok) in
    let fields : c.in_ok-of_checked.field-0 ≡ map field_of c.in_ok-columns.columns.items = c.in_ok-of_checked.ensures ∙ c.in_ok-fields.ensures ∙ ap (map field_of) c.as_slice-2.ensures.value in
    (fields, rw fields good.0, good.1)

pub returns-clause-ok : goal.returns-clause-ok
returns-clause-ok c = table_of-selected c.self.inside.columns.items c.self.inside.height c.self.inside.schema c.args.names.now c.self.view_is c.self.invariant.0 (rw c.as_slice.ensures.value at c.in_ok-columns.ensures.ok)
