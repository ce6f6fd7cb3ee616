use Rattle.std.proofs.Common.{◌≡◌, ◌∙◌, ap, length, drop, arith}
use Rattle.std.proofs.lemmas.List.{take_at}
use Rattle.pipe_column.specs.Columns.{stacked_front, height_of}
use Rattle.pipe_frame.proofs.RowOps.{good-stacked, table-stacked}
use Rattle.pipe_frame.proofs.data_frame.DataFrame.vstack_mut.Goals as goal

pub invariant_of-self-2 : goal.invariant_of-self-2
invariant_of-self-2 c =
    let long : length c.append_columns.new.columns ≡ c.self.inside.columns.len = omega (arith, c.append_columns.auto.columns, c.as_mut_slice.ensures.len) in
    let made : c.append_columns.new.columns ≡ stacked_front (length c.self.inside.columns.items) c.self.inside.columns.items c.other.inside.columns.items = rw (c.as_mut_slice.ensures.value, c.as_slice.ensures.value) at c.in_ok-append_columns.ensures.ok in
    let items = take_at c.append_columns.new.columns (drop (length c.append_columns.new.columns) c.self.inside.columns.items) c.self.inside.columns.len long ∙ made in
    good-stacked c.self.inside.columns.items c.other.inside.columns.items c.self.inside.height c.other.inside.height c.first_height-self-inside.result c.self.view_is c.other.view_is c.requires c.self.invariant.0 c.self.invariant.1 c.self.invariant.2 c.other.invariant.2 items (c.first_height-self-inside.ensures ∙ ap height_of c.as_slice-2.ensures.value)

pub returns-clause-ok : goal.returns-clause-ok
returns-clause-ok c =
    let long : length c.append_columns.new.columns ≡ c.self.inside.columns.len = omega (arith, c.append_columns.auto.columns, c.as_mut_slice.ensures.len) in
    let made : c.append_columns.new.columns ≡ stacked_front (length c.self.inside.columns.items) c.self.inside.columns.items c.other.inside.columns.items = rw (c.as_mut_slice.ensures.value, c.as_slice.ensures.value) at c.in_ok-append_columns.ensures.ok in
    let items = take_at c.append_columns.new.columns (drop (length c.append_columns.new.columns) c.self.inside.columns.items) c.self.inside.columns.len long ∙ made in
    table-stacked c.self.inside.columns.items c.other.inside.columns.items c.self.inside.height c.other.inside.height c.first_height-self-inside.result c.self.view_is c.other.view_is c.requires c.self.invariant.0 c.self.invariant.1 c.self.invariant.2 c.other.invariant.2 items (c.first_height-self-inside.ensures ∙ ap height_of c.as_slice-2.ensures.value)
