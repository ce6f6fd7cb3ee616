use Rattle.std.proofs.Common.{◌≡◌, ◌∙◌, ap, sym, map, length, arith}
use Rattle.std.specs.Prelude.{Ok}
use Rattle.std.proofs.lemmas.List.{length-map, with_items_is}
use Rattle.pipe_column.specs.Columns.{chosen_column, chosen_columns}
use Rattle.pipe_frame.proofs.Stacks.{filled_all}
use Rattle.pipe_sort.proofs.TakenColumns.{AreColumns, fields-taken, even-taken, whole-taken}
use Rattle.pipe_sort.proofs.taking.taken_on.Goals as goal

pub from_columns-requires-clause-fields : goal.from_columns-requires-clause-fields
from_columns-requires-clause-fields g c =
    let columns = c.get_columns-columns.result.now in
    let wanted = chosen_columns columns c.args.places.now in
    let all : AreColumns c.args.frame.now columns = record { columns_are = c.get_columns-columns.ensures.columns; wide = c.get_columns-columns.ensures.width; rows_are = c.get_columns-columns.ensures.rows; good = c.schema.ensures.good } in
    let same : length c.fill_slots.new.slots ≡ length c.in_ok-slots.slots.items = c.fill_slots.ensures.len ∙ ap length c.as_mut_slice.ensures.value in
    let made : map Ok c.in_ok-taken.taken.items ≡ c.fill_slots.new.slots = c.in_ok-taken.ensures ∙ with_items_is c.in_ok-slots.slots c.fill_slots.new.slots (same ∙ sym c.in_ok-slots.slots.ok.0) in
    let count : length c.fill_slots.new.slots ≡ length wanted = same ∙ c.in_ok-slots.ensures ∙ sym (length-map columns (chosen_column c.args.places.now)) in
    let taken : c.in_ok-taken.taken.items ≡ wanted = filled_all c.in_ok-taken.taken.items wanted c.fill_slots.new.slots made count (λ k d lt. c.fill_slots.ensures.filled k d (let long = c.fill_slots.ensures.len in omega (arith, lt, long))) in
    fields-taken c.args.frame.now columns c.in_ok-taken.taken.items c.args.places.now all taken ∙ sym (c.in_ok-schema.ensures ∙ c.schema.ensures.schema)

pub from_columns-requires-clause-even : goal.from_columns-requires-clause-even
from_columns-requires-clause-even g c =
    let columns = c.get_columns-columns.result.now in
    let wanted = chosen_columns columns c.args.places.now in
    let all : AreColumns c.args.frame.now columns = record { columns_are = c.get_columns-columns.ensures.columns; wide = c.get_columns-columns.ensures.width; rows_are = c.get_columns-columns.ensures.rows; good = c.schema.ensures.good } in
    let same : length c.fill_slots.new.slots ≡ length c.in_ok-slots.slots.items = c.fill_slots.ensures.len ∙ ap length c.as_mut_slice.ensures.value in
    let made : map Ok c.in_ok-taken.taken.items ≡ c.fill_slots.new.slots = c.in_ok-taken.ensures ∙ with_items_is c.in_ok-slots.slots c.fill_slots.new.slots (same ∙ sym c.in_ok-slots.slots.ok.0) in
    let count : length c.fill_slots.new.slots ≡ length wanted = same ∙ c.in_ok-slots.ensures ∙ sym (length-map columns (chosen_column c.args.places.now)) in
    let taken : c.in_ok-taken.taken.items ≡ wanted = filled_all c.in_ok-taken.taken.items wanted c.fill_slots.new.slots made count (λ k d lt. c.fill_slots.ensures.filled k d (let long = c.fill_slots.ensures.len in omega (arith, lt, long))) in
    even-taken c.args.frame.now columns c.in_ok-taken.taken.items c.args.places.now all taken

pub returns : goal.returns
returns g c =
    let columns = c.get_columns-columns.result.now in
    let wanted = chosen_columns columns c.args.places.now in
    let all : AreColumns c.args.frame.now columns = record { columns_are = c.get_columns-columns.ensures.columns; wide = c.get_columns-columns.ensures.width; rows_are = c.get_columns-columns.ensures.rows; good = c.schema.ensures.good } in
    let same : length c.fill_slots.new.slots ≡ length c.in_ok-slots.slots.items = c.fill_slots.ensures.len ∙ ap length c.as_mut_slice.ensures.value in
    let made : map Ok c.in_ok-taken.taken.items ≡ c.fill_slots.new.slots = c.in_ok-taken.ensures ∙ with_items_is c.in_ok-slots.slots c.fill_slots.new.slots (same ∙ sym c.in_ok-slots.slots.ok.0) in
    let count : length c.fill_slots.new.slots ≡ length wanted = same ∙ c.in_ok-slots.ensures ∙ sym (length-map columns (chosen_column c.args.places.now)) in
    let taken : c.in_ok-taken.taken.items ≡ wanted = filled_all c.in_ok-taken.taken.items wanted c.fill_slots.new.slots made count (λ k d lt. c.fill_slots.ensures.filled k d (let long = c.fill_slots.ensures.len in omega (arith, lt, long))) in
    c.from_columns.ensures ∙ whole-taken c.args.frame.now columns c.in_ok-taken.taken.items c.args.places.now all c.requires.there taken
