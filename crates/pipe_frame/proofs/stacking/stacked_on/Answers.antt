use Rattle.std.proofs.Common.{rules, ◌≡◌, ◌∙◌, sym, map, length, arith}
use Rattle.std.specs.Prelude.{Ok}
use Rattle.std.proofs.lemmas.List.{with_items_is}
use Rattle.pipe_frame.specs.Chunks.{chunks_table}
use Rattle.pipe_frame.specs.Frame.{columns_of}
use Rattle.pipe_frame.proofs.Stacks.{filled_all, length-columns_of}
use Rattle.pipe_frame.proofs.stacking.stacked_on.Goals as goal

pub returns : goal.returns
returns g c =
    let wanted = columns_of (chunks_table c.args.schema.now c.args.chunks.now) in
    let same : length c.fill_slots.new.slots ≡ length c.in_ok-slots.slots.items = search rules in
    let made : map Ok c.in_ok-columns.columns.items ≡ c.fill_slots.new.slots = c.in_ok-columns.ensures ∙ with_items_is c.in_ok-slots.slots c.fill_slots.new.slots (same ∙ sym c.in_ok-slots.slots.ok.0) in
    let count : length c.fill_slots.new.slots ≡ length wanted = (let n = length-columns_of (chunks_table c.args.schema.now c.args.chunks.now) in let m : length c.in_ok-slots.slots.items ≡ length c.args.schema.now = search rules in omega (arith, n, m, same)) in
    filled_all c.in_ok-columns.columns.items wanted c.fill_slots.new.slots made count (λ k d lt. c.fill_slots.ensures.filled k d (search rules))
