use Rattle.std.proofs.Common.{rules, ◌≡◌, get_or}
use Rattle.std.specs.Prelude.{Ok}
use Rattle.pipe_frame.proofs.Stacks.{emptied_more}
use Rattle.pipe_sort.proofs.taking.columns_in.Goals as goal

pub loop-k-preserved : goal.loop-k-preserved
loop-k-preserved c =
    let at : Ok c.in_ok-replace.field-0 ≡ get_or c.loop-k.slots.items c.loop-k.k (Ok c.in_ok-replace.field-0) = search rules in
    emptied_more c.loop-k.k c.loop-k.columns.items c.push.new.self.items c.loop-k.slots.items c.args.slots.items c.in_ok-replace.field-0 c.replace.new.dest c.loop-k.invariant (search rules) at (search rules)
