use Rattle.std.proofs.Common.{drop, length}
use Rattle.pipe_recon.proofs.LeastSteps.{written_least, written_long}
use Rattle.pipe_recon.proofs.least.least_partners.Goals as goal

pub loop-i-preserved : goal.loop-i-preserved
loop-i-preserved c = record {
  long = written_long c.args.height c.loop-i.classes.len c.loop-i.classes.items c.as_mut_slice.result.now c.take_in.new.classes (drop (length c.take_in.new.classes) c.loop-i.classes.items) c.as_mut_slice.ensures.value c.as_mut_slice.ensures.len c.take_in.ensures.long c.loop-i.invariant.long;
  least = written_least c.args.rows.now c.args.partners.now c.loop-i.i c.loop-i.classes.len c.loop-i.classes.items c.as_mut_slice.result.now c.take_in.new.classes (drop (length c.take_in.new.classes) c.loop-i.classes.items) c.at.result c.at-in-loop-i.result c.as_mut_slice.ensures.value c.as_mut_slice.ensures.len c.take_in.ensures.long c.at.ensures c.at-in-loop-i.ensures c.take_in.ensures.each c.loop-i.invariant.least;
}
