use Rattle.pipe_rows.proofs.PartitionLemmas.{smallest_power}
use Rattle.pipe_rows.proofs.partition.partition_count.Goals as goal

pub returns : goal.returns
returns c = record {
  exponent = c.next_power_of_two.ensures.power.0;
  is_power = c.next_power_of_two.ensures.power.1;
  enough = c.next_power_of_two.ensures.lower_bound;
  smallest = smallest_power c.next_power_of_two.ensures.power.0 c.next_power_of_two.result c.args.workers c.next_power_of_two.ensures.power.1 c.next_power_of_two.ensures.upper_bound;
}
