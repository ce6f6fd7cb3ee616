use Rattle.std.proofs.Common.{refl, arith}
use Rattle.pipe_lines.proofs.layout.Layout.new.Goals as goal

pub plan_sinks-requires-clause-specs : goal.plan_sinks-requires-clause-specs
plan_sinks-requires-clause-specs g c = λ κs lives. (rw c.as_slice.ensures.value c.in_ok-specs.ensures)

pub plan_sinks-requires-clause-parts : goal.plan_sinks-requires-clause-parts
plan_sinks-requires-clause-parts g c = λ κs lives. (
    let some = c.requires.some in
    let enough = c.partition_count-parts.ensures.enough in omega arith)

pub returns : goal.returns
returns g c = record {
  is = record { specs = c.in_ok-specs.ensures; sinks = rw c.as_slice.ensures.value at c.in_ok-sinks.ensures };
  hasher_is = refl;
  parts = c.partition_count-parts.ensures;
}
