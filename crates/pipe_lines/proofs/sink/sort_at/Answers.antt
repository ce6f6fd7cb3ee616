use Rattle.std.proofs.Common.{ap, sym, ◌∙◌}
use Rattle.pipe_plan.specs.Node.{node_of}
use Rattle.pipe_lines.proofs.sink.sort_at.Goals as goal

pub sort_sink-requires : goal.sort_sink-requires
sort_sink-requires c = record { under = c.requires.under; is = sym c.requires.is ∙ ap node_of c.in-Sort.is }

pub returns : goal.returns
returns c = record {
  input = c.in-Sort.input;
  by = c.in-Sort.by;
  options = c.in-Sort.options;
  at_n = record { under = c.requires.under; is = sym c.requires.is ∙ ap node_of c.in-Sort.is };
  is = c.in_ok-sort_sink-in-Sort.ensures;
}
