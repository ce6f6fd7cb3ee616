-- `explain`: the branches of the plan of a job that may be run, a line each.
use Rattle.std.specs.Prelude.{◌≡◌}
use Rattle.pipe_cli.specs.Contract.{Contract}
use Rattle.pipe_cli.specs.Jobs.{branch_lines, looks_at}

abbrev pub explain : Contract
explain = looks_at (λ job text. text ≡ branch_lines job)
