use Rattle.std.proofs.Common.{◌≡◌, replicate}
use Rattle.std.specs.Option.{option_copied}
use Rattle.pipe_expr.proofs.constant.repeated_bytes.Given as goal

abbrev pub invariant-loop : goal.invariant-loop
invariant-loop l = l.column ≡ replicate l.counter (option_copied l.bytes)
