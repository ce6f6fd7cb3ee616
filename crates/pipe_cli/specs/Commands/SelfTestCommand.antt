-- `selftest START ROWS`: how many rows the joins of two drawn frames have.
use Rattle.std.specs.Prelude.{ℕ, ◌≡◌, [], ◌∷◌, true}
use Rattle.pipe_plan.specs.declared.error.PipeError.TheVariants as error
use Rattle.pipe_selftest.specs.Ends.{Ends, IsWithin}
use Rattle.pipe_selftest.specs.Joins.{plan_from}
use Rattle.pipe_selftest.specs.Lines.{selftest_lines}
use Rattle.pipe_cli.specs.Contract.{Contract}
use Rattle.pipe_cli.specs.NoInputs.{no_inputs}

abbrev pub selftest : (start rows : ℕ) → Contract
selftest start rows = record {
  kind = no_inputs;
  IsSound = λ input. Unit {0};
  IsRefused = λ input error. ⊥;
  -- a node under one of its joins has more rows than the limit
  HasMany = λ input n. Ends (plan_from start rows) (error.TooMany n);
  IsWithin = λ input. IsWithin (plan_from start rows);
  IsAnswer = λ input text. text ≡ selftest_lines start rows;
  asks = true;
  statuses = 0 ∷ 7 ∷ 8 ∷ 9 ∷ 10 ∷ [];
}
