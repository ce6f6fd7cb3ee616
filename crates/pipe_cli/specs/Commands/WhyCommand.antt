-- `why` and `why FILE`: what keeps a job from being run, or that nothing does. `run_words` answers it, and `run_program`
-- doesn't know it. It ends as `check` does, and its answer begins with that of `check`.
use Rattle.std.specs.Prelude.{ℕ, ◌≡◌, List, ◌++◌}
use Rattle.pipe_cli.specs.Commands.CheckCommand.{ok_text}
use Rattle.pipe_cli.specs.Contract.{Contract}
use Rattle.pipe_cli.specs.Jobs.{looks_at}

-- a text tells that a job may be run, and then more
pub record IsGoodText (text : List ℕ) : Type 0 where
  pub more : List ℕ
  pub begins : text ≡ ok_text ++ more

abbrev pub why : Contract
why = looks_at (λ job text. IsGoodText text)
