-- `check`: whether a job may be run.
use Rattle.std.specs.Prelude.{ℕ, ◌≡◌, List, codes}
use Rattle.pipe_cli.specs.Contract.{Contract}
use Rattle.pipe_cli.specs.Jobs.{looks_at}

-- what is written of a job that may be run
abbrev pub ok_text : List ℕ
ok_text = codes "ok\n"

abbrev pub check : Contract
check = looks_at (λ job text. text ≡ ok_text)
