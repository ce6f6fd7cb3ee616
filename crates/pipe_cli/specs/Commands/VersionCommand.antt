-- `--version`: the name of the program and its version.
use Rattle.std.specs.Prelude.{ℕ, List, codes}
use Rattle.pipe_cli.specs.Contract.{Contract}
use Rattle.pipe_cli.specs.NoInputs.{writes}

abbrev pub version_text : List ℕ
version_text = codes "liskevar 0.1.0\n"

abbrev pub version : Contract
version = writes version_text
