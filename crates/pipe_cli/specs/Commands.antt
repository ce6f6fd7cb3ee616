-- The commands: their words, where the input of each stands, and the contract of each, which is in a file of its own.
pub mod RunCommand
pub mod CheckCommand
pub mod ExplainCommand
pub mod OptimizeCommand
pub mod PartsCommand
pub mod SelfTestCommand
pub mod ReconcileCommand
pub mod ReplayEditsCommand
pub mod HelpCommand
pub mod VersionCommand
pub mod StreamCommand
pub mod WhyCommand
use Rattle.std.specs.Prelude.{ℕ, ◌≡◌, ◌≤◌, List, [], ◌∷◌, codes, Bool, true, false, Option, Some, None, ⊤, if◌then◌else◌}
use Rattle.std.specs.Option.{option_copied}
use Rattle.std.specs.Str.{bytes_eq}
use Rattle.pipe_selftest.specs.Words.{rows_in, start_in}
use Rattle.pipe_cli.specs.Contract.{Contract}
use Rattle.pipe_cli.specs.Heights.{heights_in, heights_told}
use Rattle.pipe_cli.specs.Sources.{Source, Nowhere, Standard, standard_or}
use Rattle.pipe_cli.specs.Commands.RunCommand.{run}
use Rattle.pipe_cli.specs.Commands.CheckCommand.{check}
use Rattle.pipe_cli.specs.Commands.ExplainCommand.{explain}
use Rattle.pipe_cli.specs.Commands.OptimizeCommand.{optimize}
use Rattle.pipe_cli.specs.Commands.PartsCommand.{parts}
use Rattle.pipe_cli.specs.Commands.SelfTestCommand.{selftest}
use Rattle.pipe_cli.specs.Commands.ReconcileCommand.{reconcile}
use Rattle.pipe_cli.specs.Commands.ReplayEditsCommand.{replay_edits}
use Rattle.pipe_cli.specs.Commands.HelpCommand.{help}
use Rattle.pipe_cli.specs.Commands.VersionCommand.{version}
use Rattle.pipe_cli.specs.Commands.StreamCommand.{stream}
use Rattle.pipe_cli.specs.Commands.WhyCommand.{why}
use Rattle.pipe_cli.specs.declared.commands.Command.{Command}
use Rattle.pipe_cli.specs.declared.commands.Command.TheVariants as command

-- what is asked for; a stream, and why a job can't be run, are asked of `run_words` alone
pub data Request : Type 0 where
  Run : (name : Option (List ℕ)) → Request
  Check : Request
  Explain : Request
  Optimize : Request
  Parts : (heights : Option (List ℕ)) → Request
  SelfTest : (start rows : ℕ) → Request
  Reconcile : Request
  ReplayEdits : Request
  Help : Request
  Version : Request
  Stream : Request
  Why : (name : Option (List ℕ)) → Request

-- what it promises
abbrev pub contract_of : Request → Contract
contract_of (Run name) = run
contract_of Check = check
contract_of Explain = explain
contract_of Optimize = optimize
contract_of (Parts heights) = parts heights
contract_of (SelfTest start rows) = selftest start rows
contract_of Reconcile = reconcile
contract_of ReplayEdits = replay_edits
contract_of Help = help
contract_of Version = version
contract_of Stream = stream
contract_of (Why name) = why

-- where its input stands
abbrev pub source_of : Request → Source
source_of (Run name) = standard_or name
source_of Check = Standard
source_of Explain = Standard
source_of Optimize = Standard
source_of (Parts heights) = Standard
source_of (SelfTest start rows) = Nowhere
source_of Reconcile = Standard
source_of ReplayEdits = Standard
source_of Help = Nowhere
source_of Version = Nowhere
source_of Stream = Standard
source_of (Why name) = standard_or name

-- the request of one word
abbrev pub word_request : List ℕ → Option Request
word_request word =
    if bytes_eq word (codes "run") then Some (Run None)
    else if bytes_eq word (codes "check") then Some Check
    else if bytes_eq word (codes "explain") then Some Explain
    else if bytes_eq word (codes "optimize") then Some Optimize
    else if bytes_eq word (codes "parts") then Some (Parts None)
    else if bytes_eq word (codes "reconcile") then Some Reconcile
    else if bytes_eq word (codes "replay-edits") then Some ReplayEdits
    else if bytes_eq word (codes "--help") then Some Help
    else if bytes_eq word (codes "--version") then Some Version
    else None

-- the request of a word and a name
abbrev pub named_request : List ℕ → List ℕ → Option Request
named_request word name = if bytes_eq word (codes "run") then Some (Run (Some name)) else None

-- the request of two numbers, where both are there
abbrev pub test_request : Option ℕ → Option ℕ → Option Request
test_request (Some start) (Some rows) = Some (SelfTest start rows)
test_request (Some start) None = None
test_request None rows = None

-- the request of numbers of rows, where they are there
abbrev pub heights_request : Option (List ℕ) → Option Request
heights_request (Some heights) = Some (Parts (Some heights))
heights_request None = None

abbrev pub parts_request : (option : List ℕ) → Option (List ℕ) → Option Request
parts_request option heights = if bytes_eq option (codes "--rows") then heights_request heights else None

-- the request of a word with two others
abbrev pub numbered_request : (word start rows : List ℕ) → Option Request
numbered_request word start rows =
    if bytes_eq word (codes "selftest") then test_request (start_in start) (rows_in rows)
    else if bytes_eq word (codes "parts") then parts_request start (heights_in rows)
    else None

-- the request of words, by exact words
abbrev pub request : List (List ℕ) → Option Request
request [] = None
request (word ∷ []) = word_request word
request (word ∷ name ∷ []) = named_request word name
request (word ∷ start ∷ rows ∷ []) = numbered_request word start rows
request (word ∷ start ∷ rows ∷ more ∷ words) = None

-- the request that a command of the code is
abbrev pub request_of : Command → Request
request_of (command.Run name) = Run (option_copied name)
request_of command.Check = Check
request_of command.Explain = Explain
request_of command.Optimize = Optimize
request_of (command.Parts word) = Parts (heights_told (option_copied word))
request_of (command.SelfTest start rows) = SelfTest start rows
request_of command.Reconcile = Reconcile
request_of command.ReplayEdits = ReplayEdits
request_of command.Help = Help
request_of command.Version = Version

-- the rows of a self-test are from 1 to 1,000,000
abbrev pub HasGoodRows : Command → Type 0
HasGoodRows (command.Run name) = ⊤
HasGoodRows command.Check = ⊤
HasGoodRows command.Explain = ⊤
HasGoodRows command.Optimize = ⊤
HasGoodRows (command.Parts word) = ⊤
HasGoodRows (command.SelfTest start rows) = (1 ≤ rows) × (rows ≤ 1000000)
HasGoodRows command.Reconcile = ⊤
HasGoodRows command.ReplayEdits = ⊤
HasGoodRows command.Help = ⊤
HasGoodRows command.Version = ⊤
