-- The contract of each command is a sound one, and holds the statuses of reading and writing.
use Rattle.std.proofs.Common.{◌≡◌, ℕ, false, List, [], ◌∷◌, Option, Some, None, refl}
use Rattle.pipe_cli.specs.Commands.{Request, Run, Check, Explain, Optimize, Parts, SelfTest, Reconcile, ReplayEdits, Help, Version, Stream, Why, contract_of, source_of}
use Rattle.pipe_cli.specs.Commands.CheckCommand.{ok_text}
use Rattle.pipe_cli.specs.Commands.HelpCommand.{help_text}
use Rattle.pipe_cli.specs.Commands.PartsCommand.{HasFramesOf, IsPartsText}
use Rattle.pipe_cli.specs.Commands.VersionCommand.{version_text}
use Rattle.pipe_cli.specs.Commands.WhyCommand.{IsGoodText}
use Rattle.pipe_cli.specs.Contract.{IsLawful}
use Rattle.pipe_cli.specs.Jobs.{branch_lines}
use Rattle.pipe_cli.specs.Status.{OneOf}
use Rattle.pipe_cli.proofs.JobLemmas.{looks_lawful, run_lawful, stream_lawful, those_lawful}
use Rattle.pipe_cli.proofs.OptimizeLemmas.{optimize_lawful}
use Rattle.pipe_cli.proofs.ReconLemmas.{reconcile_lawful}
use Rattle.pipe_cli.proofs.ReplayLemmas.{replay_lawful}
use Rattle.pipe_cli.proofs.RuleLemmas.{among}
use Rattle.pipe_cli.proofs.TestLemmas.{selftest_lawful, writes_lawful}

pub lawful : (asked : Request) → IsLawful (contract_of asked)
lawful (Run name) = run_lawful
lawful Check = looks_lawful (λ job text. text ≡ ok_text)
lawful Explain = looks_lawful (λ job text. text ≡ branch_lines job)
lawful Optimize = optimize_lawful
lawful (Parts heights) = those_lawful (HasFramesOf heights) (IsPartsText heights)
lawful (SelfTest start rows) = selftest_lawful start rows
lawful Reconcile = reconcile_lawful
lawful ReplayEdits = replay_lawful
lawful Help = writes_lawful help_text
lawful Version = writes_lawful version_text
lawful Stream = stream_lawful
lawful (Why name) = looks_lawful (λ job text. IsGoodText text)

pub may_write : (asked : Request) → OneOf (contract_of asked).statuses 9
may_write asked = (lawful asked).writes

-- a fault of reading, more bytes than an input may have, and want of memory
pub early_run : (n : ℕ) → OneOf (2 ∷ 3 ∷ 10 ∷ []) n → OneOf (contract_of (Run None)).statuses n
early_run n h = among (2 ∷ 3 ∷ 10 ∷ []) (contract_of (Run None)).statuses refl n h

pub early_looks : (n : ℕ) → OneOf (2 ∷ 3 ∷ 10 ∷ []) n → OneOf (contract_of Check).statuses n
early_looks n h = among (2 ∷ 3 ∷ 10 ∷ []) (contract_of Check).statuses refl n h
