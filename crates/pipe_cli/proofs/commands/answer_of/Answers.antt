use Rattle.pipe_cli.specs.Commands.HelpCommand.{help_text}
use Rattle.pipe_cli.specs.Commands.VersionCommand.{version_text}
use Rattle.pipe_cli.proofs.TestLemmas.{told_answer}
use Rattle.pipe_cli.proofs.commands.answer_of.Goals as goal

pub returns-in-SelfTest-clause-err : goal.returns-in-SelfTest-clause-err
returns-in-SelfTest-clause-err g c = rw c.in-SelfTest.is (c.selftest.ensures.err c.args.bytes.items)

pub returns-in-Help-clause-ok : goal.returns-in-Help-clause-ok
returns-in-Help-clause-ok g c = rw c.in-Help.is (told_answer help_text c.args.bytes.items _ c.help_text.ensures)

pub returns-in-Version-clause-ok : goal.returns-in-Version-clause-ok
returns-in-Version-clause-ok g c = rw c.in-Version.is (told_answer version_text c.args.bytes.items _ c.version_text.ensures)
