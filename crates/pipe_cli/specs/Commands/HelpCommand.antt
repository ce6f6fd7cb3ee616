-- `--help`: what the program does, its commands, and its statuses.
use Rattle.std.specs.Prelude.{ℕ, List, codes}
use Rattle.pipe_cli.specs.Contract.{Contract}
use Rattle.pipe_cli.specs.NoInputs.{writes}

abbrev pub help_text : List ℕ
help_text = codes "liskevar: runs jobs on tables and writes their rows.\n\nliskevar run        runs the job on standard input\nliskevar run FILE   runs the job in a file\nliskevar stream     runs it, and writes blocks of rows as they are made\nliskevar check      writes ok where the job on standard input is good\nliskevar why        tells why it can't be run, and where, or what it will do\nliskevar why FILE   tells that of the job in a file\nliskevar explain    writes the pipelines of its plan, one a line\nliskevar optimize   writes a job with the same rows, whose filters stand low\nliskevar parts      writes how its tables may be cut, to run it in parts\nliskevar parts --rows N,N,..\n                    writes that for tables of so many rows, in their place\nliskevar selftest START ROWS\n                    joins two tables of ROWS drawn keys, writes how many rows\nliskevar reconcile  writes which rows of two tables on standard input have no\n                    partner on the other side, and the partners of the others\nliskevar replay-edits\n                    keeps a join while its tables are edited, writes what each\n                    edit changed and the rows at the end\nliskevar --help     writes this text\nliskevar --version  writes the name and the version\n\nA job is a JSON object; docs/FORMATS.md gives its form. run writes its rows,\neach a JSON array on a line of its own, after a line of the column names. A\nrefusal is a line on standard error and a status:\n\n 0  done\n 1  the words are no command\n 2  reading failed\n 3  the job has more than 33,554,432 bytes\n 4  the text is not JSON\n 5  the value is no job\n 6  a number is out of its range, or the plan has a fault\n 7  the plan has more than 4,096 nodes, or a node more rows than the limit\n 8  stopped\n 9  writing failed\n10  out of memory\n"

abbrev pub help : Contract
help = writes help_text
