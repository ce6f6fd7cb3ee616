-- The text of an answer.
use Rattle.std.specs.Prelude.{ℕ, List}
use Rattle.pipe_cli.specs.declared.answer.Answer.{Answer}
use Rattle.pipe_cli.specs.declared.answer.Answer.TheVariants as answer

abbrev pub text_of : Answer → List ℕ
text_of (answer.Fixed text) = text.now
text_of (answer.Made text) = text.items
