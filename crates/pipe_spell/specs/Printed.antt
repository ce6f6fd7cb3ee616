-- The text of a value, as it is printed.
use Rattle.std.specs.Prelude.{◌≡◌, ℕ, List, []}
use Rattle.std.specs.Str.{IsUtf8}
use Rattle.json.specs.Lex.{tokens}
use Rattle.json.specs.Print.{ArePrintable, print}
use Rattle.json.specs.Token.{Token}
use Rattle.serde_json.specs.Data.{Data}
use Rattle.serde_json.specs.Written.{WritesValue}

-- a text is printed of tokens that were written for the data, and has them again
pub record IsPrinted (d : Data) (text : List ℕ) : Type 0 where
  pub written : List Token
  pub wrote : WritesValue d [] written
  pub printable : ArePrintable written
  pub text_is : text ≡ print written
  pub again : tokens (print written) ≡ written
  pub utf8 : IsUtf8 text
