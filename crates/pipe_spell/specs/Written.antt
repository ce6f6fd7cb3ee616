-- Items of an array that were written, and are followed by others.
use Rattle.std.specs.Prelude.{◌≡◌, List}
use Rattle.json.specs.Print.{ArePrintable}
use Rattle.json.specs.Token.{Token}
use Rattle.json.specs.Written.{Written}
use Rattle.serde_json.specs.Data.{Data, Items}
use Rattle.serde_json.specs.Written.{WritesItems}
use Rattle.pipe_value.specs.Read.{items_before}

-- whatever ends the array well after these items ends it well from before them
abbrev pub WritesFront : List Data → List Token → List Token → Type 0
WritesFront ds old new = (rest : Items) (end : List Token) → WritesItems rest new end → WritesItems (items_before ds rest) old end

-- a writer wrote these items
pub record HasWritten (ds : List Data) (old new : Written) : Type 0 where
  pub front : WritesFront ds old.tokens new.tokens
  pub printable : ArePrintable old.tokens → ArePrintable new.tokens
  pub before : new.before ≡ old.before
