-- Tokens that were written for a value are read back as that value.
use Rattle.std.proofs.Common.{◌≡◌, ℕ, ◌≤◌, List, [], Some, Option, option_and_then, sym, ap, ◌∙◌, arith, append-nil}
use Rattle.json.specs.Token.{Token}
use Rattle.json.specs.Lex.{tokens}
use Rattle.json.specs.Json as json
use Rattle.json.proofs.Printed.Trees.{value-json_tokens}
use Rattle.serde_json.specs.Data.{Data, depth}
use Rattle.serde_json.specs.Read.{of_json, read, max_depth}
use Rattle.serde_json.specs.Written.{WritesValue}

-- the value of what was parsed, where it is the whole
abbrev whole : Option (json.Json × List Token) → Option Data
whole r = option_and_then of_json (option_and_then (λ p. json.if_last p.0 p.1) r)

pub read_back : (d : Data) (ts : List Token) (text : List ℕ) → WritesValue d [] ts → tokens text ≡ ts → depth d ≤ max_depth → read text ≡ Some d
read_back d ts text w same shallow =
    ap whole (ap (json.value max_depth) (same ∙ w.1 ∙ sym (append-nil _)) ∙ value-json_tokens w.0 max_depth [] (omega (arith, w.3))) ∙ w.2
