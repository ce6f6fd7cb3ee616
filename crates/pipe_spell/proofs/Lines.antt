-- The line of a value, from its text as it was printed.
use Rattle.std.proofs.Common.{◌≡◌, ◌≤◌, ℕ, List, [], ◌∷◌, ◌++◌, Some, false, refl, sym, ap, ◌∙◌, subst}
use Rattle.std.proofs.lemmas.Str.{IsUtf8-append}
use Rattle.std.specs.Str.{IsUtf8}
use Rattle.json.proofs.Printed.Utf8.{IsUtf8-are_ascii}
use Rattle.json.specs.Lex.{tokens}
use Rattle.json.specs.Print.{print}
use Rattle.serde_json.specs.Data.{Data, depth}
use Rattle.serde_json.specs.Read.{read, max_depth}
use Rattle.serde_json.specs.Written.{compact_text, has_float}
use Rattle.serde_json.proofs.Texts.{tokens_from_order, print-outline}
use Rattle.pipe_job.specs.Line.{line_of}
use Rattle.pipe_spell.specs.Printed.{IsPrinted}
use Rattle.pipe_spell.proofs.Newline.{tokens_of_line}
use Rattle.pipe_spell.proofs.Reading.{read_back}

text_compact : (d : Data) (text : List ℕ) → IsPrinted d text → has_float d ≡ false → text ≡ compact_text d
text_compact d text p plain =
    let w = p.wrote in
    p.text_is ∙ ap print (sym p.again ∙ tokens_from_order (print p.written) d (w.0, p.again ∙ w.1, w.4) plain) ∙ print-outline d

-- without a float it is the compact text and a newline
pub line_is : (d : Data) (text line : List ℕ) → IsPrinted d text → line ≡ text ++ 10 ∷ [] → has_float d ≡ false → line ≡ line_of d
line_is d text line p e plain = e ∙ ap (λ t. t ++ 10 ∷ []) (text_compact d text p plain)

pub line_utf8 : (d : Data) (text line : List ℕ) → IsPrinted d text → line ≡ text ++ 10 ∷ [] → IsUtf8 line
line_utf8 d text line p e = subst IsUtf8 (sym e) (IsUtf8-append text (10 ∷ []) p.utf8 (IsUtf8-are_ascii (10 ∷ []) refl))

pub line_reads_back : (d : Data) (text line : List ℕ) → IsPrinted d text → line ≡ text ++ 10 ∷ [] → depth d ≤ max_depth → read line ≡ Some d
line_reads_back d text line p e shallow =
    read_back d p.written line p.wrote (ap tokens (e ∙ ap (λ t. t ++ 10 ∷ []) p.text_is) ∙ tokens_of_line p.written p.printable ∙ p.again) shallow
