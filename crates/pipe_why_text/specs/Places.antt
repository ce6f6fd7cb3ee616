-- How a place of a value is written: the steps that lead to it.
use Rattle.std.specs.Prelude.{◌≡◌, ◌==◌, ◌||◌, ◌&&◌, ℕ, List, [], ◌∷◌, ◌++◌, Bool, true, false, not, length, if◌then◌else◌, codes, decimal, String, string_bytes}
use Rattle.std.specs.declared.alloc.Global.{Global}
use Rattle.std.specs.Char.{is_ascii_alphanumeric}
use Rattle.pipe_why_text.specs.declared.steps.Step.{Step}
use Rattle.pipe_why_text.specs.declared.steps.Step.TheVariants as step

-- a text of this kind was appended
abbrev pub Appends : (List ℕ → Type 0) → (old new : String Global) → Type 0
Appends Is old new = (text : List ℕ) × (string_bytes new ≡ string_bytes old ++ text) × Is text

-- a letter, a digit or a low line
abbrev pub is_plain_byte : ℕ → Bool
is_plain_byte byte = is_ascii_alphanumeric byte || (byte == 95)

abbrev pub are_plain : List ℕ → Bool
are_plain [] = true
are_plain (byte ∷ bytes) = is_plain_byte byte && are_plain bytes

-- whether a name needs no quotes: it has letters, digits and low lines alone, and one at least
abbrev pub is_plain : List ℕ → Bool
is_plain name = are_plain name && not (length name == 0)

-- a name that needs no quotes, behind a point where it isn't the first step
abbrev pub plain_text : (is_first : Bool) → (name : List ℕ) → List ℕ
plain_text is_first name = if is_first then name else codes "." ++ name

-- something in brackets
abbrev pub IsBracketed : List ℕ → Type 0
IsBracketed text = (inside : List ℕ) × (text ≡ codes "[" ++ inside ++ codes "]")

abbrev pub IsNameText : (is_first : Bool) → (name : List ℕ) → (is_plain : Bool) → List ℕ → Type 0
IsNameText is_first name true text = text ≡ plain_text is_first name
IsNameText is_first name false text = IsBracketed text

-- how a step is written: the number of an item in brackets, and the name of a member
abbrev pub IsStepText : (is_first : Bool) → Step → List ℕ → Type 0
IsStepText is_first (step.Item i) text = text ≡ codes "[" ++ decimal i ++ codes "]"
IsStepText is_first (step.Member name) text = IsNameText is_first name (is_plain name) text

-- how steps are written, one behind the other
abbrev pub AreStepTexts : (is_first : Bool) → List Step → List ℕ → Type 0
AreStepTexts is_first [] text = text ≡ []
AreStepTexts is_first (s ∷ steps) text = (a b : List ℕ) × (text ≡ a ++ b) × IsStepText is_first s a × AreStepTexts false steps b

-- how a place is written: as plan[3].left_on[0].lit.value, and the whole in words
abbrev pub IsPlaceText : List Step → List ℕ → Type 0
IsPlaceText [] text = text ≡ codes "the whole text"
IsPlaceText (s ∷ steps) text = AreStepTexts true (s ∷ steps) text
