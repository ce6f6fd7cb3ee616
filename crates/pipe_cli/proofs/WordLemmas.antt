-- What is said of a command is said of the words that call it.
use Rattle.std.proofs.Common.{◌≡◌, ℕ, Bool, true, List, Option, Some, None, refl, subst, sym, ◌∙◌}
use Rattle.std.specs.Prelude.{IsSome, option_map}
use Rattle.pipe_stream.specs.Outside.{InputSeen, OutputSeen}
use Rattle.pipe_cli.specs.Commands.{Request, contract_of, request, source_of}
use Rattle.pipe_cli.specs.Contract.{OfInput}
use Rattle.pipe_cli.specs.Outcome.{AsksNoInput, InputOf, IsRead, MayEnd, OfOutput, OfWords, OutputOf, ReadingOf, TakenInPart, Wrote, WroteTold, asks_run, if_asked, is_asked, is_run, of_words, told_to}
use Rattle.pipe_cli.specs.Refused.{OfReading}
use Rattle.pipe_cli.specs.Sources.{IsTakenInPart, Nowhere, WasRead}
use Rattle.pipe_cli.specs.Status.{OneOf, status_of}
use Rattle.pipe_cli.specs.declared.status.Refusal.{Refusal}
use Rattle.pipe_cli.specs.declared.status.Refusal.TheVariants as refusal

-- ---- words that call a command

pub read_asked : (words : List (List ℕ)) (a : Request) (input now : InputSeen) → Some a ≡ request words → WasRead (source_of a) input now → IsRead words input now
read_asked words a input now e h = subst (λ (o : Option Request). is_asked o (λ b. WasRead (source_of b) input now)) e h

pub wrote_asked : (words : List (List ℕ)) (a : Request) (input : InputSeen) (out now : OutputSeen) → Some a ≡ request words → WroteTold (contract_of a) (told_to a input) out now → Wrote words input out now
wrote_asked words a input out now e h = subst (λ (o : Option Request). is_asked o (λ b. WroteTold (contract_of b) (told_to b input) out now)) e h

pub reading_asked : (words : List (List ℕ)) (a : Request) (r : Refusal) (input now : InputSeen) → Some a ≡ request words → OfReading r (told_to a input) input now → ReadingOf r words input now
reading_asked words a r input now e h = subst (λ (o : Option Request). if_asked o (λ b. OfReading r (told_to b input) input now)) e h

pub input_asked : (words : List (List ℕ)) (a : Request) (r : Refusal) (input : InputSeen) → Some a ≡ request words → OfInput (contract_of a) r (told_to a input) → InputOf r words input
input_asked words a r input e h = subst (λ (o : Option Request). if_asked o (λ b. OfInput (contract_of b) r (told_to b input))) e h

pub output_asked : (words : List (List ℕ)) (a : Request) (r : Refusal) (input : InputSeen) (out now : OutputSeen) → Some a ≡ request words → OfOutput (contract_of a) r (told_to a input) out now → OutputOf r words input out now
output_asked words a r input out now e h = subst (λ (o : Option Request). if_asked o (λ b. OfOutput (contract_of b) r (told_to b input) out now)) e h

pub may_end_asked : (words : List (List ℕ)) (a : Request) (n : ℕ) → Some a ≡ request words → OneOf (contract_of a).statuses n → MayEnd words n
may_end_asked words a n e h = subst (λ (o : Option Request). if_asked o (λ b. OneOf (contract_of b).statuses n)) e h

pub asks_asked : (words : List (List ℕ)) (a : Request) (b : Bool) → Some a ≡ request words → asks_run words ≡ b → (contract_of a).asks ≡ b
asks_asked words a b e h = subst (λ (o : Option Request). is_run o ≡ b) (sym e) h

pub nowhere_asked : (words : List (List ℕ)) (a : Request) → Some a ≡ request words → AsksNoInput words → source_of a ≡ Nowhere
nowhere_asked words a e h = subst (λ (o : Option Request). is_asked o (λ b. source_of b ≡ Nowhere)) (sym e) h

some_asked : (asked : Option Request) (a : Request) → Some a ≡ asked → IsSome asked
some_asked (Some b) a e = refl
some_asked None a e = cc

pub known_asked : (words : List (List ℕ)) (a : Request) → Some a ≡ request words → IsSome (request words)
known_asked words a e = some_asked (request words) a e

some_words : (r : Refusal) (asked : Option Request) → (r ≡ refusal.BadWords → ⊥) → IsSome asked → of_words r asked
some_words refusal.BadWords asked k s = absurd (k refl)
some_words refusal.ReadFault asked k s = s
some_words refusal.TooLong asked k s = s
some_words refusal.NotJson asked k s = s
some_words refusal.NotJob asked k s = s
some_words (refusal.Fault line) asked k s = s
some_words (refusal.TooMany line) asked k s = s
some_words refusal.Stopped asked k s = s
some_words refusal.WriteFault asked k s = s
some_words refusal.Memory asked k s = s

pub words_asked : (words : List (List ℕ)) (a : Request) (r : Refusal) → Some a ≡ request words → (r ≡ refusal.BadWords → ⊥) → OfWords r words
words_asked words a r e k = some_words r (request words) k (known_asked words a e)

pub few_asked : (words : List (List ℕ)) (a : Request) (input now : InputSeen) → Some a ≡ request words → IsTakenInPart (source_of a) input now → TakenInPart words input now
few_asked words a input now e h = subst (λ (o : Option Request). is_asked o (λ b. IsTakenInPart (source_of b) input now)) e h

-- ---- words that call none

pub unknown_words : (words : List (List ℕ)) → None ≡ request words → OfWords refusal.BadWords words
unknown_words words e = sym e

pub unknown_reading : (words : List (List ℕ)) (r : Refusal) (input now : InputSeen) → None ≡ request words → ReadingOf r words input now
unknown_reading words r input now e = subst (λ (o : Option Request). if_asked o (λ b. OfReading r (told_to b input) input now)) e tt

pub unknown_input : (words : List (List ℕ)) (r : Refusal) (input : InputSeen) → None ≡ request words → InputOf r words input
unknown_input words r input e = subst (λ (o : Option Request). if_asked o (λ b. OfInput (contract_of b) r (told_to b input))) e tt

pub unknown_output : (words : List (List ℕ)) (r : Refusal) (input : InputSeen) (out now : OutputSeen) → None ≡ request words → OutputOf r words input out now
unknown_output words r input out now e = subst (λ (o : Option Request). if_asked o (λ b. OfOutput (contract_of b) r (told_to b input) out now)) e tt

pub unknown_end : (words : List (List ℕ)) (n : ℕ) → None ≡ request words → MayEnd words n
unknown_end words n e = subst (λ (o : Option Request). if_asked o (λ b. OneOf (contract_of b).statuses n)) e tt
