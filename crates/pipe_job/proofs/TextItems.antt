-- Nullable texts among the items of an array.
use Rattle.std.proofs.Common.{◌≡◌, ℕ, suc, ◌<◌, List, [], ◌∷◌, ◌++◌, length, get_or, false, Option, Some, None, refl, sym, ap}
use Rattle.std.specs.Prelude.{⊤}
use Rattle.serde_json.specs.Data.{Data, null, boolean, number, string, array, object}
use Rattle.pipe_value.specs.Items.{nullable_text}
use Rattle.pipe_job.specs.Shape.{is_maybe, is_text}
use Rattle.pipe_job.specs.Spelling.{maybe}
use Rattle.pipe_job.proofs.SoFar.{SoFar, one_more}

abbrev told : {A : Type 0} → A → Option A → A
told d None = d
told d (Some a) = a

pub nullable_read : (d : Data) (t : Option (List ℕ)) → Some t ≡ nullable_text d → d ≡ maybe string t
nullable_read null t e = sym (ap (maybe string) (ap (told t) e))
nullable_read (boolean b) t e = absurd (cc)
nullable_read (number n) t e = absurd (cc)
nullable_read (string s) t e = sym (ap (maybe string) (ap (told t) e))
nullable_read (array ds) t e = absurd (cc)
nullable_read (object ms) t e = absurd (cc)

pub nullable_refused : (d : Data) → None ≡ nullable_text d → is_maybe is_text d ≡ false
nullable_refused null e = absurd (cc)
nullable_refused (boolean b) e = refl
nullable_refused (number n) e = refl
nullable_refused (string s) e = absurd (cc)
nullable_refused (array ds) e = refl
nullable_refused (object ms) e = refl

pub one_more_text : (all : List Data) (i : ℕ) (items : List (Option (List ℕ))) (t : Option (List ℕ)) → i < length all
    → SoFar (maybe string) (λ _. ⊤) (is_maybe is_text) all i items → get_or all i null ≡ maybe string t → SoFar (maybe string) (λ _. ⊤) (is_maybe is_text) all (suc i) (items ++ t ∷ [])
one_more_text all i items t lt so e = one_more (maybe string) (λ _. ⊤) (is_maybe is_text) all i items t lt so (e, tt)

pub ruleset text_item_rules = (nullable_read, nullable_refused)
