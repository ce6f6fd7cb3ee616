-- What fails at a member, or further on, fails from the first member on.
use Rattle.std.proofs.Common.{◌≡◌, ℕ, List, Bool, false, ◌&&◌, refl, ap, ◌∙◌, Result, Ok, Err}
use Rattle.std.specs.Result.{IsErrAnd}
use Rattle.std.proofs.lemmas.Bool.{and_right}
use Rattle.std.specs.Str.{bytes_eq}
use Rattle.serde_json.specs.Data.{Data, object, Members, no_members, member}
use Rattle.pipe_job.specs.declared.misread.Misread.{Misread}
use Rattle.pipe_job.specs.declared.misread.Misread.TheVariants.{Other, Memory}
use Rattle.pipe_job.specs.Reads.{ReadWhere}
use Rattle.pipe_job.specs.Shape.{after, has, on_object}

-- what fails further on, fails from here
pub after_later : (name : List ℕ) (shape : Data → Bool) (rest : Members → Bool) (ms more : Members) (k : List ℕ) (d : Data)
    → ms ≡ member k d more → rest more ≡ false → after name shape rest ms ≡ false
after_later name shape rest ms more k d e h = ap (after name shape rest) e ∙ and_right (bytes_eq k name && shape d) (rest more) h

-- what fails here
pub after_here : (name : List ℕ) (shape : Data → Bool) (rest : Members → Bool) (ms : Members) → has name shape ms ≡ false → after name shape rest ms ≡ false
after_here name shape rest no_members h = refl
after_here name shape rest (member k d more) h = rw h

pub on_object_false : (shape : Members → Bool) (d : Data) (ms : Members) → d ≡ object ms → shape ms ≡ false → on_object shape d ≡ false
on_object_false shape d ms e h = ap (on_object shape) e ∙ h

pub ruleset shapes = (after_later, after_here, on_object_false)

-- what a refusal says of a test
abbrev pub Refuses : Bool → Misread → Type 0
Refuses test Other = test ≡ false
Refuses test Memory = Unit {0}

-- a refusal that is passed on
pub passed_on : {Y : Type 0} (here later : Bool) (Q : Y → Type 0) (e : Misread) (r : Result Y Misread) → Refuses later e → IsErrAnd r (λ f. f ≡ e) → (later ≡ false → here ≡ false) → ReadWhere here Q r
passed_on here later Q e (Ok y) h k up = absurd k
passed_on here later Q Other (Err f) h k up = rw k (up h)
passed_on here later Q Memory (Err f) h k up = rw k tt
