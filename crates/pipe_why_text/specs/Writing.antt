-- Steps that are being written.
use Rattle.std.specs.Prelude.{◌≡◌, ℕ, List, ◌++◌, Bool, true, String, string_bytes}
use Rattle.std.specs.declared.alloc.Global.{Global}
use Rattle.pipe_why_text.specs.Places.{AreStepTexts}
use Rattle.pipe_why_text.specs.declared.steps.Step.{Step}

-- of all steps those that aren't left were written
pub record Writing (old out : String Global) (is_first : Bool) (left all : List Step) : Type 0 where
  pub text : List ℕ
  pub bytes : string_bytes out ≡ string_bytes old ++ text
  pub more : (t : List ℕ) → AreStepTexts is_first left t → AreStepTexts true all (text ++ t)
