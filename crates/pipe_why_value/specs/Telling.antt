-- What is written of a place at which something else stands than may.
use Rattle.std.specs.Prelude.{◌≡◌, ℕ, List, ◌++◌, codes, String}
use Rattle.std.specs.declared.alloc.Global.{Global}
use Rattle.serde_json.specs.Data.{Data}
use Rattle.pipe_why_text.specs.Places.{Appends, IsPlaceText}
use Rattle.pipe_why_text.specs.declared.steps.Step.{Step}
use Rattle.pipe_why_text.specs.declared.want.Want.TheVariants as want
use Rattle.pipe_why_value.specs.Order.{tree_of}
use Rattle.pipe_why_value.specs.Places.{IsTold, Place}
use Rattle.pipe_why_value.specs.declared.wrong.Misfit.{Misfit}

-- a text that begins with the steps to a place
abbrev pub BeginsWithPlace : List Step → List ℕ → Type 0
BeginsWithPlace steps text = (place more : List ℕ) × (text ≡ place ++ (codes " (" ++ more)) × IsPlaceText steps place

-- a text was written that begins with a place of the whole at which what is told is wrong
pub record Tells (root : Place) (old new : String Global) : Type 0 where
  pub misfit : Misfit
  pub is_told : IsTold root misfit
  pub begins : Appends (BeginsWithPlace misfit.steps.items) old new

-- the text says that the value that these bytes read as is no job, and then the steps to a place of it at which what is
-- told is wrong
pub record TellsNoJob (d : Data) (bytes told : List ℕ) : Type 0 where
  pub misfit : Misfit
  pub is_told : IsTold (want.Job, d, tree_of bytes) misfit
  pub text : List ℕ
  pub written : told ≡ codes "not a job: " ++ text
  pub begins : BeginsWithPlace misfit.steps.items text
