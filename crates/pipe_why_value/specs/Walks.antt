-- What a walk through a value tells, and what a part of it leaves.
use Rattle.std.specs.Prelude.{◌≡◌, ◌<◌, ℕ, List, [], ◌∷◌, ◌++◌, Option, Some, None, option_and_then, IfSome, String, slice_index_or, true}
use Rattle.std.specs.BTreeMap.{BTreeMap, get_by_text}
use Rattle.std.specs.declared.alloc.Global.{Global}
use Rattle.serde_json.specs.Data.{Data, null}
use Rattle.pipe_value.specs.Items.{elements}
use Rattle.pipe_job.specs.Shape.{is_cell}
use Rattle.pipe_schema.specs.declared.data_type.DataType.{DataType}
use Rattle.pipe_why_text.specs.declared.steps.Step.{Step}
use Rattle.pipe_why_text.specs.Members.{beside}
use Rattle.pipe_why_text.specs.declared.want.Want.{Want}
use Rattle.pipe_why_text.specs.declared.want.Want.TheVariants as want
use Rattle.pipe_why_value.specs.Places.{IsBadCell, IsInner, IsOwn, IsTold, IsWrong, PassGoodParts, Place, name_at, part_at, wanted_at}
use Rattle.pipe_why_value.specs.declared.looking.MemberWant.{MemberWant}
use Rattle.pipe_why_value.specs.declared.looking.MemberWant.TheVariants as member
use Rattle.pipe_why_value.specs.declared.walk.Walk.{Walk}
use Rattle.pipe_why_value.specs.declared.wrong.Misfit.{Misfit}
use Rattle.pipe_why_value.specs.declared.wrong.Wrong.{Wrong}

-- what is told stays rightly told
abbrev pub StaysTold : Place → (old new : Walk) → Type 0
StaysTold root old new = IfSome old.first (IsTold root) → IfSome new.first (IsTold root)

-- as long as nothing is told, the parts that were passed on the way are good
abbrev pub Passed : Place → List Step → Walk → Type 0
Passed root steps walk = walk.first ≡ None → PassGoodParts steps root

-- a part of a walk that stands at a value, in whose place this may stand, ends where it began, what was told first is
-- told still, and what is told then is wrong where it is told
pub record Looked (p : Place) (old new : Walk) : Type 0 where
  pub back : new.steps.items ≡ old.steps.items
  pub kept : (m : Misfit) → old.first ≡ Some m → new.first ≡ Some m
  pub told : (root : Place) → wanted_at old.steps.items root ≡ Some p → Passed root old.steps.items old → StaysTold root old new

-- so does one that stands a step behind it
pub record Within (p : Place) (s : Step) (old new : Walk) : Type 0 where
  pub back : new.steps.items ≡ old.steps.items
  pub kept : (m : Misfit) → old.first ≡ Some m → new.first ≡ Some m
  pub told : (root : Place) (above : List Step) → old.steps.items ≡ above ++ s ∷ [] → wanted_at above root ≡ Some p
      → Passed root above old → StaysTold root old new

-- something wrong was noted where the walk stands
pub record Noted (wrong : Wrong) (old new : Walk) : Type 0 where
  pub back : new.steps.items ≡ old.steps.items
  pub kept : (m : Misfit) → old.first ≡ Some m → new.first ≡ Some m
  pub told : (root : Place) (d : Data) → part_at old.steps.items root.1 ≡ Some d → IsWrong wrong old.steps.items d
      → IsOwn root wrong old.steps.items → (old.first ≡ None → PassGoodParts old.steps.items root)
      → (old.first ≡ None → IsInner root wrong old.steps.items) → StaysTold root old new

-- a step was made
pub record Entered (s : Step) (old new : Walk) : Type 0 where
  pub steps : new.steps.items ≡ old.steps.items ++ s ∷ []
  pub first : new.first ≡ old.first

-- the last step was taken back
pub record Left (old new : Walk) : Type 0 where
  pub steps : (steps : List Step) (s : Step) → old.steps.items ≡ steps ++ s ∷ [] → new.steps.items ≡ steps
  pub first : new.first ≡ old.first

-- each cell before a place is one of the type
abbrev pub AreCellsBefore : DataType → Data → ℕ → Type 0
AreCellsBefore t d n = (j : ℕ) → j < n → is_cell t (slice_index_or (elements d) j null) ≡ true

-- of the cells before a place the first that is none of the type, if there is one
abbrev pub IsFirstBad : DataType → Data → ℕ → Option ℕ → Type 0
IsFirstBad t d n None = AreCellsBefore t d n
IsFirstBad t d n (Some row) = IsBadCell t d row × AreCellsBefore t d row

-- the names of the columns before a place, each with the place of one
abbrev pub AreNames : Data → ℕ → BTreeMap (String Global) ℕ → Type 0
AreNames columns i names = (name : List ℕ) (j : ℕ) → get_by_text names name ≡ Some j → (j < i) × (name_at columns j ≡ name)

-- what is wanted of a member, by what its table says and the type that its object tells
abbrev pub IsWantBy : Option Want → Option DataType → MemberWant → Type 0
IsWantBy said t (member.Is w) = option_and_then (beside t) said ≡ Some w
IsWantBy said t (member.Cells u) = option_and_then (beside t) said ≡ Some (want.Cells u)
IsWantBy said t member.Untold = option_and_then (beside t) said ≡ None
IsWantBy said t member.Unknown = said ≡ None
