-- The places of a value, and what is told of one: that something else stands there than may.
use Rattle.std.specs.Prelude.{◌≡◌, ◌≢◌, ◌<◌, ◌⊎◌, ℕ, List, [], ◌∷◌, ◌++◌, codes, length, take, ◌-◌, slice_index_or, ◌||◌, if◌then◌else◌, is_some, Option, Some, None, option_and_then, Bool, true, false}
use Rattle.serde_json.specs.Data.{Data, null, string}
use Rattle.serde_json.specs.Find.{at, get}
use Rattle.json.specs.Json.{Json}
use Rattle.pipe_value.specs.Items.{elements}
use Rattle.pipe_schema.specs.declared.data_type.DataType.{DataType}
use Rattle.pipe_job.specs.Shape.{contains_text, is_cell, is_single, text_in}
use Rattle.pipe_why_text.specs.declared.steps.Step.{Step}
use Rattle.pipe_why_text.specs.declared.steps.Step.TheVariants as step
use Rattle.pipe_why_text.specs.Members.{HasMember, item_wanted, member_wanted, members_in, members_of, want_in}
use Rattle.pipe_why_text.specs.Wanted.{Misspells, form_words, is_wanted}
use Rattle.pipe_why_text.specs.declared.want.Foreign.TheVariants as foreign
use Rattle.pipe_why_text.specs.declared.want.Want.{Want}
use Rattle.pipe_why_text.specs.declared.want.Want.TheVariants as want
use Rattle.pipe_why_value.specs.Order.{StandsBefore, tree_part}
use Rattle.pipe_why_value.specs.declared.input_kind.InputKind.{InputKind}
use Rattle.pipe_why_value.specs.declared.input_kind.InputKind.TheVariants as kind
use Rattle.pipe_why_value.specs.declared.wrong.Misfit.{Misfit}
use Rattle.pipe_why_value.specs.declared.wrong.Wrong.{Wrong}
use Rattle.pipe_why_value.specs.declared.wrong.Wrong.TheVariants as wrong

-- ---- places

-- the part of a value to which a step leads
abbrev pub part : Step → Data → Option Data
part (step.Member name) d = get name d
part (step.Item i) d = at i d

-- the part to which steps lead
abbrev pub part_at : List Step → Data → Option Data
part_at [] d = Some d
part_at (s ∷ steps) d = option_and_then (part_at steps) (part s d)

-- the name of the member to which a step leads, the empty one where it leads to an item
abbrev pub name_of : Step → List ℕ
name_of (step.Member name) = name
name_of (step.Item i) = []

-- the name of the member to which the last step leads
abbrev pub last_name : List Step → List ℕ
last_name [] = []
last_name (s ∷ []) = name_of s
last_name (s ∷ t ∷ steps) = last_name (t ∷ steps)

-- ---- what may stand at a place

-- a place of a whole: what may stand there, what does, and how that is written in the text
abbrev pub Place : Type 0
Place = Want × Data × Json

-- what may stand where a step leads
abbrev pub wanted : Step → Place → Option Want
wanted (step.Member name) p = member_wanted p.0 p.1 name
wanted (step.Item i) p = item_wanted p.0 i

abbrev pub both : Option Want → Option Data → Json → Option Place
both None d t = None
both (Some w) None t = None
both (Some w) (Some d) t = Some (w, d, t)

-- the place to which a step leads: none where nothing stands there, or nothing may
abbrev pub wanted_part : Step → Place → Option Place
wanted_part s p = both (wanted s p) (part s p.1) (tree_part s p.2)

-- the same of steps
abbrev pub wanted_at : List Step → Place → Option Place
wanted_at [] p = Some p
wanted_at (s ∷ steps) p = option_and_then (wanted_at steps) (wanted_part s p)

-- ---- what stands before a place

-- what stands at a place spells what may stand there, and so does what stands at each place within it
abbrev pub IsGood : Place → Type 0
IsGood p = (steps : List Step) (q : Place) → wanted_at steps p ≡ Some q → is_wanted q.0 q.1 ≡ true

-- so is what stands where a step leads
abbrev pub IsGoodPart : Place → Step → Type 0
IsGoodPart p s = (q : Place) → wanted_part s p ≡ Some q → IsGood q

-- so is each part of what stands at a place
abbrev pub AreGoodParts : Place → Type 0
AreGoodParts p = (s : Step) → IsGoodPart p s

abbrev pub IsGoodItem : Place → ℕ → Type 0
IsGoodItem p i = IsGoodPart p (step.Item i)

-- so is each item before a place
abbrev pub AreGoodBefore : Place → ℕ → Type 0
AreGoodBefore p i = (j : ℕ) → j < i → IsGoodItem p j

-- a step leads to a member or an item before which, in the order of the text, each is good
abbrev pub Passes : Step → Place → Type 0
Passes (step.Member name) p = (other : List ℕ) → StandsBefore p.2 other name → IsGoodPart p (step.Member other)
Passes (step.Item i) p = AreGoodBefore p i

-- each step does, where something may stand before it
abbrev pub PassGoodParts : List Step → Place → Type 0
PassGoodParts [] p = Unit {0}
PassGoodParts (s ∷ steps) p = Passes s p × ((q : Place) → wanted_part s p ≡ Some q → PassGoodParts steps q)

-- whether a value has a member
abbrev pub has_member : List ℕ → Data → Bool
has_member name d = is_some (get name d)

-- what a value is by its members: a job wherever it has a plan, or no member that a job hasn't
abbrev pub kind_of : Data → InputKind
kind_of d =
    if has_member (codes "plan") d then kind.Job
    else if has_member (codes "edits") d || has_member (codes "join") d then kind.Edits
    else if has_member (codes "on") d || has_member (codes "join_nulls") d then kind.Reconciliation
    else kind.Job

-- what the whole of an input should be
abbrev pub whole_want : InputKind → Want
whole_want kind.Job = want.Job
whole_want kind.Reconciliation = want.Foreign foreign.Reconciliation
whole_want kind.Edits = want.Foreign foreign.Replay

-- ---- what is wrong at a place

-- the item at a place is no cell of a type
abbrev pub IsBadCell : DataType → Data → ℕ → Type 0
IsBadCell t d row = (row < length (elements d)) × (is_cell t (slice_index_or (elements d) row null) ≡ false)

-- so is the item at a place of a pair, by the type beside the place
abbrev pub IsBadPair : Data → ℕ × DataType → Type 0
IsBadPair d p = IsBadCell p.1 d p.0

-- what is told of a value to which these steps lead is wrong with it
abbrev pub IsWrong : Wrong → List Step → Data → Type 0
IsWrong (wrong.Other w) steps d = Misspells w d
IsWrong (wrong.Missing name w) steps d = get name.now d ≡ None
IsWrong (wrong.Unknown known) steps d = want_in (members_in known.now) (last_name steps) ≡ None
IsWrong wrong.UnknownForm steps d = contains_text form_words (last_name steps) ≡ false
IsWrong (wrong.Members count) steps d = is_single d ≡ false
IsWrong (wrong.Cell t column count) steps d = is_cell t d ≡ false
IsWrong wrong.Wide steps d = d ≡ string (codes "Int128")
IsWrong wrong.NoColumns steps d = elements d ≡ []
IsWrong (wrong.SecondName earlier) steps d = Unit {0}
IsWrong (wrong.Height cells wanted) steps d = (length (elements d) ≡ cells) × (cells ≢ wanted)
IsWrong (wrong.Frames count) steps d = (length (elements d) ≡ count) × (count ≢ 2)
IsWrong (wrong.Parts count) steps d = (length (elements d) ≡ count) × (count ≢ 3)
IsWrong (wrong.Width cells columns) steps d = (length (elements d) ≡ cells) × (cells ≢ columns)

-- of the whole these steps lead to where this may stand
abbrev pub MayStand : Place → List Step → Want → Type 0
MayStand root steps w = (d : Data) × (t : Json) × (wanted_at steps root ≡ Some (w, d, t))

-- the steps lead to a member of an object in whose place this may stand, and which may have these members
pub record IsMember (root : Place) (steps : List Step) (table : List (List ℕ × Want)) : Type 0 where
  pub above : List Step
  pub name : List ℕ
  pub object : Place
  pub steps_are : steps ≡ above ++ step.Member name ∷ []
  pub stands : wanted_at above root ≡ Some object
  pub table_is : table ≡ members_of object.0 object.1

-- the steps lead to an object that may have a member
pub record MayHave (root : Place) (steps : List Step) (member : List ℕ × Want) : Type 0 where
  pub object : Place
  pub stands : wanted_at steps root ≡ Some object
  pub has : HasMember (members_of object.0 object.1) member

-- the steps lead to a cell of a column of a type, or of a row of an edit
pub record IsCellOf (root : Place) (steps : List Step) (t : DataType) : Type 0 where
  pub above : List Step
  pub place : ℕ
  pub steps_are : steps ≡ above ++ step.Item place ∷ []
  pub stands : MayStand root above (want.Cells t) ⊎ MayStand root above (want.Foreign foreign.Row)

-- the name of the column at a place
abbrev pub name_at : Data → ℕ → List ℕ
name_at columns i = text_in (get (codes "name") (slice_index_or (elements columns) i null))

-- the steps lead to the name of a column that an earlier one has
pub record IsSecond (root : Place) (steps : List Step) (earlier : ℕ) : Type 0 where
  pub above : List Step
  pub columns : Data
  pub tree : Json
  pub place : ℕ
  pub steps_are : steps ≡ above ++ step.Item place ∷ step.Member (codes "name") ∷ []
  pub stands : wanted_at above root ≡ Some (want.Columns, columns, tree)
  pub before : earlier < place
  pub same : name_at columns earlier ≡ name_at columns place

-- what is told to be wanted where these steps lead is what may stand there, and what is said of what stands elsewhere
-- is so
abbrev pub IsOwn : Place → Wrong → List Step → Type 0
IsOwn root (wrong.Other w) steps = MayStand root steps w
IsOwn root (wrong.Missing name w) steps = MayHave root steps (name.now, w)
IsOwn root (wrong.Unknown known) steps = IsMember root steps (members_in known.now)
IsOwn root wrong.UnknownForm steps = (above : List Step) × (name : List ℕ) × (steps ≡ above ++ step.Member name ∷ []) × MayStand root above want.Expr
IsOwn root (wrong.Members count) steps = MayStand root steps want.Expr
IsOwn root (wrong.Cell t column count) steps = IsCellOf root steps t
IsOwn root wrong.Wide steps = MayStand root steps want.Type
IsOwn root wrong.NoColumns steps = MayStand root steps want.Columns
IsOwn root (wrong.SecondName earlier) steps = IsSecond root steps earlier
IsOwn root (wrong.Height cells wanted) steps = Unit {0}
IsOwn root (wrong.Frames count) steps = MayStand root steps (want.Foreign foreign.TwoFrames)
IsOwn root (wrong.Parts count) steps = MayStand root steps (want.Foreign foreign.Edit)
IsOwn root (wrong.Width cells columns) steps = MayStand root steps (want.Foreign foreign.Row)

-- no place within the one to which these steps lead is at fault: each part of what stands there, and each part of these,
-- spells what may stand there
abbrev pub IsInnermost : Place → List Step → Type 0
IsInnermost root steps = (p : Place) → wanted_at steps root ≡ Some p → AreGoodParts p

-- where another value is told than may stand there, a member that isn't there, or a column of another height, no place
-- within is at fault; what else is told has no parts of which anything is wanted, or is told before they are looked at, as
-- that an expression has several members
abbrev pub IsInner : Place → Wrong → List Step → Type 0
IsInner root (wrong.Other w) steps = IsInnermost root steps
IsInner root (wrong.Missing name w) steps = IsInnermost root steps
IsInner root (wrong.Unknown known) steps = Unit {0}
IsInner root wrong.UnknownForm steps = Unit {0}
IsInner root (wrong.Members count) steps = Unit {0}
IsInner root (wrong.Cell t column count) steps = Unit {0}
IsInner root wrong.Wide steps = Unit {0}
IsInner root wrong.NoColumns steps = Unit {0}
IsInner root (wrong.SecondName earlier) steps = Unit {0}
IsInner root (wrong.Height cells wanted) steps = IsInnermost root steps
IsInner root (wrong.Frames count) steps = Unit {0}
IsInner root (wrong.Parts count) steps = Unit {0}
IsInner root (wrong.Width cells columns) steps = Unit {0}

-- of what is told no place within is at fault
abbrev pub TellsInner : Place → Misfit → Type 0
TellsInner root m = IsInner root m.wrong m.steps.items

-- a value stands where the steps of what is told lead in the whole, what is told is wrong with it, what is told to be wanted
-- there is what may stand there, in each array and object on the way it is in the first part, in the order of the text, that
-- is wrong, and no place within it is at fault
pub record IsTold (root : Place) (m : Misfit) : Type 0 where
  pub value : Data
  pub stands : part_at m.steps.items root.1 ≡ Some value
  pub wrong : IsWrong m.wrong m.steps.items value
  pub own : IsOwn root m.wrong m.steps.items
  pub first : PassGoodParts m.steps.items root
  pub inner : TellsInner root m
