-- In which order the members of an object stand in its text.
use Rattle.std.specs.Prelude.{◌≡◌, ◌≢◌, ◌<◌, ℕ, List, [], ◌∷◌, map, length, slice_index_or, Option, Some, None}
use Rattle.std.specs.Borrow.{Bor}
use Rattle.std.specs.BTreeMap.{BTreeMap, get_by_text}
use Rattle.std.specs.declared.alloc.Global.{Global}
use Rattle.std.specs.declared.string.String.{String}
use Rattle.json.specs.Json.{Json, Members, null, boolean, number, string, array, object, no_members, member, value}
use Rattle.json.specs.Lex.{tokens}
use Rattle.json.specs.Find as find
use Rattle.json.specs.Value.{value_view}
use Rattle.json.specs.declared.value.Value.{Value}
use Rattle.serde_json.specs.Data.{Data}
use Rattle.serde_json.specs.Read.{of_json}
use Rattle.pipe_why_text.specs.declared.steps.Step.{Step}
use Rattle.pipe_why_text.specs.declared.steps.Step.TheVariants as step
use Rattle.pipe_why_value.specs.declared.order.Last.{Last}

-- the names of members, in the order of the text
abbrev pub names : Members → List (List ℕ)
names no_members = []
names (member name j ms) = name ∷ names ms

-- those of an object, and none of what is no object
abbrev pub names_of : Json → List (List ℕ)
names_of null = []
names_of (boolean b) = []
names_of (number s) = []
names_of (string s) = []
names_of (array js) = []
names_of (object ms) = names ms

-- at a place of a list stands this name, and further behind it doesn't: of the members of a name the last one counts
abbrev pub IsLast : List (List ℕ) → ℕ → List ℕ → Type 0
IsLast names i name = (i < length names) × (slice_index_or names i [] ≡ name) × ((j : ℕ) → i < j → j < length names → slice_index_or names j [] ≢ name)

-- in the text of an object the member of a name that counts stands before that of another
abbrev pub StandsBefore : Json → (other name : List ℕ) → Type 0
StandsBefore t other name = (i j : ℕ) × (i < j) × IsLast (names_of t) i other × IsLast (names_of t) j name

abbrev pub or_null : Option Json → Json
or_null None = null
or_null (Some j) = j

-- how the part is written to which a step leads
abbrev pub tree_part : Step → Json → Json
tree_part (step.Member name) t = or_null (find.get name t)
tree_part (step.Item i) t = or_null (find.at i t)

abbrev pub first_of : Option (Json × List Rattle.json.specs.Token.Token) → Option Json
first_of None = None
first_of (Some p) = Some p.0

-- how the value at the front of a text is written, null where there is none
abbrev pub tree_of : List ℕ → Json
tree_of text = or_null (first_of (value 127 (tokens text)))

-- a value is written so
abbrev pub IsWritten : Json → Data → Type 0
IsWritten t d = of_json t ≡ Some d

-- how a part is written, null where that isn't told
abbrev pub written : Option (Bor (Value Global)) → Json
written None = null
written (Some v) = value_view v.now

-- the names of members that were read
abbrev pub names_in : List (Bor (List ℕ) × Value Global) → List (List ℕ)
names_in members = map (λ m. m.0.now) members

-- of so many names the last ones
pub record AreLasts (names : List (List ℕ)) (n : ℕ) (lasts : BTreeMap (String Global) Last) : Type 0 where
  pub last : (name : List ℕ) (l : Last) → get_by_text lasts name ≡ Some l
      → (l.place < n) × (slice_index_or names l.place [] ≡ name) × ((j : ℕ) → l.place < j → j < n → slice_index_or names j [] ≢ name)
  pub each : (j : ℕ) → j < n → get_by_text lasts (slice_index_or names j []) ≢ None
