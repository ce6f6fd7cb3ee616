-- What the sides of a join are asked, as ways.
use Rattle.std.specs.Prelude.{◌≡◌, ◌<◌, ℕ, List, [], ◌∷◌, ◌++◌, true, Option, Some, None}
use Rattle.std.specs.List.{AllByRecursion}
use Rattle.pipe_schema.specs.Schema.{has_name, names_of}
use Rattle.pipe_schema.specs.declared.field.Field.{Field}
use Rattle.pipe_expr.specs.declared.join_words.JoinType.{JoinType}
use Rattle.pipe_expr.specs.declared.join_words.JoinType.TheVariants as how
use Rattle.pipe_plan.specs.Node.{Node}
use Rattle.pipe_plan.specs.Plan.{Plan}
use Rattle.pipe_plan.specs.Under.{is_under}
use Rattle.pipe_parts.specs.Wishes.{name_if, column_below, key_ways}
use Rattle.pipe_parts.specs.declared.wish.Wish.TheVariants.{Key}
use Rattle.pipe_parts.specs.declared.wish.Wish.{Wish}
use Rattle.pipe_parts.specs.declared.keys.Sides.{Sides}

abbrev pub sides_in : Sides → List Wish
sides_in sides = sides.left ∷ sides.right ∷ []

-- the way, if there is one
abbrev pub way_if : Option Sides → List (List Wish)
way_if None = []
way_if (Some sides) = sides_in sides ∷ []

-- the left side is asked for a key of these columns
abbrev pub IsKeyedBy : ℕ → List (List ℕ) → Option Sides → Type 0
IsKeyedBy key columns None = Unit {0}
IsKeyedBy key columns (Some sides) = sides.left ≡ Key key columns

-- where there are both, the left side is asked for the same
abbrev pub AreOneKey : Option Wish → Option Sides → Type 0
AreOneKey None keyed = Unit {0}
AreOneKey (Some below) None = Unit {0}
AreOneKey (Some below) (Some sides) = sides.left ≡ below

-- the ways of a join under a key are those of its left side, and these
abbrev pub AreKeyWays : JoinType → (keyed ways : List (List Wish)) → Type 0
AreKeyWays kind keyed ways =
    (left : List (List Wish)) → (kind ≡ how.Full → ⊥) → key_ways kind left keyed ≡ left ++ ways

-- the columns of a node below it are those of its first input, where this has them
abbrev pub IsLeftOf : Node → Type 0
IsLeftOf x =
    (input : List Field) (name : List ℕ) →
    column_below input x name ≡ name_if (has_name (names_of input) name) name

-- ---- inputs

-- the inputs of a node are smaller, and under the root
abbrev pub AreFed : Plan → (root n : ℕ) → List ℕ → Type 0
AreFed plan root n inputs =
    AllByRecursion (λ i. (i < n) × (is_under plan.nodes root i ≡ true)) inputs

abbrev pub AreSides : Plan → (root n left right : ℕ) → Type 0
AreSides plan root n left right = AreFed plan root n (left ∷ right ∷ [])
