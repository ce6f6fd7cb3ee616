-- Branches of one side of a join.
use Rattle.std.specs.Prelude.{◌≡◌, ℕ, List, [], ◌∷◌, Bool, true, not, if◌then◌else◌}
use Rattle.std.specs.List.{list_any}
use Rattle.pipe_plan.specs.Plan.{Plan}
use Rattle.pipe_plan.specs.Faults.{IsWellFormed}
use Rattle.pipe_driver.specs.Meaning.{Meaning, meaning_of}
use Rattle.pipe_driver.specs.Legs.{Way, ways_of}

-- whether those that pass a test stand in front of all others
abbrev pub is_in_front : {X : Type 0} → (X → Bool) → List X → Bool
is_in_front test [] = true
is_in_front test (x ∷ xs) = if test x then is_in_front test xs else not (list_any test xs)

-- whether those that pass a test stand one behind the other
abbrev pub is_together : {X : Type 0} → (X → Bool) → List X → Bool
is_together test [] = true
is_together test (x ∷ xs) = if test x then is_in_front test xs else is_together test xs

-- whether a branch begins on the side of a join that is built
abbrev pub begins_on : Meaning → (j : ℕ) → Way → Bool
begins_on m j p = m.side j p.start

-- those that begin on one side stand one behind the other
abbrev pub SidesStandTogether : Type 0
SidesStandTogether =
    (plan : Plan) (root j : ℕ) → IsWellFormed plan root
    → is_together (begins_on (meaning_of plan root) j) (ways_of plan root) ≡ true
