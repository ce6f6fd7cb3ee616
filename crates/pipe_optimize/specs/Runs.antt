-- Lists of names that lie in runs: each is the first so many names of a run.
use Rattle.std.specs.Prelude.{◌≡◌, ◌<◌, ◌≤◌, ◌++◌, ℕ, List, map, take, length}
use Rattle.std.specs.List.{AllByRecursion}
use Rattle.pipe_optimize.specs.declared.name_lists.Place.{Place}
use Rattle.pipe_optimize.specs.Lists.{names_at}

-- the names that stand where a place tells
abbrev pub names_in : List (List (List ℕ)) → Place → List (List ℕ)
names_in runs place = take place.len (names_at runs place.run)

abbrev pub lists_in : List (List (List ℕ)) → List Place → List (List (List ℕ))
lists_in runs places = map (names_in runs) places

-- a list ends within its run
abbrev pub IsWithin : List (List (List ℕ)) → Place → Type 0
IsWithin runs place = place.len ≤ length (names_at runs place.run)

abbrev pub AreWithin : List (List (List ℕ)) → List Place → Type 0
AreWithin runs places = AllByRecursion (IsWithin runs) places

-- names begin with what they were
pub record HasGrown (old new : List (List ℕ)) : Type 0 where
  pub more : List (List ℕ)
  pub is : new ≡ old ++ more

-- each run begins with what it was
abbrev pub HaveGrown : List (List (List ℕ)) → List (List (List ℕ)) → Type 0
HaveGrown old new = (r : ℕ) → HasGrown (names_at old r) (names_at new r)

-- a list is a run as a whole
pub record IsWhole
    (runs : List (List (List ℕ))) (places : List Place) (list run : ℕ) : Type 0 where
  pub there : run < length runs
  pub same : names_at runs run ≡ names_at (lists_in runs places) list
