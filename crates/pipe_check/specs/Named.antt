-- Things that have names, and where a name stands among them.
use Rattle.std.specs.Prelude.{ℕ, List, [], ◌∷◌, if◌then◌else◌, Option, Some, None}
use Rattle.std.specs.Str.{bytes_eq}

-- the first of some things that has a name
abbrev pub first_named : {N : Type 0} → (N → List ℕ) → List N → List ℕ → Option N
first_named name_of [] name = None
first_named name_of (x ∷ xs) name =
    if bytes_eq (name_of x) name then Some x else first_named name_of xs name
