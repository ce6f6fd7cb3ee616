-- What operators that mark nothing owe by law.
use Rattle.std.proofs.Common.{◌≡◌, List, [], ◌∷◌, refl}
use Rattle.std.specs.List.{flat_map}
use Rattle.pipe_schema.specs.Rows.{Row}
use Rattle.pipe_chain.specs.Keys.{SameKeys}
use Rattle.pipe_chain.specs.Unmarking.{no_key}

pub no-keys : (rows : List Row) → flat_map no_key rows ≡ []
no-keys [] = refl
no-keys (row ∷ rows) = no-keys rows

pub no_asks : (rows : List Row) → SameKeys [] (flat_map no_key rows)
no_asks rows = rw (no-keys rows) (record { sums = λ weight. refl })
