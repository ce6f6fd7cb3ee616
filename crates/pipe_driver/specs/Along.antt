-- Rows that went along a chain of operators, some of which gave rows for keys besides.
use Rattle.std.specs.Prelude.{◌≡◌, ℕ, ◌+◌, List, [], ◌∷◌, ◌++◌, false, ◌==◌, if◌then◌else◌}
use Rattle.std.specs.List.{flat_map}
use Rattle.pipe_schema.specs.Rows.{Row}
use Rattle.pipe_schema.proofs.Weights.{SameBag}
use Rattle.pipe_chain.specs.Keys.{SameKeys}
use Rattle.pipe_chain.specs.Flow.{Work, Acts}
use Rattle.pipe_driver.specs.Meaning.{Meaning, Place, OutOf, from}
use Rattle.pipe_driver.specs.State.{spread}

-- an operator makes of each row what the node makes of it; joins alone give rows for keys
pub record MakesOf (m : Meaning) (n : ℕ) (w : Work) : Type 0 where
  pub each : (row : Row) → SameBag (w.each row) (m.each n row)
  pub gains : m.is_join n ≡ false → (key : ℕ) → w.gains key ≡ []

abbrev pub AllMakeOf : Meaning → List ℕ → List Work → Type 0
AllMakeOf m [] [] = Unit {0}
AllMakeOf m [] (w ∷ ws) = ⊥
AllMakeOf m (n ∷ ops) [] = ⊥
AllMakeOf m (n ∷ ops) (w ∷ ws) = MakesOf m n w × AllMakeOf m ops ws

-- the rows that each node gave for keys
abbrev pub more_of : List ℕ → List Work → List Acts → ℕ → List Row
more_of [] ws acts j = []
more_of (n ∷ ops) [] acts j = []
more_of (n ∷ ops) (w ∷ ws) [] j = []
more_of (n ∷ ops) (w ∷ ws) (a ∷ acts) j =
    if j == n then flat_map w.gains a.won else more_of ops ws acts j

-- the rows that came to a place, of rows of node n and those given for keys
abbrev pub come_to : Meaning → (n : ℕ) → List Row → (ℕ → List Row) → Place → List Row
come_to m n rows more x = from m x n rows ++ spread m x more

-- the keys that were marked are those asked for by the rows that came out of the node before
abbrev pub AllMarked : (Place → List Row) → (given : ℕ) → List ℕ → List Work → List Acts → Type 0
AllMarked there given [] [] [] = Unit {0}
AllMarked there given [] [] (a ∷ acts) = ⊥
AllMarked there given [] (w ∷ ws) acts = ⊥
AllMarked there given (n ∷ ops) [] acts = ⊥
AllMarked there given (n ∷ ops) (w ∷ ws) [] = ⊥
AllMarked there given (n ∷ ops) (w ∷ ws) (a ∷ acts) =
    SameKeys a.marked (flat_map w.asks (there (OutOf given))) × AllMarked there n ops ws acts

-- what is counted of a node, where nodes and their counts stand beside each other
abbrev pub counted_at : ℕ → (nodes counts : List ℕ) → ℕ
counted_at t [] counts = 0
counted_at t (n ∷ nodes) [] = 0
counted_at t (n ∷ nodes) (c ∷ counts) = (if n == t then c else 0) + counted_at t nodes counts
