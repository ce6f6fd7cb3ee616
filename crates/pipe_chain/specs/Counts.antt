-- How many rows each operator and the sink were given, and when that is too many.
use Rattle.std.specs.Prelude.{◌≡◌, ℕ, ◌+◌, ◌<◌, ◌≤◌, List, [], ◌∷◌, ◌++◌, length, ◌⊎◌}
use Rattle.std.specs.List.{flat_map}
use Rattle.pipe_schema.specs.Rows.{Row, Same}
use Rattle.pipe_chain.specs.Keys.{SameKeys}
use Rattle.pipe_chain.specs.Flow.{Work, Acts, made, Flows, Grown, AllGrown, Few, AllFew}
use Rattle.pipe_chain.specs.Executed.{Owed}
use Rattle.pipe_chain.specs.Parts.{Parts}

-- no count is past the limit
abbrev pub AllWithin : ℕ → List ℕ → Type 0
AllWithin limit [] = Unit {0}
AllWithin limit (n ∷ ns) = (n ≤ limit) × AllWithin limit ns

-- how many rows come into each operator, and at last into the sink
abbrev pub counts_of : List Work → List Acts → List Row → List ℕ
counts_of [] acts rows = length rows ∷ []
counts_of (w ∷ ws) [] rows = length rows ∷ []
counts_of (w ∷ ws) (a ∷ acts) rows = length rows ∷ counts_of ws acts (made w a.won rows)

-- counts of two, node by node
abbrev pub plus : List ℕ → List ℕ → List ℕ
plus [] ms = ms
plus (n ∷ ns) [] = n ∷ ns
plus (n ∷ ns) (m ∷ ms) = (n + m) ∷ plus ns ms

-- rows went through some operators, whose acts and counts were these before and after, and what
-- went out was added to what is held
pub record Went (ws : List Work) (old new : List Acts) (before after' : List ℕ)
    (rows held held' : List Row) : Type 0 where
  pub acts : List Acts
  pub out : List Row
  pub grown : AllGrown old new acts
  pub few : AllFew acts
  pub flows : Flows ws acts rows out
  pub sunk : Same held' (held ++ out)
  pub tally : after' ≡ plus before (counts_of ws acts rows)

-- the count of a node is past the limit
abbrev pub Over : ℕ → List ℕ → List ℕ → ℕ → Type 0
Over limit [] nodes node = ⊥
Over limit (n ∷ ns) [] node = ⊥
Over limit (n ∷ ns) (m ∷ ms) node = ((node ≡ m) × (limit < n)) ⊎ Over limit ns ms node

-- rows went a part of their way, on which so many came into each operator and into the sink
pub record Broke (ws : List Work) (old new : List Acts) (tally : List ℕ) (rows : List Row) :
    Type 0 where
  pub acts : List Acts
  pub grown : AllGrown old new acts
  pub parts : Parts ws acts tally rows

-- a chunk is on its way through an operator and those behind it
pub record Going (w : Work) (ws : List Work) (old new : Acts) (olds news : List Acts)
    (before after' : List ℕ) (rows : List Row) (owed : Owed) (held held' : List Row) : Type 0 where
  pub given : List Row
  pub more : Acts
  pub grown : Grown old new more
  pub keys : SameKeys (more.marked ++ owed.keys) (flat_map w.asks rows)
  pub paid : Same (given ++ owed.rows) (made w more.won rows)
  pub few : Few more
  pub went : Went ws olds news before after' given held held'
