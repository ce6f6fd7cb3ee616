-- The chain of a node: the nodes above it that its rows go through, up to the next sink. That is
-- the sink of a sort, of the side of a join that is built, or of the root.
use Rattle.std.specs.Prelude.{ℕ, zero, suc, List, [], ◌∷◌, Bool, ◌==◌, ◌||◌, if◌then◌else◌, Option, Some, None}
use Rattle.std.specs.List.{list_any}
use Rattle.pipe_events.specs.Stages.{Stage, feeds}
use Rattle.pipe_events.specs.Worlds.{ends}

-- operators in a row, and the sink behind them, which is named by the number of its sort or join
pub record Chain : Type 0 where
  pub operators : List ℕ
  pub sink : ℕ

abbrev pub ends_in : ℕ → Chain
ends_in sink = record { operators = []; sink = sink }

abbrev pub through_first : ℕ → Chain → Chain
through_first n chain = record { operators = n ∷ chain.operators; sink = chain.sink }

-- the greatest number below a bound that passes a test
abbrev pub last_where : (ℕ → Bool) → ℕ → Option ℕ
last_where test zero = None
last_where test (suc k) = if test k then Some k else last_where test k

-- whether the rows of a node go through a stage
abbrev pub goes_through : Stage → ℕ → Bool
goes_through stage n = list_any (λ i. i == n) (feeds stage)

-- whether a stage reads a node: its rows go through it, or end in its sink
abbrev pub reads : Stage → ℕ → Bool
reads stage n = goes_through stage n || ends stage n

module _ (stage : ℕ → Stage) (size : ℕ) where
  -- the node that reads node n, if there is one
  abbrev pub reader : ℕ → Option ℕ
  reader n = last_where (λ k. reads (stage k) n) size

  -- the chain of a node from that of its reader; nothing reads the root, whose sink is behind all
  -- nodes
  abbrev pub chain_by : (ℕ → Chain) → ℕ → Option ℕ → Chain
  chain_by above n None = ends_in size
  chain_by above n (Some r) =
      if goes_through (stage r) n then through_first r (above r) else ends_in r

  -- from so many steps on it is the same
  abbrev pub chain_in : ℕ → ℕ → Chain
  chain_in zero n = ends_in size
  chain_in (suc steps) n = chain_by (chain_in steps) n (reader n)

  abbrev pub chain_of : ℕ → Chain
  chain_of = chain_in size
