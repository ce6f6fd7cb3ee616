-- All lanes together: how what they claimed in a round went to them, and what they hold, marked and counted.
use Rattle.std.specs.Prelude.{◌≡◌, ℕ, ◌≤◌, List, [], ◌∷◌, ◌++◌, All, Option, Some, None}
use Rattle.std.specs.List.{flat_map, range_with_len}
use Rattle.pipe_schema.specs.Rows.{Row}
use Rattle.pipe_schema.specs.declared.field.Field.{Field}
use Rattle.pipe_ops.specs.declared.sink.Sink.{Ghosts as SinkWords}
use Rattle.pipe_ops.specs.declared.source.Morsel.{Morsel}
use Rattle.pipe_chain.specs.Sums.{SameItems}
use Rattle.pipe_chain.specs.Flow.{Work, Acts, added}
use Rattle.pipe_chain.specs.Counts.{AllWithin, plus, Went}
use Rattle.pipe_chain.specs.declared.operator.Operator.{Ghosts as OperatorWords}
use Rattle.pipe_run.specs.Stages.{IsOver}
use Rattle.pipe_run.specs.declared.lane.Lane.{Lane}
use Rattle.pipe_run.specs.declared.stage.LaneFault.{LaneFault}
use Rattle.pipe_run.specs.Lanes.{lane_works, lane_acts, lane_counts, lane_nodes, held_in, IsCalm, SameLane}
use Rattle.pipe_run.specs.Claimed.{Lot, Took, rows_in}

-- lanes that took what has these numbers, lane by lane
abbrev pub AllTook : {O S K B C : Type 0} → OperatorWords O S → SinkWords K B C → List S → ℕ →
    Lot → List (List ℕ) → (old new : List (Lane O K)) → Type 0
AllTook op sink ss limit lot [] [] [] = Unit {0}
AllTook op sink ss limit lot [] [] (y ∷ new) = ⊥
AllTook op sink ss limit lot [] (x ∷ old) new = ⊥
AllTook op sink ss limit lot (ns ∷ nss) [] new = ⊥
AllTook op sink ss limit lot (ns ∷ nss) (x ∷ old) [] = ⊥
AllTook op sink ss limit lot (ns ∷ nss) (x ∷ old) (y ∷ new) =
    Took op sink ss limit lot ns x y × AllTook op sink ss limit lot nss old new

-- all numbers of some lists
abbrev pub in_all : List (List ℕ) → List ℕ
in_all [] = []
in_all (ns ∷ nss) = ns ++ in_all nss

-- each of some chunks or partitions was taken by one lane, once: by the lane that noted it, and in
-- which it went through the operators
pub record Dealt {O S K B C : Type 0} (op : OperatorWords O S) (sink : SinkWords K B C)
    (ss : List S) (limit : ℕ) (lot : Lot) (old new : List (Lane O K)) : Type 0 where
  pub numbers : List (List ℕ)
  pub each_once : SameItems (in_all numbers) (range_with_len 0 lot.count)
  pub took : AllTook op sink ss limit lot numbers old new

-- what lanes drew: the numbers below one, each once, and all below the count where no lane stopped
pub record Drawn {O S K B C : Type 0} (op : OperatorWords O S) (sink : SinkWords K B C)
    (ss : List S) (limit : ℕ) (lot : Lot) (old new : List (Lane O K)) : Type 0 where
  pub numbers : List (List ℕ)
  pub claimed : ℕ
  pub once : SameItems (in_all numbers) (range_with_len 0 claimed)
  pub all : All IsCalm new → lot.count ≤ claimed
  pub took : AllTook op sink ss limit lot numbers old new

-- what the first lane does, and its nodes
abbrev pub works_in : {O K S : Type 0} → OperatorWords O S → List Field → List S →
    List (Lane O K) → List Work
works_in op from ss [] = []
works_in op from ss (x ∷ lanes) = lane_works op from ss x

abbrev pub nodes_in : {O K : Type 0} → List (Lane O K) → List ℕ
nodes_in [] = []
nodes_in (x ∷ lanes) = lane_nodes x

-- a lane with these nodes
abbrev pub HasNodes : {O K : Type 0} → List ℕ → Lane O K → Type 0
HasNodes nodes lane = lane_nodes lane ≡ nodes

-- a lane that does this, for these nodes
abbrev pub IsLike : {O K S : Type 0} → OperatorWords O S → List Field → List S → List Work →
    List ℕ → Lane O K → Type 0
IsLike op from ss works nodes lane =
    (lane_works op from ss lane ≡ works) × (lane_nodes lane ≡ nodes)

-- all lanes do the same
abbrev pub AreAlike : {O K S : Type 0} → OperatorWords O S → List Field → List S →
    List (Lane O K) → Type 0
AreAlike op from ss lanes =
    All (IsLike op from ss (works_in op from ss lanes) (nodes_in lanes)) lanes

-- what the seats of all lanes did, operator by operator
abbrev pub acts_in : {O K S : Type 0} → OperatorWords O S → List (Lane O K) → List Acts
acts_in op [] = []
acts_in op (x ∷ lanes) = added (lane_acts op x) (acts_in op lanes)

-- how many rows each node was given in all lanes
abbrev pub counts_in : {O K : Type 0} → List (Lane O K) → List ℕ
counts_in [] = []
counts_in (x ∷ lanes) = plus (lane_counts x) (counts_in lanes)

-- no count of a lane is past the limit
abbrev pub IsWithin : {O K : Type 0} → ℕ → Lane O K → Type 0
IsWithin limit lane = AllWithin limit (lane_counts lane)

-- the refusal of the least lane that was refused something
abbrev pub first_of : Option LaneFault → Option LaneFault → Option LaneFault
first_of None next = next
first_of (Some r) next = Some r

abbrev pub first_refused : {O K : Type 0} → List (Lane O K) → Option LaneFault
first_refused [] = None
first_refused (x ∷ lanes) = first_of x.refused (first_refused lanes)

-- where a lane kept a refusal, that of the least lane is told
abbrev pub IsTold : Option LaneFault → LaneFault → Type 0
IsTold None r = Unit {0}
IsTold (Some kept) r = r ≡ kept

abbrev pub TellsFirst : {O K : Type 0} → List (Lane O K) → LaneFault → Type 0
TellsFirst lanes r = IsTold (first_refused lanes) r

-- lanes that do the same as before, into sinks of the same settings, one by one
abbrev pub AllSame : {O S K B C : Type 0} → OperatorWords O S → SinkWords K B C →
    (old new : List (Lane O K)) → Type 0
AllSame op sink [] [] = Unit {0}
AllSame op sink [] (y ∷ new) = ⊥
AllSame op sink (x ∷ old) [] = ⊥
AllSame op sink (x ∷ old) (y ∷ new) = SameLane op sink x y × AllSame op sink old new

pub record DoTheSame {O S K B C : Type 0} (op : OperatorWords O S) (sink : SinkWords K B C)
    (old new : List (Lane O K)) : Type 0 where
  pub lanes : AllSame op sink old new

-- the rows of some chunks
abbrev pub rows_of_all : List Morsel → List Row
rows_of_all ms = flat_map rows_in ms

-- some rows more went through the operators of all lanes, each row in one of them
abbrev pub WentAll : {O S K B C : Type 0} → OperatorWords O S → SinkWords K B C → List S →
    List Field → List Row → (old new : List (Lane O K)) → Type 0
WentAll op sink ss from rows old new =
    Went (works_in op from ss old) (acts_in op old) (acts_in op new)
    (counts_in old) (counts_in new) rows
    (flat_map (held_in sink.held) old) (flat_map (held_in sink.held) new)

-- something was refused on their way, in a lane or in all lanes together
abbrev pub IsOverIn : {O S K : Type 0} → OperatorWords O S → List S → ℕ → List Field →
    List Row → (old new : List (Lane O K)) → LaneFault → Type 0
IsOverIn op ss limit from rows old new r =
    IsOver limit (works_in op from ss old) (acts_in op old) (acts_in op new)
    (counts_in old) (nodes_in old) rows r
