-- Branches as far as they go: their legs, and the operators behind the last sink where they are open.
use Rattle.std.proofs.Common.{◌≡◌, ℕ, ◌+◌, ◌<◌, Bool, true, false, not, cond, ◌||◌, ◌==◌, List, [], ◌∷◌, ◌++◌, map}
use Rattle.std.specs.List.{flat_map, AllByRecursion}
use Rattle.pipe_schema.specs.Weights.{total}
use Rattle.pipe_driver.specs.declared.branch.SinkAt.{SinkAt}
use Rattle.pipe_driver.specs.declared.branch.SinkAt.TheVariants as at
use Rattle.pipe_driver.specs.Shape.{Kind, Begins, Each, Unites, Joins, Sorts}
use Rattle.pipe_driver.specs.Meaning.{Meaning, Tree}
use Rattle.pipe_driver.specs.Legs.{Leg}
use Rattle.pipe_driver.specs.Ways.{one, occurs, legs_to, legs_through, starts_from, IsSinkOf}

pub record Trail : Type 0 where
  pub start : ℕ
  pub legs : List Leg
  pub from : ℕ
  pub operators : List ℕ
  pub is_open : Bool

abbrev pub trail_from : ℕ → Trail
trail_from n = record { start = n; legs = []; from = n; operators = []; is_open = true }

abbrev pub put_operator : ℕ → Trail → Trail
put_operator n p = record { start = p.start; legs = p.legs; from = p.from; operators = p.operators ++ n ∷ []; is_open = p.is_open }

abbrev pub put_sink : Bool → SinkAt → ℕ → Trail → Trail
put_sink goes_on a s p = record {
  start = p.start;
  legs = p.legs ++ record { operators = p.operators; at = a; sink = s } ∷ [];
  from = s;
  operators = [];
  is_open = goes_on;
}

abbrev pub through : ℕ → Trail → Trail
through n p = cond p.is_open (put_operator n p) p

abbrev pub closed_by : SinkAt → ℕ → Trail → Trail
closed_by a s p = cond p.is_open (put_sink false a s p) p

-- each open one gets a sink; the first goes on, unless one went on before, the others end
abbrev pub sunk : SinkAt → ℕ → Bool → List Trail → List Trail
sunk a n is_passed [] = []
sunk a n is_passed (p ∷ ps) = cond p.is_open (put_sink (not is_passed) a n p) p ∷ sunk a n (is_passed || p.is_open) ps

abbrev pub trails_by : (ℕ → List Trail) → ℕ → Kind → List Trail
trails_by below n Begins = trail_from n ∷ []
trails_by below n (Each i) = map (through n) (below i)
trails_by below n (Unites is) = map (through n) (flat_map below is)
trails_by below n (Joins b p) = map (closed_by (at.Build n) n) (below b) ++ map (through n) (below p)
trails_by below n (Sorts i) = sunk (at.Sort n) n false (below i)

abbrev pub AreTrails : Tree → (ℕ → List Trail) → Type 0
AreTrails t trails = (n : ℕ) → t.under t.root n ≡ true → trails n ≡ trails_by trails n (t.kind n)

-- ---- what is counted of them

abbrev pub trail_to : ℕ → Trail → ℕ
trail_to s p = legs_to s p.legs

abbrev pub trail_through : ℕ → Trail → ℕ
trail_through j p = legs_through j p.legs + cond p.is_open (occurs j p.operators) 0

-- an open one begins one leg more
abbrev pub trail_starts : Trail → List ℕ
trail_starts p = starts_from p.start p.legs ++ cond p.is_open (p.from ∷ []) []

abbrev pub opened : Trail → ℕ
opened p = one p.is_open

abbrev pub last_of : ℕ → List Leg → ℕ
last_of start [] = start
last_of start (leg ∷ legs) = last_of leg.sink legs

-- ---- what is expected of them

pub record IsStep (m : Meaning) (start : ℕ) (leg : Leg) (goes_on : Bool) : Type 0 where
  pub chain : leg.operators ≡ m.above start
  pub chain_sink : leg.sink ≡ m.above_sink start
  pub up : start < leg.sink
  pub sides : (j : ℕ) → m.side j leg.sink ≡ true → m.side j start ≡ true
  pub at : IsSinkOf m leg.sink leg.at
  pub on : goes_on ≡ true → m.is_sort leg.sink ≡ true

abbrev pub some_legs : List Leg → Bool → Bool
some_legs [] b = b
some_legs (leg ∷ legs) b = true

-- legs from a node, behind which a trail is open or not
abbrev pub AreSteps : Meaning → ℕ → List Leg → Bool → Type 0
AreSteps m start [] b = Unit {0}
AreSteps m start (leg ∷ legs) b = IsStep m start leg (some_legs legs b) × AreSteps m leg.sink legs b

abbrev pub Behind : Meaning → Trail → List Trail → Type 0
Behind m p later = (j s : ℕ) → 0 < trail_through j p → m.side j s ≡ true → trail_to s p + total (trail_to s) later ≡ 0

abbrev pub AreOrdered : Meaning → List Trail → Type 0
AreOrdered m [] = Unit {0}
AreOrdered m (p ∷ ps) = Behind m p ps × AreOrdered m ps

-- a trail that stands at node n, where it is open
pub record IsTrail (m : Meaning) (within : ℕ → Bool) (n : ℕ) (p : Trail) : Type 0 where
  pub legs : AreSteps m p.start p.legs p.is_open
  pub from : p.is_open ≡ true → last_of p.start p.legs ≡ p.from
  pub within_from : p.is_open ≡ true → within p.from ≡ true
  pub above : p.is_open ≡ true → m.above p.from ≡ p.operators ++ m.above n
  pub above_sink : p.is_open ≡ true → m.above_sink p.from ≡ m.above_sink n
  pub ended : p.is_open ≡ false → p.legs ≡ [] → ⊥

-- What holds of trails: their sinks are `within`, and so are the nodes that they go through, but for a join that is
-- `free`, which is fed elsewhere; each is what is asked of one
pub record IsCut (m : Meaning) (within free : ℕ → Bool) (P : Trail → Type 0) (sources joins : List ℕ) (ps : List Trail) : Type 0 where
  pub sinks : (s : ℕ) → 0 < total (trail_to s) ps → within s ≡ true
  pub passed : (j : ℕ) → 0 < total (trail_through j) ps → free j ≡ false → within j ≡ true
  pub fed : (j : ℕ) → m.is_join j ≡ true → 0 < total (trail_through j) ps → free j ≡ false → 0 < total (trail_to j) ps
  pub met : (j : ℕ) → 0 < occurs j joins → 0 < total (trail_through j) ps
  pub order : AreOrdered m ps
  pub each : AllByRecursion P ps
  pub starts : (h : ℕ → ℕ) → total h (flat_map trail_starts ps) ≡ total h sources

abbrev pub none_free : ℕ → Bool
none_free j = false

abbrev pub is_free : ℕ → ℕ → Bool
is_free n j = n == j

abbrev pub or_own : (ℕ → Bool) → ℕ → ℕ → Bool
or_own within n k = within k || (n == k)

-- the trails of a node, of which some is open
pub record IsCutAt (m : Meaning) (within : ℕ → Bool) (n : ℕ) (sources joins : List ℕ) (ps : List Trail) : Type 0 where
  pub cut : IsCut m within none_free (IsTrail m within n) sources joins ps
  pub some : 0 < total opened ps
