-- What is counted and expected of branches, as far as they haven't run.
use Rattle.std.specs.Prelude.{◌≡◌, ℕ, ◌+◌, ◌<◌, ◌≤◌, List, [], ◌∷◌, ◌++◌, true, false, Bool, ◌==◌, if◌then◌else◌}
use Rattle.std.specs.List.{flat_map, AllByRecursion}
use Rattle.pipe_schema.specs.Rows.{Row, Same}
use Rattle.pipe_schema.specs.Weights.{total}
use Rattle.pipe_driver.specs.declared.branch.SinkAt.{SinkAt}
use Rattle.pipe_driver.specs.declared.branch.SinkAt.TheVariants as at
use Rattle.pipe_driver.specs.Meaning.{Meaning, Place, comes, from, is_place, due}
use Rattle.pipe_driver.specs.Legs.{Leg, Way}

abbrev pub one : Bool → ℕ
one b = if b then 1 else 0

-- how often a number stands in a list
abbrev pub occurs : ℕ → List ℕ → ℕ
occurs n [] = 0
occurs n (k ∷ ks) = one (k == n) + occurs n ks

-- ---- sinks that are fed

abbrev pub legs_to : ℕ → List Leg → ℕ
legs_to s [] = 0
legs_to s (leg ∷ legs) = one (leg.sink == s) + legs_to s legs

abbrev pub way_to : ℕ → Way → ℕ
way_to s p = legs_to s p.legs

-- how many legs feed a sink
abbrev pub feeds : ℕ → List Way → ℕ
feeds s ps = total (way_to s) ps

-- ---- operators that are come to

abbrev pub legs_through : ℕ → List Leg → ℕ
legs_through n [] = 0
legs_through n (leg ∷ legs) = occurs n leg.operators + legs_through n legs

abbrev pub way_through : ℕ → Way → ℕ
way_through n p = legs_through n p.legs

-- how many legs go through a node
abbrev pub passes : ℕ → List Way → ℕ
passes n ps = total (way_through n) ps

-- ---- nodes where legs begin

abbrev pub starts : ℕ → ℕ → List Leg → ℕ
starts n start [] = 0
starts n start (leg ∷ legs) = one (start == n) + starts n leg.sink legs

abbrev pub way_starts : ℕ → Way → ℕ
way_starts n p = starts n p.start p.legs

-- how many legs begin at a node
abbrev pub begun : ℕ → List Way → ℕ
begun n ps = total (way_starts n) ps

-- the nodes where the legs of a branch begin, in order
abbrev pub starts_from : ℕ → List Leg → List ℕ
starts_from start [] = []
starts_from start (leg ∷ legs) = start ∷ starts_from leg.sink legs

abbrev pub starts_of : Way → List ℕ
starts_of p = starts_from p.start p.legs

-- ---- the rows that come to a place

-- what a leg from a node brings there
abbrev pub leg_brings : Meaning → Place → ℕ → Leg → List Row
leg_brings m x start leg = comes m.each x start leg.operators leg.sink (m.rows start)

abbrev pub legs_bring : Meaning → Place → ℕ → List Leg → List Row
legs_bring m x start [] = []
legs_bring m x start (leg ∷ legs) = leg_brings m x start leg ++ legs_bring m x leg.sink legs

abbrev pub way_brings : Meaning → Place → Way → List Row
way_brings m x p = legs_bring m x p.start p.legs

-- what branches bring
abbrev pub brought : Meaning → Place → List Way → List Row
brought m x ps = flat_map (way_brings m x) ps

-- what a join's own rows bring, along its chain
abbrev pub own_brings : Meaning → Place → ℕ → List Row
own_brings m x j = from m x j (m.own j)

-- ---- a branch is a chain upwards

-- a leg's sink is that of its node
abbrev pub IsSinkOf : Meaning → ℕ → SinkAt → Type 0
IsSinkOf m sink at.Ordered = sink ≡ m.ordered
IsSinkOf m sink (at.Sort n) = (sink ≡ n) × (m.is_sort n ≡ true)
IsSinkOf m sink (at.Build n) = (sink ≡ n) × (m.is_join n ≡ true)

-- only behind a sort's sink is there a further leg
abbrev pub MayGoOn : Meaning → ℕ → List Leg → Type 0
MayGoOn m sink [] = Unit {0}
MayGoOn m sink (leg ∷ legs) = m.is_sort sink ≡ true

pub record IsLeg (m : Meaning) (start : ℕ) (leg : Leg) (legs : List Leg) : Type 0 where
  -- it has the operators and the sink of the chain of where it begins
  pub chain : leg.operators ≡ m.above start
  pub chain_sink : leg.sink ≡ m.above_sink start
  pub up : start < leg.sink
  -- the sides of joins that its sink is of, it begins in too
  pub sides : (j : ℕ) → m.side j leg.sink ≡ true → m.side j start ≡ true
  pub at : IsSinkOf m leg.sink leg.at
  pub on : MayGoOn m leg.sink legs

abbrev pub AreLegs : Meaning → ℕ → List Leg → Type 0
AreLegs m start [] = Unit {0}
AreLegs m start (leg ∷ legs) = IsLeg m start leg legs × AreLegs m leg.sink legs

-- a branch that has legs
pub record IsWay (m : Meaning) (p : Way) : Type 0 where
  pub some : p.legs ≡ [] → ⊥
  pub legs : AreLegs m p.start p.legs

-- ---- sides that are built come first

-- no leg of a branch, and none of those behind it, feeds a sink of the built side of a join that
-- the branch goes through
abbrev pub Behind : Meaning → Way → List Way → Type 0
Behind m p later =
    (j s : ℕ) → 0 < way_through j p → m.side j s ≡ true → way_to s p + feeds s later ≡ 0

abbrev pub AreOrdered : Meaning → List Way → Type 0
AreOrdered m [] = Unit {0}
AreOrdered m (p ∷ ps) = Behind m p ps × AreOrdered m ps

-- ---- what makes branches run

pub record CanRun (m : Meaning) (ps : List Way) : Type 0 where
  pub ways : AllByRecursion (IsWay m) ps
  pub order : AreOrdered m ps
  -- at most one leg begins at a node
  pub once : (n : ℕ) → begun n ps ≤ 1
  -- each join that is gone through is fed, and each join under the root is gone through
  pub fed : (j : ℕ) → m.is_join j ≡ true → 0 < passes j ps → 0 < feeds j ps
  pub come_to : (j : ℕ) → 0 < occurs j m.joins → 0 < passes j ps
  pub root : 0 < feeds m.ordered ps
  -- what legs and the joins' own rows bring to a place is what has to come there
  pub rows : (x : Place) → is_place m x ≡ true →
      Same (brought m x ps ++ flat_map (own_brings m x) m.joins) (due m x)

-- ---- what the meaning of each plan grants

pub record IsSoundMeaning (m : Meaning) : Type 0 where
  pub apart : (n : ℕ) → m.is_sort n ≡ true → m.is_join n ≡ true → ⊥
  pub low_sort : (n : ℕ) → m.is_sort n ≡ true → n < m.ordered
  pub low_join : (n : ℕ) → m.is_join n ≡ true → n < m.ordered
  -- the joins, each once; no other node has rows of its own
  pub few : (n : ℕ) → occurs n m.joins ≤ 1
  pub listed : (n : ℕ) → m.is_join n ≡ true → 0 < occurs n m.joins
  pub only : (n : ℕ) → m.is_join n ≡ false → m.own n ≡ []
  pub own : (j : ℕ) → m.is_join j ≡ true → m.side j j ≡ true
  -- chains go on
  pub chained : (n op : ℕ) (ops : List ℕ) → m.above n ≡ op ∷ ops →
      (m.above op ≡ ops) × (m.above_sink op ≡ m.above_sink n)
  -- the probe side of a join goes through it
  pub probed : (j : ℕ) → m.is_join j ≡ true → m.above (m.probed j) ≡ j ∷ m.above j
  pub run : (j : ℕ) → m.is_join j ≡ true → m.is_run (m.probed j) ≡ true
