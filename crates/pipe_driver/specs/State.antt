-- What is known of a run between its steps: what is there, and what is still to come, together are
-- what has to be there.
use Rattle.std.specs.Prelude.{◌≡◌, ℕ, zero, suc, ◌+◌, ◌≤◌, ◌<◌, List, [], ◌∷◌, ◌++◌, Bool, true, false, ◌==◌, if◌then◌else◌}
use Rattle.std.specs.List.{flat_map, AllByRecursion}
use Rattle.pipe_schema.specs.Rows.{Row}
use Rattle.pipe_schema.proofs.Weights.{SameBag}
use Rattle.pipe_driver.specs.Meaning.{Meaning, Place, OutOf, Into, from, due}
use Rattle.pipe_driver.specs.Legs.{Leg, Way}
use Rattle.pipe_driver.specs.Ways.{one, occurs, feeds, passes, begun, brought, own_brings, AreLegs, IsWay, Behind, AreOrdered}

-- the table of a join: its built side hasn't run; it has these rows; or the join is settled
pub data Slot : Type 0 where
  Waits : Slot
  Has : (table : List Row) → Slot
  Spent : Slot

-- what the runner of legs has
pub record World : Type 0 where
  -- the rows that came out of a node, and those that an open sink holds
  pub there : Place → List Row
  -- the rows that a join gave for keys of which it was the first to mark one
  pub gained : ℕ → List Row
  pub slot : ℕ → Slot

-- how many legs still feed a sink, and how many still go through a node
pub record Counts : Type 0 where
  pub sinks : ℕ → ℕ
  pub probers : ℕ → ℕ

-- ---- what is still to come

abbrev pub kept : ℕ → List Row → List Row
kept zero rows = []
kept (suc n) rows = rows

-- something of each join that some leg still goes through
abbrev pub pending : (ℕ → ℕ) → (ℕ → List Row) → List ℕ → List Row
pending probers f [] = []
pending probers f (j ∷ js) = kept (probers j) (f j) ++ pending probers f js

-- what the rows that a join gave for keys brought to a place
abbrev pub gained_brings : Meaning → World → Place → ℕ → List Row
gained_brings m w x j = from m x j (w.gained j)

-- a place that is kept account of: each node that is run, and each sink that some leg still feeds
abbrev pub IsOpen : Meaning → Counts → Place → Type 0
IsOpen m c (OutOf t) = m.is_run t ≡ true
IsOpen m c (Into s) = 0 < c.sinks s

-- a table is there, and it has the rows of the side that is built
pub record IsBuilt (m : Meaning) (j : ℕ) (slot : Slot) : Type 0 where
  pub table : List Row
  pub is : slot ≡ Has table
  pub rows : SameBag table (m.below j)

-- The ways that have begun and wait for a sort, and those that haven't begun, are all that is left
-- to run. Of the leg that is running, `due_at` tells the sink, and `now` the nodes that it hasn't
-- been counted at. Sink `but` is left out of what a closed sink owes
pub record IsLeft (m : Meaning) (w : World) (c : Counts) (due_at : ℕ → ℕ) (now : List ℕ)
    (but : ℕ → Bool) (live todo : List Way) : Type 0 where
  -- counts are the numbers of legs that are left
  pub sinks : (s : ℕ) → c.sinks s ≡ due_at s + (feeds s live + feeds s todo)
  pub probers : (n : ℕ) → c.probers n ≡ occurs n now + (passes n live + passes n todo)
  -- what came to a place and what is still to come, what joins have of their own too, are what has
  -- to come there; what joins gave for keys is counted apart until they are closed
  pub rows : (x : Place) → IsOpen m c x →
      SameBag (w.there x ++ ((brought m x live ++ brought m x todo)
      ++ pending c.probers (own_brings m x) m.joins))
      (due m x ++ pending c.probers (gained_brings m w x) m.joins)
  -- the slot of a join is empty as long as a leg feeds its sink, and then it is built
  pub empty : (j : ℕ) → 0 < c.sinks j → w.slot j ≡ Waits
  pub built : (j : ℕ) → but j ≡ false → m.is_join j ≡ true → 0 < passes j live + passes j todo →
      c.sinks j ≡ 0 → IsBuilt m j (w.slot j)
  -- at most one leg begins at a node
  pub once : (n : ℕ) → begun n live + begun n todo ≤ 1
  -- what hasn't begun stands in order
  pub ways : AllByRecursion (IsWay m) todo
  pub order : AreOrdered m todo

abbrev pub none_due : ℕ → ℕ
none_due s = 0

-- one leg feeds sink s
abbrev pub one_due : ℕ → ℕ → ℕ
one_due s n = one (s == n)

abbrev pub nothing : ℕ → Bool
nothing n = false

-- the sink that a leg has just fed
abbrev pub is_sink : ℕ → ℕ → Bool
is_sink s n = n == s

-- a way that waits for the sort that it goes on from
pub record IsParked (m : Meaning) (sinks : ℕ → ℕ) (but : ℕ → Bool) (todo : List Way) (p : Way) :
    Type 0 where
  pub sort : m.is_sort p.start ≡ true
  pub waits : but p.start ≡ false → 0 < sinks p.start
  pub some : p.legs ≡ [] → ⊥
  pub legs : AreLegs m p.start p.legs
  pub behind : Behind m p todo

-- between two branches, or where a branch has come to an open sink
pub record IsBetween (m : Meaning) (w : World) (c : Counts) (parked todo : List Way) : Type 0 where
  pub left : IsLeft m w c none_due [] nothing parked todo
  pub waiting : AllByRecursion (IsParked m c.sinks nothing todo) parked

-- where a way can go on
pub record IsReady (m : Meaning) (w : World) (c : Counts) (p : Way) (parked todo : List Way) :
    Type 0 where
  pub left : IsLeft m w c none_due [] nothing (p ∷ parked) todo
  pub waiting : AllByRecursion (IsParked m c.sinks nothing todo) parked
  pub way : IsWay m p
  pub behind : Behind m p todo

-- behind each of these nodes are the next ones, up to sink s
abbrev pub AreAlike : Meaning → ℕ → List ℕ → Type 0
AreAlike m s [] = Unit {0}
AreAlike m s (op ∷ ops) = (m.above op ≡ ops) × (m.above_sink op ≡ s) × AreAlike m s ops

-- where a leg's rows have come to sink s, and it hasn't been counted at these nodes, nor at the
-- sink
pub record IsPassing (m : Meaning) (w : World) (c : Counts) (now : List ℕ) (s : ℕ)
    (parked todo : List Way) : Type 0 where
  pub left : IsLeft m w c (one_due s) now nothing parked todo
  pub waiting : AllByRecursion (IsParked m c.sinks (is_sink s) todo) parked
  pub alike : AreAlike m s now
  pub tables : (j : ℕ) → 0 < occurs j now → m.is_join j ≡ true → IsBuilt m j (w.slot j)

-- where a leg has fed sink s, which is closed where that was the last one
pub record IsFed (m : Meaning) (w : World) (c : Counts) (s : ℕ) (parked todo : List Way) :
    Type 0 where
  pub left : IsLeft m w c none_due [] (is_sink s) parked todo
  pub waiting : AllByRecursion (IsParked m c.sinks (is_sink s) todo) parked
  pub closed : c.sinks s ≡ 0 → SameBag (w.there (Into s)) (m.below s)

-- ---- steps

-- what is left of a way behind sink s: nothing, or one way that begins there
abbrev pub IsTail : ℕ → List Leg → List Way → Type 0
IsTail s [] tails = tails ≡ []
IsTail s (leg ∷ legs) tails =
    (q : Way) × (q.start ≡ s) × (q.legs ≡ leg ∷ legs) × (tails ≡ q ∷ [])

-- it waits with the others
pub record HasTail (s : ℕ) (legs : List Leg) (old new : List Way) : Type 0 where
  pub tails : List Way
  pub is : new ≡ old ++ tails
  pub tail : IsTail s legs tails

-- what joins bring to a place
abbrev pub spread : Meaning → Place → (ℕ → List Row) → List Row
spread m x f = flat_map (λ j. from m x j (f j)) m.joins

-- rows of node n went along its chain, and the joins on it gave rows for keys besides
pub record HasPassed (m : Meaning) (n : ℕ) (rows : List Row) (old new : World) : Type 0 where
  pub more : ℕ → List Row
  pub only : (j : ℕ) → occurs j (m.above n) ≡ 0 → more j ≡ []
  pub there : (x : Place) →
      SameBag (new.there x) (old.there x ++ (from m x n rows ++ spread m x more))
  pub gained : (j : ℕ) → SameBag (new.gained j) (old.gained j ++ more j)
  pub slot : new.slot ≡ old.slot

-- a table that no row comes to any more
abbrev pub spent : Slot → Slot
spent Waits = Waits
spent (Has table) = Spent
spent Spent = Spent

abbrev pub spent_at : ℕ → World → World
spent_at n w = record {
  there = w.there;
  gained = w.gained;
  slot = λ k. if k == n then spent (w.slot k) else w.slot k;
}

-- a join is closed: what it has of its own beside what it gave for keys goes along its chain, and
-- its table is spent
pub record HasSettled (m : Meaning) (n : ℕ) (old new : World) : Type 0 where
  pub flushed : List Row
  pub own : SameBag (m.own n) (old.gained n ++ flushed)
  pub passed : HasPassed m n flushed (spent_at n old) new

-- one leg less
pub record IsLowered (n : ℕ) (old new : ℕ → ℕ) : Type 0 where
  pub here : old n ≡ new n + 1
  pub others : (k : ℕ) → (k ≡ n → ⊥) → new k ≡ old k

-- sink s was closed: what it held is elsewhere, and its slot may be filled
pub record HasClosed (s : ℕ) (old new : World) : Type 0 where
  pub there : (x : Place) → (x ≡ Into s → ⊥) → SameBag (new.there x) (old.there x)
  pub gained : new.gained ≡ old.gained
  pub slots : (k : ℕ) → (k ≡ s → ⊥) → new.slot k ≡ old.slot k

-- the way that waited for sort s is taken out
pub record TakesOut (s : ℕ) (q : Way) (old new : List Way) : Type 0 where
  pub before : List Way
  pub after : List Way
  pub was : old ≡ before ++ q ∷ after
  pub is : new ≡ before ++ after
  pub start : q.start ≡ s

abbrev pub BeginsElsewhere : ℕ → Way → Type 0
BeginsElsewhere s q = q.start ≡ s → ⊥

-- ---- the start

-- before the first branch runs, counts are those of all branches, and all else is empty
pub record IsStart (w : World) (c : Counts) (ps : List Way) : Type 0 where
  pub there : (x : Place) → w.there x ≡ []
  pub gained : (j : ℕ) → w.gained j ≡ []
  pub slot : (j : ℕ) → w.slot j ≡ Waits
  pub sinks : (s : ℕ) → c.sinks s ≡ feeds s ps
  pub probers : (n : ℕ) → c.probers n ≡ passes n ps
