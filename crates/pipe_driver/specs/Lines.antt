-- Pipelines and tables as what is known of a run sees them.
use Rattle.std.specs.Prelude.{◌≡◌, ℕ, ◌<◌, List, [], ◌∷◌, length, map, Option, Some, None}
use Rattle.pipe_schema.specs.Weights.{total}
use Rattle.pipe_driver.specs.Meaning.{Meaning}
use Rattle.pipe_driver.specs.Legs as plan
use Rattle.pipe_driver.specs.Legs.{Way, sink_node}
use Rattle.pipe_driver.specs.declared.pipe_line.Leg.{Leg}
use Rattle.pipe_driver.specs.declared.pipe_line.PipeLine.{PipeLine}
use Rattle.pipe_driver.specs.declared.run.Run.{Run}
use Rattle.pipe_driver.specs.Words.{RunnerWords}
use Rattle.pipe_driver.specs.Tables.{number_at}
use Rattle.pipe_driver.specs.State.{Counts}

-- the plan that is run: what it means, and the numbers of its sinks by the numbers by which they go
pub record Task : Type 0 where
  pub m : Meaning
  pub number : ℕ → ℕ

-- sinks that have numbers have different ones
pub record AreNumbered (k : Task) (sinks : List ℕ) : Type 0 where
  pub apart : (s t : ℕ) → k.number s < length sinks → k.number t ≡ k.number s → t ≡ s

abbrev pub leg_as : {P : Type 0} → ℕ → Leg P → plan.Leg
leg_as ordered leg = record {
  operators = leg.operators.items;
  at = leg.at;
  sink = sink_node ordered leg.at;
}

abbrev pub way_as : {S P : Type 0} → ℕ → PipeLine S P → Way
way_as ordered p = record { start = p.start; legs = map (leg_as ordered) p.legs.items }

abbrev pub ways_as : {S P : Type 0} → ℕ → List (PipeLine S P) → List Way
ways_as ordered ps = map (way_as ordered) ps

abbrev pub counts_as : {R S P : Type 0} → Task → Run R S P → Counts
counts_as k run = record {
  sinks = λ s. number_at run.counts.left.items (k.number s);
  probers = number_at run.probers.left.items;
}

-- a leg has its sink's number, and what runs it stands for it
pub record IsLegOf {R S P : Type 0} (r : RunnerWords R S P) (k : Task) (start : ℕ) (leg : Leg P) :
    Type 0 where
  pub number : leg.count ≡ k.number (sink_node k.m.ordered leg.at)
  pub there : k.number (sink_node k.m.ordered leg.at) < 4294967295
  pub stands : r.stands leg.part k.m start (leg_as k.m.ordered leg)

-- each begins at the node of the sink before it
abbrev pub AreLegsOf : {R S P : Type 0} → RunnerWords R S P → Task → (start : ℕ) → List (Leg P) →
    Type 0
AreLegsOf r k start [] = Unit {0}
AreLegsOf r k start (leg ∷ legs) =
    IsLegOf r k start leg × AreLegsOf r k (sink_node k.m.ordered leg.at) legs

abbrev pub HasLegs : {R S P : Type 0} → RunnerWords R S P → Task → PipeLine S P → Type 0
HasLegs r k p = AreLegsOf r k p.start p.legs.items

-- its source has the rows of the node where it begins
abbrev pub SourceHas : {R S P : Type 0} → RunnerWords R S P → Task → ℕ → Option S → Type 0
SourceHas r k start None = ⊥
SourceHas r k start (Some source) = r.brings source k.m start

pub record IsLine {R S P : Type 0} (r : RunnerWords R S P) (k : Task) (p : PipeLine S P) :
    Type 0 where
  pub legs : HasLegs r k p
  pub source : SourceHas r k p.start p.source

-- how many legs pipelines have
abbrev pub legs_left : {S P : Type 0} → PipeLine S P → ℕ
legs_left p = length p.legs.items

abbrev pub steps_left : {S P : Type 0} → List (PipeLine S P) → ℕ
steps_left ps = total legs_left ps
