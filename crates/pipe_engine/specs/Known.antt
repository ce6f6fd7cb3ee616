-- A plan that is run, with its settings.
use Rattle.std.specs.Prelude.{ℕ, List}
use Rattle.pipe_driver.specs.Lines.{Task}
use Rattle.pipe_driver.specs.Plans.{Ask, task_of}
use Rattle.pipe_driver.specs.Words.{RunnerWords}
use Rattle.pipe_source.specs.declared.phys_source.PhysSource.{PhysSource}
use Rattle.pipe_engine.specs.Engine.{engine_words}
use Rattle.pipe_engine.specs.Stands.{Settings}
use Rattle.pipe_engine.specs.declared.engine.Engine.{Engine}
use Rattle.pipe_engine.specs.declared.part.Part.{Part}

-- what the plan means, the numbers of its sinks, and its settings
pub record Known (H : Type 0) : Type 0 where
  pub task : Task
  pub settings : Settings H

abbrev pub words_of : {H : Type 0} → (hash_of : H → List ℕ → ℕ) → Known H →
    RunnerWords (Engine H) PhysSource (Part H)
words_of hash_of k = engine_words hash_of k.settings

-- the plan itself, the node whose rows are asked for, and its settings
pub record Asked (H : Type 0) : Type 0 where
  pub ask : Ask
  pub settings : Settings H

abbrev pub known_of : {H : Type 0} → Asked H → Known H
known_of asked = record { task = task_of asked.ask; settings = asked.settings }
