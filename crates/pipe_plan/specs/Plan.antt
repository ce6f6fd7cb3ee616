-- A plan: nodes, numbered from 0, and the tables that they scan.
use Rattle.std.specs.Prelude.{List, map}
use Rattle.pipe_frame.specs.Frame.{Table}
use Rattle.pipe_plan.specs.Node.{Node, node_of}
use Rattle.pipe_plan.specs.declared.arena.Arena.{Arena}

pub record Plan : Type 0 where
  pub nodes : List Node
  pub frames : List Table

-- the plan that an arena holds
abbrev pub plan_of : Arena → Plan
plan_of arena = record { nodes = map node_of arena.nodes; frames = arena.frames }
