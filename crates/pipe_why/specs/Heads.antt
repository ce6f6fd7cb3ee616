-- How the text begins that is told of a fault: its name, and the node at which it stands.
use Rattle.std.specs.Prelude.{ℕ, List, ◌++◌, codes, decimal}
use Rattle.pipe_plan.specs.declared.error.PipeError.{PipeError}
use Rattle.pipe_plan.specs.declared.error.PipeError.TheVariants as error

-- a fault at a node
abbrev pub at_node : (name : List ℕ) → ℕ → List ℕ
at_node name n = name ++ codes " at node " ++ decimal n

abbrev pub fault_head : PipeError → List ℕ
fault_head error.BadConfig = codes "BadConfig"
fault_head (error.BadNode n) = at_node (codes "BadNode") n
fault_head (error.UnknownColumn n name) = at_node (codes "UnknownColumn") n
fault_head (error.DuplicateName n name) = at_node (codes "DuplicateName") n
fault_head (error.TypeMismatch n) = at_node (codes "TypeMismatch") n
fault_head (error.BadJoin n) = at_node (codes "BadJoin") n
fault_head (error.BadSort n) = at_node (codes "BadSort") n
fault_head (error.TooMany n) = codes "TooMany"
fault_head error.Stopped = codes "stopped"
fault_head error.Memory = codes "out of memory"
