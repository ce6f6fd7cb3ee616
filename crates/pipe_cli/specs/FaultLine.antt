-- What an error is told as: a status, and a line of its name, the node at which it stands and, as JSON
-- text, the name that it tells.
use Rattle.std.specs.Prelude.{ℕ, List, [], ◌∷◌, ◌++◌, codes, decimal}
use Rattle.json.specs.Print.{quoted}
use Rattle.pipe_plan.specs.declared.error.PipeError.{PipeError}
use Rattle.pipe_plan.specs.declared.error.PipeError.TheVariants as error

-- the status that a run ends with
abbrev pub fault_status : PipeError → ℕ
fault_status error.BadConfig = 6
fault_status (error.BadNode n) = 6
fault_status (error.UnknownColumn n name) = 6
fault_status (error.DuplicateName n name) = 6
fault_status (error.TypeMismatch n) = 6
fault_status (error.BadJoin n) = 6
fault_status (error.BadSort n) = 6
fault_status (error.TooMany n) = 7
fault_status error.Stopped = 8
fault_status error.Memory = 10

-- an error at a node
abbrev pub at_node : List ℕ → ℕ → List ℕ
at_node error n = error ++ codes " at node " ++ decimal n

-- the name that it tells
abbrev pub with_name : List ℕ → List ℕ
with_name name = codes ": " ++ quoted name

abbrev pub line_at : List ℕ → ℕ → List ℕ
line_at error n = at_node error n ++ 10 ∷ []

abbrev pub line_with_name : List ℕ → ℕ → List ℕ → List ℕ
line_with_name error n name = (at_node error n ++ with_name name) ++ 10 ∷ []

-- the line that is noted, as `error 6: UnknownColumn at node 1: "z"`
abbrev pub fault_line : PipeError → List ℕ
fault_line error.BadConfig = codes "error 6: BadConfig\n"
fault_line (error.BadNode n) = line_at (codes "error 6: BadNode") n
fault_line (error.UnknownColumn n name) = line_with_name (codes "error 6: UnknownColumn") n name
fault_line (error.DuplicateName n name) = line_with_name (codes "error 6: DuplicateName") n name
fault_line (error.TypeMismatch n) = line_at (codes "error 6: TypeMismatch") n
fault_line (error.BadJoin n) = line_at (codes "error 6: BadJoin") n
fault_line (error.BadSort n) = line_at (codes "error 6: BadSort") n
fault_line (error.TooMany n) = line_at (codes "error 7: TooMany") n
fault_line error.Stopped = codes "error 8: stopped\n"
fault_line error.Memory = codes "error 10: out of memory\n"
