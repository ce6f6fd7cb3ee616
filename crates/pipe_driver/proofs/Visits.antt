-- One node of the way down.
use Rattle.std.proofs.Common.{◌≡◌, ℕ, ◌+◌, ◌^◌, ◌<◌, ◌≤◌, true, ltb, List, [], length, map, drop, get_or, refl, sym, ap, subst, ◌∙◌, arith}
use Rattle.std.specs.List.{list_all, flat_map}
use Rattle.std.proofs.lemmas.Bool.{and_parts, and_from}
use Rattle.std.proofs.lemmas.Bool.Decides.{Decides-ltb}
use Rattle.std.proofs.lemmas.List.{at_drop_more, at_drop_all, get_or-map, length-map, get_or_default}
use Rattle.pipe_plan.specs.Node.{Node, node_of}
use Rattle.pipe_plan.specs.Node as node
use Rattle.pipe_plan.specs.Under.{node_at}
use Rattle.pipe_plan.specs.declared.ir.IR.{IR}
use Rattle.pipe_plan.specs.declared.ir.IR.TheVariants as ir
use Rattle.pipe_driver.specs.declared.above.Step.{Step}
use Rattle.pipe_driver.specs.declared.above.Step.TheVariants as step
use Rattle.pipe_driver.specs.declared.branch.SinkAt.TheVariants as at
use Rattle.pipe_driver.specs.declared.turn.Turn.{Turn}
use Rattle.pipe_driver.specs.Branches.{Path, paths_of, through, closed_by, join_paths, plan_paths, numbered_paths}
use Rattle.pipe_driver.specs.Climbing.{start_of, Cutting, put_step, drop_step, take_paths, goes_down, is_down, is_step_in, HasRoom, turn_at}
use Rattle.pipe_driver.proofs.Takes.{take-append, drop-operator, drop-build, take-join, take-top, room-after}
use Rattle.pipe_driver.proofs.Down.{down-there, IsTurn, turn-is}

-- the node that stands at a place
node-there : (nodes : List IR) (k : ℕ) (x : IR) → k < length nodes → x ≡ get_or nodes k x → node_of x ≡ node_at (map node_of nodes) k
node-there nodes k x within is =
    let none : IR = ir.Union [] in
    ap node_of (is ∙ get_or_default nodes k x none within) ∙ sym (get_or-map node_of nodes k none (node.Union []) within)

pub number-there : (nodes : List IR) (n : ℕ) → goes_down (map node_of nodes) n ≡ true → n < length nodes
number-there nodes n h = let lt = down-there (map node_of nodes) n h in let e = length-map nodes node_of in omega arith

pub turn-there : (nodes : List IR) (n : ℕ) (x : IR) (t : Turn) → goes_down (map node_of nodes) n ≡ true → x ≡ get_or nodes n x → t ≡ turn_at (node_of x) → IsTurn (map node_of nodes) n (node_of x) t
turn-there nodes n x t h is is_t = turn-is (map node_of nodes) n (node_of x) t h (node-there nodes n x (number-there nodes n h) is) is_t

pub room-step : (c : Cutting) (s : Step) (n i : ℕ) → HasRoom c n → is_step_in c.named.nodes s ≡ true → i < n → HasRoom (put_step s c) i
room-step c s n i room inside lt = record {
  few = room.few;
  height = let h = room.height in omega arith;
  steps = and_from (is_step_in c.named.nodes s) (list_all (is_step_in c.named.nodes) c.above) inside room.steps;
}

pub node-in : (c : Cutting) (n : ℕ) → HasRoom c n → ltb n c.named.nodes ≡ true
node-in c n room = (Decides-ltb n c.named.nodes).1 (let h = room.height in omega arith)

pub room-moved : (c d : Cutting) (n : ℕ) → d ≡ c → HasRoom c n → HasRoom d n
room-moved c d n e room = let P : Cutting → Type 0 = λ x. HasRoom x n in subst P (sym e) room

-- the side of a join that is built leaves room for the other
pub room-built : (c d : Cutting) (n : ℕ) (ps : List Path) → HasRoom c n → d ≡ drop_step (take_paths (put_step (step.Build n) c) ps) → HasRoom d n
room-built c d n ps room e = room-moved (take_paths c (map (closed_by (at.Build n)) ps)) d n (e ∙ drop-build n c ps) (room-after c n (map (closed_by (at.Build n)) ps) room)

pub join-taken : (c d e : Cutting) (n : ℕ) (built probed : List Path) → d ≡ drop_step (take_paths (put_step (step.Build n) c) built) → e ≡ drop_step (take_paths (put_step (step.Operator n) d) probed) → e ≡ take_paths c (join_paths n built probed)
join-taken c d e n built probed f g = g ∙ drop-operator n d probed ∙ take-join n c d built probed (f ∙ drop-build n c built)

-- ---- the inputs of a union

pub inputs-next : (nodes : List Node) (first c d : Cutting) (inputs : List ℕ) (k : ℕ) → k < length inputs
    → d ≡ take_paths c (paths_of nodes (get_or inputs k 0)) → take_paths c (flat_map (paths_of nodes) (drop k inputs)) ≡ take_paths first (flat_map (paths_of nodes) inputs)
    → take_paths d (flat_map (paths_of nodes) (drop (k + 1) inputs)) ≡ take_paths first (flat_map (paths_of nodes) inputs)
inputs-next nodes first c d inputs k lt e rest =
    let f = paths_of nodes in
    let more = flat_map f (drop (k + 1) inputs) in
    ap (λ x. take_paths x more) e ∙ sym (take-append c (f (get_or inputs k 0)) more)
    ∙ sym (ap (λ l. take_paths c (flat_map f l)) (at_drop_more (λ l. l) inputs k 0 lt)) ∙ rest

pub down-next : (nodes : List Node) (n : ℕ) (inputs : List ℕ) (k : ℕ) → k < length inputs → list_all (is_down nodes n) (drop k inputs) ≡ true
    → (is_down nodes n (get_or inputs k 0) ≡ true) × (list_all (is_down nodes n) (drop (k + 1) inputs) ≡ true)
down-next nodes n inputs k lt h =
    and_parts (is_down nodes n (get_or inputs k 0)) (list_all (is_down nodes n) (drop (k + 1) inputs)) (sym (ap (list_all (is_down nodes n)) (at_drop_more (λ l. l) inputs k 0 lt)) ∙ h)

pub inputs-taken : (nodes : List Node) (c first last d : Cutting) (n : ℕ) (inputs : List ℕ) (k : ℕ) → length inputs ≤ k
    → first ≡ put_step (step.Operator n) c → take_paths last (flat_map (paths_of nodes) (drop k inputs)) ≡ take_paths first (flat_map (paths_of nodes) inputs) → d ≡ drop_step last
    → d ≡ take_paths c (map (through n) (flat_map (paths_of nodes) inputs))
inputs-taken nodes c first last d n inputs k ge e rest is =
    let f = paths_of nodes in
    let all : last ≡ take_paths first (flat_map f inputs) = sym (ap (λ l. take_paths last (flat_map f l)) (at_drop_all (λ l. l) inputs k ge)) ∙ rest in
    is ∙ ap drop_step (all ∙ ap (λ x. take_paths x (flat_map f inputs)) e) ∙ drop-operator n c (flat_map f inputs)

-- ---- the whole

pub start-room : (c : Cutting) (nodes : List IR) (root : ℕ) → c ≡ start_of (length nodes) → goes_down (map node_of nodes) root ≡ true → length nodes < 2 ^ 30 → HasRoom c root
start-room c nodes root e h few = room-moved (start_of (length nodes)) c root e (record {
  few = omega arith;
  height = let lt = number-there nodes root h in omega arith;
  steps = refl;
})

pub whole-taken : (c d : Cutting) (nodes : List Node) (size root : ℕ) → c ≡ start_of size → d ≡ take_paths c (paths_of nodes root) → d.branches ≡ numbered_paths [] (plan_paths nodes root)
whole-taken c d nodes size root e is =
    ap (λ (x : Cutting). x.branches) (is ∙ ap (λ x. take_paths x (paths_of nodes root)) e)
    ∙ take-top (start_of size).named [] (paths_of nodes root)
