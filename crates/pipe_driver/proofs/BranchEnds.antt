-- From paths to branches: what is on them, and where they end.
use Rattle.std.proofs.Common.{◌≡◌, ◌==◌, ℕ, Bool, true, false, ◌||◌, cond, List, [], ◌∷◌, ◌++◌, length, map, refl, ap, ◌∙◌}
use Rattle.std.specs.List.{list_any}
use Rattle.pipe_plan.specs.Node.{Node}
use Rattle.pipe_plan.specs.Plan.{Plan}
use Rattle.pipe_plan.specs.Under.{node_at, inputs_of, is_under}
use Rattle.pipe_plan.specs.Faults.{IsWellFormed}
use Rattle.pipe_driver.specs.declared.branch.SinkAt.{SinkAt}
use Rattle.pipe_driver.specs.declared.branch.SinkAt.TheVariants as at
use Rattle.pipe_driver.specs.declared.branch.SinkNode.{SinkNode}
use Rattle.pipe_driver.specs.Branches.{Path, PlacedSink, placed, put_sink, closed_by, paths_of, add_named, named_after, numbered_sink, numbered_sinks, numbered_paths, branch_of, branches}
use Rattle.pipe_driver.specs.BranchLaws.{is_at_node, is_sink_at_node, is_number, is_on, is_root_sink, ends_in_root_sink, ends_at_root}
use Rattle.pipe_driver.proofs.Sound.{or-true}
use Rattle.pipe_driver.proofs.Numbering.{numbered-append}
use Rattle.pipe_driver.proofs.Covers.{is_placed_at, covers, is_open_path, closed-keeps, cover-root}

sinks-at : (m : ℕ) (named : List SinkAt) (sinks : List PlacedSink) → list_any (is_sink_at_node m) (numbered_sinks named sinks) ≡ list_any (is_placed_at m) sinks
sinks-at m named [] = refl
sinks-at m named (s ∷ sinks) = ap (λ b. is_at_node m s.at || b) (sinks-at m (add_named named s.at) sinks)

on-any : (nodes : List Node) (m : ℕ) (named : List SinkAt) (ps : List Path) → list_any (is_on nodes m) (numbered_paths named ps) ≡ list_any (covers nodes m) ps
on-any nodes m named [] = refl
on-any nodes m named (p ∷ ps) =
    let first = ((p.source == m) || list_any (is_number m) (inputs_of (node_at nodes p.source))) || list_any (is_number m) p.operators in
    ap (λ b. (first || b) || list_any (is_on nodes m) (numbered_paths (named_after named p.sinks) ps)) (sinks-at m named p.sinks)
    ∙ ap (λ b. covers nodes m p || b) (on-any nodes m (named_after named p.sinks) ps)

pub every-node : (plan : Plan) (root n : ℕ) → IsWellFormed plan root → is_under plan.nodes root n ≡ true → list_any (is_on plan.nodes n) (branches plan root) ≡ true
every-node plan root n good u =
    let paths = paths_of plan.nodes root in
    on-any plan.nodes n [] (map (closed_by at.Ordered) paths) ∙ closed-keeps plan.nodes n at.Ordered paths ((cover-root plan root good).each n u)

ends-last : (xs : List SinkNode) (s : SinkNode) → ends_in_root_sink (xs ++ s ∷ []) ≡ is_root_sink s
ends-last [] s = refl
ends-last (x ∷ []) s = refl
ends-last (x ∷ y ∷ xs) s = ends-last (y ∷ xs) s

ends-open : (named : List SinkAt) (p : Path) → ends_at_root (branch_of named (put_sink false at.Ordered p)) ≡ true
ends-open named p =
    let s = placed (length p.operators) at.Ordered in
    ap ends_in_root_sink (numbered-append named p.sinks (s ∷ [])) ∙ ends-last (numbered_sinks named p.sinks) (numbered_sink (named_after named p.sinks) s)

ends-any : (named : List SinkAt) (ps : List Path) → list_any is_open_path ps ≡ true → list_any ends_at_root (numbered_paths named (map (closed_by at.Ordered) ps)) ≡ true
ends-any named [] h = h
ends-any named (p ∷ ps) h =
    let rest = map (closed_by at.Ordered) ps in
    let split : (b : Bool) → (b || list_any is_open_path ps) ≡ true → list_any ends_at_root (numbered_paths named (cond b (put_sink false at.Ordered p) p ∷ rest)) ≡ true = elim [
      | true ↦ λ g. ap (λ b. b || list_any ends_at_root (numbered_paths (named_after named (put_sink false at.Ordered p).sinks) rest)) (ends-open named p)
      | false ↦ λ g. ap (λ b. ends_at_root (branch_of named p) || b) (ends-any (named_after named p.sinks) ps g) ∙ or-true (ends_at_root (branch_of named p))
    ] in split p.is_open h

pub some-ends : (plan : Plan) (root : ℕ) → IsWellFormed plan root → list_any ends_at_root (branches plan root) ≡ true
some-ends plan root good = ends-any [] (paths_of plan.nodes root) (cover-root plan root good).open_one
