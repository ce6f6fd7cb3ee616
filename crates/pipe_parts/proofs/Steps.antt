-- Nodes by their numbers, and keys from above.
use Rattle.std.proofs.Common.{◌≡◌, ℕ, zero, suc, ◌<◌, Bool, true, false, List, [], ◌∷◌, map, length, get_or, refl, ap, ◌∙◌, arith}
use Rattle.std.specs.Prelude.{◌&&◌}
use Rattle.std.specs.Str.{bytes_eq}
use Rattle.std.specs.Cmp.Lexicographic.{pointwise}
use Rattle.pipe_expr.specs.declared.join_words.JoinType.{JoinType}
use Rattle.pipe_expr.specs.declared.join_words.JoinType.TheVariants as how
use Rattle.pipe_plan.specs.Node.{node_of}
use Rattle.pipe_plan.specs.Plan.{plan_of}
use Rattle.pipe_plan.specs.Under.{node_at, is_under}
use Rattle.pipe_plan.specs.Faults.{IsWellFormed}
use Rattle.pipe_plan.specs.declared.arena.Arena.{Arena}
use Rattle.pipe_plan.specs.declared.ir.IR.{IR}
use Rattle.pipe_rules.proofs.Under.{same-name}
use Rattle.pipe_parts.specs.Wishes.{same_names}
use Rattle.pipe_parts.proofs.Granted.{granted}

map-long : {A B : Type 0} (f : A → B) (xs : List A) → length (map f xs) ≡ length xs
map-long f [] = refl
map-long f (x ∷ xs) = ap suc (map-long f xs)

-- a node under the root is there
pub in-bounds : (arena : Arena) (root n : ℕ) (nodes : List IR) → IsWellFormed (plan_of arena) root → is_under (plan_of arena).nodes root n ≡ true → nodes ≡ arena.nodes → n < length nodes
in-bounds arena root n nodes good under e =
    let there = (granted (plan_of arena) root n good under).there in
    let long = map-long node_of arena.nodes in
    let same = ap length e in
    omega arith

at-mapped : (nodes : List IR) (n : ℕ) (d : IR) → n < length nodes → node_of (get_or nodes n d) ≡ node_at (map node_of nodes) n
at-mapped [] n d lt = absurd (omega arith)
at-mapped (x ∷ nodes) zero d lt = refl
at-mapped (x ∷ nodes) (suc n) d lt = at-mapped nodes n d (omega arith)

pub node-read : (arena : Arena) (n : ℕ) (nodes : List IR) (x : IR) → nodes ≡ arena.nodes → n < length nodes → x ≡ get_or nodes n x → node_of x ≡ node_at (plan_of arena).nodes n
node-read arena n nodes x e lt is =
    ap node_of is ∙ at-mapped nodes n x lt ∙ ap (λ l. node_at (map node_of l) n) e

-- ---- names

and-first : (a b : Bool) → (a && b) ≡ true → a ≡ true
and-first true b e = refl
and-first false b e = cc

and-second : (a b : Bool) → (a && b) ≡ true → b ≡ true
and-second true b e = e
and-second false b e = cc

pub names-same : (a b : List (List ℕ)) → same_names a b ≡ true → a ≡ b
names-same [] [] e = refl
names-same [] (_ ∷ _) e = cc
names-same (_ ∷ _) [] e = cc
names-same (x ∷ a) (y ∷ b) e =
    let one = same-name x y (and-first (bytes_eq x y) (pointwise bytes_eq a b) e) in
    let more = names-same a b (and-second (bytes_eq x y) (pointwise bytes_eq a b) e) in
    ap (λ z. z ∷ a) one ∙ ap (λ l. y ∷ l) more

pub not-full : (kind : JoinType) → (kind ≡ how.Full → ⊥) → kind ≡ how.Full → ⊥
not-full kind other e = other e
