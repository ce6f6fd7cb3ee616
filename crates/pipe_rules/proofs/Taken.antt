-- Conjuncts that are taken out for one input after another.
use Rattle.std.proofs.Common.{◌≡◌, ℕ, zero, suc, ◌+◌, ◌<◌, ◌≤◌, true, false, eqb, List, [], ◌∷◌, length, get_or, refl, ap, sym, ◌∙◌, arith}
use Rattle.pipe_plan.specs.Node.{Node}
use Rattle.pipe_plan.specs.Plan.{Plan}
use Rattle.pipe_plan.specs.Under.{node_at, inputs_of, is_under}
use Rattle.pipe_plan.specs.Faults.{repeats, IsWellFormed}
use Rattle.pipe_check.proofs.Walks.{member}
use Rattle.pipe_rules.specs.Placed.{is_input}
use Rattle.pipe_rules.specs.Parted.{Parts, part_for}
use Rattle.pipe_rules.proofs.Granted.{granted, first_false, second_false}

-- ---- numbers that stand once

none-of : (ns : List ℕ) (n k : ℕ) → member n ns ≡ false → k < length ns → eqb (get_or ns k 0) n ≡ false
none-of [] n k out lt = absurd (omega arith)
none-of (m ∷ ns) n zero out lt = first_false (eqb m n) (member n ns) out
none-of (m ∷ ns) n (suc k) out lt = none-of ns n k (second_false (eqb m n) (member n ns) out) (omega arith)

apart : (ns : List ℕ) (i k : ℕ) → repeats ns ≡ false → i < k → k < length ns → eqb (get_or ns k 0) (get_or ns i 0) ≡ false
apart [] i k once lt there = absurd (omega arith)
apart (n ∷ ns) i zero once lt there = absurd (omega arith)
apart (n ∷ ns) zero (suc k) once lt there = none-of ns n k (first_false (member n ns) (repeats ns) once) (omega arith)
apart (n ∷ ns) (suc i) (suc k) once lt there = apart ns i k (second_false (member n ns) (repeats ns) once) (omega arith) (omega arith)

-- no two inputs of a node are one
pub inputs-apart : (plan : Plan) (root : ℕ) → IsWellFormed plan root → (n : ℕ) → is_under plan.nodes root n ≡ true → (x : Node) (ns : List ℕ) → node_at plan.nodes n ≡ x → ns ≡ inputs_of x → (i k : ℕ) → i < k → k < length ns → eqb (get_or ns k 0) (get_or ns i 0) ≡ false
inputs-apart plan root good n under x ns at is i k lt there =
    let once : repeats ns ≡ false = ap repeats is ∙ ap (λ z. repeats (inputs_of z)) (sym at) ∙ (granted plan root n good under).once in
    apart ns i k once lt there

-- ---- what is left

-- the conjuncts of an input are as they were
abbrev pub IsLeft : Node → Parts → Parts → ℕ → Type 0
IsLeft x old new i = part_for x new i ≡ part_for x old i

-- each conjunct of the inputs from a place on is there
abbrev pub Serves : Node → List ℕ → ℕ → Parts → Parts → Type 0
Serves x ns i old new = (k : ℕ) → i ≤ k → k < length ns → IsLeft x old new (get_or ns k 0)

pub served-none : (x : Node) (ns : List ℕ) (i : ℕ) (parts : Parts) → Serves x ns i parts parts
served-none x ns i parts k le lt = refl

pub served-next : (x : Node) (ns : List ℕ) (i : ℕ) (old now new : Parts) → Serves x ns i old now
    → ((k : ℕ) → i < k → k < length ns → eqb (get_or ns k 0) (get_or ns i 0) ≡ false)
    → ((k : ℕ) → k < length ns → is_input x (get_or ns k 0) ≡ true)
    → ((m : ℕ) → is_input x m ≡ true → eqb m (get_or ns i 0) ≡ false → IsLeft x now new m)
    → Serves x ns (i + 1) old new
served-next x ns i old now new before others own left k le lt =
    left (get_or ns k 0) (own k lt) (others k (omega arith) lt) ∙ before k (omega arith) lt
