-- The nodes under the root of a well-formed plan read smaller nodes alone.
use Rattle.std.proofs.Common.{◌≡◌, ℕ, zero, suc, ◌+◌, ◌<◌, ◌≤◌, Bool, true, false, cond, ◌||◌, eqb, List, [], ◌∷◌, length, refl, sym, ap, subst, ◌∙◌, ◌⊎◌, inl, inr, arith, Option, Some, None}
use Rattle.std.specs.Prelude.{nat_lt, nat_le}
use Rattle.std.specs.List.{list_any, list_all, range_with_len}
use Rattle.std.proofs.lemmas.Bool.{cases_lt, and_from, leb-false}
use Rattle.std.proofs.lemmas.Bool.Decides.{Decides-ltb, Decides-eqb}
use Rattle.pipe_plan.specs.Walk.{walk}
use Rattle.pipe_plan.specs.Node.{Node}
use Rattle.pipe_plan.specs.Plan.{Plan}
use Rattle.pipe_plan.specs.Under.{node_at, inputs_of, reaches_at, is_under}
use Rattle.pipe_plan.specs.Faults.{or_else, told, is_bad_node, fault_at, fault_under, first_fault, plan_fault, IsWellFormed}
use Rattle.pipe_plan.specs.declared.error.PipeError.{PipeError}
use Rattle.pipe_plan.specs.declared.error.PipeError.TheVariants as error
use Rattle.pipe_driver.specs.Climbing.{goes_down_at, goes_down}
use Rattle.pipe_driver.proofs.Down.{walk-past, walk-at, walk-below}

-- ---- what a plan without a fault grants

first_none : {X : Type 0} (a b : Option X) → or_else a b ≡ None → a ≡ None
first_none (Some x) b e = cc
first_none None b e = refl

second_none : {X : Type 0} (a b : Option X) → or_else a b ≡ None → b ≡ None
second_none (Some x) b e = cc
second_none None b e = e

untold : (b : Bool) (e : PipeError) → told b e ≡ None → b ≡ false
untold true e h = cc
untold false e h = refl

pub first_false : (a b : Bool) → (a || b) ≡ false → a ≡ false
first_false true b e = cc
first_false false b e = refl

each_unfaulted : (plan : Plan) (root a n k i : ℕ) → k ≡ a + i → i < n → first_fault plan root (range_with_len a n) ≡ None → fault_under plan root k ≡ None
each_unfaulted plan root a zero k i e lt none = absurd (omega arith)
each_unfaulted plan root a (suc n) k zero e lt none = let is : a ≡ k = omega arith in subst (λ m. fault_under plan root m ≡ None) is (first_none (fault_under plan root a) _ none)
each_unfaulted plan root a (suc n) k (suc i) e lt none = each_unfaulted plan root (a + 1) n k i (omega arith) (omega arith) (second_none (fault_under plan root a) _ none)

pub root-there : (plan : Plan) (root : ℕ) → plan_fault plan root ≡ None → (root < length plan.nodes) × (first_fault plan root (range_with_len 0 (length plan.nodes)) ≡ None)
root-there plan root =
    elim (nat_lt root (length plan.nodes)) as (λ b. nat_lt root (length plan.nodes) ≡ b → cond b (first_fault plan root (range_with_len 0 (length plan.nodes))) (Some (error.BadNode root)) ≡ None → (root < length plan.nodes) × (first_fault plan root (range_with_len 0 (length plan.nodes)) ≡ None)) [
      | true ↦ λ e none. ((Decides-ltb root (length plan.nodes)).0 e, none)
      | false ↦ λ _ none. cc
    ] refl

-- a node under the root isn't a bad one
pub good-node : (plan : Plan) (root k : ℕ) → plan_fault plan root ≡ None → k < length plan.nodes → is_under plan.nodes root k ≡ true → is_bad_node plan root k ≡ false
good-node plan root k none lt under =
    let here : fault_under plan root k ≡ None = each_unfaulted plan root 0 (length plan.nodes) k k (omega arith) lt (root-there plan root none).1 in
    let at_k : fault_at plan root k ≡ None = rw under at here in
    untold (is_bad_node plan root k) (error.BadNode k) (first_none (told (is_bad_node plan root k) (error.BadNode k)) _ at_k)

pub smaller : (plan : Plan) (root k : ℕ) → plan_fault plan root ≡ None → k < length plan.nodes → is_under plan.nodes root k ≡ true → list_any (nat_le k) (inputs_of (node_at plan.nodes k)) ≡ false
smaller plan root k none lt under =
    first_false (list_any (nat_le k) (inputs_of (node_at plan.nodes k))) _ (first_false _ _ (first_false _ _ (good-node plan root k none lt under)))

-- ---- members of lists of numbers

pub or-true : (a : Bool) → (a || true) ≡ true
or-true true = refl
or-true false = refl

abbrev pub member : ℕ → List ℕ → Bool
member i xs = list_any (λ m. eqb m i) xs

pub any-member : (p : ℕ → Bool) (xs : List ℕ) (i : ℕ) → member i xs ≡ true → p i ≡ true → list_any p xs ≡ true
any-member p [] i h e = cc
any-member p (x ∷ xs) i h e =
    let split : (b : Bool) → eqb x i ≡ b → (b || member i xs) ≡ true → (p x || list_any p xs) ≡ true = elim [
      | true ↦ λ is g. (let here : p x ≡ true = ap p ((Decides-eqb x i).0 is) ∙ e in rw here refl)
      | false ↦ λ is g. (let more : list_any p xs ≡ true = any-member p xs i g e in rw more (or-true (p x)))
    ]
    in split (eqb x i) refl h

pub none-member : (p : ℕ → Bool) (xs : List ℕ) (i : ℕ) → list_any p xs ≡ false → member i xs ≡ true → p i ≡ false
none-member p xs i h m =
    let split : (b : Bool) → p i ≡ b → b ≡ false = elim [
      | true ↦ λ e. (let yes : list_any p xs ≡ true = any-member p xs i m e in cc)
      | false ↦ λ e. refl
    ]
    in split (p i) refl

any-mono : (p q : ℕ → Bool) (xs : List ℕ) → ((j : ℕ) → p j ≡ true → q j ≡ true) → list_any p xs ≡ true → list_any q xs ≡ true
any-mono p q [] f h = cc
any-mono p q (x ∷ xs) f h =
    let split : (b : Bool) → p x ≡ b → (b || list_any p xs) ≡ true → (q x || list_any q xs) ≡ true = elim [
      | true ↦ λ is g. (let here : q x ≡ true = f x is in rw here refl)
      | false ↦ λ is g. (let more : list_any q xs ≡ true = any-mono p q xs f g in rw more (or-true (q x)))
    ]
    in split (p x) refl h

pub all-members : (p : ℕ → Bool) (xs : List ℕ) → ((i : ℕ) → member i xs ≡ true → p i ≡ true) → list_all p xs ≡ true
all-members p [] f = refl
all-members p (x ∷ xs) f =
    let itself : eqb x x ≡ true = (Decides-eqb x x).1 refl in
    and_from (p x) (list_all p xs) (f x (rw itself refl)) (all-members p xs (λ i m. f i (rw m (or-true (eqb x i)))))

-- ---- under

pub under-at : (nodes : List Node) (k n : ℕ) → k < length nodes → is_under nodes k n ≡ (eqb k n || list_any (walk false (reaches_at nodes n) k) (inputs_of (node_at nodes k)))
under-at nodes k n lt = walk-at false (reaches_at nodes n) (length nodes) k lt

pub under-below : (nodes : List Node) (k i n : ℕ) → i < k → k < length nodes → walk false (reaches_at nodes n) k i ≡ is_under nodes i n
under-below nodes k i n lt there = walk-below false (reaches_at nodes n) k (length nodes) i lt (omega arith)

pub under-self : (nodes : List Node) (k : ℕ) → k < length nodes → is_under nodes k k ≡ true
under-self nodes k lt = let e : eqb k k ≡ true = (Decides-eqb k k).1 refl in rw (under-at nodes k k lt, e) refl

pub under-trans : (nodes : List Node) (n i b k : ℕ) → k < b → b ≤ length nodes → is_under nodes k n ≡ true → is_under nodes n i ≡ true → is_under nodes k i ≡ true
under-trans nodes n i zero k lt le u v = absurd (omega arith)
under-trans nodes n i (suc b) k lt le u v =
    let there : k < length nodes = omega arith in
    let inner : (j : ℕ) → walk false (reaches_at nodes n) k j ≡ true → walk false (reaches_at nodes i) k j ≡ true = λ j e. (
    let cases : (j < k) ⊎ (k ≤ j) → walk false (reaches_at nodes i) k j ≡ true = elim [
      | inl l ↦ under-below nodes k j i l there ∙ under-trans nodes n i b j (omega arith) (omega arith) (sym (under-below nodes k j n l there) ∙ e) v
      | inr g ↦ (let no_ = walk-past false (reaches_at nodes n) k j g in cc)
    ] in cases (cases_lt j k)) in
    let inputs = inputs_of (node_at nodes k) in
    let split : (c : Bool) → eqb k n ≡ c → (c || list_any (walk false (reaches_at nodes n) k) inputs) ≡ true → is_under nodes k i ≡ true = elim [
      | true ↦ λ is g. (let P : ℕ → Type 0 = λ m. is_under nodes m i ≡ true in subst P (sym ((Decides-eqb k n).0 is)) v)
      | false ↦ λ is g. (
          let more : list_any (walk false (reaches_at nodes i) k) inputs ≡ true = any-mono (walk false (reaches_at nodes n) k) (walk false (reaches_at nodes i) k) inputs inner g in
          under-at nodes k i there ∙ ap (λ x. eqb k i || x) more ∙ or-true (eqb k i))
    ]
    in split (eqb k n) refl (sym (under-at nodes k n there) ∙ u)

-- an input of a node is under it, where it is smaller
pub under-one : (nodes : List Node) (n i : ℕ) → n < length nodes → i < n → member i (inputs_of (node_at nodes n)) ≡ true → is_under nodes n i ≡ true
under-one nodes n i lt below m =
    let inputs = inputs_of (node_at nodes n) in
    let own : walk false (reaches_at nodes i) n i ≡ true = under-below nodes n i i below lt ∙ under-self nodes i (omega arith) in
    let reached : list_any (walk false (reaches_at nodes i) n) inputs ≡ true = any-member (walk false (reaches_at nodes i) n) inputs i m own in
    under-at nodes n i lt ∙ ap (λ x. eqb n i || x) reached ∙ or-true (eqb n i)

-- ---- the way down

pub le-false : (n i : ℕ) → nat_le n i ≡ false → i < n
le-false n i h = leb-false n i h

pub down-under : (plan : Plan) (root b n : ℕ) → plan_fault plan root ≡ None → n < b → b ≤ length plan.nodes → is_under plan.nodes root n ≡ true → goes_down plan.nodes n ≡ true
down-under plan root zero n none lt le u = absurd (omega arith)
down-under plan root (suc b) n none lt le u =
    let nodes = plan.nodes in
    let there : n < length nodes = omega arith in
    let root_in : root < length nodes = (root-there plan root none).0 in
    let inputs = inputs_of (node_at nodes n) in
    let good = smaller plan root n none there u in
    walk-at false (goes_down_at nodes) (length nodes) n there
    ∙ all-members (walk false (goes_down_at nodes) n) inputs (λ i m.
    let below : i < n = le-false n i (none-member (nat_le n) inputs i good m) in
    let under : is_under nodes root i ≡ true = under-trans nodes n i (length nodes) root root_in (omega arith) u (under-one nodes n i there below m) in
    walk-below false (goes_down_at nodes) n (length nodes) i below (omega arith)
    ∙ down-under plan root b i none (omega arith) (omega arith) under)

pub sound-down : (plan : Plan) (root : ℕ) → IsWellFormed plan root → goes_down plan.nodes root ≡ true
sound-down plan root good =
    let there = (root-there plan root good.faultless).0 in
    down-under plan root (length plan.nodes) root good.faultless there (omega arith) (under-self plan.nodes root there)
