-- The sides of joins that are built.
use Rattle.std.proofs.Common.{◌≡◌, ℕ, true, false, ◌||◌, ◌==◌, ◌⊎◌, inl, inr, refl, sym, ap, subst, ◌∙◌, arith}
use Rattle.pipe_driver.specs.Shape.{Kind, Begins, Each, Unites, Joins, Sorts, is_joining}
use Rattle.pipe_driver.specs.Meaning.{Tree, is_join_at, is_built_under, side_at}
use Rattle.pipe_driver.proofs.Tests.{eq-is, not-both, or-case, or-right, and-cases, and-both}
use Rattle.pipe_driver.proofs.Trees.{AreInputs, IsTree}

-- a join under the root
pub record IsJoinAt (t : Tree) (j : ℕ) : Type 0 where
  pub under : t.under t.root j ≡ true
  pub built : ℕ
  pub probed : ℕ
  pub kind : t.kind j ≡ Joins built probed

join_kind : (t : Tree) (j : ℕ) (x : Kind) → t.kind j ≡ x → is_joining x ≡ true → t.under t.root j ≡ true → IsJoinAt t j
join_kind t j (Joins b p) e h u = record { under = u; built = b; probed = p; kind = e }
join_kind t j Begins e h u = absurd (let f : false ≡ true = h in cc)
join_kind t j (Each i) e h u = absurd (let f : false ≡ true = h in cc)
join_kind t j (Unites is) e h u = absurd (let f : false ≡ true = h in cc)
join_kind t j (Sorts i) e h u = absurd (let f : false ≡ true = h in cc)

pub join_at : (t : Tree) (j : ℕ) → is_join_at t j ≡ true → IsJoinAt t j
join_at t j h = let c = and-cases (t.under t.root j) (is_joining (t.kind j)) h in join_kind t j (t.kind j) refl c.1 c.0

pub is_join_there : (t : Tree) (j b p : ℕ) → t.under t.root j ≡ true → t.kind j ≡ Joins b p → is_join_at t j ≡ true
is_join_there t j b p u e = and-both (t.under t.root j) (is_joining (t.kind j)) u (ap is_joining e)

pub no_join : (t : Tree) (n : ℕ) (x : Kind) → t.kind n ≡ x → is_joining x ≡ false → is_join_at t n ≡ true → ⊥
no_join t n x e f h = not-both (is_joining (t.kind n)) (and-cases (t.under t.root n) (is_joining (t.kind n)) h).1 (ap is_joining e ∙ f)

pub join_inputs : (t : Tree) (n b p : ℕ) → IsTree t → t.under t.root n ≡ true → t.kind n ≡ Joins b p → AreInputs t n (Joins b p)
join_inputs t n b p good u e = let Q : Kind → Type 0 = AreInputs t n in subst Q e (good.inputs n u)

-- being of a side
pub side_cases : (t : Tree) (j n : ℕ) → side_at t j n ≡ true → (is : IsJoinAt t j) × ((n ≡ j) ⊎ (t.under is.built n ≡ true))
side_cases t j n h =
    let c = and-cases (is_join_at t j) ((n == j) || is_built_under t.under (t.kind j) n) h in
    let is = join_at t j c.0 in (
      is,
      elim (or-case (n == j) (is_built_under t.under (t.kind j) n) c.1) [
        | inl e ↦ inl (eq-is n j e)
        | inr w ↦ inr (ap (λ x. is_built_under t.under x n) (sym is.kind) ∙ w)
      ],
    )

pub no_side : (t : Tree) (n s : ℕ) (x : Kind) → t.kind n ≡ x → is_joining x ≡ false → side_at t n s ≡ true → ⊥
no_side t n s x e f h = no_join t n x e f (and-cases (is_join_at t n) ((s == n) || is_built_under t.under (t.kind n) s) h).0

-- what is under the built side is of it
side_in : (t : Tree) (j b p k : ℕ) → t.under t.root j ≡ true → t.kind j ≡ Joins b p → t.under b k ≡ true → side_at t j k ≡ true
side_in t j b p k u e h = and-both (is_join_at t j) ((k == j) || is_built_under t.under (t.kind j) k) (is_join_there t j b p u e)
    (or-right (k == j) (is_built_under t.under (t.kind j) k) (ap (λ x. is_built_under t.under x k) e ∙ h))

-- the side of a join under a node is under the node
pub sides_stay : (t : Tree) (i j s : ℕ) → IsTree t → t.under t.root i ≡ true → t.under i j ≡ true → side_at t j s ≡ true → t.under i s ≡ true
sides_stay t i j s good v u h =
    let c = side_cases t j s h in
    elim c.1 [
      | inl e ↦ ap (t.under i) e ∙ u
      | inr w ↦ good.trans i j s v u ((join_inputs t j c.0.built c.0.probed good c.0.under c.0.kind).0.within s w)
    ]

-- a sink's side goes down to its input
pub sides_down : (t : Tree) (n i j k : ℕ) → IsTree t → ((s : ℕ) → t.under i s ≡ true → t.under n s ≡ true) → t.under i k ≡ true → ((is : IsJoinAt t j) → n ≡ j → t.under is.built k ≡ true) → side_at t j n ≡ true → side_at t j k ≡ true
sides_down t n i j k good up u own h =
    let c = side_cases t j n h in
    let input = (join_inputs t j c.0.built c.0.probed good c.0.under c.0.kind).0 in
    elim c.1 [
      | inl e ↦ side_in t j c.0.built c.0.probed k c.0.under c.0.kind (own c.0 e)
      | inr w ↦ side_in t j c.0.built c.0.probed k c.0.under c.0.kind (good.trans c.0.built n k input.under w (up k u))
    ]

-- the root's sink is of no side
pub not_ordered : (t : Tree) (j : ℕ) → IsTree t → side_at t j t.ordered ≡ true → ⊥
not_ordered t j good side =
    let c = side_cases t j t.ordered side in
    let lj = good.lower t.root j good.root_under c.0.under in
    let o = good.ordered in
    elim c.1 [
      | inl e ↦ omega arith
      | inr w ↦ (let input = (join_inputs t j c.0.built c.0.probed good c.0.under c.0.kind).0 in let l = good.lower c.0.built t.ordered input.under w in let lb = input.lower in omega arith)
    ]
