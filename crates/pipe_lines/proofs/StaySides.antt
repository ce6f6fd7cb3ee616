-- What begins on the side of a join that is built comes to sinks of that side alone.
use Rattle.std.proofs.Common.{◌≡◌, ◌≢◌, ℕ, zero, suc, ◌<◌, true, false, ◌||◌, ◌==◌, List, [], ◌∷◌, refl, ap, ◌∙◌, inl, inr, arith}
use Rattle.std.specs.List.{list_any, AllByRecursion}
use Rattle.pipe_plan.specs.Faults.{IsWellFormed}
use Rattle.pipe_plan.specs.Plan.{Plan}
use Rattle.pipe_driver.specs.Shape.{Kind, Begins, Each, Unites, Joins, Sorts}
use Rattle.pipe_driver.specs.Meaning.{Tree, is_join_at, is_built_under, side_at, tree_of, meaning_of}
use Rattle.pipe_driver.proofs.PlanParts.{is_tree}
use Rattle.pipe_driver.proofs.Sides.{is_join_there, join_inputs, side_cases}
use Rattle.pipe_driver.proofs.Tests.{by_test, eq-is, eq-not, eq-true, or-case, or-right, or-first, and-both}
use Rattle.pipe_driver.proofs.Trees.{IsTree, IsInput, AreInputs, under_inputs}

module _ (t : Tree) (good : IsTree t) (j built probed : ℕ) (in_root : t.under t.root j ≡ true) (kind : t.kind j ≡ Joins built probed) where
  -- what is under the built side is of it, and so is the join
  below_built : (k : ℕ) → t.under built k ≡ true → side_at t j k ≡ true
  below_built k h = and-both (is_join_at t j) ((k == j) || is_built_under t.under (t.kind j) k) (is_join_there t j built probed in_root kind)
      (or-right (k == j) (is_built_under t.under (t.kind j) k) (ap (λ x. is_built_under t.under x k) kind ∙ h))

  itself : side_at t j j ≡ true
  itself = and-both (is_join_at t j) ((j == j) || is_built_under t.under (t.kind j) j) (is_join_there t j built probed in_root kind)
      (or-first (j == j) (is_built_under t.under (t.kind j) j) (eq-true j j refl))

  inputs : AreInputs t j (Joins built probed)
  inputs = join_inputs t j built probed good in_root kind

  abbrev Ends : ℕ → Type 0
  Ends n = side_at t j (t.above_sink n) ≡ true

  -- so do all that are run below a node
  abbrev Stays : ℕ → Type 0
  Stays m = (n : ℕ) → t.under m n ≡ true → t.is_run n ≡ true → Ends n

  abbrev Known : ℕ → Type 0
  Known b = (i : ℕ) → i < b → t.under t.root i ≡ true → t.under built i ≡ true → Ends i → Stays i

  deeper : (m i : ℕ) → t.under built m ≡ true → t.under t.root i ≡ true → ((k : ℕ) → t.under i k ≡ true → t.under m k ≡ true) → t.under built i ≡ true
  deeper m i in_built u within = good.trans built m i inputs.0.under in_built (within i (good.self i u))

  union_stays : (b m : ℕ) (is : List ℕ) → m < suc b → t.under built m ≡ true → Ends m → AllByRecursion (IsInput t m) is → Known b → (n : ℕ) → list_any (λ o. t.under o n) is ≡ true → t.is_run n ≡ true → Ends n
  union_stays b m [] lt in_built ends are known n below run = absurd (let f : false ≡ true = below in cc)
  union_stays b m (i ∷ is) lt in_built ends are known n below run =
      let low = are.0.lower in
      elim (or-case (t.under i n) (list_any (λ o. t.under o n) is) below) [
        | inl h ↦ known i (omega (arith, low, lt)) are.0.under (deeper m i in_built are.0.under are.0.within) (ap (side_at t j) are.0.above_sink ∙ ends) n h run
        | inr h ↦ union_stays b m is lt in_built ends are.1 known n h run
      ]

  stays_by : (b m : ℕ) (x : Kind) → m < suc b → t.under built m ≡ true → Ends m → AreInputs t m x → Known b → (n : ℕ) → under_inputs t.under x n ≡ true → t.is_run n ≡ true → Ends n
  stays_by b m Begins lt in_built ends are known n below run = absurd (let f : false ≡ true = below in cc)
  stays_by b m (Each i) lt in_built ends are known n below run =
      let low = are.lower in
      known i (omega (arith, low, lt)) are.under (deeper m i in_built are.under are.within) (ap (side_at t j) are.above_sink ∙ ends) n below run
  stays_by b m (Unites is) lt in_built ends are known n below run = union_stays b m is lt in_built ends are.0 known n below run
  stays_by b m (Joins l r) lt in_built ends are known n below run =
      let low = are.0.lower in
      let lower = are.1.lower in
      elim (or-case (t.under l n) (t.under r n) below) [
        | inl h ↦ known l (omega (arith, low, lt)) are.0.under (deeper m l in_built are.0.under are.0.within) (ap (side_at t j) are.0.above_sink ∙ below_built m in_built) n h run
        | inr h ↦ known r (omega (arith, lower, lt)) are.1.under (deeper m r in_built are.1.under are.1.within) (ap (side_at t j) are.1.above_sink ∙ ends) n h run
      ]
  stays_by b m (Sorts i) lt in_built ends are known n below run =
      let low = are.lower in
      known i (omega (arith, low, lt)) are.under (deeper m i in_built are.under are.within) (ap (side_at t j) are.above_sink ∙ below_built m in_built) n below run

  stays : (b m : ℕ) → m < b → t.under t.root m ≡ true → t.under built m ≡ true → Ends m → Stays m
  stays zero m lt u in_built ends n below run = absurd (omega (arith, lt))
  stays (suc b) m lt u in_built ends n below run =
      by_test (Ends n) (n == m)
      (λ e. ap (λ k. side_at t j (t.above_sink k)) (eq-is n m e) ∙ ends)
      (λ e. stays_by b m (t.kind m) lt in_built ends (good.inputs m u) (λ i l v w k. stays b i l v w k) n (good.parts m n u below (eq-not n m e) run) run)

  pub built_stays : Stays built
  built_stays = stays (suc built) built (omega arith) inputs.0.under (good.self built inputs.0.under) (ap (side_at t j) inputs.0.above_sink ∙ itself)

-- of a plan
pub stays_on : (plan : Plan) (root j n : ℕ) → IsWellFormed plan root → (meaning_of plan root).is_run n ≡ true → (meaning_of plan root).side j n ≡ true → n ≢ j → (meaning_of plan root).side j ((meaning_of plan root).above_sink n) ≡ true
stays_on plan root j n well run side apart =
    let t = tree_of plan root in
    let good = is_tree plan root well in
    let c = side_cases t j n side in
    elim c.1 [
      | inl e ↦ absurd (apart e)
      | inr w ↦ built_stays t good j c.0.built c.0.probed c.0.under c.0.kind n w run
    ]
