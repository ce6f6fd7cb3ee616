-- The first pipeline that is left ends at the root, or in the build of a join, which others go through then.
use Rattle.std.proofs.Common.{◌≡◌, ◌≢◌, ℕ, zero, suc, ◌+◌, ◌<◌, ◌==◌, ◌⊎◌, inl, inr, true, false, List, [], ◌∷◌, ◌++◌, map, take, drop, refl, sym, ap, subst, ◌∙◌, arith}
use Rattle.std.specs.List.{flat_map, AllByRecursion}
use Rattle.pipe_schema.proofs.Weights.{total-append}
use Rattle.pipe_plan.specs.Faults.{IsWellFormed}
use Rattle.pipe_plan.specs.Plan.{Plan}
use Rattle.pipe_driver.specs.Branches.{is_sort}
use Rattle.pipe_driver.specs.declared.branch.SinkAt.{SinkAt}
use Rattle.pipe_driver.specs.declared.branch.SinkAt.TheVariants as at
use Rattle.pipe_driver.specs.Blocks.{is_together, begins_on}
use Rattle.pipe_driver.specs.Boards.{begins_leg}
use Rattle.pipe_driver.specs.Fronts.{IsClosed}
use Rattle.pipe_driver.specs.Legs as planned
use Rattle.pipe_driver.specs.Legs.{Way, sink_node, ways_of}
use Rattle.pipe_driver.specs.Lines.{leg_as}
use Rattle.pipe_driver.specs.Meaning.{Meaning, tree_of, meaning_of}
use Rattle.pipe_driver.specs.Shape.{Kind, Begins, Each, Unites, Joins, Sorts, kind_at, is_joining}
use Rattle.pipe_driver.specs.Ways.{one, occurs, legs_to, way_to, feeds, way_through, passes, starts_from, starts_of, AreLegs, IsSinkOf, IsWay, AreOrdered}
use Rattle.pipe_driver.specs.declared.pipe_line.Leg.{Leg}
use Rattle.pipe_driver.proofs.PlanParts.{is_tree}
use Rattle.pipe_driver.proofs.RunNodes.{begin_run, chains_run}
use Rattle.pipe_driver.proofs.Runnable.{can_run}
use Rattle.pipe_driver.proofs.Sides.{not_ordered}
use Rattle.pipe_driver.proofs.SidesTogether.{stand_together}
use Rattle.pipe_driver.proofs.Sounds.{are_sound}
use Rattle.pipe_driver.proofs.Tests.{by_test, eq-true, and-cases, not-both, occurs-append, flat-append}
use Rattle.pipe_engine.specs.declared.part.Part.{Part}
use Rattle.pipe_lines.specs.Fronts.{EndAtRoot, EndAtBuild}
use Rattle.pipe_lines.proofs.Begun.{starts_begin}
use Rattle.pipe_lines.proofs.FrontSides.{BeginsAlone, front_of_build, before_pass_none, front_pass_none}
use Rattle.pipe_lines.proofs.FrontSorts.{ends_at, leg_at, ends_in_no_sort}
use Rattle.pipe_lines.proofs.StaySides.{stays_on}

-- ---- the last sink

-- it is the root's or a build where it is no sort's
root_or_build : {H : Type 0} (ordered : ℕ) (legs : List (Leg (Part H))) → (legs ≡ [] → ⊥) → ((n : ℕ) → ends_at n (map leg_at (map (leg_as ordered) legs)) ≡ true → ⊥) → EndAtRoot legs ⊎ ((j : ℕ) × EndAtBuild j legs)
root_or_build ordered [] some no_sort = absurd (some refl)
root_or_build ordered (leg ∷ []) some no_sort =
    let split : (a : SinkAt) → leg.at ≡ a → EndAtRoot (leg ∷ []) ⊎ ((j : ℕ) × EndAtBuild j (leg ∷ [])) = elim [
      | at.Ordered ↦ λ e. inl e
      | at.Sort n ↦ λ e. absurd (no_sort n (ap (is_sort n) e ∙ eq-true n n refl))
      | at.Build n ↦ λ e. inr (n, e)
    ] in split leg.at refl
root_or_build ordered (leg ∷ next ∷ legs) some no_sort = root_or_build ordered (next ∷ legs) (λ e. (let f : next ∷ legs ≡ [] = e in cc)) no_sort

-- ---- the join whose build it is

pub record FeedsBuild (m : Meaning) (j : ℕ) (legs : List planned.Leg) : Type 0 where
  pub is_join : m.is_join j ≡ true
  pub fed : 0 < legs_to j legs

build_fed : {H : Type 0} (m : Meaning) (start j : ℕ) (legs : List (Leg (Part H))) → AreLegs m start (map (leg_as m.ordered) legs) → EndAtBuild j legs → FeedsBuild m j (map (leg_as m.ordered) legs)
build_fed m start j [] are ends = absurd ends
build_fed m start j (leg ∷ []) are ends =
    let sink : sink_node m.ordered leg.at ≡ j = ap (sink_node m.ordered) ends in
    record {
      is_join = (subst (IsSinkOf m (sink_node m.ordered leg.at)) ends are.0.at).1;
      fed = (let t : one (sink_node m.ordered leg.at == j) ≡ 1 = ap one (eq-true (sink_node m.ordered leg.at) j sink) in omega (arith, t));
    }
build_fed m start j (leg ∷ next ∷ legs) are ends =
    let rest = build_fed m (sink_node m.ordered leg.at) j (next ∷ legs) are.1 ends in
    record { is_join = rest.is_join; fed = (let f = rest.fed in omega (arith, f)) }

-- those that go through a node, of the first ones and of the others
passes_apart : (j n : ℕ) (ps : List Way) → passes j ps ≡ passes j (take n ps) + passes j (drop n ps)
passes_apart j zero [] = refl
passes_apart j zero (p ∷ ps) = omega arith
passes_apart j (suc n) [] = refl
passes_apart j (suc n) (p ∷ ps) = (let rest = passes_apart j n ps in omega (arith, rest))

-- ---- where the branches of a plan begin

starts_on : (start : ℕ) (legs : List planned.Leg) → (legs ≡ [] → ⊥) → 0 < occurs start (starts_from start legs)
starts_on start [] some = absurd (some refl)
starts_on start (leg ∷ legs) some = let e = ap one (eq-true start start refl) in omega (arith, e)

no_join : (x : Kind) → begins_leg x ≡ true → is_joining x ≡ false
no_join Begins h = refl
no_join (Each i) h = absurd (let f : false ≡ true = h in cc)
no_join (Unites is) h = absurd (let f : false ≡ true = h in cc)
no_join (Joins b p) h = absurd (let f : false ≡ true = h in cc)
no_join (Sorts i) h = refl

module _ (plan : Plan) (root : ℕ) (well : IsWellFormed plan root) where
  abbrev m : Meaning
  m = meaning_of plan root

  start_there : (p : Way) → IsWay m p → 0 < occurs p.start (starts_of p)
  start_there p is = starts_on p.start p.legs is.some

  begins_alone : (p : Way) → IsWay m p → ((n : ℕ) → 0 < occurs n (starts_of p) → 0 < occurs n (flat_map starts_of (ways_of plan root))) → BeginsAlone m p
  begins_alone p is there =
      let on = there p.start (start_there p is) in
      let begins = no_join (kind_at plan.nodes p.start) (starts_begin plan root p.start well on) in
      record {
        run = begin_run plan root p.start well on;
        bare = by_test (m.is_join p.start ≡ false) (m.is_join p.start) (λ e. absurd (not-both (is_joining (kind_at plan.nodes p.start)) (and-cases ((tree_of plan root).under root p.start) (is_joining (kind_at plan.nodes p.start)) e).1 begins)) (λ e. e);
      }

  all_alone : (ps : List Way) → AllByRecursion (IsWay m) ps → ((n : ℕ) → 0 < occurs n (flat_map starts_of ps) → 0 < occurs n (flat_map starts_of (ways_of plan root))) → AllByRecursion (BeginsAlone m) ps
  all_alone [] are there = tt
  all_alone (p ∷ ps) are there = (
    begins_alone p are.0 (λ n on. there n (let a = occurs-append n (starts_of p) (flat_map starts_of ps) in omega (arith, on, a))),
    all_alone ps are.1 (λ n on. there n (let a = occurs-append n (starts_of p) (flat_map starts_of ps) in omega (arith, on, a))),
  )

  -- ---- the branches that are left of a plan

  module _ {H : Type 0} (ran : List Way) (first : Way) (legs : List (Leg (Part H))) (ps : List Way) (count : ℕ) (legs_are : first.legs ≡ map (leg_as m.ordered) legs) (all : ran ++ first ∷ ps ≡ ways_of plan root) (ways : AllByRecursion (IsWay m) (first ∷ ps))
      (shortest : (i : ℕ) → 0 < i → i < count → IsClosed (take i (first ∷ ps)) (drop i (first ∷ ps)) → ⊥) where
    there : (n : ℕ) → 0 < occurs n (flat_map starts_of (first ∷ ps)) → 0 < occurs n (flat_map starts_of (ways_of plan root))
    there n on =
        let a = ap (occurs n) (flat-append starts_of ran (first ∷ ps)) in
        let b = occurs-append n (flat_map starts_of ran) (flat_map starts_of (first ∷ ps)) in
        let c = ap (λ ws. occurs n (flat_map starts_of ws)) all in
        omega (arith, on, a, b, c)

    together : (j : ℕ) → is_together (begins_on m j) (ran ++ first ∷ ps) ≡ true
    together j = (let T : List Way → Type 0 = λ ws. is_together (begins_on m j) ws ≡ true in subst T (sym all) (stand_together plan root j well))

    -- the first ends in the build of a join
    module _ (j : ℕ) (ends : EndAtBuild j legs) where
      pub ends_in_build : FeedsBuild m j (map (leg_as m.ordered) legs)
      ends_in_build = (let L : List planned.Leg → Type 0 = AreLegs m first.start in build_fed m first.start j legs (subst L legs_are ways.0.legs) ends)

      pub build_is_fed : 0 < way_to j first
      build_is_fed = (let f = ends_in_build.fed in let e = ap (legs_to j) legs_are in omega (arith, f, e))

      stays : (n : ℕ) → m.is_run n ≡ true → m.side j n ≡ true → n ≢ j → m.side j (m.above_sink n) ≡ true
      stays n run side apart = stays_on plan root j n well run side apart

      -- then the front part doesn't feed the root's sink
      unfed : feeds m.ordered (take count (first ∷ ps)) ≡ 0
      unfed =
          front_of_build m j (are_sound plan root well) (chains_run plan root well) ends_in_build.is_join stays ran first ps count ways (all_alone (first ∷ ps) ways there) (together j) build_is_fed shortest
          (λ side. not_ordered (tree_of plan root) j (is_tree plan root well) side)

      -- and others go through the join
      pub join_is_passed : AreOrdered m (first ∷ ps) → 0 < passes j (drop count (first ∷ ps))
      join_is_passed order =
          let run = can_run plan root well in
          let sound = are_sound plan root well in
          let O : List Way → Type 0 = AreOrdered m in
          let before = before_pass_none m j sound (chains_run plan root well) ends_in_build.is_join stays ran first ps (subst O (sym all) run.order) build_is_fed in
          let front = front_pass_none m j sound (chains_run plan root well) ends_in_build.is_join stays ran first ps count ways (all_alone (first ∷ ps) ways there) (together j) build_is_fed shortest order in
          let come = run.come_to j (sound.listed j ends_in_build.is_join) in
          let a = ap (passes j) all in
          let b = total-append (way_through j) ran (first ∷ ps) in
          let c = passes_apart j count (first ∷ ps) in
          omega (arith, before, front, come, a, b, c)

    -- where those that ran feed nothing that is left, it ends there or at the root
    pub first_ends : IsClosed ran (first ∷ ps) → EndAtRoot legs ⊎ ((j : ℕ) × EndAtBuild j legs)
    first_ends closed =
        root_or_build m.ordered legs
        (λ none. ways.0.some (legs_are ∙ ap (map (leg_as m.ordered)) none))
        (λ n ends. ends_in_no_sort plan root n ran first ps all closed (ap (λ l. ends_at n (map leg_at l)) legs_are ∙ ends))

    -- and where the front part feeds the root's sink, at the root
    pub ends_at_root : IsClosed ran (first ∷ ps) → 0 < feeds m.ordered (take count (first ∷ ps)) → EndAtRoot legs
    ends_at_root closed root_fed = elim (first_ends closed) [
      | inl ends ↦ ends
      | inr build ↦ absurd (let none = unfed build.0 build.1 in omega (arith, none, root_fed))
    ]
