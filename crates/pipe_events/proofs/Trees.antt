-- The stages of a plan without a fault are a tree.
use Rattle.std.proofs.Common.{◌≡◌, ◌≢◌, ℕ, zero, suc, ◌+◌, ◌<◌, ◌≤◌, Bool, true, false, cond, eqb, ◌||◌, ◌&&◌, length, List, [], ◌∷◌, refl, ap, sym, ◌∙◌, subst, arith, ◌⊎◌, inl, inr, Option, Some, None}
use Rattle.std.specs.Prelude.{nat_lt, nat_le}
use Rattle.std.specs.List.{list_any, range_with_len}
use Rattle.std.proofs.lemmas.Bool.{cases_lt, le-leb}
use Rattle.std.proofs.lemmas.Bool.Decides.{Decides-eqb, Decides-ltb}
use Rattle.pipe_frame.specs.Frame.{Table}
use Rattle.pipe_schema.specs.declared.field.Field.{Field}
use Rattle.pipe_plan.specs.Walk.{walk}
use Rattle.pipe_plan.specs.Node.{Node}
use Rattle.pipe_plan.specs.Node as node
use Rattle.pipe_plan.specs.Plan.{Plan}
use Rattle.pipe_plan.specs.Under as under
use Rattle.pipe_plan.specs.Under.{node_at, is_under, reaches_at}
use Rattle.pipe_plan.specs.Schemas.{schemas_to}
use Rattle.pipe_plan.specs.Swap.{swaps}
use Rattle.pipe_plan.specs.Faults.{or_else, told, repeats, is_reader, is_read_below, is_bad_node, is_void, fault_at, fault_under, first_fault, plan_fault}
use Rattle.pipe_plan.specs.declared.error.PipeError.{PipeError}
use Rattle.pipe_plan.specs.declared.error.PipeError.TheVariants as error
use Rattle.pipe_events.specs.Stages.{Stages, Union}
use Rattle.pipe_events.specs.Worlds.{count}
use Rattle.pipe_events.specs.PlanStages.{stage_of, Setting, stages_of}
use Rattle.pipe_events.proofs.WalkLemmas.{walk_is}
use Rattle.pipe_events.specs.Runs.{inputs_of, reads, is_read, IsTree, PlansAreTrees}
use Rattle.pipe_events.proofs.Members.{either, decide, or_cases, or_left, or_right, same_number, mem, passing, any_at, stands_not}
use Rattle.pipe_events.proofs.Walks.{walk_past}

-- ---- what is no fault

first_none : {X : Type 0} (a b : Option X) → or_else a b ≡ None → a ≡ None
first_none (Some x) b e = cc
first_none None b e = refl

second_none : {X : Type 0} (a b : Option X) → or_else a b ≡ None → b ≡ None
second_none (Some x) b e = cc
second_none None b e = e

untold : (b : Bool) (e : PipeError) → told b e ≡ None → b ≡ false
untold true e h = cc
untold false e h = refl

first_false : (a b : Bool) → (a || b) ≡ false → a ≡ false
first_false true b e = cc
first_false false b e = refl

second_false : (a b : Bool) → (a || b) ≡ false → b ≡ false
second_false true b e = cc
second_false false b e = e

both_true : (a b : Bool) → a ≡ true → b ≡ true → (a && b) ≡ true
both_true true b e d = d
both_true false b e d = cc

refuted : (b : Bool) → (b ≡ true → ⊥) → b ≡ false
refuted true h = absurd (h refl)
refuted false h = refl

-- ---- ranges and lists

any_range : (p : ℕ → Bool) (k a m : ℕ) → a ≤ k → k < a + m → p k ≡ true → list_any p (range_with_len a m) ≡ true
any_range p k a zero low high e = absurd (omega (arith, low, high))
any_range p k a (suc m) low high e =
    either
    (λ is. or_left (p a) (list_any p (range_with_len (a + 1) m)) (subst (λ i. p i ≡ true) (sym ((Decides-eqb a k).0 is)) e))
    (λ differs.
    let apart : a ≡ k → ⊥ = λ same. (let yes = (Decides-eqb a k).1 same in cc) in
    or_right (p a) (list_any p (range_with_len (a + 1) m)) (any_range p k (a + 1) m (omega (arith, low, apart)) (omega (arith, high)) e))
    (decide (eqb a k))

no_repeats : (n : ℕ) (ns : List ℕ) → repeats ns ≡ false → count n ns ≤ 1
no_repeats n [] e = omega arith
no_repeats n (m ∷ ns) e =
    let one : mem m ns ≡ false = first_false (mem m ns) (repeats ns) e in
    let rest = no_repeats n ns (second_false (mem m ns) (repeats ns) e) in
    let split : (b : Bool) → eqb m n ≡ b → cond b 1 0 + count n ns ≤ 1 =
    elim [
      | true ↦ λ is. (let none : count n ns ≡ 0 = stands_not n ns (subst (λ i. mem i ns ≡ false) ((Decides-eqb m n).0 is) one) in omega (arith, none))
      | false ↦ λ _. omega (arith, rest)
    ]
    in split (eqb m n) refl

turned_round : (a b : Bool) → (a || (b || false)) ≡ (b || (a || false))
turned_round true true = refl
turned_round true false = refl
turned_round false true = refl
turned_round false false = refl

-- a stage reads what its node does
same_members : (frames : List Table) (schema : ℕ → List Field) (x : Node) (n : ℕ) → mem n (inputs_of (stage_of frames schema x)) ≡ mem n (under.inputs_of x)
same_members frames schema (node.DataFrameScan frame columns) n = refl
same_members frames schema (node.Filter input predicate) n = refl
same_members frames schema (node.SimpleProjection input columns) n = refl
same_members frames schema (node.Select input exprs) n = refl
same_members frames schema (node.HStack input exprs) n = refl
same_members frames schema (node.MapFunction input function) n = refl
same_members frames schema (node.Union inputs) n = refl
same_members frames schema (node.Join left right left_on right_on options) n =
    elim (swaps options) as (λ b. mem n (cond b left right ∷ cond b right left ∷ []) ≡ mem n (left ∷ right ∷ [])) [ true ↦ refl | false ↦ turned_round (eqb right n) (eqb left n) ]
same_members frames schema (node.Sort input by options) n = refl

same_counts : (frames : List Table) (schema : ℕ → List Field) (x : Node) (n : ℕ) → count n (inputs_of (stage_of frames schema x)) ≡ count n (under.inputs_of x)
same_counts frames schema (node.DataFrameScan frame columns) n = refl
same_counts frames schema (node.Filter input predicate) n = refl
same_counts frames schema (node.SimpleProjection input columns) n = refl
same_counts frames schema (node.Select input exprs) n = refl
same_counts frames schema (node.HStack input exprs) n = refl
same_counts frames schema (node.MapFunction input function) n = refl
same_counts frames schema (node.Union inputs) n = refl
same_counts frames schema (node.Join left right left_on right_on options) n =
    elim (swaps options) as (λ b. count n (cond b left right ∷ cond b right left ∷ []) ≡ count n (left ∷ right ∷ [])) [ true ↦ refl | false ↦ omega arith ]
same_counts frames schema (node.Sort input by options) n = refl

-- ---- under the root

module _ (nodes : List Node) where
  abbrev inputs : ℕ → List ℕ
  inputs k = under.inputs_of (node_at nodes k)

  abbrev reached : ℕ → ℕ → ℕ → Bool
  reached n = walk false (reaches_at nodes n)

  -- what a walk reached stands below it
  below_walk : (n s i : ℕ) → reached n s i ≡ true → i < s
  below_walk n s i e = either (λ lt. lt) (λ le. (let none : reached n s i ≡ false = walk_past false (reaches_at nodes n) s i le in cc)) (cases_lt i s)

  is_low : (n s t : ℕ) → reached n s t ≡ true → n ≤ t
  is_low n zero t e = cc
  is_low n (suc s) t e =
      let split : (b : Bool) → eqb t s ≡ b → cond b (reaches_at nodes n (reached n s) s) (reached n s t) ≡ true → n ≤ t =
      elim [
        | true ↦ λ is r.
            let at : t ≡ s = (Decides-eqb t s).0 is in
            either
            (λ self. (let same : s ≡ n = (Decides-eqb s n).0 self in omega (arith, at, same)))
            (λ some.
            let h = passing (reached n s) (inputs s) some in
            let low = is_low n s h.at h.passes in
            let less = below_walk n s h.at h.passes in
            omega (arith, at, low, less))
            (or_cases (eqb s n) (list_any (reached n s) (inputs s)) r)
        | false ↦ λ _ r. is_low n s t r
      ]
      in split (eqb t s) refl e

  -- what is under an input is under the node
  through : (k i : ℕ) → mem i (inputs k) ≡ true → i < k → (s t : ℕ) → reached k s t ≡ true → reached i s t ≡ true
  through k i member lt zero t e = cc
  through k i member lt (suc s) t e =
      let split : (b : Bool) → eqb t s ≡ b → cond b (reaches_at nodes k (reached k s) s) (reached k s t) ≡ true → cond b (reaches_at nodes i (reached i s) s) (reached i s t) ≡ true =
      elim [
        | true ↦ λ _ r.
            or_right (eqb s i) (list_any (reached i s) (inputs s))
            (either
            (λ self.
            let same : s ≡ k = (Decides-eqb s k).0 self in
            let at_i : reached i s i ≡ true = walk_is false (reaches_at nodes i) s i (omega (arith, lt, same)) ∙ or_left (eqb i i) (list_any (reached i i) (inputs i)) (same_number i) in
            any_at (reached i s) i (inputs s) (subst (λ n. mem i (inputs n) ≡ true) (sym same) member) at_i)
            (λ some.
            let h = passing (reached k s) (inputs s) some in
            any_at (reached i s) h.at (inputs s) h.member (through k i member lt s h.at h.passes))
            (or_cases (eqb s k) (list_any (reached k s) (inputs s)) r))
        | false ↦ λ _ r. through k i member lt s t r
      ]
      in split (eqb t s) refl e

  module _ (root : ℕ) where
    -- a node under the root that has the input
    record Reader (n : ℕ) : Type 0 where
      pub at : ℕ
      pub is_there : is_under nodes root at ≡ true
      pub has : mem n (inputs at) ≡ true

    -- what is under a node under the root is the node, or read by a node under the root
    read_under : (n s t : ℕ) → reached n s t ≡ true → is_under nodes root t ≡ true → (t ≡ n) ⊎ Reader n
    read_under n zero t e u = cc
    read_under n (suc s) t e u =
        let split : (b : Bool) → eqb t s ≡ b → cond b (reaches_at nodes n (reached n s) s) (reached n s t) ≡ true → (t ≡ n) ⊎ Reader n =
        elim [
          | true ↦ λ is r.
              let at : t ≡ s = (Decides-eqb t s).0 is in
              let here : is_under nodes root s ≡ true = subst (λ i. is_under nodes root i ≡ true) at u in
              either
              (λ self. inl (at ∙ (Decides-eqb s n).0 self))
              (λ some.
              let h = passing (reached n s) (inputs s) some in
              let less = below_walk n s h.at h.passes in
              let there : is_under nodes root h.at ≡ true = through s h.at h.member less (length nodes) root here in
              either
              (λ same. inr (record { at = s; is_there = here; has = subst (λ i. mem i (inputs s) ≡ true) same h.member }))
              (λ reader. inr reader)
              (read_under n s h.at h.passes there))
              (or_cases (eqb s n) (list_any (reached n s) (inputs s)) r)
          | false ↦ λ _ r. read_under n s t r u
        ]
        in split (eqb t s) refl e

-- ---- the plan

module _ (plan : Plan) (root : ℕ) (setting : Setting) (faultless : plan_fault plan root ≡ None) where
  abbrev stages : Stages
  stages = stages_of plan root setting

  each_unfaulted : (a n k i : ℕ) → k ≡ a + i → i < n → first_fault plan root (range_with_len a n) ≡ None → fault_under plan root k ≡ None
  each_unfaulted a zero k i e lt none = absurd (omega arith)
  each_unfaulted a (suc n) k zero e lt none = let is : a ≡ k = omega arith in subst (λ m. fault_under plan root m ≡ None) is (first_none (fault_under plan root a) _ none)
  each_unfaulted a (suc n) k (suc i) e lt none = each_unfaulted (a + 1) n k i (omega arith) (omega arith) (second_none (fault_under plan root a) _ none)

  root_there : (root < length plan.nodes) × (first_fault plan root (range_with_len 0 (length plan.nodes)) ≡ None)
  root_there =
      elim (nat_lt root (length plan.nodes)) as (λ b. nat_lt root (length plan.nodes) ≡ b → cond b (first_fault plan root (range_with_len 0 (length plan.nodes))) (Some (error.BadNode root)) ≡ None → (root < length plan.nodes) × (first_fault plan root (range_with_len 0 (length plan.nodes)) ≡ None)) [
        | true ↦ λ e none. ((Decides-ltb root (length plan.nodes)).0 e, none)
        | false ↦ λ _ none. cc
      ] refl faultless

  good : (k : ℕ) → k < length plan.nodes → is_under plan.nodes root k ≡ true → is_bad_node plan root k ≡ false
  good k lt there =
      let here : fault_under plan root k ≡ None = each_unfaulted 0 (length plan.nodes) k k (omega arith) lt root_there.1 in
      let at_k : fault_at plan root k ≡ None = rw there at here in
      untold (is_bad_node plan root k) (error.BadNode k) (first_none (told (is_bad_node plan root k) (error.BadNode k)) _ at_k)

  -- a node under the root stands in the plan, not past the root
  up_to_root : (k : ℕ) → is_under plan.nodes root k ≡ true → k ≤ root
  up_to_root k there = is_low plan.nodes k (length plan.nodes) root there

  in_plan : (k : ℕ) → is_under plan.nodes root k ≡ true → k < length plan.nodes
  in_plan k there = (let le = up_to_root k there in let lt = root_there.0 in omega (arith, le, lt))

  record IsGood (k : ℕ) : Type 0 where
    pub less : list_any (nat_le k) (inputs plan.nodes k) ≡ false
    pub once : repeats (inputs plan.nodes k) ≡ false
    pub unread : list_any (is_read_below plan.nodes root k) (inputs plan.nodes k) ≡ false

  parts : (a b c d : Bool) → (a || b || c || d) ≡ false → (a ≡ false) × ((b ≡ false) × (c ≡ false))
  parts false false false d e = (refl, (refl, refl))
  parts true b c d e = cc
  parts false true c d e = cc
  parts false false true d e = cc

  is_good : (k : ℕ) → is_under plan.nodes root k ≡ true → IsGood k
  is_good k there =
      let p = parts (list_any (nat_le k) (inputs plan.nodes k)) (repeats (inputs plan.nodes k)) (list_any (is_read_below plan.nodes root k) (inputs plan.nodes k)) (is_void plan.frames (node_at plan.nodes k)) (good k (in_plan k there) there) in
      record { less = p.0; once = p.1.0; unread = p.1.1 }

  -- ---- what its stages read

  record Reading (k n : ℕ) : Type 0 where
    pub is_there : is_under plan.nodes root k ≡ true
    pub has : mem n (inputs plan.nodes k) ≡ true

  reading : (k n : ℕ) → reads stages k n ≡ true → Reading k n
  reading k n e =
      elim (is_under plan.nodes root k) as (λ b. is_under plan.nodes root k ≡ b → mem n (inputs_of (cond b (stage_of plan.frames (schemas_to plan k) (node_at plan.nodes k)) (Union []))) ≡ true → Reading k n) [
        | true ↦ λ there r. record { is_there = there; has = sym (same_members plan.frames (schemas_to plan k) (node_at plan.nodes k) n) ∙ r }
        | false ↦ λ _ r. cc
      ] refl e

  read_back : (k n : ℕ) → Reading k n → reads stages k n ≡ true
  read_back k n h =
      ap (λ b. mem n (inputs_of (cond b (stage_of plan.frames (schemas_to plan k) (node_at plan.nodes k)) (Union [])))) h.is_there
      ∙ (same_members plan.frames (schemas_to plan k) (node_at plan.nodes k) n ∙ h.has)

  smaller : (k n : ℕ) → reads stages k n ≡ true → n < k
  smaller k n e =
      let h = reading k n e in
      either
      (λ lt. lt)
      (λ le. (let some = any_at (nat_le k) n (inputs plan.nodes k) h.has (le-leb k n le) in let none = (is_good k h.is_there).less in cc))
      (cases_lt n k)

  once : (k n : ℕ) → count n (inputs_of (stages.stage k)) ≤ 1
  once k n =
      elim (is_under plan.nodes root k) as (λ b. is_under plan.nodes root k ≡ b → count n (inputs_of (cond b (stage_of plan.frames (schemas_to plan k) (node_at plan.nodes k)) (Union []))) ≤ 1) [
        | true ↦ λ there.
            let same = same_counts plan.frames (schemas_to plan k) (node_at plan.nodes k) n in
            let one = no_repeats n (inputs plan.nodes k) (is_good k there).once in
            omega (arith, same, one)
        | false ↦ λ _. omega arith
      ] refl

  no_smaller : (k m n : ℕ) → reads stages k n ≡ true → reads stages m n ≡ true → k < m → ⊥
  no_smaller k m n e d lt =
      let a = reading k n e in
      let b = reading m n d in
      let reader : is_reader plan.nodes root n k ≡ true = both_true (is_under plan.nodes root k) (mem n (inputs plan.nodes k)) a.is_there a.has in
      let before : is_read_below plan.nodes root m n ≡ true = any_range (is_reader plan.nodes root n) k 0 m (omega arith) (omega (arith, lt)) reader in
      let some = any_at (is_read_below plan.nodes root m) n (inputs plan.nodes m) b.has before in
      let none = (is_good m b.is_there).unread in
      cc

  one_reader : (k m n : ℕ) → reads stages k n ≡ true → reads stages m n ≡ true → k ≡ m
  one_reader k m n e d =
      either
      (λ lt. absurd (no_smaller k m n e d lt))
      (λ le. either (λ lt. absurd (no_smaller m k n d e lt)) (λ ge. omega (arith, le, ge)) (cases_lt m k))
      (cases_lt k m)

  root_unread : (k : ℕ) → reads stages k root ≡ false
  root_unread k =
      refuted (reads stages k root) (λ e.
      let less = smaller k root e in
      let le = up_to_root k (reading k root e).is_there in
      absurd (omega (arith, less, le)))

  root_under : is_under plan.nodes root root ≡ true
  root_under = walk_is false (reaches_at plan.nodes root) (length plan.nodes) root root_there.0 ∙ or_left (eqb root root) (list_any (reached plan.nodes root root) (inputs plan.nodes root)) (same_number root)

  others : (n : ℕ) → n ≢ root → is_read stages n ≡ false → stages.stage n ≡ Union []
  others n apart unread =
      elim (is_under plan.nodes root n) as (λ b. is_under plan.nodes root n ≡ b → cond b (stage_of plan.frames (schemas_to plan n) (node_at plan.nodes n)) (Union []) ≡ Union []) [
        | true ↦ λ there.
            either
            (λ same. absurd (apart (sym same)))
            (λ h.
            let back = read_back h.at n (record { is_there = h.is_there; has = h.has }) in
            let lt = in_plan h.at h.is_there in
            let some = any_range (λ k. reads stages k n) h.at 0 (length plan.nodes) (omega arith) (omega (arith, lt)) back in
            cc)
            (read_under plan.nodes root n (length plan.nodes) root there root_under)
        | false ↦ λ _. refl
      ] refl

  is_tree : IsTree stages
  is_tree = record { smaller = smaller; once = once; one_reader = one_reader; root_unread = root_unread; others = others }

pub plans_trees : PlansAreTrees
plans_trees = is_tree
