-- The meaning of a well-formed plan is sound.
use Rattle.std.proofs.Common.{◌≡◌, ℕ, zero, suc, ◌<◌, Bool, true, false, not, cond, ◌||◌, ◌==◌, inl, inr, List, [], ◌∷◌, length, refl, sym, ap, subst, ◌∙◌, arith, Option, Some, None}
use Rattle.std.specs.List.{list_any, list_all}
use Rattle.pipe_frame.specs.Frame.{Table}
use Rattle.pipe_schema.specs.Rows.{Row}
use Rattle.pipe_schema.specs.declared.field.Field.{Field}
use Rattle.pipe_plan.specs.Node.{Node}
use Rattle.pipe_plan.specs.Node as node
use Rattle.pipe_plan.specs.Plan.{Plan}
use Rattle.pipe_plan.specs.Under.{node_at, inputs_of, is_under}
use Rattle.pipe_plan.specs.PlanRows.{rows_of}
use Rattle.pipe_plan.specs.Schemas.{schemas_to}
use Rattle.pipe_plan.specs.Swap.{swaps}
use Rattle.pipe_plan.specs.Faults.{IsWellFormed}
use Rattle.pipe_driver.specs.Branches.{is_scan_at}
use Rattle.pipe_driver.proofs.Sound.{member}
use Rattle.pipe_driver.proofs.Covers.{side-member}
use Rattle.pipe_driver.proofs.Readers.{one-reader}
use Rattle.pipe_events.specs.Stages.{Union}
use Rattle.pipe_events.specs.PlanStages.{stage_of, stage_at}
use Rattle.pipe_driver.specs.Shape.{Kind, Begins, Each, Unites, Joins, Sorts, kind_of, kind_at, union_kind, is_joining, is_sorting, probed_of, joins_by}
use Rattle.pipe_driver.specs.Chains.{through_first, ends_in, goes_through, reader, chain_of}
use Rattle.pipe_driver.specs.Meaning.{Tree, is_join_at, is_built_under, join_own, is_source_over, is_part, tree_of, meaning_of}
use Rattle.pipe_driver.specs.LegLaws.{MeaningsAreSound}
use Rattle.pipe_driver.proofs.Tests.{by_test, eq-is, eq-true, not-both, or-case, or-first, or-right, and-cases, and-both}
use Rattle.pipe_driver.proofs.Trees.{AreInputs, IsTree}
use Rattle.pipe_driver.proofs.Trails.{or_own}
use Rattle.pipe_driver.proofs.Sides.{join_at, join_inputs}
use Rattle.pipe_driver.proofs.Nodes.{know_all}
use Rattle.pipe_driver.proofs.Chains.{chain_from, chain_none}
use Rattle.pipe_driver.proofs.PlanParts.{there, stage_is, reads_below, reading, part_reader, is_tree}
use Rattle.pipe_driver.proofs.Runnable.{Once, two_once, more_once, raise_once, list_once, in_any, above_not, join_listed}

-- ---- joins stand once

at_once : (t : Tree) (n : ℕ) (x : Kind) → IsTree t → t.under t.root n ≡ true → AreInputs t n x → ((i : ℕ) → i < n → t.under t.root i ≡ true → Once (t.under i) (t.joins i)) → Once (t.under n) (joins_by t.joins n x)
at_once t n Begins good u are known = record { few = λ k. omega arith; inside = λ k h. absurd (omega arith) }
at_once t n (Each i) good u are known = raise_once (t.under i) (t.under n) (t.joins i) are.within (known i are.lower are.under)
at_once t n (Unites is) good u are known =
    raise_once (λ k. list_any (λ o. t.under o k) is) (t.under n) _ (λ k h. in_any t n k is are.0 h)
    (list_once t t.joins n is are.1 (know_all t (λ i. Once (t.under i) (t.joins i)) n is known are.0))
at_once t n (Joins b p) good u are known =
    let not_b = above_not t n b good are.0.lower are.0.under in
    let second = more_once (t.under p) (or_own (t.under p) n) n (t.joins p) (known p are.1.lower are.1.under) (above_not t n p good are.1.lower are.1.under) (or-right (t.under p n) (n == n) (eq-true n n refl)) (λ k h. or-first (t.under p k) (n == k) h) in
    two_once (t.under b) (or_own (t.under p) n) (t.under n) (t.joins b) (n ∷ t.joins p) (known b are.0.lower are.0.under) second
    (λ k h w. elim (or-case (t.under p k) (n == k) w) [ inl e ↦ are.2 k h e | inr e ↦ not-both (t.under b n) (ap (t.under b) (eq-is n k e) ∙ h) not_b ])
    are.0.within
    (λ k w. elim (or-case (t.under p k) (n == k) w) [ inl e ↦ are.1.within k e | inr e ↦ ap (t.under n) (sym (eq-is n k e)) ∙ good.self n u ])
at_once t n (Sorts i) good u are known = raise_once (t.under i) (t.under n) (t.joins i) are.within (known i are.lower are.under)

joins_once : (t : Tree) (bound n : ℕ) → IsTree t → n < bound → t.under t.root n ≡ true → Once (t.under n) (t.joins n)
joins_once t zero n good lt u = absurd (omega arith)
joins_once t (suc bound) n good lt u =
    let is = at_once t n (t.kind n) good u (good.inputs n u) (λ i less under. joins_once t bound i good (omega arith) under) in
    let P : List ℕ → Type 0 = Once (t.under n) in
    subst P (sym (good.joins n u)) is

-- ---- nodes that are no joins have no rows of their own

none_own : (nodes : List Node) (frames : List Table) (schema : ℕ → List Field) (rows : ℕ → List Row) (x : Node) → is_joining (kind_of nodes x) ≡ false → join_own rows (stage_of frames schema x) ≡ []
none_own nodes frames schema rows (node.DataFrameScan frame columns) h = refl
none_own nodes frames schema rows (node.Filter i predicate) h = refl
none_own nodes frames schema rows (node.SimpleProjection i columns) h = refl
none_own nodes frames schema rows (node.Select i exprs) h = refl
none_own nodes frames schema rows (node.HStack i exprs) h = refl
none_own nodes frames schema rows (node.MapFunction i function) h = refl
none_own nodes frames schema rows (node.Union is) h = refl
none_own nodes frames schema rows (node.Join l r left_on right_on options) h = absurd (let f : true ≡ false = h in cc)
none_own nodes frames schema rows (node.Sort i by options) h = refl

no_own : (plan : Plan) (root n : ℕ) → is_join_at (tree_of plan root) n ≡ false → join_own (rows_of plan) (stage_at plan root n) ≡ []
no_own plan root n h =
    by_test (join_own (rows_of plan) (stage_at plan root n) ≡ []) (is_under plan.nodes root n)
    (λ u. ap (join_own (rows_of plan)) (stage_is plan root n u)
    ∙ none_own plan.nodes plan.frames (schemas_to plan n) (rows_of plan) (node_at plan.nodes n) (sym (ap (λ b. cond b (is_joining (kind_at plan.nodes n)) false) u) ∙ h))
    (λ u. ap (λ b. join_own (rows_of plan) (cond b (stage_of plan.frames (schemas_to plan n) (node_at plan.nodes n)) (Union []))) u)

-- ---- the probe side of a join is read by the join alone

union_not : (is_source : Bool) (is : List ℕ) (b p : ℕ) → union_kind is_source is ≡ Joins b p → ⊥
union_not true is b p e = cc
union_not false is b p e = cc

probed_member : (nodes : List Node) (x : Node) (b p : ℕ) → kind_of nodes x ≡ Joins b p → member p (inputs_of x) ≡ true
probed_member nodes (node.DataFrameScan frame columns) b p e = absurd (let f : Begins ≡ Joins b p = e in cc)
probed_member nodes (node.Filter i predicate) b p e = absurd (let f : Each i ≡ Joins b p = e in cc)
probed_member nodes (node.SimpleProjection i columns) b p e = absurd (let f : Each i ≡ Joins b p = e in cc)
probed_member nodes (node.Select i exprs) b p e = absurd (let f : Each i ≡ Joins b p = e in cc)
probed_member nodes (node.HStack i exprs) b p e = absurd (let f : Each i ≡ Joins b p = e in cc)
probed_member nodes (node.MapFunction i function) b p e = absurd (let f : Each i ≡ Joins b p = e in cc)
probed_member nodes (node.Union is) b p e = absurd (union_not (list_all (is_scan_at nodes) is) is b p e)
probed_member nodes (node.Join l r left_on right_on options) b p e =
    let f : Joins (cond (swaps options) r l) (cond (swaps options) l r) ≡ Joins b p = e in
    let same : cond (swaps options) l r ≡ p = cc in
    ap (λ k. member k (l ∷ r ∷ [])) (sym same) ∙ (side-member l r (swaps options)).1
probed_member nodes (node.Sort i by options) b p e = absurd (let f : Sorts i ≡ Joins b p = e in cc)

probed_run : (plan : Plan) (root j b p : ℕ) → IsWellFormed plan root → is_under plan.nodes root j ≡ true → kind_at plan.nodes j ≡ Joins b p → is_under plan.nodes root p ≡ true → (tree_of plan root).is_run p ≡ true
probed_run plan root j b p good u e v =
    by_test ((tree_of plan root).is_run p ≡ true) (is_part plan root p)
    (λ h. absurd (
    let r = part_reader plan root p h in
    let is = reading plan root r.0 p r.1.0 in
    let same = one-reader plan root r.0 j p good (there plan root r.0 good is.under) (there plan root j good u) is.under u is.reads_it (probed_member plan.nodes (node_at plan.nodes j) b p e) in
    not-both (is_source_over (kind_at plan.nodes r.0)) r.1.1 (ap (λ k. is_source_over (kind_at plan.nodes k)) same ∙ ap is_source_over e)))
    (λ h. and-both (is_under plan.nodes root p) (not (is_part plan root p)) v (ap not h))

-- ---- chains go on

record GoesOn (plan : Plan) (root n op : ℕ) (ops : List ℕ) : Type 0 where
  above : (tree_of plan root).above op ≡ ops
  above_sink : (tree_of plan root).above_sink op ≡ (tree_of plan root).above_sink n

goes_on : (plan : Plan) (root n op : ℕ) (ops : List ℕ) → IsWellFormed plan root → (tree_of plan root).above n ≡ op ∷ ops → GoesOn plan root n op ops
goes_on plan root n op ops good is =
    let stage = stage_at plan root in
    let size = length plan.nodes in
    let split : (o : Option ℕ) → reader stage size n ≡ o → GoesOn plan root n op ops = elim [
      | None ↦ λ e. absurd (let f : [] ≡ op ∷ ops = sym (ap (λ c. c.operators) (chain_none stage size n e)) ∙ is in cc)
      | Some r ↦ λ e. (
          let c = chain_from stage size n r (reads_below plan root good) e in
          by_test (GoesOn plan root n op ops) (goes_through (stage r) n)
          (λ t. (
          let d = c ∙ ap (λ b. cond b (through_first r (chain_of stage size r)) (ends_in r)) t in
          let f : r ∷ (chain_of stage size r).operators ≡ op ∷ ops = sym (ap (λ x. x.operators) d) ∙ is in
          let same : r ≡ op = cc in
          let rest : (chain_of stage size r).operators ≡ ops = cc in
          record {
            above = ap (λ k. (chain_of stage size k).operators) (sym same) ∙ rest;
            above_sink = ap (λ k. (chain_of stage size k).sink) (sym same) ∙ sym (ap (λ x. x.sink) d);
          }))
          (λ t. absurd (let d = c ∙ ap (λ b. cond b (through_first r (chain_of stage size r)) (ends_in r)) t in let f : [] ≡ op ∷ ops = sym (ap (λ x. x.operators) d) ∙ is in cc)))
    ] in split (reader stage size n) refl

both_kinds : (x : Kind) → is_sorting x ≡ true → is_joining x ≡ true → ⊥
both_kinds Begins h k = let f : false ≡ true = h in cc
both_kinds (Each i) h k = let f : false ≡ true = h in cc
both_kinds (Unites is) h k = let f : false ≡ true = h in cc
both_kinds (Joins b p) h k = let f : false ≡ true = h in cc
both_kinds (Sorts i) h k = let f : false ≡ true = k in cc

pub are_sound : MeaningsAreSound
are_sound plan root good =
    let t = tree_of plan root in
    let nodes = plan.nodes in
    let ok = is_tree plan root good in
    record {
      apart = λ n h k. both_kinds (t.kind n) (and-cases (is_under nodes root n) (is_sorting (t.kind n)) h).1 (and-cases (is_under nodes root n) (is_joining (t.kind n)) k).1;
      low_sort = λ n h. there plan root n good (and-cases (is_under nodes root n) (is_sorting (t.kind n)) h).0;
      low_join = λ n h. there plan root n good (and-cases (is_under nodes root n) (is_joining (t.kind n)) h).0;
      few = (joins_once t (suc root) root ok (omega arith) ok.root_under).few;
      listed = λ n h. join_listed t (suc root) root n ok (omega arith) ok.root_under h (and-cases (is_under nodes root n) (is_joining (t.kind n)) h).0;
      only = λ n h. no_own plan root n h;
      own = λ j h. and-both (is_join_at t j) ((j == j) || is_built_under t.under (t.kind j) j) h (or-first (j == j) (is_built_under t.under (t.kind j) j) (eq-true j j refl));
      chained = λ n op ops is. (let g = goes_on plan root n op ops good is in (g.above, g.above_sink));
      probed = λ j h. (
          let is = join_at t j h in
          let input = (join_inputs t j is.built is.probed ok is.under is.kind).1 in
          let same : (meaning_of plan root).probed j ≡ is.probed = ap probed_of is.kind in
          ap t.above same ∙ input.above);
      run = λ j h. (
          let is = join_at t j h in
          let input = (join_inputs t j is.built is.probed ok is.under is.kind).1 in
          let same : (meaning_of plan root).probed j ≡ is.probed = ap probed_of is.kind in
          ap t.is_run same ∙ probed_run plan root j is.built is.probed good is.under is.kind input.under);
    }
