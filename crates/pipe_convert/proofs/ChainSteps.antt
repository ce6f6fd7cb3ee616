-- The chain of a node goes through its reader, or ends there.
use Rattle.std.proofs.Common.{◌≡◌, ◌≢◌, ℕ, zero, suc, ◌<◌, Bool, true, false, cond, eqb, ◌||◌, ◌==◌, List, [], ◌∷◌, length, Option, Some, None, refl, ap, sym, subst, ◌∙◌, arith, inl, inr}
use Rattle.pipe_frame.specs.Frame.{Table}
use Rattle.pipe_schema.specs.declared.field.Field.{Field}
use Rattle.pipe_plan.specs.Faults.{IsWellFormed}
use Rattle.pipe_plan.specs.Node.{Node}
use Rattle.pipe_plan.specs.Node as node
use Rattle.pipe_plan.specs.Plan.{Plan}
use Rattle.pipe_plan.specs.Schemas.{schemas_to}
use Rattle.pipe_plan.specs.Swap.{swaps}
use Rattle.pipe_plan.specs.Under.{is_under, inputs_of, node_at}
use Rattle.pipe_events.specs.Worlds.{ends}
use Rattle.pipe_events.specs.PlanStages.{stage_of, stage_at}
use Rattle.pipe_driver.specs.declared.branch.SinkAt.{SinkAt}
use Rattle.pipe_driver.specs.declared.branch.SinkAt.TheVariants as at
use Rattle.pipe_driver.proofs.Sound.{member, under-self, root-there}
use Rattle.pipe_driver.proofs.Readers.{reader-under}
use Rattle.pipe_check.specs.Checked.{Checked}
use Rattle.pipe_driver.specs.Chains.{Chain, goes_through, reads, reader, last_where, chain_of, through_first, ends_in}
use Rattle.pipe_driver.proofs.Chains.{found_is, chain_from, chain_none}
use Rattle.pipe_driver.proofs.PlanParts.{there, stage_is, reading, reads_below}
use Rattle.pipe_driver.proofs.Sounds.{are_sound}
use Rattle.pipe_driver.proofs.Tests.{by_test, eq-is, eq-not, or-case, or-first, or-right, not-both}
use Rattle.pipe_convert.specs.Nodes.{IsUnder, plan_in, nodes_in, meaning_in}
use Rattle.pipe_convert.specs.Laws.{ChainsLead}
use Rattle.pipe_convert.specs.Steps.{GoesThrough, EndsIn, IsGiven, GoesOn, stage_in}

-- ---- an input of a node is read by the node's stage

left_true : (a : Bool) → a ≡ true → (a || false) ≡ true
left_true true h = refl
left_true false h = h

reads_sides : (i l r : ℕ) (swapped : Bool) → (eqb l i || (eqb r i || false)) ≡ true → ((eqb (cond swapped l r) i || false) || eqb (cond swapped r l) i) ≡ true
reads_sides i l r true h = elim (or-case (eqb l i) (eqb r i || false) h) [
  | inl e ↦ or-first (eqb l i || false) (eqb r i) (or-first (eqb l i) false e)
  | inr e ↦ or-right (eqb l i || false) (eqb r i) (elim (or-case (eqb r i) false e) [ inl g ↦ g | inr g ↦ absurd (let f : false ≡ true = g in cc) ])
]
reads_sides i l r false h = elim (or-case (eqb l i) (eqb r i || false) h) [
  | inl e ↦ or-right (eqb r i || false) (eqb l i) e
  | inr e ↦ or-first (eqb r i || false) (eqb l i) e
]

input_read : (frames : List Table) (schema : ℕ → List Field) (x : Node) (i : ℕ) → member i (inputs_of x) ≡ true → reads (stage_of frames schema x) i ≡ true
input_read frames schema (node.DataFrameScan frame columns) i h = absurd (let f : false ≡ true = h in cc)
input_read frames schema (node.Filter k predicate) i h = left_true _ h
input_read frames schema (node.SimpleProjection k columns) i h = left_true _ h
input_read frames schema (node.Select k exprs) i h = left_true _ h
input_read frames schema (node.HStack k exprs) i h = left_true _ h
input_read frames schema (node.MapFunction k function) i h = left_true _ h
input_read frames schema (node.Union is) i h = left_true _ h
input_read frames schema (node.Join left right left_on right_on options) i h = reads_sides i left right (swaps options) h
input_read frames schema (node.Sort k by options) i h = elim (or-case (eqb k i) false h) [ inl g ↦ g | inr g ↦ absurd (let f : false ≡ true = g in cc) ]

member_reads : (plan : Plan) (root r i : ℕ) → is_under plan.nodes root r ≡ true → member i (inputs_of (node_at plan.nodes r)) ≡ true → reads (stage_at plan root r) i ≡ true
member_reads plan root r i u m = ap (λ s. reads s i) (stage_is plan root r u) ∙ input_read plan.frames (schemas_to plan r) (node_at plan.nodes r) i m

-- a number that passes is found
passed_over : (test : ℕ → Bool) (b n : ℕ) → n < b → test n ≡ true → last_where test b ≡ None → ⊥
passed_over test zero n lt h e = omega arith
passed_over test (suc b) n lt h e =
    by_test ⊥ (test b)
    (λ t. (let f : Some b ≡ None = sym (ap (λ x. cond x (Some b) (last_where test b)) t) ∙ e in cc))
    (λ t. passed_over test b n (let ne : n ≢ b = λ same. not-both (test n) h (ap test same ∙ t) in omega arith) h (sym (ap (λ x. cond x (Some b) (last_where test b)) t) ∙ e))

-- a node under the root that nothing reads is the root
root_is : (plan : Checked) → IsWellFormed (plan_in plan) plan.root → (prev : ℕ) → IsUnder plan prev → reader (stage_in plan) (length (nodes_in plan)) prev ≡ None → prev ≡ plan.root
root_is plan good prev under none =
    by_test (prev ≡ plan.root) (plan.root == prev)
    (λ e. sym (eq-is plan.root prev e))
    (λ e. absurd (
    let root_in = there (plan_in plan) plan.root plan.root good (under-self (nodes_in plan) plan.root (root-there (plan_in plan) plan.root good.faultless).0) in
    let r = reader-under (plan_in plan) plan.root plan.root prev good root_in (under-self (nodes_in plan) plan.root root_in) (eq-not plan.root prev e) under in
    passed_over (λ k. reads (stage_in plan k) prev) (length (nodes_in plan)) r.0 r.1.there (member_reads (plan_in plan) plan.root r.0 prev r.1.under r.1.reads) none))

-- what the reader of a node says of its chain
record Reads (plan : Checked) (prev r : ℕ) : Type 0 where
  under : IsUnder plan r
  below : r < length (nodes_in plan)
  reads_it : reads (stage_in plan r) prev ≡ true
  goes : chain_of (stage_in plan) (length (nodes_in plan)) prev
      ≡ cond (goes_through (stage_in plan r) prev) (through_first r (chain_of (stage_in plan) (length (nodes_in plan)) r)) (ends_in r)

-- a chain with operators goes through the first of them
pub record FirstStep (plan : Checked) (prev n : ℕ) (ops : List ℕ) : Type 0 where
  pub through : GoesThrough plan prev n
  pub chain_is : ops ≡ (meaning_in plan).above n
  pub sink_is : (meaning_in plan).above_sink prev ≡ (meaning_in plan).above_sink n

module _ (plan : Checked) (good : IsWellFormed (plan_in plan) plan.root) (prev : ℕ) where
  abbrev size : ℕ
  size = length (nodes_in plan)

  abbrev chain : ℕ → Chain
  chain n = chain_of (stage_in plan) size n

  read : (r : ℕ) → reader (stage_in plan) size prev ≡ Some r → Reads plan prev r
  read r e =
      let f = found_is (λ k. reads (stage_in plan k) prev) size r e in
      record {
        under = (reading (plan_in plan) plan.root r prev f.passes).under;
        below = f.below;
        reads_it = f.passes;
        goes = chain_from (stage_in plan) size prev r (reads_below (plan_in plan) plan.root good) e;
      }

  by_reader : (C : Type 0) → (reader (stage_in plan) size prev ≡ None → C) → ((r : ℕ) → Reads plan prev r → C) → C
  by_reader C none some =
      let split : (o : Option ℕ) → reader (stage_in plan) size prev ≡ o → C = elim [
        | None ↦ λ e. none e
        | Some r ↦ λ e. some r (read r e)
      ] in split (reader (stage_in plan) size prev) refl

  pub first_step : (n : ℕ) (ops : List ℕ) → n ∷ ops ≡ (meaning_in plan).above prev → FirstStep plan prev n ops
  first_step n ops e =
      by_reader (FirstStep plan prev n ops)
      (λ none. absurd (let f : n ∷ ops ≡ [] = e ∙ ap (λ c. c.operators) (chain_none (stage_in plan) size prev none) in cc))
      (λ r is. by_test (FirstStep plan prev n ops) (goes_through (stage_in plan r) prev)
      (λ h. (let c : chain prev ≡ through_first r (chain r) = is.goes ∙ ap (λ b. cond b (through_first r (chain r)) (ends_in r)) h in
      let f : n ∷ ops ≡ r ∷ (chain r).operators = e ∙ ap (λ c. c.operators) c in
      let same : n ≡ r = cc in
      let rest : ops ≡ (chain r).operators = cc in
      let Q : ℕ → Type 0 = λ k. FirstStep plan prev k ops in
      subst Q (sym same) (record {
        through = record { under = is.under; through = h };
        chain_is = rest;
        sink_is = ap (λ c. c.sink) c;
      })))
      (λ h. absurd (let f : n ∷ ops ≡ [] = e ∙ ap (λ c. c.operators) (is.goes ∙ ap (λ b. cond b (through_first r (chain r)) (ends_in r)) h) in cc)))

  ends_at : (n : ℕ) → [] ≡ (meaning_in plan).above prev → n ≡ (meaning_in plan).above_sink prev → n < size → EndsIn plan prev n
  ends_at n none sink low =
      by_reader (EndsIn plan prev n)
      (λ no_reader. absurd (let f : n ≡ size = sink ∙ ap (λ c. c.sink) (chain_none (stage_in plan) size prev no_reader) in omega arith))
      (λ r is. by_test (EndsIn plan prev n) (goes_through (stage_in plan r) prev)
      (λ h. absurd (let f : [] ≡ r ∷ (chain r).operators = none ∙ ap (λ c. c.operators) (is.goes ∙ ap (λ b. cond b (through_first r (chain r)) (ends_in r)) h) in cc))
      (λ h. (let same : n ≡ r = sink ∙ ap (λ c. c.sink) (is.goes ∙ ap (λ b. cond b (through_first r (chain r)) (ends_in r)) h) in
      let it : ends (stage_in plan r) prev ≡ true = elim (or-case (goes_through (stage_in plan r) prev) (ends (stage_in plan r) prev) is.reads_it) [ inl t ↦ absurd (not-both (goes_through (stage_in plan r) prev) t h) | inr t ↦ t ] in
      subst (EndsIn plan prev) (sym same) (record { under = is.under; ends_there = it }))))

  -- a chain without operators ends in the sink behind it
  pub last_step : (at : SinkAt) → GoesOn plan prev [] at → IsGiven plan at prev
  last_step at.Ordered on =
      by_reader (prev ≡ plan.root)
      (λ none. root_is plan good prev on.under none)
      (λ r is. absurd (by_test ⊥ (goes_through (stage_in plan r) prev)
      (λ h. (let f : [] ≡ r ∷ (chain r).operators = on.chain ∙ ap (λ c. c.operators) (is.goes ∙ ap (λ b. cond b (through_first r (chain r)) (ends_in r)) h) in cc))
      (λ h. (let f : size ≡ r = on.chain_sink ∙ ap (λ c. c.sink) (is.goes ∙ ap (λ b. cond b (through_first r (chain r)) (ends_in r)) h) in let lt = is.below in omega arith))))
  last_step (at.Sort n) on = ends_at n on.chain on.chain_sink ((are_sound (plan_in plan) plan.root good).low_sort n on.sink.1)
  last_step (at.Build n) on = ends_at n on.chain on.chain_sink ((are_sound (plan_in plan) plan.root good).low_join n on.sink.1)

-- ---- a whole chain

pub chain_goes : ChainsLead
chain_goes plan good given [] a on = (tt, last_step plan good given a on)
chain_goes plan good given (n ∷ ns) a on =
    let f = first_step plan good given n ns on.chain in
    let rest = chain_goes plan good n ns a (record { under = f.through.under; chain = f.chain_is; chain_sink = on.chain_sink ∙ f.sink_is; sink = on.sink }) in
    ((f.through, rest.0), rest.1)
