-- The way of a node's rows, and the chain behind it.
use Rattle.std.proofs.Common.{◌≡◌, ℕ, zero, suc, ◌+◌, ◌<◌, ◌≤◌, true, false, cond, eqb, ◌||◌, ◌==◌, List, [], ◌∷◌, refl, ap, sym, ◌∙◌, subst, arith, Some}
use Rattle.std.proofs.lemmas.Bool.Decides.{Decides-eqb}
use Rattle.pipe_schema.specs.Rows.{Row}
use Rattle.pipe_events.specs.Stages.{JoinStage, Stage, Stages, Scan, Each, Union, Sort, Joined, feeds}
use Rattle.pipe_events.specs.Worlds.{ends}
use Rattle.pipe_events.specs.Runs.{inputs_of, IsTree}
use Rattle.pipe_events.proofs.Members.{either, decide, or_cases, or_left, or_right, mem, head}
use Rattle.pipe_events.proofs.Chains.{Comes, inside, first_step, fed_below, upwards, build_top}
use Rattle.pipe_events.proofs.Going.{untrue}
use Rattle.pipe_driver.specs.Chains.{Chain, ends_in, through_first, goes_through, reads, reader, chain_of}
use Rattle.pipe_driver.specs.Ways.{one, occurs}
use Rattle.pipe_driver.proofs.Chains.{ReadsBelow, found_one, chain_from, GoesUp, chain_up}

-- what a stage reads is among its inputs
read_input : (x : Stage) (n : ℕ) → reads x n ≡ true → mem n (inputs_of x) ≡ true
read_input (Scan rows) n e = cc
read_input (Each input op) n e = either (λ a. a) (λ none. cc) (or_cases (eqb input n || false) false e)
read_input (Union inputs) n e = either (λ a. a) (λ none. cc) (or_cases (mem n inputs) false e)
read_input (Sort input sorted) n e = or_left (eqb input n) false e
read_input (Joined j) n e =
    either
    (λ probe. or_left (eqb j.probe n) (eqb j.build n || false) (either (λ a. a) (λ none. cc) (or_cases (eqb j.probe n) false probe)))
    (λ build. or_right (eqb j.probe n) (eqb j.build n || false) (or_left (eqb j.build n) false build))
    (or_cases (eqb j.probe n || false) (eqb j.build n) e)

module _ (plan : Stages) (tree : IsTree plan) where
  abbrev pub chain : ℕ → Chain
  chain = chain_of plan.stage plan.size

  below : ReadsBelow plan.stage plan.size
  below k i lt e = tree.smaller k i (read_input (plan.stage k) i e)

  reader_is : (n k : ℕ) → k < plan.size → reads (plan.stage k) n ≡ true → reader plan.stage plan.size n ≡ Some k
  reader_is n k lt e = found_one (λ i. reads (plan.stage i) n) plan.size k lt e (λ i less d. tree.one_reader i k n (read_input (plan.stage i) n d) (read_input (plan.stage k) n e))

  -- the chain of a node from that of the node that it goes through
  pub chain_fed : (n k : ℕ) → k < plan.size → mem n (feeds (plan.stage k)) ≡ true → chain n ≡ through_first k (chain k)
  chain_fed n k lt fed =
      chain_from plan.stage plan.size n k below (reader_is n k lt (or_left (goes_through (plan.stage k) n) (ends (plan.stage k) n) fed))
      ∙ ap (λ t. cond t (through_first k (chain k)) (ends_in k)) fed

  chain_ends : (n k : ℕ) → k < plan.size → ends (plan.stage k) n ≡ true → goes_through (plan.stage k) n ≡ false → chain n ≡ ends_in k
  chain_ends n k lt ended none =
      chain_from plan.stage plan.size n k below (reader_is n k lt (or_right (goes_through (plan.stage k) n) (ends (plan.stage k) n) ended))
      ∙ ap (λ t. cond t (through_first k (chain k)) (ends_in k)) none

  -- the input of a sort, and the built side of a join, end in its sink
  pub chain_sort : (k input : ℕ) (sorted : List Row → List Row) → k < plan.size → plan.stage k ≡ Sort input sorted → chain input ≡ ends_in k
  chain_sort k input sorted lt is =
      chain_ends input k lt (ap (λ x. ends x input) is ∙ (Decides-eqb input input).1 refl) (ap (λ x. goes_through x input) is)

  pub chain_build : (k : ℕ) (j : JoinStage) → k < plan.size → plan.stage k ≡ Joined j → chain j.build ≡ ends_in k
  chain_build k j lt is =
      chain_ends j.build k lt (ap (λ x. ends x j.build) is ∙ (Decides-eqb j.build j.build).1 refl)
      (untrue (goes_through (plan.stage k) j.build) (λ fed. build_top plan tree k j is k fed))

  pub chain_probe : (k : ℕ) (j : JoinStage) → k < plan.size → plan.stage k ≡ Joined j → chain j.probe ≡ through_first k (chain k)
  chain_probe k j lt is = chain_fed j.probe k lt (ap (λ x. mem j.probe (feeds x)) is ∙ head j.probe [])

  -- chains go upwards
  pub chain_rises : (n : ℕ) → n < plan.size → GoesUp n (chain n)
  chain_rises n lt = chain_up plan.stage plan.size n below lt

  -- node t is on the way of node n: it is on the chain of n, and so is what is behind it
  pub record Along (n t : ℕ) : Type 0 where
    pub on : (n ≡ t → ⊥) → 0 < occurs t (chain n).operators
    pub behind : (k : ℕ) → 0 < occurs k (chain t).operators → 0 < occurs k (chain n).operators
    pub sink : (chain n).sink ≡ (chain t).sink

  along_here : (n t : ℕ) → n ≡ t → Along n t
  along_here n t same = record {
    on = λ apart. absurd (apart same);
    behind = λ k some. subst (λ i. 0 < occurs k (chain i).operators) (sym same) some;
    sink = ap (λ i. (chain i).sink) same;
  }

  along_from : (d n t : ℕ) → plan.size ≤ n + d → Comes plan tree n t → Along n t
  along_from zero n t enough r = (let le = upwards plan tree n t r in let lt = inside plan tree n t r in absurd (omega (arith, enough, le, lt)))
  along_from (suc d) n t enough r =
      either
      (λ is. along_here n t ((Decides-eqb n t).0 is))
      (λ differs.
      let h = first_step plan tree n t r (λ same. (let yes = (Decides-eqb n t).1 same in cc)) in
      let less = fed_below plan tree h.at n h.fed in
      let lt = inside plan tree h.at t h.goes_on in
      let le = upwards plan tree h.at t h.goes_on in
      let rest = along_from d h.at t (omega (arith, enough, less)) h.goes_on in
      let is : chain n ≡ through_first h.at (chain h.at) = chain_fed n h.at (omega (arith, lt, le)) h.fed in
      let ops : (chain n).operators ≡ h.at ∷ (chain h.at).operators = ap (λ c. c.operators) is in
      record {
        on = λ apart.
            either
            (λ same. subst (λ l. 0 < occurs t l) (sym ops) (let first : one (h.at == t) ≡ 1 = ap one same in omega (arith, first)))
            (λ not_here. subst (λ l. 0 < occurs t l) (sym ops) (let some = rest.on (λ same. (let yes = (Decides-eqb h.at t).1 same in cc)) in omega (arith, some)))
            (decide (eqb h.at t));
        behind = λ k some. subst (λ l. 0 < occurs k l) (sym ops) (let more = rest.behind k some in omega (arith, more));
        sink = ap (λ c. c.sink) is ∙ rest.sink;
      })
      (decide (eqb n t))

  pub along : (n t : ℕ) → Comes plan tree n t → Along n t
  along n t r = along_from plan.size n t (omega arith) r
