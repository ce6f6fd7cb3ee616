-- Chains by readers.
use Rattle.std.proofs.Common.{◌≡◌, ◌≢◌, ℕ, zero, suc, ◌+◌, ◌<◌, ◌≤◌, Bool, true, false, cond, refl, sym, ap, ◌∙◌, arith, Option, Some, None}
use Rattle.pipe_events.specs.Stages.{Stage}
use Rattle.pipe_driver.specs.Chains.{Chain, ends_in, through_first, last_where, goes_through, reads, reader, chain_by, chain_in, chain_of}
use Rattle.pipe_driver.specs.Ways.{one, occurs}
use Rattle.pipe_driver.proofs.Tests.{by_test, eq-false, not-both}

-- ---- the greatest number that passes

pub found_one : (test : ℕ → Bool) (b n : ℕ) → n < b → test n ≡ true → ((k : ℕ) → k < b → test k ≡ true → k ≡ n) → last_where test b ≡ Some n
found_one test zero n lt h only = absurd (omega arith)
found_one test (suc b) n lt h only =
    by_test (last_where test (suc b) ≡ Some n) (test b)
    (λ e. ap (λ t. cond t (Some b) (last_where test b)) e ∙ ap Some (only b (omega arith) e))
    (λ e. ap (λ t. cond t (Some b) (last_where test b)) e ∙ found_one test b n (let ne : n ≢ b = λ same. not-both (test n) h (ap test same ∙ e) in omega arith) h (λ k l g. only k (omega arith) g))

pub found_none : (test : ℕ → Bool) (b : ℕ) → ((k : ℕ) → k < b → test k ≡ true → ⊥) → last_where test b ≡ None
found_none test zero none = refl
found_none test (suc b) none =
    by_test (last_where test (suc b) ≡ None) (test b)
    (λ e. absurd (none b (omega arith) e))
    (λ e. ap (λ t. cond t (Some b) (last_where test b)) e ∙ found_none test b (λ k l g. none k (omega arith) g))

pub record Found (test : ℕ → Bool) (b r : ℕ) : Type 0 where
  pub passes : test r ≡ true
  pub below : r < b

pub found_is : (test : ℕ → Bool) (b r : ℕ) → last_where test b ≡ Some r → Found test b r
found_is test zero r e = absurd (let f : None ≡ Some r = e in cc)
found_is test (suc b) r e =
    by_test (Found test (suc b) r) (test b)
    (λ t. (let same : Some b ≡ Some r = sym (ap (λ x. cond x (Some b) (last_where test b)) t) ∙ e in let is : b ≡ r = cc in record { passes = ap test (sym is) ∙ t; below = omega arith }))
    (λ t. (let f = found_is test b r (sym (ap (λ x. cond x (Some b) (last_where test b)) t) ∙ e) in let l = f.below in record { passes = f.passes; below = omega arith }))

-- ---- chains

-- what a stage reads is below it
abbrev pub ReadsBelow : (ℕ → Stage) → ℕ → Type 0
ReadsBelow stage size = (k i : ℕ) → k < size → reads (stage k) i ≡ true → i < k

abbrev by_reader : (ℕ → Stage) → ℕ → (ℕ → Chain) → ℕ → Option ℕ → Chain
by_reader stage size above n r = chain_by stage size above n r

-- the reader of a node, as far as there is one
pub read_by : (stage : ℕ → Stage) (size n : ℕ) (C : Option ℕ → Type 0) → C None → ((r : ℕ) → reads (stage r) n ≡ true → r < size → C (Some r)) → C (reader stage size n)
read_by stage size n C none some =
    let split : (o : Option ℕ) → reader stage size n ≡ o → C o = elim [
      | None ↦ λ e. none
      | Some r ↦ λ e. (let f = found_is (λ k. reads (stage k) n) size r e in some r f.passes f.below)
    ] in split (reader stage size n) refl

steady : (stage : ℕ → Stage) (size a b n : ℕ) → ReadsBelow stage size → size ≤ n + a → size ≤ n + b → chain_in stage size a n ≡ chain_in stage size b n
steady stage size zero zero n below la lb = refl
steady stage size zero (suc b) n below la lb =
    let none = found_none (λ k. reads (stage k) n) size (λ k l g. (let low = below k n l g in omega arith)) in
    sym (ap (chain_by stage size (chain_in stage size b) n) none)
steady stage size (suc a) zero n below la lb =
    let none = found_none (λ k. reads (stage k) n) size (λ k l g. (let low = below k n l g in omega arith)) in
    ap (chain_by stage size (chain_in stage size a) n) none
steady stage size (suc a) (suc b) n below la lb =
    read_by stage size n (λ o. chain_by stage size (chain_in stage size a) n o ≡ chain_by stage size (chain_in stage size b) n o) refl
    (λ r h l. (let low = below r n l h in ap (λ c. cond (goes_through (stage r) n) (through_first r c) (ends_in r)) (steady stage size a b r below (omega arith) (omega arith))))

-- the chain of a node from that of its reader
pub chain_from : (stage : ℕ → Stage) (size i n : ℕ) → ReadsBelow stage size → reader stage size i ≡ Some n → chain_of stage size i ≡ cond (goes_through (stage n) i) (through_first n (chain_of stage size n)) (ends_in n)
chain_from stage zero i n below e = absurd (let f : None ≡ Some n = e in cc)
chain_from stage (suc s) i n below e =
    let f = found_is (λ k. reads (stage k) i) (suc s) n e in
    let low = below n i f.below f.passes in
    ap (chain_by stage (suc s) (chain_in stage (suc s) s) i) e
    ∙ ap (λ c. cond (goes_through (stage n) i) (through_first n c) (ends_in n)) (steady stage (suc s) s (suc s) n below (omega arith) (omega arith))

pub chain_none : (stage : ℕ → Stage) (size n : ℕ) → reader stage size n ≡ None → chain_of stage size n ≡ ends_in size
chain_none stage zero n e = refl
chain_none stage (suc s) n e = ap (chain_by stage (suc s) (chain_in stage (suc s) s) n) e

-- chains go upwards
pub record GoesUp (n : ℕ) (c : Chain) : Type 0 where
  pub sink : n < c.sink
  pub none : (j : ℕ) → j ≤ n → occurs j c.operators ≡ 0

goes_up : (stage : ℕ → Stage) (size steps n : ℕ) → ReadsBelow stage size → n < size → GoesUp n (chain_in stage size steps n)
goes_up stage size zero n below lt = record { sink = lt; none = λ j le. refl }
goes_up stage size (suc steps) n below lt =
    read_by stage size n (λ o. GoesUp n (chain_by stage size (chain_in stage size steps) n o)) (record { sink = lt; none = λ j le. refl })
    (λ r h l. (
    let low = below r n l h in
    let up = goes_up stage size steps r below l in
    let split : (t : Bool) → GoesUp n (cond t (through_first r (chain_in stage size steps r)) (ends_in r)) = elim [
      | true ↦ record { sink = (let s = up.sink in omega arith); none = λ j le. (let z = ap one (eq-false r j (λ e. absurd (omega arith))) in let rest = up.none j (omega arith) in omega arith) }
      | false ↦ record { sink = low; none = λ j le. refl }
    ] in split (goes_through (stage r) n)))

pub chain_up : (stage : ℕ → Stage) (size n : ℕ) → ReadsBelow stage size → n < size → GoesUp n (chain_of stage size n)
chain_up stage size n below lt = goes_up stage size size n below lt
