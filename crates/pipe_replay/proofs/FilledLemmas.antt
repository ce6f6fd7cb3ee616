-- Sinks that are filled one after the other, and then nothing of the worker on its way, is what an emission changes.
use Rattle.std.proofs.Common.{◌≡◌, ℕ, zero, suc, ◌+◌, ◌<◌, ◌≤◌, Bool, true, false, cond, eqb, List, [], ◌∷◌, ◌++◌, refl, ap, sym, ◌∙◌, append-nil, arith, ◌⊎◌, inl, inr}
use Rattle.std.specs.Prelude.{nat_lt}
use Rattle.std.proofs.lemmas.Bool.{cases_lt}
use Rattle.std.proofs.lemmas.Bool.Decides.{Decides-eqb, Decides-ltb}
use Rattle.pipe_schema.specs.Rows.{Row}
use Rattle.pipe_plain.proofs.Walks.{walk-past}
use Rattle.pipe_events.specs.Stages.{Stages, flow, flow_at, only}
use Rattle.pipe_events.specs.Worlds.{World, Load, put, mine, carried, is_sink, emitted}
use Rattle.pipe_world.specs.Changes.{fills, hands_on}
use Rattle.pipe_replay.specs.Carried.{tables_of, gathered}
use Rattle.pipe_replay.proofs.CarriedLemmas.{all-gathered}
use Rattle.pipe_replay.specs.Sinks.{filled, filled_below}

no-by : (b : Bool) → (b ≡ true → ⊥) → b ≡ false
no-by true h = absurd (h refl)
no-by false h = refl

lt-yes : (a b : ℕ) → a < b → nat_lt a b ≡ true
lt-yes a b lt = (Decides-ltb a b).1 lt

lt-no : (a b : ℕ) → b ≤ a → nat_lt a b ≡ false
lt-no a b le = no-by (nat_lt a b) (λ e. let lt = (Decides-ltb a b).0 e in omega arith)

module _ (plan : Stages) (come : ℕ → List Row) where
  -- a bag, and what comes to it
  abbrev full_bag : (ℕ → List Row) → ℕ → List Row
  full_bag bag t = cond (is_sink plan t) (bag t ++ come t) (bag t)

  -- a bag that is filled, if its number is below another
  abbrev bag_below : (k : ℕ) → (ℕ → List Row) → ℕ → List Row
  bag_below k bag t = cond (nat_lt t k) (full_bag bag t) (bag t)

  abbrev with_bag : World → (ℕ → List Row) → World
  with_bag w bag = record { taken = w.taken; pending = w.pending; flag = w.flag; flushed = w.flushed; closed = w.closed; bag = bag }

  -- one bag more
  next-bag : (k : ℕ) (bag : ℕ → List Row) (t : ℕ) → put (bag_below k bag) k (full_bag bag k) t ≡ bag_below (suc k) bag t
  next-bag k bag t =
      let split : (b : Bool) → eqb t k ≡ b → cond b (full_bag bag k) (bag_below k bag t) ≡ bag_below (suc k) bag t =
      elim [
        | true ↦ λ e. let is : t ≡ k = (Decides-eqb t k).0 e in let less : nat_lt t (suc k) ≡ true = lt-yes t (suc k) (omega arith) in rw less (ap (full_bag bag) (sym is))
        | false ↦ λ e.
            let apart : t ≡ k → ⊥ = λ same. (let yes = (Decides-eqb t k).1 same in cc) in
            let sides : (t < k) ⊎ (k ≤ t) → bag_below k bag t ≡ bag_below (suc k) bag t =
            elim [
              | inl lt ↦ let a = lt-yes t k lt in let b = lt-yes t (suc k) (omega arith) in rw (a, b) refl
              | inr le ↦ let a = lt-no t k le in let b = lt-no t (suc k) (omega (arith, apart)) in rw (a, b) refl
            ]
            in sides (cases_lt t k)
      ]
      in split (eqb t k) refl

  here-still : (k : ℕ) (bag : ℕ → List Row) → bag_below k bag k ≡ bag k
  here-still k bag = let e = lt-no k k (omega arith) in rw e refl

  -- a bag to which nothing comes
  put-same : (k : ℕ) (bag : ℕ → List Row) (t : ℕ) → full_bag bag k ≡ bag_below k bag k → put (bag_below k bag) k (full_bag bag k) t ≡ bag_below k bag t
  put-same k bag t e =
      let split : (b : Bool) → eqb t k ≡ b → cond b (full_bag bag k) (bag_below k bag t) ≡ bag_below k bag t =
      elim [ true ↦ λ s. e ∙ ap (bag_below k bag) (sym ((Decides-eqb t k).0 s)) | false ↦ λ _. refl ]
      in split (eqb t k) refl

  one-more : (k : ℕ) (w : World) (bag : ℕ → List Row) → filled plan come k (with_bag w (bag_below k bag)) ≡ with_bag w (bag_below (suc k) bag)
  one-more k w bag =
      let still = here-still k bag in
      let split : (b : Bool) → is_sink plan k ≡ b → cond b (fills k (come k) (with_bag w (bag_below k bag))) (with_bag w (bag_below k bag)) ≡ with_bag w (bag_below (suc k) bag) =
      elim [
        | true ↦ λ e.
            let full : bag_below k bag k ++ come k ≡ full_bag bag k = rw (still, e) refl in
            ap (with_bag w) (λ i. λ t. (ap (λ l. put (bag_below k bag) k l t) full ∙ next-bag k bag t) i)
        | false ↦ λ e.
            let full : full_bag bag k ≡ bag_below k bag k = rw (still, e) refl in
            ap (with_bag w) (λ i. λ t. (sym (put-same k bag t full) ∙ next-bag k bag t) i)
      ]
      in split (is_sink plan k) refl

  start-bag : (bag : ℕ → List Row) (t : ℕ) → bag t ≡ bag_below zero bag t
  start-bag bag t = let e = lt-no t zero (omega arith) in rw e refl

  -- all bags below a number
  pub filled-is : (k : ℕ) (w : World) → filled_below plan come k w ≡ with_bag w (bag_below k w.bag)
  filled-is zero w = ap (with_bag w) (λ i. λ t. start-bag w.bag t i)
  filled-is (suc k) w = ap (filled plan come k) (filled-is k w) ∙ one-more k w w.bag

-- nothing comes to a node that isn't there
none-comes : (plan : Stages) (built : ℕ → List Row) (loads : List Load) (t : ℕ) → plan.size ≤ t → carried plan built loads t ≡ []
none-comes plan built [] t le = refl
none-comes plan built (load ∷ loads) t le =
    let here : flow plan built (only load.node load.rows) t ≡ [] = walk-past [] (flow_at plan built (only load.node load.rows)) plan.size t le in
    let rest = none-comes plan built loads t le in
    rw (here, rest) refl

module _ (plan : Stages) (w : World) (worker : ℕ) where
  abbrev coming : ℕ → List Row
  coming = carried plan w.bag (mine worker w.pending)

  all-bags : (t : ℕ) → bag_below plan coming plan.size w.bag t ≡ full_bag plan coming w.bag t
  all-bags t =
      let sides : (t < plan.size) ⊎ (plan.size ≤ t) → bag_below plan coming plan.size w.bag t ≡ full_bag plan coming w.bag t =
      elim [
        | inl lt ↦ let a = lt-yes t plan.size lt in rw a refl
        | inr le ↦
            let a = lt-no t plan.size le in
            let none = none-comes plan w.bag (mine worker w.pending) t le in
            rw (a, none) (elim (is_sink plan t) as (λ b. w.bag t ≡ cond b (w.bag t ++ []) (w.bag t)) [ true ↦ sym (append-nil (w.bag t)) | false ↦ refl ])
      ]
      in sides (cases_lt t plan.size)

  pub emits : (come : ℕ → List Row) → come ≡ coming → hands_on worker (filled_below plan come plan.size w) ≡ emitted plan worker w
  emits come e =
      ap (λ c. hands_on worker (filled_below plan c plan.size w)) e
      ∙ ap (hands_on worker) (filled-is plan coming plan.size w)
      ∙ ap (λ bag. hands_on worker (with_bag plan coming w bag)) (λ i. λ t. all-bags t i)

-- one node more
pub filled-next : (plan : Stages) (come : ℕ → List Row) (t : ℕ) (w before after : World) → before ≡ filled_below plan come t w → after ≡ filled plan come t before → after ≡ filled_below plan come (t + 1) w
filled-next plan come t w before after so_far e =
    let next : t + 1 ≡ suc t = omega arith in
    e ∙ ap (filled plan come t) so_far ∙ sym (ap (λ k. filled_below plan come k w) next)

-- all nodes, and nothing on the way any more
pub emits-all : (plan : Stages) (w : World) (worker t : ℕ) (tables : List (List (List Row))) (before after : World) → t ≡ plan.size → tables ≡ tables_of plan w worker → before ≡ filled_below plan (gathered tables) t w → after ≡ hands_on worker before → after ≡ emitted plan worker w
emits-all plan w worker t tables before after all is so_far e =
    e ∙ ap (hands_on worker) (so_far ∙ ap (λ k. filled_below plan (gathered tables) k w) all)
    ∙ emits plan w worker (gathered tables) (ap gathered is ∙ all-gathered plan w worker)

pub ruleset emit_rules = (filled-next)
