-- Rows that went a part of their way, as if they had gone all of it.
use Rattle.std.proofs.Common.{◌≡◌, ℕ, suc, ◌+◌, ◌<◌, ◌≤◌, Bool, true, false, cond, ◌==◌, ◌⊎◌, inl, inr, List, [], ◌∷◌, ◌++◌, length, refl, sym, ap, subst, ◌∙◌, arith}
use Rattle.std.specs.List.{flat_map}
use Rattle.pipe_schema.specs.Rows.{Row, Same}
use Rattle.pipe_schema.specs.Weights.{total}
use Rattle.pipe_schema.proofs.Weights.{total-append}
use Rattle.pipe_driver.specs.Meaning.{Meaning}
use Rattle.pipe_driver.specs.Ways.{one, occurs}
use Rattle.pipe_driver.proofs.Tests.{by_test, eq-is, eq-true}
use Rattle.pipe_driver.specs.State.{AreAlike}
use Rattle.pipe_driver.specs.Within.{GoThroughRun}
use Rattle.pipe_chain.specs.Counts.{plus, counts_of, Over}
use Rattle.pipe_chain.specs.Flow.{Work, Acts, both_acts, added, made, Flows, Grown, AllGrown}
use Rattle.pipe_chain.specs.Keys.{SameKeys, WithinKeys}
use Rattle.pipe_chain.specs.Parts.{Parts}
use Rattle.pipe_chain.proofs.Weighing.{rows-refl, keys-refl, keys-weigh, keys-fewer, keys-within}
use Rattle.pipe_driver.specs.Along.{counted_at}

-- ---- acts of all rows, where the same keys were won

abbrev pub filled : List Work → List Acts → List Row → List Acts
filled [] acts rows = []
filled (w ∷ ws) [] rows = []
filled (w ∷ ws) (a ∷ acts) rows = record { marked = flat_map w.asks rows; won = a.won } ∷ filled ws acts (made w a.won rows)

abbrev pub gone_out : List Work → List Acts → List Row → List Row
gone_out [] acts rows = rows
gone_out (w ∷ ws) [] rows = rows
gone_out (w ∷ ws) (a ∷ acts) rows = gone_out ws acts (made w a.won rows)

pub flows_filled : (ws : List Work) (acts : List Acts) (tally : List ℕ) (rows : List Row) → Parts ws acts tally rows → Flows ws (filled ws acts rows) rows (gone_out ws acts rows)
flows_filled [] [] tally rows parts = rows-refl rows
flows_filled [] (a ∷ acts) tally rows parts = absurd parts
flows_filled (w ∷ ws) [] tally rows parts = absurd parts
flows_filled (w ∷ ws) (a ∷ acts) [] rows parts = absurd parts
flows_filled (w ∷ ws) (a ∷ acts) (n ∷ tally) rows parts = (keys-refl (flat_map w.asks rows), flows_filled ws acts tally (made w a.won rows) parts.3)

pub parts_length : (ws : List Work) (acts : List Acts) (tally : List ℕ) (rows : List Row) → Parts ws acts tally rows → length acts ≡ length ws
parts_length [] [] tally rows parts = refl
parts_length [] (a ∷ acts) tally rows parts = absurd parts
parts_length (w ∷ ws) [] tally rows parts = absurd parts
parts_length (w ∷ ws) (a ∷ acts) [] rows parts = absurd parts
parts_length (w ∷ ws) (a ∷ acts) (n ∷ tally) rows parts = ap suc (parts_length ws acts tally (made w a.won rows) parts.3)

-- ---- what was marked and won is no more than that

pub record Below (a b : Acts) : Type 0 where
  pub marked : WithinKeys a.marked b.marked
  pub won : SameKeys a.won b.won

abbrev pub AllBelow : List Acts → List Acts → Type 0
AllBelow [] [] = Unit {0}
AllBelow [] (b ∷ more) = ⊥
AllBelow (a ∷ less) [] = ⊥
AllBelow (a ∷ less) (b ∷ more) = Below a b × AllBelow less more

pub below_refl : (a : Acts) → Below a a
below_refl a = record { marked = record { sums = λ f. omega arith }; won = keys-refl a.won }

pub all_below_refl : (acts : List Acts) → AllBelow acts acts
all_below_refl [] = tt
all_below_refl (a ∷ acts) = (below_refl a, all_below_refl acts)

below_one : (old new a : Acts) (asked : List ℕ) → Grown old new a → WithinKeys a.marked asked → Below new (both_acts old (record { marked = asked; won = a.won }))
below_one old new a asked grown within = record {
  marked = keys-within (λ w. (
      let g = keys-weigh grown.marked w in
      let k = keys-fewer within w in
      let t1 = total-append w old.marked a.marked in
      let t2 = total-append w old.marked asked in omega arith));
  won = grown.won;
}

pub all_below : (old new acts : List Acts) (ws : List Work) (tally : List ℕ) (rows : List Row) → AllGrown old new acts → Parts ws acts tally rows → AllBelow new (added old (filled ws acts rows))
all_below [] [] [] [] tally rows grown parts = tt
all_below [] [] [] (w ∷ ws) tally rows grown parts = absurd parts
all_below [] [] (c ∷ acts) ws tally rows grown parts = absurd grown
all_below [] (b ∷ new) acts ws tally rows grown parts = absurd grown
all_below (a ∷ old) [] acts ws tally rows grown parts = absurd grown
all_below (a ∷ old) (b ∷ new) [] ws tally rows grown parts = absurd grown
all_below (a ∷ old) (b ∷ new) (c ∷ acts) [] tally rows grown parts = absurd parts
all_below (a ∷ old) (b ∷ new) (c ∷ acts) (w ∷ ws) [] rows grown parts = absurd parts
all_below (a ∷ old) (b ∷ new) (c ∷ acts) (w ∷ ws) (n ∷ tally) rows grown parts =
    (below_one a b c (flat_map w.asks rows) grown.0 parts.1, all_below old new acts ws tally (made w c.won rows) grown.1 parts.3)

pub all_grown : (old new acts : List Acts) (ws : List Work) (tally : List ℕ) (rows : List Row) → AllGrown old new acts → Parts ws acts tally rows → AllGrown old (added old (filled ws acts rows)) (filled ws acts rows)
all_grown [] [] [] [] tally rows grown parts = tt
all_grown [] [] [] (w ∷ ws) tally rows grown parts = absurd parts
all_grown [] [] (c ∷ acts) ws tally rows grown parts = absurd grown
all_grown [] (b ∷ new) acts ws tally rows grown parts = absurd grown
all_grown (a ∷ old) [] acts ws tally rows grown parts = absurd grown
all_grown (a ∷ old) (b ∷ new) [] ws tally rows grown parts = absurd grown
all_grown (a ∷ old) (b ∷ new) (c ∷ acts) [] tally rows grown parts = absurd parts
all_grown (a ∷ old) (b ∷ new) (c ∷ acts) (w ∷ ws) [] rows grown parts = absurd parts
all_grown (a ∷ old) (b ∷ new) (c ∷ acts) (w ∷ ws) (n ∷ tally) rows grown parts =
    (record { marked = keys-refl (a.marked ++ flat_map w.asks rows); won = keys-refl (a.won ++ c.won) }, all_grown old new acts ws tally (made w c.won rows) grown.1 parts.3)

-- ---- a count past the limit

plus_none : (ns : List ℕ) → plus ns [] ≡ ns
plus_none [] = refl
plus_none (n ∷ ns) = refl

none_counted : (node : ℕ) (ms : List ℕ) → counted_at node ms [] ≡ 0
none_counted node [] = refl
none_counted node (m ∷ ms) = refl

pub at_head : (node m c : ℕ) (ms cs : List ℕ) → node ≡ m → c ≤ counted_at node (m ∷ ms) (c ∷ cs)
at_head node m c ms cs e = let z = ap (λ b. cond b c 0) (eq-true m node (sym e)) in omega arith

over_alone : (limit node : ℕ) (ns ms : List ℕ) → Over limit ns ms node → limit < counted_at node ms ns
over_alone limit node [] ms over = absurd over
over_alone limit node (n ∷ ns) [] over = absurd over
over_alone limit node (n ∷ ns) (m ∷ ms) over = elim over [
  | inl here ↦ (let h = at_head node m n ms ns here.0 in let l = here.1 in omega arith)
  | inr later ↦ (let r = over_alone limit node ns ms later in omega arith)
]

-- so many rows were counted before, and no more than all of these came
pub over_by : (limit node : ℕ) (ws : List Work) (acts : List Acts) (tally : List ℕ) (rows : List Row) (before nodes : List ℕ) → Parts ws acts tally rows → Over limit (plus before tally) nodes node → limit < counted_at node nodes before + counted_at node nodes (counts_of ws (filled ws acts rows) rows)
over_by limit node [] [] [] rows before nodes parts over = absurd parts
over_by limit node [] [] (n ∷ k ∷ tally) rows before nodes parts over = absurd parts
over_by limit node [] (a ∷ acts) tally rows before nodes parts over = absurd parts
over_by limit node (w ∷ ws) [] tally rows before nodes parts over = absurd parts
over_by limit node (w ∷ ws) (a ∷ acts) [] rows before nodes parts over = absurd parts
over_by limit node [] [] (n ∷ []) rows [] [] parts over = absurd over
over_by limit node [] [] (n ∷ []) rows [] (m ∷ ms) parts over = elim over [
  | inl here ↦ (let h = at_head node m (length rows) ms [] here.0 in let l = here.1 in let p : n ≤ length rows = parts in omega arith)
  | inr later ↦ absurd later
]
over_by limit node [] [] (n ∷ []) rows (b ∷ bs) [] parts over = absurd over
over_by limit node [] [] (n ∷ []) rows (b ∷ bs) (m ∷ ms) parts over = elim over [
  | inl here ↦ (let h = at_head node m (length rows) ms [] here.0 in let g = at_head node m b ms bs here.0 in let l = here.1 in let p : n ≤ length rows = parts in omega arith)
  | inr later ↦ (let E : List ℕ → Type 0 = λ ns. Over limit ns ms node in let r = over_alone limit node bs ms (subst E (plus_none bs) later) in omega arith)
]
over_by limit node (w ∷ ws) (a ∷ acts) (n ∷ tally) rows [] [] parts over = absurd over
over_by limit node (w ∷ ws) (a ∷ acts) (n ∷ tally) rows [] (m ∷ ms) parts over = elim over [
  | inl here ↦ (let h = at_head node m (length rows) ms (counts_of ws (filled ws acts (made w a.won rows)) (made w a.won rows)) here.0 in let l = here.1 in let p = parts.0 in omega arith)
  | inr later ↦ (let r = over_by limit node ws acts tally (made w a.won rows) [] ms parts.3 later in let z : counted_at node ms [] ≡ 0 = none_counted node ms in omega arith)
]
over_by limit node (w ∷ ws) (a ∷ acts) (n ∷ tally) rows (b ∷ bs) [] parts over = absurd over
over_by limit node (w ∷ ws) (a ∷ acts) (n ∷ tally) rows (b ∷ bs) (m ∷ ms) parts over = elim over [
  | inl here ↦ (let h = at_head node m (length rows) ms (counts_of ws (filled ws acts (made w a.won rows)) (made w a.won rows)) here.0 in let g = at_head node m b ms bs here.0 in let l = here.1 in let p = parts.0 in omega arith)
  | inr later ↦ (let r = over_by limit node ws acts tally (made w a.won rows) bs ms parts.3 later in omega arith)
]

-- ---- where that node stands

pub over_on : (limit node : ℕ) (ns ms : List ℕ) → Over limit ns ms node → 0 < occurs node ms
over_on limit node [] ms over = absurd over
over_on limit node (n ∷ ns) [] over = absurd over
over_on limit node (n ∷ ns) (m ∷ ms) over = elim over [
  | inl here ↦ (let e = ap one (eq-true m node (sym here.0)) in omega arith)
  | inr later ↦ (let r = over_on limit node ns ms later in omega arith)
]

-- the nodes behind a node on its chain are run
behind_run : (m : Meaning) (s given : ℕ) (ops : List ℕ) → GoThroughRun m → m.above given ≡ ops → AreAlike m s ops → (n : ℕ) → 0 < occurs n ops → m.is_run n ≡ true
behind_run m s given [] chains above are n on = absurd (omega arith)
behind_run m s given (op ∷ ops) chains above are n on = by_test (m.is_run n ≡ true) (op == n)
    (λ e. ap m.is_run (sym (eq-is op n e)) ∙ chains.next given op ops above)
    (λ e. (let z = ap one e in behind_run m s op ops chains are.0 are.2 n (omega arith)))

pub nodes_run : (m : Meaning) (s given : ℕ) (ops : List ℕ) → (GoThroughRun m → m.is_run given ≡ true) → m.above given ≡ ops → AreAlike m s ops → (n : ℕ) → 0 < occurs n (given ∷ ops) → GoThroughRun m → m.is_run n ≡ true
nodes_run m s given ops here above are n on chains = by_test (m.is_run n ≡ true) (given == n)
    (λ e. ap m.is_run (sym (eq-is given n e)) ∙ here chains)
    (λ e. (let z = ap one e in behind_run m s given ops chains above are n (omega arith)))
