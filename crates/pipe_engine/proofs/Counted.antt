-- Rows that are counted at their nodes, leg after leg.
use Rattle.std.proofs.Common.{◌≡◌, ℕ, ◌+◌, ◌<◌, ◌≤◌, Bool, true, false, cond, ◌==◌, List, [], ◌∷◌, ◌++◌, length, get_or, Option, Some, None, refl, sym, ap, subst, ◌∙◌, arith}
use Rattle.std.specs.List.{flat_map}
use Rattle.pipe_schema.specs.Rows.{Row}
use Rattle.pipe_schema.proofs.Weights.{SameBag, SameBag-refl, SameBag-append, SameBag-flat_map}
use Rattle.pipe_chain.specs.Counts.{AllWithin, counts_of, plus}
use Rattle.pipe_chain.specs.Flow.{Work, Acts, made}
use Rattle.pipe_driver.specs.Meaning.{Meaning, Place, OutOf}
use Rattle.pipe_driver.specs.State.{World, spent_at}
use Rattle.pipe_driver.specs.Tables.{number_at}
use Rattle.pipe_passage.proofs.Stopped.{nil-told, some-told}
use Rattle.pipe_driver.proofs.Tests.{by_test, eq-is, eq-true, eq-false, eq-not}
use Rattle.pipe_run.specs.Dealt.{nodes_in, counts_in}
use Rattle.pipe_run.specs.Lanes.{lane_nodes}
use Rattle.pipe_run.specs.Stages.{nodes_of}
use Rattle.pipe_run.specs.declared.lane.Lane.{Lane}
use Rattle.pipe_run.specs.declared.stage.SinkStage.{SinkStage}
use Rattle.pipe_run.specs.declared.stage.Stage.{Stage}
use Rattle.pipe_driver.specs.Along.{counted_at}
use Rattle.pipe_driver.proofs.Flowing.{same_many, both_many}
use Rattle.pipe_engine.specs.Carried.{first_node}
use Rattle.pipe_engine.specs.Engine.{AreCounted, Fits, IsAdded, given_in}
use Rattle.pipe_engine.specs.Passed.{with_more}
use Rattle.pipe_engine.specs.Stands.{Settings}
use Rattle.pipe_engine.specs.declared.engine.Engine.{Engine}
use Rattle.pipe_engine.specs.declared.engine.OpenLeg.{OpenLeg}

-- ---- counts beside their nodes

cond_plus : (b : Bool) (x y : ℕ) → cond b (x + y) 0 ≡ cond b x 0 + cond b y 0
cond_plus true x y = refl
cond_plus false x y = refl

cond_zero : (b : Bool) (x : ℕ) → x ≡ 0 → cond b x 0 ≡ 0
cond_zero true x e = e
cond_zero false x e = refl

counted_plus : (t : ℕ) (nodes a b : List ℕ) → counted_at t nodes (plus a b) ≡ counted_at t nodes a + counted_at t nodes b
counted_plus t [] a b = refl
counted_plus t (n ∷ ns) [] b = omega arith
counted_plus t (n ∷ ns) (x ∷ a) [] = omega arith
counted_plus t (n ∷ ns) (x ∷ a) (y ∷ b) = let c = cond_plus (n == t) x y in let r = counted_plus t ns a b in omega arith

pub counted_zero : (t : ℕ) (nodes a : List ℕ) → AllWithin 0 a → counted_at t nodes a ≡ 0
counted_zero t [] a h = refl
counted_zero t (n ∷ ns) [] h = refl
counted_zero t (n ∷ ns) (x ∷ a) h =
    let z : x ≡ 0 = (let l = h.0 in omega arith) in
    let c = cond_zero (n == t) x z in
    let r = counted_zero t ns a h.1 in omega arith

-- so many rows come into each operator, whatever their order
pub counts_alike : (ws : List Work) (acts : List Acts) (a b : List Row) → SameBag a b → counts_of ws acts a ≡ counts_of ws acts b
counts_alike [] acts a b same = ap (λ n. n ∷ []) (same_many a b same)
counts_alike (w ∷ ws) [] a b same = ap (λ n. n ∷ []) (same_many a b same)
counts_alike (w ∷ ws) (k ∷ acts) a b same =
    let more = counts_alike ws acts (made w k.won a) (made w k.won b) (SameBag-append (SameBag-flat_map w.each same) (SameBag-refl (flat_map w.gains k.won))) in
    ap (λ n. n ∷ counts_of ws acts (made w k.won a)) (same_many a b same) ∙ ap (λ l. length b ∷ l) more

pub first_counted : (t n c : ℕ) (ns cs nodes counts : List ℕ) → nodes ≡ n ∷ ns → counts ≡ c ∷ cs → counted_at t nodes counts ≡ cond (n == t) c 0 + counted_at t ns cs
first_counted t n c ns cs nodes counts e g = ap (λ l. counted_at t l counts) e ∙ ap (counted_at t (n ∷ ns)) g

one_counted : (t n : ℕ) (counts : List ℕ) → counted_at t (n ∷ []) counts ≡ cond (n == t) (number_at counts 0) 0
one_counted t n [] = sym (cond_zero (n == t) 0 refl)
one_counted t n (c ∷ counts) = let e : cond (n == t) (number_at (c ∷ counts) 0) 0 ≡ cond (n == t) c 0 = refl in omega arith

-- what is added where the first is left
first_added : (t n c : ℕ) (ns cs nodes counts : List ℕ) → nodes ≡ n ∷ ns → counts ≡ c ∷ cs → cond (first_node nodes == t) (number_at counts 0) 0 ≡ cond (n == t) c 0
first_added t n c ns cs nodes counts e g = ap (λ l. cond (first_node l == t) (number_at counts 0) 0) e ∙ ap (λ l. cond (n == t) (number_at l 0) 0) g

-- ---- a lane, and the table of counts

pub first_none : {O K : Type 0} (sts : List (Stage O)) (n : ℕ) (b : SinkStage K) → n ≡ length sts → (n == 0) ≡ true → b.node ≡ first_node (nodes_of sts b)
first_none sts n b long none = ap (λ l. first_node (nodes_of l b)) (sym (nil-told sts n long none))

some_stage : {O K : Type 0} (sts : List (Stage O)) (b : SinkStage K) (d : Stage O) → (sts ≡ [] → ⊥) → (get_or sts 0 d).node ≡ first_node (nodes_of sts b)
some_stage [] b d some = absurd (some refl)
some_stage (st ∷ sts) b d some = refl

pub first_some : {O K : Type 0} (sts : List (Stage O)) (n : ℕ) (b : SinkStage K) (d : Stage O) → n ≡ length sts → (n == 0) ≡ false → (get_or sts 0 d).node ≡ first_node (nodes_of sts b)
first_some sts n b d long some = some_stage sts b d (λ none. (let more = some-told sts n long some in let zero = ap length none in absurd (omega arith)))

-- a node that the table hasn't is no node of the plan
pub added_past : (node rows limit : ℕ) (given : List ℕ) → length given ≤ node → ((k : ℕ) → number_at given k ≤ limit) → IsAdded node rows limit given given
added_past node rows limit given past within = record {
  all = λ k low. (let e = ap (λ b. cond b rows 0) (eq-false node k (λ same. (let z = same in absurd (omega arith)))) in omega arith);
  long = refl;
  within = within;
}

pub added_at : (node rows limit all : ℕ) (given new : List ℕ) → node < length given → all ≡ number_at given node + rows → all ≤ limit → ((k : ℕ) → number_at given k ≤ limit)
    → ((k : ℕ) → number_at new k ≡ cond (k == node) all (number_at given k)) → length new ≡ length given → IsAdded node rows limit given new
added_at node rows limit all given new low is le within put long = record {
  all = λ k there. by_test (number_at new k ≡ number_at given k + cond (node == k) rows 0) (node == k)
      (λ e. (let same = eq-is node k e in
      let a = put k in
      let b = ap (λ z. cond z all (number_at given k)) (eq-true k node (sym same)) in
      let g = ap (number_at given) same in
      let r = ap (λ z. cond z rows 0) e in omega arith))
      (λ e. (let a = put k in
      let b = ap (λ z. cond z all (number_at given k)) (eq-false k node (λ same. eq-not node k e (sym same))) in
      let r = ap (λ z. cond z rows 0) e in omega arith));
  long = long;
  within = λ k. by_test (number_at new k ≤ limit) (k == node)
      (λ e. (let a = put k in let b = ap (λ z. cond z all (number_at given k)) e in omega arith))
      (λ e. (let a = put k in let b = ap (λ z. cond z all (number_at given k)) e in let l = within k in omega arith));
}

some_nodes : {O K : Type 0} (sts : List (Stage O)) (b : SinkStage K) → 0 < length (nodes_of sts b)
some_nodes [] b = omega arith
some_nodes (st ∷ sts) b = omega arith

-- lanes have a node that their first stage is given
pub nodes_there : {O K : Type 0} (lanes : List (Lane O K)) → 0 < length lanes → 0 < length (nodes_in lanes)
nodes_there [] some = absurd (omega arith)
nodes_there (lane ∷ lanes) some = some_nodes lane.stages.items lane.target

pub first_lane : {O K : Type 0} (lanes : List (Lane O K)) (d : Lane O K) → 0 < length lanes → first_node (lane_nodes (get_or lanes 0 d)) ≡ first_node (nodes_in lanes)
first_lane [] d some = absurd (omega arith)
first_lane (lane ∷ lanes) d some = refl

-- ---- a leg

module _ {H : Type 0} where
  -- rows came along a leg that was opened
  pub run_counted : (given : List ℕ) (old : Option (OpenLeg H)) (leg : OpenLeg H) (limit : ℕ) (w : World) (c : Place → List Row) (more : ℕ → List Row) (nodes was tally : List ℕ)
      → AreCounted given old limit w → old ≡ None → nodes_in leg.passage.lanes.items ≡ nodes → counts_in leg.passage.lanes.items ≡ plus was tally → AllWithin 0 was
      → ((t : ℕ) → counted_at t nodes tally ≡ length (c (OutOf t))) → AreCounted given (Some leg) limit (with_more w c more)
  run_counted given old leg limit w c more nodes was tally is idle nodes_are counts_are none came = record {
    came = λ n lt. (
        let a = is.came n lt in
        let l : given_in old n ≡ 0 = ap (λ o. given_in o n) idle in
        let e1 = ap (λ z. counted_at n z (counts_in leg.passage.lanes.items)) nodes_are in
        let e2 = ap (counted_at n nodes) counts_are in
        let e3 = counted_plus n nodes was tally in
        let z = counted_zero n nodes was none in
        let k = came n in
        let b = both_many (w.there (OutOf n)) (c (OutOf n)) in
        let all : length (w.there (OutOf n) ++ c (OutOf n)) ≡ number_at given n + counted_at n (nodes_in leg.passage.lanes.items) (counts_in leg.passage.lanes.items) = omega arith in all);
    within = is.within;
  }

  -- it left its first stage
  pub leave_counted : (given new : List ℕ) (old leg : OpenLeg H) (limit : ℕ) (w : World) (node c : ℕ)
      → AreCounted given (Some old) limit w → nodes_in old.passage.lanes.items ≡ node ∷ nodes_in leg.passage.lanes.items → counts_in old.passage.lanes.items ≡ c ∷ counts_in leg.passage.lanes.items
      → IsAdded (first_node (nodes_in old.passage.lanes.items)) (number_at (counts_in old.passage.lanes.items) 0) limit given new → AreCounted new (Some leg) limit w
  leave_counted given new old leg limit w node c is nodes counts added = record {
    came = λ n lt. (
        let low : n < length given = (let e = added.long in omega arith) in
        let a : length (w.there (OutOf n)) ≡ number_at given n + counted_at n (nodes_in old.passage.lanes.items) (counts_in old.passage.lanes.items) = is.came n low in
        let b = added.all n low in
        let e = first_counted n node c (nodes_in leg.passage.lanes.items) (counts_in leg.passage.lanes.items) (nodes_in old.passage.lanes.items) (counts_in old.passage.lanes.items) nodes counts in
        let g = first_added n node c (nodes_in leg.passage.lanes.items) (counts_in leg.passage.lanes.items) (nodes_in old.passage.lanes.items) (counts_in old.passage.lanes.items) nodes counts in
        let all : length (w.there (OutOf n)) ≡ number_at new n + counted_at n (nodes_in leg.passage.lanes.items) (counts_in leg.passage.lanes.items) = omega arith in all);
    within = added.within;
  }

  -- and rows came along what is behind it
  pub settle_counted : (given new : List ℕ) (old leg : OpenLeg H) (limit : ℕ) (w : World) (at : ℕ) (c : Place → List Row) (more : ℕ → List Row) (node k : ℕ) (nodes mid tally : List ℕ)
      → AreCounted given (Some old) limit w → nodes_in old.passage.lanes.items ≡ node ∷ nodes → counts_in old.passage.lanes.items ≡ k ∷ mid
      → nodes_in leg.passage.lanes.items ≡ nodes → counts_in leg.passage.lanes.items ≡ plus mid tally → ((t : ℕ) → counted_at t nodes tally ≡ length (c (OutOf t)))
      → IsAdded (first_node (nodes_in old.passage.lanes.items)) (number_at (counts_in old.passage.lanes.items) 0) limit given new → AreCounted new (Some leg) limit (with_more (spent_at at w) c more)
  settle_counted given new old leg limit w at c more node k nodes mid tally is nodes_are counts_are now_nodes now_counts came added = record {
    came = λ n lt. (
        let low : n < length given = (let e = added.long in omega arith) in
        let a : length (w.there (OutOf n)) ≡ number_at given n + counted_at n (nodes_in old.passage.lanes.items) (counts_in old.passage.lanes.items) = is.came n low in
        let b = added.all n low in
        let e = first_counted n node k nodes mid (nodes_in old.passage.lanes.items) (counts_in old.passage.lanes.items) nodes_are counts_are in
        let g = first_added n node k nodes mid (nodes_in old.passage.lanes.items) (counts_in old.passage.lanes.items) nodes_are counts_are in
        let e1 = ap (λ z. counted_at n z (counts_in leg.passage.lanes.items)) now_nodes in
        let e2 = ap (counted_at n nodes) now_counts in
        let e3 = counted_plus n nodes mid tally in
        let t = came n in
        let s = both_many (w.there (OutOf n)) (c (OutOf n)) in
        let all : length (w.there (OutOf n) ++ c (OutOf n)) ≡ number_at new n + counted_at n (nodes_in leg.passage.lanes.items) (counts_in leg.passage.lanes.items) = omega arith in all);
    within = added.within;
  }

  -- it ended
  pub end_counted : (given new : List ℕ) (old : OpenLeg H) (limit : ℕ) (w : World) (node : ℕ)
      → AreCounted given (Some old) limit w → nodes_in old.passage.lanes.items ≡ node ∷ []
      → IsAdded (first_node (nodes_in old.passage.lanes.items)) (number_at (counts_in old.passage.lanes.items) 0) limit given new → AreCounted {H = H} new None limit w
  end_counted given new old limit w node is nodes added = record {
    came = λ n lt. (
        let low : n < length given = (let e = added.long in omega arith) in
        let a : length (w.there (OutOf n)) ≡ number_at given n + counted_at n (nodes_in old.passage.lanes.items) (counts_in old.passage.lanes.items) = is.came n low in
        let b = added.all n low in
        let e = ap (λ z. counted_at n z (counts_in old.passage.lanes.items)) nodes in
        let g = one_counted n node (counts_in old.passage.lanes.items) in
        let h = ap (λ l. cond (first_node l == n) (number_at (counts_in old.passage.lanes.items) 0) 0) nodes in
        let all : length (w.there (OutOf n)) ≡ number_at new n + 0 = omega arith in all);
    within = added.within;
  }

  -- ---- where no leg runs

  -- a node of which all rows came out has no more rows than the limit
  pub node_within : (hash_of : H → List ℕ → ℕ) (x : Settings H) (engine : Engine H) (m : Meaning) (w : World) (n : ℕ) → Fits hash_of engine x m w → engine.leg ≡ None → SameBag (w.there (OutOf n)) (m.rows n) → n < m.ordered → length (m.rows n) ≤ engine.context.row_limit
  node_within hash_of x engine m w n fits idle there low =
      let lt : n < length engine.given.items = (let e = fits.given in omega arith) in
      let a = fits.counted.came n lt in
      let l : given_in engine.leg n ≡ 0 = ap (λ o. given_in o n) idle in
      let b = fits.counted.within n in
      let same = same_many (w.there (OutOf n)) (m.rows n) there in omega arith
