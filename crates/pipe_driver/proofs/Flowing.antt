-- Rows that flowed through operators came to the places of the operators' nodes.
use Rattle.std.proofs.Common.{◌≡◌, ◌≢◌, ℕ, zero, suc, ◌+◌, ◌<◌, ◌≤◌, ◌⊎◌, inl, inr, Bool, true, false, cond, ◌==◌, List, [], ◌∷◌, ◌++◌, length, refl, sym, ap, subst, ◌∙◌, arith}
use Rattle.std.specs.List.{flat_map}
use Rattle.pipe_schema.specs.Rows.{Row, Same}
use Rattle.pipe_schema.specs.Weights.{total}
use Rattle.pipe_schema.proofs.Weights.{SameBag, total-append, total-flat_map, total-same, SameBag-from_rows, Same-from_bag, SameBag-pieces}
use Rattle.pipe_chain.specs.Counts.{counts_of}
use Rattle.pipe_chain.specs.Keys.{SameKeys}
use Rattle.pipe_chain.specs.Flow.{Work, Acts, made, Flows}
use Rattle.pipe_chain.proofs.Weighing.{keys-trans, asks-same}
use Rattle.pipe_driver.specs.Meaning.{Meaning, Place, OutOf, Into, is_out, is_into, rows_where, comes, from}
use Rattle.pipe_driver.specs.Ways.{one, occurs, IsSoundMeaning}
use Rattle.pipe_driver.proofs.Tests.{by_test, eq-is, eq-true, eq-false, eq-not, some-left}
use Rattle.pipe_driver.proofs.Totals.{comes_add, comes_none, comes_same}
use Rattle.pipe_driver.specs.State.{AreAlike, spread}
use Rattle.pipe_driver.specs.Along.{MakesOf, AllMakeOf, more_of, come_to, AllMarked, counted_at}
use Rattle.pipe_driver.specs.ChainLaws.{Arrived}

-- ---- a chain's nodes are different

-- a node stands nowhere on a chain that is no longer than its own
pub not_on : (m : Meaning) (s : ℕ) (ops : List ℕ) (n : ℕ) → AreAlike m s ops → length ops ≤ length (m.above n) → occurs n ops ≡ 0
not_on m s [] n are le = refl
not_on m s (op ∷ ops) n are le =
    let apart : (op == n) ≡ false = by_test ((op == n) ≡ false) (op == n)
    (λ e. (let same : length (m.above n) ≡ length ops = ap (λ k. length (m.above k)) (sym (eq-is op n e)) ∙ ap length are.0 in absurd (omega arith)))
    (λ e. e) in
    let z = ap one apart in
    let r = not_on m s ops n are.2 (omega arith) in omega arith

pub first_apart : (m : Meaning) (s op : ℕ) (ops : List ℕ) → AreAlike m s (op ∷ ops) → occurs op ops ≡ 0
first_apart m s op ops are = not_on m s ops op are.2 (let e = ap length are.0 in omega arith)

-- ---- where rows came, step by step

abbrev came : Place → (n : ℕ) → List ℕ → List Work → List Acts → (sink : ℕ) → List Row → List Row
came x n [] ws acts sink rows = rows_where (is_out x n) rows ++ rows_where (is_into x sink) rows
came x n (op ∷ ops) [] acts sink rows = []
came x n (op ∷ ops) (w ∷ ws) [] sink rows = []
came x n (op ∷ ops) (w ∷ ws) (a ∷ acts) sink rows = rows_where (is_out x n) rows ++ came x op ops ws acts sink (made w a.won rows)

-- ---- sums over joins

add_none : (g : ℕ → ℕ) (h op : ℕ) (js : List ℕ) → occurs op js ≡ 0 → total (λ j. cond (j == op) h (g j)) js ≡ total g js
add_none g h op [] none = refl
add_none g h op (j ∷ js) none =
    let z : (j == op) ≡ false = by_test ((j == op) ≡ false) (j == op) (λ e. (let t = ap one e in absurd (omega arith))) (λ e. e) in
    let t = ap one z in
    let e = ap (λ b. cond b h (g j)) z in
    let r = add_none g h op js (omega arith) in omega arith

add_one : (g : ℕ → ℕ) (h op : ℕ) (js : List ℕ) → g op ≡ 0 → occurs op js ≡ 1 → total (λ j. cond (j == op) h (g j)) js ≡ h + total g js
add_one g h op [] zero_here once = absurd (omega arith)
add_one g h op (j ∷ js) zero_here once = by_test (total (λ k. cond (k == op) h (g k)) (j ∷ js) ≡ h + total g (j ∷ js)) (j == op)
    (λ e. (let t = ap one e in
    let z = ap g (eq-is j op e) in
    let c = ap (λ b. cond b h (g j)) e in
    let r = add_none g h op js (omega arith) in omega arith))
    (λ e. (let t = ap one e in
    let c = ap (λ b. cond b h (g j)) e in
    let r = add_one g h op js zero_here (omega arith) in omega arith))

-- a node that isn't on the way gave nothing
pub more_none : (ops : List ℕ) (ws : List Work) (acts : List Acts) (j : ℕ) → occurs j ops ≡ 0 → more_of ops ws acts j ≡ []
more_none [] ws acts j none = refl
more_none (n ∷ ops) [] acts j none = refl
more_none (n ∷ ops) (w ∷ ws) [] j none = refl
more_none (n ∷ ops) (w ∷ ws) (a ∷ acts) j none =
    let apart : (j == n) ≡ false = by_test ((j == n) ≡ false) (j == n) (λ e. (let t : one (n == j) ≡ 1 = ap one (eq-true n j (sym (eq-is j n e))) in absurd (omega arith))) (λ e. e) in
    ap (λ b. cond b (flat_map w.gains a.won) (more_of ops ws acts j)) apart ∙ more_none ops ws acts j (omega arith)

pub more_here : (n : ℕ) (ops : List ℕ) (w : Work) (ws : List Work) (a : Acts) (acts : List Acts) → more_of (n ∷ ops) (w ∷ ws) (a ∷ acts) n ≡ flat_map w.gains a.won
more_here n ops w ws a acts = ap (λ b. cond b (flat_map w.gains a.won) (more_of ops ws acts n)) (eq-true n n refl)

no_gains : (w : Work) (keys : List ℕ) → ((key : ℕ) → w.gains key ≡ []) → flat_map w.gains keys ≡ []
no_gains w [] none = refl
no_gains w (k ∷ keys) none = ap (λ l. l ++ flat_map w.gains keys) (none k) ∙ no_gains w keys none

spread_total : (f : Row → ℕ) (m : Meaning) (x : Place) (more : ℕ → List Row) → total f (spread m x more) ≡ total (λ j. total f (from m x j (more j))) m.joins
spread_total f m x more = total-flat_map (λ j. from m x j (more j)) f m.joins

-- what a node gives for keys is spread besides
spread_more : (f : Row → ℕ) (m : Meaning) (x : Place) (s op : ℕ) (ops : List ℕ) (w : Work) (ws : List Work) (a : Acts) (acts : List Acts) → IsSoundMeaning m → AreAlike m s (op ∷ ops) → MakesOf m op w
    → total f (spread m x (more_of (op ∷ ops) (w ∷ ws) (a ∷ acts))) ≡ total f (from m x op (flat_map w.gains a.won)) + total f (spread m x (more_of ops ws acts))
spread_more f m x s op ops w ws a acts sound are makes =
    let rows = flat_map w.gains a.won in
    let g : ℕ → ℕ = λ j. total f (from m x j (more_of ops ws acts j)) in
    let h = total f (from m x op rows) in
    let none : g op ≡ 0 = ap (λ l. total f (from m x op l)) (more_none ops ws acts op (first_apart m s op ops are)) ∙ comes_none f m.each x op (m.above op) (m.above_sink op) in
    let point : (j : ℕ) → total f (from m x j (more_of (op ∷ ops) (w ∷ ws) (a ∷ acts) j)) ≡ cond (j == op) h (g j) = λ j. by_test (total f (from m x j (cond (j == op) rows (more_of ops ws acts j))) ≡ cond (j == op) h (g j)) (j == op)
    (λ e. ap (λ b. total f (from m x j (cond b rows (more_of ops ws acts j)))) e ∙ ap (λ k. total f (from m x k rows)) (eq-is j op e) ∙ sym (ap (λ b. cond b h (g j)) e))
    (λ e. ap (λ b. total f (from m x j (cond b rows (more_of ops ws acts j)))) e ∙ sym (ap (λ b. cond b h (g j)) e)) in
    let a1 = spread_total f m x (more_of (op ∷ ops) (w ∷ ws) (a ∷ acts)) in
    let a2 = spread_total f m x (more_of ops ws acts) in
    let a3 = total-same (λ j. total f (from m x j (more_of (op ∷ ops) (w ∷ ws) (a ∷ acts) j))) (λ j. cond (j == op) h (g j)) m.joins point in
    elim (some-left (occurs op m.joins)) [
      | inl z ↦ (
          let not_join : m.is_join op ≡ false = by_test (m.is_join op ≡ false) (m.is_join op) (λ e. (let l = sound.listed op e in absurd (omega arith))) (λ e. e) in
          let empty : h ≡ 0 = ap (λ l. total f (from m x op l)) (no_gains w a.won (makes.gains not_join)) ∙ comes_none f m.each x op (m.above op) (m.above_sink op) in
          let b = add_none g h op m.joins z in omega arith)
      | inr l ↦ (
          let b = add_one g h op m.joins none (let k = sound.few op in omega arith) in omega arith)
    ]

spread_none : (f : Row → ℕ) (m : Meaning) (x : Place) (js : List ℕ) → total f (flat_map (λ j. from m x j []) js) ≡ 0
spread_none f m x [] = refl
spread_none f m x (j ∷ js) =
    let a = total-append f (from m x j []) (flat_map (λ k. from m x k []) js) in
    let b = comes_none f m.each x j (m.above j) (m.above_sink j) in
    let r = spread_none f m x js in omega arith

-- what came is what rows of the node bring along the chain, and what was given for keys
along : (f : Row → ℕ) (m : Meaning) (x : Place) (n s : ℕ) (ops : List ℕ) (ws : List Work) (acts : List Acts) (rows out : List Row) → IsSoundMeaning m → AreAlike m s ops → AllMakeOf m ops ws → Flows ws acts rows out
    → total f (came x n ops ws acts s rows) ≡ total f (comes m.each x n ops s rows) + total f (spread m x (more_of ops ws acts))
along f m x n s [] [] acts rows out sound are makes flows = let z = spread_none f m x m.joins in omega arith
along f m x n s [] (w ∷ ws) acts rows out sound are makes flows = absurd makes
along f m x n s (op ∷ ops) [] acts rows out sound are makes flows = absurd makes
along f m x n s (op ∷ ops) (w ∷ ws) [] rows out sound are makes flows = absurd flows
along f m x n s (op ∷ ops) (w ∷ ws) (a ∷ acts) rows out sound are makes flows =
    let each = flat_map w.each rows in
    let gains = flat_map w.gains a.won in
    let r = along f m x op s ops ws acts (made w a.won rows) out sound are.2 makes.1 flows.1 in
    let e1 = comes_add f m.each x op ops s each gains in
    let same : SameBag each (flat_map (m.each op) rows) = SameBag-pieces w.each (m.each op) rows makes.0.each in
    let e2 = comes_same f m.each x op ops s each (flat_map (m.each op) rows) same in
    let e3 : total f (from m x op gains) ≡ total f (comes m.each x op ops s gains) = ap (λ l. total f (comes m.each x op l (m.above_sink op) gains)) are.0 ∙ ap (λ k. total f (comes m.each x op ops k gains)) are.1 in
    let e4 = spread_more f m x s op ops w ws a acts sound are makes.0 in
    let t1 = total-append f (rows_where (is_out x n) rows) (came x op ops ws acts s (made w a.won rows)) in
    let t2 = total-append f (rows_where (is_out x n) rows) (comes m.each x op ops s (flat_map (m.each op) rows)) in
    omega arith

-- ---- into the sink

came_into : (f : Row → ℕ) (n s : ℕ) (ops : List ℕ) (ws : List Work) (acts : List Acts) (rows out : List Row) (m : Meaning) → AllMakeOf m ops ws → Flows ws acts rows out → total f (came (Into s) n ops ws acts s rows) ≡ total f out
came_into f n s [] [] [] rows out m makes flows = ap (λ b. total f (rows_where b rows)) (eq-true s s refl) ∙ sym ((SameBag-from_rows flows).sums f)
came_into f n s [] [] (a ∷ acts) rows out m makes flows = absurd flows
came_into f n s [] (w ∷ ws) acts rows out m makes flows = absurd makes
came_into f n s (op ∷ ops) [] acts rows out m makes flows = absurd makes
came_into f n s (op ∷ ops) (w ∷ ws) [] rows out m makes flows = absurd flows
came_into f n s (op ∷ ops) (w ∷ ws) (a ∷ acts) rows out m makes flows = came_into f op s ops ws acts (made w a.won rows) out m makes.1 flows.1

came_elsewhere : (f : Row → ℕ) (n s t : ℕ) (ops : List ℕ) (ws : List Work) (acts : List Acts) (rows : List Row) → s ≢ t → total f (came (Into t) n ops ws acts s rows) ≡ 0
came_elsewhere f n s t [] ws acts rows ne = ap (λ b. total f (rows_where b rows)) (eq-false s t ne)
came_elsewhere f n s t (op ∷ ops) [] acts rows ne = refl
came_elsewhere f n s t (op ∷ ops) (w ∷ ws) [] rows ne = refl
came_elsewhere f n s t (op ∷ ops) (w ∷ ws) (a ∷ acts) rows ne = came_elsewhere f op s t ops ws acts (made w a.won rows) ne

-- ---- out of nodes

came_apart : (f : Row → ℕ) (n s t : ℕ) (ops : List ℕ) (ws : List Work) (acts : List Acts) (rows : List Row) → n ≢ t → occurs t ops ≡ 0 → total f (came (OutOf t) n ops ws acts s rows) ≡ 0
came_apart f n s t [] ws acts rows ne none = ap (λ b. total f (rows_where b rows ++ [])) (eq-false n t ne)
came_apart f n s t (op ∷ ops) [] acts rows ne none = refl
came_apart f n s t (op ∷ ops) (w ∷ ws) [] rows ne none = refl
came_apart f n s t (op ∷ ops) (w ∷ ws) (a ∷ acts) rows ne none =
    let apart : op ≢ t = λ e. (let z : one (op == t) ≡ 1 = ap one (eq-true op t e) in absurd (omega arith)) in
    ap (λ b. total f (rows_where b rows ++ came (OutOf t) op ops ws acts s (made w a.won rows))) (eq-false n t ne)
    ∙ came_apart f op s t ops ws acts (made w a.won rows) apart (omega arith)

came_here : (f : Row → ℕ) (m : Meaning) (n s : ℕ) (ops : List ℕ) (ws : List Work) (acts : List Acts) (rows out : List Row) → occurs n ops ≡ 0 → AllMakeOf m ops ws → Flows ws acts rows out → total f (came (OutOf n) n ops ws acts s rows) ≡ total f rows
came_here f m n s [] ws acts rows out none makes flows = ap (λ b. total f (rows_where b rows ++ [])) (eq-true n n refl) ∙ total-append f rows [] ∙ omega arith
came_here f m n s (op ∷ ops) [] acts rows out none makes flows = absurd makes
came_here f m n s (op ∷ ops) (w ∷ ws) [] rows out none makes flows = absurd flows
came_here f m n s (op ∷ ops) (w ∷ ws) (a ∷ acts) rows out none makes flows =
    let apart : op ≢ n = λ e. (let z : one (op == n) ≡ 1 = ap one (eq-true op n e) in absurd (omega arith)) in
    let rest = came_apart f op s n ops ws acts (made w a.won rows) apart (omega arith) in
    ap (λ b. total f (rows_where b rows ++ came (OutOf n) op ops ws acts s (made w a.won rows))) (eq-true n n refl)
    ∙ total-append f rows (came (OutOf n) op ops ws acts s (made w a.won rows)) ∙ omega arith

-- the rows at the nodes of a part of the chain are those at the same nodes of all of it
abbrev Holds : (f : Row → ℕ) → (there : Place → List Row) → (n : ℕ) → List ℕ → List Work → List Acts → ℕ → List Row → Type 0
Holds f there n ops ws acts s rows = (t : ℕ) → (t ≡ n) ⊎ (0 < occurs t ops) → total f (there (OutOf t)) ≡ total f (came (OutOf t) n ops ws acts s rows)

holds_next : (f : Row → ℕ) (m : Meaning) (there : Place → List Row) (n s op : ℕ) (ops : List ℕ) (w : Work) (ws : List Work) (a : Acts) (acts : List Acts) (rows : List Row) → occurs n (op ∷ ops) ≡ 0
    → Holds f there n (op ∷ ops) (w ∷ ws) (a ∷ acts) s rows → Holds f there op ops ws acts s (made w a.won rows)
holds_next f m there n s op ops w ws a acts rows none holds t on =
    let some : 0 < occurs t (op ∷ ops) = elim on [ inl e ↦ (let z : one (op == t) ≡ 1 = ap one (eq-true op t (sym e)) in omega arith) | inr l ↦ omega arith ] in
    let apart : n ≢ t = λ e. (let z = ap (λ k. occurs k (op ∷ ops)) e in absurd (omega arith)) in
    holds t (inr some) ∙ ap (λ b. total f (rows_where b rows ++ came (OutOf t) op ops ws acts s (made w a.won rows))) (eq-false n t apart)

marked : (m : Meaning) (there : Place → List Row) (n s : ℕ) (ops : List ℕ) (ws : List Work) (acts : List Acts) (rows out : List Row) → AreAlike m s ops → occurs n ops ≡ 0 → AllMakeOf m ops ws → Flows ws acts rows out
    → ((f : Row → ℕ) → Holds f there n ops ws acts s rows) → AllMarked there n ops ws acts
marked m there n s [] [] [] rows out are none makes flows holds = tt
marked m there n s [] [] (a ∷ acts) rows out are none makes flows holds = absurd flows
marked m there n s [] (w ∷ ws) acts rows out are none makes flows holds = absurd makes
marked m there n s (op ∷ ops) [] acts rows out are none makes flows holds = absurd makes
marked m there n s (op ∷ ops) (w ∷ ws) [] rows out are none makes flows holds = absurd flows
marked m there n s (op ∷ ops) (w ∷ ws) (a ∷ acts) rows out are none makes flows holds =
    let here : SameBag rows (there (OutOf n)) = record { sums = λ f. sym (holds f n (inl refl) ∙ came_here f m n s (op ∷ ops) (w ∷ ws) (a ∷ acts) rows out none makes flows) } in (
      keys-trans flows.0 (asks-same w.asks (Same-from_bag here)),
      marked m there op s ops ws acts (made w a.won rows) out are.2 (first_apart m s op ops are) makes.1 flows.1 (λ f. holds_next f m there n s op ops w ws a acts rows none (holds f)),
    )

-- ---- how many

abbrev one_each : Row → ℕ
one_each row = 1

pub ones : (rows : List Row) → total one_each rows ≡ length rows
ones [] = refl
ones (row ∷ rows) = let r = ones rows in omega arith

-- as many rows
pub same_many : (a b : List Row) → SameBag a b → length a ≡ length b
same_many a b same = sym (ones a) ∙ same.sums one_each ∙ ones b

-- as many rows in all
pub both_many : (a b : List Row) → length (a ++ b) ≡ length a + length b
both_many [] b = omega arith
both_many (row ∷ a) b = let r = both_many a b in omega arith

where_many : (b : Bool) (rows : List Row) → total one_each (rows_where b rows) ≡ cond b (length rows) 0
where_many true rows = ones rows
where_many false rows = refl

came_many : (n s t : ℕ) (ops : List ℕ) (ws : List Work) (acts : List Acts) (rows out : List Row) (m : Meaning) → AllMakeOf m ops ws → Flows ws acts rows out → total one_each (came (OutOf t) n ops ws acts s rows) ≡ counted_at t (n ∷ ops) (counts_of ws acts rows)
came_many n s t [] [] [] rows out m makes flows =
    let a = total-append one_each (rows_where (n == t) rows) [] in
    let b = where_many (n == t) rows in omega arith
came_many n s t [] [] (a ∷ acts) rows out m makes flows = absurd flows
came_many n s t [] (w ∷ ws) acts rows out m makes flows = absurd makes
came_many n s t (op ∷ ops) [] acts rows out m makes flows = absurd makes
came_many n s t (op ∷ ops) (w ∷ ws) [] rows out m makes flows = absurd flows
came_many n s t (op ∷ ops) (w ∷ ws) (a ∷ acts) rows out m makes flows =
    let more = made w a.won rows in
    let e = total-append one_each (rows_where (n == t) rows) (came (OutOf t) op ops ws acts s more) in
    let b = where_many (n == t) rows in
    let r = came_many op s t ops ws acts more out m makes.1 flows.1 in omega arith

-- ---- all of it

pub arrived : (m : Meaning) (n s : ℕ) (ops : List ℕ) (ws : List Work) (acts : List Acts) (rows out : List Row) → IsSoundMeaning m → m.above n ≡ ops → m.above_sink n ≡ s → AreAlike m s ops → AllMakeOf m ops ws → Flows ws acts rows out
    → Arrived m n s ops ws acts rows out
arrived m n s ops ws acts rows out sound above above_sink are makes flows =
    let more = more_of ops ws acts in
    let all : (f : Row → ℕ) (x : Place) → total f (came x n ops ws acts s rows) ≡ total f (come_to m n rows more x) = λ f x. (
    let a = along f m x n s ops ws acts rows out sound are makes flows in
    let e : total f (from m x n rows) ≡ total f (comes m.each x n ops s rows) = ap (λ l. total f (comes m.each x n l (m.above_sink n) rows)) above ∙ ap (λ k. total f (comes m.each x n ops k rows)) above_sink in
    let t = total-append f (from m x n rows) (spread m x more) in omega arith) in
    let none : occurs n ops ≡ 0 = not_on m s ops n are (let e = ap length above in omega arith) in
    record {
      sink = record { sums = λ f. sym (came_into f n s ops ws acts rows out m makes flows) ∙ all f (Into s) };
      elsewhere = λ t ne. record { sums = λ f. sym (came_elsewhere f n s t ops ws acts rows ne) ∙ all f (Into t) };
      apart = λ t ne off. record { sums = λ f. sym (came_apart f n s t ops ws acts rows ne off) ∙ all f (OutOf t) };
      marked = marked m (come_to m n rows more) n s ops ws acts rows out are none makes flows (λ f t on. sym (all f (OutOf t)));
      counted = λ t. sym (came_many n s t ops ws acts rows out m makes flows) ∙ all one_each (OutOf t) ∙ ones (come_to m n rows more (OutOf t));
    }
