-- What came to a place is among what has to come there.
use Rattle.std.proofs.Common.{◌≡◌, ◌≢◌, ℕ, zero, suc, ◌+◌, ◌<◌, ◌≤◌, Bool, true, false, ◌==◌, List, [], ◌∷◌, ◌++◌, length, refl, sym, ap, ◌∙◌, arith, ◌⊎◌, inl, inr}
use Rattle.std.specs.List.{flat_map}
use Rattle.pipe_schema.specs.Rows.{Row}
use Rattle.pipe_schema.specs.Weights.{total}
use Rattle.pipe_schema.proofs.Weights.{total-append}
use Rattle.pipe_driver.specs.Legs.{Way}
use Rattle.pipe_driver.specs.Meaning.{Meaning, Place, OutOf, rows_where, comes, from, due}
use Rattle.pipe_driver.specs.Ways.{one, occurs, brought, own_brings, IsSoundMeaning}
use Rattle.pipe_driver.proofs.Tests.{by_test, eq-is, eq-true, eq-false, some-left}
use Rattle.pipe_driver.proofs.Totals.{comes_add, comes_same}
use Rattle.pipe_driver.specs.State.{World, Counts, IsOpen, IsLeft, AreAlike, kept, pending, gained_brings}
use Rattle.pipe_driver.specs.Within.{GaveOwn, GiveOwn, IsWithin, RowsStayWithin, JoinsGiveOwn}
use Rattle.pipe_driver.proofs.Sums.{split4, alike_from}

kept_less : (f : Row → ℕ) (n : ℕ) (a b : List Row) → (0 < n → total f a ≤ total f b) → total f (kept n a) ≤ total f (kept n b)
kept_less f zero a b h = omega arith
kept_less f (suc n) a b h = h (omega arith)

gained_less : (f : Row → ℕ) (m : Meaning) (w : World) (x : Place) (j : ℕ) → GaveOwn m w j → total f (gained_brings m w x j) ≤ total f (own_brings m x j)
gained_less f m w x j gave =
    let a = comes_same f m.each x j (m.above j) (m.above_sink j) (m.own j) (w.gained j ++ gave.rest) gave.is in
    let b = comes_add f m.each x j (m.above j) (m.above_sink j) (w.gained j) gave.rest in
    omega arith

-- of some joins
pending_less : (f : Row → ℕ) (m : Meaning) (w : World) (x : Place) (probers : ℕ → ℕ) (js : List ℕ) → ((j : ℕ) → 0 < occurs j js → 0 < probers j → total f (gained_brings m w x j) ≤ total f (own_brings m x j))
    → total f (pending probers (gained_brings m w x) js) ≤ total f (pending probers (own_brings m x) js)
pending_less f m w x probers [] h = omega arith
pending_less f m w x probers (j ∷ js) h =
    let a = total-append f (kept (probers j) (gained_brings m w x j)) (pending probers (gained_brings m w x) js) in
    let b = total-append f (kept (probers j) (own_brings m x j)) (pending probers (own_brings m x) js) in
    let t = ap one (eq-true j j refl) in
    let here = kept_less f (probers j) (gained_brings m w x j) (own_brings m x j) (λ some. h j (omega arith) some) in
    let rest = pending_less f m w x probers js (λ i on some. h i (omega arith) some) in
    omega arith

-- what is there where the joins that aren't closed bring no more to a place than their own would
within_by : (m : Meaning) (w : World) (c : Counts) (due_at : ℕ → ℕ) (now : List ℕ) (but : ℕ → Bool) (live todo : List Way) (x : Place) → IsLeft m w c due_at now but live todo → IsOpen m c x
    → ((f : Row → ℕ) (j : ℕ) → 0 < occurs j m.joins → 0 < c.probers j → total f (gained_brings m w x j) ≤ total f (own_brings m x j)) → IsWithin m w x
within_by m w c due_at now but live todo x left is_open less f =
    let own = pending c.probers (own_brings m x) m.joins in
    let gained = pending c.probers (gained_brings m w x) m.joins in
    let e = (left.rows x is_open).sums f in
    let a = split4 f (w.there x) (brought m x live) (brought m x todo) own in
    let b = total-append f (due m x) gained in
    let l = pending_less f m w x c.probers m.joins (less f) in
    omega arith

pub stay_within : RowsStayWithin
stay_within m w c due_at now but live todo x left is_open gave = within_by m w c due_at now but live todo x left is_open (λ f j on some. gained_less f m w x j (gave j on some))

-- ---- joins below one another

-- a node stands nowhere on a chain that is no longer than its own
off_chain : (m : Meaning) (s : ℕ) (ops : List ℕ) (n : ℕ) → AreAlike m s ops → length ops ≤ length (m.above n) → occurs n ops ≡ 0
off_chain m s [] n are le = refl
off_chain m s (op ∷ ops) n are le =
    let apart : (op == n) ≡ false = by_test ((op == n) ≡ false) (op == n)
    (λ e. (let same : length (m.above n) ≡ length ops = ap (λ k. length (m.above k)) (sym (eq-is op n e)) ∙ ap length are.0 in absurd (omega arith)))
    (λ e. e) in
    let z = ap one apart in
    let r = off_chain m s ops n are.2 (omega arith) in omega arith

none_out : (f : Row → ℕ) (each : ℕ → Row → List Row) (p n : ℕ) (ops : List ℕ) (sink : ℕ) (rows : List Row) → n ≢ p → occurs p ops ≡ 0 → total f (comes each (OutOf p) n ops sink rows) ≡ 0
none_out f each p n [] sink rows ne off = ap (λ b. total f (rows_where b rows ++ [])) (eq-false n p ne)
none_out f each p n (op ∷ ops) sink rows ne off =
    let apart : op ≢ p = λ e. (let t : one (op == p) ≡ 1 = ap one (eq-true op p e) in absurd (omega arith)) in
    ap (λ b. total f (rows_where b rows ++ comes each (OutOf p) op ops sink (flat_map (each op) rows))) (eq-false n p ne)
    ∙ none_out f each p op ops sink (flat_map (each op) rows) apart (omega arith)

-- nothing of a join comes out of a node whose chain is longer than its own
none_below : (f : Row → ℕ) (m : Meaning) (p i : ℕ) (rows : List Row) → IsSoundMeaning m → length (m.above i) < length (m.above p) → total f (from m (OutOf p) i rows) ≡ 0
none_below f m p i rows sound shorter =
    let are = alike_from m i (m.above i) (m.above_sink i) sound refl refl in
    none_out f m.each p i (m.above i) (m.above_sink i) rows (λ e. (let same = ap (λ k. length (m.above k)) e in absurd (omega arith))) (off_chain m (m.above_sink i) (m.above i) p are (omega arith))

abbrev chain_length : Meaning → ℕ → ℕ
chain_length m j = length (m.above j)

among_all : (f : ℕ → ℕ) (js : List ℕ) (j : ℕ) → 0 < occurs j js → f j ≤ total f js
among_all f [] j on = absurd (omega arith)
among_all f (i ∷ js) j on = by_test (f j ≤ total f (i ∷ js)) (i == j)
    (λ e. (let same = ap f (eq-is i j e) in omega arith))
    (λ e. (let z = ap one e in let r = among_all f js j (omega arith) in omega arith))

shorter_or : (a b : ℕ) → (a < b) ⊎ (b ≤ a)
shorter_or zero zero = inr (omega arith)
shorter_or zero (suc b) = inl (omega arith)
shorter_or (suc a) zero = inr (omega arith)
shorter_or (suc a) (suc b) = elim (shorter_or a b) [ inl l ↦ inl (omega arith) | inr l ↦ inr (omega arith) ]

-- by how much shorter a chain is than all chains of joins together
own_by : (m : Meaning) (w : World) (c : Counts) (due_at : ℕ → ℕ) (now : List ℕ) (but : ℕ → Bool) (live todo : List Way) → IsSoundMeaning m → IsLeft m w c due_at now but live todo
    → ((j : ℕ) → 0 < c.probers j → m.is_join j ≡ true → IsWithin m w (OutOf (m.probed j)) → GaveOwn m w j) → ((j : ℕ) → m.is_join j ≡ false → GaveOwn m w j)
    → (k j : ℕ) → total (chain_length m) m.joins < chain_length m j + k → 0 < occurs j m.joins → 0 < c.probers j → GaveOwn m w j
own_by m w c due_at now but live todo sound left joins others zero j less on some = absurd (let a = among_all (chain_length m) m.joins j on in omega arith)
own_by m w c due_at now but live todo sound left joins others (suc k) j less on some = by_test (GaveOwn m w j) (m.is_join j)
    (λ join. (
    let p = m.probed j in
    let long = ap length (sound.probed j join) in
    joins j some join (within_by m w c due_at now but live todo (OutOf p) left (sound.run j join) (λ f i i_on i_some. elim (shorter_or (chain_length m i) (chain_length m p)) [
      | inl l ↦ (let z = none_below f m p i (w.gained i) sound l in omega arith)
      | inr l ↦ gained_less f m w (OutOf p) i (own_by m w c due_at now but live todo sound left joins others k i (omega arith) i_on i_some)
    ]))))
    (λ not. others j not)

pub give_own : JoinsGiveOwn
give_own m w c due_at now but live todo sound left joins others j on some =
    own_by m w c due_at now but live todo sound left joins others (suc (total (chain_length m) m.joins)) j (omega arith) on some
