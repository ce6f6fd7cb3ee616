-- From the first path on that probes a join, none feeds its build sink.
use Rattle.std.proofs.Common.{◌≡◌, ◌≢◌, ℕ, zero, suc, ◌<◌, ◌≤◌, Bool, true, false, not, ◌||◌, cond, eqb, List, [], ◌∷◌, ◌++◌, length, map, refl, sym, ap, subst, ◌∙◌, arith}
use Rattle.std.specs.List.{list_any, list_all, flat_map}
use Rattle.std.proofs.lemmas.Bool.Decides.{Decides-eqb}
use Rattle.pipe_plan.specs.Node.{Node}
use Rattle.pipe_plan.specs.Node as node
use Rattle.pipe_plan.specs.Plan.{Plan}
use Rattle.pipe_plan.specs.Under.{node_at, inputs_of, is_under}
use Rattle.pipe_plan.specs.Swap.{swaps}
use Rattle.pipe_plan.specs.Faults.{repeats, IsWellFormed}
use Rattle.pipe_driver.specs.declared.branch.SinkAt.{SinkAt}
use Rattle.pipe_driver.specs.declared.branch.SinkAt.TheVariants as at
use Rattle.pipe_driver.specs.Branches.{Path, PlacedSink, placed, path_from, put_sink, through, closed_by, sorted_paths, is_build, add_named, named_after, numbered_sinks, numbered_paths, is_scan_at, union_paths, join_paths, node_paths, paths_of, built_side, probed_side, branches}
use Rattle.pipe_driver.specs.Climbing.{turn_at}
use Rattle.pipe_driver.specs.BranchLaws.{is_number, feeds, is_build_of, builds_first}
use Rattle.pipe_driver.proofs.Names.{by_test}
use Rattle.pipe_driver.proofs.Down.{node-turn, turn-is}
use Rattle.pipe_driver.proofs.Sound.{or-true, member, first_false, under-self, under-trans, under-one, root-there, good-node, down-under}
use Rattle.pipe_driver.proofs.Covers.{any-append, second_false, side-member, self-member}
use Rattle.pipe_driver.proofs.Readers.{there-under, input-under, under-low, apart}

-- whether a path probes a join, and whether it comes to its build sink
pub record Mark : Type 0 where
  pub probe : Bool
  pub feed : Bool

abbrev probe_of : Mark → Bool
probe_of m = m.probe

abbrev feed_of : Mark → Bool
feed_of m = m.feed

abbrev is_placed_build : ℕ → PlacedSink → Bool
is_placed_build j sink = is_build j sink.at

abbrev mark : ℕ → Path → Mark
mark j p = record { probe = list_any (is_number j) p.operators; feed = list_any (is_placed_build j) p.sinks }

abbrev fine : List Mark → Bool
fine [] = true
fine (m ∷ ms) = cond m.probe (not (list_any feed_of (m ∷ ms))) (fine ms)

or-false : (b : Bool) → (b || false) ≡ b
or-false true = refl
or-false false = refl

-- ---- marks in a row

fine-unfed : (ms : List Mark) → list_any feed_of ms ≡ false → fine ms ≡ true
fine-unfed [] h = refl
fine-unfed (m ∷ ms) h =
    let split : (b : Bool) → cond b (not (list_any feed_of (m ∷ ms))) (fine ms) ≡ true = elim [
      | true ↦ ap not h
      | false ↦ fine-unfed ms (second_false m.feed (list_any feed_of ms) h)
    ] in split m.probe

fine-unprobed : (ms : List Mark) → list_any probe_of ms ≡ false → fine ms ≡ true
fine-unprobed [] h = refl
fine-unprobed (m ∷ ms) h =
    let e : m.probe ≡ false = first_false m.probe (list_any probe_of ms) h in
    ap (λ b. cond b (not (list_any feed_of (m ∷ ms))) (fine ms)) e ∙ fine-unprobed ms (second_false m.probe (list_any probe_of ms) h)

fine-append : (a c : List Mark) → fine a ≡ true → fine c ≡ true → (list_any probe_of a ≡ true → list_any feed_of c ≡ true → ⊥) → fine (a ++ c) ≡ true
fine-append [] c f g ne = g
fine-append (m ∷ a) c f g ne =
    let split : (b : Bool) → m.probe ≡ b → cond b (not (list_any feed_of (m ∷ a))) (fine a) ≡ true → cond b (not (list_any feed_of (m ∷ (a ++ c)))) (fine (a ++ c)) ≡ true = elim [
      | true ↦ λ e h. (
          let some : list_any probe_of (m ∷ a) ≡ true = ap (λ b. b || list_any probe_of a) e in
          let none : list_any feed_of c ≡ false = by_test (list_any feed_of c ≡ false) (list_any feed_of c) (λ t. absurd (ne some t)) (λ t. t) in
          let same : list_any feed_of (m ∷ (a ++ c)) ≡ list_any feed_of (m ∷ a) = any-append feed_of (m ∷ a) c ∙ ap (λ b. list_any feed_of (m ∷ a) || b) none ∙ or-false (list_any feed_of (m ∷ a)) in
          ap not same ∙ h)
      | false ↦ λ e h. fine-append a c h g (λ p q. ne (ap (λ b. m.probe || b) p ∙ or-true m.probe) q)
    ] in split m.probe refl f

marks-append : (j : ℕ) (a c : List Path) → map (mark j) (a ++ c) ≡ map (mark j) a ++ map (mark j) c
marks-append j [] c = refl
marks-append j (p ∷ a) c = ap (λ l. mark j p ∷ l) (marks-append j a c)

-- ---- marks of a path that goes on

abbrev path : ℕ → List ℕ → List PlacedSink → Bool → Path
path source operators sinks is_open = record { source = source; operators = operators; sinks = sinks; is_open = is_open }

abbrev marked : Bool → Bool → Mark
marked probe feed = record { probe = probe; feed = feed }

mark-through : (j k s : ℕ) (os : List ℕ) (ks : List PlacedSink) (b : Bool) → eqb k j ≡ false → mark j (through k (path s os ks b)) ≡ mark j (path s os ks b)
mark-through j k s os ks true e =
    ap (λ x. marked x (list_any (is_placed_build j) ks)) (any-append (is_number j) os (k ∷ []) ∙ ap (λ x. list_any (is_number j) os || (x || false)) e ∙ or-false (list_any (is_number j) os))
mark-through j k s os ks false e = refl

marks-through : (j k : ℕ) (ps : List Path) → eqb k j ≡ false → map (mark j) (map (through k) ps) ≡ map (mark j) ps
marks-through j k [] e = refl
marks-through j k (p ∷ ps) e =
    ap (λ m. m ∷ map (mark j) (map (through k) ps)) (mark-through j k p.source p.operators p.sinks p.is_open e) ∙ ap (λ l. mark j p ∷ l) (marks-through j k ps e)

mark-sink : (j : ℕ) (sink : SinkAt) (goes_on : Bool) (s : ℕ) (os : List ℕ) (ks : List PlacedSink) (b : Bool) → is_build j sink ≡ false → mark j (cond b (put_sink goes_on sink (path s os ks b)) (path s os ks b)) ≡ mark j (path s os ks b)
mark-sink j sink goes_on s os ks true e =
    ap (marked (list_any (is_number j) os)) (any-append (is_placed_build j) ks (placed (length os) sink ∷ []) ∙ ap (λ x. list_any (is_placed_build j) ks || (x || false)) e ∙ or-false (list_any (is_placed_build j) ks))
mark-sink j sink goes_on s os ks false e = refl

marks-closed : (j : ℕ) (sink : SinkAt) (ps : List Path) → is_build j sink ≡ false → map (mark j) (map (closed_by sink) ps) ≡ map (mark j) ps
marks-closed j sink [] e = refl
marks-closed j sink (p ∷ ps) e =
    ap (λ m. m ∷ map (mark j) (map (closed_by sink) ps)) (mark-sink j sink false p.source p.operators p.sinks p.is_open e) ∙ ap (λ l. mark j p ∷ l) (marks-closed j sink ps e)

marks-sorted : (j k : ℕ) (passed : Bool) (ps : List Path) → map (mark j) (sorted_paths k passed ps) ≡ map (mark j) ps
marks-sorted j k passed [] = refl
marks-sorted j k passed (p ∷ ps) =
    ap (λ m. m ∷ map (mark j) (sorted_paths k (passed || p.is_open) ps)) (mark-sink j (at.Sort k) (not passed) p.source p.operators p.sinks p.is_open refl) ∙ ap (λ l. mark j p ∷ l) (marks-sorted j k (passed || p.is_open) ps)

feed-through : (j k s : ℕ) (os : List ℕ) (ks : List PlacedSink) (b : Bool) → feed_of (mark j (through k (path s os ks b))) ≡ feed_of (mark j (path s os ks b))
feed-through j k s os ks true = refl
feed-through j k s os ks false = refl

feeds-through : (j k : ℕ) (ps : List Path) → list_any feed_of (map (mark j) (map (through k) ps)) ≡ list_any feed_of (map (mark j) ps)
feeds-through j k [] = refl
feeds-through j k (p ∷ ps) =
    ap (λ b. b || list_any feed_of (map (mark j) (map (through k) ps))) (feed-through j k p.source p.operators p.sinks p.is_open) ∙ ap (λ b. feed_of (mark j p) || b) (feeds-through j k ps)

probe-closed : (j : ℕ) (sink : SinkAt) (s : ℕ) (os : List ℕ) (ks : List PlacedSink) (b : Bool) → probe_of (mark j (closed_by sink (path s os ks b))) ≡ probe_of (mark j (path s os ks b))
probe-closed j sink s os ks true = refl
probe-closed j sink s os ks false = refl

probes-closed : (j : ℕ) (sink : SinkAt) (ps : List Path) → list_any probe_of (map (mark j) (map (closed_by sink) ps)) ≡ list_any probe_of (map (mark j) ps)
probes-closed j sink [] = refl
probes-closed j sink (p ∷ ps) =
    ap (λ b. b || list_any probe_of (map (mark j) (map (closed_by sink) ps))) (probe-closed j sink p.source p.operators p.sinks p.is_open) ∙ ap (λ b. probe_of (mark j p) || b) (probes-closed j sink ps)

-- ---- a node over its inputs

-- the marks are in order, and each is of a join for which Q holds
pub record InOrder (j : ℕ) (ms : List Mark) (Q : Type 0) : Type 0 where
  pub order : fine ms ≡ true
  pub probed : list_any probe_of ms ≡ true → Q
  pub fed : list_any feed_of ms ≡ true → Q

raise : (j : ℕ) (ms : List Mark) (Q R : Type 0) → (Q → R) → InOrder j ms Q → InOrder j ms R
raise j ms Q R f is = record { order = is.order; probed = λ h. f (is.probed h); fed = λ h. f (is.fed h) }

same-marks : (j : ℕ) (ms ms' : List Mark) (Q : Type 0) → ms' ≡ ms → InOrder j ms Q → InOrder j ms' Q
same-marks j ms ms' Q e is = let P : List Mark → Type 0 = λ l. InOrder j l Q in subst P (sym e) is

none-probed : (j : ℕ) (ms : List Mark) (Q : Type 0) → InOrder j ms Q → (Q → ⊥) → list_any probe_of ms ≡ false
none-probed j ms Q is never = by_test (list_any probe_of ms ≡ false) (list_any probe_of ms) (λ t. absurd (never (is.probed t))) (λ t. t)

none-fed : (j : ℕ) (ms : List Mark) (Q : Type 0) → InOrder j ms Q → (Q → ⊥) → list_any feed_of ms ≡ false
none-fed j ms Q is never = by_test (list_any feed_of ms ≡ false) (list_any feed_of ms) (λ t. absurd (never (is.fed t))) (λ t. t)

either : (j : ℕ) (a c : List Mark) (Q : Type 0) → InOrder j a Q → InOrder j c Q → (list_any probe_of a ≡ true → list_any feed_of c ≡ true → ⊥) → InOrder j (a ++ c) Q
either j a c Q is js ne =
    let part : (p : Mark → Bool) → (list_any p a ≡ true → Q) → (list_any p c ≡ true → Q) → list_any p (a ++ c) ≡ true → Q = λ p f g h. (
    by_test Q (list_any p a) f (λ e. g (sym (any-append p a c ∙ ap (λ b. b || list_any p c) e) ∙ h))) in
    record { order = fine-append a c is.order js.order ne; probed = part probe_of is.probed js.probed; fed = part feed_of is.fed js.fed }

-- that a join is under an input of a node, which is then above it
abbrev Below : List Node → ℕ → ℕ → Type 0
Below nodes n j = (is_under nodes n j ≡ true) × (j < n)

over-through : (nodes : List Node) (n j : ℕ) (ps : List Path) → n < length nodes → InOrder j (map (mark j) ps) (Below nodes n j) → InOrder j (map (mark j) (map (through n) ps)) (is_under nodes n j ≡ true)
over-through nodes n j ps there is =
    by_test (InOrder j (map (mark j) (map (through n) ps)) (is_under nodes n j ≡ true)) (eqb n j)
    (λ e. (let same : n ≡ j = (Decides-eqb n j).0 e in
    let own : is_under nodes n j ≡ true = ap (is_under nodes n) (sym same) ∙ under-self nodes n there in
    let unfed = feeds-through j n ps ∙ none-fed j (map (mark j) ps) (Below nodes n j) is (λ q. (let l = q.1 in omega arith)) in
    record { order = fine-unfed (map (mark j) (map (through n) ps)) unfed; probed = λ h. own; fed = λ h. own }))
    (λ e. same-marks j (map (mark j) ps) (map (mark j) (map (through n) ps)) (is_under nodes n j ≡ true) (marks-through j n ps e) (raise j (map (mark j) ps) (Below nodes n j) (is_under nodes n j ≡ true) (λ q. q.0) is))

over-sort : (nodes : List Node) (n j : ℕ) (ps : List Path) → InOrder j (map (mark j) ps) (Below nodes n j) → InOrder j (map (mark j) (sorted_paths n false ps)) (is_under nodes n j ≡ true)
over-sort nodes n j ps is =
    same-marks j (map (mark j) ps) (map (mark j) (sorted_paths n false ps)) (is_under nodes n j ≡ true) (marks-sorted j n false ps) (raise j (map (mark j) ps) (Below nodes n j) (is_under nodes n j ≡ true) (λ q. q.0) is)

over-source : (nodes : List Node) (n j : ℕ) → InOrder j (map (mark j) (path_from n ∷ [])) (is_under nodes n j ≡ true)
over-source nodes n j = record { order = refl; probed = λ h. absurd (let e : false ≡ true = h in cc); fed = λ h. absurd (let e : false ≡ true = h in cc) }

over-join : (nodes : List Node) (n j : ℕ) (built probed : List Path) → n < length nodes → InOrder j (map (mark j) built) (Below nodes n j) → InOrder j (map (mark j) probed) (Below nodes n j)
    → (list_any probe_of (map (mark j) built) ≡ true → list_any feed_of (map (mark j) probed) ≡ true → ⊥) → InOrder j (map (mark j) (join_paths n built probed)) (is_under nodes n j ≡ true)
over-join nodes n j built probed there is js ne =
    let left = map (mark j) (map (closed_by (at.Build n)) built) in
    let right = map (mark j) (map (through n) probed) in
    let Q : Type 0 = is_under nodes n j ≡ true in
    let all : InOrder j (left ++ right) Q → InOrder j (map (mark j) (join_paths n built probed)) Q = same-marks j (left ++ right) (map (mark j) (join_paths n built probed)) Q (marks-append j (map (closed_by (at.Build n)) built) (map (through n) probed)) in
    by_test (InOrder j (map (mark j) (join_paths n built probed)) Q) (eqb n j)
    (λ e. (let same : n ≡ j = (Decides-eqb n j).0 e in
    let own : Q = ap (is_under nodes n) (sym same) ∙ under-self nodes n there in
    let unprobed = probes-closed j (at.Build n) built ∙ none-probed j (map (mark j) built) (Below nodes n j) is (λ q. (let l = q.1 in omega arith)) in
    let first : InOrder j left Q = record { order = fine-unprobed left unprobed; probed = λ h. own; fed = λ h. own } in
    all (either j left right Q first (over-through nodes n j probed there js) (λ p q. (let f : false ≡ true = sym unprobed ∙ p in cc)))))
    (λ e. (let other : is_build j (at.Build n) ≡ false = by_test (eqb j n ≡ false) (eqb j n) (λ t. absurd (let f : n ≡ j = sym ((Decides-eqb j n).0 t) in let g : eqb n j ≡ true = (Decides-eqb n j).1 f in let h : false ≡ true = sym e ∙ g in cc)) (λ t. t) in
    let sames = marks-closed j (at.Build n) built other in
    let first : InOrder j left Q = same-marks j (map (mark j) built) left Q sames (raise j (map (mark j) built) (Below nodes n j) Q (λ q. q.0) is) in
    let feeds_same = feeds-through j n probed in
    all (either j left right Q first (over-through nodes n j probed there js) (λ p q. ne (sym (ap (list_any probe_of) sames) ∙ p) (sym feeds_same ∙ q)))))

-- that a join is under one of some nodes
abbrev Some : List Node → List ℕ → ℕ → Type 0
Some nodes is j = (i : ℕ) × ((member i is ≡ true) × (is_under nodes i j ≡ true))

over-list : (nodes : List Node) (j : ℕ) (is : List ℕ) → ((i : ℕ) → member i is ≡ true → InOrder j (map (mark j) (paths_of nodes i)) (is_under nodes i j ≡ true)) → repeats is ≡ false
    → ((a b : ℕ) → member a is ≡ true → member b is ≡ true → a ≢ b → is_under nodes a j ≡ true → is_under nodes b j ≡ true → ⊥) → InOrder j (map (mark j) (flat_map (paths_of nodes) is)) (Some nodes is j)
over-list nodes j [] each once ne = record { order = refl; probed = λ h. absurd (let e : false ≡ true = h in cc); fed = λ h. absurd (let e : false ≡ true = h in cc) }
over-list nodes j (i ∷ is) each once ne =
    let later : (k : ℕ) → member k is ≡ true → member k (i ∷ is) ≡ true = λ k m. ap (λ b. eqb i k || b) m ∙ or-true (eqb i k) in
    let first = each i (self-member i is) in
    let rest = over-list nodes j is (λ k m. each k (later k m)) (second_false (member i is) (repeats is) once) (λ a b ma mb. ne a b (later a ma) (later b mb)) in
    let here = map (mark j) (paths_of nodes i) in
    let others = map (mark j) (flat_map (paths_of nodes) is) in
    let lonely : member i is ≡ false = first_false (member i is) (repeats is) once in
    same-marks j (here ++ others) (map (mark j) (flat_map (paths_of nodes) (i ∷ is))) (Some nodes (i ∷ is) j) (marks-append j (paths_of nodes i) (flat_map (paths_of nodes) is))
    (either j here others (Some nodes (i ∷ is) j)
    (raise j here (is_under nodes i j ≡ true) (Some nodes (i ∷ is) j) (λ u. (i, (self-member i is, u))) first)
    (raise j others (Some nodes is j) (Some nodes (i ∷ is) j) (λ s. (s.0, (later s.0 s.1.0, s.1.1))) rest)
    (λ p q. (let s = rest.fed q in
    let differ : i ≢ s.0 = λ e. (let yes : member i is ≡ true = ap (λ k. member k is) e ∙ s.1.0 in let f : false ≡ true = sym lonely ∙ yes in cc) in
    ne i s.0 (self-member i is) (later s.0 s.1.0) differ (first.probed p) s.1.1)))

over-union : (nodes : List Node) (n j : ℕ) (inputs : List ℕ) (is_source : Bool) → n < length nodes → InOrder j (map (mark j) (flat_map (paths_of nodes) inputs)) (Below nodes n j)
    → InOrder j (map (mark j) (union_paths is_source n (paths_of nodes) inputs)) (is_under nodes n j ≡ true)
over-union nodes n j inputs true there is = over-source nodes n j
over-union nodes n j inputs false there is = over-through nodes n j (flat_map (paths_of nodes) inputs) there is

-- what is known of a node's inputs, and of a join
pub record AreInputs (nodes : List Node) (n j : ℕ) (is : List ℕ) : Type 0 where
  pub there : n < length nodes
  pub each : (i : ℕ) → member i is ≡ true → InOrder j (map (mark j) (paths_of nodes i)) (is_under nodes i j ≡ true)
  pub below : (i : ℕ) → member i is ≡ true → is_under nodes i j ≡ true → Below nodes n j
  pub apart : (a b : ℕ) → member a is ≡ true → member b is ≡ true → a ≢ b → is_under nodes a j ≡ true → is_under nodes b j ≡ true → ⊥
  pub once : repeats is ≡ false

one-order : (nodes : List Node) (n j i : ℕ) → AreInputs nodes n j (i ∷ []) → InOrder j (map (mark j) (paths_of nodes i)) (Below nodes n j)
one-order nodes n j i are = raise j (map (mark j) (paths_of nodes i)) (is_under nodes i j ≡ true) (Below nodes n j) (are.below i (self-member i [])) (are.each i (self-member i []))

one-through : (nodes : List Node) (n j i : ℕ) → AreInputs nodes n j (i ∷ []) → InOrder j (map (mark j) (map (through n) (paths_of nodes i))) (is_under nodes n j ≡ true)
one-through nodes n j i are = over-through nodes n j (paths_of nodes i) are.there (one-order nodes n j i are)

two-apart : (l r : ℕ) (swapped : Bool) → repeats (l ∷ r ∷ []) ≡ false → cond swapped r l ≢ cond swapped l r
two-apart l r true h e = let m : (eqb r l || false) ≡ false = first_false (eqb r l || false) (repeats (r ∷ [])) h in let f : eqb r l ≡ true = (Decides-eqb r l).1 e in let g : true ≡ false = sym (ap (λ b. b || false) f) ∙ m in cc
two-apart l r false h e = let m : (eqb r l || false) ≡ false = first_false (eqb r l || false) (repeats (r ∷ [])) h in let f : eqb r l ≡ true = (Decides-eqb r l).1 (sym e) in let g : true ≡ false = sym (ap (λ b. b || false) f) ∙ m in cc

order-node : (nodes : List Node) (n j : ℕ) (x : Node) → AreInputs nodes n j (inputs_of x) → InOrder j (map (mark j) (node_paths nodes (paths_of nodes) n x)) (is_under nodes n j ≡ true)
order-node nodes n j (node.DataFrameScan frame columns) are = over-source nodes n j
order-node nodes n j (node.Filter input predicate) are = one-through nodes n j input are
order-node nodes n j (node.SimpleProjection input columns) are = one-through nodes n j input are
order-node nodes n j (node.Select input exprs) are = one-through nodes n j input are
order-node nodes n j (node.HStack input exprs) are = one-through nodes n j input are
order-node nodes n j (node.MapFunction input function) are = one-through nodes n j input are
order-node nodes n j (node.Union inputs) are =
    over-union nodes n j inputs (list_all (is_scan_at nodes) inputs) are.there
    (raise j (map (mark j) (flat_map (paths_of nodes) inputs)) (Some nodes inputs j) (Below nodes n j) (λ s. are.below s.0 s.1.0 s.1.1) (over-list nodes j inputs are.each are.once are.apart))
order-node nodes n j (node.Join left right left_on right_on options) are =
    let b = built_side left right options in
    let p = probed_side left right options in
    let members = side-member left right (swaps options) in
    let built = are.each b members.0 in
    let probed = are.each p members.1 in
    over-join nodes n j (paths_of nodes b) (paths_of nodes p) are.there
    (raise j (map (mark j) (paths_of nodes b)) (is_under nodes b j ≡ true) (Below nodes n j) (are.below b members.0) built)
    (raise j (map (mark j) (paths_of nodes p)) (is_under nodes p j ≡ true) (Below nodes n j) (are.below p members.1) probed)
    (λ f g. are.apart b p members.0 members.1 (two-apart left right (swaps options) are.once) (built.probed f) (probed.fed g))
order-node nodes n j (node.Sort input by options) are = over-sort nodes n j (paths_of nodes input) (one-order nodes n j input are)

order : (plan : Plan) (root j b n : ℕ) → IsWellFormed plan root → n < b → b ≤ length plan.nodes → is_under plan.nodes root n ≡ true → InOrder j (map (mark j) (paths_of plan.nodes n)) (is_under plan.nodes n j ≡ true)
order plan root j zero n good lt le u = absurd (omega arith)
order plan root j (suc b) n good lt le u =
    let nodes = plan.nodes in
    let x = node_at nodes n in
    let there : n < length nodes = omega arith in
    let down = down-under plan root (length nodes) n good.faultless there (omega arith) u in
    let good_n = good-node plan root n good.faultless there u in
    let once : repeats (inputs_of x) ≡ false = second_false _ (repeats (inputs_of x)) (first_false _ _ (first_false _ _ good_n)) in
    let are : AreInputs nodes n j (inputs_of x) = record {
      there = there;
      each = λ i m. (let l = there-under plan root n good there u i m in order plan root j b i good (omega arith) (omega arith) (input-under plan root n i good there u m));
      below = λ i m v. (
          let l = there-under plan root n good there u i m in
          let ui = input-under plan root n i good there u m in
          let low = under-low plan root i j good (omega arith) ui v in
          (under-trans nodes i j (length nodes) n there (omega arith) (under-one nodes n i there l m) v, omega arith));
      apart = λ a c ma mc ne. apart plan root n a c j good there u ma mc ne;
      once = once;
    } in
    let known = turn-is nodes n x (turn_at x) down refl refl in
    let P : List Path → Type 0 = λ ps. InOrder j (map (mark j) ps) (is_under nodes n j ≡ true) in
    subst P (node-turn nodes (paths_of nodes) n x ∙ sym known.paths) (order-node nodes n j x are)

-- ---- from paths to branches

sinks-fed : (j : ℕ) (named : List SinkAt) (sinks : List PlacedSink) → list_any (is_build_of j) (numbered_sinks named sinks) ≡ list_any (is_placed_build j) sinks
sinks-fed j named [] = refl
sinks-fed j named (s ∷ sinks) = ap (λ b. is_build j s.at || b) (sinks-fed j (add_named named s.at) sinks)

feeds-same : (j : ℕ) (named : List SinkAt) (ps : List Path) → list_any (feeds j) (numbered_paths named ps) ≡ list_any feed_of (map (mark j) ps)
feeds-same j named [] = refl
feeds-same j named (p ∷ ps) =
    ap (λ b. b || list_any (feeds j) (numbered_paths (named_after named p.sinks) ps)) (sinks-fed j named p.sinks) ∙ ap (λ b. list_any (is_placed_build j) p.sinks || b) (feeds-same j (named_after named p.sinks) ps)

first-same : (j : ℕ) (named : List SinkAt) (ps : List Path) → builds_first j (numbered_paths named ps) ≡ fine (map (mark j) ps)
first-same j named [] = refl
first-same j named (p ∷ ps) =
    ap (λ b. cond (list_any (is_number j) p.operators) (not b) (builds_first j (numbered_paths (named_after named p.sinks) ps))) (feeds-same j named (p ∷ ps))
    ∙ ap (λ b. cond (list_any (is_number j) p.operators) (not (list_any feed_of (map (mark j) (p ∷ ps)))) b) (first-same j (named_after named p.sinks) ps)

pub build-first : (plan : Plan) (root j : ℕ) → IsWellFormed plan root → builds_first j (branches plan root) ≡ true
build-first plan root j good =
    let there = (root-there plan root good.faultless).0 in
    let paths = paths_of plan.nodes root in
    let ordered = order plan root j (length plan.nodes) root good there (omega arith) (under-self plan.nodes root there) in
    first-same j [] (map (closed_by at.Ordered) paths) ∙ ap fine (marks-closed j at.Ordered paths refl) ∙ ordered.order
