-- Each node is on a path of the nodes above it, and some path of each node is open.
use Rattle.std.proofs.Common.{◌≡◌, ℕ, zero, suc, ◌<◌, ◌≤◌, Bool, true, false, not, ◌||◌, cond, eqb, List, [], ◌∷◌, ◌++◌, length, map, refl, sym, ap, subst, ◌∙◌, ◌⊎◌, inl, inr, arith}
use Rattle.std.specs.Prelude.{nat_le}
use Rattle.std.specs.List.{list_any, list_all, flat_map}
use Rattle.std.proofs.lemmas.Bool.{cases_lt, and_parts}
use Rattle.std.proofs.lemmas.Bool.Decides.{Decides-eqb}
use Rattle.pipe_plan.specs.Walk.{walk}
use Rattle.pipe_plan.specs.Node.{Node}
use Rattle.pipe_plan.specs.Node as node
use Rattle.pipe_plan.specs.Plan.{Plan}
use Rattle.pipe_plan.specs.Under.{node_at, inputs_of, reaches_at, is_under}
use Rattle.pipe_plan.specs.Swap.{swaps}
use Rattle.pipe_plan.specs.Faults.{is_void, is_empty, IsWellFormed}
use Rattle.pipe_driver.specs.declared.branch.SinkAt.{SinkAt}
use Rattle.pipe_driver.specs.declared.branch.SinkAt.TheVariants as at
use Rattle.pipe_driver.specs.Branches.{Path, PlacedSink, placed, path_from, put_sink, through, closed_by, sorted_paths, is_scan, is_scan_at, union_paths, join_paths, node_paths, paths_of, built_side, probed_side}
use Rattle.pipe_driver.specs.BranchLaws.{is_at_node, is_number}
use Rattle.pipe_driver.proofs.Names.{by_test}
use Rattle.pipe_driver.proofs.Down.{walk-past, node-turn, turn-is}
use Rattle.pipe_driver.specs.Climbing.{turn_at}
use Rattle.pipe_driver.proofs.Sound.{or-true, member, none-member, under-at, under-below, under-trans, under-one, root-there, good-node, smaller, le-false, down-under, under-self}

-- ---- tests over lists

pub any-append : {X : Type 0} (p : X → Bool) (xs ys : List X) → list_any p (xs ++ ys) ≡ (list_any p xs || list_any p ys)
any-append p [] ys = refl
any-append p (x ∷ xs) ys =
    let split : (b : Bool) → (b || list_any p (xs ++ ys)) ≡ ((b || list_any p xs) || list_any p ys) = elim [ true ↦ refl | false ↦ any-append p xs ys ] in
    split (p x)

pub any-left : {X : Type 0} (p : X → Bool) (xs ys : List X) → list_any p xs ≡ true → list_any p (xs ++ ys) ≡ true
any-left p xs ys h = any-append p xs ys ∙ ap (λ b. b || list_any p ys) h

pub any-right : {X : Type 0} (p : X → Bool) (xs ys : List X) → list_any p ys ≡ true → list_any p (xs ++ ys) ≡ true
any-right p xs ys h = any-append p xs ys ∙ ap (λ b. list_any p xs || b) h ∙ or-true (list_any p xs)

pub any-map : {X Y : Type 0} (p : X → Bool) (q : Y → Bool) (f : X → Y) (xs : List X) → ((x : X) → p x ≡ true → q (f x) ≡ true) → list_any p xs ≡ true → list_any q (map f xs) ≡ true
any-map p q f [] keeps h = absurd (let e : false ≡ true = h in cc)
any-map p q f (x ∷ xs) keeps h =
    let split : (b : Bool) → p x ≡ b → (b || list_any p xs) ≡ true → (q (f x) || list_any q (map f xs)) ≡ true = elim [
      | true ↦ λ is g. ap (λ b. b || list_any q (map f xs)) (keeps x is)
      | false ↦ λ is g. ap (λ b. q (f x) || b) (any-map p q f xs keeps g) ∙ or-true (q (f x))
    ] in split (p x) refl h

any-some : (p : ℕ → Bool) (xs : List ℕ) → list_any p xs ≡ true → (i : ℕ) × ((member i xs ≡ true) × (p i ≡ true))
any-some p [] h = absurd (let e : false ≡ true = h in cc)
any-some p (x ∷ xs) h =
    let split : (b : Bool) → p x ≡ b → (b || list_any p xs) ≡ true → (i : ℕ) × ((member i (x ∷ xs) ≡ true) × (p i ≡ true)) = elim [
      | true ↦ λ is g. (x, (ap (λ b. b || member x xs) ((Decides-eqb x x).1 refl), is))
      | false ↦ λ is g. (let some = any-some p xs g in (some.0, (ap (λ b. eqb x some.0 || b) some.1.0 ∙ or-true (eqb x some.0), some.1.1)))
    ] in split (p x) refl h

any-flat : {X : Type 0} (p : X → Bool) (f : ℕ → List X) (xs : List ℕ) (i : ℕ) → member i xs ≡ true → list_any p (f i) ≡ true → list_any p (flat_map f xs) ≡ true
any-flat p f [] i m h = absurd (let e : false ≡ true = m in cc)
any-flat p f (x ∷ xs) i m h =
    let split : (b : Bool) → eqb x i ≡ b → (b || member i xs) ≡ true → list_any p (f x ++ flat_map f xs) ≡ true = elim [
      | true ↦ λ is g. any-left p (f x) (flat_map f xs) (ap (λ k. list_any p (f k)) ((Decides-eqb x i).0 is) ∙ h)
      | false ↦ λ is g. any-right p (f x) (flat_map f xs) (any-flat p f xs i g h)
    ] in split (eqb x i) refl m

-- ---- what is on a path

abbrev pub is_placed_at : ℕ → PlacedSink → Bool
is_placed_at m sink = is_at_node m sink.at

abbrev pub covers : List Node → ℕ → Path → Bool
covers nodes m p =
    (eqb p.source m) || list_any (is_number m) (inputs_of (node_at nodes p.source))
    || list_any (is_number m) p.operators || list_any (is_placed_at m) p.sinks

abbrev pub is_open_path : Path → Bool
is_open_path p = p.is_open

mono : (a b c d c' d' : Bool) → (c ≡ true → c' ≡ true) → (d ≡ true → d' ≡ true) → (((a || b) || c) || d) ≡ true → (((a || b) || c') || d') ≡ true
mono true b c d c' d' f g h = refl
mono false true c d c' d' f g h = refl
mono false false true d c' d' f g h = ap (λ x. x || d') (f refl)
mono false false false true c' d' f g h = ap (λ x. c' || x) (g refl) ∙ or-true c'
mono false false false false c' d' f g h = cc

third : (a b c d : Bool) → c ≡ true → (((a || b) || c) || d) ≡ true
third true b c d h = refl
third false true c d h = refl
third false false c d h = ap (λ x. x || d) h

fourth : (a d : Bool) → d ≡ true → (a || d) ≡ true
fourth a d h = ap (λ x. a || x) h ∙ or-true a

abbrev path : ℕ → List ℕ → List PlacedSink → Bool → Path
path source operators sinks is_open = record { source = source; operators = operators; sinks = sinks; is_open = is_open }

covers-put : (nodes : List Node) (m : ℕ) (s : ℕ) (os os' : List ℕ) (ks ks' : List PlacedSink) (b b' : Bool)
    → (list_any (is_number m) os ≡ true → list_any (is_number m) os' ≡ true) → (list_any (is_placed_at m) ks ≡ true → list_any (is_placed_at m) ks' ≡ true)
    → covers nodes m (path s os ks b) ≡ true → covers nodes m (path s os' ks' b') ≡ true
covers-put nodes m s os os' ks ks' b b' f g h =
    mono (eqb s m) (list_any (is_number m) (inputs_of (node_at nodes s))) (list_any (is_number m) os) (list_any (is_placed_at m) ks) (list_any (is_number m) os') (list_any (is_placed_at m) ks') f g h

keep-through : (nodes : List Node) (m n s : ℕ) (os : List ℕ) (ks : List PlacedSink) (b : Bool) → covers nodes m (path s os ks b) ≡ true → covers nodes m (through n (path s os ks b)) ≡ true
keep-through nodes m n s os ks true h = covers-put nodes m s os (os ++ n ∷ []) ks ks true true (any-left (is_number m) os (n ∷ [])) (λ x. x) h
keep-through nodes m n s os ks false h = h

keep-sink : (nodes : List Node) (m : ℕ) (sink : SinkAt) (goes_on : Bool) (s : ℕ) (os : List ℕ) (ks : List PlacedSink) (b : Bool) → covers nodes m (path s os ks b) ≡ true → covers nodes m (cond b (put_sink goes_on sink (path s os ks b)) (path s os ks b)) ≡ true
keep-sink nodes m sink goes_on s os ks true h = covers-put nodes m s os os ks (ks ++ placed (length os) sink ∷ []) true goes_on (λ x. x) (any-left (is_placed_at m) ks (placed (length os) sink ∷ [])) h
keep-sink nodes m sink goes_on s os ks false h = h

through-keeps : (nodes : List Node) (m n : ℕ) (ps : List Path) → list_any (covers nodes m) ps ≡ true → list_any (covers nodes m) (map (through n) ps) ≡ true
through-keeps nodes m n ps h = any-map (covers nodes m) (covers nodes m) (through n) ps (λ p e. keep-through nodes m n p.source p.operators p.sinks p.is_open e) h

pub closed-keeps : (nodes : List Node) (m : ℕ) (sink : SinkAt) (ps : List Path) → list_any (covers nodes m) ps ≡ true → list_any (covers nodes m) (map (closed_by sink) ps) ≡ true
closed-keeps nodes m sink ps h = any-map (covers nodes m) (covers nodes m) (closed_by sink) ps (λ p e. keep-sink nodes m sink false p.source p.operators p.sinks p.is_open e) h

sorted-keeps : (nodes : List Node) (m n : ℕ) (passed : Bool) (ps : List Path) → list_any (covers nodes m) ps ≡ true → list_any (covers nodes m) (sorted_paths n passed ps) ≡ true
sorted-keeps nodes m n passed [] h = h
sorted-keeps nodes m n passed (p ∷ ps) h =
    let q = cond p.is_open (put_sink (not passed) (at.Sort n) p) p in
    let rest = sorted_paths n (passed || p.is_open) ps in
    let split : (b : Bool) → covers nodes m p ≡ b → (b || list_any (covers nodes m) ps) ≡ true → (covers nodes m q || list_any (covers nodes m) rest) ≡ true = elim [
      | true ↦ λ is g. ap (λ b. b || list_any (covers nodes m) rest) (keep-sink nodes m (at.Sort n) (not passed) p.source p.operators p.sinks p.is_open is)
      | false ↦ λ is g. fourth (covers nodes m q) (list_any (covers nodes m) rest) (sorted-keeps nodes m n (passed || p.is_open) ps g)
    ] in split (covers nodes m p) refl h

-- ---- open paths

open-through : (n : ℕ) (ps : List Path) → list_any is_open_path ps ≡ true → list_any is_open_path (map (through n) ps) ≡ true
open-through n ps h =
    let keeps : (s : ℕ) (os : List ℕ) (ks : List PlacedSink) (b : Bool) → b ≡ true → is_open_path (through n (path s os ks b)) ≡ true = λ s os ks. elim [ true ↦ λ e. refl | false ↦ λ e. e ] in
    any-map is_open_path is_open_path (through n) ps (λ p e. keeps p.source p.operators p.sinks p.is_open e) h

open-sorted : (n : ℕ) (ps : List Path) → list_any is_open_path ps ≡ true → list_any is_open_path (sorted_paths n false ps) ≡ true
open-sorted n [] h = h
open-sorted n (p ∷ ps) h =
    let split : (b : Bool) → (b || list_any is_open_path ps) ≡ true → (is_open_path (cond b (put_sink true (at.Sort n) p) p) || list_any is_open_path (sorted_paths n (false || b) ps)) ≡ true = elim [
      | true ↦ λ g. refl
      | false ↦ λ g. fourth p.is_open (list_any is_open_path (sorted_paths n false ps)) (open-sorted n ps g)
    ] in split p.is_open h

-- an open path goes through the node that it comes to, or has its sink
own-through : (nodes : List Node) (n : ℕ) (ps : List Path) → list_any is_open_path ps ≡ true → list_any (covers nodes n) (map (through n) ps) ≡ true
own-through nodes n ps h =
    let here : (os : List ℕ) → list_any (is_number n) (os ++ n ∷ []) ≡ true = λ os. any-right (is_number n) os (n ∷ []) (ap (λ b. b || false) ((Decides-eqb n n).1 refl)) in
    let own : (s : ℕ) (os : List ℕ) (ks : List PlacedSink) (b : Bool) → b ≡ true → covers nodes n (through n (path s os ks b)) ≡ true = λ s os ks. elim [
      | true ↦ λ e. third (eqb s n) (list_any (is_number n) (inputs_of (node_at nodes s))) (list_any (is_number n) (os ++ n ∷ [])) (list_any (is_placed_at n) ks) (here os)
      | false ↦ λ e. cc
    ] in
    any-map is_open_path (covers nodes n) (through n) ps (λ p e. own p.source p.operators p.sinks p.is_open e) h

own-sorted : (nodes : List Node) (n : ℕ) (passed : Bool) (ps : List Path) → list_any is_open_path ps ≡ true → list_any (covers nodes n) (sorted_paths n passed ps) ≡ true
own-sorted nodes n passed [] h = absurd (let e : false ≡ true = h in cc)
own-sorted nodes n passed (p ∷ ps) h =
    let sink = placed (length p.operators) (at.Sort n) in
    let here : list_any (is_placed_at n) (p.sinks ++ sink ∷ []) ≡ true = any-right (is_placed_at n) p.sinks (sink ∷ []) (ap (λ b. (b || false) || false) ((Decides-eqb n n).1 refl)) in
    let split : (b : Bool) → (b || list_any is_open_path ps) ≡ true → (covers nodes n (cond b (put_sink (not passed) (at.Sort n) p) p) || list_any (covers nodes n) (sorted_paths n (passed || b) ps)) ≡ true = elim [
      | true ↦ λ g. ap (λ b. b || list_any (covers nodes n) (sorted_paths n (passed || true) ps)) (fourth ((eqb p.source n || list_any (is_number n) (inputs_of (node_at nodes p.source))) || list_any (is_number n) p.operators) (list_any (is_placed_at n) (p.sinks ++ sink ∷ [])) here)
      | false ↦ λ g. fourth (covers nodes n p) (list_any (covers nodes n) (sorted_paths n (passed || false) ps)) (own-sorted nodes n (passed || false) ps g)
    ] in split p.is_open h

-- ---- a node over its inputs

-- some path of a node is open, and each node under it is on one
pub record IsCovered (nodes : List Node) (n : ℕ) (ps : List Path) : Type 0 where
  pub open_one : list_any is_open_path ps ≡ true
  pub each : (m : ℕ) → is_under nodes n m ≡ true → list_any (covers nodes m) ps ≡ true

-- what is under a node is the node, or under an input
pub under-cases : (nodes : List Node) (n m : ℕ) (x : Node) → n < length nodes → node_at nodes n ≡ x → is_under nodes n m ≡ true → (n ≡ m) ⊎ ((i : ℕ) × ((member i (inputs_of x) ≡ true) × (is_under nodes i m ≡ true)))
under-cases nodes n m x there is h =
    let split : (b : Bool) → eqb n m ≡ b → (b || list_any (walk false (reaches_at nodes m) n) (inputs_of x)) ≡ true → (n ≡ m) ⊎ ((i : ℕ) × ((member i (inputs_of x) ≡ true) × (is_under nodes i m ≡ true))) = elim [
      | true ↦ λ e g. inl ((Decides-eqb n m).0 e)
      | false ↦ λ e g. (let some = any-some (walk false (reaches_at nodes m) n) (inputs_of x) g in
          let below : (some.0 < n) ⊎ (n ≤ some.0) → is_under nodes some.0 m ≡ true = elim [
            | inl l ↦ sym (under-below nodes n some.0 m l there) ∙ some.1.1
            | inr g2 ↦ absurd (let past = walk-past false (reaches_at nodes m) n some.0 g2 in let f : false ≡ true = sym past ∙ some.1.1 in cc)
          ] in inr (some.0, (some.1.0, below (cases_lt some.0 n))))
    ] in split (eqb n m) refl (ap (λ y. eqb n m || list_any (walk false (reaches_at nodes m) n) (inputs_of y)) (sym is) ∙ sym (under-at nodes n m there) ∙ h)

-- from facts on the node itself and on what is under its inputs
covered : (nodes : List Node) (n : ℕ) (x : Node) (ps : List Path) → n < length nodes → node_at nodes n ≡ x → list_any is_open_path ps ≡ true → list_any (covers nodes n) ps ≡ true
    → ((i m : ℕ) → member i (inputs_of x) ≡ true → is_under nodes i m ≡ true → list_any (covers nodes m) ps ≡ true) → IsCovered nodes n ps
covered nodes n x ps there is open_one own below = record {
  open_one = open_one;
  each = λ m h. elim (under-cases nodes n m x there is h) [
    | inl e ↦ (let P : ℕ → Type 0 = λ k. list_any (covers nodes k) ps ≡ true in subst P e own)
    | inr some ↦ below some.0 m some.1.0 some.1.1
  ];
}

one-member : (i j : ℕ) → member j (i ∷ []) ≡ true → i ≡ j
one-member i j h =
    let split : (b : Bool) → eqb i j ≡ b → (b || false) ≡ true → i ≡ j = elim [ true ↦ λ e g. (Decides-eqb i j).0 e | false ↦ λ e g. cc ] in split (eqb i j) refl h

pub self-member : (i : ℕ) (is : List ℕ) → member i (i ∷ is) ≡ true
self-member i is = ap (λ b. b || member i is) ((Decides-eqb i i).1 refl)

cover-one : (nodes : List Node) (n i : ℕ) (x : Node) → n < length nodes → node_at nodes n ≡ x → inputs_of x ≡ i ∷ [] → IsCovered nodes i (paths_of nodes i) → IsCovered nodes n (map (through n) (paths_of nodes i))
cover-one nodes n i x there is inputs below =
    covered nodes n x (map (through n) (paths_of nodes i)) there is (open-through n (paths_of nodes i) below.open_one) (own-through nodes n (paths_of nodes i) below.open_one)
    (λ j m e u. let same : i ≡ j = one-member i j (ap (member j) (sym inputs) ∙ e) in
    let under : is_under nodes i m ≡ true = ap (λ k. is_under nodes k m) same ∙ u in
    through-keeps nodes m n (paths_of nodes i) (below.each m under))

cover-sort : (nodes : List Node) (n i : ℕ) (x : Node) → n < length nodes → node_at nodes n ≡ x → inputs_of x ≡ i ∷ [] → IsCovered nodes i (paths_of nodes i) → IsCovered nodes n (sorted_paths n false (paths_of nodes i))
cover-sort nodes n i x there is inputs below =
    covered nodes n x (sorted_paths n false (paths_of nodes i)) there is (open-sorted n (paths_of nodes i) below.open_one) (own-sorted nodes n false (paths_of nodes i) below.open_one)
    (λ j m e u. let same : i ≡ j = one-member i j (ap (member j) (sym inputs) ∙ e) in
    let under : is_under nodes i m ≡ true = ap (λ k. is_under nodes k m) same ∙ u in
    sorted-keeps nodes m n false (paths_of nodes i) (below.each m under))

own-source : (nodes : List Node) (n : ℕ) → list_any (covers nodes n) (path_from n ∷ []) ≡ true
own-source nodes n =
    let b = list_any (is_number n) (inputs_of (node_at nodes n)) in
    ap (λ a. (((a || b) || false) || false) || false) ((Decides-eqb n n).1 refl)

cover-source : (nodes : List Node) (n : ℕ) (x : Node) → n < length nodes → node_at nodes n ≡ x → inputs_of x ≡ [] → IsCovered nodes n (path_from n ∷ [])
cover-source nodes n x there is inputs =
    covered nodes n x (path_from n ∷ []) there is refl (own-source nodes n) (λ j m e u. absurd (let f : false ≡ true = ap (member j) (sym inputs) ∙ e in cc))

-- under a scan is the scan alone
scan-inputs : (x : Node) → is_scan x ≡ true → inputs_of x ≡ []
scan-inputs (node.DataFrameScan frame columns) h = refl
scan-inputs (node.Filter input predicate) h = cc
scan-inputs (node.SimpleProjection input columns) h = cc
scan-inputs (node.Select input exprs) h = cc
scan-inputs (node.HStack input exprs) h = cc
scan-inputs (node.MapFunction input function) h = cc
scan-inputs (node.Union inputs) h = cc
scan-inputs (node.Join left right left_on right_on options) h = cc
scan-inputs (node.Sort input by options) h = cc

all-member : (p : ℕ → Bool) (xs : List ℕ) (i : ℕ) → list_all p xs ≡ true → member i xs ≡ true → p i ≡ true
all-member p [] i h m = absurd (let e : false ≡ true = m in cc)
all-member p (x ∷ xs) i h m =
    let parts = and_parts (p x) (list_all p xs) h in
    let split : (b : Bool) → eqb x i ≡ b → (b || member i xs) ≡ true → p i ≡ true = elim [
      | true ↦ λ is g. ap p (sym ((Decides-eqb x i).0 is)) ∙ parts.0
      | false ↦ λ is g. all-member p xs i parts.1 g
    ] in split (eqb x i) refl m

cover-scans : (nodes : List Node) (n : ℕ) (inputs : List ℕ) → n < length nodes → node_at nodes n ≡ node.Union inputs → ((i : ℕ) → member i inputs ≡ true → i < length nodes) → list_all (is_scan_at nodes) inputs ≡ true → IsCovered nodes n (path_from n ∷ [])
cover-scans nodes n inputs there is inside scans =
    covered nodes n (node.Union inputs) (path_from n ∷ []) there is refl (own-source nodes n) (λ j m e u.
    let scan : is_scan_at nodes j ≡ true = all-member (is_scan_at nodes) inputs j scans e in
    let same : j ≡ m = elim (under-cases nodes j m (node_at nodes j) (inside j e) refl u) [
      | inl f ↦ f
      | inr some ↦ absurd (let f : false ≡ true = ap (member some.0) (sym (scan-inputs (node_at nodes j) scan)) ∙ some.1.0 in cc)
    ] in
    let read : list_any (is_number m) (inputs_of (node_at nodes n)) ≡ true = ap (λ y. list_any (is_number m) (inputs_of y)) is ∙ ap (λ k. member k inputs) (sym same) ∙ e in
    ap (λ b. (((eqb n m || b) || false) || false) || false) read ∙ ap (λ b. ((b || false) || false) || false) (or-true (eqb n m)))

cover-union : (nodes : List Node) (n : ℕ) (inputs : List ℕ) → n < length nodes → node_at nodes n ≡ node.Union inputs → is_empty inputs ≡ false → ((i : ℕ) → member i inputs ≡ true → i < length nodes)
    → ((i : ℕ) → member i inputs ≡ true → IsCovered nodes i (paths_of nodes i)) → IsCovered nodes n (union_paths (list_all (is_scan_at nodes) inputs) n (paths_of nodes) inputs)
cover-union nodes n [] there is full inside below = cc
cover-union nodes n (i ∷ is) there is_x full inside below =
    let inputs = i ∷ is in
    let all = flat_map (paths_of nodes) inputs in
    let first = below i (self-member i is) in
    let open_one : list_any is_open_path all ≡ true = any-left is_open_path (paths_of nodes i) (flat_map (paths_of nodes) is) first.open_one in
    by_test (IsCovered nodes n (union_paths (list_all (is_scan_at nodes) inputs) n (paths_of nodes) inputs)) (list_all (is_scan_at nodes) inputs)
    (λ e. (let P : Bool → Type 0 = λ b. IsCovered nodes n (union_paths b n (paths_of nodes) inputs) in subst P (sym e) (cover-scans nodes n inputs there is_x inside e)))
    (λ e. (let P : Bool → Type 0 = λ b. IsCovered nodes n (union_paths b n (paths_of nodes) inputs) in
    subst P (sym e) (covered nodes n (node.Union inputs) (map (through n) all) there is_x (open-through n all open_one) (own-through nodes n all open_one)
    (λ j m mem u. through-keeps nodes m n all (any-flat (covers nodes m) (paths_of nodes) inputs j mem ((below j mem).each m u))))))

cover-join : (nodes : List Node) (n built probed : ℕ) (x : Node) → n < length nodes → node_at nodes n ≡ x → ((j : ℕ) → member j (inputs_of x) ≡ true → (j ≡ built) ⊎ (j ≡ probed))
    → IsCovered nodes built (paths_of nodes built) → IsCovered nodes probed (paths_of nodes probed) → IsCovered nodes n (join_paths n (paths_of nodes built) (paths_of nodes probed))
cover-join nodes n built probed x there is sides b p =
    let left = map (closed_by (at.Build n)) (paths_of nodes built) in
    let right = map (through n) (paths_of nodes probed) in
    covered nodes n x (left ++ right) there is
    (any-right is_open_path left right (open-through n (paths_of nodes probed) p.open_one))
    (any-right (covers nodes n) left right (own-through nodes n (paths_of nodes probed) p.open_one))
    (λ j m mem u. elim (sides j mem) [
      | inl e ↦ any-left (covers nodes m) left right (closed-keeps nodes m (at.Build n) (paths_of nodes built) (b.each m (ap (λ k. is_under nodes k m) (sym e) ∙ u)))
      | inr e ↦ any-right (covers nodes m) left right (through-keeps nodes m n (paths_of nodes probed) (p.each m (ap (λ k. is_under nodes k m) (sym e) ∙ u)))
    ])

two-sides : (l r : ℕ) (swapped : Bool) (j : ℕ) → member j (l ∷ r ∷ []) ≡ true → (j ≡ cond swapped r l) ⊎ (j ≡ cond swapped l r)
two-sides l r swapped j h =
    let left : l ≡ j → (j ≡ cond swapped r l) ⊎ (j ≡ cond swapped l r) = λ e. (let split : (b : Bool) → (j ≡ cond b r l) ⊎ (j ≡ cond b l r) = elim [ true ↦ inr (sym e) | false ↦ inl (sym e) ] in split swapped) in
    let right : r ≡ j → (j ≡ cond swapped r l) ⊎ (j ≡ cond swapped l r) = λ e. (let split : (b : Bool) → (j ≡ cond b r l) ⊎ (j ≡ cond b l r) = elim [ true ↦ inl (sym e) | false ↦ inr (sym e) ] in split swapped) in
    let split : (b : Bool) → eqb l j ≡ b → (b || member j (r ∷ [])) ≡ true → (j ≡ cond swapped r l) ⊎ (j ≡ cond swapped l r) = elim [
      | true ↦ λ e g. left ((Decides-eqb l j).0 e)
      | false ↦ λ e g. right (one-member r j g)
    ] in split (eqb l j) refl h

second-member : (l r : ℕ) → member r (l ∷ r ∷ []) ≡ true
second-member l r = ap (λ b. eqb l r || b) (self-member r []) ∙ or-true (eqb l r)

pub side-member : (l r : ℕ) (swapped : Bool) → (member (cond swapped r l) (l ∷ r ∷ []) ≡ true) × (member (cond swapped l r) (l ∷ r ∷ []) ≡ true)
side-member l r true = (second-member l r, self-member l (r ∷ []))
side-member l r false = (self-member l (r ∷ []), second-member l r)

cover-node : (plan : Plan) (n : ℕ) (x : Node) → n < length plan.nodes → node_at plan.nodes n ≡ x → is_void plan.frames x ≡ false → ((i : ℕ) → member i (inputs_of x) ≡ true → i < length plan.nodes)
    → ((i : ℕ) → member i (inputs_of x) ≡ true → IsCovered plan.nodes i (paths_of plan.nodes i)) → IsCovered plan.nodes n (node_paths plan.nodes (paths_of plan.nodes) n x)
cover-node plan n (node.DataFrameScan frame columns) there is full inside below = cover-source plan.nodes n (node.DataFrameScan frame columns) there is refl
cover-node plan n (node.Filter input predicate) there is full inside below = cover-one plan.nodes n input (node.Filter input predicate) there is refl (below input (self-member input []))
cover-node plan n (node.SimpleProjection input columns) there is full inside below = cover-one plan.nodes n input (node.SimpleProjection input columns) there is refl (below input (self-member input []))
cover-node plan n (node.Select input exprs) there is full inside below = cover-one plan.nodes n input (node.Select input exprs) there is refl (below input (self-member input []))
cover-node plan n (node.HStack input exprs) there is full inside below = cover-one plan.nodes n input (node.HStack input exprs) there is refl (below input (self-member input []))
cover-node plan n (node.MapFunction input function) there is full inside below = cover-one plan.nodes n input (node.MapFunction input function) there is refl (below input (self-member input []))
cover-node plan n (node.Union inputs) there is full inside below = cover-union plan.nodes n inputs there is full inside below
cover-node plan n (node.Join left right left_on right_on options) there is full inside below =
    let members = side-member left right (swaps options) in
    cover-join plan.nodes n (built_side left right options) (probed_side left right options) (node.Join left right left_on right_on options) there is (two-sides left right (swaps options))
    (below (built_side left right options) members.0) (below (probed_side left right options) members.1)
cover-node plan n (node.Sort input by options) there is full inside below = cover-sort plan.nodes n input (node.Sort input by options) there is refl (below input (self-member input []))

pub second_false : (a b : Bool) → (a || b) ≡ false → b ≡ false
second_false true b e = cc
second_false false b e = e

pub cover : (plan : Plan) (root b n : ℕ) → IsWellFormed plan root → n < b → b ≤ length plan.nodes → is_under plan.nodes root n ≡ true → IsCovered plan.nodes n (paths_of plan.nodes n)
cover plan root zero n good lt le u = absurd (omega arith)
cover plan root (suc b) n good lt le u =
    let nodes = plan.nodes in
    let x = node_at nodes n in
    let none = good.faultless in
    let there : n < length nodes = omega arith in
    let root_in : root < length nodes = (root-there plan root none).0 in
    let down = down-under plan root (length nodes) n none there (omega arith) u in
    let full : is_void plan.frames x ≡ false = second_false _ (is_void plan.frames x) (good-node plan root n none there u) in
    let lower : (i : ℕ) → member i (inputs_of x) ≡ true → i < n = λ i m. le-false n i (none-member (nat_le n) (inputs_of x) i (smaller plan root n none there u) m) in
    let inside : (i : ℕ) → member i (inputs_of x) ≡ true → i < length nodes = λ i m. (let l = lower i m in omega arith) in
    let below : (i : ℕ) → member i (inputs_of x) ≡ true → IsCovered nodes i (paths_of nodes i) = λ i m. (
    let l = lower i m in
    cover plan root b i good (omega arith) (omega arith) (under-trans nodes n i (length nodes) root root_in (omega arith) u (under-one nodes n i there l m))) in
    let here : IsCovered nodes n (node_paths nodes (paths_of nodes) n x) = cover-node plan n x there refl full inside below in
    let known = turn-is nodes n x (turn_at x) down refl refl in
    let P : List Path → Type 0 = λ ps. IsCovered nodes n ps in
    subst P (node-turn nodes (paths_of nodes) n x ∙ sym known.paths) here

pub cover-root : (plan : Plan) (root : ℕ) → IsWellFormed plan root → IsCovered plan.nodes root (paths_of plan.nodes root)
cover-root plan root good =
    let there = (root-there plan root good.faultless).0 in
    cover plan root (length plan.nodes) root good there (omega arith) (under-self plan.nodes root there)
