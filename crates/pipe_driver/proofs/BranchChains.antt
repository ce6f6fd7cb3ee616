-- Each path is a chain of readers.
use Rattle.std.proofs.Common.{◌≡◌, ℕ, zero, suc, ◌-◌, ◌<◌, ◌≤◌, Bool, true, false, not, ◌||◌, ◌&&◌, cond, eqb, List, [], ◌∷◌, ◌++◌, length, map, take, drop, refl, sym, ap, subst, ◌∙◌, arith, append_assoc, length-drop}
use Rattle.std.specs.List.{list_any, list_all, flat_map}
use Rattle.std.proofs.lemmas.List.{take_all, drop_all, take-append-le, drop-append-le, length_push}
use Rattle.std.proofs.lemmas.Bool.{and_from}
use Rattle.std.proofs.lemmas.Bool.Decides.{Decides-eqb}
use Rattle.pipe_plan.specs.Node.{Node}
use Rattle.pipe_plan.specs.Node as node
use Rattle.pipe_plan.specs.Plan.{Plan}
use Rattle.pipe_plan.specs.Under.{node_at, inputs_of, is_under}
use Rattle.pipe_plan.specs.Swap.{swaps}
use Rattle.pipe_plan.specs.Faults.{IsWellFormed}
use Rattle.pipe_driver.specs.declared.branch.SinkAt.{SinkAt}
use Rattle.pipe_driver.specs.declared.branch.SinkAt.TheVariants as at
use Rattle.pipe_driver.specs.Branches.{Path, PlacedSink, placed, path_from, put_sink, through, closed_by, sorted_paths, add_named, named_after, numbered_sinks, numbered_paths, branch_of, is_scan_at, union_paths, node_paths, paths_of, built_side, probed_side, branches}
use Rattle.pipe_driver.specs.Climbing.{turn_at}
use Rattle.pipe_driver.specs.Texts.{between}
use Rattle.pipe_driver.specs.BranchLaws.{is_number, Stop, stops_from, through_inputs, built_inputs, reads, node_behind, is_chain, is_chained}
use Rattle.pipe_driver.specs.BranchLaws as stop
use Rattle.pipe_driver.proofs.Down.{node-turn, turn-is}
use Rattle.pipe_driver.proofs.Sound.{or-true, member, under-self, root-there, down-under}
use Rattle.pipe_driver.proofs.Covers.{side-member, self-member}
use Rattle.pipe_driver.proofs.Readers.{there-under, input-under}

-- ---- the stops of a path

abbrev pub stops : List ℕ → ℕ → List PlacedSink → List Stop
stops operators first [] = map stop.Operator (drop first operators)
stops operators first (sink ∷ sinks) = map stop.Operator (between operators first sink.offset) ++ stop.Sink sink.at ∷ stops operators sink.offset sinks

abbrev pub AreWithin : List ℕ → ℕ → List PlacedSink → Type 0
AreWithin operators first [] = first ≤ length operators
AreWithin operators first (sink ∷ sinks) = (first ≤ sink.offset) × AreWithin operators sink.offset sinks

within-le : (os : List ℕ) (first : ℕ) (ks : List PlacedSink) → AreWithin os first ks → first ≤ length os
within-le os first [] h = h
within-le os first (k ∷ ks) h = let l = h.0 in let m = within-le os k.offset ks h.1 in omega arith

map-append : (a b : List ℕ) → map stop.Operator (a ++ b) ≡ map stop.Operator a ++ map stop.Operator b
map-append [] b = refl
map-append (x ∷ a) b = ap (λ l. stop.Operator x ∷ l) (map-append a b)

stops-operator : (os : List ℕ) (m first : ℕ) (ks : List PlacedSink) → AreWithin os first ks → stops (os ++ m ∷ []) first ks ≡ stops os first ks ++ stop.Operator m ∷ []
stops-operator os m first [] h = ap (map stop.Operator) (drop-append-le first os (m ∷ []) h) ∙ map-append (drop first os) (m ∷ [])
stops-operator os m first (k ∷ ks) h =
    let le = h.0 in
    let le' = within-le os k.offset ks h.1 in
    let le'' = within-le os first (k ∷ ks) h in
    let long = length-drop first os in
    let same : between (os ++ m ∷ []) first k.offset ≡ between os first k.offset =
    ap (take (k.offset - first)) (drop-append-le first os (m ∷ []) le'') ∙ take-append-le (k.offset - first) (drop first os) (m ∷ []) (omega arith) in
    ap (λ l. map stop.Operator l ++ stop.Sink k.at ∷ stops (os ++ m ∷ []) k.offset ks) same
    ∙ ap (λ l. map stop.Operator (between os first k.offset) ++ stop.Sink k.at ∷ l) (stops-operator os m k.offset ks h.1)
    ∙ sym (append_assoc (map stop.Operator (between os first k.offset)) (stop.Sink k.at ∷ stops os k.offset ks) (stop.Operator m ∷ []))

stops-sink : (os : List ℕ) (sink : SinkAt) (first : ℕ) (ks : List PlacedSink) → AreWithin os first ks → stops os first (ks ++ placed (length os) sink ∷ []) ≡ stops os first ks ++ stop.Sink sink ∷ []
stops-sink os sink first [] h =
    let long = length-drop first os in
    let all : between os first (length os) ≡ drop first os = take_all (length os - first) (drop first os) (omega arith) in
    let none : drop (length os) os ≡ [] = drop_all (length os) os (omega arith) in
    ap (λ l. map stop.Operator l ++ stop.Sink sink ∷ map stop.Operator (drop (length os) os)) all
    ∙ ap (λ l. map stop.Operator (drop first os) ++ stop.Sink sink ∷ map stop.Operator l) none
stops-sink os sink first (k ∷ ks) h =
    ap (λ l. map stop.Operator (between os first k.offset) ++ stop.Sink k.at ∷ l) (stops-sink os sink k.offset ks h.1)
    ∙ sym (append_assoc (map stop.Operator (between os first k.offset)) (stop.Sink k.at ∷ stops os k.offset ks) (stop.Sink sink ∷ []))

within-operator : (os : List ℕ) (m first : ℕ) (ks : List PlacedSink) → AreWithin os first ks → AreWithin (os ++ m ∷ []) first ks
within-operator os m first [] h = let e = length_push os m in omega arith
within-operator os m first (k ∷ ks) h = (h.0, within-operator os m k.offset ks h.1)

within-sink : (os : List ℕ) (sink : SinkAt) (first : ℕ) (ks : List PlacedSink) → AreWithin os first ks → AreWithin os first (ks ++ placed (length os) sink ∷ [])
within-sink os sink first [] h = (h, omega arith)
within-sink os sink first (k ∷ ks) h = (h.0, within-sink os sink k.offset ks h.1)

-- ---- chains

abbrev pub last : ℕ → List Stop → ℕ
last n [] = n
last n (s ∷ ss) = last (node_behind n s) ss

last-push : (n : ℕ) (a : List Stop) (s : Stop) → last n (a ++ s ∷ []) ≡ node_behind (last n a) s
last-push n [] s = refl
last-push n (x ∷ a) s = last-push (node_behind n x) a s

chain-push : (nodes : List Node) (root n : ℕ) (a : List Stop) (s : Stop) → is_chain nodes root n a ≡ true → reads nodes root (last n a) s ≡ true → is_chain nodes root n (a ++ s ∷ []) ≡ true
chain-push nodes root n [] s h r = ap (λ b. b && true) r
chain-push nodes root n (x ∷ a) s h r =
    let first : (p q : Bool) → (p && q) ≡ true → p ≡ true = elim [ true ↦ λ q e. refl | false ↦ λ q e. e ] in
    let second : (p q : Bool) → (p && q) ≡ true → q ≡ true = elim [ true ↦ λ q e. e | false ↦ λ q e. cc ] in
    let b = reads nodes root n x in
    and_from b (is_chain nodes root (node_behind n x) (a ++ s ∷ [])) (first b (is_chain nodes root (node_behind n x) a) h)
    (chain-push nodes root (node_behind n x) a s (second b (is_chain nodes root (node_behind n x) a) h) r)

-- a path that has come to node n
pub record IsAt (nodes : List Node) (root n : ℕ) (p : Path) : Type 0 where
  pub chained : is_chain nodes root p.source (stops p.operators 0 p.sinks) ≡ true
  pub here : p.is_open ≡ true → last p.source (stops p.operators 0 p.sinks) ≡ n
  pub within : AreWithin p.operators 0 p.sinks

abbrev AllAt : List Node → ℕ → ℕ → List Path → Type 0
AllAt nodes root n [] = Unit {0}
AllAt nodes root n (p ∷ ps) = IsAt nodes root n p × AllAt nodes root n ps

all-append : (nodes : List Node) (root n : ℕ) (a b : List Path) → AllAt nodes root n a → AllAt nodes root n b → AllAt nodes root n (a ++ b)
all-append nodes root n [] b h k = k
all-append nodes root n (p ∷ a) b h k = (h.0, all-append nodes root n a b h.1 k)

abbrev path : ℕ → List ℕ → List PlacedSink → Bool → Path
path source operators sinks is_open = record { source = source; operators = operators; sinks = sinks; is_open = is_open }

at-operator : (nodes : List Node) (root i n s : ℕ) (os : List ℕ) (ks : List PlacedSink) (b : Bool) → reads nodes root i (stop.Operator n) ≡ true → IsAt nodes root i (path s os ks b) → IsAt nodes root n (through n (path s os ks b))
at-operator nodes root i n s os ks true r is =
    let more = stops-operator os n 0 ks is.within in
    let old = stops os 0 ks in
    record {
      chained = ap (is_chain nodes root s) more ∙ chain-push nodes root s old (stop.Operator n) is.chained (ap (λ k. reads nodes root k (stop.Operator n)) (is.here refl) ∙ r);
      here = λ e. ap (last s) more ∙ last-push s old (stop.Operator n);
      within = within-operator os n 0 ks is.within;
    }
at-operator nodes root i n s os ks false r is = record { chained = is.chained; here = λ e. absurd (let f : false ≡ true = e in cc); within = is.within }

at-sink : (nodes : List Node) (root i n : ℕ) (sink : SinkAt) (goes_on : Bool) (s : ℕ) (os : List ℕ) (ks : List PlacedSink) (b : Bool) → reads nodes root i (stop.Sink sink) ≡ true
    → (goes_on ≡ true → node_behind i (stop.Sink sink) ≡ n) → IsAt nodes root i (path s os ks b) → IsAt nodes root n (cond b (put_sink goes_on sink (path s os ks b)) (path s os ks b))
at-sink nodes root i n sink goes_on s os ks true r behind is =
    let more = stops-sink os sink 0 ks is.within in
    let old = stops os 0 ks in
    record {
      chained = ap (is_chain nodes root s) more ∙ chain-push nodes root s old (stop.Sink sink) is.chained (ap (λ k. reads nodes root k (stop.Sink sink)) (is.here refl) ∙ r);
      here = λ e. ap (last s) more ∙ last-push s old (stop.Sink sink) ∙ ap (λ k. node_behind k (stop.Sink sink)) (is.here refl) ∙ behind e;
      within = within-sink os sink 0 ks is.within;
    }
at-sink nodes root i n sink goes_on s os ks false r behind is = record { chained = is.chained; here = λ e. absurd (let f : false ≡ true = e in cc); within = is.within }

all-through : (nodes : List Node) (root i n : ℕ) (ps : List Path) → reads nodes root i (stop.Operator n) ≡ true → AllAt nodes root i ps → AllAt nodes root n (map (through n) ps)
all-through nodes root i n [] r h = tt
all-through nodes root i n (p ∷ ps) r h = (at-operator nodes root i n p.source p.operators p.sinks p.is_open r h.0, all-through nodes root i n ps r h.1)

all-closed : (nodes : List Node) (root i n : ℕ) (sink : SinkAt) (ps : List Path) → reads nodes root i (stop.Sink sink) ≡ true → AllAt nodes root i ps → AllAt nodes root n (map (closed_by sink) ps)
all-closed nodes root i n sink [] r h = tt
all-closed nodes root i n sink (p ∷ ps) r h = (at-sink nodes root i n sink false p.source p.operators p.sinks p.is_open r (λ e. absurd (let f : false ≡ true = e in cc)) h.0, all-closed nodes root i n sink ps r h.1)

all-sorted : (nodes : List Node) (root i n : ℕ) (passed : Bool) (ps : List Path) → reads nodes root i (stop.Sink (at.Sort n)) ≡ true → AllAt nodes root i ps → AllAt nodes root n (sorted_paths n passed ps)
all-sorted nodes root i n passed [] r h = tt
all-sorted nodes root i n passed (p ∷ ps) r h = (at-sink nodes root i n (at.Sort n) (not passed) p.source p.operators p.sinks p.is_open r (λ e. refl) h.0, all-sorted nodes root i n (passed || p.is_open) ps r h.1)

all-source : (nodes : List Node) (root n : ℕ) → AllAt nodes root n (path_from n ∷ [])
all-source nodes root n = (record { chained = refl; here = λ e. refl; within = omega arith }, tt)

through-append : (n : ℕ) (a b : List Path) → map (through n) (a ++ b) ≡ map (through n) a ++ map (through n) b
through-append n [] b = refl
through-append n (p ∷ a) b = ap (λ l. through n p ∷ l) (through-append n a b)

all-inputs : (nodes : List Node) (root n : ℕ) (is : List ℕ) → ((i : ℕ) → member i is ≡ true → reads nodes root i (stop.Operator n) ≡ true) → ((i : ℕ) → member i is ≡ true → AllAt nodes root i (paths_of nodes i)) → AllAt nodes root n (map (through n) (flat_map (paths_of nodes) is))
all-inputs nodes root n [] r h = tt
all-inputs nodes root n (i ∷ is) r h =
    let later : (k : ℕ) → member k is ≡ true → member k (i ∷ is) ≡ true = λ k m. ap (λ b. eqb i k || b) m ∙ or-true (eqb i k) in
    let P : List Path → Type 0 = AllAt nodes root n in
    subst P (sym (through-append n (paths_of nodes i) (flat_map (paths_of nodes) is)))
    (all-append nodes root n (map (through n) (paths_of nodes i)) (map (through n) (flat_map (paths_of nodes) is))
    (all-through nodes root i n (paths_of nodes i) (r i (self-member i is)) (h i (self-member i is)))
    (all-inputs nodes root n is (λ k m. r k (later k m)) (λ k m. h k (later k m))))

all-union : (nodes : List Node) (root n : ℕ) (is : List ℕ) (is_source : Bool) → ((i : ℕ) → member i is ≡ true → reads nodes root i (stop.Operator n) ≡ true) → ((i : ℕ) → member i is ≡ true → AllAt nodes root i (paths_of nodes i)) → AllAt nodes root n (union_paths is_source n (paths_of nodes) is)
all-union nodes root n is true r h = all-source nodes root n
all-union nodes root n is false r h = all-inputs nodes root n is r h

-- what reads a node's inputs
through-read : (nodes : List Node) (root n i : ℕ) (x : Node) → node_at nodes n ≡ x → member i (through_inputs x) ≡ true → reads nodes root i (stop.Operator n) ≡ true
through-read nodes root n i x is m = ap (λ y. list_any (is_number i) (through_inputs y)) is ∙ m

all-node : (nodes : List Node) (root n : ℕ) (x : Node) → node_at nodes n ≡ x → ((i : ℕ) → member i (inputs_of x) ≡ true → AllAt nodes root i (paths_of nodes i)) → AllAt nodes root n (node_paths nodes (paths_of nodes) n x)
all-node nodes root n (node.DataFrameScan frame columns) is h = all-source nodes root n
all-node nodes root n (node.Filter i predicate) is h = all-through nodes root i n (paths_of nodes i) (through-read nodes root n i (node.Filter i predicate) is (self-member i [])) (h i (self-member i []))
all-node nodes root n (node.SimpleProjection i columns) is h = all-through nodes root i n (paths_of nodes i) (through-read nodes root n i (node.SimpleProjection i columns) is (self-member i [])) (h i (self-member i []))
all-node nodes root n (node.Select i exprs) is h = all-through nodes root i n (paths_of nodes i) (through-read nodes root n i (node.Select i exprs) is (self-member i [])) (h i (self-member i []))
all-node nodes root n (node.HStack i exprs) is h = all-through nodes root i n (paths_of nodes i) (through-read nodes root n i (node.HStack i exprs) is (self-member i [])) (h i (self-member i []))
all-node nodes root n (node.MapFunction i function) is h = all-through nodes root i n (paths_of nodes i) (through-read nodes root n i (node.MapFunction i function) is (self-member i [])) (h i (self-member i []))
all-node nodes root n (node.Union inputs) is h =
    all-union nodes root n inputs (list_all (is_scan_at nodes) inputs) (λ i m. through-read nodes root n i (node.Union inputs) is m) h
all-node nodes root n (node.Join left right left_on right_on options) is h =
    let x = node.Join left right left_on right_on options in
    let b = built_side left right options in
    let p = probed_side left right options in
    let members = side-member left right (swaps options) in
    let built : reads nodes root b (stop.Sink (at.Build n)) ≡ true = ap (λ y. list_any (is_number b) (built_inputs y)) is ∙ self-member b [] in
    all-append nodes root n (map (closed_by (at.Build n)) (paths_of nodes b)) (map (through n) (paths_of nodes p))
    (all-closed nodes root b n (at.Build n) (paths_of nodes b) built (h b members.0))
    (all-through nodes root p n (paths_of nodes p) (through-read nodes root n p x is (self-member p [])) (h p members.1))
all-node nodes root n (node.Sort i by options) is h =
    let read : reads nodes root i (stop.Sink (at.Sort n)) ≡ true = ap (λ y. list_any (is_number i) (through_inputs y)) is ∙ self-member i [] in
    all-sorted nodes root i n false (paths_of nodes i) read (h i (self-member i []))

chains : (plan : Plan) (root b n : ℕ) → IsWellFormed plan root → n < b → b ≤ length plan.nodes → is_under plan.nodes root n ≡ true → AllAt plan.nodes root n (paths_of plan.nodes n)
chains plan root zero n good lt le u = absurd (omega arith)
chains plan root (suc b) n good lt le u =
    let nodes = plan.nodes in
    let x = node_at nodes n in
    let there : n < length nodes = omega arith in
    let down = down-under plan root (length nodes) n good.faultless there (omega arith) u in
    let known = turn-is nodes n x (turn_at x) down refl refl in
    let P : List Path → Type 0 = AllAt nodes root n in
    subst P (node-turn nodes (paths_of nodes) n x ∙ sym known.paths) (all-node nodes root n x refl (λ i m. (
    let l = there-under plan root n good there u i m in
    chains plan root b i good (omega arith) (omega arith) (input-under plan root n i good there u m))))

-- ---- from paths to branches

stops-same : (named : List SinkAt) (os : List ℕ) (first : ℕ) (ks : List PlacedSink) → stops_from os first (numbered_sinks named ks) ≡ stops os first ks
stops-same named os first [] = refl
stops-same named os first (k ∷ ks) = ap (λ l. map stop.Operator (between os first k.offset) ++ stop.Sink k.at ∷ l) (stops-same (add_named named k.at) os k.offset ks)

all-chained : (nodes : List Node) (root n : ℕ) (named : List SinkAt) (ps : List Path) → AllAt nodes root n ps → list_all (is_chained nodes root) (numbered_paths named ps) ≡ true
all-chained nodes root n named [] h = refl
all-chained nodes root n named (p ∷ ps) h =
    and_from (is_chained nodes root (branch_of named p)) (list_all (is_chained nodes root) (numbered_paths (named_after named p.sinks) ps))
    (ap (is_chain nodes root p.source) (stops-same named p.operators 0 p.sinks) ∙ h.0.chained)
    (all-chained nodes root n (named_after named p.sinks) ps h.1)

pub branch-chain : (plan : Plan) (root : ℕ) → IsWellFormed plan root → list_all (is_chained plan.nodes root) (branches plan root) ≡ true
branch-chain plan root good =
    let there = (root-there plan root good.faultless).0 in
    let nodes = plan.nodes in
    let paths = paths_of nodes root in
    let all = chains plan root (length nodes) root good there (omega arith) (under-self nodes root there) in
    all-chained nodes root root [] (map (closed_by at.Ordered) paths) (all-closed nodes root root root at.Ordered paths ((Decides-eqb root root).1 refl) all)
