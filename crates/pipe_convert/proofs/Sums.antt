-- The counts of branches are those of the legs of their plan.
use Rattle.std.proofs.Common.{◌≡◌, ℕ, suc, ◌+◌, ◌<◌, max, Bool, true, false, cond, ◌==◌, ◌||◌, List, [], ◌∷◌, ◌++◌, length, map, refl, sym, ap, ◌∙◌, arith}
use Rattle.std.specs.List.{flat_map, AllByRecursion}
use Rattle.std.proofs.lemmas.List.{length_push}
use Rattle.pipe_plan.specs.Plan.{Plan}
use Rattle.pipe_plan.specs.Faults.{IsWellFormed}
use Rattle.pipe_driver.specs.declared.branch.SinkAt.{SinkAt}
use Rattle.pipe_driver.specs.declared.branch.SinkNode.{SinkNode}
use Rattle.pipe_driver.specs.declared.branch.Branch.{Branch}
use Rattle.pipe_driver.specs.Branches.{Path, PlacedSink, eq_sink, is_named, add_named, number_of, named_after, numbered_sinks, numbered_paths, plan_paths, branches}
use Rattle.pipe_driver.specs.BranchLaws.{sinks_of, first_named}
use Rattle.pipe_driver.specs.Texts.{between}
use Rattle.pipe_driver.proofs.Names.{number-unnamed, add_named-new, add_named-old}
use Rattle.pipe_driver.specs.Legs.{sink_node, legs_from, way_of, ways_of}
use Rattle.pipe_driver.specs.Numbers.{named_sinks, sink_number, HasNumber}
use Rattle.pipe_driver.specs.Ways.{one, occurs, legs_to, legs_through, feeds, passes}
use Rattle.pipe_driver.proofs.Tests.{by_test, eq-is, eq-true, eq-not, eq-false}
use Rattle.pipe_driver.proofs.Numbered.{told_apart, have_numbers}
use Rattle.pipe_convert.specs.Counts.{sinks_numbered, numbered, bound_of, bound, sinks_behind, gone_through}

-- ---- as many numbers as sinks

number_below : (named : List SinkAt) (a : SinkAt) → is_named named a ≡ true → number_of named a < length named
number_below [] a h = absurd (let f : false ≡ true = h in cc)
number_below (s ∷ ss) a h =
    let split : (b : Bool) → (b || is_named ss a) ≡ true → cond b 0 (suc (number_of ss a)) < suc (length ss) =
    elim [ true ↦ λ g. omega arith | false ↦ λ g. (let lt = number_below ss a g in omega arith) ] in
    split (eq_sink a s) h

bound_next : (named : List SinkAt) (a : SinkAt) → max (length named) (number_of named a + 1) ≡ length (add_named named a)
bound_next named a = by_test (max (length named) (number_of named a + 1) ≡ length (add_named named a)) (is_named named a)
    (λ e. (let same = ap length (add_named-old named a e) in let lt = number_below named a e in omega arith))
    (λ e. (let more = ap length (add_named-new named a e) in let push = length_push named a in let n = number-unnamed named a e in omega arith))

bound_named : (named : List SinkAt) (ks : List PlacedSink) → bound_of (length named) (numbered_sinks named ks) ≡ length (named_after named ks)
bound_named named [] = refl
bound_named named (k ∷ ks) = ap (λ n. bound_of n (numbered_sinks (add_named named k.at) ks)) (bound_next named k.at) ∙ bound_named (add_named named k.at) ks

abbrev named_by : List SinkAt → List Path → List SinkAt
named_by named [] = named
named_by named (p ∷ ps) = named_by (named_after named p.sinks) ps

bound_paths : (named : List SinkAt) (ps : List Path) → bound (length named) (numbered_paths named ps) ≡ length (named_by named ps)
bound_paths named [] = refl
bound_paths named (p ∷ ps) = ap (λ n. bound n (numbered_paths (named_after named p.sinks) ps)) (bound_named named p.sinks) ∙ bound_paths (named_after named p.sinks) ps

first_sinks : (named other : List SinkAt) (ks : List PlacedSink) (rest : List SinkNode) → first_named named (numbered_sinks other ks ++ rest) ≡ first_named (named_after named ks) rest
first_sinks named other [] rest = refl
first_sinks named other (k ∷ ks) rest = first_sinks (add_named named k.at) (add_named other k.at) ks rest

first_paths : (named other : List SinkAt) (ps : List Path) → first_named named (flat_map sinks_of (numbered_paths other ps)) ≡ named_by named ps
first_paths named other [] = refl
first_paths named other (p ∷ ps) = first_sinks named other p.sinks (flat_map sinks_of (numbered_paths (named_after other p.sinks) ps)) ∙ first_paths (named_after named p.sinks) (named_after other p.sinks) ps

pub bound_is : (plan : Plan) (root : ℕ) → bound 0 (branches plan root) ≡ length (named_sinks plan root)
bound_is plan root = bound_paths [] (plan_paths plan.nodes root) ∙ ap length (sym (first_paths [] [] (plan_paths plan.nodes root)))

-- ---- sinks

pub all_first : {A : Type 0} (P : A → Type 0) (a b : List A) → AllByRecursion P (a ++ b) → AllByRecursion P a
all_first P [] b h = tt
all_first P (x ∷ a) b h = (h.0, all_first P a b h.1)

pub all_second : {A : Type 0} (P : A → Type 0) (a b : List A) → AllByRecursion P (a ++ b) → AllByRecursion P b
all_second P [] b h = h
all_second P (x ∷ a) b h = all_second P a b h.1

abbrev Numbered : Plan → ℕ → SinkNode → Type 0
Numbered plan root sink = HasNumber (length plan.nodes) (named_sinks plan root) sink

sink_one : (plan : Plan) (root s : ℕ) (k : SinkNode) → Numbered plan root k → one (k.count == sink_number plan root s) ≡ one (sink_node (length plan.nodes) k.at == s)
sink_one plan root s k h =
    let t = sink_node (length plan.nodes) k.at in
    let n = sink_number plan root s in
    let below = h.there in
    let is = h.is in
    by_test (one (k.count == n) ≡ one (t == s)) (t == s)
    (λ e. ap one (eq-true k.count n (h.is ∙ ap (sink_number plan root) (eq-is t s e)) ∙ sym e))
    (λ e. ap one (eq-false k.count n (λ f. eq-not t s e (sym (told_apart plan root t s (omega arith) (sym f ∙ h.is)))) ∙ sym e))

legs_sum : (plan : Plan) (root s : ℕ) (ops : List ℕ) (first : ℕ) (ks : List SinkNode) → AllByRecursion (Numbered plan root) ks → sinks_numbered (sink_number plan root s) ks ≡ legs_to s (legs_from (length plan.nodes) ops first ks)
legs_sum plan root s ops first [] h = refl
legs_sum plan root s ops first (k ∷ ks) h =
    let here = sink_one plan root s k h.0 in
    let rest = legs_sum plan root s ops k.offset ks h.1 in
    omega arith

ways_sum : (plan : Plan) (root s : ℕ) (bs : List Branch) → AllByRecursion (Numbered plan root) (flat_map sinks_of bs) → numbered (sink_number plan root s) bs ≡ feeds s (map (way_of (length plan.nodes)) bs)
ways_sum plan root s [] h = refl
ways_sum plan root s (b ∷ bs) h =
    let here = legs_sum plan root s b.operators 0 b.sinks (all_first (Numbered plan root) b.sinks (flat_map sinks_of bs) h) in
    let rest = ways_sum plan root s bs (all_second (Numbered plan root) b.sinks (flat_map sinks_of bs) h) in
    omega arith

pub feeds_are : (plan : Plan) (root s : ℕ) → IsWellFormed plan root → numbered (sink_number plan root s) (branches plan root) ≡ feeds s (ways_of plan root)
feeds_are plan root s well = ways_sum plan root s (branches plan root) (have_numbers plan root well)

-- ---- nodes

legs_pass : (size n : ℕ) (ops : List ℕ) (first : ℕ) (ks : List SinkNode) → sinks_behind n ops first ks ≡ legs_through n (legs_from size ops first ks)
legs_pass size n ops first [] = refl
legs_pass size n ops first (k ∷ ks) = ap (λ x. occurs n (between ops first k.offset) + x) (legs_pass size n ops k.offset ks)

ways_pass : (size n : ℕ) (bs : List Branch) → gone_through n bs ≡ passes n (map (way_of size) bs)
ways_pass size n [] = refl
ways_pass size n (b ∷ bs) =
    let here = legs_pass size n b.operators 0 b.sinks in
    let rest = ways_pass size n bs in
    omega arith

pub passes_are : (plan : Plan) (root n : ℕ) → gone_through n (branches plan root) ≡ passes n (ways_of plan root)
passes_are plan root n = ways_pass (length plan.nodes) n (branches plan root)
