-- How many rows rewritten nodes have, and that each stands under the last.
use Rattle.std.proofs.Common.{◌≡◌, ℕ, suc, ◌<◌, ◌≤◌, Bool, true, false, cond, eqb, ◌||◌, List, [], ◌∷◌, ◌++◌, Option, Some, None, length, map, refl, ap, sym, ◌∙◌, subst, arith, ◌⊎◌, inl, inr, length-append}
use Rattle.std.specs.Prelude.{filter}
use Rattle.std.specs.List.{AllByRecursion, flat_map, list_any}
use Rattle.std.proofs.lemmas.Bool.{cases_lt}
use Rattle.pipe_frame.specs.Frame.{Table}
use Rattle.pipe_schema.specs.Rows.{Row}
use Rattle.pipe_schema.specs.declared.field.Field.{Field}
use Rattle.pipe_expr.specs.Formula.{Formula}
use Rattle.pipe_plan.specs.Node.{Node}
use Rattle.pipe_plan.specs.Node as node
use Rattle.pipe_plan.specs.Plan.{Plan}
use Rattle.pipe_plan.specs.Under.{node_at, inputs_of, is_under}
use Rattle.pipe_plan.specs.Schemas.{node_schema}
use Rattle.pipe_plan.specs.PlanRows.{node_rows, rows_of}
use Rattle.pipe_plan.specs.Faults.{IsWellFormed}
use Rattle.pipe_check.proofs.Walks.{member, itself, under-self, under-trans, under-input}
use Rattle.pipe_events.proofs.Lists.{all-filter}
use Rattle.pipe_rules.specs.Conjuncts.{passes_each, filter_each}
use Rattle.pipe_rules.specs.FilterLaws.{IsKnown}
use Rattle.pipe_rules.specs.Placing.{Placing, Above, OnInputs, OnLeft, OnRight}
use Rattle.pipe_rules.specs.Placed.{placing_at, IsReady}
use Rattle.pipe_rules.specs.Parted.{Parts, above_in, inputs_in, left_in, right_in, parted, rows_below}
use Rattle.pipe_rules.proofs.Parts.{parts-down, each-none}
use Rattle.pipe_rules.specs.Renumbered.{with_inputs}
use Rattle.pipe_rules.specs.Low.{is_sort}
use Rattle.pipe_rules.specs.Sorts.{sorting_of}
use Rattle.pipe_rules.specs.Grown.{over, AreWithin, is_reached}
use Rattle.pipe_rules.proofs.Growing.{under-new, rows-stays}
use Rattle.pipe_rules.proofs.Granted.{granted}

-- ---- lengths

pub filter-less : {A : Type 0} (p : A → Bool) (xs : List A) → length (filter p xs) ≤ length xs
filter-less p [] = omega arith
filter-less p (x ∷ xs) =
    let rest = filter-less p xs in
    let split : (b : Bool) → length (cond b (x ∷ filter p xs) (filter p xs)) ≤ suc (length xs) = elim [
      | true ↦ omega arith
      | false ↦ omega arith
    ] in split (p x)

-- ---- conjuncts that go below

abbrev goes : Placing → Bool
goes (Above f) = false
goes (OnInputs f) = true
goes (OnLeft f) = true
goes (OnRight f) = true

abbrev going : (Formula → Placing) → List Formula → List Formula
going pl cs = filter (λ c. goes (pl c)) cs

none-above : (pl : Formula → Placing) (cs : List Formula) → flat_map above_in (map pl (going pl cs)) ≡ []
none-above pl [] = refl
none-above pl (c ∷ cs) =
    let rest = none-above pl cs in
    let split : (p : Placing) → pl c ≡ p → flat_map above_in (map pl (cond (goes p) (c ∷ going pl cs) (going pl cs))) ≡ [] = elim [
      | Above f ↦ λ e. rest
      | OnInputs f ↦ λ e. ap (λ q. above_in q ++ flat_map above_in (map pl (going pl cs))) e ∙ rest
      | OnLeft f ↦ λ e. ap (λ q. above_in q ++ flat_map above_in (map pl (going pl cs))) e ∙ rest
      | OnRight f ↦ λ e. ap (λ q. above_in q ++ flat_map above_in (map pl (going pl cs))) e ∙ rest
    ] in split (pl c) refl

same-going : (g : Placing → List Formula) → ((f : Formula) → g (Above f) ≡ []) → (pl : Formula → Placing) (cs : List Formula) → flat_map g (map pl (going pl cs)) ≡ flat_map g (map pl cs)
same-going g none pl [] = refl
same-going g none pl (c ∷ cs) =
    let rest = same-going g none pl cs in
    let more : flat_map g (map pl (c ∷ going pl cs)) ≡ flat_map g (map pl (c ∷ cs)) = ap (λ l. g (pl c) ++ l) rest in
    let split : (p : Placing) → pl c ≡ p → flat_map g (map pl (cond (goes p) (c ∷ going pl cs) (going pl cs))) ≡ flat_map g (map pl (c ∷ cs)) = elim [
      | Above f ↦ λ e. rest ∙ sym (ap (λ q. g q ++ flat_map g (map pl cs)) e ∙ ap (λ l. l ++ flat_map g (map pl cs)) (none f))
      | OnInputs f ↦ λ e. more
      | OnLeft f ↦ λ e. more
      | OnRight f ↦ λ e. more
    ] in split (pl c) refl

-- parts of which none stay above
abbrev below_only : Parts → Parts
below_only parts = record { above = []; inputs = parts.inputs; left = parts.left; right = parts.right }

parts-going : (s : ℕ → List Field) (x : Node) (cs : List Formula) → parted s x (going (placing_at s x) cs) ≡ below_only (parted s x cs)
parts-going s x cs =
    let pl = placing_at s x in
    let make : List Formula → List Formula → List Formula → List Formula → Parts = λ a b c d. record { above = a; inputs = b; left = c; right = d } in
    let ps = map pl (going pl cs) in
    ap (λ a. make a (flat_map inputs_in ps) (flat_map left_in ps) (flat_map right_in ps)) (none-above pl cs)
    ∙ ap (λ b. make [] b (flat_map left_in ps) (flat_map right_in ps)) (same-going inputs_in (λ f. refl) pl cs)
    ∙ ap (λ c. make [] (flat_map inputs_in (map pl cs)) c (flat_map right_in ps)) (same-going left_in (λ f. refl) pl cs)
    ∙ ap (λ d. make [] (flat_map inputs_in (map pl cs)) (flat_map left_in (map pl cs)) d) (same-going right_in (λ f. refl) pl cs)

-- a node has no more rows over inputs with the conjuncts that go onto them
pub copy-less : (frames : List Table) (s : ℕ → List Field) (x : Node) (cs : List Formula) (rows : ℕ → List Row) → IsReady frames s rows x → AllByRecursion (IsKnown (node_schema frames s x)) cs → length (node_rows frames s (rows_below s x (parted s x cs) rows) x) ≤ length (node_rows frames s rows x)
copy-less frames s x cs rows ready known =
    let out = node_schema frames s x in
    let all = node_rows frames s rows x in
    let pl = placing_at s x in
    let some = going pl cs in
    let copied : List Row = node_rows frames s (rows_below s x (parted s x cs) rows) x in
    let down = parts-down frames s x some rows ready (all-filter (IsKnown out) (λ c. goes (pl c)) cs known) in
    let is : filter_each some out all ≡ copied =
    down
    ∙ ap (λ q. filter_each q.above out (node_rows frames s (rows_below s x q rows) x)) (parts-going s x cs)
    ∙ each-none out copied in
    let less = filter-less (passes_each some out) all in
    let long : length (filter_each some out all) ≡ length copied = ap length is in
    omega arith

-- ---- what is under an input

pub within-input : (plan : Plan) (root n limit i : ℕ) → IsWellFormed plan root → is_under plan.nodes root n ≡ true → member i (inputs_of (node_at plan.nodes n)) ≡ true → AreWithin plan n limit → AreWithin plan i limit
within-input plan root n limit i good under m within j below =
    let g = granted plan root n good under in
    let lt = (g.fed i m).0 in
    let reached : is_under plan.nodes n i ≡ true = under-input plan.nodes n n i g.there g.there (under-self plan.nodes n g.there) lt m in
    within j (under-trans plan.nodes i j (length plan.nodes) n g.there (omega arith) reached below)

pub within-inputs : (plan : Plan) (root n limit : ℕ) → IsWellFormed plan root → is_under plan.nodes root n ≡ true → AreWithin plan n limit → (is : List ℕ) → ((i : ℕ) → member i is ≡ true → member i (inputs_of (node_at plan.nodes n)) ≡ true) → AllByRecursion (λ i. AreWithin plan i limit) is
within-inputs plan root n limit good under within [] h = tt
within-inputs plan root n limit good under within (i ∷ is) h = (
  within-input plan root n limit i good under (h i (let e = itself i in rw e refl)) within,
  within-inputs plan root n limit good under within is (λ j m. h j (let split : (b : Bool) → (b || member j is) ≡ true = elim [ true ↦ refl | false ↦ m ] in split (eqb i j))),
)

-- ---- under the last

or-right : (a b : Bool) → b ≡ true → (a || b) ≡ true
or-right true b e = refl
or-right false b e = e

pub last-reaches : (old new : List Node) (y : Node) (ks : List ℕ) → inputs_of y ≡ ks → ((m : ℕ) → length old ≤ m → m < length new → list_any (is_reached new m) ks ≡ true) → (m : ℕ) → length old ≤ m → m < length (new ++ y ∷ []) → is_under (new ++ y ∷ []) (length new) m ≡ true
last-reaches old new y ks reads whole m above below =
    let one : length (new ++ y ∷ []) ≡ suc (length new) = (let e = length-append new (y ∷ []) in let z : length (y ∷ []) ≡ 1 = refl in omega arith) in
    let split : (m < length new) ⊎ (length new ≤ m) → (eqb (length new) m || list_any (is_reached new m) (inputs_of y)) ≡ true = elim [
      | inl l ↦ or-right (eqb (length new) m) (list_any (is_reached new m) (inputs_of y)) (ap (list_any (is_reached new m)) reads ∙ whole m above l)
      | inr g ↦ (let is_last : length new ≡ m = omega arith in let e : eqb (length new) m ≡ true = ap (λ j. eqb j m) is_last ∙ itself m in rw e refl)
    ] in under-new new y m ∙ split (cases_lt m (length new))

-- rows of old nodes, and of one more
pub one-within : (frames : List Table) (old new : List Node) (y : Node) (limit : ℕ) → ((m : ℕ) → length old ≤ m → m < length new → length (rows_of (over frames new) m) ≤ limit) → length (rows_of (over frames (new ++ y ∷ [])) (length new)) ≤ limit → (m : ℕ) → length old ≤ m → m < length (new ++ y ∷ []) → length (rows_of (over frames (new ++ y ∷ [])) m) ≤ limit
one-within frames old new y limit before here m above below =
    let one : length (new ++ y ∷ []) ≡ suc (length new) = (let e = length-append new (y ∷ []) in let z : length (y ∷ []) ≡ 1 = refl in omega arith) in
    let split : (m < length new) ⊎ (length new ≤ m) → length (rows_of (over frames (new ++ y ∷ [])) m) ≤ limit = elim [
      | inl l ↦ (let same : length (rows_of (over frames (new ++ y ∷ [])) m) ≡ length (rows_of (over frames new) m) = ap length (rows-stays frames new (y ∷ []) m l) in let less = before m above l in omega arith)
      | inr g ↦ (let is_last : length new ≡ m = omega arith in subst (λ j. length (rows_of (over frames (new ++ y ∷ [])) j) ≤ limit) is_last here)
    ] in split (cases_lt m (length new))

-- ---- sorts

pub sorting-renumbered : (x : Node) (ks : List ℕ) → sorting_of (with_inputs x ks) ≡ sorting_of x
sorting-renumbered (node.DataFrameScan frame columns) ks = refl
sorting-renumbered (node.Filter input predicate) ks = refl
sorting-renumbered (node.SimpleProjection input columns) ks = refl
sorting-renumbered (node.Select input exprs) ks = refl
sorting-renumbered (node.HStack input exprs) ks = refl
sorting-renumbered (node.MapFunction input function) ks = refl
sorting-renumbered (node.Union inputs) ks = refl
sorting-renumbered (node.Join left right left_on right_on options) ks = refl
sorting-renumbered (node.Sort input by options) ks = refl

abbrev is-there : {A : Type 0} → Option A → Bool
is-there None = false
is-there (Some a) = true

sort-by : (x : Node) → is_sort x ≡ is-there (sorting_of x)
sort-by (node.DataFrameScan frame columns) = refl
sort-by (node.Filter input predicate) = refl
sort-by (node.SimpleProjection input columns) = refl
sort-by (node.Select input exprs) = refl
sort-by (node.HStack input exprs) = refl
sort-by (node.MapFunction input function) = refl
sort-by (node.Union inputs) = refl
sort-by (node.Join left right left_on right_on options) = refl
sort-by (node.Sort input by options) = refl

-- what sorts by what a sort sorts by is a sort
pub is-sorted : (x y : Node) → sorting_of x ≡ sorting_of y → is_sort y ≡ true → is_sort x ≡ true
is-sorted x y same sort = sort-by x ∙ ap is-there same ∙ sym (sort-by y) ∙ sort
