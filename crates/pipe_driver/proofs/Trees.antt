-- What a well-formed plan is by its parts: all that the laws of branches rest on.
use Rattle.std.proofs.Common.{◌≡◌, ◌≢◌, ℕ, ◌<◌, ◌≤◌, Bool, true, false, ◌||◌, List, [], ◌∷◌, ◌++◌}
use Rattle.std.specs.List.{flat_map, list_any, AllByRecursion}
use Rattle.pipe_schema.proofs.Weights.{SameBag}
use Rattle.pipe_driver.specs.Shape.{Kind, Begins, Each, Unites, Joins, Sorts, sources_by, joins_by, is_joining, is_sorting}
use Rattle.pipe_driver.specs.Meaning.{Tree}
use Rattle.pipe_driver.specs.Ways.{occurs}

-- an input whose rows go through a node, and one whose rows end in its sink
pub record IsInput (t : Tree) (n i : ℕ) : Type 0 where
  pub lower : i < n
  pub under : t.under t.root i ≡ true
  pub within : (k : ℕ) → t.under i k ≡ true → t.under n k ≡ true
  pub above : t.above i ≡ n ∷ t.above n
  pub above_sink : t.above_sink i ≡ t.above_sink n

pub record EndsAt (t : Tree) (n i : ℕ) : Type 0 where
  pub lower : i < n
  pub under : t.under t.root i ≡ true
  pub within : (k : ℕ) → t.under i k ≡ true → t.under n k ≡ true
  pub above : t.above i ≡ []
  pub above_sink : t.above_sink i ≡ n

abbrev pub AreApart : Tree → List ℕ → Type 0
AreApart t [] = Unit {0}
AreApart t (i ∷ is) = ((k : ℕ) → t.under i k ≡ true → list_any (λ o. t.under o k) is ≡ true → ⊥) × AreApart t is

abbrev pub Apart : Tree → ℕ → ℕ → Type 0
Apart t a b = (k : ℕ) → t.under a k ≡ true → t.under b k ≡ true → ⊥

abbrev pub AreInputs : Tree → ℕ → Kind → Type 0
AreInputs t n Begins = Unit {0}
AreInputs t n (Each i) = IsInput t n i
AreInputs t n (Unites is) = AllByRecursion (IsInput t n) is × AreApart t is × (is ≡ [] → ⊥)
AreInputs t n (Joins b p) = EndsAt t n b × IsInput t n p × Apart t b p
AreInputs t n (Sorts i) = EndsAt t n i

-- what a node makes of the rows that go through it, and of its own
abbrev pub HasRows : Tree → ℕ → Kind → Type 0
HasRows t n Begins = Unit {0}
HasRows t n (Each i) = SameBag (t.rows n) (flat_map (t.each n) (t.rows i))
HasRows t n (Unites is) = SameBag (t.rows n) (flat_map (t.each n) (flat_map t.rows is))
HasRows t n (Joins b p) = SameBag (t.rows n) (flat_map (t.each n) (t.rows p) ++ t.own n)
HasRows t n (Sorts i) = Unit {0}

-- whether a node is under an input
abbrev pub under_inputs : (ℕ → ℕ → Bool) → Kind → ℕ → Bool
under_inputs under Begins k = false
under_inputs under (Each i) k = under i k
under_inputs under (Unites is) k = list_any (λ o. under o k) is
under_inputs under (Joins b p) k = under b k || under p k
under_inputs under (Sorts i) k = under i k

pub record IsTree (t : Tree) : Type 0 where
  pub inputs : (n : ℕ) → t.under t.root n ≡ true → AreInputs t n (t.kind n)
  pub rows : (n : ℕ) → t.under t.root n ≡ true → HasRows t n (t.kind n)
  pub sources : (n : ℕ) → t.under t.root n ≡ true → t.sources n ≡ sources_by t.sources n (t.kind n)
  pub joins : (n : ℕ) → t.under t.root n ≡ true → t.joins n ≡ joins_by t.joins n (t.kind n)
  pub parts : (n k : ℕ) → t.under t.root n ≡ true → t.under n k ≡ true → k ≢ n → t.is_run k ≡ true → under_inputs t.under (t.kind n) k ≡ true
  pub self : (n : ℕ) → t.under t.root n ≡ true → t.under n n ≡ true
  pub root_under : t.under t.root t.root ≡ true
  pub trans : (a b c : ℕ) → t.under t.root a ≡ true → t.under a b ≡ true → t.under b c ≡ true → t.under a c ≡ true
  pub lower : (a b : ℕ) → t.under t.root a ≡ true → t.under a b ≡ true → b ≤ a
  pub run_under : (n : ℕ) → t.is_run n ≡ true → t.under t.root n ≡ true
  pub sorts_run : (n : ℕ) → t.under t.root n ≡ true → is_sorting (t.kind n) ≡ true → t.is_run n ≡ true
  pub joins_run : (n : ℕ) → t.under t.root n ≡ true → is_joining (t.kind n) ≡ true → t.is_run n ≡ true
  -- the root is below its sink, and nothing is above it
  pub ordered : t.root < t.ordered
  pub root_above : t.above t.root ≡ []
  pub root_sink : t.above_sink t.root ≡ t.ordered
  -- chains go upwards
  pub up : (n : ℕ) → t.under t.root n ≡ true → n < t.above_sink n
  pub above : (n j : ℕ) → t.under t.root n ≡ true → j ≤ n → occurs j (t.above n) ≡ 0
