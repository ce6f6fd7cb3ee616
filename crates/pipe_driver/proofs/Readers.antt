-- Under a well-formed plan's root each node has one reader, so what is under two inputs of a node is apart.
use Rattle.std.proofs.Common.{◌≡◌, ◌≢◌, ℕ, zero, suc, ◌+◌, ◌<◌, ◌≤◌, Bool, true, false, ◌||◌, List, length, refl, sym, ap, ◌∙◌, ◌⊎◌, inl, inr, arith}
use Rattle.std.specs.Prelude.{nat_le}
use Rattle.std.specs.List.{list_any, range_with_len}
use Rattle.std.proofs.lemmas.Bool.{cases_lt, cases_eq, and_from}
use Rattle.pipe_plan.specs.Node.{Node}
use Rattle.pipe_plan.specs.Plan.{Plan}
use Rattle.pipe_plan.specs.Under.{node_at, inputs_of, is_under}
use Rattle.pipe_plan.specs.Faults.{has_input, is_reader, is_read_below, IsWellFormed}
use Rattle.pipe_driver.proofs.Sound.{or-true, member, none-member, first_false, under-self, under-trans, under-one, root-there, good-node, smaller, le-false}
use Rattle.pipe_driver.proofs.Covers.{under-cases, second_false}

any-range : (p : ℕ → Bool) (a n k i : ℕ) → k ≡ a + i → i < n → p k ≡ true → list_any p (range_with_len a n) ≡ true
any-range p a zero k i e lt h = absurd (omega arith)
any-range p a (suc n) k zero e lt h = let is : a ≡ k = omega arith in ap (λ b. b || list_any p (range_with_len (a + 1) n)) (ap p is ∙ h)
any-range p a (suc n) k (suc i) e lt h = ap (λ b. p a || b) (any-range p (a + 1) n k i (omega arith) (omega arith) h) ∙ or-true (p a)

-- ---- a node under the root

pub there-under : (plan : Plan) (root n : ℕ) → IsWellFormed plan root → n < length plan.nodes → is_under plan.nodes root n ≡ true → (i : ℕ) → member i (inputs_of (node_at plan.nodes n)) ≡ true → i < n
there-under plan root n good there u i m = le-false n i (none-member (nat_le n) (inputs_of (node_at plan.nodes n)) i (smaller plan root n good.faultless there u) m)

pub input-under : (plan : Plan) (root n i : ℕ) → IsWellFormed plan root → n < length plan.nodes → is_under plan.nodes root n ≡ true → member i (inputs_of (node_at plan.nodes n)) ≡ true → is_under plan.nodes root i ≡ true
input-under plan root n i good there u m =
    let lt = there-under plan root n good there u i m in
    under-trans plan.nodes n i (length plan.nodes) root (root-there plan root good.faultless).0 (omega arith) u (under-one plan.nodes n i there lt m)

-- a node is above what is under it
under-le : (nodes : List Node) (b n m : ℕ) → n < b → b ≤ length nodes → is_under nodes n m ≡ true → ((k i : ℕ) → k < length nodes → is_under nodes n k ≡ true → member i (inputs_of (node_at nodes k)) ≡ true → i < k) → m ≤ n
under-le nodes zero n m lt le h low = absurd (omega arith)
under-le nodes (suc b) n m lt le h low =
    let there : n < length nodes = omega arith in
    elim (under-cases nodes n m (node_at nodes n) there refl h) [
      | inl e ↦ omega arith
      | inr some ↦ (
          let i = some.0 in
          let l : i < n = low n i there (under-self nodes n there) some.1.0 in
          let more = under-le nodes b i m (omega arith) (omega arith) some.1.1 (λ k j inside u mem. low k j inside (under-trans nodes i k (length nodes) n there (omega arith) (under-one nodes n i there l some.1.0) u) mem) in
          omega arith)
    ]

pub under-low : (plan : Plan) (root n m : ℕ) → IsWellFormed plan root → n < length plan.nodes → is_under plan.nodes root n ≡ true → is_under plan.nodes n m ≡ true → m ≤ n
under-low plan root n m good there u h =
    under-le plan.nodes (length plan.nodes) n m there (omega arith) h (λ k i inside v mem.
    there-under plan root k good inside (under-trans plan.nodes n k (length plan.nodes) root (root-there plan root good.faultless).0 (omega arith) u v) i mem)

-- ---- the reader of a node that is under another

pub record IsReader (nodes : List Node) (n m r : ℕ) : Type 0 where
  pub under : is_under nodes n r ≡ true
  pub reads : member m (inputs_of (node_at nodes r)) ≡ true
  pub there : r < length nodes

reader-of : (nodes : List Node) (b n m : ℕ) → n < b → b ≤ length nodes → n ≢ m → is_under nodes n m ≡ true → ((k i : ℕ) → k < length nodes → is_under nodes n k ≡ true → member i (inputs_of (node_at nodes k)) ≡ true → i < k) → (r : ℕ) × IsReader nodes n m r
reader-of nodes zero n m lt le ne h low = absurd (omega arith)
reader-of nodes (suc b) n m lt le ne h low =
    let there : n < length nodes = omega arith in
    elim (under-cases nodes n m (node_at nodes n) there refl h) [
      | inl e ↦ absurd (ne e)
      | inr some ↦ (
          let i = some.0 in
          let l : i < n = low n i there (under-self nodes n there) some.1.0 in
          let own = under-one nodes n i there l some.1.0 in
          elim (cases_eq i m) [
            | inl e ↦ (n, record { under = under-self nodes n there; reads = ap (λ k. member k (inputs_of (node_at nodes n))) (sym e) ∙ some.1.0; there = there })
            | inr apart ↦ (
                let more = reader-of nodes b i m (omega arith) (omega arith) apart some.1.1 (λ k j inside u mem. low k j inside (under-trans nodes i k (length nodes) n there (omega arith) own u) mem) in
                (more.0, record { under = under-trans nodes i more.0 (length nodes) n there (omega arith) own more.1.under; reads = more.1.reads; there = more.1.there }))
          ])
    ]

pub reader-under : (plan : Plan) (root n m : ℕ) → IsWellFormed plan root → n < length plan.nodes → is_under plan.nodes root n ≡ true → n ≢ m → is_under plan.nodes n m ≡ true → (r : ℕ) × IsReader plan.nodes n m r
reader-under plan root n m good there u ne h =
    reader-of plan.nodes (length plan.nodes) n m there (omega arith) ne h (λ k i inside v mem.
    there-under plan root k good inside (under-trans plan.nodes n k (length plan.nodes) root (root-there plan root good.faultless).0 (omega arith) u v) i mem)

-- ---- one reader

not-below : (plan : Plan) (root r s m : ℕ) → IsWellFormed plan root → r < s → s < length plan.nodes → is_under plan.nodes root r ≡ true → is_under plan.nodes root s ≡ true
    → member m (inputs_of (node_at plan.nodes r)) ≡ true → member m (inputs_of (node_at plan.nodes s)) ≡ true → ⊥
not-below plan root r s m good lt there u v reads reads' =
    let inputs = inputs_of (node_at plan.nodes s) in
    let fine : list_any (is_read_below plan.nodes root s) inputs ≡ false = second_false _ (list_any (is_read_below plan.nodes root s) inputs) (first_false _ _ (good-node plan root s good.faultless there v)) in
    let none : is_read_below plan.nodes root s m ≡ false = none-member (is_read_below plan.nodes root s) inputs m fine reads' in
    let reader : is_reader plan.nodes root m r ≡ true = and_from (is_under plan.nodes root r) (has_input plan.nodes m r) u reads in
    let some : is_read_below plan.nodes root s m ≡ true = any-range (is_reader plan.nodes root m) 0 s r r (omega arith) lt reader in
    let f : false ≡ true = sym none ∙ some in
    cc

pub one-reader : (plan : Plan) (root r s m : ℕ) → IsWellFormed plan root → r < length plan.nodes → s < length plan.nodes → is_under plan.nodes root r ≡ true → is_under plan.nodes root s ≡ true
    → member m (inputs_of (node_at plan.nodes r)) ≡ true → member m (inputs_of (node_at plan.nodes s)) ≡ true → r ≡ s
one-reader plan root r s m good there there' u v reads reads' =
    elim (cases_lt r s) [
      | inl lt ↦ absurd (not-below plan root r s m good lt there' u v reads reads')
      | inr ge ↦ elim (cases_lt s r) [
        | inl lt ↦ absurd (not-below plan root s r m good lt there v u reads' reads)
        | inr le ↦ omega arith
      ]
    ]

-- ---- apart

-- two nodes with a node under both are one under the other
meet : (plan : Plan) (root f a b m : ℕ) → IsWellFormed plan root → a < length plan.nodes → b < length plan.nodes → is_under plan.nodes root a ≡ true → is_under plan.nodes root b ≡ true
    → length plan.nodes ≤ m + f → m < length plan.nodes → is_under plan.nodes a m ≡ true → is_under plan.nodes b m ≡ true → (is_under plan.nodes a b ≡ true) ⊎ (is_under plan.nodes b a ≡ true)
meet plan root zero a b m good ta tb u v fuel tm h k = absurd (omega arith)
meet plan root (suc f) a b m good ta tb u v fuel tm h k =
    let nodes = plan.nodes in
    elim (cases_eq a m) [
      | inl e ↦ inr (ap (is_under nodes b) e ∙ k)
      | inr ne ↦ elim (cases_eq b m) [
        | inl e ↦ inl (ap (is_under nodes a) e ∙ h)
        | inr ne' ↦ (
            let left = reader-under plan root a m good ta u ne h in
            let right = reader-under plan root b m good tb v ne' k in
            let in_root = (root-there plan root good.faultless).0 in
            let ur = under-trans nodes a left.0 (length nodes) root in_root (omega arith) u left.1.under in
            let us = under-trans nodes b right.0 (length nodes) root in_root (omega arith) v right.1.under in
            let same : left.0 ≡ right.0 = one-reader plan root left.0 right.0 m good left.1.there right.1.there ur us left.1.reads right.1.reads in
            let above : m < left.0 = there-under plan root left.0 good left.1.there ur m left.1.reads in
            meet plan root f a b left.0 good ta tb u v (omega arith) left.1.there left.1.under (ap (is_under nodes b) same ∙ right.1.under))
      ]
    ]

-- an input of a node isn't under another one
not-under : (plan : Plan) (root n a b : ℕ) → IsWellFormed plan root → n < length plan.nodes → is_under plan.nodes root n ≡ true → member a (inputs_of (node_at plan.nodes n)) ≡ true → member b (inputs_of (node_at plan.nodes n)) ≡ true
    → a ≢ b → is_under plan.nodes a b ≡ true → ⊥
not-under plan root n a b good there u ma mb ne h =
    let la = there-under plan root n good there u a ma in
    let ta : a < length plan.nodes = omega arith in
    let ua = input-under plan root n a good there u ma in
    let r = reader-under plan root a b good ta ua ne h in
    let ur = under-trans plan.nodes a r.0 (length plan.nodes) root (root-there plan root good.faultless).0 (omega arith) ua r.1.under in
    let same : r.0 ≡ n = one-reader plan root r.0 n b good r.1.there there ur u r.1.reads mb in
    let low : r.0 ≤ a = under-low plan root a r.0 good ta ua r.1.under in
    omega arith

pub apart : (plan : Plan) (root n a b m : ℕ) → IsWellFormed plan root → n < length plan.nodes → is_under plan.nodes root n ≡ true → member a (inputs_of (node_at plan.nodes n)) ≡ true → member b (inputs_of (node_at plan.nodes n)) ≡ true
    → a ≢ b → is_under plan.nodes a m ≡ true → is_under plan.nodes b m ≡ true → ⊥
apart plan root n a b m good there u ma mb ne h k =
    let la = there-under plan root n good there u a ma in
    let lb = there-under plan root n good there u b mb in
    let ua = input-under plan root n a good there u ma in
    let ub = input-under plan root n b good there u mb in
    let ta : a < length plan.nodes = omega arith in
    let tb : b < length plan.nodes = omega arith in
    let low : m ≤ a = under-low plan root a m good ta ua h in
    elim (meet plan root (length plan.nodes) a b m good ta tb ua ub (omega arith) (omega arith) h k) [
      | inl e ↦ not-under plan root n a b good there u ma mb ne e
      | inr e ↦ not-under plan root n b a good there u mb ma (λ f. ne (sym f)) e
    ]
