-- Nodes that were added stay sound while others follow.
use Rattle.std.proofs.Common.{◌≡◌, ℕ, suc, ◌<◌, ◌≤◌, Bool, true, false, eqb, ◌||◌, List, [], ◌∷◌, ◌++◌, length, refl, ap, sym, ◌∙◌, subst, arith, ◌⊎◌, inl, inr, length-append}
use Rattle.std.specs.List.{AllByRecursion}
use Rattle.std.proofs.lemmas.Bool.{cases_lt}
use Rattle.std.proofs.lemmas.Bool.Decides.{Decides-eqb}
use Rattle.pipe_frame.specs.Frame.{Table}
use Rattle.pipe_schema.specs.declared.field.Field.{Field}
use Rattle.pipe_expr.specs.Formula.{Formula}
use Rattle.pipe_plan.specs.Node.{Node}
use Rattle.pipe_plan.specs.Node as node
use Rattle.pipe_plan.specs.Under.{inputs_of, node_at}
use Rattle.pipe_plan.specs.Schemas.{schema_of, join_over}
use Rattle.pipe_plan.specs.Faults.{has_input, repeats, is_void}
use Rattle.pipe_check.specs.Checking.{fault_with}
use Rattle.pipe_check.proofs.Agree.{Agree, agree-members, fault-agree}
use Rattle.pipe_check.proofs.Walks.{member, itself}
use Rattle.pipe_rules.specs.Placing.{below_hstack, below_function, below_join}
use Rattle.pipe_rules.specs.Placed.{placing_at}
use Rattle.pipe_rules.specs.Conjuncts.{conjuncts_of}
use Rattle.pipe_rules.proofs.Filters.{all-of}
use Rattle.pipe_rules.specs.Low.{is_filter, Stays, IsLow}
use Rattle.pipe_rules.specs.Grown.{over, Grows, IsSoundNode, AreSound, IsFree}
use Rattle.pipe_rules.proofs.Renumber.{two}
use Rattle.pipe_rules.proofs.Growing.{node-before, node-new, schema-stays}

-- where a conjunct goes rests on the schemas of the inputs
pub placing-agree : (s t : ℕ → List Field) (x : Node) (c : Formula) → Agree s t (inputs_of x) → placing_at s x c ≡ placing_at t x c
placing-agree s t (node.DataFrameScan frame columns) c a = refl
placing-agree s t (node.Filter input predicate) c a = refl
placing-agree s t (node.SimpleProjection input columns) c a = refl
placing-agree s t (node.Select input exprs) c a = refl
placing-agree s t (node.HStack input exprs) c a = ap (λ f. below_hstack f exprs c) a.0
placing-agree s t (node.MapFunction input function) c a = ap (λ f. below_function f function c) a.0
placing-agree s t (node.Union inputs) c a = refl
placing-agree s t (node.Join left right left_on right_on options) c a = two (λ f g. below_join options.how (join_over f g left_on right_on options) c) a.0 a.1.0
placing-agree s t (node.Sort input by options) c a = refl

is-only : (i : ℕ) → member i (i ∷ []) ≡ true
is-only i = let self : eqb i i ≡ true = itself i in rw self refl

low-stays : (s t : ℕ → List Field) (xs ys : List Node) (x : Node) → ((i : ℕ) → member i (inputs_of x) ≡ true → (node_at ys i ≡ node_at xs i) × Agree t s (inputs_of (node_at xs i))) → IsLow s xs x → IsLow t ys x
low-stays s t xs ys (node.DataFrameScan frame columns) h low = tt
low-stays s t xs ys (node.Filter input predicate) h low =
    let same = h input (is-only input) in
    let P : Formula → Type 0 = Stays s (node_at xs input) in
    let Q : Formula → Type 0 = Stays t (node_at xs input) in
    let moved : AllByRecursion Q (conjuncts_of predicate) = all-of P Q (λ c stays. placing-agree t s (node_at xs input) c same.1 ∙ stays) (conjuncts_of predicate) low.1 in
    (ap is_filter same.0 ∙ low.0, subst (λ y. AllByRecursion (Stays t y) (conjuncts_of predicate)) (sym same.0) moved)
low-stays s t xs ys (node.SimpleProjection input columns) h low = tt
low-stays s t xs ys (node.Select input exprs) h low = tt
low-stays s t xs ys (node.HStack input exprs) h low = tt
low-stays s t xs ys (node.MapFunction input function) h low = tt
low-stays s t xs ys (node.Union inputs) h low = tt
low-stays s t xs ys (node.Join left right left_on right_on options) h low = tt
low-stays s t xs ys (node.Sort input by options) h low = tt

not-both : (b : Bool) → b ≡ true → b ≡ false → ⊥
not-both true e f = absurd (let no_ : true ≡ false = f in cc)
not-both false e f = absurd (let no_ : false ≡ true = e in cc)

-- what leads to nothing is false
never : (b : Bool) → (b ≡ true → ⊥) → b ≡ false
never true h = absurd (h refl)
never false h = refl

pub none-sound : (frames : List Table) (old : List Node) → AreSound frames old old
none-sound frames old = record {
  own = λ m i above below reads. absurd (omega arith);
  apart = λ m j i above less below reads. absurd (omega arith);
  each = λ m above below. absurd (omega arith);
}

module _ (frames : List Table) (old middle new : List Node) (grows : Grows middle new) where
  pub longer : length middle ≤ length new
  longer = (let e = length-append middle grows.more in let f : length new ≡ length (middle ++ grows.more) = ap length grows.grown in omega arith)

  pub at : (m : ℕ) → m < length middle → node_at new m ≡ node_at middle m
  at m lt = ap (λ l. node_at l m) grows.grown ∙ node-before middle grows.more m lt

  reads-same : (m i : ℕ) → m < length middle → has_input new i m ≡ has_input middle i m
  reads-same m i lt = ap (λ x. member i (inputs_of x)) (at m lt)

  pub schema-same : (m : ℕ) → m < length middle → schema_of (over frames new) m ≡ schema_of (over frames middle) m
  schema-same m lt = ap (λ l. schema_of (over frames l) m) grows.grown ∙ schema-stays frames middle grows.more m lt

  module _ (first : AreSound frames old middle) where
    each-stays : (m : ℕ) → length old ≤ m → m < length middle → IsSoundNode frames new m
    each-stays m above lt =
        let x = node_at middle m in
        let s = schema_of (over frames middle) in
        let t = schema_of (over frames new) in
        let sound = first.each m above lt in
        let below : (i : ℕ) → member i (inputs_of x) ≡ true → (length old ≤ i) × (i < m) = λ i reads. first.own m i above lt reads in
        let same : Agree t s (inputs_of x) = agree-members t s (inputs_of x) (λ i reads. schema-same i (let lt_i = (below i reads).1 in omega arith)) in
        let fed : (i : ℕ) → member i (inputs_of x) ≡ true → (node_at new i ≡ node_at middle i) × Agree t s (inputs_of (node_at middle i)) = λ i reads. (
        let from = (below i reads).0 in
        let lt_i = (below i reads).1 in
        let i_lt : i < length middle = omega arith in
        (at i i_lt, agree-members t s (inputs_of (node_at middle i)) (λ j r. schema-same j (let lt_j = (first.own i j from i_lt r).1 in omega arith)))) in
        let low : IsLow t new x = low-stays s t middle new x fed sound.low in
        record {
          once = ap (λ y. repeats (inputs_of y)) (at m lt) ∙ sound.once;
          whole = ap (is_void frames) (at m lt) ∙ sound.whole;
          faultless = ap (fault_with false frames t m) (at m lt) ∙ fault-agree false frames t s m x same ∙ sound.faultless;
          low = subst (IsLow t new) (sym (at m lt)) low;
        }

    -- what was added to what was added
    pub both-sound : length old ≤ length middle → AreSound frames middle new → AreSound frames old new
    both-sound le second = record {
      own = λ m i above below reads. (
          let split : (m < length middle) ⊎ (length middle ≤ m) → (length old ≤ i) × (i < m) = elim [
            | inl l ↦ first.own m i above l (sym (reads-same m i l) ∙ reads)
            | inr g ↦ (let h = second.own m i g below reads in let from = h.0 in (omega arith, h.1))
          ] in split (cases_lt m (length middle)));
      apart = λ m j i above less below reads. (
          let split : (m < length middle) ⊎ (length middle ≤ m) → has_input new i j ≡ false = elim [
            | inl l ↦ (let j_lt : j < length middle = omega arith in reads-same j i j_lt ∙ first.apart m j i above less l (sym (reads-same m i l) ∙ reads))
            | inr g ↦ (
                let from = (second.own m i g below reads).0 in
                let inner : (j < length middle) ⊎ (length middle ≤ j) → has_input new i j ≡ false = elim [
                  | inl l ↦ never (has_input new i j) (λ r. (let lt = (first.own j i above l (sym (reads-same j i l) ∙ r)).1 in absurd (omega arith)))
                  | inr h ↦ second.apart m j i h less below reads
                ] in inner (cases_lt j (length middle)))
          ] in split (cases_lt m (length middle)));
      each = λ m above below. (
          let split : (m < length middle) ⊎ (length middle ≤ m) → IsSoundNode frames new m = elim [
            | inl l ↦ each-stays m above l
            | inr g ↦ second.each m g below
          ] in split (cases_lt m (length middle)));
    }

  -- a free number is so still, where what was added reads its own
  pub free-stays : (k : ℕ) → IsFree old middle k → AreSound frames middle new → IsFree old new k
  free-stays k free second = record {
    fresh = free.fresh;
    there = (let a = free.there in let b = longer in omega arith);
    unread = λ m above below. (
        let split : (m < length middle) ⊎ (length middle ≤ m) → has_input new k m ≡ false = elim [
          | inl l ↦ reads-same m k l ∙ free.unread m above l
          | inr g ↦ never (has_input new k m) (λ r. (let from = (second.own m k g below r).0 in let lt = free.there in absurd (omega arith)))
        ] in split (cases_lt m (length middle)));
  }

  -- the last number is free
  pub last-free : (k : ℕ) → length old ≤ length middle → length middle ≤ k → suc k ≡ length new → AreSound frames old new → IsFree old new k
  last-free k le from last sound = record {
    fresh = omega arith;
    there = omega arith;
    unread = λ m above below. never (has_input new k m) (λ r. (let lt = (sound.own m k above below r).1 in absurd (omega arith)));
  }

-- ---- one node more

pub at-free : (P : ℕ → Type 0) (ks : List ℕ) (i : ℕ) → AllByRecursion P ks → member i ks ≡ true → P i
at-free P [] i all m = absurd (let no_ : false ≡ true = m in cc)
at-free P (k ∷ ks) i all m =
    let split : (b : Bool) → eqb k i ≡ b → (b || member i ks) ≡ true → P i = elim [
      | true ↦ λ e h. subst P ((Decides-eqb k i).0 e) all.0
      | false ↦ λ e h. at-free P ks i all.1 h
    ] in split (eqb k i) refl m

module _ (frames : List Table) (old new : List Node) (x : Node) (ks : List ℕ) (sound : AreSound frames old new) (le : length old ≤ length new) (free : AllByRecursion (IsFree old new) ks) (inputs : inputs_of x ≡ ks) where
  one : length (new ++ x ∷ []) ≡ suc (length new)
  one = (let e = length-append new (x ∷ []) in let z : length (x ∷ []) ≡ 1 = refl in omega arith)

  more : Grows new (new ++ x ∷ [])
  more = record { more = x ∷ []; grown = refl }

  read-by : (i : ℕ) → has_input (new ++ x ∷ []) i (length new) ≡ member i ks
  read-by i = ap (λ y. member i (inputs_of y)) (node-new new x []) ∙ ap (member i) inputs

  pub one-sound : IsSoundNode frames (new ++ x ∷ []) (length new) → AreSound frames old (new ++ x ∷ [])
  one-sound own_sound = record {
    own = λ m i above below reads. (
        let split : (m < length new) ⊎ (length new ≤ m) → (length old ≤ i) × (i < m) = elim [
          | inl l ↦ sound.own m i above l (sym (reads-same frames old new (new ++ x ∷ []) more m i l) ∙ reads)
          | inr g ↦ (
              let is_last : length new ≡ m = (let e = one in omega arith) in
              let f = at-free (IsFree old new) ks i free (sym (read-by i) ∙ ap (has_input (new ++ x ∷ []) i) is_last ∙ reads) in
              let there = f.there in (f.fresh, omega arith))
        ] in split (cases_lt m (length new)));
    apart = λ m j i above less below reads. (
        let split : (m < length new) ⊎ (length new ≤ m) → has_input (new ++ x ∷ []) i j ≡ false = elim [
          | inl l ↦ (let j_lt : j < length new = omega arith in reads-same frames old new (new ++ x ∷ []) more j i j_lt ∙ sound.apart m j i above less l (sym (reads-same frames old new (new ++ x ∷ []) more m i l) ∙ reads))
          | inr g ↦ (
              let is_last : length new ≡ m = (let e = one in omega arith) in
              let f = at-free (IsFree old new) ks i free (sym (read-by i) ∙ ap (has_input (new ++ x ∷ []) i) is_last ∙ reads) in
              let j_lt : j < length new = (let e = one in omega arith) in
              reads-same frames old new (new ++ x ∷ []) more j i j_lt ∙ f.unread j above j_lt)
        ] in split (cases_lt m (length new)));
    each = λ m above below. (
        let split : (m < length new) ⊎ (length new ≤ m) → IsSoundNode frames (new ++ x ∷ []) m = elim [
          | inl l ↦ each-stays frames old new (new ++ x ∷ []) more sound m above l
          | inr g ↦ subst (IsSoundNode frames (new ++ x ∷ [])) (let e = one in omega arith) own_sound
        ] in split (cases_lt m (length new)));
  }
