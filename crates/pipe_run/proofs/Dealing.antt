-- Numbers that were claimed, and the chunks of these numbers.
use Rattle.std.proofs.Common.{◌≡◌, ℕ, zero, suc, ◌+◌, ◌-◌, ◌<◌, ◌≤◌, List, [], ◌∷◌, ◌++◌, length, map, take, cond, ltb, Bool, true, false, refl, ap, sym, ◌∙◌, arith, lt-ltb, le-ltb}
use Rattle.std.proofs.lemmas.Bool.{ltb-true, ltb-false}
use Rattle.std.specs.List.{flat_map, range_with_len}
use Rattle.std.proofs.lemmas.List.Concat.{flat_map-append}
use Rattle.pipe_schema.specs.Rows.{Row, Same, Within}
use Rattle.pipe_schema.specs.Weights.{total as rows_total}
use Rattle.pipe_schema.proofs.Weights.{total-flat_map, Same-from_bag}
use Rattle.pipe_ops.specs.declared.source.Morsel.{Morsel}
use Rattle.pipe_chain.specs.Sums.{total, SameItems}
use Rattle.pipe_chain.proofs.SumLemmas.{total-append}
use Rattle.pipe_schema.specs.declared.field.Field.{Field}
use Rattle.pipe_run.specs.Claimed.{morsel_rows, past, Lot, chunks_lot, parts_lot, entries_for_part, rows_of_lot}
use Rattle.pipe_run.specs.Dealt.{in_all, rows_of_all}
use Rattle.pipe_run.specs.Flushes.{rows_of_parts}
use Rattle.pipe_chain.proofs.Weighing.{within-by}
use Rattle.pipe_run.proofs.ClaimSteps.{rows-past, entries-past}

-- the numbers below an end
abbrev pub below : ℕ → List ℕ → List ℕ
below end [] = []
below end (n ∷ ns) = cond (ltb n end) (n ∷ below end ns) (below end ns)

abbrev capped : (ℕ → ℕ) → ℕ → ℕ → ℕ
capped w end n = cond (ltb n end) (w n) 0

total-below : (w : ℕ → ℕ) (end : ℕ) (ns : List ℕ) → total w (below end ns) ≡ total (capped w end) ns
total-below w end [] = refl
total-below w end (n ∷ ns) =
    elim (ltb n end) as (λ b. total w (cond b (n ∷ below end ns) (below end ns)) ≡ cond b (w n) 0 + total (capped w end) ns) [ true ↦ omega (arith, total-below w end ns) | false ↦ omega (arith, total-below w end ns) ]

total-in-all : (w : ℕ → ℕ) (end : ℕ) (nss : List (List ℕ)) → total w (in_all (map (below end) nss)) ≡ total (capped w end) (in_all nss)
total-in-all w end [] = refl
total-in-all w end (ns ∷ nss) = omega (arith, total-append w (below end ns) (in_all (map (below end) nss)), total-append (capped w end) ns (in_all nss), total-below w end ns, total-in-all w end nss)

-- a range in two parts
total-range : (w : ℕ → ℕ) (k j a : ℕ) → total w (range_with_len a (k + j)) ≡ total w (range_with_len a k) + total w (range_with_len (a + k) j)
total-range w zero j a =
    let e : a + 0 ≡ a = omega arith in
    let f : 0 + j ≡ j = omega arith in
    rw (e, f) (omega arith)
total-range w (suc k) j a =
    let e : suc k + j ≡ suc (k + j) = omega arith in
    let f : a + suc k ≡ a + 1 + k = omega arith in
    rw (e, f) (omega (arith, total-range w k j (a + 1)))

capped-below : (w : ℕ → ℕ) (end k a : ℕ) → a + k ≤ end → total (capped w end) (range_with_len a k) ≡ total w (range_with_len a k)
capped-below w end zero a h = refl
capped-below w end (suc k) a h =
    let e : capped w end a ≡ w a = ap (λ b. cond b (w a) 0) (lt-ltb a end (omega arith)) in
    omega (arith, e, capped-below w end k (a + 1) (omega arith))

capped-past : (w : ℕ → ℕ) (end k a : ℕ) → end ≤ a → total (capped w end) (range_with_len a k) ≡ 0
capped-past w end zero a h = refl
capped-past w end (suc k) a h =
    let e : capped w end a ≡ 0 = ap (λ b. cond b (w a) 0) (le-ltb a end h) in
    omega (arith, e, capped-past w end k (a + 1) (omega arith))

-- of numbers claimed once each those below an end are all below it
pub each-below : (nss : List (List ℕ)) (claimed end : ℕ) → SameItems (in_all nss) (range_with_len 0 claimed) → end ≤ claimed → SameItems (in_all (map (below end) nss)) (range_with_len 0 end)
each-below nss claimed end items h = λ w.
    let k : end + (claimed - end) ≡ claimed = omega arith in
    let parts = total-range (capped w end) end (claimed - end) 0 in
    omega (
      arith,
      total-in-all w end nss,
      items (capped w end),
      ap (λ n. total (capped w end) (range_with_len 0 n)) k,
      parts,
      capped-below w end end 0 (omega arith),
      capped-past w end (claimed - end) (0 + end) (omega arith),
    )

past-none : (end k a : ℕ) → a + k ≤ end → total (past end) (range_with_len a k) ≡ 0
past-none end zero a h = refl
past-none end (suc k) a h =
    let e : past end a ≡ 0 = ap (λ b. cond b 0 1) (lt-ltb a end (omega arith)) in
    omega (arith, e, past-none end k (a + 1) (omega arith))

-- where a number past the end was claimed, all below it were
pub all-claimed : (xs : List ℕ) (claimed end : ℕ) → SameItems xs (range_with_len 0 claimed) → 0 < total (past end) xs → end ≤ claimed
all-claimed xs claimed end items some =
    elim (ltb claimed end) as (λ b. ltb claimed end ≡ b → end ≤ claimed) [
      | true ↦ λ e. absurd (let less = ltb-true claimed end e in omega (arith, some, items (past end), past-none end claimed 0 (omega (arith, less))))
      | false ↦ λ e. ltb-false claimed end e
    ] refl

-- ---- the chunks of these numbers

take-all : {A : Type 0} (n : ℕ) (xs : List A) → length xs ≤ n → take n xs ≡ xs
take-all zero [] h = refl
take-all zero (x ∷ xs) h = absurd (omega arith)
take-all (suc n) [] h = refl
take-all (suc n) (x ∷ xs) h = ap (λ l. x ∷ l) (take-all n xs (omega arith))

module _ {A : Type 0} (f g : ℕ → List A) (step : (n : ℕ) → f (n + 1) ≡ g n) where
  flat-shift : (k a : ℕ) → flat_map f (range_with_len (a + 1) k) ≡ flat_map g (range_with_len a k)
  flat-shift zero a = refl
  flat-shift (suc k) a = rw (step a, flat-shift k (a + 1)) refl

rows-next : (m : Morsel) (ms : List Morsel) (n : ℕ) → morsel_rows (m ∷ ms) (n + 1) ≡ morsel_rows ms n
rows-next m ms n = let e : n + 1 ≡ suc n = omega arith in rw e refl

rows-none : (ns : List ℕ) → flat_map (morsel_rows []) ns ≡ []
rows-none [] = refl
rows-none (n ∷ ns) = rows-none ns

-- those of the first so many chunks
pub rows-first : (ms : List Morsel) (n : ℕ) → flat_map (morsel_rows ms) (range_with_len 0 n) ≡ rows_of_all (take n ms)
rows-first ms zero = refl
rows-first [] (suc n) = rows-none (range_with_len 0 (suc n))
rows-first (m ∷ ms) (suc n) = rw (flat-shift (morsel_rows (m ∷ ms)) (morsel_rows ms) (rows-next m ms) n 0, rows-first ms n) refl

one-total : (w : ℕ → ℕ) (xs : List ℕ) → total w xs ≡ rows_total w xs
one-total w [] = refl
one-total w (x ∷ xs) = omega (arith, one-total w xs)

-- numbers past the chunks stand for nothing
module _ {A : Type 0} (f : ℕ → List A) (end : ℕ) (none : (n : ℕ) → end ≤ n → f n ≡ []) where
  pub flat-below : (ns : List ℕ) → flat_map f (below end ns) ≡ flat_map f ns
  flat-below [] = refl
  flat-below (n ∷ ns) =
      elim (ltb n end) as (λ b. ltb n end ≡ b → flat_map f (cond b (n ∷ below end ns) (below end ns)) ≡ f n ++ flat_map f ns) [
        | true ↦ λ e. ap (λ l. f n ++ l) (flat-below ns)
        | false ↦ λ e. flat-below ns ∙ ap (λ l. l ++ flat_map f ns) (sym (none n (ltb-false n end e)))
      ] refl

pub rows-in-all : (f : ℕ → List Row) (ns : List ℕ) (nss : List (List ℕ)) → flat_map f (in_all (ns ∷ nss)) ≡ flat_map f ns ++ flat_map f (in_all nss)
rows-in-all f ns nss = flat_map-append f ns (in_all nss)

module _ (v : ℕ → ℕ) (end : ℕ) (none : (n : ℕ) → end ≤ n → v n ≡ 0) where
  light-past : (k a : ℕ) → end ≤ a → total v (range_with_len a k) ≡ 0
  light-past zero a h = refl
  light-past (suc k) a h = omega (arith, none a h, light-past k (a + 1) (omega arith))

  light-claimed : (claimed : ℕ) → end ≤ claimed → total v (range_with_len 0 claimed) ≡ total v (range_with_len 0 end)
  light-claimed claimed h =
      let k : end + (claimed - end) ≡ claimed = omega arith in
      omega (arith, ap (λ n. total v (range_with_len 0 n)) k, total-range v end (claimed - end) 0, light-past (claimed - end) (0 + end) (omega arith))

heavy-claimed : (v : ℕ → ℕ) (claimed end : ℕ) → claimed ≤ end → total v (range_with_len 0 claimed) ≤ total v (range_with_len 0 end)
heavy-claimed v claimed end h =
    let k : claimed + (end - claimed) ≡ end = omega arith in
    omega (arith, ap (λ n. total v (range_with_len 0 n)) k, total-range v claimed (end - claimed) 0)

-- where all numbers below an end were claimed, and no other stands for any row
module _ (f : ℕ → List Row) (end : ℕ) (none : (n : ℕ) → end ≤ n → f n ≡ []) (xs : List ℕ) (claimed : ℕ) (items : SameItems xs (range_with_len 0 claimed)) where
  weighs-claimed : (w : Row → ℕ) → rows_total w (flat_map f xs) ≡ total (λ n. rows_total w (f n)) (range_with_len 0 claimed)
  weighs-claimed w =
      let v = λ (n : ℕ). rows_total w (f n) in
      total-flat_map f w xs ∙ sym (one-total v xs) ∙ items v

  weighs-all : (w : Row → ℕ) → rows_total w (flat_map f (range_with_len 0 end)) ≡ total (λ n. rows_total w (f n)) (range_with_len 0 end)
  weighs-all w =
      let v = λ (n : ℕ). rows_total w (f n) in
      total-flat_map f w (range_with_len 0 end) ∙ sym (one-total v (range_with_len 0 end))

  pub rows-all : end ≤ claimed → Same (flat_map f xs) (flat_map f (range_with_len 0 end))
  rows-all h = Same-from_bag (record {
    sums = λ w.
        let v = λ (n : ℕ). rows_total w (f n) in
        weighs-claimed w ∙ light-claimed v end (λ n less. ap (rows_total w) (none n less)) claimed h ∙ sym (weighs-all w);
  })

  -- no more than all of them
  pub claimed-within : Within (flat_map f xs) (flat_map f (range_with_len 0 end))
  claimed-within = within-by (λ w.
      let v = λ (n : ℕ). rows_total w (f n) in
      elim (ltb claimed end) as (λ b. ltb claimed end ≡ b → rows_total w (flat_map f xs) ≤ rows_total w (flat_map f (range_with_len 0 end))) [
        | true ↦ λ e. omega (arith, weighs-claimed w, weighs-all w, heavy-claimed v claimed end (let less = ltb-true claimed end e in omega arith))
        | false ↦ λ e. omega (arith, weighs-claimed w, weighs-all w, light-claimed v end (λ n less. ap (rows_total w) (none n less)) claimed (ltb-false claimed end e))
      ] refl)

-- all chunks
pub chunks-rows : (ms : List Morsel) → rows_of_lot (chunks_lot ms) ≡ rows_of_all ms
chunks-rows ms = rows-first ms (length ms) ∙ ap rows_of_all (take-all (length ms) ms (omega arith))

-- numbers past the last stand for nothing
pub record IsLot (lot : Lot) : Type 0 where
  pub no_rows : (n : ℕ) → lot.count ≤ n → lot.rows n ≡ []
  pub no_entries : (n : ℕ) → lot.count ≤ n → lot.entries n ≡ []

pub chunks-are : (ms : List Morsel) → IsLot (chunks_lot ms)
chunks-are ms = record { no_rows = rows-past ms; no_entries = entries-past ms }

module _ {S : Type 0} (parts : S → ℕ) (part_of : S → ℕ → List Row) (from : List Field) (s : S) where
  pub parts-are : IsLot (parts_lot parts part_of from s)
  parts-are = record {
    no_rows = λ n less. ap (λ (b : Bool). cond b (part_of s n) []) (le-ltb n (parts s) less);
    no_entries = λ n less. ap (λ (b : Bool). cond b (entries_for_part n) []) (le-ltb n (parts s) less);
  }

  pub part-rows : (n : ℕ) → n < parts s → (parts_lot parts part_of from s).rows n ≡ part_of s n
  part-rows n less = ap (λ (b : Bool). cond b (part_of s n) []) (lt-ltb n (parts s) less)

  pub part-entries : (n : ℕ) → n < parts s → (parts_lot parts part_of from s).entries n ≡ entries_for_part n
  part-entries n less = ap (λ (b : Bool). cond b (entries_for_part n) []) (lt-ltb n (parts s) less)

  parts-from : (k a : ℕ) → a + k ≤ parts s → flat_map (parts_lot parts part_of from s).rows (range_with_len a k) ≡ flat_map (part_of s) (range_with_len a k)
  parts-from zero a h = refl
  parts-from (suc k) a h = rw (part-rows a (omega arith), parts-from k (a + 1) (omega arith)) refl

  -- all partitions
  pub parts-rows : rows_of_lot (parts_lot parts part_of from s) ≡ rows_of_parts parts part_of s
  parts-rows = parts-from (parts s) 0 (omega arith)
