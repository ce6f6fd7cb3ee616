-- The blocks of the two workers.
use Rattle.std.proofs.Common.{◌≡◌, ◌≤◌, ◌<◌, ℕ, zero, suc, ◌+◌, ◌-◌, ◌*◌, ◌%◌, ◌==◌, Bool, true, false, true≢false, not, List, [], ◌∷◌, ◌++◌, length, take, drop, map, filter, flat_map, cond, get_or, suc-ne-zero, ◌⊎◌, inl, inr, sym, refl, ap, ◌∙◌, subst, append_assoc, append-nil, arith}
use Rattle.std.specs.List.{range_with_len}
use Rattle.std.proofs.lemmas.List.Elements.{filter-append}
use Rattle.std.proofs.lemmas.Bool.{cases_lt}
use Rattle.std.proofs.lemmas.Grind.{flat_map-append}
use Rattle.pipe_stream.specs.Blocks.{blocks_from, is_of, IsBlockOrder}
use Rattle.pipe_stream.specs.Messages.{block_of, last_of, script}
use Rattle.pipe_stream.specs.declared.message.Message.{Message}
use Rattle.pipe_stream.specs.declared.message.News.{News}
use Rattle.pipe_stream.specs.declared.message.News.TheVariants as news

-- the last block has none behind it
pub blocks-end : (odd : Bool) (number count : ℕ) → count ≤ number → blocks_from odd number count ≡ []
blocks-end odd number count h = let e : count - number ≡ 0 = omega arith in ap (λ n. filter (is_of odd) (range_with_len number n)) e

-- a block that isn't the last has the others behind it
pub blocks-next : (odd : Bool) (number count : ℕ) → number < count
    → blocks_from odd number count ≡ cond (is_of odd number) (number ∷ blocks_from odd (number + 1) count) (blocks_from odd (number + 1) count)
blocks-next odd number count h =
    let e : count - number ≡ suc (count - (number + 1)) = omega arith in
    ap (λ n. filter (is_of odd) (range_with_len number n)) e

pub blocks-own : (odd : Bool) (number count : ℕ) → number < count → is_of odd number ≡ true → blocks_from odd number count ≡ number ∷ blocks_from odd (number + 1) count
blocks-own odd number count h e = blocks-next odd number count h ∙ ap (λ b. cond b (number ∷ blocks_from odd (number + 1) count) (blocks_from odd (number + 1) count)) e

pub blocks-other : (odd : Bool) (number count : ℕ) → number < count → is_of odd number ≡ false → blocks_from odd number count ≡ blocks_from odd (number + 1) count
blocks-other odd number count h e = blocks-next odd number count h ∙ ap (λ b. cond b (number ∷ blocks_from odd (number + 1) count) (blocks_from odd (number + 1) count)) e

-- what a worker sends from a block on
pub script-own : (text : ℕ → List ℕ) (count : ℕ) (odd : Bool) (number : ℕ) → number < count → is_of odd number ≡ true
    → script text count odd number ≡ block_of odd text number ∷ script text count odd (number + 1)
script-own text count odd number h e = ap (λ l. map (block_of odd text) l ++ last_of odd true ∷ []) (blocks-own odd number count h e)

pub script-other : (text : ℕ → List ℕ) (count : ℕ) (odd : Bool) (number : ℕ) → number < count → is_of odd number ≡ false → script text count odd number ≡ script text count odd (number + 1)
script-other text count odd number h e = ap (λ l. map (block_of odd text) l ++ last_of odd true ∷ []) (blocks-other odd number count h e)

pub script-end : (text : ℕ → List ℕ) (count : ℕ) (odd : Bool) (number : ℕ) → count ≤ number → script text count odd number ≡ last_of odd true ∷ []
script-end text count odd number h = ap (λ l. map (block_of odd text) l ++ last_of odd true ∷ []) (blocks-end odd number count h)

-- the first of the numbers that pass a test
record First (p : ℕ → Bool) (end b : ℕ) (rest : List ℕ) : Type 0 where
  pub passes : p b ≡ true
  pub within : b < end
  pub others : rest ≡ filter p (range_with_len (b + 1) (end - (b + 1)))

first_by : (p : ℕ → Bool) (n from end b : ℕ) (rest : List ℕ) → from + suc n ≡ end → (filter p (range_with_len (from + 1) n) ≡ b ∷ rest → First p end b rest) → (c : Bool) → p from ≡ c
    → cond c (from ∷ filter p (range_with_len (from + 1) n)) (filter p (range_with_len (from + 1) n)) ≡ b ∷ rest → First p end b rest
first_by p n from end b rest h later true c e =
    let same : from ≡ b = ap (λ l. get_or l 0 from) e in
    let left : n ≡ end - (from + 1) = omega (arith, h) in
    subst (λ x. First p end x rest) same record {
      passes = c;
      within = omega (arith, h);
      others = sym (ap (λ l. drop 1 l) e) ∙ ap (λ k. filter p (range_with_len (from + 1) k)) left;
    }
first_by p n from end b rest h later false c e = later e

first_of : (p : ℕ → Bool) (n from end b : ℕ) (rest : List ℕ) → from + n ≡ end → filter p (range_with_len from n) ≡ b ∷ rest → First p end b rest
first_of p zero from end b rest h e = absurd (suc-ne-zero _ (sym (ap length e)))
first_of p (suc n) from end b rest h e =
    first_by p n from end b rest h (λ k. first_of p n (from + 1) end b rest (omega arith) k) (p from) refl e

first_within : (odd : Bool) (number count b : ℕ) (rest : List ℕ) → blocks_from odd number count ≡ b ∷ rest → (number < count) ⊎ (count ≤ number) → (is_of odd b ≡ true) × (b < count) × (rest ≡ blocks_from odd (b + 1) count)
first_within odd number count b rest e (inl h) = let f = first_of (is_of odd) (count - number) number count b rest (omega arith) e in (f.passes, f.within, f.others)
first_within odd number count b rest e (inr h) = absurd (suc-ne-zero _ (sym (ap length (sym (blocks-end odd number count h) ∙ e))))

pub first_block : (odd : Bool) (number count b : ℕ) (rest : List ℕ) → blocks_from odd number count ≡ b ∷ rest → (is_of odd b ≡ true) × (b < count) × (rest ≡ blocks_from odd (b + 1) count)
first_block odd number count b rest e = first_within odd number count b rest e (cases_lt number count)
