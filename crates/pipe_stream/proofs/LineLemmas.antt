-- The lines of a block, row by row.
use Rattle.std.proofs.Common.{◌≡◌, ◌≤◌, ◌<◌, ℕ, zero, suc, ◌+◌, ◌-◌, ◌*◌, ◌/◌, List, [], ◌∷◌, ◌++◌, take, flat_map, sym, refl, ap, ◌∙◌, append_assoc, append-nil, arith, le-div_iff_mul-le, suc-mul, subst, le-mul_of_pos_right}
use Rattle.std.specs.List.{range_with_len}
use Rattle.pipe_stream.specs.Blocks.{block_count, block_text}

-- one more line
pub lines_next : (f : ℕ → List ℕ) (i to : ℕ) (text line all : List ℕ) → i < to → line ≡ f i → text ++ flat_map f (range_with_len i (to - i)) ≡ all
    → (text ++ line) ++ flat_map f (range_with_len (i + 1) (to - (i + 1))) ≡ all
lines_next f i to text line all h e k =
    append_assoc text line _ ∙ ap (λ l. text ++ (l ++ flat_map f (range_with_len (i + 1) (to - (i + 1))))) e
    ∙ sym (ap (λ n. text ++ flat_map f (range_with_len i n)) (let q : to - i ≡ suc (to - (i + 1)) = omega arith in q)) ∙ k

-- no line is left
pub lines_end : (f : ℕ → List ℕ) (i to : ℕ) (text all : List ℕ) → to ≤ i → text ++ flat_map f (range_with_len i (to - i)) ≡ all → text ≡ all
lines_end f i to text all h k =
    sym (append-nil text) ∙ sym (ap (λ n. text ++ flat_map f (range_with_len i n)) (let q : to - i ≡ 0 = omega arith in q)) ∙ k

-- fewer rows than a block has
pub places_whole : (rows from n : ℕ) → n < rows → range_with_len from n ≡ take rows (range_with_len from n)
places_whole zero from n h = absurd (omega arith)
places_whole (suc rows) from zero h = refl
places_whole (suc rows) from (suc n) h = ap (λ l. from ∷ l) (places_whole rows (from + 1) n (omega arith))

places_more : (rows from n : ℕ) → rows ≤ n → range_with_len from rows ≡ take rows (range_with_len from n)
places_more zero from n h = refl
places_more (suc rows) from zero h = absurd (omega arith)
places_more (suc rows) from (suc n) h = ap (λ l. from ∷ l) (places_more rows (from + 1) n (omega arith))

-- as many rows as a block has
pub places_rest : (rows from height : ℕ) → rows ≤ height - from → range_with_len from (from + rows - from) ≡ take rows (range_with_len from (height - from))
places_rest rows from height h = ap (λ n. range_with_len from n) (let q : from + rows - from ≡ rows = omega arith in q) ∙ places_more rows from (height - from) h

-- the lines of the rows are the text
pub whole_text : (f : ℕ → List ℕ) (height rows number to : ℕ) (text : List ℕ) → range_with_len (number * rows) (to - number * rows) ≡ take rows (range_with_len (number * rows) (height - number * rows))
    → text ≡ [] ++ flat_map f (range_with_len (number * rows) (to - number * rows)) → text ≡ block_text f height rows number
whole_text f height rows number to text e k = k ∙ ap (λ l. flat_map f l) e

-- a block begins before the last row
pub begins_within : (height rows number count : ℕ) → 0 < rows → count ≡ block_count height rows → number < count → number * rows < height
begins_within height rows number count some is h =
    let q : suc number ≤ (height + (rows - 1)) / rows = subst (λ c. suc number ≤ c) is h in
    let m : suc number * rows ≤ height + (rows - 1) = (le-div_iff_mul-le some).0 q in
    let e : suc number * rows ≡ number * rows + rows = suc-mul number rows in
    omega (arith, m, e, some)

-- there are no more blocks than rows
pub count_within : (height rows number count : ℕ) → 0 < rows → count ≡ block_count height rows → number < count → number < height
count_within height rows number count some is h =
    let l : number ≤ number * rows = le-mul_of_pos_right number some in
    let b = begins_within height rows number count some is h in
    omega (arith, l, b)
