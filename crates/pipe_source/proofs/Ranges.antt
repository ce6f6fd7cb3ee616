-- What becomes of numbers in a row, and of the rows that they stand for.
use Rattle.std.proofs.Common.{◌≡◌, ℕ, zero, suc, ◌+◌, ◌<◌, ◌≤◌, List, [], ◌∷◌, ◌++◌, length, map, get_or, take, drop, replicate, refl, ap, sym, ◌∙◌, arith, drop-cons}
use Rattle.std.specs.List.{All, flat_map, range_with_len}
use Rattle.std.proofs.lemmas.List.{map-append}
use Rattle.std.proofs.lemmas.List.Elements.{All-append, All-replicate}
use Rattle.pipe_source.specs.Unpivots.{repeated}

-- numbers in a row from elsewhere, of which each gives the same
pub range-same : {X : Type 0} (f g : ℕ → List X) (a b n : ℕ) → ((i : ℕ) → i < n → f (a + i) ≡ g (b + i)) → flat_map f (range_with_len a n) ≡ flat_map g (range_with_len b n)
range-same f g a b zero same = refl
range-same f g a b (suc n) same =
    let start : (c : ℕ) → c ≡ c + 0 = λ c. omega arith in
    let next : (c i : ℕ) → c + 1 + i ≡ c + (i + 1) = λ c i. omega arith in
    let first : f a ≡ g b = ap f (start a) ∙ same 0 (omega arith) ∙ ap g (sym (start b)) in
    let others = range-same f g (a + 1) (b + 1) n (λ i less. ap f (next a i) ∙ same (i + 1) (omega arith) ∙ ap g (sym (next b i))) in
    ap (λ l. l ++ flat_map f (range_with_len (a + 1) n)) first ∙ ap (λ l. g b ++ l) others

pub flat-same : {X Y : Type 0} (f g : X → List Y) (xs : List X) → ((x : X) → f x ≡ g x) → flat_map f xs ≡ flat_map g xs
flat-same f g [] same = refl
flat-same f g (x ∷ xs) same =
    ap (λ l. l ++ flat_map f xs) (same x) ∙ ap (λ l. g x ++ l) (flat-same f g xs same)

pub map-flat : {X Y Z : Type 0} (h : Y → Z) (f : X → List Y) (xs : List X) → map h (flat_map f xs) ≡ flat_map (λ x. map h (f x)) xs
map-flat h f [] = refl
map-flat h f (x ∷ xs) = map-append h (f x) (flat_map f xs) ∙ ap (λ l. map h (f x) ++ l) (map-flat h f xs)

-- so many rows from a row on, by their places
pub part-range : {X Y : Type 0} (none : X) (f : X → List Y) (xs : List X) (from count : ℕ) → from + count ≤ length xs → flat_map f (take count (drop from xs)) ≡ flat_map (λ i. f (get_or xs i none)) (range_with_len from count)
part-range none f xs from zero room = refl
part-range none f xs from (suc n) room =
    let here = drop-cons xs from none (omega arith) in
    let next : suc from ≡ from + 1 = omega arith in
    ap (λ l. flat_map f (take (suc n) l)) here
    ∙ ap (λ k. f (get_or xs from none) ++ flat_map f (take n (drop k xs))) next
    ∙ ap (λ l. f (get_or xs from none) ++ l) (part-range none f xs (from + 1) n (omega arith))

-- one number, as often as there are elements
pub map-replicate : {X Y : Type 0} (f : ℕ → Y) (i : ℕ) (xs : List X) → map f (replicate (length xs) i) ≡ map (λ x. f i) xs
map-replicate f i [] = refl
map-replicate f i (x ∷ xs) = ap (λ l. f i ∷ l) (map-replicate f i xs)

-- once each is the numbers themselves
pub once : (from count : ℕ) → repeated 1 from count ≡ range_with_len from count
once from zero = refl
once from (suc n) = ap (λ l. from ∷ l) (once (from + 1) n)

-- each is below the end
pub repeated-below : (times from count n : ℕ) → from + count ≤ n → All (λ i. i < n) (repeated times from count)
repeated-below times from zero n room = λ k d less. absurd (let no : k < 0 = less in omega arith)
repeated-below times from (suc c) n room =
    All-append (λ i. i < n) (replicate times from) (repeated times (from + 1) c)
    (All-replicate (λ i. i < n) times from (omega arith))
    (repeated-below times (from + 1) c n (omega arith))
