-- The blocks in an order of two workers hold each row once.
use Rattle.std.proofs.Common.{◌≡◌, ◌≤◌, ◌<◌, ℕ, zero, suc, ◌+◌, ◌-◌, ◌*◌, ◌/◌, ◌%◌, Bool, true, false, cond, List, [], ◌∷◌, ◌++◌, length, map, take, drop, filter, flat_map, get_or, sym, refl, ap, ap₂, ◌∙◌, arith, subst, suc-mul}
use Rattle.std.specs.List.{range_with_len}
use Rattle.std.proofs.lemmas.Bool.Decides.{nat_tests}
use Rattle.std.proofs.Math.Nat.{lt-div-mul-add}
use Rattle.std.proofs.lemmas.List.{drop_all, take-append-drop, take-map}
use Rattle.std.proofs.lemmas.List.Folds.{flat_map-map}
use Rattle.std.proofs.lemmas.Grind.{flat_map-append}
use Rattle.pipe_schema.proofs.Weights.{Same-from_bag, SameBag, SameBag-flat_map, SameBag-from_equal, SameBag-split, SameBag-sym, SameBag-trans}
use Rattle.pipe_schema.specs.Rows.{Row, Same}
use Rattle.pipe_stream.specs.Blocks.{IsBlockOrder, block_count, block_of_list, block_text, in_blocks, is_of}

-- a number is even or odd
even_not_odd : (b : ℕ) → is_of false b ≡ true → is_of true b ≡ false
even_not_odd b e = grind (arith, nat_tests)

else_odd : (b : ℕ) → is_of false b ≡ false → is_of true b ≡ true
else_odd b e = grind (arith, nat_tests)

parity_by : (n : ℕ) (b : Bool) → is_of false n ≡ b → cond b false true ≡ is_of true n
parity_by n true e = sym (even_not_odd n e)
parity_by n false e = sym (else_odd n e)

parity : (n : ℕ) → cond (is_of false n) false true ≡ is_of true n
parity n = parity_by n (is_of false n) refl

both_parts : (order : List ℕ) → SameBag order (filter (is_of false) order ++ filter (is_of true) order)
both_parts order =
    SameBag-trans (SameBag-split (is_of false) order)
    (SameBag-from_equal (ap (λ (q : ℕ → Bool). filter (is_of false) order ++ filter q order) (λ i n. parity n i)))

-- an order has each block once
blocks_once : (count : ℕ) (order : List ℕ) → IsBlockOrder count order → SameBag order (range_with_len 0 count)
blocks_once count order h =
    let all : count - 0 ≡ count = omega arith in
    let whole : filter (is_of false) order ++ filter (is_of true) order ≡ filter (is_of false) (range_with_len 0 count) ++ filter (is_of true) (range_with_len 0 count)
    = ap₂ (λ a b. a ++ b) h.even h.odd ∙ ap (λ n. filter (is_of false) (range_with_len 0 n) ++ filter (is_of true) (range_with_len 0 n)) all in
    SameBag-trans (both_parts order) (SameBag-trans (SameBag-from_equal whole) (SameBag-sym (both_parts (range_with_len 0 count))))

drop-drop : {X : Type 0} (a b c : ℕ) (xs : List X) → a + b ≡ c → drop b (drop a xs) ≡ drop c xs
drop-drop zero b c xs e = let same : b ≡ c = omega (arith, e) in ap (λ n. drop n xs) same
drop-drop (suc a) b zero xs e = absurd (omega (arith, e))
drop-drop (suc a) b (suc c) [] e = drop_all b [] (omega arith)
drop-drop (suc a) b (suc c) (x ∷ xs) e = drop-drop a b c xs (omega (arith, e))

next_block : {X : Type 0} (list : List X) (rows number : ℕ) → block_of_list list rows number ++ drop ((number + 1) * rows) list ≡ drop (number * rows) list
next_block list rows number =
    let e : (number + 1) * rows ≡ number * rows + rows = (let f : number + 1 ≡ suc number = omega arith in ap (λ n. n * rows) f) ∙ suc-mul number rows in
    ap (λ n. block_of_list list rows number ++ drop n list) e
    ∙ ap (λ l. block_of_list list rows number ++ l) (sym (drop-drop (number * rows) rows (number * rows + rows) list refl))
    ∙ take-append-drop rows (drop (number * rows) list)

blocks_on : {X : Type 0} (list : List X) (rows count : ℕ) → length list ≤ count * rows → (n number : ℕ) → number + n ≡ count
    → flat_map (block_of_list list rows) (range_with_len number n) ≡ drop (number * rows) list
blocks_on list rows count h zero number e =
    let same : number ≡ count = omega (arith, e) in
    sym (drop_all (number * rows) list (subst (λ c. length list ≤ c * rows) (sym same) h))
blocks_on list rows count h (suc n) number e =
    ap (λ l. block_of_list list rows number ++ l) (blocks_on list rows count h n (number + 1) (omega (arith, e)))
    ∙ next_block list rows number

-- there are blocks enough
blocks_reach : (height rows : ℕ) → 0 < rows → height ≤ block_count height rows * rows
blocks_reach height rows some = let k = lt-div-mul-add {a = height + (rows - 1)} {b = rows} some in omega (arith, k, some)

-- the elements of all blocks, in any such order, are those of the list
pub blocks_are_all : {X : Type 0} (list : List X) (rows : ℕ) (order : List ℕ) → 0 < rows → IsBlockOrder (block_count (length list) rows) order → SameBag (in_blocks list rows order) list
blocks_are_all list rows order some h =
    let count : ℕ = block_count (length list) rows in
    let none : 0 * rows ≡ 0 = omega arith in
    SameBag-trans (SameBag-flat_map (block_of_list list rows) (blocks_once count order h))
    (SameBag-from_equal (blocks_on list rows count (blocks_reach (length list) rows some) count 0 (omega arith) ∙ ap (λ n. drop n list) none))

-- ---- the lines of a block are those of its rows

shifted : {X : Type 0} (f : ℕ → X) (a n : ℕ) → map f (range_with_len (suc a) n) ≡ map (λ i. f (suc i)) (range_with_len a n)
shifted f a zero = refl
shifted f a (suc n) =
    let e : suc a + 1 ≡ suc (a + 1) = omega arith in
    ap (λ k. f (suc a) ∷ map f (range_with_len k n)) e ∙ ap (λ l. f (suc a) ∷ l) (shifted f (a + 1) n)

from_place : {X : Type 0} (d : X) (list : List X) (a n : ℕ) → n ≡ length list - a → map (λ i. get_or list i d) (range_with_len a n) ≡ drop a list
from_place d [] a n e =
    let none : n ≡ 0 = omega (arith, e) in
    ap (λ k. map (λ i. get_or [] i d) (range_with_len a k)) none ∙ sym (drop_all a [] (omega arith))
from_place d (x ∷ list) zero zero e = absurd (omega (arith, e))
from_place d (x ∷ list) zero (suc n) e =
    let one : 0 + 1 ≡ suc 0 = omega arith in
    ap (λ k. x ∷ map (λ i. get_or (x ∷ list) i d) (range_with_len k n)) one
    ∙ ap (λ l. x ∷ l) (shifted (λ i. get_or (x ∷ list) i d) 0 n ∙ from_place d list zero n (omega (arith, e)))
from_place d (x ∷ list) (suc a) n e = shifted (λ i. get_or (x ∷ list) i d) a n ∙ from_place d list a n (omega (arith, e))

block_lines : {X : Type 0} (d : X) (line : X → List ℕ) (list : List X) (rows number : ℕ)
    → block_text (λ i. line (get_or list i d)) (length list) rows number ≡ flat_map line (block_of_list list rows number)
block_lines d line list rows number =
    let places : List ℕ = range_with_len (number * rows) (length list - number * rows) in
    sym (flat_map-map line (λ i. get_or list i d) (take rows places))
    ∙ ap (λ l. flat_map line l) (sym (take-map (λ i. get_or list i d) rows places) ∙ ap (λ l. take rows l) (from_place d list (number * rows) (length list - number * rows) refl))

-- the texts of the blocks in an order are the lines of the rows of these blocks
pub texts_are_lines : {X : Type 0} (d : X) (line : X → List ℕ) (list : List X) (rows : ℕ) (order : List ℕ)
    → flat_map (block_text (λ i. line (get_or list i d)) (length list) rows) order ≡ flat_map line (in_blocks list rows order)
texts_are_lines d line list rows [] = refl
texts_are_lines d line list rows (number ∷ order) =
    ap₂ (λ a b. a ++ b) (block_lines d line list rows number) (texts_are_lines d line list rows order)
    ∙ sym (flat_map-append line (block_of_list list rows number) (in_blocks list rows order))

pub same_rows : (list : List Row) (rows : ℕ) (order : List ℕ) → 0 < rows → IsBlockOrder (block_count (length list) rows) order → Same (in_blocks list rows order) list
same_rows list rows order some h = Same-from_bag (blocks_are_all list rows order some h)
