-- Marking inputs as read, one after another.
use Rattle.std.proofs.Common.{◌≡◌, ℕ, zero, suc, ◌+◌, ◌<◌, Bool, true, false, eqb, List, [], ◌∷◌, length, set, refl, ap, sym, ◌∙◌, arith}
use Rattle.std.specs.Prelude.{◌||◌, nat_le}
use Rattle.std.specs.List.{list_any, range_with_len}
use Rattle.std.proofs.Math.Bool.{or-true, or-false}
use Rattle.pipe_plan.specs.Node.{Node}
use Rattle.pipe_plan.specs.Faults.{repeats, is_reader, is_read_below}
use Rattle.pipe_check.specs.Checking.{is_marked, is_misread, is_read_after}
use Rattle.std.proofs.lemmas.Bool.Decides.{Decides-eqb}
use Rattle.pipe_check.proofs.Walks.{different}
use Rattle.pipe_check.proofs.Found.{marked-set, or-assoc, four}

-- an input that isn't smaller
pub not_smaller : (read : List Bool) (n x : ℕ) (xs : List ℕ) → nat_le n x ≡ true → is_misread read n (x ∷ xs) ≡ true
not_smaller read n x xs e = rw e refl

or-last : (a b c : Bool) → ((a || b) || (true || c)) ≡ true
or-last a b c = or-true (a || b)

-- an input that was read
pub read_before : (read : List Bool) (n x : ℕ) (xs : List ℕ) → is_marked read x ≡ true → is_misread read n (x ∷ xs) ≡ true
read_before read n x xs e = rw e (or-last (list_any (nat_le n) (x ∷ xs)) (repeats (x ∷ xs)) (list_any (is_marked read) xs))

flip : (x y : ℕ) → eqb x y ≡ eqb y x
flip x y =
    let split : (b : Bool) → eqb x y ≡ b → b ≡ eqb y x = elim [
      | true ↦ λ e. (let same : y ≡ x = sym ((Decides-eqb x y).0 e) in sym ((Decides-eqb y x).1 same))
      | false ↦ λ e. sym (different y x (λ same. (let yes : eqb x y ≡ true = (Decides-eqb x y).1 (sym same) in cc)))
    ]
    in split (eqb x y) refl

any-set : (read : List Bool) (x : ℕ) (xs : List ℕ) → x < length read → list_any (is_marked (set read x true)) xs ≡ (list_any (is_marked read) xs || list_any (λ m. eqb m x) xs)
any-set read x [] lt = refl
any-set read x (y ∷ ys) lt =
    let here = marked-set read x y lt in
    let more = any-set read x ys lt in
    ap (λ b. b || list_any (is_marked (set read x true)) ys) (here ∙ ap (λ b. is_marked read y || b) (flip x y))
    ∙ ap (λ b. (is_marked read y || eqb y x) || b) more
    ∙ four (is_marked read y) (eqb y x) (list_any (is_marked read) ys) (list_any (λ m. eqb m x) ys)

ors : (a b c m : Bool) → ((a || b) || (c || m)) ≡ ((a || (m || b)) || c)
ors true b c m = refl
ors false true true true = refl
ors false true true false = refl
ors false true false true = refl
ors false true false false = refl
ors false false true true = refl
ors false false true false = refl
ors false false false true = refl
ors false false false false = refl

-- an input that is marked now
pub marked_now : (read : List Bool) (n x : ℕ) (xs : List ℕ) → x < length read → nat_le n x ≡ false → is_marked read x ≡ false → is_misread (set read x true) n xs ≡ is_misread read n (x ∷ xs)
marked_now read n x xs lt a b =
    let more = any-set read x xs lt in
    ap (λ c. (list_any (nat_le n) xs || repeats xs) || c) more
    ∙ ors (list_any (nat_le n) xs) (repeats xs) (list_any (is_marked read) xs) (list_any (λ m. eqb m x) xs)
    ∙ sym (rw (a, b) refl)

-- what is marked in the end is the same
pub read_now : (read : List Bool) (x : ℕ) (xs : List ℕ) (i : ℕ) → x < length read → is_read_after (set read x true) xs i ≡ is_read_after read (x ∷ xs) i
read_now read x xs i lt =
    ap (λ b. b || list_any (λ m. eqb m i) xs) (marked-set read x i lt) ∙ or-assoc (is_marked read i) (eqb x i) (list_any (λ m. eqb m i) xs)

pub ruleset read_rules = (not_smaller, read_before, marked_now)

-- ---- the nodes, one after another

any-more : (p : ℕ → Bool) (a n : ℕ) → list_any p (range_with_len a (suc n)) ≡ (list_any p (range_with_len a n) || p (a + n))
any-more p a zero = or-false (p a) ∙ ap p (let e : a ≡ a + zero = omega arith in e)
any-more p a (suc n) =
    ap (λ b. p a || b) (any-more p (a + 1) n)
    ∙ sym (or-assoc (p a) (list_any p (range_with_len (a + 1) n)) (p (a + 1 + n)))
    ∙ ap (λ m. list_any p (range_with_len a (suc n)) || p m) (let e : a + 1 + n ≡ a + suc n = omega arith in e)

-- one more reader
pub reader-more : (nodes : List Node) (root n i : ℕ) → is_read_below nodes root (n + 1) i ≡ (is_read_below nodes root n i || is_reader nodes root i n)
reader-more nodes root n i =
    let next : n + 1 ≡ suc n = omega arith in
    let zero_is : 0 + n ≡ n = omega arith in
    ap (λ m. list_any (is_reader nodes root i) (range_with_len 0 m)) next
    ∙ any-more (is_reader nodes root i) 0 n
    ∙ ap (λ m. list_any (is_reader nodes root i) (range_with_len 0 n) || is_reader nodes root i m) zero_is
