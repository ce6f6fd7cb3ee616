-- Byte strings of which a byte decides the order, whatever follows them.
use Rattle.std.proofs.Common.{◌≡◌, ℕ, zero, suc, ◌+◌, ◌*◌, ◌/◌, ◌%◌, ◌^◌, ◌<◌, ◌≤◌, List, [], ◌∷◌, ◌++◌, get_or, map, drop, refl, ap, sym, ◌∙◌, subst, arith}
use Rattle.std.specs.Int.{byte_at, bytes_low_first, bytes_high_first}
use Rattle.std.specs.Ordering.{nat_cmp, ordering_then, ordering_reverse, MatchOrdering}
use Rattle.std.specs.Cmp.{nat_cmp_is, ranks}
use Rattle.std.specs.Cmp.Lexicographic.{slice_cmp}
use Rattle.std.specs.declared.cmp.Ordering.{Ordering}
use Rattle.std.specs.declared.cmp.Ordering.TheVariants.{Less, Equal, Greater}
use Rattle.std.proofs.Math.Nat.{div-add-mod, add-mul-mod_self_left, mod-eq_of_lt, mod-lt, mul-add, mul_assoc, mul-le-mul_left, pow-suc, div-one}
use Rattle.pipe_column.specs.Native.{IsBytes}
use Rattle.pipe_rows.specs.Ordered.{complement, ended_bytes}

-- the two are the same, or the first byte in which they differ decides
pub data Decided : Ordering → List ℕ → List ℕ → Type 0 where
  ends : Decided Equal [] []
  less : {x y : ℕ} {p q : List ℕ} → x < y → Decided Less (x ∷ p) (y ∷ q)
  same : {x : ℕ} {o : Ordering} {p q : List ℕ} → Decided o p q → Decided o (x ∷ p) (x ∷ q)
  greater : {x y : ℕ} {p q : List ℕ} → y < x → Decided Greater (x ∷ p) (y ∷ q)

less_is : (x y : ℕ) → x < y → nat_cmp x y ≡ Less
less_is x y h = sym (nat_cmp_is x y Less h)

same_is : (x : ℕ) → nat_cmp x x ≡ Equal
same_is x = sym (nat_cmp_is x x Equal refl)

greater_is : (x y : ℕ) → y < x → nat_cmp x y ≡ Greater
greater_is x y h = sym (nat_cmp_is x y Greater h)

-- what follows counts only where they are the same
pub decided_cmp : (o : Ordering) (p q x y : List ℕ) → Decided o p q → slice_cmp nat_cmp (p ++ x) (q ++ y) ≡ ordering_then o (slice_cmp nat_cmp x y)
decided_cmp _ _ _ x y ends = refl
decided_cmp _ _ _ x y (less {x = a} {y = b} h) = rw (less_is a b h) refl
decided_cmp _ _ _ x y (same {x = a} {o = o} {p = p} {q = q} d) = rw (same_is a) (decided_cmp o p q x y d)
decided_cmp _ _ _ x y (greater {x = a} {y = b} h) = rw (greater_is a b h) refl

-- complementing the bytes turns the order round
pub decided_complement : (o : Ordering) (p q : List ℕ) → Decided o p q → IsBytes p → IsBytes q → Decided (ordering_reverse o) (map complement p) (map complement q)
decided_complement _ _ _ ends hp hq = ends
decided_complement _ _ _ (less {x = a} {y = b} h) hp hq = greater (let below = hq.0 in omega arith)
decided_complement _ _ _ (same {x = a} {o = o} {p = p} {q = q} d) hp hq = same (decided_complement o p q d hp.1 hq.1)
decided_complement _ _ _ (greater {x = a} {y = b} h) hp hq = less (let below = hp.0 in omega arith)

-- the two are the same exactly where they tie, and then what follows is the same
pub decided_apart : (o : Ordering) (p q x y : List ℕ) → Decided o p q → p ++ x ≡ q ++ y → (o ≡ Equal) × (x ≡ y)
decided_apart _ _ _ x y ends e = (refl, e)
decided_apart _ _ _ x y (less {x = a} {y = b} h) e = let heads : a ≡ b = cc in absurd (omega arith)
decided_apart _ _ _ x y (same {x = a} {o = o} {p = p} {q = q} d) e = decided_apart o p q x y d (ap (drop 1) e)
decided_apart _ _ _ x y (greater {x = a} {y = b} h) e = let heads : a ≡ b = cc in absurd (omega arith)

pub decided_as : (o o' : Ordering) (p q : List ℕ) → o' ≡ o → Decided o p q → Decided o' p q
decided_as o o' p q e d = rw e d

-- ---- numbers, highest byte first

-- the lowest digits of a number: the highest of them, and the others
low_digits : (n p : ℕ) → 0 < p → n % (p * 256) ≡ p * (n / p % 256) + n % p
low_digits n p h =
    let q : ℕ = n / p in
    let whole : p * q + n % p ≡ n = div-add-mod n p in
    let parts : p * q ≡ p * 256 * (q / 256) + p * (q % 256) =
    ap (λ z. p * z) (sym (div-add-mod q 256)) ∙ mul-add p (256 * (q / 256)) (q % 256) ∙ ap (λ z. z + p * (q % 256)) (sym (mul_assoc p 256 (q / 256))) in
    let again : n ≡ p * (q % 256) + n % p + p * 256 * (q / 256) = omega arith in
    let small : q % 256 ≤ 255 = omega arith in
    let most : p * (q % 256) ≤ p * 255 = mul-le-mul_left p small in
    let rest : n % p < p = mod-lt n h in
    let below : p * (q % 256) + n % p < p * 256 = omega arith in
    ap (λ z. z % (p * 256)) again ∙ add-mul-mod_self_left (p * (q % 256) + n % p) (p * 256) (q / 256) ∙ mod-eq_of_lt below

power_pos : (k : ℕ) → 0 < 256 ^ k
power_pos zero = omega arith
power_pos (suc k) = let below = power_pos k in rw (pow-suc 256 k) (omega arith)

byte_is : (k n : ℕ) → byte_at k n ≡ n / 256 ^ k % 256
byte_is zero n = ap (λ z. z % 256) (sym (div-one n))
byte_is (suc k) n = refl

pub more_digits : (k n : ℕ) → n % 256 ^ suc k ≡ 256 ^ k * byte_at k n + n % 256 ^ k
more_digits k n = rw (pow-suc 256 k, byte_is k n) (low_digits n (256 ^ k) (power_pos k))

-- ---- numbers, lowest byte first

-- bytes tell the lowest digits of their number, whatever follows
low_apart : (i k n m : ℕ) (x y : List ℕ) → n % 256 ^ i ≡ m % 256 ^ i → bytes_low_first i k n ++ x ≡ bytes_low_first i k m ++ y → (n % 256 ^ (i + k) ≡ m % 256 ^ (i + k)) × (x ≡ y)
low_apart i zero n m x y h e = let same : i + 0 ≡ i = omega arith in (rw same h, e)
low_apart i (suc k) n m x y h e =
    let head : byte_at i n ≡ byte_at i m = ap (λ l. get_or l 0 0) e in
    let further : n % 256 ^ suc i ≡ m % 256 ^ suc i = more_digits i n ∙ ap (λ b. 256 ^ i * b + n % 256 ^ i) head ∙ ap (λ r. 256 ^ i * byte_at i m + r) h ∙ sym (more_digits i m) in
    let both = low_apart (suc i) k n m x y further (ap (drop 1) e) in
    let same : i + suc k ≡ suc i + k = omega arith in
    (rw same both.0, both.1)

pub number_apart : (k n m : ℕ) (x y : List ℕ) → n < 256 ^ k → m < 256 ^ k → bytes_low_first 0 k n ++ x ≡ bytes_low_first 0 k m ++ y → (n ≡ m) × (x ≡ y)
number_apart k n m x y hn hm e =
    let both = low_apart 0 k n m x y (omega arith) e in
    let same : 0 + k ≡ k = omega arith in
    let digits : n % 256 ^ k ≡ m % 256 ^ k = rw same at both.0 in
    (sym (mod-eq_of_lt hn) ∙ digits ∙ mod-eq_of_lt hm, both.1)

-- ---- numbers compared

-- numbers compare as what is left of them without what they share
shared_cmp : (c x y : ℕ) → nat_cmp (c + x) (c + y) ≡ nat_cmp x y
shared_cmp c x y =
    let split : (o : Ordering) → MatchOrdering o (x < y) (x ≡ y) (y < x) → MatchOrdering o (c + x < c + y) (c + x ≡ c + y) (c + y < c + x) =
    elim [ Less ↦ λ h. omega arith | Equal ↦ λ h. omega arith | Greater ↦ λ h. omega arith ]
    in sym (nat_cmp_is (c + x) (c + y) (nat_cmp x y) (split (nat_cmp x y) (ranks x y)))

-- a higher digit decides
higher_digit : (p a b x y : ℕ) → a < b → x < p → p * a + x < p * b + y
higher_digit p a b x y h g =
    let step : p * (a + 1) ≤ p * b = mul-le-mul_left p (omega arith) in
    let one_more : p * (a + 1) ≡ p * a + p = rw (mul-add p a 1) (omega arith) in omega arith

pub numbers_decided : (k n m : ℕ) → Decided (nat_cmp (n % 256 ^ k) (m % 256 ^ k)) (bytes_high_first k n) (bytes_high_first k m)
numbers_decided zero n m = decided_as Equal (nat_cmp (n % 256 ^ zero) (m % 256 ^ zero)) [] [] (sym (nat_cmp_is (n % 256 ^ zero) (m % 256 ^ zero) Equal (omega arith))) ends
numbers_decided (suc k) n m =
    let p : ℕ = 256 ^ k in
    let a : ℕ = byte_at k n in
    let b : ℕ = byte_at k m in
    let split : (o : Ordering) → MatchOrdering o (a < b) (a ≡ b) (b < a) → Decided (nat_cmp (p * a + n % p) (p * b + m % p)) (a ∷ bytes_high_first k n) (b ∷ bytes_high_first k m) =
    elim [
      | Less ↦ λ h. decided_as Less (nat_cmp (p * a + n % p) (p * b + m % p)) (a ∷ bytes_high_first k n) (b ∷ bytes_high_first k m) (less_is (p * a + n % p) (p * b + m % p) (higher_digit p a b (n % p) (m % p) h (mod-lt n (power_pos k)))) (less h)
      | Equal ↦ λ h. (let D : ℕ → Type 0 = λ c. Decided (nat_cmp (p * a + n % p) (p * c + m % p)) (a ∷ bytes_high_first k n) (c ∷ bytes_high_first k m) in
          subst D h (decided_as (nat_cmp (n % p) (m % p)) (nat_cmp (p * a + n % p) (p * a + m % p)) (a ∷ bytes_high_first k n) (a ∷ bytes_high_first k m) (shared_cmp (p * a) (n % p) (m % p)) (same (numbers_decided k n m))))
      | Greater ↦ λ h. decided_as Greater (nat_cmp (p * a + n % p) (p * b + m % p)) (a ∷ bytes_high_first k n) (b ∷ bytes_high_first k m) (greater_is (p * a + n % p) (p * b + m % p) (higher_digit p b a (m % p) (n % p) h (mod-lt m (power_pos k)))) (greater h)
    ]
    in rw (more_digits k n, more_digits k m) (split (nat_cmp a b) (ranks a b))

-- ---- texts

pub texts_decided : (s t : List ℕ) → Decided (slice_cmp nat_cmp s t) (ended_bytes s) (ended_bytes t)
texts_decided [] [] = same (same ends)
texts_decided [] (zero ∷ t) = same (less (omega arith))
texts_decided [] (suc b ∷ t) = less (omega arith)
texts_decided (zero ∷ s) [] = same (greater (omega arith))
texts_decided (suc a ∷ s) [] = greater (omega arith)
texts_decided (zero ∷ s) (zero ∷ t) = same (same (texts_decided s t))
texts_decided (zero ∷ s) (suc b ∷ t) = rw (less_is 0 (suc b) (omega arith)) (less {x = 0} {y = suc b} (omega arith))
texts_decided (suc a ∷ s) (zero ∷ t) = rw (greater_is (suc a) 0 (omega arith)) (greater {x = suc a} {y = 0} (omega arith))
texts_decided (suc a ∷ s) (suc b ∷ t) =
    let split : (o : Ordering) → MatchOrdering o (suc a < suc b) (suc a ≡ suc b) (suc b < suc a) → Decided (ordering_then o (slice_cmp nat_cmp s t)) (suc a ∷ ended_bytes s) (suc b ∷ ended_bytes t) =
    elim [
      | Less ↦ λ h. less h
      | Equal ↦ λ h. (let D : ℕ → Type 0 = λ c. Decided (slice_cmp nat_cmp s t) (suc a ∷ ended_bytes s) (c ∷ ended_bytes t) in subst D h (same (texts_decided s t)))
      | Greater ↦ λ h. greater h
    ]
    in split (nat_cmp (suc a) (suc b)) (ranks (suc a) (suc b))
