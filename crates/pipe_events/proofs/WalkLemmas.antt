-- Laws of one walk upwards over the nodes.
use Rattle.std.proofs.Common.{◌≡◌, ℕ, zero, suc, ◌<◌, ◌≤◌, Bool, true, false, cond, eqb, refl, ap, sym, ◌∙◌, subst, arith}
use Rattle.std.proofs.lemmas.Bool.Decides.{Decides-eqb}
use Rattle.pipe_plan.specs.Walk.{walk}

-- what holds of each node where it holds of those below it
pub walk_all : {X : Type 0} (P : ℕ → X → Type 0) (none : X) (f : (ℕ → X) → ℕ → X) → ((n : ℕ) → P n none) → ((k : ℕ) (at : ℕ → X) → ((n : ℕ) → P n (at n)) → P k (f at k)) → (k n : ℕ) → P n (walk none f k n)
walk_all P none f base step zero n = base n
walk_all P none f base step (suc k) n =
    let ih = walk_all P none f base step k in
    let split : (b : Bool) → eqb n k ≡ b → P n (cond b (f (walk none f k) k) (walk none f k n)) =
    elim [ true ↦ λ e. subst (λ m. P m (f (walk none f k) k)) (sym ((Decides-eqb n k).0 e)) (step k (walk none f k) ih) | false ↦ λ _. ih n ]
    in split (eqb n k) refl

pub Decides-no : (n m : ℕ) → (n ≡ m → ⊥) → eqb n m ≡ false
Decides-no n m apart =
    let split : (b : Bool) → eqb n m ≡ b → b ≡ false =
    elim [ true ↦ λ e. absurd (apart ((Decides-eqb n m).0 e)) | false ↦ λ _. refl ]
    in split (eqb n m) refl

-- of two walks
pub walk_both : {X Y : Type 0} (R : ℕ → X → Y → Type 0) (x : X) (y : Y) (f : (ℕ → X) → ℕ → X) (g : (ℕ → Y) → ℕ → Y) → ((n : ℕ) → R n x y) → ((k : ℕ) (a : ℕ → X) (b : ℕ → Y) → ((n : ℕ) → R n (a n) (b n)) → R k (f a k) (g b k)) → (k n : ℕ) → R n (walk x f k n) (walk y g k n)
walk_both R x y f g base step zero n = base n
walk_both R x y f g base step (suc k) n =
    let ih = walk_both R x y f g base step k in
    let split : (b : Bool) → eqb n k ≡ b → R n (cond b (f (walk x f k) k) (walk x f k n)) (cond b (g (walk y g k) k) (walk y g k n)) =
    elim [ true ↦ λ e. subst (λ m. R m (f (walk x f k) k) (g (walk y g k) k)) (sym ((Decides-eqb n k).0 e)) (step k (walk x f k) (walk y g k) ih) | false ↦ λ _. ih n ]
    in split (eqb n k) refl

-- of three
pub walk_three : {X Y Z : Type 0} (R : ℕ → X → Y → Z → Type 0) (x : X) (y : Y) (z : Z) (f : (ℕ → X) → ℕ → X) (g : (ℕ → Y) → ℕ → Y) (h : (ℕ → Z) → ℕ → Z) → ((n : ℕ) → R n x y z) → ((k : ℕ) (a : ℕ → X) (b : ℕ → Y) (c : ℕ → Z) → ((n : ℕ) → R n (a n) (b n) (c n)) → R k (f a k) (g b k) (h c k)) → (k n : ℕ) → R n (walk x f k n) (walk y g k n) (walk z h k n)
walk_three R x y z f g h base step zero n = base n
walk_three R x y z f g h base step (suc k) n =
    let ih = walk_three R x y z f g h base step k in
    let split : (b : Bool) → eqb n k ≡ b → R n (cond b (f (walk x f k) k) (walk x f k n)) (cond b (g (walk y g k) k) (walk y g k n)) (cond b (h (walk z h k) k) (walk z h k n)) =
    elim [ true ↦ λ e. subst (λ m. R m (f (walk x f k) k) (g (walk y g k) k) (h (walk z h k) k)) (sym ((Decides-eqb n k).0 e)) (step k (walk x f k) (walk y g k) (walk z h k) ih) | false ↦ λ _. ih n ]
    in split (eqb n k) refl

-- a value stays once its node is passed
pub walk_stays : {X : Type 0} (none : X) (f : (ℕ → X) → ℕ → X) (m k n : ℕ) → n < k → k ≤ m → walk none f m n ≡ walk none f k n
walk_stays none f zero k n h le = absurd (omega arith)
walk_stays none f (suc m) k n h le =
    let split : (b : Bool) → eqb k (suc m) ≡ b → walk none f (suc m) n ≡ walk none f k n =
    elim [
      | true ↦ λ e. ap (λ j. walk none f j n) (sym ((Decides-eqb k (suc m)).0 e))
      | false ↦ λ e.
          let below : k ≤ m = (let apart : k ≡ suc m → ⊥ = λ same. (let yes = (Decides-eqb k (suc m)).1 same in cc) in omega arith) in
          let no : eqb n m ≡ false = Decides-no n m (omega arith) in
          rw no (walk_stays none f m k n h below)
    ]
    in split (eqb k (suc m)) refl

-- the equation of a walk
pub walk_is : {X : Type 0} (none : X) (f : (ℕ → X) → ℕ → X) (m k : ℕ) → k < m → walk none f m k ≡ f (walk none f k) k
walk_is none f m k lt =
    let self : eqb k k ≡ true = (Decides-eqb k k).1 refl in
    walk_stays none f m (suc k) k (omega arith) lt ∙ rw self refl
