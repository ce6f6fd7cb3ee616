-- Sinks that have names, and their places in the table.
use Rattle.std.proofs.Common.{◌≡◌, ◌≢◌, ℕ, ◌+◌, ◌*◌, ◌<◌, suc, Bool, true, false, ◌||◌, cond, eqb, List, [], ◌∷◌, ◌++◌, Option, Some, None, length, get_or, set, refl, sym, ap, subst, ◌∙◌, arith}
use Rattle.std.proofs.lemmas.Bool.Decides.{Decides-eqb}
use Rattle.std.proofs.lemmas.List.{get_or-set_same, get_or-set_other, length-set, length_push}
use Rattle.std.proofs.lemmas.List.Sums.{sum_by-set}
use Rattle.std.proofs.lemmas.Bool.{ltb-true}
use Rattle.std.specs.Prelude.{is_none, count_by}
use Rattle.pipe_driver.specs.declared.branch.SinkAt.{SinkAt}
use Rattle.pipe_driver.specs.declared.branch.SinkAt.TheVariants as at
use Rattle.pipe_driver.specs.Branches.{eq_sink, is_named, number_of, add_named}
use Rattle.pipe_driver.specs.Climbing.{slot_of, is_sink_in, number_in, AreNumbers}

pub itself : (n : ℕ) → eqb n n ≡ true
itself n = (Decides-eqb n n).1 refl

pub eq_sink-itself : (a : SinkAt) → eq_sink a a ≡ true
eq_sink-itself at.Ordered = refl
eq_sink-itself (at.Sort n) = itself n
eq_sink-itself (at.Build n) = itself n

pub eq_sink-same : (a b : SinkAt) → eq_sink a b ≡ true → a ≡ b
eq_sink-same at.Ordered at.Ordered h = refl
eq_sink-same at.Ordered (at.Sort m) h = cc
eq_sink-same at.Ordered (at.Build m) h = cc
eq_sink-same (at.Sort n) at.Ordered h = cc
eq_sink-same (at.Sort n) (at.Sort m) h = ap at.Sort ((Decides-eqb n m).0 h)
eq_sink-same (at.Sort n) (at.Build m) h = cc
eq_sink-same (at.Build n) at.Ordered h = cc
eq_sink-same (at.Build n) (at.Sort m) h = cc
eq_sink-same (at.Build n) (at.Build m) h = ap at.Build ((Decides-eqb n m).0 h)

pub slots-apart : (a b : SinkAt) → slot_of a ≡ slot_of b → a ≡ b
slots-apart at.Ordered at.Ordered e = refl
slots-apart at.Ordered (at.Sort m) e = absurd (omega arith)
slots-apart at.Ordered (at.Build m) e = absurd (omega arith)
slots-apart (at.Sort n) at.Ordered e = absurd (omega arith)
slots-apart (at.Sort n) (at.Sort m) e = ap at.Sort (omega arith)
slots-apart (at.Sort n) (at.Build m) e = absurd (omega arith)
slots-apart (at.Build n) at.Ordered e = absurd (omega arith)
slots-apart (at.Build n) (at.Sort m) e = absurd (omega arith)
slots-apart (at.Build n) (at.Build m) e = ap at.Build (omega arith)

-- what is said at both truth values of a test
pub by_test : (Q : Type 0) (b : Bool) → (b ≡ true → Q) → (b ≡ false → Q) → Q
by_test Q true f g = f refl
by_test Q false f g = g refl

pub number-unnamed : (sinks : List SinkAt) (at : SinkAt) → is_named sinks at ≡ false → number_of sinks at ≡ length sinks
number-unnamed [] at h = refl
number-unnamed (s ∷ ss) at h =
    let split : (b : Bool) → (b || is_named ss at) ≡ false → cond b 0 (suc (number_of ss at)) ≡ suc (length ss) =
    elim [ true ↦ λ g. cc | false ↦ λ g. ap suc (number-unnamed ss at g) ] in
    split (eq_sink at s) h

pub named-push : (sinks : List SinkAt) (x at : SinkAt) → is_named (sinks ++ x ∷ []) at ≡ (is_named sinks at || eq_sink at x)
named-push [] x at =
    let split : (b : Bool) → (b || false) ≡ b = elim [ true ↦ refl | false ↦ refl ] in split (eq_sink at x)
named-push (s ∷ ss) x at =
    let split : (b : Bool) → (b || is_named (ss ++ x ∷ []) at) ≡ ((b || is_named ss at) || eq_sink at x) =
    elim [ true ↦ refl | false ↦ named-push ss x at ] in
    split (eq_sink at s)

pub number-push : (sinks : List SinkAt) (x at : SinkAt) → is_named sinks at ≡ true → number_of (sinks ++ x ∷ []) at ≡ number_of sinks at
number-push [] x at h = cc
number-push (s ∷ ss) x at h =
    let split : (b : Bool) → (b || is_named ss at) ≡ true → cond b 0 (suc (number_of (ss ++ x ∷ []) at)) ≡ cond b 0 (suc (number_of ss at)) =
    elim [ true ↦ λ g. refl | false ↦ λ g. ap suc (number-push ss x at g) ] in
    split (eq_sink at s) h

pub number-new : (sinks : List SinkAt) (x : SinkAt) → is_named sinks x ≡ false → number_of (sinks ++ x ∷ []) x ≡ length sinks
number-new [] x h = rw (eq_sink-itself x) refl
number-new (s ∷ ss) x h =
    let split : (b : Bool) → (b || is_named ss x) ≡ false → cond b 0 (suc (number_of (ss ++ x ∷ []) x)) ≡ suc (length ss) =
    elim [ true ↦ λ g. cc | false ↦ λ g. ap suc (number-new ss x g) ] in
    split (eq_sink x s) h

pub number_in-new : (sinks : List SinkAt) (x : SinkAt) → is_named sinks x ≡ false → number_in (sinks ++ x ∷ []) x ≡ Some (length sinks)
number_in-new sinks x h =
    let named : is_named (sinks ++ x ∷ []) x ≡ true = named-push sinks x x ∙ ap (λ b. b || eq_sink x x) h ∙ eq_sink-itself x in
    rw named (ap Some (number-new sinks x h))

pub number_in-other : (sinks : List SinkAt) (x at : SinkAt) → eq_sink at x ≡ false → number_in (sinks ++ x ∷ []) at ≡ number_in sinks at
number_in-other sinks x at h =
    let or-false : (b : Bool) → (b || false) ≡ b = elim [ true ↦ refl | false ↦ refl ] in
    let named : is_named (sinks ++ x ∷ []) at ≡ is_named sinks at = named-push sinks x at ∙ ap (λ b. is_named sinks at || b) h ∙ or-false (is_named sinks at) in
    by_test (number_in (sinks ++ x ∷ []) at ≡ number_in sinks at) (is_named sinks at)
    (λ e. (let more : is_named (sinks ++ x ∷ []) at ≡ true = named ∙ e in rw (more, e) (ap Some (number-push sinks x at e))))
    (λ e. (let more : is_named (sinks ++ x ∷ []) at ≡ false = named ∙ e in rw (more, e) refl))

-- a sink that wasn't named is, once its place in the table has its number
pub numbers-put : (sinks : List SinkAt) (numbers : List (Option ℕ)) (x : SinkAt) → slot_of x < length numbers → is_named sinks x ≡ false
    → AreNumbers sinks numbers → AreNumbers (sinks ++ x ∷ []) (set numbers (slot_of x) (Some (length sinks)))
numbers-put sinks numbers x inside new known at =
    let s = slot_of x in
    let v = Some (length sinks) in
    by_test (get_or (set numbers s v) (slot_of at) None ≡ number_in (sinks ++ x ∷ []) at) (eq_sink at x)
    (λ e. (let same : at ≡ x = eq_sink-same at x e in
    let P : SinkAt → Type 0 = λ a. get_or (set numbers s v) (slot_of a) None ≡ number_in (sinks ++ x ∷ []) a in
    subst P (sym same) (get_or-set_same numbers s v None inside ∙ sym (number_in-new sinks x new))))
    (λ e. (let apart : slot_of at ≢ s = λ f. (let same : at ≡ x = slots-apart at x f in
    let yes : eq_sink at x ≡ true = ap (λ a. eq_sink a x) same ∙ eq_sink-itself x in
    let no_ : false ≡ true = sym e ∙ yes in cc) in
    get_or-set_other numbers s (slot_of at) v None apart ∙ known at ∙ sym (number_in-other sinks x at e)))

-- by the table: a sink is named exactly where it has a number there, and that is its number
pub named-found : (sinks : List SinkAt) (numbers : List (Option ℕ)) (at : SinkAt) (n : ℕ) → AreNumbers sinks numbers → get_or numbers (slot_of at) None ≡ Some n → (is_named sinks at ≡ true) × (number_of sinks at ≡ n)
named-found sinks numbers at n known found =
    let split : (b : Bool) → is_named sinks at ≡ b → cond b (Some (number_of sinks at)) None ≡ Some n → (is_named sinks at ≡ true) × (number_of sinks at ≡ n) = elim [
      | true ↦ λ e g. (e, cc)
      | false ↦ λ e g. cc
    ] in
    split (is_named sinks at) refl (sym (known at) ∙ found)

pub unnamed-found : (sinks : List SinkAt) (numbers : List (Option ℕ)) (at : SinkAt) → AreNumbers sinks numbers → get_or numbers (slot_of at) None ≡ None → is_named sinks at ≡ false
unnamed-found sinks numbers at known found =
    let split : (b : Bool) → is_named sinks at ≡ b → cond b (Some (number_of sinks at)) None ≡ None → is_named sinks at ≡ false = elim [
      | true ↦ λ e g. cc
      | false ↦ λ e g. e
    ] in
    split (is_named sinks at) refl (sym (known at) ∙ found)

pub add_named-new : (sinks : List SinkAt) (at : SinkAt) → is_named sinks at ≡ false → add_named sinks at ≡ sinks ++ at ∷ []
add_named-new sinks at h = rw h refl

pub add_named-old : (sinks : List SinkAt) (at : SinkAt) → is_named sinks at ≡ true → add_named sinks at ≡ sinks
add_named-old sinks at h = rw h refl

pub slot-in : (nodes : ℕ) (at : SinkAt) → is_sink_in nodes at ≡ true → slot_of at < 2 * nodes + 1
slot-in nodes at.Ordered h = omega arith
slot-in nodes (at.Sort n) h = let lt : n < nodes = ltb-true n nodes h in omega arith
slot-in nodes (at.Build n) h = let lt : n < nodes = ltb-true n nodes h in omega arith

abbrev is_free : Option ℕ → ℕ
is_free = λ x. cond (is_none x) 1 0

free-less : (numbers : List (Option ℕ)) (slot n : ℕ) → slot < length numbers → get_or numbers slot None ≡ None → count_by is_none (set numbers slot (Some n)) + 1 ≡ count_by is_none numbers
free-less numbers slot n lt free =
    let one : is_free (get_or numbers slot None) ≡ 1 = ap is_free free in
    let e = sum_by-set is_free numbers slot (Some n) None lt in
    omega arith

-- what the table keeps, once a sink that wasn't named has its number
pub table-put : (nodes : ℕ) (sinks more : List SinkAt) (numbers : List (Option ℕ)) (at : SinkAt) (slot n : ℕ)
    → length numbers ≡ 2 * nodes + 1 → length sinks + count_by is_none numbers ≡ 2 * nodes + 1 → AreNumbers sinks numbers
    → slot ≡ slot_of at → is_sink_in nodes at ≡ true → get_or numbers slot None ≡ None → n ≡ length sinks → more ≡ sinks ++ at ∷ []
    → (length (set numbers slot (Some n)) ≡ 2 * nodes + 1) × (length more + count_by is_none (set numbers slot (Some n)) ≡ 2 * nodes + 1) × AreNumbers more (set numbers slot (Some n))
table-put nodes sinks more numbers at slot n sized counted known is_slot inside free is_n is_more =
    let s = slot_of at in
    let lt_at : s < length numbers = let h = slot-in nodes at inside in omega arith in
    let lt : slot < length numbers = omega arith in
    let fewer = free-less numbers slot n lt free in
    let longer : length more ≡ length sinks + 1 = ap length is_more ∙ length_push sinks at in
    let free_at : get_or numbers s None ≡ None = ap (λ k. get_or numbers k None) (sym is_slot) ∙ free in
    let put = numbers-put sinks numbers at lt_at (unnamed-found sinks numbers at known free_at) known in
    let P : List SinkAt → Type 0 = λ m. AreNumbers m (set numbers slot (Some n)) in
    let Q : ℕ → Type 0 = λ k. AreNumbers (sinks ++ at ∷ []) (set numbers k (Some n)) in
    let R : ℕ → Type 0 = λ k. AreNumbers (sinks ++ at ∷ []) (set numbers s (Some k)) in
    (length-set numbers slot (Some n) ∙ sized, omega arith, subst P (sym is_more) (subst Q (sym is_slot) (subst R (sym is_n) put)))

pub number-next : (sinks : List SinkAt) (numbers : List (Option ℕ)) (at : SinkAt) (slot n : ℕ) → AreNumbers sinks numbers → slot ≡ slot_of at → get_or numbers slot None ≡ None → n ≡ length sinks → n ≡ number_of sinks at
number-next sinks numbers at slot n known is_slot free is_n =
    let free_at : get_or numbers (slot_of at) None ≡ None = ap (λ k. get_or numbers k None) (sym is_slot) ∙ free in
    is_n ∙ sym (number-unnamed sinks at (unnamed-found sinks numbers at known free_at))
