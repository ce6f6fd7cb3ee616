-- Each kind of step on the claims keeps their rule.
use Rattle.std.proofs.Common.{◌≡◌, ◌≢◌, ℕ, zero, suc, ◌+◌, ◌*◌, ◌%◌, ◌^◌, ◌<◌, ◌≤◌, List, [], ◌∷◌, ◌++◌, length, get_or, set, refl, sym, ap, ◌∙◌, subst, ⊎_elim, arith, length-append, add-one}
use Rattle.std.specs.List.{range_with_len}
use Rattle.atomic_table.specs.Seated.{TableId}
use mathlib.Core.Option.{none, some, some-ne-none, some-injective}
use lib.ListN.{get_elem?}
use Rattle.atomic_table.specs.Table.{State, Me, Final, Seen, step, keeps, opening, Allows, Enters, Splits, Joins}
use Rattle.atomic_table.proofs.Lists.{at_set, at_snoc}
use Rattle.pipe_chain.specs.declared.claim_rule.ClaimView.{ClaimView}
use Rattle.pipe_chain.specs.Sums.{total}
use Rattle.pipe_chain.specs.Claims.{claim_limit, fresh_claimant, fresh_claimants}
use Rattle.pipe_chain.specs.ClaimRule.{claim_view, whole_claim, spent_claim, less_one_claim, one_claim, joined_claims, claim_parts, draws_of, drawn_weight, ClaimsHold, EnteredClaims, DrewNumber}
use Rattle.pipe_chain.proofs.SumLemmas.{total-append, total-set, one_within, two_within, total-alone, total_within, none_left, range_more}

abbrev St : Type 0
St = State (Unit {0}) ClaimView

-- no view drew more than its parts allow
abbrev Few : ClaimView → Type 0
Few v = length v.drawn ≤ claim_limit * v.parts

pub draws : (seats slots id : ℕ) (m : Me (Unit {0}) ClaimView) → length m.0.drawn < claim_limit → m.0.parts ≡ 1
    → Allows (ClaimsHold seats) slots id m 1 (λ n. (n + 1) % 2 ^ 64) (DrewNumber (step slots 1 1 0 none) m)
draws seats slots id m few whole s o len me top =
    let v : ClaimView = m.0 in
    let r : ℕ = o.next in
    let w : ClaimView = claim_view v.parts (v.drawn ++ r ∷ []) in
    let is : get_or s.words 1 0 ≡ r = ap (λ (l : List ℕ). get_or l 1 0) o.words in
    let bound : r ≤ claim_limit * seats = omega (arith, total_within draws_of claim_parts claim_limit s.views o.few, o.count, o.parts) in
    let more : (get_or s.words 1 0 + 1) % 2 ^ 64 ≡ suc r = omega (arith, is, bound, o.small) in (
      w,
      keeps,
      tt,
      record {
        small = o.small;
        next = suc r;
        words = ap (λ (l : List ℕ). set l 1 ((get_or s.words 1 0 + 1) % 2 ^ 64)) o.words ∙ ap (λ n. 0 ∷ n ∷ []) more;
        parts = omega (arith, total-set claim_parts s.views id v w me, o.parts);
        few = λ j u e. ⊎_elim (λ t. subst Few t.1 (omega (arith, length-append v.drawn (r ∷ []), whole, few))) (λ t. o.few j u t.1) (at_set s.views id j w u e);
        count = omega (arith, total-set draws_of s.views id v w me, length-append v.drawn (r ∷ []), o.count);
        drawn = λ f. omega (
          arith,
          total-set (drawn_weight f) s.views id v w me,
          total-append f v.drawn (r ∷ []),
          ap (total f) (range_more 0 r r (omega arith)),
          total-append f (range_with_len 0 r) (r ∷ []),
          o.drawn f,
        );
      },
      (rw is refl, omega (arith, is, one_within draws_of s.views id v me, o.count)),
    )

pub opens : (seats : ℕ) → seats < 2 ^ 32 → ClaimsHold seats (opening (0 ∷ 0 ∷ []) [] (whole_claim seats))
opens seats small = record {
  small = small;
  next = 0;
  words = refl;
  parts = omega arith;
  few = λ j v e. few_at j v e;
  count = omega arith;
  drawn = λ f. omega arith;
}
  where
    few_at : (j : ℕ) (v : ClaimView) → get_elem? (whole_claim seats ∷ []) j ≡ some v → Few v
    few_at zero v e = subst Few (some-injective _ _ e) (omega arith)
    few_at (suc j) v e = absurd (some-ne-none v (sym e))

pub enters : (seats slots : ℕ) (m : Me (Unit {0}) ClaimView) → Enters (ClaimsHold seats) slots 0 (λ n w. EnteredClaims (step slots 0 0 0 none) m n (w, []))
enters seats slots m s o len top = (
  spent_claim,
  record {
    small = o.small;
    next = o.next;
    words = o.words;
    parts = omega (arith, total-append claim_parts s.views (spent_claim ∷ []), o.parts);
    few = λ j u e. ⊎_elim (λ t. o.few j u t) (λ t. subst Few t (omega arith)) (at_snoc s.views spent_claim u j e);
    count = omega (arith, total-append draws_of s.views (spent_claim ∷ []), o.count);
    drawn = λ f. omega (arith, total-append (drawn_weight f) s.views (spent_claim ∷ []), o.drawn f);
  },
  refl,
)

pub splits : (seats id : ℕ) (v : ClaimView) → 0 < v.parts → v.drawn ≡ [] → Splits (ClaimsHold seats) id v (less_one_claim v) (one_claim v)
splits seats id v part no_draws s o me =
    let left : List ClaimView = set s.views id (less_one_claim v) in
    let new : List ClaimView = one_claim v ∷ [] in record {
      small = o.small;
      next = o.next;
      words = o.words;
      parts = omega (arith, total-append claim_parts left new, total-set claim_parts s.views id v (less_one_claim v) me, o.parts);
      few = λ j u e. ⊎_elim
          (λ there. ⊎_elim
          (λ t. subst Few t.1 (omega (arith, ap length no_draws)))
          (λ t. o.few j u t.1)
          (at_set s.views id j (less_one_claim v) u there))
          (λ same. subst Few same (omega arith))
          (at_snoc left (one_claim v) u j e);
      count = omega (arith, total-append draws_of left new, total-set draws_of s.views id v (less_one_claim v) me, o.count);
      drawn = λ f. omega (arith, total-append (drawn_weight f) left new, total-set (drawn_weight f) s.views id v (less_one_claim v) me, o.drawn f);
    }

pub joins : (seats id : ℕ) (v : ClaimView) (other : ℕ) (u : ClaimView) → Joins (ClaimsHold seats) id v other u (joined_claims v u) spent_claim
joins seats id v other u s o me apart there =
    let both : ClaimView = joined_claims v u in
    let mid : List ClaimView = set s.views id both in
    let theirs : get_elem? s.views other ≡ some u = ⊎_elim (λ t. absurd (apart t.0)) (λ t. t.1) (at_set s.views id other both u there) in record {
      small = o.small;
      next = o.next;
      words = o.words;
      parts = omega (arith, total-set claim_parts mid other u spent_claim there, total-set claim_parts s.views id v both me, o.parts);
      few = λ j x e. ⊎_elim
          (λ t. subst Few t.1 (omega arith))
          (λ t. ⊎_elim
          (λ t. subst Few t.1 (omega (arith, length-append v.drawn u.drawn, o.few id v me, o.few other u theirs)))
          (λ t. o.few j x t.1)
          (at_set s.views id j both x t.1))
          (at_set mid other j spent_claim x e);
      count = omega (arith, total-set draws_of mid other u spent_claim there, total-set draws_of s.views id v both me, length-append v.drawn u.drawn, o.count);
      drawn = λ f. omega (arith, total-set (drawn_weight f) mid other u spent_claim there, total-set (drawn_weight f) s.views id v both me, total-append f v.drawn u.drawn, o.drawn f);
    }

-- the seat with the parts of all seats drew the numbers below the word
pub closes : (seats id : ℕ) (v : ClaimView) (ws : List ℕ) (xs : List (Unit {0})) (n : ℕ) → Final (Seen (ClaimsHold seats) id v) ws xs → get_elem? ws 1 ≡ some n
    → v.parts ≡ seats → (f : ℕ → ℕ) → total f v.drawn ≡ total f (range_with_len 0 n)
closes seats id v ws xs n end word whole f =
    let s : St = end.0 in
    let o : ClaimsHold seats s = end.1.0 in
    let me : get_elem? s.views id ≡ some v = end.1.1 in
    let is : o.next ≡ n = some-injective o.next n (sym (ap (λ (l : List ℕ). get_elem? l 1) (sym end.2 ∙ o.words)) ∙ word) in
    let others : (j : ℕ) (u : ClaimView) → j ≢ id → get_elem? s.views j ≡ some u → u.drawn ≡ [] =
    λ j u apart there. none_left u.drawn (let p : u.parts ≡ 0 = omega (arith, two_within claim_parts s.views id j v u apart me there, o.parts) in omega (arith, o.few j u there)) in
    sym (total-alone (drawn_weight f) s.views id v me (λ j u apart there. ap (total f) (others j u apart there))) ∙ o.drawn f ∙ ap (λ i. total f (range_with_len 0 i)) is

pub one_more_claimant : (table : TableId) (n : ℕ) → fresh_claimants table (n + 1) ≡ fresh_claimants table n ++ fresh_claimant table ∷ []
one_more_claimant table n = ap (fresh_claimants table) (add-one n) ∙ at_end n
  where
    at_end : (n : ℕ) → fresh_claimants table (suc n) ≡ fresh_claimants table n ++ fresh_claimant table ∷ []
    at_end zero = refl
    at_end (suc n) = ap (λ l. fresh_claimant table ∷ l) (at_end n)
