-- The rule of the claims: what holds between any two steps, and what each step tells the seat that
-- takes it.
use Rattle.std.specs.Prelude.{◌≡◌, ℕ, ◌+◌, ◌-◌, ◌*◌, ◌<◌, ◌≤◌, ◌^◌, List, [], ◌∷◌, ◌++◌, length}
use Rattle.std.specs.List.{range_with_len}
use mathlib.Core.Option.{some}
use lib.ListN.{get_elem?}
use Rattle.atomic_table.specs.Table.{State, Me, Step}
use Rattle.pipe_chain.specs.Sums.{total}
use Rattle.pipe_chain.specs.Claims.{claim_limit}
use Rattle.pipe_chain.specs.declared.claim_rule.ClaimView.{ClaimView}

abbrev pub claim_view : ℕ → List ℕ → ClaimView
claim_view parts drawn = record { parts = parts; drawn = drawn }

-- the first seat has the parts of all seats
abbrev pub whole_claim : ℕ → ClaimView
whole_claim seats = claim_view seats []

-- that of a seat that was joined to another
abbrev pub spent_claim : ClaimView
spent_claim = claim_view 0 []

-- what is left where one part was split off
abbrev pub less_one_claim : ClaimView → ClaimView
less_one_claim v = claim_view (v.parts - 1) v.drawn

abbrev pub one_claim : ClaimView → ClaimView
one_claim v = claim_view 1 []

abbrev pub joined_claims : ClaimView → ClaimView → ClaimView
joined_claims v w = claim_view (v.parts + w.parts) (v.drawn ++ w.drawn)

abbrev pub claim_parts : ClaimView → ℕ
claim_parts v = v.parts

abbrev pub draws_of : ClaimView → ℕ
draws_of v = length v.drawn

abbrev pub drawn_weight : (ℕ → ℕ) → ClaimView → ℕ
drawn_weight weight v = total weight v.drawn

-- Word 0 is 0, and word 1 is the number of all draws. Each number below it stands in one view,
-- once, and no other number in any
pub record ClaimsHold (seats : ℕ) (s : State (Unit {0}) ClaimView) : Type 0 where
  pub small : seats < 2 ^ 32
  pub next : ℕ
  pub words : s.words ≡ 0 ∷ next ∷ []
  pub parts : total claim_parts s.views ≡ seats
  pub few : (j : ℕ) (v : ClaimView) → get_elem? s.views j ≡ some v →
      length v.drawn ≤ claim_limit * v.parts
  pub count : total draws_of s.views ≡ next
  pub drawn : (weight : ℕ → ℕ) →
      total (drawn_weight weight) s.views ≡ total weight (range_with_len 0 next)

-- a load that makes a seat
abbrev pub EnteredClaims : Step (Unit {0}) → Me (Unit {0}) ClaimView → ℕ → Me (Unit {0}) ClaimView →
    Type 0
EnteredClaims step before found after = after.0 ≡ spent_claim

-- a claim: the number found is drawn, and it isn't below the number of the seat's own draws
abbrev pub DrewNumber : Step (Unit {0}) → Me (Unit {0}) ClaimView → ℕ → Me (Unit {0}) ClaimView →
    Type 0
DrewNumber step before found after =
    (after ≡ (claim_view before.0.parts (before.0.drawn ++ found ∷ []), before.1))
    × (length before.0.drawn ≤ found)
