-- Lanes with a seat and without.
use Rattle.std.specs.Prelude.{◌≡◌, Some, None}
use Rattle.atomic_table.specs.Seated.{TableId}
use Rattle.pipe_chain.specs.Claims.{SeatClaims, fresh_claimant}
use Rattle.pipe_run.specs.declared.lane.Lane.{Lane}

-- a seat that drew nothing
abbrev pub IsFreshOf : TableId → SeatClaims → Type 0
IsFreshOf table seat = seat ≡ fresh_claimant table

-- a lane with such a seat, and one without a seat
abbrev pub seated : {O K : Type 0} → TableId → Lane O K → Lane O K
seated table lane = record lane { seat = Some (fresh_claimant table) }

abbrev pub unseated : {O K : Type 0} → Lane O K → Lane O K
unseated lane = record lane { seat = None }
