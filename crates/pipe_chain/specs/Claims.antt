-- Claims and their seats, as clauses see them.
use Rattle.std.specs.Prelude.{◌≡◌, ℕ, List, [], ◌∷◌, ◌++◌, flat_map, replicate}
use Rattle.atomic_table.specs.Seated.{TableId}

-- which claims they are, and how many seats they have
pub record SharedClaims : Type 0 where
  pub table : TableId
  pub seats : ℕ

-- a seat and the numbers that it drew
pub record SeatClaims : Type 0 where
  pub table : TableId
  pub drawn : List ℕ

-- a seat that has drawn nothing
abbrev pub fresh_claimant : TableId → SeatClaims
fresh_claimant table = record { table = table; drawn = [] }

abbrev pub fresh_claimants : TableId → ℕ → List SeatClaims
fresh_claimants table count = replicate count (fresh_claimant table)

-- the seat after it drew the number
abbrev pub after_claim : SeatClaims → ℕ → SeatClaims
after_claim seat number = record { table = seat.table; drawn = seat.drawn ++ number ∷ [] }

abbrev pub IsClaimantOf : TableId → SeatClaims → Type 0
IsClaimantOf table seat = seat.table ≡ table

abbrev pub drawn_by : SeatClaims → List ℕ
drawn_by seat = seat.drawn

-- all numbers that the seats drew
abbrev pub all_drawn : List SeatClaims → List ℕ
all_drawn seats = flat_map drawn_by seats

-- the most claims that a seat may make
abbrev pub claim_limit : ℕ
claim_limit = 4294967295
