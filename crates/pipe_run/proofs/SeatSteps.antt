-- Seats that are handed back.
use Rattle.std.proofs.Common.{◌≡◌, zero, suc, List, [], ◌∷◌, ◌++◌, length, ap, sym, ◌∙◌, subst, arith, append-nil}
use Rattle.std.specs.List.{All}
use Rattle.std.proofs.lemmas.List.Concat.{flat_map-append}
use Rattle.std.proofs.lemmas.List.Elements.{All-append}
use Rattle.atomic_table.specs.Seated.{TableId}
use Rattle.pipe_chain.specs.Claims.{SeatClaims, IsClaimantOf, drawn_by, all_drawn}
use Rattle.pipe_run.specs.declared.lane.Lane.{Lane}
use Rattle.pipe_run.specs.Claimed.{IsSeated}

module _ {O K : Type 0} where
  pub head_seated : (table : TableId) (lanes rest : List (Lane O K)) (lane : Lane O K) → lanes ≡ lane ∷ rest → All (IsSeated table) lanes → IsSeated table lane
  head_seated table lanes rest lane e h = subst (λ (l : List (Lane O K)). All (IsSeated table) l) e h 0 lane (omega arith)

  pub tail_seated : (table : TableId) (lanes rest : List (Lane O K)) (lane : Lane O K) → lanes ≡ lane ∷ rest → All (IsSeated table) lanes → All (IsSeated table) rest
  tail_seated table lanes rest lane e h = λ i d less. subst (λ (l : List (Lane O K)). All (IsSeated table) l) e h (suc i) d (omega (arith, less))

pub own_pushed : (table : TableId) (xs ys : List SeatClaims) (seat : SeatClaims) → ys ≡ xs ++ seat ∷ [] → All (IsClaimantOf table) xs → seat.table ≡ table → All (IsClaimantOf table) ys
own_pushed table xs ys seat e h is = subst (λ (l : List SeatClaims). All (IsClaimantOf table) l) (sym e) (All-append (IsClaimantOf table) xs (seat ∷ []) h (one table seat is))
  where
    one : (table : TableId) (seat : SeatClaims) → seat.table ≡ table → All (IsClaimantOf table) (seat ∷ [])
    one table seat is zero d less = is
    one table seat is (suc i) d less = absurd (omega (arith, less))

pub drawn_pushed : (xs ys : List SeatClaims) (seat : SeatClaims) → ys ≡ xs ++ seat ∷ [] → all_drawn ys ≡ all_drawn xs ++ seat.drawn
drawn_pushed xs ys seat e = ap all_drawn e ∙ flat_map-append drawn_by xs (seat ∷ []) ∙ ap (λ l. all_drawn xs ++ l) (append-nil seat.drawn)

pub none_own : (table : TableId) (seats : List SeatClaims) → length seats ≡ 0 → All (IsClaimantOf table) seats
none_own table seats e = λ i d less. absurd (omega (arith, e, less))
