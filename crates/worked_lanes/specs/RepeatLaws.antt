-- Rows one after another, so many times, are each row so many times.
use Rattle.std.proofs.Common.{◌≡◌, ℕ, zero, suc, ◌-◌, List, [], ◌∷◌, ◌++◌, refl, ap, sym, ◌∙◌, subst}
use Rattle.std.proofs.Math.Nat.{sub-zero}
use Rattle.std.specs.List.{flat_map}
use Rattle.std.proofs.lemmas.List.{map-id}
use Rattle.std.proofs.lemmas.List.Concat.{flat_map_single}
use Rattle.pipe_schema.specs.Rows.{Row, Same}
use Rattle.pipe_schema.proofs.Weights.{SameBag, SameBag-refl, SameBag-sym, SameBag-trans, SameBag-append, SameBag-from_rows, SameBag-pieces_apart, Same-from_bag}
use Rattle.worked_lanes.specs.Repeats.{times_of, copies}

none_of : (rows : List Row) → [] ≡ flat_map (times_of 0) rows
none_of [] = refl
none_of (row ∷ rows) = none_of rows

bags : (n : ℕ) (rows : List Row) → SameBag (copies n rows) (flat_map (times_of n) rows)
bags zero rows = subst (λ (l : List Row). SameBag [] l) (none_of rows) (SameBag-refl [])
bags (suc n) rows =
    let single : flat_map (λ row. row ∷ []) rows ≡ rows = flat_map_single (λ row. row) rows ∙ map-id rows in
    let apart = SameBag-pieces_apart (λ row. row ∷ []) (times_of n) rows in
    let parts = subst (λ (l : List Row). SameBag (flat_map (times_of (suc n)) rows) (l ++ flat_map (times_of n) rows)) single apart in
    SameBag-trans (SameBag-append (SameBag-refl rows) (bags n rows)) (SameBag-sym parts)

pub repeat_owes : (n : ℕ) (rows : List Row) → Same (copies n rows) (flat_map (times_of n) rows)
repeat_owes n rows = Same-from_bag (bags n rows)

-- nothing is out, so all is owed, and that is within it
pub repeat_idle_owes : (times given : ℕ) (rows : List Row) → given ≡ 0 → Same (copies (times - given) rows) (flat_map (times_of times) rows)
repeat_idle_owes times given rows e =
    subst (λ (k : ℕ). Same (copies k rows) (flat_map (times_of times) rows)) (sym (ap (λ k. times - k) e ∙ sub-zero times)) (repeat_owes times rows)
