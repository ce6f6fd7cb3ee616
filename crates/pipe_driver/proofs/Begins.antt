-- The next branch begins; and where none is left, no sink is open.
use Rattle.std.proofs.Common.{◌≡◌, ℕ, zero, suc, ◌<◌, List, [], ◌∷◌, arith}
use Rattle.pipe_schema.proofs.Weights.{total-append}
use Rattle.pipe_driver.specs.Meaning.{Meaning}
use Rattle.pipe_driver.specs.Legs.{Way}
use Rattle.pipe_driver.specs.Ways.{way_brings, brought, own_brings}
use Rattle.pipe_driver.proofs.Tests.{all-map}
use Rattle.pipe_driver.specs.State.{World, Counts, IsParked, IsBetween, IsReady, nothing, pending}
use Rattle.pipe_driver.proofs.Sums.{split4}
use Rattle.pipe_driver.proofs.Settled.{none_parked}

pub begins_way : (m : Meaning) (w : World) (c : Counts) (p : Way) (parked todo : List Way) → IsBetween m w c parked (p ∷ todo) → IsReady m w c p parked todo
begins_way m w c p parked todo is = record {
  left = record {
    sinks = λ s. (let c = is.left.sinks s in omega arith);
    probers = λ j. (let c = is.left.probers j in omega arith);
    rows = λ x open_there. record {
      sums = λ f. (
          let own = pending c.probers (own_brings m x) m.joins in
          let was = (is.left.rows x open_there).sums f in
          let e1 = split4 f (w.there x) (brought m x parked) (brought m x (p ∷ todo)) own in
          let e3 = total-append f (way_brings m x p) (brought m x todo) in
          let e4 = split4 f (w.there x) (brought m x (p ∷ parked)) (brought m x todo) own in
          let e6 = total-append f (way_brings m x p) (brought m x parked) in
          omega arith);
    };
    empty = is.left.empty;
    built = λ j but join passed none. is.left.built j but join (omega arith) none;
    once = λ n. (let c = is.left.once n in omega arith);
    ways = is.left.ways.1;
    order = is.left.order.1;
  };
  waiting = all-map (IsParked m c.sinks nothing (p ∷ todo)) (IsParked m c.sinks nothing todo) parked (λ q a. record {
    sort = a.sort;
    waits = a.waits;
    some = a.some;
    legs = a.legs;
    behind = λ j s passed side. (let b = a.behind j s passed side in omega arith);
  }) is.waiting;
  way = is.left.ways.0;
  behind = is.left.order.0;
}

over_below : (m : Meaning) (w : World) (c : Counts) (parked : List Way) → IsBetween m w c parked [] → (b s : ℕ) → s < b → c.sinks s ≡ 0
over_below m w c parked is zero s lt = absurd (omega arith)
over_below m w c parked is (suc b) s lt =
    let q = is.left.sinks s in
    let n = none_parked m c.sinks [] parked s is.waiting (λ t up. (let l = up.up in over_below m w c parked is b t (omega arith))) in
    omega arith

-- where no branch is left, each sink is closed
pub over : (m : Meaning) (w : World) (c : Counts) (parked : List Way) → IsBetween m w c parked [] → (s : ℕ) → c.sinks s ≡ 0
over m w c parked is s = over_below m w c parked is (suc s) s (omega arith)
