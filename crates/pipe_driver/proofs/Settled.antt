-- Where a way can go on, the sides of the joins that it goes through have been built.
use Rattle.std.proofs.Common.{◌≡◌, ℕ, zero, suc, ◌<◌, List, [], ◌∷◌, refl, ◌∙◌, arith, true}
use Rattle.std.specs.List.{AllByRecursion}
use Rattle.pipe_driver.specs.Meaning.{Meaning}
use Rattle.pipe_driver.specs.Legs.{Way}
use Rattle.pipe_driver.specs.Ways.{way_to, feeds, way_through, IsSoundMeaning}
use Rattle.pipe_driver.specs.State.{World, Counts, IsBuilt, IsParked, IsReady, nothing}
use Rattle.pipe_driver.proofs.Sums.{no_more, IsAbove, above}

-- none of the ways that wait feeds a sink, where no sort below it is open
pub none_parked : (m : Meaning) (sinks : ℕ → ℕ) (todo parked : List Way) (s : ℕ) → AllByRecursion (IsParked m sinks nothing todo) parked
    → ((t : ℕ) → IsAbove m t s → sinks t ≡ 0) → feeds s parked ≡ 0
none_parked m sinks todo [] s are low = refl
none_parked m sinks todo (q ∷ qs) s are low =
    let here : way_to s q ≡ 0 = no_more (way_to s q) (λ some. (
    let up = above m s q.start q.legs are.0.legs some in
    let none = low q.start up in
    let waits = are.0.waits refl in
    omega arith)) in
    let rest = none_parked m sinks todo qs s are.1 low in
    omega arith

-- no sink of a side is open, where no way that hasn't begun feeds one
settled_below : (m : Meaning) (sinks : ℕ → ℕ) (parked todo : List Way) (j : ℕ) → AllByRecursion (IsParked m sinks nothing todo) parked
    → ((s : ℕ) → m.side j s ≡ true → sinks s ≡ feeds s parked) → (b s : ℕ) → s < b → m.side j s ≡ true → sinks s ≡ 0
settled_below m sinks parked todo j are counts zero s lt side = absurd (omega arith)
settled_below m sinks parked todo j are counts (suc b) s lt side =
    counts s side ∙ none_parked m sinks todo parked s are (λ t up. (let l = up.up in settled_below m sinks parked todo j are counts b t (omega arith) (up.sides j side)))

-- each join that a ready way goes through is built
pub settled : (m : Meaning) (w : World) (c : Counts) (p : Way) (parked todo : List Way) → IsSoundMeaning m → IsReady m w c p parked todo
    → (j : ℕ) → m.is_join j ≡ true → 0 < way_through j p → IsBuilt m j (w.slot j)
settled m w c p parked todo sound is j join passed =
    let counts : (s : ℕ) → m.side j s ≡ true → c.sinks s ≡ feeds s parked = λ s side. (
    let c = is.left.sinks s in
    let behind = is.behind j s passed side in
    omega arith) in
    let none = settled_below m c.sinks parked todo j is.waiting counts (suc j) j (omega arith) (sound.own j join) in
    is.left.built j refl join (omega arith) none
