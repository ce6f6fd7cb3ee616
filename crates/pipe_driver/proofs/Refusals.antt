-- A node of which more rows came out than a limit has more than that.
use Rattle.std.proofs.Common.{◌≡◌, ℕ, ◌+◌, ◌<◌, ◌≤◌, true, not, List, [], ◌∷◌, length, refl, sym, ap, ◌∙◌, arith, inl, inr}
use Rattle.pipe_schema.specs.Rows.{Row}
use Rattle.pipe_schema.specs.Weights.{total}
use Rattle.pipe_driver.specs.Legs.{Way}
use Rattle.pipe_driver.specs.Meaning.{Meaning, OutOf, is_part}
use Rattle.pipe_driver.specs.Ways.{occurs, passes}
use Rattle.pipe_driver.proofs.Tests.{and-cases, some-left}
use Rattle.pipe_plan.specs.Under.{is_under}
use Rattle.pipe_driver.specs.State.{World, Counts, Slot, Waits, Has, Spent, IsBuilt, IsPassing, nothing, one_due}
use Rattle.pipe_driver.specs.Within.{ManyAreWide, WideAreUnder}
use Rattle.pipe_driver.proofs.Bounds.{give_own, stay_within}

abbrev one_row : Row → ℕ
one_row row = 1

ones : (rows : List Row) → total one_row rows ≡ length rows
ones [] = refl
ones (row ∷ rows) = let e = ones rows in omega arith

has_not : (table : List Row) (s : Slot) → s ≡ Has table → s ≡ Spent → ⊥
has_not table s e f = let g : Has table ≡ Spent = sym e ∙ f in cc

waits_not : (s : Slot) → s ≡ Waits → s ≡ Spent → ⊥
waits_not s e f = let g : Waits ≡ Spent = sym e ∙ f in cc

-- a join that legs still go through isn't spent
not_spent : (m : Meaning) (w : World) (c : Counts) (now : List ℕ) (s : ℕ) (parked todo : List Way) (j : ℕ) → IsPassing m w c now s parked todo → 0 < c.probers j → m.is_join j ≡ true → w.slot j ≡ Spent → ⊥
not_spent m w c now s parked todo j is some join spent =
    let e = is.left.probers j in
    elim (some-left (occurs j now)) [
      | inr on ↦ (let b = is.tables j on join in has_not b.table (w.slot j) b.is spent)
      | inl off ↦ elim (some-left (c.sinks j)) [
        | inr feeds ↦ waits_not (w.slot j) (is.left.empty j feeds) spent
        | inl none ↦ (let later : 0 < passes j parked + passes j todo = omega arith in let b = is.left.built j refl join later none in has_not b.table (w.slot j) b.is spent)
      ]
    ]

pub many_wide : ManyAreWide
many_wide m w c now s parked todo limit n sound is chains gives =
    let run = gives.run chains in
    let own = give_own m w c (one_due s) now nothing parked todo sound is.left
    (λ j some join. (gives.each j).joins join (not_spent m w c now s parked todo j is some join))
    (λ j not_join. (gives.each j).others not_join) in
    let within = stay_within m w c (one_due s) now nothing parked todo (OutOf n) is.left run own one_row in
    let a = ones (w.there (OutOf n)) in
    let b = ones (m.rows n) in
    let many = gives.many chains in
    record { run = run; many = omega arith }

pub wide_under : WideAreUnder
wide_under plan root limit n wide = record {
  under = (and-cases (is_under plan.nodes root n) (not (is_part plan root n)) wide.run).0;
  above = wide.many;
}
