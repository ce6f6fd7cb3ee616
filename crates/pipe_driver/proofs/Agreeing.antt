-- What a journal's world holds beside the counts of a run.
use Rattle.std.proofs.Common.{◌≡◌, ℕ, zero, suc, ◌+◌, ◌<◌, ◌≤◌, Bool, true, cond, ◌==◌, List, ap, sym, ◌∙◌, arith, Some, None}
use Rattle.std.specs.List.{list_any, range_with_len}
use Rattle.pipe_events.specs.Stages.{Stage, Stages, Scan, Each, Union, Sort, Joined}
use Rattle.pipe_events.specs.Worlds.{Event, Side, OfSort, OfBuild, OfProbe, side_below, ends, is_sink}
use Rattle.pipe_events.proofs.Tied.{closed_sides, closed_probes}
use Rattle.pipe_driver.proofs.Tests.{by_test, eq-is, eq-true, or-first, or-right}
use Rattle.pipe_events.proofs.Steps.{some_same, flushing_marks}
use Rattle.pipe_driver.specs.Legs.{Way}
use Rattle.pipe_driver.specs.State.{Counts}
use Rattle.pipe_driver.specs.Boards.{Board, IsBoard}
use Rattle.pipe_driver.specs.Recorded.{is_shut, IsNoted}
use Rattle.pipe_driver.specs.JournalLaws.{of_sink, HasItsRows, WorldsAgree}
use Rattle.pipe_driver.proofs.Boards.{join_there}

any_range : (p : ℕ → Bool) (k a m : ℕ) → a ≤ k → k < a + m → p k ≡ true → list_any p (range_with_len a m) ≡ true
any_range p k a zero low high e = absurd (omega (arith, low, high))
any_range p k a (suc m) low high e =
    by_test (list_any p (range_with_len a (suc m)) ≡ true) (a == k)
    (λ is. or-first (p a) (list_any p (range_with_len (a + 1) m)) (ap p (eq-is a k is) ∙ e))
    (λ differs.
    let apart : a ≡ k → ⊥ = λ same. (let yes = eq-true a k same in cc) in
    or-right (p a) (list_any p (range_with_len (a + 1) m)) (any_range p k (a + 1) m (omega (arith, low, apart)) (omega (arith, high)) e))

sink_ends : (s : Stage) (side : Side) (t : ℕ) → of_sink side ≡ true → side_below s side ≡ Some t → ends s t ≡ true
sink_ends (Scan rows) side t o e = cc
sink_ends (Each input op) side t o e = cc
sink_ends (Union inputs) side t o e = cc
sink_ends (Sort input sorted) OfSort t o e = eq-true input t (some_same input t e)
sink_ends (Sort input sorted) OfBuild t o e = cc
sink_ends (Sort input sorted) OfProbe t o e = cc
sink_ends (Joined j) OfSort t o e = cc
sink_ends (Joined j) OfBuild t o e = eq-true j.build t (some_same j.build t e)
sink_ends (Joined j) OfProbe t o e = cc

module _ (b : Board) (c : Counts) (but : ℕ → Bool) (live todo : List Way) (events : List Event) (ok : IsBoard b) (noted : IsNoted b c but live todo events) where
  abbrev plan : Stages
  plan = b.stages

  sinks : (n t : ℕ) (side : Side) → of_sink side ≡ true → side_below (plan.stage n) side ≡ Some t → is_sink plan t ≡ true
  sinks n t side o is =
      let inside : n < plan.size = ok.inside n (λ union. (let e : None ≡ Some t = sym (ap (λ s. side_below s side) union) ∙ is in cc)) in
      or-right (plan.root == t) (list_any (λ k. ends (plan.stage k) t) (range_with_len 0 plan.size))
      (any_range (λ k. ends (plan.stage k) t) n 0 plan.size (omega arith) (omega (arith, inside)) (sink_ends (plan.stage n) side t o is))

  pub agree : HasItsRows b (is_shut c but) events
  agree = record {
    sinks = λ n t side o is shut. closed_sides plan ok.ok events noted.recorded.stands.allowed t (sinks n t side o is) (noted.recorded.sides n side t is ∙ shut);
    flags = λ n j is f shut.
        closed_probes plan ok.ok events noted.recorded.stands.allowed n j (join_there b ok n j is) is (flushing_marks j.join.how j.right_built f)
        (noted.recorded.sides n OfProbe j.probe (ap (λ s. side_below s OfProbe) is ∙ ap (λ t. cond t (Some j.probe) None) f) ∙ shut);
  }

pub worlds : WorldsAgree
worlds = agree
