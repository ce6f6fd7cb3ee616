-- What a journal tells, in the words of runs that go node by node; and sources that are taken one after another.
use Rattle.std.proofs.Common.{◌≡◌, ℕ, ◌<◌, ◌≤◌, Bool, true, false, eqb, ◌||◌, List, [], ◌∷◌, ◌++◌, refl, ap, sym, ◌∙◌, subst, append_assoc, append-nil, arith, Some}
use Rattle.std.proofs.lemmas.Bool.Decides.{Decides-eqb}
use Rattle.pipe_events.specs.Stages.{JoinStage, Stages, Joined, IsStages}
use Rattle.pipe_events.specs.Worlds.{Event, Side, count, side_below}
use Rattle.pipe_events.specs.Rounds.{takes}
use Rattle.pipe_events.specs.Runs.{SourcesTaken}
use Rattle.pipe_events.proofs.Members.{either, decide, or_left, mem, head, behind, count_head, stands_there}
use Rattle.pipe_events.proofs.Flows.{supplies}
use Rattle.pipe_events.proofs.Steps.{adds, or_none, Knows, knows_alike, step_idle, step_take, BuiltAbove, SortedBelow}
use Rattle.pipe_events.proofs.Going.{untrue}
use Rattle.pipe_driver.specs.Recorded.{IsRecorded}

pub knows : (plan : Stages) (ran : ℕ → Bool) (shut : ℕ → Side → Bool) (events : List Event) → IsRecorded plan ran shut events → Knows plan ran shut events
knows plan ran shut events h = record {
  stands = h.stands;
  tells = record { taken = h.taken; untaken = h.untaken; flushed = h.flushed; unflushed = h.unflushed; closed = h.sides };
}

pub recorded : (plan : Stages) (ran : ℕ → Bool) (shut : ℕ → Side → Bool) (events : List Event) → Knows plan ran shut events → IsRecorded plan ran shut events
recorded plan ran shut events h = record {
  stands = h.stands;
  taken = h.tells.taken;
  untaken = h.tells.untaken;
  flushed = h.tells.flushed;
  unflushed = h.tells.unflushed;
  sides = h.tells.closed;
}

-- the same, told in other words
pub alike : (plan : Stages) (ran ran' : ℕ → Bool) (shut shut' : ℕ → Side → Bool) → ((n : ℕ) → ran n ≡ ran' n) → ((n : ℕ) (side : Side) (t : ℕ) → side_below (plan.stage n) side ≡ Some t → shut n side ≡ shut' n side) → (events : List Event) → IsRecorded plan ran shut events → IsRecorded plan ran' shut' events
alike plan ran ran' shut shut' same sides events h = recorded plan ran' shut' events (knows_alike plan ran shut ran' shut' same sides events (knows plan ran shut events h))

moved : (a b c : Bool) → ((a || (b || false)) || c) ≡ (a || (b || c))
moved true b c = refl
moved false true c = refl
moved false false c = refl

or_both : (a b : Bool) → a ≡ false → b ≡ false → (a || b) ≡ false
or_both true b e d = cc
or_both false b e d = d

-- ---- sources that are taken, one after another

module _ (plan : Stages) (ok : IsStages plan) (shut : ℕ → Side → Bool) where
  pub take_sources : (ns : List ℕ) (ran : ℕ → Bool) (events later : List Event) → Knows plan ran shut events → SourcesTaken plan ns later
      → ((n : ℕ) → mem n ns ≡ true → supplies (plan.stage n) ≡ true → n < plan.size)
      → ((n : ℕ) → mem n ns ≡ true → BuiltAbove plan ran shut n)
      → ((n : ℕ) → mem n ns ≡ true → SortedBelow plan ran shut n)
      → ((n : ℕ) → mem n ns ≡ true → supplies (plan.stage n) ≡ true → ran n ≡ false)
      → ((n : ℕ) (j : JoinStage) → mem n ns ≡ true → plan.stage n ≡ Joined j → ran n ≡ true)
      → ((n : ℕ) → count n ns ≤ 1)
      → Knows plan (adds ran ns) shut (events ++ later)
  take_sources [] ran events later known h inside built sorted fresh joined once =
      let same : events ≡ events ++ later = sym (ap (λ l. events ++ l) h ∙ append-nil events) in
      subst (λ l. Knows plan (adds ran []) shut l) same
      (knows_alike plan ran shut (adds ran []) shut (λ n. sym (or_none (ran n) false refl)) (λ n side t is. refl) events known)
  take_sources (n ∷ ns) ran events later known h inside built sorted fresh joined once =
      let here = head n ns in
      let taken = h.is_first in
      let more : List Event = events ++ takes n taken.chunks in
      let first : Knows plan (adds ran (n ∷ [])) shut more =
      either
      (λ s. step_take plan ran shut ok events known n taken.chunks (inside n here s) s (sorted n here) (built n here) (fresh n here s) taken.are_all)
      (λ none. step_idle plan ran shut n events taken.chunks none (λ j is flush. joined n j here is) taken.are_all known)
      (decide (supplies (plan.stage n))) in
      let apart : (m : ℕ) → mem m ns ≡ true → eqb n m ≡ false =
      λ m e.
      untrue (eqb n m) (λ yes.
      let same : n ≡ m = (Decides-eqb n m).0 yes in
      let some = stands_there n ns (subst (λ i. mem i ns ≡ true) (sym same) e) in
      let counted = count_head n ns in
      let one = once n in
      absurd (omega (arith, some, counted, one))) in
      let rest : Knows plan (adds (adds ran (n ∷ [])) ns) shut (more ++ h.rest) =
      take_sources ns (adds ran (n ∷ [])) more h.rest first h.is_rest
      (λ m e. inside m (behind m n ns e))
      (λ m e. built m (behind m n ns e))
      (λ m e. sorted m (behind m n ns e))
      (λ m e s. or_both (ran m) (mem m (n ∷ [])) (fresh m (behind m n ns e) s) (or_both (eqb n m) false (apart m e) refl))
      (λ m j e is. or_left (ran m) (mem m (n ∷ [])) (joined m j (behind m n ns e) is))
      (λ m. (let all = once m in let le : count m ns ≤ count m (n ∷ ns) = omega arith in omega (arith, all, le))) in
      let whole : more ++ h.rest ≡ events ++ later = append_assoc events (takes n taken.chunks) h.rest ∙ ap (λ l. events ++ l) (sym (h.whole ∙ ap (λ l. l ++ h.rest) taken.whole)) in
      subst (λ l. Knows plan (adds ran (n ∷ ns)) shut l) whole
      (knows_alike plan (adds (adds ran (n ∷ [])) ns) shut (adds ran (n ∷ ns)) shut (λ m. moved (ran m) (eqb n m) (mem m ns)) (λ m side t is. refl) (more ++ h.rest) rest)
