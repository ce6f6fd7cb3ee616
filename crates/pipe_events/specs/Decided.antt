-- What an event asks, as tests.
use Rattle.std.specs.Prelude.{◌≡◌, ℕ, zero, suc, ◌+◌, List, [], ◌∷◌, length, Bool, true, false, not, ◌==◌, ◌&&◌, ◌||◌, nat_lt, nat_le, Option, Some, None}
use Rattle.std.specs.List.{list_any}
use mathlib.Core.Logic.{◌↔◌}
use Rattle.pipe_events.specs.Stages.{JoinStage, Stage, Stages, Scan, Each, Union, Sort, Joined, reaches, marks, flushes}
use Rattle.pipe_events.specs.Worlds.{World, Event, Take, Mark, Emit, Done, Close, Flush, OfSort, OfBuild, OfProbe, side_below, mine, source_rows, seen, owes_mark, at_join, after, Allowed}
use Rattle.pipe_events.specs.Schedules.{AllAllowed, IsComplete}

-- each number below another passes
abbrev pub all_below : (ℕ → Bool) → ℕ → Bool
all_below test zero = true
all_below test (suc k) = test k && all_below test k

abbrev pub stands_in : List ℕ → ℕ → Bool
stands_in ps p = list_any (λ q. q == p) ps

abbrev pub is_nil : {X : Type 0} → List X → Bool
is_nil [] = true
is_nil (x ∷ xs) = false

-- the second, where the first
abbrev pub implies : Bool → Bool → Bool
implies a b = not a || b

abbrev pub if_some : (ℕ → Bool) → Option ℕ → Bool
if_some test None = false
if_some test (Some t) = test t

abbrev pub is_ready : (closed : ℕ → Bool) → Stage → Bool
is_ready closed (Scan rows) = true
is_ready closed (Each input op) = false
is_ready closed (Union inputs) = false
is_ready closed (Sort input sorted) = closed input
is_ready closed (Joined j) = false

-- the side above a node is closed, if there is one
abbrev pub is_closed : World → Option ℕ → Bool
is_closed w None = true
is_closed w (Some t) = w.closed t

abbrev pub sides_closed : World → Stage → Bool
sides_closed w x =
    is_closed w (side_below x OfSort)
    && (is_closed w (side_below x OfBuild) && is_closed w (side_below x OfProbe))

module _ (plan : Stages) where
  -- a test of each join of the plan
  abbrev pub all_joins : (ℕ → JoinStage → Bool) → Bool
  all_joins test = all_below (λ k. at_join true (test k) (plan.stage k)) plan.size

  abbrev pub chain_built : (closed : ℕ → Bool) → ℕ → Bool
  chain_built closed n = all_joins (λ k j. implies (reaches plan n j.probe) (closed j.build))

  abbrev pub is_spent : World → ℕ → Stage → Bool
  is_spent w n (Scan rows) = all_below (stands_in (w.taken n)) (length rows)
  is_spent w n (Each input op) = true
  is_spent w n (Union inputs) = true
  is_spent w n (Sort input sorted) =
      w.closed input && all_below (stands_in (w.taken n)) (length (sorted (w.bag input)))
  is_spent w n (Joined j) =
      implies (flushes j) (all_below (stands_in (w.flushed n)) plan.parts)

  -- all that reaches a node is spent, and nothing on its way reaches it
  abbrev pub is_quiet : World → ℕ → Bool
  is_quiet w t =
      all_below (λ m. implies (reaches plan m t) (is_spent w m (plan.stage m))) plan.size
      && not (list_any (λ load. reaches plan load.node t) w.pending)

  -- the side above a node may be closed
  abbrev pub may_close : World → ℕ → Bool
  may_close w t =
      not (w.closed t)
      && (is_quiet w t && all_joins (λ k j. implies (j.probe == t) (w.closed j.build)))

  abbrev pub may_flush : World → (k p : ℕ) → JoinStage → Bool
  may_flush w k p j =
      flushes j
      && (w.closed j.probe
      && (nat_lt p plan.parts && (not (stands_in (w.flushed k) p) && chain_built w.closed k)))

  -- the positions are there, and not taken
  abbrev pub may_take : World → (source from amount : ℕ) → Bool
  may_take w source from amount =
      nat_le 1 amount
      && (is_ready w.closed (plan.stage source)
      && (nat_le (from + amount) (length (source_rows w.bag (plan.stage source)))
      && all_below (λ i. not (stands_in (w.taken source) (from + i))) amount))

  abbrev pub is_allowed : World → Event → Bool
  is_allowed w (Take worker source from amount) =
      nat_lt worker plan.workers
      && (is_nil (mine worker w.pending)
      && (nat_lt source plan.size
      && (may_take w source from amount && chain_built w.closed source)))
  is_allowed w (Mark worker k key) =
      nat_lt worker plan.workers
      && (nat_lt k plan.size
      && at_join false (λ j. marks j && seen plan worker w j key) (plan.stage k))
  is_allowed w (Emit worker) =
      nat_lt worker plan.workers
      && (not (is_nil (mine worker w.pending))
      && all_joins (λ k j. implies (marks j) (not (owes_mark plan worker w k j))))
  is_allowed w (Done worker) =
      nat_lt worker plan.workers && not (is_nil (mine worker w.pending))
  is_allowed w (Close n side) =
      nat_lt n plan.size && if_some (may_close w) (side_below (plan.stage n) side)
  is_allowed w (Flush worker k p) =
      nat_lt worker plan.workers
      && (is_nil (mine worker w.pending)
      && (nat_lt k plan.size && at_join false (may_flush w k p) (plan.stage k)))

  abbrev pub all_allowed : World → List Event → Bool
  all_allowed w [] = true
  all_allowed w (event ∷ events) = is_allowed w event && all_allowed (after plan w event) events

  abbrev pub is_complete : World → Bool
  is_complete w =
      all_below (λ n. is_spent w n (plan.stage n)) plan.size
      && (is_nil w.pending && all_below (λ n. sides_closed w (plan.stage n)) plan.size)

-- The tests say what is allowed, and what is complete
abbrev pub EventsAreDecided : Type 0
EventsAreDecided =
    (plan : Stages) (w : World) (event : Event) →
    (is_allowed plan w event ≡ true) ↔ Allowed plan w event

abbrev pub ListsAreDecided : Type 0
ListsAreDecided =
    (plan : Stages) (w : World) (events : List Event) →
    (all_allowed plan w events ≡ true) ↔ AllAllowed plan w events

abbrev pub CompletenessIsDecided : Type 0
CompletenessIsDecided = (plan : Stages) (w : World) → (is_complete plan w ≡ true) ↔ IsComplete plan w
