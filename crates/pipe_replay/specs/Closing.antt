-- What closing a side asks.
use Rattle.std.specs.Prelude.{ℕ, Bool}
use Rattle.pipe_events.specs.Stages.{Stages, reaches}
use Rattle.pipe_events.specs.Worlds.{Load, World}
use Rattle.pipe_events.specs.Decided.{implies, is_spent, sides_closed}

-- whether a load comes to a node
abbrev pub is_coming : Stages → (t : ℕ) → Load → Bool
is_coming plan t load = reaches plan load.node t

-- whether a node is spent
abbrev pub spent_at : Stages → World → ℕ → Bool
spent_at plan w n = is_spent plan w n (plan.stage n)

-- whether a node is spent, if it comes to another
abbrev pub spent_if_coming : Stages → World → (t m : ℕ) → Bool
spent_if_coming plan w t m = implies (reaches plan m t) (spent_at plan w m)

-- whether the sides of a node are closed
abbrev pub closed_at : Stages → World → ℕ → Bool
closed_at plan w n = sides_closed w (plan.stage n)
