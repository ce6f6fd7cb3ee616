-- Tests of joins.
use Rattle.std.specs.Prelude.{ℕ, Bool, true, not, ◌==◌, ◌&&◌}
use Rattle.pipe_events.specs.Stages.{Key, JoinStage, Stages, marks}
use Rattle.pipe_events.specs.Worlds.{World, at_join, seen, owes_mark}
use Rattle.pipe_events.specs.Decided.{implies}

-- whether the join at a node, if there is one, passes
abbrev pub join_passes : Stages → (ℕ → JoinStage → Bool) → ℕ → Bool
join_passes plan test k = at_join true (test k) (plan.stage k)

-- the build side is closed where the probe side is reached
abbrev pub built_if_reached : (reached closed : ℕ → Bool) → ℕ → JoinStage → Bool
built_if_reached reached closed k j = implies (reached j.probe) (closed j.build)

-- the build side is closed where the probe side is above a node
abbrev pub built_if_probed : (t : ℕ) → (closed : ℕ → Bool) → ℕ → JoinStage → Bool
built_if_probed t closed k j = implies (j.probe == t) (closed j.build)

-- a join that marks owes no mark for what a worker has on its way
abbrev pub owes_none : Stages → World → (worker : ℕ) → ℕ → JoinStage → Bool
owes_none plan w worker k j = implies (marks j) (not (owes_mark plan worker w k j))

-- a join marks, and what a worker has on its way matches a key there
abbrev pub marks_seen : Stages → World → (worker : ℕ) → Key → JoinStage → Bool
marks_seen plan w worker key j = marks j && seen plan worker w j key
