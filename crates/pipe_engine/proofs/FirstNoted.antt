-- Before the first branch of a plan runs, the empty journal tells what it should.
use Rattle.std.proofs.Common.{◌≡◌, ℕ, List, [], refl, sym, ap, subst}
use Rattle.pipe_events.specs.Stages.{IsStages}
use Rattle.pipe_events.specs.Worlds.{Event}
use Rattle.pipe_events.specs.PlanStages.{Setting, stages_of}
use Rattle.pipe_driver.specs.Legs.{Way, ways_of}
use Rattle.pipe_driver.specs.State.{IsStart, nothing}
use Rattle.pipe_driver.specs.Lines.{ways_as, counts_as}
use Rattle.pipe_driver.specs.Plans.{Ask, task_of, at_start, StandFor}
use Rattle.pipe_driver.specs.Runs.{parked_ways}
use Rattle.pipe_driver.specs.Boards.{board_of}
use Rattle.pipe_driver.specs.Recorded.{IsNoted}
use Rattle.pipe_driver.proofs.PlanBoards.{journals_start}
use Rattle.pipe_engine.specs.Journals.{staging_of}
use Rattle.pipe_engine.specs.Drives.{Line, LineRun}
use Rattle.pipe_engine.specs.Engine.{engine_words}
use Rattle.pipe_engine.specs.Noted.{AreListed, NotedBetween}
use Rattle.pipe_engine.specs.Stands.{Settings}

pub stand_noted : {H : Type 0} (hash_of : H → List ℕ → ℕ) (x : Settings H) (ask : Ask) (setting : Setting) (run : LineRun H) (ps : List (Line H)) (events : List Event) → StandFor (engine_words hash_of x) ask run ps → events ≡ [] → AreListed (staging_of ask setting) (task_of ask).m [] ps → IsStages (stages_of ask.plan ask.root setting)
    → NotedBetween (staging_of ask setting) (task_of ask) run ps events
stand_noted hash_of x ask setting run ps events is empty listed ok =
    let k = task_of ask in
    let b = board_of ask.plan ask.root setting in
    let c = counts_as k run in
    let ws = ways_of ask.plan ask.root in
    let start : IsStart at_start c ws = record { there = λ x. refl; gained = λ j. refl; slot = λ j. refl; sinks = is.sinks; probers = is.probers } in
    let begins : IsNoted b c nothing [] ws [] = journals_start ask.plan ask.root setting at_start c is.well ok start in
    let P : List Way → Type 0 = λ live. IsNoted b c nothing live ws [] in
    let Q : List Way → Type 0 = λ todo. IsNoted b c nothing (parked_ways k run) todo [] in
    let E : List Event → Type 0 = IsNoted b c nothing (parked_ways k run) (ways_as k.m.ordered ps) in
    let L : List (Line _) → Type 0 = λ parked. AreListed (staging_of ask setting) k.m parked ps in
    record { noted = subst E (sym empty) (subst Q (sym is.ways) (subst P (sym (ap (ways_as k.m.ordered) is.parked)) begins)); listed = subst L (sym is.parked) listed }
