-- The events that the code's ones are.
use Rattle.pipe_events.specs.Worlds as worlds
use Rattle.pipe_events.specs.declared.event.Side.{Side}
use Rattle.pipe_events.specs.declared.event.Side.TheVariants as side
use Rattle.pipe_events.specs.declared.event.Event.{Event}
use Rattle.pipe_events.specs.declared.event.Event.TheVariants as event

abbrev pub side_value : Side → worlds.Side
side_value side.Sort = worlds.OfSort
side_value side.Build = worlds.OfBuild
side_value side.Probe = worlds.OfProbe

abbrev pub event_value : Event → worlds.Event
event_value (event.Take worker source from count) = worlds.Take worker source from count
event_value (event.Mark worker join key) = worlds.Mark worker join key
event_value (event.Emit worker) = worlds.Emit worker
event_value (event.Done worker) = worlds.Done worker
event_value (event.Close node side) = worlds.Close node (side_value side)
event_value (event.Flush worker join part) = worlds.Flush worker join part
