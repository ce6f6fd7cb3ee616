pub mod Sinks
pub mod SinkLaws
pub mod SinkWords
-- which probe a join has
pub mod Kinds
-- places of probes
pub mod Places
-- what a join's operator does, by its settings and what it reads
pub mod JoinWords
-- a join's probe
pub mod CallBackWords
-- what a join's probe owes by law
pub mod CallBackLaws
-- an operator of a plan
pub mod PhysWords
-- what an operator of a plan owes by law
pub mod PhysLaws
-- seats of lanes
pub mod Seats
-- what stands at the nodes of a plan
pub mod SlotTables
