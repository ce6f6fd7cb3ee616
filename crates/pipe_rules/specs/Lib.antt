-- the conjuncts of a predicate
pub mod Conjuncts
-- formulas whose columns get other names
pub mod Names
-- where a conjunct goes below a node, and what it is there
pub mod Placing
-- the rows of a node with a conjunct where it goes
pub mod Placed
-- conjuncts by where they go
pub mod Parted
-- the laws
pub mod FilterLaws
-- the columns that a node needs of its inputs
pub mod Needs
-- narrower inputs, and a node over them
pub mod Narrowed
-- the law
pub mod NeedLaws
-- the placing that a value of the code is
pub mod Placements
-- where conjuncts go, by names that are looked up
pub mod Through
-- nodes with other inputs
pub mod Renumbered
-- how many nodes there are
pub mod Sizes
-- filters that stand low
pub mod Low
-- what a sort sorts by
pub mod Sorts
-- the literals of nodes
pub mod Literals
-- plans that grow
pub mod Grown
-- what values of the code stand for
pub mod Values
-- how far conjuncts reach into a schema
pub mod Reach
