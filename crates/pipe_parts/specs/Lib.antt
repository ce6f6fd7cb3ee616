-- how rows are wished to lie in parts, and what that asks of a node's inputs
pub mod Wishes
-- the choices that these rules allow
pub mod Choices
-- plans in parts
pub mod Parts
-- the laws
pub mod Laws
-- the choice that leaves the least to be had whole
pub mod Least
-- what the sides of a join are asked
pub mod Sides
-- where and why a plan can't be had in parts
pub mod Obstacles
-- the line of a plan
pub mod PartsLines
