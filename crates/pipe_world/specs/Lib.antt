-- the stages that the code's ones are
pub mod StageValues
-- a plan's stages in the code
pub mod Staged
-- the world that the data stands for
pub mod Shown
-- what a call changes
pub mod Changes
-- marks of the numbers that stand in a list
pub mod Marks
