-- steps that are written one after another
pub mod Writes
-- what spells what is wanted has its shape
pub mod Shapes
