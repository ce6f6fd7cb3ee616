-- the texts of cells
pub mod Text
-- the spelling of cells, and what may be missing
pub mod Spelling
-- the spelling of formulas
pub mod FormulaSpelling
-- the spelling of nodes
pub mod NodeSpelling
-- the lines of rows
pub mod Line
-- the names of operators
pub mod Operators
-- whether a value spells something of a kind
pub mod Shape
-- the kinds of nodes
pub mod Kinds
-- the spelling of frames
pub mod FrameSpelling
-- the types of a version
pub mod Version
-- the spelling of jobs
pub mod JobSpelling
-- what is read from bytes
pub mod Reading
-- what a reader of values answers
pub mod Reads
