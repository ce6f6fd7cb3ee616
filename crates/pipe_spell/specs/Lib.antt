-- names in the order of an object's members
pub mod Before
-- items that were written
pub mod Written
-- numbers within their ranges
pub mod Ranges
-- literals that a job may have
pub mod Literals
-- texts as they are printed
pub mod Printed
