-- Completed tables: the codes that are added, the states and transitions of a completed table, what a self-loop takes.
-- Assumes nothing.
pub mod Codes
pub mod Tables
pub mod Loops
