-- Laws of the check.
-- Assumes nothing.
pub mod TableLaws
pub mod Demands
pub mod Enough
pub mod Reading
pub mod Widening
pub mod Dropped
pub mod Governed
pub mod Chain
pub mod Examples
