-- Laws of the north-west corner rule.
-- Assumes nothing.
pub mod Overlap
pub mod Turn
