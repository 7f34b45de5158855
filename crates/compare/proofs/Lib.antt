-- Laws of a call on two accepted tables.
-- Assumes nothing.
pub mod Outcome
pub mod Comparing
pub mod Display
