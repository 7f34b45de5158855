-- What is moved along one augmenting path.
-- Assumes nothing.
pub mod Path
pub mod Augments
