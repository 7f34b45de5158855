-- Laws of the start.
-- Assumes nothing.
pub mod StartLaws
pub mod GreedyLaws
