-- What the kernel starts from.
-- Assumes nothing.
pub mod Start
pub mod Greedy
