-- Tables with entries of weight 0: weights, transitions and tables without them, and that no fit, round, rank or following changes.
-- Assumes nothing.
pub mod Weights
pub mod Shares
pub mod Entries
pub mod Tables
pub mod Ranks
pub mod Following
