-- Laws that the proofs cite.
-- Assumes nothing.
pub mod RoundLaws
pub mod Fitting
pub mod Marking
pub mod Settling
pub mod Turning
