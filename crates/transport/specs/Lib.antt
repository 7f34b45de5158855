-- What the flow kernel promises.
-- Assumes nothing.
pub mod Answer
pub mod Paths
