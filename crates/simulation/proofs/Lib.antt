-- Laws of the definitions of specs/, in reading order.
-- Assumes nothing.
pub mod Finite
pub mod Flow
pub mod Fit
pub mod Simulation
pub mod Trees
pub mod Demands
pub mod Chains
pub mod Support
pub mod Complete
pub mod Soundness
pub mod Examples
