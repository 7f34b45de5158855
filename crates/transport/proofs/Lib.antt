-- From a greedy flow to one that no path improves, and from that to what the kernel answers.
-- Assumes nothing.
pub mod Growing
pub mod Certificate
pub mod Lending
