-- What the contracts of this crate cite.
-- Assumes nothing.
pub mod Flow
pub mod Records
pub mod FlowSteps
