-- What the proofs of several functions use.
-- Assumes nothing.
pub mod Pieces
pub mod RecordBytes
pub mod FlowBytes
pub mod FlowRow
pub mod FlowPlace
pub mod FlowStep
pub mod FlowAdded
pub mod FlowWhole
pub mod FlowRoom
