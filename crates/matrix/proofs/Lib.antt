-- Laws of matrices, masks and flows under construction.
-- Assumes nothing.
pub mod MatrixLaws
pub mod MaskedLaws
pub mod FlowLaws
