-- Laws of rows and of relations.
-- Assumes nothing.
pub mod RowLaws
pub mod Parts
pub mod Clearing
pub mod Relations
pub mod Lasting
