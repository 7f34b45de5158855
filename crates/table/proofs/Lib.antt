-- Laws of what an accepted table is read to.
-- Assumes nothing.
pub mod AnswerLaws
pub mod PartLaws
