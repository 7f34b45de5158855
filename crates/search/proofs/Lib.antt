-- Laws of the search.
-- Assumes nothing.
pub mod SearchLaws
