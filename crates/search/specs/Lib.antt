-- What a search for a path reaches.
-- Assumes nothing.
pub mod Links
pub mod Search
