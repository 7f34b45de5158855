-- Laws of the definitions of specs/, in reading order.
-- Assumes nothing.
pub mod Pieces
pub mod Wide
pub mod Sections
pub mod Answers
pub mod Same
pub mod Examples
