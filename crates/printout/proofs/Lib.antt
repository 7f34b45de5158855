-- Laws of the definitions of specs/.
-- Assumes nothing.
pub mod Printing
