-- What settles a cut without a flow.
-- Assumes nothing.
pub mod Quick
