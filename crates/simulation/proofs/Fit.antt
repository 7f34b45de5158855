-- Fitting one distribution to another: gains, lemma 1, the cut, how fits combine, what of a relation they look at, and what settles them without a flow.
-- Assumes nothing.
pub mod Gain
pub mod Hall
pub mod Cut
pub mod Compose
pub mod Lemma1
pub mod Agree
pub mod Quick
pub mod Lone
