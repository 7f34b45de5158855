-- Rounds and ranks: one transition fits another, rounds fall and settle, what a rank says, the greatest strong simulation.
-- Assumes nothing.
pub mod Relation
pub mod Steps
pub mod Rounds
pub mod Ranks
pub mod Greatest
pub mod RankList
