-- What the contracts of this crate name beside the rules: the code's answers and records, in the terms of the rules.
-- Assumes nothing.
pub mod Answers
pub mod LentHeaps
pub mod Steps
pub mod Runs
pub mod Lendings
pub mod Judges
pub mod Replays
