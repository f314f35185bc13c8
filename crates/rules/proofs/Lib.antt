-- What other crates' proofs take from the rules.
-- Assumes nothing.
pub mod Checks
pub mod Tallies
pub mod Printing
