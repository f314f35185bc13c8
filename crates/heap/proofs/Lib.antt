-- The laws that the proofs of this crate share.
-- Assumes nothing.
pub mod Counting
