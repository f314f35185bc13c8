-- The laws that the proofs of this crate share, and what they say of its contracts.
-- Assumes nothing.
pub mod Calls
pub mod OneField
pub mod OneShowing
pub mod OneResult
