-- The laws that the proofs of this crate share.
-- Assumes nothing.
pub mod Answers
pub mod Steps
pub mod Running
pub mod Copying
pub mod Copied
pub mod Lending
pub mod Replaying
pub mod OneResult
pub mod Told
pub mod Fakes
