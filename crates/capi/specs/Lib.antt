-- What each call of the C interface returns and leaves, by the definitions of the crates below.
-- Assumes nothing.
pub mod Fronts
pub mod Judging
pub mod Replaying
pub mod Fields
pub mod Showing
