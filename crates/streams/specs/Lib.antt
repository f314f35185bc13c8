-- What the answers of the system's calls mean, and what is read and written by them.
-- Assumes nothing.
pub mod Answers
pub mod Reading
pub mod Writing
pub mod Lines
