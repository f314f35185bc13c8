-- What the programs promise of the log that they answer on, and of what they lend for it.
-- Assumes nothing.
pub mod Logs
pub mod Memories
