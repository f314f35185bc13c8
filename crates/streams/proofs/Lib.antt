-- What is proved of the answers and of reading, over numbers and lists.
-- Assumes nothing.
pub mod Bounds
pub mod Growth
pub mod OneReading
