-- The rules by which a log is judged, each file resting on those before it.
-- Assumes nothing.
pub mod Words
pub mod State
pub mod Acts
pub mod Commands
pub mod Check
pub mod Effect
pub mod Run
pub mod Log
pub mod Verdicts
pub mod Replay
pub mod Matching
pub mod Plain
pub mod Cases
pub mod Judging
pub mod Replaying
pub mod Showing
