-- What one field of a log is, in document 01's words, each file resting on those before it.
-- Assumes nothing.
pub mod Limits
pub mod Log
pub mod Refusals
pub mod Every
pub mod Order
pub mod Bytes
pub mod Rows
pub mod Numbers
pub mod Checks
pub mod Read
pub mod Write
