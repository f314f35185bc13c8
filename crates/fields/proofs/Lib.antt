-- What is proved of one field, beside the functions' own proofs.
-- Assumes nothing.
pub mod Passing
pub mod Digits
pub mod Framing
pub mod Placing
pub mod Tags
pub mod Writing
pub mod Packing
pub mod RoundTrip
pub mod OneResult
