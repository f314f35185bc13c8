-- The notions of source 004, beside which the rules are set, what demand 3 says of a replay's fields, and the numbers of answers.
-- Assumes nothing.
pub mod Paper
pub mod Beside
pub mod Renewed
pub mod Answers
