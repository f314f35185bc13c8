-- A board's part at the front of a list.
-- Assumes nothing.
use Rattle.std.specs.Prelude.{ℕ, cond, List, ◌++◌, length, drop, nat_le}

-- a list with n elements put over its front; one that has no room for them stays
abbrev pub with_front : {X : Type 0} → ℕ → List X → List X → List X
with_front n from d = cond (nat_le n (length d)) (from ++ drop n d) d
