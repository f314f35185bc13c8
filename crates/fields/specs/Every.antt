-- What holds of every element of a list.
-- Assumes nothing.
use Rattle.std.specs.Prelude.{List, [], ◌∷◌, ℕ, ◌<◌}

abbrev pub Every : {A : Type 0} → (A → Type 0) → List A → Type 0
Every P [] = Unit {0}
Every P (x ∷ xs) = P x × Every P xs

-- the elements of a list that a `&[u8]` holds
abbrev pub AreBytes : List ℕ → Type 0
AreBytes l = Every (λ x. x < 256) l
