-- Verdicts and their order: tests one after the other, of which the first that does not pass speaks.
-- Assumes nothing.
use Rattle.std.specs.Prelude.{Bool, cond, List, [], ◌∷◌}

pub record Test (A : Type 0) : Type 0 where
  pub passes : Bool
  pub says : A

abbrev pub test : {A : Type 0} → Bool → A → Test A
test b x = record { passes = b; says = x }

-- `done` where every test passes, else what the first that does not says, by `stop`
abbrev pub in_order : {A B : Type 0} → (A → B) → B → List (Test A) → B
in_order stop done [] = done
in_order stop done (t ∷ ts) = cond t.passes (in_order stop done ts) (stop t.says)
