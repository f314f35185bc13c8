-- Demand 3: when the state S of a replay matches the state R of the recording, and what it is to match after each field.
-- Assumes nothing.
use Rattle.std.specs.Prelude.{ℕ, ◌+◌, ◌*◌, ◌/◌, ◌%◌, ◌≡◌, true, ◌⊎◌, List, [], ◌∷◌, Ok}
use Rattle.fields.specs.declared.Field.{Field}
use Rattle.fields.specs.declared.RecordedCell.{RecordedCell}
use Rattle.rules.specs.declared.ReplayCell.{ReplayCell}
use Rattle.rules.specs.declared.Place.{Place}
use Rattle.rules.specs.declared.Place.TheVariants.{PointerWord, SelectorWord}
use Rattle.rules.specs.Words.{unset, is_valid}
use Rattle.rules.specs.State.{State, live, status_of, number_at, word}
use Rattle.rules.specs.Acts.{gives}
use Rattle.rules.specs.Commands.{act_of}
use Rattle.rules.specs.Check.{check}
use Rattle.rules.specs.Effect.{effect}
use Rattle.rules.specs.Replay.{Matching, rematch}

abbrev pub Live : State → ℕ → Type 0
Live s c = status_of s c ≡ live

-- a pointer variable, or a selector of a live cell (selector i is one of cell i / 2)
abbrev pub Owned : (ℕ → ℕ) → Place → Type 0
Owned statuses (PointerWord i) = Unit {0}
Owned statuses (SelectorWord i) = statuses (i / 2) ≡ live

-- where the replay has it: the same variable, or the same selector of the matching cell
abbrev pub twin : Matching → Place → Place
twin m (PointerWord i) = PointerWord i
twin m (SelectorWord i) = SelectorWord (2 * (m (record { 0 = i / 2 })).0 + i % 2)

-- a word of the recording and one of the replay: unset in both, or pointing to matching cells
abbrev pub Alike : State → Matching → ℕ → ℕ → Type 0
Alike R m v w = ((v ≡ unset) × (w ≡ unset)) ⊎ ((c : RecordedCell) × Live R c.0 × (v ≡ c.0) × (w ≡ (m c).0))

pub record Match (R S : State) (m : Matching) : Type 0 where
  -- the data variables agree
  pub variables : R.variables ≡ S.variables
  -- the live cells match one to one: by m every live cell of R is one of S, no two are the same, and no live cell of S is left out
  pub live : (c : RecordedCell) → Live R c.0 → Live S (m c).0
  pub one : (c d : RecordedCell) → Live R c.0 → Live R d.0 → m c ≡ m d → c ≡ d
  pub onto : (k : ReplayCell) → Live S k.0 → (c : RecordedCell) × Live R c.0 × (m c ≡ k)
  -- with equal data
  pub equal : (c : RecordedCell) → Live R c.0 → number_at R.numbers c.0 ≡ number_at S.numbers (m c).0
  -- every pointer variable, and every selector of a live cell, that is valid in the recording is unset in both or points to matching cells
  pub words : (x : Place) → Owned (status_of R) x → is_valid (word R x) ≡ true → Alike R m (word R x) (word S (twin m x))

-- Two logs pass field by field, and X holds before the first field and after each. The matching is by allocation: it follows the
-- cells that the fields of the two logs give out.
abbrev pub Along : (State → State → Matching → Type 0) → List Field → List Field → State → State → Matching → Type 0
Along X [] [] R S m = X R S m
Along X [] (g ∷ gs) R S m = ⊥
Along X (f ∷ fs) [] R S m = ⊥
Along X (f ∷ fs) (g ∷ gs) R S m =
    X R S m
    × (check (act_of f) R ≡ Ok tt)
    × (check (act_of g) S ≡ Ok tt)
    × Along X fs gs (effect (act_of f) R) (effect (act_of g) S) (rematch (gives (act_of f).change) (gives (act_of g).change) m)
