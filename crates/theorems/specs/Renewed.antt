-- What demand 3 says of a replay's fields, place by place, whatever wrote it: the same fields, but the k-th malloc, from 0, names cell k,
-- which no malloc before it named, and starts with the data that the recorded cell then held. Assumes nothing.
use Rattle.std.specs.Prelude.{ℕ, ◌<◌, ◌≡◌, List, [], ◌∷◌, get_or, length, take}
use Rattle.fields.specs.declared.Field.{Field}
use Rattle.fields.specs.declared.RecordedCell.{RecordedCell}
use Rattle.fields.specs.Every.{Every}
use Rattle.fields.specs.Numbers.{field_with}
use Rattle.rules.specs.State.{State, never_used, fresh, status_of, number_at}
use Rattle.rules.specs.Acts.{gives}
use Rattle.rules.specs.Commands.{act_of}
use Rattle.rules.specs.Run.{run}
use Rattle.rules.specs.Plain.{given_by}

-- field i of a log
abbrev pub field_at : List Field → ℕ → Field
field_at fs i = get_or fs i (field_with 0 [])

-- the state before field i, and how many mallocs came before it
abbrev pub before : List Field → ℕ → State
before fs i = (run (take i fs) fresh).state

abbrev pub mallocs_before : List Field → ℕ → ℕ
mallocs_before fs i = length (given_by (take i fs))

-- field f gives out cell c, the recording being at s after k mallocs, and g is its copy
pub record CopiedMalloc (s : State) (k : ℕ) (c : RecordedCell) (f g : Field) : Type 0 where
  -- the copy gives out the cell that it names, which is cell k
  pub gives : gives (act_of g).change ≡ g.cell ∷ []
  pub cell : g.cell.0 ≡ k
  -- its data is the field's for a cell not used before, else the data which that cell held at that moment
  pub unused : status_of s c.0 ≡ never_used → g.number ≡ f.number
  pub used : (status_of s c.0 ≡ never_used → ⊥) → g.number ≡ number_at s.numbers c.0

-- any field f, and its copy g: all other numbers are the field's own
pub record CopiedField (s : State) (k : ℕ) (f g : Field) : Type 0 where
  pub tag : g.tag ≡ f.tag
  pub thread : g.thread ≡ f.thread
  pub first : g.first ≡ f.first
  pub second : g.second ≡ f.second
  pub third : g.third ≡ f.third
  pub other : gives (act_of f).change ≡ [] → g ≡ f
  pub malloc : (c : RecordedCell) → gives (act_of f).change ≡ c ∷ [] → CopiedMalloc s k c f g

-- gs is the replay of fs
pub record Renewed (fs gs : List Field) : Type 0 where
  pub count : length gs ≡ length fs
  pub each : (i : ℕ) → i < length fs → CopiedField (before fs i) (mallocs_before fs i) (field_at fs i) (field_at gs i)

-- each malloc of a log gets a cell never used before
abbrev pub NewCells : List Field → Type 0
NewCells gs = (i : ℕ) → i < length gs → Every (λ c. status_of (before gs i) c.0 ≡ never_used) (gives (act_of (field_at gs i)).change)
