-- The replay of a log: the k-th malloc, from 0, names cell k. Its data is the field's for a cell not used before, else the data
-- which that cell held at that moment. All other bytes equal the log's. Assumes nothing.
use Rattle.std.specs.Prelude.{ℕ, cond, List, [], ◌∷◌, ◌++◌, eqb}
use Rattle.fields.specs.declared.Field.{Field}
use Rattle.fields.specs.declared.RecordedCell.{RecordedCell}
use Rattle.fields.specs.Write.{field_bytes}
use Rattle.rules.specs.declared.ReplayCell.{ReplayCell}
use Rattle.rules.specs.declared.Change.{Change}
use Rattle.rules.specs.declared.Change.TheVariants.{Stay, Allocate, Release, Move, Put}
use Rattle.rules.specs.declared.Act.{Act}
use Rattle.rules.specs.State.{State, never_used, fresh, status_of, number_at}
use Rattle.rules.specs.Acts.{gives}
use Rattle.rules.specs.Commands.{act_of}
use Rattle.rules.specs.Effect.{effect}
use Rattle.rules.specs.Log.{parse}

-- ---- the cells of the recording and those of the replay
-- A replay is a log of its own, and its fields name cells of the type that the fields of every log do. Here alone the number of a
-- replay cell becomes such a cell; the line after reads it back. No recorded cell goes either way.
abbrev pub to_replay_log : ReplayCell → RecordedCell
to_replay_log k = record { 0 = k.0 }

abbrev pub from_replay_log : RecordedCell → ReplayCell
from_replay_log c = record { 0 = c.0 }

-- the replay's cell of each live recorded cell
abbrev pub Matching : Type 0
Matching = RecordedCell → ReplayCell

-- no cell is live at the start, so that nothing is said yet
abbrev pub start : Matching
start c = record { 0 = 0 }

-- after a command and its copy, by the cells that they give out: a recorded cell matches the cell named by the replay's copy of
-- the malloc that last gave it out
abbrev pub rematch : List RecordedCell → List RecordedCell → Matching → Matching
rematch [] copies m = m
rematch (c ∷ cs) [] m = m
rematch (c ∷ cs) (k ∷ copies) m = rematch cs copies (λ r. record { 0 = cond (eqb c.0 r.0) (from_replay_log k).0 (m r).0 })

-- ---- the copy of a command, the recording being at s: a malloc names cell k
-- the data that cell c starts with, given out by a malloc with data d: d where it was not used before, else what it held
unfoldable pub starting_data : State → RecordedCell → ℕ → ℕ
starting_data s c d = cond (eqb (status_of s c.0) never_used) d (number_at s.numbers c.0)

abbrev pub copy_change : State → ReplayCell → Change → Change
copy_change s k Stay = Stay
copy_change s k (Allocate p c d) = Allocate p (to_replay_log k) (starting_data s c d)
copy_change s k (Release p) = Release p
copy_change s k (Move x y) = Move x y
copy_change s k (Put x v) = Put x v

abbrev pub copy_act : State → ReplayCell → Act → Act
copy_act s k a = record { guard = a.guard; change = copy_change s k a.change }

-- ---- the copy of a field: the cell and the data of a malloc's copy, and all other numbers the field's own
abbrev pub cell_from : List RecordedCell → RecordedCell → RecordedCell
cell_from [] own = own
cell_from (c ∷ cs) own = c

abbrev pub data_from : Change → ℕ → ℕ
data_from Stay own = own
data_from (Allocate p c d) own = d
data_from (Release p) own = own
data_from (Move x y) own = own
data_from (Put x v) own = own

abbrev pub recast : Change → Field → Field
recast copy f =
    record {
      tag = f.tag;
      thread = f.thread;
      first = f.first;
      second = f.second;
      third = f.third;
      cell = cell_from (gives copy) f.cell;
      number = data_from copy f.number;
    }

abbrev pub copy_field : State → ReplayCell → Field → Field
copy_field s k f = recast (copy_change s k (act_of f).change) f

-- ---- the replay of the fields that are left, the recording being at s
-- the tally says how many mallocs came before, so which malloc the next one is
abbrev pub next_cell : State → ReplayCell
next_cell s = record { 0 = s.mallocs }

abbrev pub replay : State → List Field → List Field
replay s [] = []
replay s (f ∷ fs) = copy_field s (next_cell s) f ∷ replay (effect (act_of f) s) fs

-- ---- as bytes: of a log of at most n fields
abbrev pub bytes_of : List Field → List ℕ
bytes_of [] = []
bytes_of (f ∷ fs) = field_bytes f ++ bytes_of fs

unfoldable pub replay_bytes : ℕ → List ℕ → List ℕ
replay_bytes n log = bytes_of (replay fresh (parse n log).fields)
