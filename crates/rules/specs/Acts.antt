-- A command is a guard and a change over the paper's pointer and data expressions (source 004, section 2).
-- Here: what an expression stands for, and which pointer variables and cells the checks of a command look at. Assumes nothing.
use Rattle.std.specs.Prelude.{ℕ, ◌+◌, ◌*◌, ◌%◌, List, [], ◌∷◌, ◌++◌}
use Rattle.fields.specs.declared.RecordedCell.{RecordedCell}
use Rattle.rules.specs.declared.Place.{Place}
use Rattle.rules.specs.declared.Place.TheVariants.{PointerWord, SelectorWord}
use Rattle.rules.specs.declared.DataPlace.{DataPlace}
use Rattle.rules.specs.declared.DataPlace.TheVariants.{VariableNumber, CellNumber}
use Rattle.rules.specs.declared.PExp.{PExp}
use Rattle.rules.specs.declared.PExp.TheVariants.{PointerVariable, SelectorOf}
use Rattle.rules.specs.declared.DExp.{DExp}
use Rattle.rules.specs.declared.DExp.TheVariants.{DataVariable, DataOf}
use Rattle.rules.specs.declared.Value.{Value}
use Rattle.rules.specs.declared.Value.TheVariants.{Held, Constant, Sum}
use Rattle.rules.specs.declared.Guard.{Guard}
use Rattle.rules.specs.declared.Guard.TheVariants.{Always, Same, Equal}
use Rattle.rules.specs.declared.Change.{Change}
use Rattle.rules.specs.declared.Change.TheVariants.{Stay, Allocate, Release, Move, Put}
use Rattle.rules.specs.declared.Act.{Act}
use Rattle.rules.specs.Words.{cell_of, word_at}
use Rattle.rules.specs.State.{State, number_at, datum_in}

-- ---- the place that an expression names, and the number that a value is
abbrev pub place_in : List ℕ → PExp → Place
place_in pointers (PointerVariable p) = PointerWord p
place_in pointers (SelectorOf p sel) = SelectorWord (2 * cell_of (word_at pointers p) + sel)

abbrev pub place : State → PExp → Place
place s e = place_in s.pointers e

abbrev pub data_place_in : List ℕ → DExp → DataPlace
data_place_in pointers (DataVariable x) = VariableNumber x
data_place_in pointers (DataOf p) = CellNumber (cell_of (word_at pointers p))

abbrev pub data_place : State → DExp → DataPlace
data_place s e = data_place_in s.pointers e

abbrev pub value_in : List ℕ → List ℕ → List ℕ → Value → ℕ
value_in pointers variables numbers (Held e) = datum_in variables numbers (data_place_in pointers e)
value_in pointers variables numbers (Constant n) = n
value_in pointers variables numbers (Sum y z) = (number_at variables y + number_at variables z) % 4294967296

abbrev pub value : State → Value → ℕ
value s v = value_in s.pointers s.variables s.numbers v

-- ---- the pointer variables that are gone through: by an expression, by what is assigned to and by what is assigned
abbrev pub pointer_through : PExp → List ℕ
pointer_through (PointerVariable p) = []
pointer_through (SelectorOf p sel) = p ∷ []

abbrev pub data_through : DExp → List ℕ
data_through (DataVariable x) = []
data_through (DataOf p) = p ∷ []

abbrev pub value_through : Value → List ℕ
value_through (Held e) = data_through e
value_through (Constant n) = []
value_through (Sum y z) = []

abbrev pub target : Change → List ℕ
target Stay = []
target (Allocate p c d) = []
target (Release p) = []
target (Move x y) = pointer_through x
target (Put x v) = data_through x

abbrev pub source : Change → List ℕ
source Stay = []
source (Allocate p c d) = []
source (Release p) = []
source (Move x y) = pointer_through y
source (Put x v) = value_through v

abbrev pub through : Change → List ℕ
through c = target c ++ source c

-- ---- where a race is looked for: those asserted on, p before q; the one freed; those gone through
abbrev pub compared : Guard → List ℕ
compared Always = []
compared (Same wanted p q) = p ∷ q ∷ []
compared (Equal wanted x y) = []

abbrev pub frees : Change → List ℕ
frees Stay = []
frees (Allocate p c d) = []
frees (Release p) = p ∷ []
frees (Move x y) = []
frees (Put x v) = []

abbrev pub touched : Act → List ℕ
touched a = compared a.guard ++ (frees a.change ++ through a.change)

-- ---- the cell that a malloc gives out
abbrev pub gives : Change → List RecordedCell
gives Stay = []
gives (Allocate p c d) = c ∷ []
gives (Release p) = []
gives (Move x y) = []
gives (Put x v) = []
