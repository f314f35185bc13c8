-- What is judged: the board, the heap and the tally that the caller lends, how they start, and how they are read and written.
-- Assumes nothing.
use Rattle.std.specs.Prelude.{ℕ, ◌*◌, List, get_or, set, replicate}
use Rattle.fields.specs.Limits.{cells, selectors as selectors_of_cell}
use Rattle.rules.specs.declared.Board.{Board}
use Rattle.rules.specs.declared.Heap.{Heap}
use Rattle.rules.specs.declared.Tally.{Tally}
use Rattle.rules.specs.declared.Place.{Place}
use Rattle.rules.specs.declared.Place.TheVariants.{PointerWord, SelectorWord}
use Rattle.rules.specs.declared.DataPlace.{DataPlace}
use Rattle.rules.specs.declared.DataPlace.TheVariants.{VariableNumber, CellNumber}
use Rattle.rules.specs.Words.{unset, word_at}

abbrev pub board_pointers : ℕ
board_pointers = 80

abbrev pub board_variables : ℕ
board_variables = 80

-- cell a's are at 2a and 2a + 1
abbrev pub heap_selectors : ℕ
heap_selectors = cells * selectors_of_cell

-- ---- the status of a cell
abbrev pub never_used : ℕ
never_used = 0

abbrev pub live : ℕ
live = 1

abbrev pub freed : ℕ
freed = 2

pub record State : Type 0 where
  -- words
  pub pointers : List ℕ
  pub selectors : List ℕ
  -- data: of the variables, of the cells
  pub variables : List ℕ
  pub numbers : List ℕ
  -- of each cell
  pub status : List ℕ
  -- of the tally: fields done and mallocs done; its live cells are counted from the statuses (tally_of, Run.antt)
  pub fields : ℕ
  pub mallocs : ℕ

-- the state of what the code holds
abbrev pub state_of : Board → Tally → List ℕ → List ℕ → List ℕ → State
state_of board tally selectors numbers status =
    record {
      pointers = board.pointers;
      selectors = selectors;
      variables = board.variables;
      numbers = numbers;
      status = status;
      fields = tally.fields;
      mallocs = tally.mallocs;
    }

-- ---- at the start all words are unset and valid, all data 0, every status 0, the tally 0
abbrev pub fresh_board : Board
fresh_board = record { pointers = replicate board_pointers unset; variables = replicate board_variables 0 }

abbrev pub fresh_heap : Heap
fresh_heap = record { selectors = replicate heap_selectors unset; numbers = replicate cells 0; status = replicate cells never_used }

abbrev pub fresh_tally : Tally
fresh_tally = record { fields = 0; mallocs = 0; live = 0 }

unfoldable pub fresh : State
fresh = state_of fresh_board fresh_tally fresh_heap.selectors fresh_heap.numbers fresh_heap.status

-- ---- a state with some of its parts put anew
abbrev pub with_words : List ℕ → List ℕ → State → State
with_words pointers selectors s =
    record {
      pointers = pointers;
      selectors = selectors;
      variables = s.variables;
      numbers = s.numbers;
      status = s.status;
      fields = s.fields;
      mallocs = s.mallocs;
    }

abbrev pub with_data : List ℕ → List ℕ → State → State
with_data variables numbers s =
    record {
      pointers = s.pointers;
      selectors = s.selectors;
      variables = variables;
      numbers = numbers;
      status = s.status;
      fields = s.fields;
      mallocs = s.mallocs;
    }

abbrev pub with_status : List ℕ → State → State
with_status status s =
    record {
      pointers = s.pointers;
      selectors = s.selectors;
      variables = s.variables;
      numbers = s.numbers;
      status = status;
      fields = s.fields;
      mallocs = s.mallocs;
    }

abbrev pub with_tally : ℕ → ℕ → State → State
with_tally fields mallocs s =
    record {
      pointers = s.pointers;
      selectors = s.selectors;
      variables = s.variables;
      numbers = s.numbers;
      status = s.status;
      fields = fields;
      mallocs = mallocs;
    }

abbrev pub pointer : State → ℕ → ℕ
pointer s p = word_at s.pointers p

abbrev pub status_of : State → ℕ → ℕ
status_of s c = get_or s.status c never_used

abbrev pub number_at : List ℕ → ℕ → ℕ
number_at numbers i = get_or numbers i 0

-- ---- the word at a place. What takes only a part of the state is said of that part, under a name that ends in _in
abbrev pub word_in : List ℕ → List ℕ → Place → ℕ
word_in pointers selectors (PointerWord i) = word_at pointers i
word_in pointers selectors (SelectorWord i) = word_at selectors i

abbrev pub word : State → Place → ℕ
word s x = word_in s.pointers s.selectors x

abbrev pub pointers_with : Place → ℕ → List ℕ → List ℕ
pointers_with (PointerWord i) w pointers = set pointers i w
pointers_with (SelectorWord i) w pointers = pointers

abbrev pub selectors_with : Place → ℕ → List ℕ → List ℕ
selectors_with (PointerWord i) w selectors = selectors
selectors_with (SelectorWord i) w selectors = set selectors i w

unfoldable pub write : Place → ℕ → State → State
write x w s = with_words (pointers_with x w s.pointers) (selectors_with x w s.selectors) s

-- ---- the number at a place
abbrev pub datum_in : List ℕ → List ℕ → DataPlace → ℕ
datum_in variables numbers (VariableNumber i) = number_at variables i
datum_in variables numbers (CellNumber i) = number_at numbers i

abbrev pub datum : State → DataPlace → ℕ
datum s x = datum_in s.variables s.numbers x

abbrev pub variables_with : DataPlace → ℕ → List ℕ → List ℕ
variables_with (VariableNumber i) n variables = set variables i n
variables_with (CellNumber i) n variables = variables

abbrev pub numbers_with : DataPlace → ℕ → List ℕ → List ℕ
numbers_with (VariableNumber i) n numbers = numbers
numbers_with (CellNumber i) n numbers = set numbers i n

unfoldable pub store : DataPlace → ℕ → State → State
store x n s = with_data (variables_with x n s.variables) (numbers_with x n s.numbers) s
