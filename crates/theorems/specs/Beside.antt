-- The rules beside source 004: its notions as they are read off a state, and its commands as the commands of the rules say them.
-- Where document 01 differs from the paper, or the paper is silent, a comment says so. Assumes nothing.
use Rattle.std.specs.Prelude.{ℕ, ◌+◌, ◌*◌, ◌%◌, ◌≡◌, Bool, true, false, not, cond, ◌⊎◌, List, [], ◌∷◌, ◌++◌, eqb, get_or, Ok, Err}
use Rattle.fields.specs.declared.Field.{Field}
use Rattle.fields.specs.declared.RecordedCell.{RecordedCell}
use Rattle.fields.specs.Every.{Every}
use Rattle.rules.specs.declared.PExp.TheVariants.{PointerVariable, SelectorOf}
use Rattle.rules.specs.declared.DExp.TheVariants.{DataVariable, DataOf}
use Rattle.rules.specs.declared.Value.TheVariants.{Held, Constant, Sum}
use Rattle.rules.specs.declared.Guard.{Guard}
use Rattle.rules.specs.declared.Guard.TheVariants.{Always, Same, Equal}
use Rattle.rules.specs.declared.Change.{Change}
use Rattle.rules.specs.declared.Change.TheVariants.{Allocate, Release, Move, Put}
use Rattle.rules.specs.declared.Act.{Act}
use Rattle.rules.specs.declared.Place.{Place}
use Rattle.rules.specs.declared.Place.TheVariants.{PointerWord, SelectorWord}
use Rattle.rules.specs.Words.{is_valid, cell_of, is_unset}
use Rattle.rules.specs.State.{State, never_used, freed, status_of, number_at, word, pointer}
use Rattle.rules.specs.Acts.{gives}
use Rattle.rules.specs.Commands.{does, asserts, act_of}
use Rattle.rules.specs.Check.{Answer, check}
use Rattle.rules.specs.Effect.{effect}
use Rattle.theorems.specs.Paper.{Selector, index, Cond, same_pointers, same_data, negated, Com, Assert, Malloc, Free, Load, Store, Copy, ReadData, WriteData, Compute, Adr, seg, cell, PExp, pointer_var, next_of, DExp, data_var, data_of, Partial, undefined, defined, Update, pointer_to, data_to, Computation, then, heap_of, freed_in, valid_in, contained, NotValid, PointerRace, RaceFree, Rule, MemoryManaged}

-- ---- where document 01 differs from the paper, or the paper leaves a choice
-- Sizes: the paper bounds neither variables, addresses nor computations; 3, 8, 10 and 11 are limits of document 01.
-- Threads: that a thread names only shared variables and its own is the paper's typing, and reading check 8.
-- Start: the paper's data variables hold arbitrary values, document 01's hold 0.
-- Malloc: which rule applies, the address and a new cell's data are choices in the paper; the log names the address and the data.
-- Refusals: the paper has no computation that goes through seg, gives out an address in use that is not freed, or fails an
-- assertion; a log is refused there, with 12, 13 and 14.
-- Assertions on an unset pointer: the paper passes = and ≠ wherever a side is seg. Order 4 takes unset for nil: two unset handles are
-- equal, and one that is unset differs from every cell. So what holds passes in the paper, and the two agree where no side is unset.
-- Races: Definition 2 speaks of computations, so of commands that have a step; document 01 looks for a race first, so that a race is
-- also a command with no step whose pointer is not valid, as going through an unset pointer that lost its validity.

-- ---- the paper's heap in a state
-- a word's address: seg is a word that is unset
abbrev pub adr_of : ℕ → Adr
adr_of w = cond (is_unset w) seg (cell (cell_of w))

abbrev pub place_of : PExp → Place
place_of (pointer_var p) = PointerWord p
place_of (next_of a i) = SelectorWord (2 * a + index i)

-- The selectors and the data of an address that was never allocated are undefined. (A state holds words and numbers there, too.)
abbrev pub is_allocated : State → ℕ → Bool
is_allocated s a = not (eqb (status_of s a) never_used)

abbrev pub is_there : State → PExp → Bool
is_there s (pointer_var p) = true
is_there s (next_of a i) = is_allocated s a

abbrev pub pval_of : State → PExp → Partial Adr
pval_of s e = cond (is_there s e) (defined (adr_of (word s (place_of e)))) undefined

abbrev pub dval_of : State → DExp → Partial ℕ
dval_of s (data_var x) = defined (number_at s.variables x)
dval_of s (data_of a) = cond (is_allocated s a) (defined (number_at s.numbers a)) undefined

abbrev pub valid_of : State → PExp → Bool
valid_of s e = is_valid (word s (place_of e))

abbrev pub freed_of : State → ℕ → Bool
freed_of s a = eqb (status_of s a) freed

-- the words, marks and statuses of s are exactly the heap, the valid expressions and the freed addresses of τ
pub record Shows (s : State) (τ : Computation) : Type 0 where
  pub pointers : (e : PExp) → (heap_of τ).pval e ≡ pval_of s e
  pub numbers : (e : DExp) → (heap_of τ).dval e ≡ dval_of s e
  pub marks : (e : PExp) → valid_in τ e ≡ valid_of s e
  pub frees : (a : ℕ) → freed_in τ a ≡ freed_of s a

-- ---- the paper's commands of an act
-- the condition that a guard asserts
pub data Asserts : Guard → Cond → Type 0 where
  says_same : {p q : ℕ} → Asserts (Same true p q) (same_pointers p q)
  says_apart : {p q : ℕ} → Asserts (Same false p q) (negated (same_pointers p q))
  says_equal : {x y : ℕ} → Asserts (Equal true x y) (same_data x y)
  says_unequal : {x y : ℕ} → Asserts (Equal false x y) (negated (same_data x y))

-- the pointers that a guard compares are set
abbrev pub NoSeg : State → Guard → Type 0
NoSeg s Always = Unit {0}
NoSeg s (Same wanted p q) = (is_unset (pointer s p) ≡ false) × (is_unset (pointer s q) ≡ false)
NoSeg s (Equal wanted x y) = Unit {0}

-- the command that a change is: x := constant and x := y + z are operations op, which the paper leaves open
abbrev pub wrapping_sum : List ℕ → ℕ
wrapping_sum vs = (get_or vs 0 0 + get_or vs 1 0) % 4294967296

pub data Says : Change → Com → Type 0 where
  says_malloc : {p d : ℕ} {c : RecordedCell} → Says (Allocate p c d) (Malloc p)
  says_free : {p : ℕ} → Says (Release p) (Free p)
  says_copy : {p q : ℕ} → Says (Move (PointerVariable p) (PointerVariable q)) (Copy p q)
  says_load : {p q : ℕ} (i : Selector) → Says (Move (PointerVariable p) (SelectorOf q (index i))) (Load p q i)
  says_store : {p q : ℕ} (i : Selector) → Says (Move (SelectorOf p (index i)) (PointerVariable q)) (Store p i q)
  says_read : {x p : ℕ} → Says (Put (DataVariable x) (Held (DataOf p))) (ReadData x p)
  says_write : {p x : ℕ} → Says (Put (DataOf p) (Held (DataVariable x))) (WriteData p x)
  says_constant : {x n : ℕ} → Says (Put (DataVariable x) (Constant n)) (Compute x (λ vs. n) [])
  says_sum : {x y z : ℕ} → Says (Put (DataVariable x) (Sum y z)) (Compute x wrapping_sum (y ∷ z ∷ []))

-- An act takes its change, its assertion, or both: the assertion and then the change, in a row, as the paper's cas does.
-- A change that is guarded gives out no cell: 11 comes before a race, so it would hide a race of the assertion.
pub data Takes : Act → List Com → Type 0 where
  change : {m : Change} {c : Com} → Says m c → Takes (does m) (c ∷ [])
  assertion : {g : Guard} {k : Cond} → Asserts g k → Takes (asserts g) (Assert k ∷ [])
  both : {g : Guard} {k : Cond} {m : Change} {c : Com} → Asserts g k → Says m c → gives m ≡ [] → Takes (record { guard = g; change = m }) (Assert k ∷ c ∷ [])

-- One of the commands raises a pointer race. All are looked at before the first is done, as document 01 does: that is the same for
-- the command after an assertion, which changes neither the heap nor what is valid.
abbrev pub RaceIn : (PExp → Bool) → List Com → Type 0
RaceIn valid [] = ⊥
RaceIn valid (c ∷ cs) = PointerRace valid c ⊎ RaceIn valid cs

-- the pointers of which Definition 2 speaks, command by command; and that v is the first of some pointers that is not valid
abbrev pub contained_in : List Com → List ℕ
contained_in [] = []
contained_in (c ∷ cs) = contained c ++ contained_in cs

abbrev pub FirstNotValid : (PExp → Bool) → List ℕ → ℕ → Type 0
FirstNotValid valid [] v = ⊥
FirstNotValid valid (p ∷ ps) v = (NotValid valid p × (p ≡ v)) ⊎ ((valid (pointer_var p) ≡ true) × FirstNotValid valid ps v)

-- ---- a log as a computation
-- the fields that pass, up to the first that does not
abbrev pub before_stop : Answer → Field → List Field → List Field
before_stop (Ok _) f later = f ∷ later
before_stop (Err stop) f later = []

abbrev pub passing : List Field → State → List Field
passing [] s = []
passing (f ∷ fs) s = before_stop (check (act_of f) s) f (passing fs (effect (act_of f) s))

-- the address that malloc returns: both of its rules give it to p first
abbrev pub returned : List Update → Partial Adr
returned [] = undefined
returned (pointer_to e a ∷ ups) = defined a
returned (data_to e d ∷ ups) = undefined

-- an update gives out the cell that is named, where one is
abbrev pub Returns : List Update → List RecordedCell → Type 0
Returns up named = Every (λ c. returned up ≡ defined (cell c.0)) named

-- τ becomes σ by steps of the memory-managed semantics: these commands in a row, by one thread. A malloc returns the cell that is named
abbrev pub Steps : ℕ → List RecordedCell → Computation → List Com → Computation → Type 0
Steps thread named τ [] σ = τ ≡ σ
Steps thread named τ (c ∷ cs) σ =
    (up : List Update)
    × Rule (heap_of τ) (freed_in τ) c up
    × Returns up named
    × Steps thread named (then τ (record { thread = thread; command = c; up = up })) cs σ

-- σ is τ followed by the commands of some fields, each by the field's thread
abbrev pub Extends : Computation → List Field → Computation → Type 0
Extends τ [] σ = τ ≡ σ
Extends τ (f ∷ fs) σ = (cs : List Com) × (ρ : Computation) × Takes (act_of f) cs × Steps f.thread (gives (act_of f).change) τ cs ρ × Extends ρ fs σ

-- with these fields τ becomes a computation of the memory-managed semantics that has no pointer race, and that shows in the state s
pub record Computed (τ : Computation) (fs : List Field) (s : State) : Type 0 where
  pub computation : Computation
  pub takes : Extends τ fs computation
  pub managed : MemoryManaged computation
  pub race_free : RaceFree computation
  pub shows : Shows s computation
