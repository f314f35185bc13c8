-- The checks 7 to 10 of a field's numbers, by its row.
-- Assumes nothing.
use Rattle.std.specs.Prelude.{ℕ, ◌+◌, ◌*◌, ◌<◌, ◌≡◌, Bool, true, false, cond, ◌&&◌, ◌||◌, List, [], ◌∷◌, ltb, leb}
use Rattle.fields.specs.declared.rows.Slot.{Slot}
use Rattle.fields.specs.declared.rows.Slot.TheVariants.{Absent, Pointer, Data, Selector}
use Rattle.fields.specs.declared.rows.Row.{Row}
use Rattle.fields.specs.declared.Field.{Field}
use Rattle.fields.specs.declared.Refusal.{Refusal}
use Rattle.fields.specs.declared.Refusal.TheVariants.{UnknownThread, ForeignVariable, UnknownSelector, UnknownCell}
use Rattle.fields.specs.Limits.{threads, shared_variables, owned_variables, selectors, cells}
use Rattle.fields.specs.Order.{Test, test}

-- numbers 0 to 15 are shared; thread t owns 16 + 8t to 23 + 8t, and may name no other thread's
unfoldable pub may_name : ℕ → ℕ → Bool
may_name t x = ltb x shared_variables || (leb (shared_variables + owned_variables * t) x && ltb x (shared_variables + owned_variables * t + owned_variables))

abbrev pub names_variable : Slot → Bool
names_variable Absent = false
names_variable Pointer = true
names_variable Data = true
names_variable Selector = false

abbrev pub is_named : ℕ → Slot → ℕ → Bool
is_named t slot x = cond (names_variable slot) (may_name t x) true

abbrev pub is_selected : Slot → ℕ → Bool
is_selected Absent x = true
is_selected Pointer x = true
is_selected Data x = true
is_selected Selector x = ltb x selectors

abbrev pub every_slot : (Slot → ℕ → Bool) → Row → Field → Bool
every_slot right r f = right r.0 f.first && (right r.1 f.second && right r.2 f.third)

-- what a call of a slot and a number may answer is what a function says of them
abbrev pub Computes : (Slot → ℕ → Bool → Type 0) → (Slot → ℕ → Bool) → Type 0
Computes answers right = (slot : Slot) (x : ℕ) (r : Bool) → x < 256 → answers slot x r → r ≡ right slot x

abbrev pub is_cell : Bool → ℕ → Bool
is_cell there c = cond there (ltb c cells) true

abbrev pub value_checks : Row → Field → List (Test Refusal)
value_checks r f =
    test (ltb f.thread threads) UnknownThread
    ∷ test (every_slot (is_named f.thread) r f) ForeignVariable
    ∷ test (every_slot is_selected r f) UnknownSelector
    ∷ test (is_cell r.3 f.cell.0) UnknownCell
    ∷ []
