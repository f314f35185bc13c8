-- The call that shows a field of a log: where its bytes begin in the log, and how many they are. A replay is a log too, so the call
-- takes one log only. It returns 0 or the number of a refusal, 1 or 16; 15 where the list has no room for both numbers, and then the
-- log was not looked at. Assumes nothing.
use Rattle.std.specs.Prelude.{ℕ, leb, length, cond, List, [], ◌∷◌, Ok, Err}
use Rattle.fields.specs.Refusals.{number_of}
use Rattle.rules.specs.Showing.{Shown, shown_in}
use Rattle.capi.specs.Fields.{too_short}
use Rattle.capi.specs.Fronts.{front}

abbrev pub part_places : ℕ
part_places = 2

-- the number returned, and the list afterwards
pub record ShowLeft : Type 0 where
  pub returns : ℕ
  pub part : List ℕ

abbrev pub show_left : ℕ → List ℕ → ShowLeft
show_left returns part = record { returns = returns; part = part }

abbrev pub show_told : Shown → List ℕ → ShowLeft
show_told (Ok found) part = show_left 0 (front (found.at ∷ found.size ∷ []) part)
show_told (Err (r, field)) part = show_left (number_of r) part

unfoldable pub show_call : List ℕ → ℕ → List ℕ → ShowLeft
show_call log number part = cond (leb part_places (length part)) (show_told (shown_in log number) part) (show_left too_short part)
