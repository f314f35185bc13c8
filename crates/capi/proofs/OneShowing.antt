-- What the call that shows a field leaves. Assumes nothing.
use Prim.Native.Nat.{ℕ, ◌≤◌, ◌<◌}
use borrow.Author.Tests.{le-leb, lt-leb}
use lib.ListN.{length}
use mathlib.Core.List.{List, [], ◌∷◌}
use mathlib.Core.Path.{◌≡◌, sym}
use Rattle.std.specs.Prelude.{Ok, Err}
use Rattle.fields.specs.declared.Refusal.{Refusal}
use Rattle.fields.specs.Refusals.{number_of}
use Rattle.rules.specs.declared.Part.{Part}
use Rattle.rules.specs.Showing.{Shown, shown_in}
use Rattle.capi.specs.Fields.{too_short}
use Rattle.capi.specs.Fronts.{front}
use Rattle.capi.specs.Showing.{part_places, show_call, show_left}

module _ (log : List ℕ) (number : ℕ) (part : List ℕ) where
  pub show_short : (returns : ℕ) → returns ≡ too_short → length part < part_places → show_left returns part ≡ show_call log number part
  unfolding show_call
  show_short returns e h = rw (e, lt-leb part_places (length part) h)

  module _ (room : part_places ≤ length part) (shown : Shown) (found : shown ≡ shown_in log number) where
    pub show_part : (f : Part) (part' : List ℕ) → shown ≡ Ok f → part' ≡ front (f.at ∷ f.size ∷ []) part → show_left 0 part' ≡ show_call log number part
    unfolding show_call
    show_part f part' e put = rw (put, le-leb part_places (length part) room, sym found, e)

    pub show_refused : (why : Refusal) (field returns : ℕ) → shown ≡ Err (why, field) → returns ≡ number_of why → show_left returns part ≡ show_call log number part
    unfolding show_call
    show_refused why field returns e numbered = rw (numbered, le-leb part_places (length part) room, sym found, e)
