-- Two results that the contracts of `find_field` and `show_field` allow are equal, and the answer determines the part.
-- Assumes nothing.
use Prim.Native.Nat.{ℕ}
use mathlib.Core.List.{List}
use mathlib.Core.Path.{◌≡◌, ◌∙◌, sym}
use Rattle.rules.specs.declared.Choice.{Choice}
use Rattle.rules.specs.Showing.{Shown, chosen, part_by, part_in, shown_in}

module _ (recorded replay : List ℕ) (choice : Choice) (n : ℕ) where
  pub one_answer : (a a' : Shown) → a ≡ shown_in (chosen choice recorded replay) n → a' ≡ shown_in (chosen choice recorded replay) n → a ≡ a'
  one_answer a a' e e' = e ∙ sym e'

  pub one_part : (p p' : List ℕ) → p ≡ part_in (chosen choice recorded replay) n → p' ≡ part_in (chosen choice recorded replay) n → p ≡ p'
  one_part p p' e e' = e ∙ sym e'

  pub part_of_answer : (a : Shown) (p : List ℕ) → a ≡ shown_in (chosen choice recorded replay) n → p ≡ part_in (chosen choice recorded replay) n
      → p ≡ part_by a (chosen choice recorded replay)
  part_of_answer a p e q = rw e q
