-- A call moves no more bytes than it was lent, and none where it stops.
-- Assumes nothing.
use Prim.Native.Nat.{ℕ, zero, suc, ◌+◌, ◌-◌, ◌≤◌}
use borrow.Rule.Slice.PartMut.{mid_of, mid_len}
use lib.ListN.{length}
use mathlib.Core.List.{List}
use native.Mathlib.Nat.{le_refl}
use native.Mathlib.Omega.{arith}
use mathlib.Core.Bool.{true, false}
use mathlib.Core.Path.{◌≡◌, refl, sym, subst}
use lib.Dec.{T}
use Rattle.std.specs.Prelude.{Ok, Err}
use Rattle.streams.specs.Answers.{Answer, moved_of, stops}

-- from a place on there are as many bytes as a part that begins there has
pub reaches : (at n : ℕ) (xs : List ℕ) → at ≤ length xs → n ≤ length (mid_of at (length xs - at) xs) → at + n ≤ length xs
reaches at n xs inside few = let lent = mid_len at (length xs) xs (le_refl _) in omega (arith, few, lent, inside)

pub stops_dry : (a : Answer) → stops a ≡ true → moved_of a ≡ 0
stops_dry (Ok zero) e = refl
stops_dry (Ok (suc n)) e = absurd (subst T (sym e) tt)
stops_dry (Err error) e = refl

pub goes_on : (n : ℕ) → (n ≡ 0 → ⊥) → stops (Ok n) ≡ false
goes_on zero some = absurd (some refl)
goes_on (suc n) some = refl
