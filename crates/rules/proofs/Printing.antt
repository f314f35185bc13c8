-- A verdict's word and numbers fit the arrays that hold them, and the numbers that count are the verdict's.
-- Assumes nothing.
use mathlib.Core.Path.{◌≡◌, refl}
use Prim.Native.Nat.{◌≤◌}
use native.Mathlib.Omega.{arith}
use lib.ListN.{length, take}
use Rattle.rules.specs.declared.Printed.{Printed}
use Rattle.rules.specs.declared.Verdict.{Verdict}
use Rattle.rules.specs.declared.Verdict.TheVariants.{Accepted, Declined, Raced, Refused}
use Rattle.rules.specs.Verdicts.{line_of, printed_of}

pub record Fits (v : Verdict) (p : Printed) : Type 0 where
  pub letters : p.letters ≤ length p.word
  pub numbers : p.count ≤ 4
  pub held : p.count ≤ length p.numbers
  pub same : take p.count p.numbers ≡ (line_of v).numbers

fits_of : (v : Verdict) → Fits v (printed_of v)
fits_of (Accepted fields mallocs live) = record { letters = omega arith; numbers = omega arith; held = omega arith; same = refl }
fits_of (Raced field thread variable offset) = record { letters = omega arith; numbers = omega arith; held = omega arith; same = refl }
fits_of (Refused r field offset) = record { letters = omega arith; numbers = omega arith; held = omega arith; same = refl }
fits_of (Declined r) = record { letters = omega arith; numbers = omega arith; held = omega arith; same = refl }

pub fits : (v : Verdict) (p : Printed) → p ≡ printed_of v → Fits v p
fits v p e = rw e (fits_of v)
