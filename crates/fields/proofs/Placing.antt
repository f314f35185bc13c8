-- What the reader tells, with its part's place.
-- Assumes nothing.
use Prim.Native.Nat.{ℕ}
use mathlib.Core.Path.{◌≡◌, ap, sym}
use Rattle.std.specs.Prelude.{Ok, Err}
use Rattle.fields.specs.declared.Field.{Field}
use Rattle.fields.specs.declared.Refusal.{Refusal}
use Rattle.fields.specs.Read.{Reading, placed}

pub placed_got : (at : ℕ) (x : Reading) (f : Field) (offset : ℕ) → placed at x ≡ Ok (f, offset) → (x ≡ Ok f) × (offset ≡ at)
placed_got at (Ok g) f offset e =
    let same : ◌≡◌ {A = Field × ℕ} (g, at) (f, offset) = cc in
    (ap (λ p. Ok p.0) same, ap (λ p. p.1) (sym same))
placed_got at (Err r) f offset e = cc

pub placed-refused : (at : ℕ) (x : Reading) (r : Refusal) (offset : ℕ) → placed at x ≡ Err (r, offset) → (x ≡ Err r) × (offset ≡ at)
placed-refused at (Ok g) r offset e = cc
placed-refused at (Err q) r offset e =
    let same : ◌≡◌ {A = Refusal × ℕ} (q, at) (r, offset) = cc in
    (ap (λ p. Err p.0) same, ap (λ p. p.1) (sym same))
