-- Numbers packed and unpacked: there and back, for any widths.
-- Assumes nothing.
use mathlib.Core.List.{List, [], ◌∷◌, ◌++◌, append_assoc}
use mathlib.Core.Path.{◌≡◌, refl, subst, sym}
use Prim.Native.Nat.{ℕ, zero, suc, ◌+◌, ◌*◌, ◌/◌, ◌%◌, ◌≤◌, ◌<◌}
use native.Mathlib.Omega.{arith}
use lib.ListN.{length, length-drop, take, drop}
use lib.Seq.{drop_at, length-take-le, take-add, take_at}
use Rattle.fields.specs.Every.{AreBytes}
use Rattle.fields.specs.Bytes.{from_bytes, pack, to_bytes, total, unpack}
use Rattle.fields.proofs.Digits.{length_to_bytes}

-- a number fits its width when it is below this
abbrev pub cap : ℕ → ℕ
cap zero = 1
cap (suc width) = 256 * cap width

-- ---- one number
from_to : (width n : ℕ) → n < cap width → from_bytes (to_bytes width n) ≡ n
from_to zero n h = omega arith
from_to (suc width) n h = rw (from_to width (n / 256) (omega arith)) (omega arith)

to_from : (l : List ℕ) → AreBytes l → to_bytes (length l) (from_bytes l) ≡ l
to_from [] b = refl
to_from (x ∷ l) b =
    let h : x < 256 = b.0 in
    let low : (x + 256 * from_bytes l) % 256 ≡ x = omega arith in
    let high : (x + 256 * from_bytes l) / 256 ≡ from_bytes l = omega arith in
    rw (low, high, to_from l b.1) refl

from_below : (l : List ℕ) → AreBytes l → from_bytes l < cap (length l)
from_below [] b = omega arith
from_below (x ∷ l) b =
    let h : x < 256 = b.0 in
    let k : from_bytes l < cap (length l) = from_below l b.1 in
    omega arith

-- ---- bytes of bytes
bytes_take : (n : ℕ) (l : List ℕ) → AreBytes l → AreBytes (take n l)
bytes_take zero l b = tt
bytes_take (suc n) [] b = tt
bytes_take (suc n) (x ∷ l) b = (b.0, bytes_take n l b.1)

pub bytes_drop : (n : ℕ) (l : List ℕ) → AreBytes l → AreBytes (drop n l)
bytes_drop zero l b = b
bytes_drop (suc n) [] b = tt
bytes_drop (suc n) (x ∷ l) b = bytes_drop n l b.1

-- ---- several numbers, each of which fits its width
abbrev pub Fit : List ℕ → List ℕ → Type 0
Fit [] [] = Unit {0}
Fit [] (n ∷ ns) = ⊥
Fit (w ∷ ws) [] = ⊥
Fit (w ∷ ws) (n ∷ ns) = (n < cap w) × Fit ws ns

pub unpack-pack : (ws ns r : List ℕ) → Fit ws ns → unpack ws (pack ws ns ++ r) ≡ ns
unpack-pack [] [] r f = refl
unpack-pack [] (n ∷ ns) r f = absurd f
unpack-pack (w ∷ ws) [] r f = absurd f
unpack-pack (w ∷ ws) (n ∷ ns) r f =
    rw (
      append_assoc (to_bytes w n) (pack ws ns) r,
      take_at (to_bytes w n) (pack ws ns ++ r) w (length_to_bytes w n),
      drop_at (to_bytes w n) (pack ws ns ++ r) w (length_to_bytes w n),
      from_to w n f.0,
      unpack-pack ws ns r f.1,
    ) refl

pub pack-unpack : (ws bs : List ℕ) → AreBytes bs → total ws ≤ length bs → pack ws (unpack ws bs) ≡ take (total ws) bs
pack-unpack [] bs b h = refl
pack-unpack (w ∷ ws) bs b h =
    let n : length (take w bs) ≡ w = length-take-le w bs (omega arith) in
    let p : to_bytes w (from_bytes (take w bs)) ≡ take w bs = subst (λ (k : ℕ). to_bytes k (from_bytes (take w bs)) ≡ take w bs) n (to_from (take w bs) (bytes_take w bs b)) in
    rw (p, pack-unpack ws (drop w bs) (bytes_drop w bs b) (rw (length-drop w bs) (omega arith))) (sym (take-add w (total ws) bs))

pub fit_unpack : (ws bs : List ℕ) → AreBytes bs → total ws ≤ length bs → Fit ws (unpack ws bs)
fit_unpack [] bs b h = tt
fit_unpack (w ∷ ws) bs b h =
    let n : length (take w bs) ≡ w = length-take-le w bs (omega arith) in
    (rw n at (from_below (take w bs) (bytes_take w bs b)), fit_unpack ws (drop w bs) (bytes_drop w bs b) (rw (length-drop w bs) (omega arith)))
