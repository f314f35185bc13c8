-- Numbers in bytes: read at a place of a list, and written one after the other.
-- Assumes nothing.
use mathlib.Core.Bool.{Bool, true, false, cond}
use mathlib.Core.List.{List, [], ◌∷◌, ◌++◌, append_assoc}
use mathlib.Core.Path.{◌≡◌, ◌∙◌, refl, ap, sym}
use Prim.Native.Nat.{ℕ, zero, suc, ◌+◌, ◌/◌, ◌%◌, ◌≤◌, ◌<◌}
use native.Mathlib.Omega.{arith}
use Rattle.std.proofs.Common.{append-nil}
use lib.ListN.{length, length-append, get_or, take, drop}
use lib.Seq.{drop-drop, drop_at, take_at}
use Rattle.std.specs.Prelude.{slice_index}
use Rattle.std.specs.Int.{from_le_bytes, to_le_bytes, w16, w32}
use Rattle.fields.specs.Bytes.{bytes_if, from_bytes, pack, to_bytes, total}
use Rattle.fields.specs.Rows.{width_if}

-- ---- read, the first byte as it stands, and by the library's methods where a row may lack the number
pub first_read : (l : List ℕ) → 0 < length l → get_or l 0 0 ≡ from_bytes (take 1 l)
first_read [] h = absurd (omega arith)
first_read (a ∷ l) h = omega arith

pub one_read : (there : Bool) (l : List ℕ) → width_if there 1 ≤ length l → slice_index (bytes_if there 1 l) 0 ≡ from_bytes (take (width_if there 1) l)
one_read false l h = refl
one_read true [] h = absurd (omega arith)
one_read true (a ∷ l) h = omega arith

pub two_read : (there : Bool) (l : List ℕ) → width_if there 2 ≤ length l → from_le_bytes w16 (bytes_if there 2 l) ≡ from_bytes (take (width_if there 2) l)
two_read false l h = refl
two_read true [] h = absurd (omega arith)
two_read true (a ∷ []) h = absurd (omega arith)
two_read true (a ∷ b ∷ l) h = omega arith

pub four_read : (there : Bool) (l : List ℕ) → width_if there 4 ≤ length l → from_le_bytes w32 (bytes_if there 4 l) ≡ from_bytes (take (width_if there 4) l)
four_read false l h = refl
four_read true [] h = absurd (omega arith)
four_read true (a ∷ []) h = absurd (omega arith)
four_read true (a ∷ b ∷ []) h = absurd (omega arith)
four_read true (a ∷ b ∷ c ∷ []) h = absurd (omega arith)
four_read true (a ∷ b ∷ c ∷ d ∷ l) h = omega arith

-- ---- written
pub length_to_bytes : (width n : ℕ) → length (to_bytes width n) ≡ width
length_to_bytes zero n = refl
length_to_bytes (suc width) n = ap suc (length_to_bytes width (n / 256))

pub length-pack : (ws ns : List ℕ) → length (pack ws ns) ≡ total ws
length-pack [] ns = refl
length-pack (w ∷ ws) [] = rw (length-append (to_bytes w 0) (pack ws []), length_to_bytes w 0, length-pack ws []) refl
length-pack (w ∷ ws) (n ∷ ns) = rw (length-append (to_bytes w n) (pack ws ns), length_to_bytes w n, length-pack ws ns) refl

-- the bytes of the library's methods are those of the definition, where the row has the number
pub one_put : (there : Bool) (n : ℕ) → n < 256 → cond there (n ∷ []) [] ≡ to_bytes (width_if there 1) n
one_put false n h = refl
one_put true n h = let low : n % 256 ≡ n = omega arith in rw low refl

pub two_put : (there : Bool) (n : ℕ) → cond there (to_le_bytes w16 n) [] ≡ to_bytes (width_if there 2) n
two_put false n = refl
two_put true n = refl

pub four_put : (there : Bool) (n : ℕ) → cond there (to_le_bytes w32 n) [] ≡ to_bytes (width_if there 4) n
four_put false n = refl
four_put true n =
    let third : n / 65536 % 256 ≡ n / 256 / 256 % 256 = omega arith in
    let fourth : n / 16777216 % 256 ≡ n / 256 / 256 / 256 % 256 = omega arith in
    rw (third, fourth) refl

-- one number more at the end
pack_more : (ws ns : List ℕ) (w n : ℕ) → length ws ≡ length ns → pack (ws ++ w ∷ []) (ns ++ n ∷ []) ≡ pack ws ns ++ to_bytes w n
pack_more [] [] w n h = append-nil (to_bytes w n)
pack_more [] (m ∷ ns) w n h = absurd (omega arith)
pack_more (v ∷ ws) [] w n h = absurd (omega arith)
pack_more (v ∷ ws) (m ∷ ns) w n h = rw (pack_more ws ns w n (omega arith)) (sym (append_assoc (to_bytes v m) (pack ws ns) (to_bytes w n)))

total_more : (ws : List ℕ) (w : ℕ) → total (ws ++ w ∷ []) ≡ total ws + w
total_more [] w = omega arith
total_more (v ∷ ws) w = omega (arith, total_more ws w)

-- an output whose front, up to a place, holds the numbers put so far; the rest of it is as it was
pub record Holds (out old ws ns : List ℕ) (at : ℕ) : Type 0 where
  pub all : out ≡ pack ws ns ++ drop (total ws) old
  pub place : at ≡ total ws
  pub pairs : length ws ≡ length ns

pub none_put : (old : List ℕ) → Holds old old [] [] 0
none_put old = record { all = refl; place = refl; pairs = refl }

pub put_next : (old out out' ws ns bytes : List ℕ) (at place w n : ℕ) → Holds out old ws ns at → place ≡ at + w
    → out' ≡ take at out ++ bytes ++ drop place out → bytes ≡ to_bytes w n → Holds out' old (ws ++ w ∷ []) (ns ++ n ∷ []) place
put_next old out out' ws ns bytes at place w n h there stored e =
    let front = pack ws ns in
    let rest = drop (total ws) old in
    let size = length-pack ws ns in
    record {
      all =
          stored
          ∙ rw (h.all, e, there, h.place, total_more ws w, pack_more ws ns w n h.pairs, sym (drop-drop w (total ws) (front ++ rest)), take_at front rest (total ws) size, drop_at front rest (total ws) size)
          (ap (λ (r : List ℕ). (front ++ to_bytes w n) ++ r) (drop-drop w (total ws) old));
      place = rw (total_more ws w) (omega (arith, h.place));
      pairs = rw (length-append ws (w ∷ []), length-append ns (n ∷ []), h.pairs) refl;
    }
