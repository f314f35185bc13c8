-- What the calls that read and write one field leave, and how few bytes are written.
-- Assumes nothing.
use Prim.Native.Nat.{ℕ, ◌≤◌, ◌<◌}
use borrow.Author.Tests.{le-leb, lt-leb}
use lib.ListN.{drop, length}
use mathlib.Core.List.{List, [], ◌∷◌, ◌++◌}
use mathlib.Core.Path.{◌≡◌, ap}
use native.Mathlib.Omega.{arith}
use Rattle.std.specs.Prelude.{Result, Ok, Err}
use Rattle.fields.proofs.Passing.{either}
use Rattle.fields.proofs.Writing.{length-field_bytes, length_most}
use Rattle.fields.specs.declared.Field.{Field}
use Rattle.fields.specs.declared.Refusal.{Refusal}
use Rattle.fields.specs.Order.{Test, in_order}
use Rattle.fields.specs.Read.{placed, read_field}
use Rattle.fields.specs.Refusals.{number_of}
use Rattle.fields.specs.Write.{Writing, field_bytes, write_field, writing, writing_checks}
use Rattle.capi.specs.Fronts.{front}
use Rattle.capi.specs.Fields.{field_in, field_places, read_call, read_left, read_places, read_told, too_short, write_call, write_left, write_told}

-- ---- reading
module _ (part : List ℕ) (place : ℕ) (field : List ℕ) where
  pub read_short : length field < read_places → read_left too_short field ≡ read_call part place field
  unfolding read_call
  read_short h = rw (lt-leb read_places (length field) h)

  pub read_told_lem : read_places ≤ length field → (r : Result (Field × ℕ) (Refusal × ℕ)) → r ≡ placed place (read_field part) → read_told r field ≡ read_call part place field
  unfolding read_call
  read_told_lem h r e = rw (le-leb read_places (length field) h, e)

-- ---- writing
module _ (field out answer : List ℕ) where
  pub write_no_field : length field < field_places → write_left too_short out answer ≡ write_call field out answer
  unfolding write_call
  write_no_field h = rw (lt-leb field_places (length field) h)

  pub write_no_answer : field_places ≤ length field → length answer < 1 → write_left too_short out answer ≡ write_call field out answer
  unfolding write_call
  write_no_answer h k = rw (le-leb field_places (length field) h, lt-leb 1 (length answer) k)

  pub write-told : field_places ≤ length field → 1 ≤ length answer → (f : Field) (w : Result ℕ Refusal) (out' : List ℕ) → f ≡ field_in field → writing w out' ≡ write_field f out → write_told w out' answer ≡ write_call field out answer
  unfolding write_call
  write-told h k f w out' start wrote =
      rw (le-leb field_places (length field) h, le-leb 1 (length answer) k)
      (ap (λ (x : Writing). write_told x.answer x.output answer) (rw start at wrote))

  pub write_bytes : (w : Result ℕ Refusal) (n : ℕ) (out' answer' : List ℕ) → w ≡ Ok n → answer' ≡ front (n ∷ []) answer → write_told w out' answer ≡ write_call field out answer → write_left 0 out' answer' ≡ write_call field out answer
  write_bytes w n out' answer' e answered told = rw answered (rw e at told)

  pub write-refused : (w : Result ℕ Refusal) (r : Refusal) (number : ℕ) (out' : List ℕ) → w ≡ Err r → number ≡ number_of r → write_told w out' answer ≡ write_call field out answer → write_left number out' answer ≡ write_call field out answer
  write-refused w r number out' e numbered told = rw numbered (rw e at told)

-- ---- the number of bytes that an answer gives is at most that of the longest field
abbrev bytes_in : Result ℕ Refusal → ℕ
bytes_in (Ok n) = n
bytes_in (Err r) = 0

checked : (n : ℕ) (out out' : List ℕ) (tests : List (Test Refusal)) → bytes_in (in_order (λ r. writing (Err r) out) (writing (Ok n) out') tests).answer ≤ n
checked n out out' [] = omega arith
checked n out out' (t ∷ ts) = either (λ (w : Writing). bytes_in w.answer ≤ n) t.passes (checked n out out' ts) (omega arith)

pub few_bytes : (f : Field) (out out' : List ℕ) (n : ℕ) → writing (Ok n) out' ≡ write_field f out → n ≤ 13
unfolding write_field
few_bytes f out out' n e =
    let same = ap (λ (x : Writing). bytes_in x.answer) e in
    let bytes = field_bytes f in
    omega (arith, same, checked (length bytes) out (bytes ++ drop (length bytes) out) (writing_checks f (length out)), length-field_bytes f, length_most f.tag)
