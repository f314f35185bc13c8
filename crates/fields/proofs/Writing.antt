-- Writing a field whose tag is known comes to the checks of its value, and then to the room for it.
-- Assumes nothing.
use mathlib.Core.Bool.{true, false, Bool}
use mathlib.Core.List.{List, [], ◌∷◌, ◌++◌}
use mathlib.Core.Path.{◌≡◌, refl, sym, ◌∙◌}
use Prim.Native.Nat.{ℕ, ◌+◌, ◌≤◌, ◌<◌}
use native.Mathlib.Omega.{arith}
use borrow.Author.Tests.{le-leb, lt-leb}
use lib.Dec.{leb}
use lib.ListN.{length, drop}
use Rattle.fields.specs.declared.rows.Row.{Row}
use Rattle.fields.specs.declared.Field.{Field}
use Rattle.fields.specs.declared.Refusal.{Refusal}
use Rattle.fields.specs.declared.Refusal.TheVariants.{OutputTooShort, UnknownTag}
use Rattle.std.specs.Prelude.{Result, Ok, Err, ⊤}
use Rattle.fields.specs.Every.{Every}
use Rattle.fields.specs.Bytes.{pack, total}
use Rattle.fields.specs.Order.{Test, in_order, test}
use Rattle.fields.specs.Rows.{is_present, is_tag, length_of, row_of, width_if, widths_of}
use Rattle.fields.specs.Numbers.{numbers_of}
use Rattle.fields.specs.Checks.{value_checks}
use Rattle.fields.specs.Write.{Writing, field_bytes, write_field, writing, writing_checks}
use Rattle.fields.proofs.Digits.{length-pack}
use Rattle.fields.proofs.Passing.{Passes, all_pass, either, every_join, in_order_append, in_order_map}

pub length-field_bytes : (f : Field) → length (field_bytes f) ≡ 3 + length_of f.tag
unfolding field_bytes length_of
length-field_bytes f = omega (arith, length-pack (1 ∷ 2 ∷ widths_of (row_of f.tag)) (f.tag ∷ length_of f.tag ∷ numbers_of f))

-- a field's value has at most the thread, three slots, a cell and a number
width_most : (there : Bool) (width : ℕ) → width_if there width ≤ width
width_most there width = either (λ n. n ≤ width) there (omega arith) (omega arith)

pub length_most : (tag : ℕ) → length_of tag ≤ 10
unfolding length_of widths_of
length_most tag =
    let r = row_of tag in
    omega (arith, width_most (is_present r.0) 1, width_most (is_present r.1) 1, width_most (is_present r.2) 1, width_most r.3 2, width_most r.4 4)

module _ (f : Field) (out : List ℕ) where
  abbrev pub refused : Refusal → Writing
  refused r = writing (Err r) out

  abbrev pub room_test : List (Test Refusal)
  room_test = test (leb (length (field_bytes f)) (length out)) OutputTooShort ∷ []

  abbrev pub wrote : Writing
  wrote = writing (Ok (length (field_bytes f))) (field_bytes f ++ drop (length (field_bytes f)) out)

  -- after the checks of the value
  abbrev pub settled : Result ⊤ Refusal → Writing
  settled (Ok _) = in_order refused wrote room_test
  settled (Err r) = refused r

  pub write_checked : (r : Row) (k : Result ⊤ Refusal) → is_tag f.tag ≡ true → r ≡ row_of f.tag → k ≡ in_order Err (Ok tt) (value_checks r f) → settled k ≡ write_field f out
  unfolding write_field
  write_checked r k known row check =
      rw (known, check, row)
      (in_order_map settled Err (Ok tt) (value_checks (row_of f.tag) f) ∙ sym (in_order_append refused wrote (value_checks (row_of f.tag) f) room_test))

  -- a field that passes every check is written
  pub writes : is_tag f.tag ≡ true → Every Passes (value_checks (row_of f.tag) f) → length (field_bytes f) ≤ length out → write_field f out ≡ wrote
  unfolding write_field
  writes known right room =
      all_pass refused wrote (writing_checks f (length out))
      (known, every_join Passes (value_checks (row_of f.tag) f) room_test right (le-leb (length (field_bytes f)) (length out) room, tt))

  pub write_unknown : is_tag f.tag ≡ false → refused UnknownTag ≡ write_field f out
  unfolding write_field
  write_unknown e = rw e

  pub room_short : length out < 3 + length_of f.tag → refused OutputTooShort ≡ settled (Ok tt)
  room_short h = rw (lt-leb (length (field_bytes f)) (length out) (omega (arith, length-field_bytes f)))

  put_bytes : (r : Row) (n : ℕ) (l : List ℕ) → r ≡ row_of f.tag → n ≡ length_of f.tag
      → l ≡ pack (1 ∷ 2 ∷ widths_of r) (f.tag ∷ n ∷ numbers_of f) ++ drop (total (1 ∷ 2 ∷ widths_of r)) out → l ≡ field_bytes f ++ drop (length (field_bytes f)) out
  unfolding field_bytes
  put_bytes r n l row size put = rw (put, row, size, ← length-pack (1 ∷ 2 ∷ widths_of (row_of f.tag)) (f.tag ∷ length_of f.tag ∷ numbers_of f)) refl

  pub room_enough : (r : Row) (n : ℕ) (l : List ℕ) → r ≡ row_of f.tag → n ≡ length_of f.tag → 3 + n ≤ length out
      → l ≡ pack (1 ∷ 2 ∷ widths_of r) (f.tag ∷ n ∷ numbers_of f) ++ drop (total (1 ∷ 2 ∷ widths_of r)) out → writing (Ok (3 + n)) l ≡ settled (Ok tt)
  room_enough r n l row size h put =
      let m = length-field_bytes f in
      let long : 3 + n ≡ length (field_bytes f) = omega arith in
      rw (put_bytes r n l row size put, long, le-leb (length (field_bytes f)) (length out) (omega arith)) refl
