-- Demand 2's last sentence: fields read and written again give the same bytes; every writable field reads back as itself.
-- Assumes nothing.
use mathlib.Core.Bool.{Bool, true, false, cond}
use mathlib.Core.List.{List, [], ◌∷◌, ◌++◌}
use mathlib.Core.Path.{◌≡◌, refl, sym, ap, subst}
use Prim.Native.Nat.{ℕ, zero, suc, ◌+◌, ◌*◌, ◌/◌, ◌%◌, ◌≤◌, ◌<◌}
use native.Mathlib.Omega.{arith}
use borrow.Author.Tests.{eq-eqb, eqb-true, le-leb, leb-true, ltb-true, ne_eqb}
use lib.Dec.{eqb, leb}
use lib.ListN.{length, length-append, take, drop, take-append-drop}
use lib.Seq.{drop-drop, take-append_seam}
use Rattle.fields.specs.declared.rows.Slot.{Slot}
use Rattle.fields.specs.declared.rows.Slot.TheVariants.{Absent, Pointer, Data, Selector}
use Rattle.fields.specs.declared.Field.{Field}
use Rattle.fields.specs.declared.Refusal.{Refusal}
use Rattle.std.specs.Prelude.{Ok, Err}
use Rattle.fields.specs.Every.{AreBytes, Every}
use Rattle.fields.specs.Bytes.{pack, to_bytes, total, unpack}
use Rattle.fields.specs.Rows.{is_present, is_tag, length_of, row_of, width_if, widths_of}
use Rattle.fields.specs.Numbers.{Held, field_with, itself, numbers_of, present}
use Rattle.fields.specs.Checks.{is_cell, is_named, is_selected, value_checks}
use Rattle.fields.specs.Read.{field_of, framing_checks, read_field, tag_in, value_in}
use Rattle.fields.specs.Write.{Writing, field_bytes, write_field, writing, writing_checks}
use Rattle.fields.proofs.Digits.{length-pack}
use Rattle.fields.proofs.Packing.{Fit, cap, fit_unpack, pack-unpack, unpack-pack}
use Rattle.fields.proofs.Passing.{Passes, all_pass, all_passed, every_cut, every_join}
use Rattle.fields.proofs.Tags.{tag_below}
use Rattle.fields.proofs.Writing.{length-field_bytes, length_most, refused, room_test, writes, wrote}

-- a field whose bytes read as that very field
pub record Readable (f : Field) : Type 0 where
  pub tag : is_tag f.tag ≡ true
  pub fit : Fit (widths_of (row_of f.tag)) (numbers_of f)
  pub right : Every Passes (value_checks (row_of f.tag) f)

-- ---- written, then read
read_whole : (x y z : ℕ) (v : List ℕ) (f : Field) → is_tag x ≡ true → y + 256 * z ≡ length_of x → length_of x ≤ length v
    → field_of x v ≡ f → Every Passes (value_checks (row_of x) f) → read_field (x ∷ y ∷ z ∷ v) ≡ Ok f
unfolding read_field
read_whole x y z v f known told there field right =
    rw field
    (all_pass Err (Ok f) (framing_checks (x ∷ y ∷ z ∷ v) ++ value_checks (row_of x) f)
    (every_join Passes (framing_checks (x ∷ y ∷ z ∷ v)) (value_checks (row_of x) f)
    (le-leb 3 (length (x ∷ y ∷ z ∷ v)) (omega arith), (known, (eq-eqb (y + 256 * (z + 256 * 0)) (length_of x) (omega arith), (le-leb (length_of x) (length v) there, tt))))
    right))

-- the bytes of a field, with the header's written out
bytes_shape : (f : Field) → is_tag f.tag ≡ true → field_bytes f ≡ f.tag ∷ length_of f.tag ∷ 0 ∷ pack (widths_of (row_of f.tag)) (numbers_of f)
unfolding field_bytes
bytes_shape f known =
    let t = tag_below f.tag known in
    let n = length_most f.tag in
    let tag : f.tag % 256 ≡ f.tag = omega arith in
    let low : length_of f.tag % 256 ≡ length_of f.tag = omega arith in
    let high : length_of f.tag / 256 % 256 ≡ 0 = omega arith in
    rw (tag, low, high) refl

pub there : (f : Field) (r : List ℕ) → Readable f → read_field (field_bytes f ++ r) ≡ Ok f
unfolding field_of length_of
there f r R =
    let ws = widths_of (row_of f.tag) in
    let v = pack ws (numbers_of f) ++ r in
    let n : length_of f.tag ≤ length v = simp (length-append, length-pack) (omega arith) in
    rw (bytes_shape f R.tag)
    (read_whole f.tag (length_of f.tag) 0 v f R.tag (omega arith) n (ap (field_with f.tag) (unpack-pack ws (numbers_of f) r R.fit)) R.right)

-- ---- read, then written
Back : List ℕ → Field → Type 0
Back s f = Readable f × (s ≡ field_bytes f ++ drop (3 + length_of f.tag) s)

numbers_read : (x : ℕ) (v : List ℕ) → numbers_of (field_of x v) ≡ unpack (widths_of (row_of x)) v
unfolding field_of widths_of
numbers_read x v = refl

back_at : (x y z : ℕ) (v : List ℕ) → AreBytes (x ∷ y ∷ z ∷ v) → Every Passes (framing_checks (x ∷ y ∷ z ∷ v))
    → Every Passes (value_checks (row_of x) (field_of x v)) → Back (x ∷ y ∷ z ∷ v) (field_of x v)
unfolding Back field_bytes field_of length_of
back_at x y z v b framed right =
    let ws = widths_of (row_of x) in
    let hx : x < 256 = b.0 in
    let hy : y < 256 = b.1.0 in
    let hz : z < 256 = b.1.1.0 in
    let n : y + 256 * (z + 256 * 0) ≡ total ws = eqb-true (y + 256 * (z + 256 * 0)) (total ws) framed.1.1.0 in
    let h : total ws ≤ length v = leb-true (total ws) (length v) framed.1.1.1.0 in
    let tag : x % 256 ≡ x = omega arith in
    let low : total ws % 256 ≡ y = omega arith in
    let above : total ws / 256 ≡ z = omega arith in
    let high : total ws / 256 % 256 ≡ z = rw above (omega arith) in (
      record { tag = framed.1.0; fit = rw (numbers_read x v) (fit_unpack ws v b.1.1.1 h); right = right },
      rw (sym (drop-drop (total ws) 3 (x ∷ y ∷ z ∷ v)), tag, low, high, numbers_read x v, pack-unpack ws v b.1.1.1 h, take-append-drop (total ws) v) refl,
    )

pub back : (s : List ℕ) (f : Field) → AreBytes s → read_field s ≡ Ok f → Readable f × (s ≡ field_bytes f ++ drop (3 + length_of f.tag) s)
unfolding read_field Back
back s f b e =
    let p = all_passed Err (Ok (field_of (tag_in s) (value_in s))) (framing_checks s ++ value_checks (row_of (tag_in s)) (field_of (tag_in s) (value_in s))) (Ok f) (λ r q. let z : ◌≡◌ {A = ℕ} 0 1 = cc in omega arith) e in
    let g : Ok (field_of (tag_in s) (value_in s)) ≡ Ok f = p.1 in
    let field : field_of (tag_in s) (value_in s) ≡ f = cc in
    let cut = every_cut Passes (framing_checks s) (value_checks (row_of (tag_in s)) (field_of (tag_in s) (value_in s))) p.0 in
    subst (Back s) field (by s b cut.0 cut.1)
  where
    short : (n : ℕ) → n < 3 → leb 3 n ≡ true → ⊥
    short n h p = let z : 3 ≤ n = leb-true 3 n p in omega arith

    by : (s : List ℕ) → AreBytes s → Every Passes (framing_checks s) → Every Passes (value_checks (row_of (tag_in s)) (field_of (tag_in s) (value_in s))) → Back s (field_of (tag_in s) (value_in s))
    by [] b p q = absurd (short 0 (omega arith) p.0)
    by (x ∷ []) b p q = absurd (short 1 (omega arith) p.0)
    by (x ∷ y ∷ []) b p q = absurd (short 2 (omega arith) p.0)
    by (x ∷ y ∷ z ∷ v) b p q = back_at x y z v b p q

-- what reads as a field writes back to the very bytes that were read, in any output with room for them
pub read_then_written : (s out : List ℕ) (f : Field) → AreBytes s → read_field s ≡ Ok f → 3 + length_of f.tag ≤ length out
    → write_field f out ≡ writing (Ok (3 + length_of f.tag)) (take (3 + length_of f.tag) s ++ drop (3 + length_of f.tag) out)
read_then_written s out f b e room =
    let n = length-field_bytes f in
    let p = back s f b e in
    let same : take (length (field_bytes f)) s ≡ field_bytes f = rw p.1 (take-append_seam (field_bytes f) (drop (3 + length_of f.tag) s)) in
    rw (← n, same) (writes f out p.0.tag p.0.right (omega arith))

-- ---- the numbers that a row lacks are ignored: a field and itself are written alike, and checked alike
to_present : (w n : ℕ) → to_bytes w (cond (eqb w 0) 0 n) ≡ to_bytes w n
to_present zero n = refl
to_present (suc w) n = rw (ne_eqb (suc w) 0 (λ e. omega arith)) refl

pack-present : (ws ns : List ℕ) → pack ws (present ws ns) ≡ pack ws ns
pack-present [] ns = refl
pack-present (w ∷ ws) [] = refl
pack-present (w ∷ ws) (n ∷ ns) = rw (to_present w n, pack-present ws ns) refl

numbers_itself : (f : Field) → numbers_of (itself f) ≡ present (widths_of (row_of f.tag)) (numbers_of f)
unfolding itself widths_of
numbers_itself f = refl

tag_itself : (f : Field) → (itself f).tag ≡ f.tag
unfolding itself
tag_itself f = refl

bytes_itself : (f : Field) → field_bytes (itself f) ≡ field_bytes f
unfolding field_bytes
bytes_itself f = rw (tag_itself f, numbers_itself f, pack-present (widths_of (row_of f.tag)) (numbers_of f)) refl

-- a number of a slot, 0 where the slot is absent
abbrev slotted : Slot → ℕ → ℕ
slotted k x = cond (eqb (width_if (is_present k) 1) 0) 0 x

named_slotted : (t : ℕ) (k : Slot) (x : ℕ) → is_named t k (slotted k x) ≡ is_named t k x
named_slotted t Absent x = refl
named_slotted t Pointer x = refl
named_slotted t Data x = refl
named_slotted t Selector x = refl

selected_slotted : (k : Slot) (x : ℕ) → is_selected k (slotted k x) ≡ is_selected k x
selected_slotted Absent x = refl
selected_slotted Pointer x = refl
selected_slotted Data x = refl
selected_slotted Selector x = refl

cell-present : (there : Bool) (c : ℕ) → is_cell there (cond (eqb (width_if there 2) 0) 0 c) ≡ is_cell there c
cell-present true c = refl
cell-present false c = refl

checks_itself : (f : Field) → value_checks (row_of f.tag) (itself f) ≡ value_checks (row_of f.tag) f
unfolding itself widths_of
checks_itself f =
    let r = row_of f.tag in
    rw (
      named_slotted f.thread r.0 f.first,
      named_slotted f.thread r.1 f.second,
      named_slotted f.thread r.2 f.third,
      selected_slotted r.0 f.first,
      selected_slotted r.1 f.second,
      selected_slotted r.2 f.third,
      cell-present r.3 f.cell.0,
    )

-- a number within its type fits its width, or is put to 0
fit_present : (there : Bool) (w n : ℕ) → n < cap w → cond (eqb (width_if there w) 0) 0 n < cap (width_if there w)
fit_present true zero n h = omega arith
fit_present true (suc w) n h = rw (ne_eqb (suc w) 0 (λ e. omega arith)) h
fit_present false w n h = omega arith

fit_itself : (f : Field) → Held f → f.thread < 256 → Fit (widths_of (row_of f.tag)) (present (widths_of (row_of f.tag)) (numbers_of f))
unfolding widths_of
fit_itself f h thread =
    let r = row_of f.tag in (
      thread,
      (
        fit_present (is_present r.0) 1 f.first h.first,
        (
          fit_present (is_present r.1) 1 f.second h.second,
          (
            fit_present (is_present r.2) 1 f.third h.third,
            (fit_present r.3 2 f.cell.0 h.cell, (fit_present r.4 4 f.number h.number, tt)),
          ),
        ),
      ),
    )

readable_itself : (f : Field) → Held f → is_tag f.tag ≡ true → Every Passes (value_checks (row_of f.tag) f) → Readable (itself f)
unfolding itself
readable_itself f h known right =
    let thread : f.thread < 8 = ltb-true f.thread 8 right.0 in
    record {
      tag = known;
      fit = subst (Fit (widths_of (row_of f.tag))) (sym (numbers_itself f)) (fit_itself f h (omega arith));
      right = subst (Every Passes) (sym (checks_itself f)) right;
    }

not-refused : (f : Field) (out after : List ℕ) (n : ℕ) (r : Refusal) → refused f out r ≡ writing (Ok n) after → ⊥
not-refused f out after n r e =
    let answers = ap (λ (w : Writing). w.answer) e in
    let z : ◌≡◌ {A = ℕ} 0 1 = cc in
    omega arith

-- every writable field reads back as itself
pub written_then_read : (f : Field) (out after : List ℕ) (n : ℕ) → Held f → write_field f out ≡ writing (Ok n) after → read_field after ≡ Ok (itself f)
unfolding write_field
written_then_read f out after n h e =
    let p = all_passed (refused f out) (wrote f out) (writing_checks f (length out)) (writing (Ok n) after) (not-refused f out after n) e in
    let bytes : field_bytes f ++ drop (length (field_bytes f)) out ≡ after = ap (λ (w : Writing). w.output) p.1 in
    let checks = every_cut Passes (value_checks (row_of f.tag) f) (room_test f out) p.0.1 in
    let rest = drop (length (field_bytes f)) out in
    rw (← bytes) (rw (bytes_itself f) at (there (itself f) rest (readable_itself f h p.0.0 checks.0)))
