-- What holds of every row of the table of commands together with the row of fields' table: one line for each tag.
-- A further tag is a line in each table, and a line here. Assumes nothing.
use Prim.Native.Nat.{◌*◌, ◌+◌, ◌<◌, suc, zero, ℕ}
use mathlib.Core.Path.{◌∙◌, ◌≡◌, ap, refl, subst, sym}
use mathlib.Core.Bool.{Bool, ◌&&◌, and-eq-true_iff, false, true}
use mathlib.Core.List.{List, [], ◌∷◌}
use native.Mathlib.Omega.{arith}
use borrow.Author.Tests.{lt-ltb, ltb-true}
use lib.Dec.{leb, ltb}
use lib.ListN.{get_or}
use Rattle.fields.specs.declared.Field.{Field}
use Rattle.fields.specs.declared.rows.Slot.{Slot}
use Rattle.fields.specs.declared.rows.Slot.TheVariants.{Absent, Data, Pointer, Selector}
use Rattle.fields.specs.declared.rows.Row.{Row}
use Rattle.fields.specs.Every.{Every}
use Rattle.fields.specs.Rows.{cell, no_row, number, row, row_of, rows, widths_of}
use Rattle.fields.specs.Numbers.{numbers_of}
use Rattle.fields.specs.Checks.{is_cell, is_named, is_selected, may_name, value_checks}
use Rattle.fields.proofs.Passing.{Passes}
use Rattle.fields.proofs.Packing.{Fit}
use Rattle.fields.proofs.RoundTrip.{Readable}
use Rattle.rules.specs.declared.ReplayCell.{ReplayCell}
use Rattle.rules.specs.declared.Change.{Change}
use Rattle.rules.specs.declared.Change.TheVariants.{Allocate, Move, Put, Release, Stay}
use Rattle.rules.specs.declared.Act.{Act}
use Rattle.rules.specs.State.{State}
use Rattle.rules.specs.Acts.{gives}
use Rattle.rules.specs.Commands.{act_of, command_of, commands, does, no_command}
use Rattle.rules.specs.Replay.{copy_act, copy_change, copy_field, recast}
use Rattle.theorems.proofs.Basics.{or_second, split}
use Rattle.theorems.proofs.Kept.{Named, NamedAct}
use Rattle.theorems.proofs.Ranges.{Bounded, Small, starting_data_below}

-- ---- two tables, row by row
abbrev pub RowByRow : (Row → (Field → Act) → Type 0) → List Row → List (Field → Act) → Type 0
RowByRow P [] [] = Unit {0}
RowByRow P [] (c ∷ cs) = ⊥
RowByRow P (r ∷ rs) [] = ⊥
RowByRow P (r ∷ rs) (c ∷ cs) = P r c × RowByRow P rs cs

at_row : (P : Row → (Field → Act) → Type 0) (rs : List Row) (cs : List (Field → Act)) (tag : ℕ) → P no_row no_command → RowByRow P rs cs → P (get_or rs tag no_row) (get_or cs tag no_command)
at_row P [] [] tag none all = none
at_row P [] (c ∷ cs) tag none all = absurd all
at_row P (r ∷ rs) [] tag none all = absurd all
at_row P (r ∷ rs) (c ∷ cs) zero none all = all.0
at_row P (r ∷ rs) (c ∷ cs) (suc tag) none all = at_row P rs cs tag none all.1

-- ---- what the reading checks say of a field's numbers
abbrev pub SlotFact : Slot → ℕ → Type 0
SlotFact Absent n = Unit {0}
SlotFact Pointer n = n < 80
SlotFact Data n = n < 80
SlotFact Selector n = n < 2

abbrev pub CellFact : Bool → ℕ → Type 0
CellFact true c = c < 1024
CellFact false c = Unit {0}

abbrev pub Facts : Row → Field → Type 0
Facts r f = SlotFact r.0 f.first × SlotFact r.1 f.second × SlotFact r.2 f.third × CellFact r.3 f.cell.0

may_name_below : (t n : ℕ) → t < 8 → may_name t n ≡ true → n < 80
unfolding may_name
may_name_below t n h e = split (ltb n 16)
    (λ p. let q : n < 16 = ltb-true n 16 p in omega arith)
    (λ p.
    let a = (and-eq-true_iff (leb (16 + 8 * t) n) (ltb n (16 + 8 * t + 8))).0 (or_second (ltb n 16) (leb (16 + 8 * t) n && ltb n (16 + 8 * t + 8)) e p) in
    let q : n < 16 + 8 * t + 8 = ltb-true n (16 + 8 * t + 8) a.1 in
    omega arith)

slot_fact : (t : ℕ) (k : Slot) (n : ℕ) → t < 8 → is_named t k n ≡ true → is_selected k n ≡ true → SlotFact k n
slot_fact t Absent n h e s = tt
slot_fact t Pointer n h e s = may_name_below t n h e
slot_fact t Data n h e s = may_name_below t n h e
slot_fact t Selector n h e s = ltb-true n 2 s

cell_fact : (there : Bool) (c : ℕ) → is_cell there c ≡ true → CellFact there c
cell_fact true c e = ltb-true c 1024 e
cell_fact false c e = tt

pub facts : (r : Row) (f : Field) → Every Passes (value_checks r f) → Facts r f
facts r f right =
    let thread : f.thread < 8 = ltb-true f.thread 8 right.0 in
    let n = (and-eq-true_iff (is_named f.thread r.0 f.first) (is_named f.thread r.1 f.second && is_named f.thread r.2 f.third)).0 right.1.0 in
    let n' = (and-eq-true_iff (is_named f.thread r.1 f.second) (is_named f.thread r.2 f.third)).0 n.1 in
    let s = (and-eq-true_iff (is_selected r.0 f.first) (is_selected r.1 f.second && is_selected r.2 f.third)).0 right.1.1.0 in
    let s' = (and-eq-true_iff (is_selected r.1 f.second) (is_selected r.2 f.third)).0 s.1 in (
      slot_fact f.thread r.0 f.first thread n.0 s.0,
      slot_fact f.thread r.1 f.second thread n'.0 s'.0,
      slot_fact f.thread r.2 f.third thread n'.1 s'.1,
      cell_fact r.3 f.cell.0 right.1.1.1.0,
    )

-- ---- a row with its command
record Fine (r : Row) (command : Field → Act) : Type 0 where
  -- what the reading checks pass stays within what is lent, and its numbers are small
  named : (f : Field) → Facts r f → NamedAct (command f)
  small : (f : Field) → Fit (widths_of r) (numbers_of f) → Small (command f).change
  -- the command of a field's copy is the copy of its command; its numbers fit, and pass the checks
  copies : (s : State) (k : ReplayCell) (f : Field) → command (recast (copy_change s k (command f).change) f) ≡ copy_act s k (command f)
  fits : (s : State) (k : ReplayCell) (f : Field) → Bounded s → Named (copy_change s k (command f).change)
      → Fit (widths_of r) (numbers_of f) → Fit (widths_of r) (numbers_of (recast (copy_change s k (command f).change) f))
  right : (s : State) (k : ReplayCell) (f : Field) → Named (copy_change s k (command f).change)
      → Every Passes (value_checks r f) → Every Passes (value_checks r (recast (copy_change s k (command f).change) f))

-- a command that gives out no cell is copied as it is, and so is its field
pub same_change : (s : State) (k : ReplayCell) (c : Change) → gives c ≡ [] → copy_change s k c ≡ c
same_change s k Stay e = refl
same_change s k (Allocate p c d) e = cc
same_change s k (Release p) e = refl
same_change s k (Move x y) e = refl
same_change s k (Put x v) e = refl

pub same_field_lem : (c : Change) (f : Field) → gives c ≡ [] → recast c f ≡ f
same_field_lem Stay f e = refl
same_field_lem (Allocate p c d) f e = cc
same_field_lem (Release p) f e = refl
same_field_lem (Move x y) f e = refl
same_field_lem (Put x v) f e = refl

pub same_copy : (s : State) (k : ReplayCell) (c : Change) (f : Field) → gives c ≡ [] → recast (copy_change s k c) f ≡ f
same_copy s k c f e = ap (λ (b : Change). recast b f) (same_change s k c e) ∙ same_field_lem c f e

giving_none : {r : Row} {command : Field → Act} → ((f : Field) → Facts r f → NamedAct (command f))
    → ((f : Field) → Fit (widths_of r) (numbers_of f) → Small (command f).change) → ((f : Field) → gives (command f).change ≡ []) → Fine r command
giving_none {r} {command} named small none = record {
  named = named;
  small = small;
  copies = λ s k f. ap command (same_copy s k (command f).change f (none f)) ∙ sym (ap (λ (c : Change). record { guard = (command f).guard; change = c }) (same_change s k (command f).change (none f)));
  fits = λ s k f b n q. subst (λ (g : Field). Fit (widths_of r) (numbers_of g)) (sym (same_copy s k (command f).change f (none f))) q;
  right = λ s k f n q. subst (λ (g : Field). Every Passes (value_checks r g)) (sym (same_copy s k (command f).change f (none f))) q;
}

malloc_row : Fine (row Pointer Absent Absent cell number) (λ f. does (Allocate f.first f.cell f.number))
unfolding widths_of
malloc_row = record {
  named = λ f h. (tt, (h.0, h.3));
  small = λ f q. q.1.1.1.1.1.0;
  copies = λ s k f. refl;
  fits = λ s k f b n q. (q.0, (q.1.0, (q.1.1.0, (q.1.1.1.0, (omega (arith, n.1), (starting_data_below s f.cell f.number q.1.1.1.1.1.0 b, tt))))));
  right = λ s k f n q. (q.0, (q.1.0, (q.1.1.0, (lt-ltb k.0 1024 n.1, tt))));
}

infixr 4 ◌▹◌
pub ◌▹◌ : {A B : Type 0} → A → B → A × B
a ▹ b = (a, b)

fine : RowByRow Fine rows commands
unfolding widths_of
fine =
    giving_none (λ f h. (tt, tt)) (λ f q. tt) (λ f. refl)
    -- 1: p := malloc
    ▹ malloc_row
    -- 2: p := free
    ▹ giving_none (λ f h. (tt, h.0)) (λ f q. tt) (λ f. refl)
    -- 3: p := q
    ▹ giving_none (λ f h. (tt, (h.0, h.1))) (λ f q. tt) (λ f. refl)
    -- 4: p := q.sel
    ▹ giving_none (λ f h. (tt, (h.0, (h.1, h.2)))) (λ f q. tt) (λ f. refl)
    -- 5: p.sel := q
    ▹ giving_none (λ f h. (tt, ((h.0, h.1), h.2))) (λ f q. tt) (λ f. refl)
    -- 6: x := p.data
    ▹ giving_none (λ f h. (tt, (h.0, h.1))) (λ f q. tt) (λ f. refl)
    -- 7: p.data := x
    ▹ giving_none (λ f h. (tt, (h.0, h.1))) (λ f q. tt) (λ f. refl)
    -- 8: x := constant
    ▹ giving_none (λ f h. (tt, (h.0, tt))) (λ f q. q.1.1.1.1.1.0) (λ f. refl)
    -- 9: assert p = q
    ▹ giving_none (λ f h. ((h.0, h.1), tt)) (λ f q. tt) (λ f. refl)
    -- 10: assert p ≠ q
    ▹ giving_none (λ f h. ((h.0, h.1), tt)) (λ f q. tt) (λ f. refl)
    -- 11: assert x = y
    ▹ giving_none (λ f h. ((h.0, h.1), tt)) (λ f q. tt) (λ f. refl)
    -- 12: assert x ≠ y
    ▹ giving_none (λ f h. ((h.0, h.1), tt)) (λ f q. tt) (λ f. refl)
    -- 13: x := y + z
    ▹ giving_none (λ f h. (tt, (h.0, (h.1, h.2)))) (λ f q. tt) (λ f. refl)
    -- 14: cas done: p = q, then p := r
    ▹ giving_none (λ f h. ((h.0, h.1), (h.0, h.2))) (λ f q. tt) (λ f. refl)
    -- 15: cas failed: p ≠ q
    ▹ giving_none (λ f h. ((h.0, h.1), tt)) (λ f q. tt) (λ f. refl)
    ▹ tt

fine_at : (tag : ℕ) → Fine (row_of tag) (command_of tag)
unfolding row_of command_of
fine_at tag = at_row Fine rows commands tag (giving_none (λ f h. (tt, tt)) (λ f q. tt) (λ f. refl)) fine

-- a field's own command, put back into the field, leaves it as it is
own : RowByRow (λ r command. (f : Field) → recast (command f).change f ≡ f) rows commands
own =
    (λ f. refl)
    ▹ (λ f. refl)
    ▹ (λ f. refl)
    ▹ (λ f. refl)
    ▹ (λ f. refl)
    ▹ (λ f. refl)
    ▹ (λ f. refl)
    ▹ (λ f. refl)
    ▹ (λ f. refl)
    ▹ (λ f. refl)
    ▹ (λ f. refl)
    ▹ (λ f. refl)
    ▹ (λ f. refl)
    ▹ (λ f. refl)
    ▹ (λ f. refl)
    ▹ (λ f. refl)
    ▹ tt

pub own_field : (f : Field) → recast (act_of f).change f ≡ f
unfolding command_of
own_field f = at_row (λ r command. (g : Field) → recast (command g).change g ≡ g) rows commands f.tag (λ g. refl) own f

-- ---- of a field that was read
pub act_copy : (s : State) (k : ReplayCell) (f : Field) → act_of (copy_field s k f) ≡ copy_act s k (act_of f)
act_copy s k f = (fine_at f.tag).copies s k f

pub readable_named : (f : Field) → Readable f → NamedAct (act_of f)
readable_named f R = (fine_at f.tag).named f (facts (row_of f.tag) f R.right)

pub readable_small : (f : Field) → Readable f → Small (act_of f).change
readable_small f R = (fine_at f.tag).small f R.fit

pub readable_copy : (s : State) (k : ReplayCell) (f : Field) → Readable f → Bounded s → Named (copy_act s k (act_of f)).change → Readable (copy_field s k f)
readable_copy s k f R b n = record {
  tag = R.tag;
  fit = (fine_at f.tag).fits s k f b n R.fit;
  right = (fine_at f.tag).right s k f n R.right;
}
