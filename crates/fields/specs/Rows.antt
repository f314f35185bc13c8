-- The table of tags: one line for each, in the order thread, slots, cell, number. The thread stands in every row, so no line says it.
-- Assumes nothing.
use Rattle.std.specs.Prelude.{ℕ, ◌+◌, Bool, true, false, cond, ◌&&◌, List, [], ◌∷◌, ltb, get_or, length}
use Rattle.fields.specs.declared.rows.Slot.{Slot}
use Rattle.fields.specs.declared.rows.Slot.TheVariants.{Absent, Pointer, Data, Selector}
use Rattle.fields.specs.declared.rows.Row.{Row}
use Rattle.fields.specs.Bytes.{total}
use Rattle.fields.specs.Limits.{header_bytes}

abbrev pub row : Slot → Slot → Slot → Bool → Bool → Row
row first second third cell number = record { 0 = first; 1 = second; 2 = third; 3 = cell; 4 = number }

abbrev pub cell : Bool
cell = true

abbrev pub number : Bool
number = true

abbrev pub none : Bool
none = false

abbrev pub no_row : Row
no_row = row Absent Absent Absent none none

abbrev pub rows : List Row
rows =
    no_row
    -- 1: p := malloc
    ∷ row Pointer Absent Absent cell number
    -- 2: p := free
    ∷ row Pointer Absent Absent none none
    -- 3: p := q
    ∷ row Pointer Pointer Absent none none
    -- 4: p := q.sel
    ∷ row Pointer Pointer Selector none none
    -- 5: p.sel := q
    ∷ row Pointer Selector Pointer none none
    -- 6: x := p.data
    ∷ row Data Pointer Absent none none
    -- 7: p.data := x
    ∷ row Pointer Data Absent none none
    -- 8: x := constant
    ∷ row Data Absent Absent none number
    -- 9: assert p = q
    ∷ row Pointer Pointer Absent none none
    -- 10: assert p ≠ q
    ∷ row Pointer Pointer Absent none none
    -- 11: assert x = y
    ∷ row Data Data Absent none none
    -- 12: assert x ≠ y
    ∷ row Data Data Absent none none
    -- 13: x := y + z
    ∷ row Data Data Data none none
    -- 14: cas done: p = q, then p := r
    ∷ row Pointer Pointer Pointer none none
    -- 15: cas failed: p ≠ q
    ∷ row Pointer Pointer Pointer none none
    ∷ []

unfoldable pub row_of : ℕ → Row
row_of tag = get_or rows tag no_row

-- a tag is one that has a row; 0 is none
unfoldable pub is_tag : ℕ → Bool
is_tag tag = ltb 0 tag && ltb tag (length rows)

abbrev pub is_present : Slot → Bool
is_present Absent = false
is_present Pointer = true
is_present Data = true
is_present Selector = true

-- a number that a row lacks has width 0
abbrev pub width_if : Bool → ℕ → ℕ
width_if there width = cond there width 0

-- the widths of a value's numbers: thread, slots, cell (2), number (4)
unfoldable pub widths_of : Row → List ℕ
widths_of r =
    1
    ∷ width_if (is_present r.0) 1
    ∷ width_if (is_present r.1) 1
    ∷ width_if (is_present r.2) 1
    ∷ width_if r.3 2
    ∷ width_if r.4 4
    ∷ []

unfoldable pub length_of : ℕ → ℕ
length_of tag = total (widths_of (row_of tag))

-- the bytes of a field of this tag, header and value
abbrev pub field_size : ℕ → ℕ
field_size tag = header_bytes + length_of tag
