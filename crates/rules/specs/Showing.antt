-- Showing one field's own bytes, header and value, of a recorded log or of its replay (order 3). Refused with 1, where the chosen
-- log is too long, and 16, where the reading checks (3 to 11) stop or the log ends before that field is read; both with field 0
-- and an empty part. What a field does plays no part: a field that races is shown. Assumes nothing.
use Rattle.std.specs.Prelude.{ℕ, ◌+◌, cond, List, [], ◌∷◌, ◌≡◌, leb, ltb, drop, length, take, Result, Ok, Err}
use Rattle.fields.specs.declared.Field.{Field}
use Rattle.fields.specs.declared.RecordedCell.{RecordedCell}
use Rattle.fields.specs.declared.Refusal.{Refusal}
use Rattle.fields.specs.declared.Refusal.TheVariants.{FieldNotReached, LogTooLong}
use Rattle.fields.specs.Bytes.{total}
use Rattle.fields.specs.Limits.{header_bytes, log_bytes, log_fields, log_mallocs}
use Rattle.fields.specs.Order.{in_order, test}
use Rattle.fields.specs.Read.{field_of, tag_in, value_in}
use Rattle.fields.specs.Rows.{field_size, row_of, widths_of}
use Rattle.rules.specs.declared.Choice.{Choice}
use Rattle.rules.specs.declared.Choice.TheVariants.{Recording, Replay}
use Rattle.rules.specs.declared.Part.{Part}
use Rattle.rules.specs.Acts.{gives}
use Rattle.rules.specs.Commands.{act_of}
use Rattle.rules.specs.Log.{offset_of, parse}

abbrev pub chosen : Choice → List ℕ → List ℕ → List ℕ
chosen Recording recorded replay = recorded
chosen Replay recorded replay = replay

-- ---- the fields that pass the reading checks
-- how many cells a field's command gives out
abbrev pub mallocs_of : Field → ℕ
mallocs_of f = length (gives (act_of f).change)

-- 11: the fields before the first malloc that is one too many, so many having come before
abbrev pub roomy : ℕ → List Field → List Field
roomy before [] = []
roomy before (f ∷ fs) = cond (leb (before + mallocs_of f) log_mallocs) (f ∷ roomy (before + mallocs_of f) fs) []

-- 3 to 10 in parsing, and 11
abbrev pub fields_read : List ℕ → List Field
fields_read log = roomy 0 (parse log_fields log).fields

-- ---- the answer: where the field's bytes stand in the log and how many they are, or why there are none; and the part that it names
-- how many bytes the field at the front of a part has
abbrev pub size_in : List ℕ → ℕ
size_in part = field_size (tag_in part)

-- a part, or a refusal and its field
abbrev pub Shown : Type 0
Shown = Result Part (Refusal × ℕ)

unfoldable pub shown_in : List ℕ → ℕ → Shown
shown_in log n =
    in_order (λ r. Err (r, 0)) (Ok (record { at = offset_of n log; size = size_in (drop (offset_of n log) log) }))
    (test (leb (length log) log_bytes) LogTooLong
    ∷ test (ltb n (length (fields_read log))) FieldNotReached
    ∷ [])

abbrev pub part_by : Shown → List ℕ → List ℕ
part_by (Ok part) log = take part.size (drop part.at log)
part_by (Err refusal) log = []

abbrev pub part_in : List ℕ → ℕ → List ℕ
part_in log n = part_by (shown_in log n) log

-- ---- parts that are equal but for a malloc's cell and data
-- the cells that the command of a part's field gives out
abbrev pub given_in : List ℕ → List RecordedCell
given_in part = gives (act_of (field_of (tag_in part) (value_in part))).change

-- the header, the thread and the slots of a part's field, which come before its cell and its data
abbrev pub before_cell : List ℕ → List ℕ
before_cell part = take (header_bytes + total (take 4 (widths_of (row_of (tag_in part))))) part

pub record AlikeButGiven (part copy : List ℕ) : Type 0 where
  pub size : length copy ≡ length part
  pub front : before_cell copy ≡ before_cell part
  pub other : given_in part ≡ [] → copy ≡ part
