-- A log as bytes: fields one after another, at most n of them (3), each read at the front of the bytes that remain.
-- Assumes nothing.
use Rattle.std.specs.Prelude.{ℕ, zero, suc, ◌+◌, List, [], ◌∷◌, drop, Ok, Err}
use Rattle.fields.specs.declared.Field.{Field}
use Rattle.fields.specs.declared.Refusal.TheVariants.{TooManyFields}
use Rattle.fields.specs.Rows.{field_size}
use Rattle.fields.specs.Read.{Reading, read_field, tag_in}
use Rattle.rules.specs.declared.Verdict.{Verdict}
use Rattle.rules.specs.declared.Verdict.TheVariants as told
use Rattle.rules.specs.State.{State}
use Rattle.rules.specs.Run.{End, whole, unread, Ending, Accepted, Raced, Refused, Outcome, run_to}

pub record Parsed : Type 0 where
  pub fields : List Field
  pub end : End

abbrev pub no_fields : End → Parsed
no_fields end = record { fields = []; end = end }

-- what was read at the front of bytes, and what the rest of them parses as
abbrev pub onward : Reading → List ℕ → (List ℕ → Parsed) → Parsed
onward (Ok f) bytes parse_rest =
    let rest = parse_rest (drop (field_size f.tag) bytes) in
    record { fields = f ∷ rest.fields; end = rest.end }
onward (Err r) bytes parse_rest = no_fields (unread r)

abbrev pub parse : ℕ → List ℕ → Parsed
parse zero [] = no_fields whole
parse zero (b ∷ bs) = no_fields (unread TooManyFields)
parse (suc n) [] = no_fields whole
parse (suc n) (b ∷ bs) = onward (read_field (b ∷ bs)) (b ∷ bs) (λ rest. parse n rest)

abbrev pub run_bytes : ℕ → List ℕ → State → Outcome
run_bytes n bytes s = run_to (parse n bytes).end (parse n bytes).fields s

-- the byte offset of field n: where it begins, after the fields before it
abbrev pub offset_of : ℕ → List ℕ → ℕ
offset_of zero bytes = 0
offset_of (suc n) bytes = let size = field_size (tag_in bytes) in size + offset_of n (drop size bytes)

-- the field at which a run ends
abbrev pub end_field : Ending → ℕ
end_field (Accepted fields mallocs live) = fields
end_field (Raced field thread variable) = field
end_field (Refused r field) = field

-- the ending as it is told: a stop with the byte offset of its field
abbrev pub told_at : ℕ → Ending → Verdict
told_at offset (Accepted fields mallocs live) = told.Accepted fields mallocs live
told_at offset (Raced field thread variable) = told.Raced field thread variable offset
told_at offset (Refused r field) = told.Refused r field offset

abbrev pub located : List ℕ → Ending → Verdict
located log ending = told_at (offset_of (end_field ending) log) ending
