-- A log that is copied is no replay of itself: case L, whose second malloc names cell 5 and not cell 1.
-- Assumes nothing.
use Prim.Native.Nat.{ℕ}
use mathlib.Core.Path.{◌≡◌, refl, subst}
use mathlib.Core.List.{List, [], ◌∷◌}
use native.Mathlib.Omega.{arith}
use Rattle.fields.specs.declared.Field.{Field}
use Rattle.fields.specs.Limits.{log_fields}
use Rattle.fields.specs.Checks.{may_name}
use Rattle.fields.specs.Numbers.{field_with}
use Rattle.fields.specs.Read.{field_of, read_field}
use Rattle.fields.specs.Rows.{is_tag, length_of, row_of, widths_of}
use Rattle.fields.specs.Write.{field_bytes}
use Rattle.rules.specs.Acts.{gives}
use Rattle.rules.specs.Cases.{M, free_of}
use Rattle.rules.specs.Commands.{act_of, command_of}
use Rattle.rules.specs.Log.{parse}
use Rattle.rules.specs.Replay.{bytes_of}
use Rattle.theorems.specs.Renewed.{Renewed, field_at, mallocs_before}
use Rattle.theorems.proofs.Renewals.{RenewalOf}

-- case L
abbrev pub log_l : List Field
log_l = M 0 5 7 ∷ free_of 0 ∷ M 0 5 9 ∷ field_with 6 (0 ∷ 0 ∷ 0 ∷ []) ∷ []

parsed_l : (parse log_fields (bytes_of log_l)).fields ≡ log_l
unfolding row_of is_tag widths_of length_of field_bytes may_name field_of read_field
parsed_l = refl

second_malloc : gives (act_of (field_at log_l 2)).change ≡ record { 0 = 5 } ∷ []
unfolding command_of
second_malloc = refl

one_before : mallocs_before log_l 2 ≡ 1
unfolding command_of
one_before = refl

not_renewed : Renewed log_l log_l → ⊥
not_renewed R = omega (arith, ((R.each 2 (omega arith)).malloc (record { 0 = 5 }) second_malloc).cell, one_before)

-- whatever numbers it is said to be accepted with
pub copied_log_fails : (fields mallocs live : ℕ) → RenewalOf log_fields (bytes_of log_l) (bytes_of log_l) fields mallocs live → ⊥
copied_log_fails fields mallocs live R = not_renewed (subst (λ (fs : List Field). Renewed fs fs) parsed_l R.renewed)
