-- A field that was read lies within the bytes, and it passed the checks.
-- Assumes nothing.
use mathlib.Core.Bool.{true}
use mathlib.Core.List.{List, ◌++◌}
use mathlib.Core.Path.{◌≡◌, ap}
use Prim.Native.Nat.{ℕ, ◌≤◌}
use native.Mathlib.Omega.{arith}
use borrow.Author.Tests.{leb-true}
use lib.ListN.{length, length-drop}
use Rattle.std.specs.Prelude.{Ok, Err}
use Rattle.fields.specs.declared.Field.{Field}
use Rattle.fields.specs.Checks.{value_checks}
use Rattle.fields.specs.Every.{Every}
use Rattle.fields.specs.Read.{Reading, field_of, framing_checks, read_field, tag_in, value_in}
use Rattle.fields.specs.Rows.{field_size, is_tag, length_of, row_of}
use Rattle.fields.proofs.Passing.{Passes, all_passed, every_cut}

pub record Fetched (s : List ℕ) (f : Field) : Type 0 where
  pub tag : tag_in s ≡ f.tag
  pub fits : field_size f.tag ≤ length s
  pub known : is_tag f.tag ≡ true
  pub right : Every Passes (value_checks (row_of f.tag) f)

pub fetched : (s : List ℕ) (f : Field) → read_field s ≡ Ok f → Fetched s f
unfolding read_field field_of
fetched s f e =
    let g = field_of (tag_in s) (value_in s) in
    let p = all_passed Err (Ok g) (framing_checks s ++ value_checks (row_of (tag_in s)) g) (Ok f) (λ r (q : ◌≡◌ {A = Reading} (Err r) (Ok f)). cc) e in
    let q : Ok g ≡ Ok f = p.1 in
    let same : g ≡ f = cc in
    let tag : tag_in s ≡ f.tag = ap (λ (x : Field). x.tag) same in
    let header = leb-true 3 (length s) p.0.0 in
    let value = leb-true (length_of (tag_in s)) (length (value_in s)) p.0.1.1.1.0 in
    record {
      tag = tag;
      fits = rw (← tag) (omega (arith, length-drop 3 s));
      known = rw (← tag) p.0.1.0;
      right = rw (← same) (every_cut Passes (framing_checks s) (value_checks (row_of (tag_in s)) g) p.0).1;
    }
