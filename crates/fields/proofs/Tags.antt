-- What a tag says of a table with a line for each: a tag is below its length, and one without a line has the line of tag 0.
-- Assumes nothing.
use Prim.Native.Nat.{ℕ, zero, suc, ◌-◌, ◌<◌}
use borrow.Author.Tests.{ltb-true}
use lib.Dec.{ltb}
use lib.ListN.{get_or-eq_default, get_or, length}
use mathlib.Core.Bool.{and-eq-true_iff, true}
use mathlib.Core.List.{List}
use mathlib.Core.Path.{◌≡◌}
use native.Mathlib.Omega.{arith}
use Rattle.fields.specs.Rows.{is_tag, rows}

pub tag_below : (tag : ℕ) → is_tag tag ≡ true → tag < length rows
unfolding is_tag
tag_below tag known = ltb-true tag (length rows) ((and-eq-true_iff (ltb 0 tag) (ltb tag (length rows))).0 known).1

-- a tag that is none of 1 to k, as a match on it tells
abbrev pub NoneTo : ℕ → ℕ → Type 0
NoneTo tag zero = Unit {0}
NoneTo tag (suc k) = NoneTo tag k × (tag ≡ suc k → ⊥)

above : (tag k : ℕ) → NoneTo tag k → 0 < tag → k < tag
above tag zero h some = some
above tag (suc k) h some =
    let less = above tag k h.0 some in
    let not = h.1 in
    omega arith

-- tag 0 has a line too, so the table is one longer than its last tag
pub no_line : {A : Type 0} (table : List A) (none : A) → get_or table 0 none ≡ none → (tag : ℕ) → NoneTo tag (length table - 1) → get_or table tag none ≡ none
no_line table none first zero h = first
no_line table none first (suc n) h =
    let past = above (suc n) (length table - 1) h (omega arith) in
    get_or-eq_default table none (omega arith)
