-- A field sought from a place of the log on, and what one turn finds there.
-- Assumes nothing.
use Rattle.std.specs.Prelude.{ℕ, ◌+◌, cond, List, leb, ltb, drop, length, Option, Some, None, Ok, Err}
use Rattle.fields.specs.Read.{Reading}
use Rattle.fields.specs.Limits.{log_mallocs}
use Rattle.fields.specs.Rows.{field_size}
use Rattle.rules.specs.declared.Part.{Part}
use Rattle.rules.specs.Log.{offset_of, parse}
use Rattle.rules.specs.Showing.{mallocs_of, roomy, size_in}
use Rattle.show.specs.declared.seek.Front.{Front}

-- what was read at a place, so many mallocs having come before: 11
abbrev pub front_of : ℕ → Reading → Option Front
front_of before (Ok f) =
    cond (leb (before + mallocs_of f) log_mallocs)
    (Some (record { size = field_size f.tag; mallocs = before + mallocs_of f }))
    None
front_of before (Err r) = None

-- the part, where at most k fields are left from a place on, so many mallocs came before it, and n fields come before the one sought
unfoldable pub seek_from : ℕ → ℕ → List ℕ → ℕ → ℕ → Option Part
seek_from k before log at n =
    let rest = drop at log in
    cond (ltb n (length (roomy before (parse k rest).fields)))
    (Some (record { at = at + offset_of n rest; size = size_in (drop (offset_of n rest) rest) }))
    None
