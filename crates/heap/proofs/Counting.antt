-- The number of live cells, where one status changes.
-- Assumes nothing.
use Rattle.std.proofs.Common.{◌≡◌, ℕ, ◌+◌, ◌-◌, ◌%◌, ◌≤◌, Bool, true, false, cond, eqb, ltb, List, length, get_or, set, sym, refl, ap, ◌∙◌, arith, ltb-false, ltb-true}
use lib.Seq.{set_out}
use Rattle.fields.specs.Limits.{cells}
use Rattle.heap.specs.Counts.{live_after, live_cells}
use Rattle.rules.proofs.Tallies.{live_at_most, live_set, one_at_most}
use Rattle.rules.specs.Run.{live_count}
use Rattle.rules.specs.State.{live}

-- where the number is the count of the statuses, it stays so
pub live_kept : (l : List ℕ) (i new number : ℕ) → number ≡ live_count l → length l ≤ cells → live_after l i new number ≡ live_count (set l i new)
live_kept l i new number kept few = by (ltb i (length l)) refl
  where
    by : (t : Bool) → ltb i (length l) ≡ t → cond t ((number - live_cells (get_or l i 0) + live_cells new) % 4294967296) number ≡ live_count (set l i new)
    by true q =
        let there = ltb-true i (length l) q in
        omega (arith, kept, few, live_set l i new there, live_set l i 0 there, live_at_most l, one_at_most (eqb new live))
    by false q = kept ∙ ap live_count (sym (set_out l i new (ltb-false i (length l) q)))
