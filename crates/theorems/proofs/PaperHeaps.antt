-- Source 004 beside demand 3: Definition 4 asks more than the matching, and what it asks is not so. In case E p16 is not valid in the
-- recording and is valid, and unset, in the replay, so the valid part of the replay's heap has an expression more. Assumes nothing.
use Prim.Native.Nat.{ℕ}
use mathlib.Core.Path.{◌∙◌, ◌≡◌, refl, subst}
use mathlib.Core.Bool.{false, true}
use Rattle.rules.specs.Words.{after_free, cell_of, invalidated, is_unset, is_valid}
use Rattle.rules.specs.State.{fresh, pointer, store, write}
use Rattle.rules.specs.Commands.{command_of}
use Rattle.rules.specs.Check.{check_by, same_as_wanted}
use Rattle.rules.specs.Effect.{count_field, free, give}
use Rattle.rules.specs.Run.{run}
use Rattle.rules.specs.Replay.{replay, starting_data}
use Rattle.rules.specs.Cases.{log_e}
use Rattle.theorems.specs.Paper.{Adr, Computation, DExp, HeapEquivalent, PExp, cell, data_of, data_var, defined, heap_of, map_adr, map_d_exp, map_p_exp, next_of, pointer_var, seg, valid_in}
use Rattle.theorems.specs.Beside.{Shows}
use Rattle.theorems.proofs.Basics.{clash}

-- ---- Definition 4 can be met: every computation is heap-equivalent to itself
same_adr_lem : (a : Adr) → map_adr (λ k. k) a ≡ a
same_adr_lem seg = refl
same_adr_lem (cell a) = refl

same_pexp : (e : PExp) → map_p_exp (λ k. k) e ≡ e
same_pexp (pointer_var p) = refl
same_pexp (next_of a i) = refl

same_dexp : (e : DExp) → map_d_exp (λ k. k) e ≡ e
same_dexp (data_var x) = refl
same_dexp (data_of a) = refl

pub self_equivalent : (τ : Computation) → HeapEquivalent τ τ
self_equivalent τ = record {
  iso = λ a. a;
  into = λ a u. u;
  one = λ a b u w e. e;
  onto = λ b u. (b, u, refl);
  pointers = λ e a u. rw (same_pexp e, same_adr_lem a) u;
  all_pointers = λ e b u. (e, b, u, same_pexp e);
  numbers = λ e d u. rw (same_dexp e) u;
  all_numbers = λ e d u. (e, u, same_dexp e);
}

-- ---- case E
not_valid_recorded : is_valid (pointer (run log_e fresh).state 16) ≡ false
unfolding is_valid cell_of is_unset invalidated after_free fresh write store command_of same_as_wanted check_by give free count_field
not_valid_recorded = refl

valid_copied : is_valid (pointer (run (replay fresh log_e) fresh).state 16) ≡ true
unfolding is_valid cell_of is_unset invalidated after_free fresh write store command_of same_as_wanted check_by give free count_field starting_data
valid_copied = refl

unset_copied : is_unset (pointer (run (replay fresh log_e) fresh).state 16) ≡ true
unfolding is_valid cell_of is_unset invalidated after_free fresh write store command_of same_as_wanted check_by give free count_field starting_data
unset_copied = refl

-- what is mapped to a variable is that variable
from_variable : (f : ℕ → ℕ) (e : PExp) (p : ℕ) → map_p_exp f e ≡ pointer_var p → e ≡ pointer_var p
from_variable f (pointer_var q) p h = h
from_variable f (next_of a i) p h = cc

-- whatever computations the two states show
pub not_heap_equivalent : (τ σ : Computation) → Shows (run log_e fresh).state τ → Shows (run (replay fresh log_e) fresh).state σ → HeapEquivalent τ σ → ⊥
not_heap_equivalent τ σ R S same =
    let p16 : PExp = pointer_var 16 in
    let marked : valid_in σ p16 ≡ true = S.marks p16 ∙ valid_copied in
    let held : (heap_of σ).pval p16 ≡ defined seg = S.pointers p16 ∙ rw unset_copied refl in
    let from = same.all_pointers p16 seg (marked, held) in
    let kept : valid_in τ p16 ≡ true = subst (λ (e : PExp). valid_in τ e ≡ true) (from_variable same.iso from.0 16 from.3) from.2.0 in
    clash kept (R.marks p16 ∙ not_valid_recorded)
