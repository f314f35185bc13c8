-- Judging a log over what the caller lends: 1, 2, then field by field from the fresh state, whatever the buffers held.
-- Refusals 1 and 2 leave everything as it was, and memory past the named sizes is never changed. Assumes nothing.
use Rattle.std.specs.Prelude.{ℕ, Bool, ◌&&◌, List, [], ◌∷◌, ◌++◌, leb, length, drop}
use Rattle.fields.specs.declared.Refusal.TheVariants.{LogTooLong, BufferTooShort}
use Rattle.fields.specs.Limits.{log_bytes, log_fields, cells}
use Rattle.fields.specs.Order.{test, in_order}
use Rattle.rules.specs.declared.Tally.{Tally}
use Rattle.rules.specs.declared.Verdict.{Verdict}
use Rattle.rules.specs.declared.Verdict.TheVariants.{Declined}
use Rattle.rules.specs.State.{State, board_pointers, board_variables, heap_selectors, fresh}
use Rattle.rules.specs.Run.{tally_of}
use Rattle.rules.specs.Log.{located, run_bytes}

-- the five buffers, each of any length, and the tally
pub record Lent : Type 0 where
  pub pointers : List ℕ
  pub selectors : List ℕ
  pub variables : List ℕ
  pub numbers : List ℕ
  pub status : List ℕ
  pub tally : Tally

abbrev pub lent : List ℕ → List ℕ → List ℕ → List ℕ → List ℕ → Tally → Lent
lent pointers selectors variables numbers status tally =
    record {
      pointers = pointers;
      selectors = selectors;
      variables = variables;
      numbers = numbers;
      status = status;
      tally = tally;
    }

-- no heap buffer is shorter than its size
unfoldable pub long_enough : Lent → Bool
long_enough l =
    leb board_pointers (length l.pointers)
    && leb heap_selectors (length l.selectors)
    && leb board_variables (length l.variables)
    && leb cells (length l.numbers)
    && leb cells (length l.status)

-- what is lent, with a state at the fronts of the buffers and its tally
abbrev pub showing : State → Lent → Lent
showing s l =
    lent (s.pointers ++ drop board_pointers l.pointers) (s.selectors ++ drop heap_selectors l.selectors)
    (s.variables ++ drop board_variables l.variables) (s.numbers ++ drop cells l.numbers)
    (s.status ++ drop cells l.status)
    (tally_of s)

-- the verdict, and what is lent afterwards
pub record Judged : Type 0 where
  pub verdict : Verdict
  pub after : Lent

abbrev pub judged : Verdict → Lent → Judged
judged verdict after = record { verdict = verdict; after = after }

unfoldable pub judge_log : List ℕ → Lent → Judged
judge_log log l =
    let end = run_bytes log_fields log fresh in
    in_order (λ r. judged (Declined r) l) (judged (located log end.verdict) (showing end.state l))
    (test (leb (length log) log_bytes) LogTooLong
    ∷ test (long_enough l) BufferTooShort
    ∷ [])
