-- What a program lends for a log, in the rules' words, and what it prints of one.
-- Assumes nothing.
use Rattle.std.specs.Prelude.{ℕ, List, [], ◌∷◌, ◌++◌, replicate}
use Rattle.rules.specs.Judging.{Lent, judge_log, lent}
use Rattle.rules.specs.State.{fresh_board, fresh_heap, fresh_tally}
use Rattle.rules.specs.Verdicts.{line_of, text_of}
use Rattle.rules.specs.declared.Verdict.{Verdict}
use Rattle.console.specs.declared.memory.Memory.{Memory}
use Rattle.console.specs.declared.poisoned.Poisoned.{Poisoned}

abbrev pub lent_of : Memory → Lent
lent_of m = lent m.board.pointers m.heap.selectors m.board.variables m.heap.numbers m.heap.status m.tally

abbrev pub fresh_memory : Memory
fresh_memory = record { board = fresh_board; heap = fresh_heap; tally = fresh_tally }

-- the verdict's line, with its end
abbrev pub printed : Verdict → List ℕ
printed verdict = text_of (line_of verdict) ++ 10 ∷ []

-- the verdict of a log
abbrev pub verdict_of : List ℕ → Verdict
verdict_of log = (judge_log log (lent_of fresh_memory)).verdict

-- what is lent where it shall be seen which places were written: each list 8 places longer than its size
abbrev pub poisoned_memory : Poisoned
poisoned_memory =
    record {
      pointers = replicate 88 0xaaaa;
      selectors = replicate 2056 0xaaaa;
      variables = replicate 88 0xaaaa_aaaa;
      numbers = replicate 1032 0xaaaa_aaaa;
      status = replicate 1032 0xaa;
    }
