-- The call that judges a log: what it returns, and every buffer afterwards. The call that replays one tells its verdict alike.
-- Assumes nothing.
use Rattle.std.specs.Prelude.{ℕ, leb, get_or, length, Bool, cond, ◌&&◌, List, [], ◌∷◌, ◌≡◌}
use Rattle.rules.specs.declared.Tally.{Tally}
use Rattle.rules.specs.declared.Verdict.{Verdict}
use Rattle.rules.specs.declared.Verdict.TheVariants.{Accepted, Raced, Refused, Declined}
use Rattle.rules.specs.Judging.{Lent, judge_log, lent}
use Rattle.rules.specs.Verdicts.{line_of}
use Rattle.capi.specs.Fronts.{front}

-- the number returned, and the seven buffers
pub record Left : Type 0 where
  pub returns : ℕ
  pub pointers : List ℕ
  pub selectors : List ℕ
  pub variables : List ℕ
  pub numbers : List ℕ
  pub status : List ℕ
  pub tally : List ℕ
  pub answer : List ℕ

abbrev pub left : ℕ → List ℕ → List ℕ → List ℕ → List ℕ → List ℕ → List ℕ → List ℕ → Left
left returns pointers selectors variables numbers status tally answer =
    record {
      returns = returns;
      pointers = pointers;
      selectors = selectors;
      variables = variables;
      numbers = numbers;
      status = status;
      tally = tally;
      answer = answer;
    }

-- ---- what the calls return
abbrev pub kind_of : Verdict → ℕ
kind_of (Accepted fields mallocs live) = 0
kind_of (Raced field thread variable offset) = 1
kind_of (Refused r field offset) = 2
kind_of (Declined r) = 2

-- the tally or the answer is too short, and nothing was looked at or touched
abbrev pub no_room : ℕ
no_room = 3

-- ---- the tally and the answer as lists
abbrev pub tally_places : ℕ
tally_places = 3

abbrev pub answer_places : ℕ
answer_places = 4

abbrev pub has_room : List ℕ → List ℕ → Bool
has_room tally answer = leb tally_places (length tally) && leb answer_places (length answer)

abbrev pub tally_in : List ℕ → Tally
tally_in tally = record { fields = get_or tally 0 0; mallocs = get_or tally 1 0; live = get_or tally 2 0 }

abbrev pub counts : Tally → List ℕ
counts t = t.fields ∷ t.mallocs ∷ t.live ∷ []

-- a verdict and what is lent, in numbers and lists: document 01's numbers as printed, at the front of the answer
abbrev pub told : Verdict → Lent → List ℕ → List ℕ → Left
told verdict after tally answer =
    left (kind_of verdict) after.pointers after.selectors after.variables after.numbers after.status
    (front (counts after.tally) tally)
    (front (line_of verdict).numbers answer)

-- what a call tells of a verdict and a tally: the number that it returns, and the tally and the answer, before and after
pub record Tells (verdict : Verdict) (after : Tally) (tally answer : List ℕ) (returns : ℕ) (tally' answer' : List ℕ) : Type 0 where
  pub kind : returns ≡ kind_of verdict
  pub done : tally' ≡ front (counts after) tally
  pub said : answer' ≡ front (line_of verdict).numbers answer

-- ---- the call
unfoldable pub judge_call : List ℕ → List ℕ → List ℕ → List ℕ → List ℕ → List ℕ → List ℕ → List ℕ → Left
judge_call log pointers selectors variables numbers status tally answer =
    let end = judge_log log (lent pointers selectors variables numbers status (tally_in tally)) in
    cond (has_room tally answer) (told end.verdict end.after tally answer)
    (left no_room pointers selectors variables numbers status tally answer)
