-- The starred log cases of document 01, and those of the orders: one table, and one statement over it.
-- Assumes nothing.
use Rattle.std.specs.Prelude.{ℕ, ◌≡◌, refl, Bool, true, false, ◌&&◌, List, [], ◌∷◌, ◌++◌, eqb, T, get_or, codes}
use Rattle.std.specs.Fmt.{digits}
use Rattle.fields.specs.declared.Field.{Field}
use Rattle.fields.specs.Limits.{log_fields}
use Rattle.fields.specs.Rows.{row_of, is_tag, widths_of, length_of}
use Rattle.fields.specs.Numbers.{field_with, numbers_of}
use Rattle.fields.specs.Checks.{may_name}
use Rattle.fields.specs.Read.{field_of, read_field}
use Rattle.fields.specs.Write.{field_bytes}
use Rattle.rules.specs.declared.Place.{Place}
use Rattle.rules.specs.declared.Place.TheVariants.{PointerWord}
use Rattle.rules.specs.declared.DataPlace.{DataPlace}
use Rattle.rules.specs.declared.DataPlace.TheVariants.{VariableNumber}
use Rattle.rules.specs.Words.{is_valid, cell_of, is_unset, invalidated, after_free}
use Rattle.rules.specs.State.{State, fresh, word, write, datum, store}
use Rattle.rules.specs.Commands.{command_of}
use Rattle.rules.specs.Check.{same_as_wanted, check_by}
use Rattle.rules.specs.Effect.{give, free, count_field}
use Rattle.rules.specs.Run.{run}
use Rattle.rules.specs.Log.{located, run_bytes}
use Rattle.rules.specs.Replay.{bytes_of, replay, starting_data}
use Rattle.rules.specs.Verdicts.{accepted, race, refused, Line, line, line_of, text_of}

-- what a case tells besides its verdict: a word or a number of the state that is left, or a field
pub data Fact : Type 0 where
  word_is : Place → ℕ → Fact
  datum_is : DataPlace → ℕ → Fact
  field_is : ℕ → Field → Fact

pub record Case : Type 0 where
  pub log : List Field
  pub verdict : Line
  -- of the log, and of its replay
  pub facts : List Fact
  pub replayed : List Fact

abbrev pub case : List Field → List ℕ → List ℕ → List Fact → List Fact → Case
case log word numbers facts replayed = record { log = log; verdict = line word numbers; facts = facts; replayed = replayed }

abbrev pub alike : List ℕ → List ℕ → Bool
alike [] [] = true
alike [] (y ∷ ys) = false
alike (x ∷ xs) [] = false
alike (x ∷ xs) (y ∷ ys) = eqb x y && alike xs ys

abbrev pub same_line : Line → Line → Bool
same_line l m = alike l.word m.word && alike l.numbers m.numbers

abbrev pub same_field : Field → Field → Bool
same_field f g = alike (f.tag ∷ numbers_of f) (g.tag ∷ numbers_of g)

-- of a log, and of the state that it leaves
abbrev pub fact_holds : List Field → State → Fact → Bool
fact_holds log s (word_is x w) = eqb (word s x) w
fact_holds log s (datum_is x n) = eqb (datum s x) n
fact_holds log s (field_is i f) = same_field (get_or log i (field_with 0 [])) f

abbrev pub facts_hold : List Field → List Fact → Bool
facts_hold log [] = true
facts_hold log (fact ∷ facts) = fact_holds log (run log fresh).state fact && facts_hold log facts

abbrev pub right : List Case → Bool
right [] = true
right (c ∷ cs) =
    same_line (line_of (located (bytes_of c.log) (run c.log fresh).verdict)) c.verdict
    && facts_hold c.log c.facts
    && facts_hold (replay fresh c.log) c.replayed
    && right cs

-- ---- fields: a tag, and its numbers in the order thread, first, second, third, cell, number; those left out are 0
abbrev pub M : ℕ → ℕ → ℕ → Field
M p a d = field_with 1 (0 ∷ p ∷ 0 ∷ 0 ∷ a ∷ d ∷ [])

abbrev pub free_of : ℕ → Field
free_of p = field_with 2 (0 ∷ p ∷ [])

-- C and D up to the free, and the field that ends both
abbrev pub handed_on : List Field
handed_on = M 0 5 7 ∷ field_with 3 (1 ∷ 24 ∷ 0 ∷ []) ∷ free_of 0 ∷ []

abbrev pub late_read : Field
late_read = field_with 6 (1 ∷ 24 ∷ 24 ∷ [])

abbrev pub log_e : List Field
log_e = M 0 5 0 ∷ M 1 6 0 ∷ field_with 5 (0 ∷ 0 ∷ 0 ∷ 1 ∷ []) ∷ free_of 0 ∷ M 0 5 0 ∷ field_with 4 (0 ∷ 16 ∷ 0 ∷ 0 ∷ []) ∷ []

abbrev pub log_p : List Field
log_p =
    field_with 8 (0 ∷ 0 ∷ 0 ∷ 0 ∷ 0 ∷ 4294967295 ∷ [])
    ∷ field_with 8 (0 ∷ 1 ∷ 0 ∷ 0 ∷ 0 ∷ 1 ∷ [])
    ∷ field_with 13 (0 ∷ 2 ∷ 0 ∷ 1 ∷ [])
    ∷ field_with 11 (0 ∷ 2 ∷ 3 ∷ [])
    ∷ []

-- ---- order 1: cas fields, of thread, p, q and r
abbrev pub cas_done : ℕ → ℕ → ℕ → ℕ → Field
cas_done t p q r = field_with 14 (t ∷ p ∷ q ∷ r ∷ [])

abbrev pub cas_failed : ℕ → ℕ → ℕ → ℕ → Field
cas_failed t p q r = field_with 15 (t ∷ p ∷ q ∷ r ∷ [])

abbrev pub copy_of : ℕ → ℕ → ℕ → Field
copy_of t p q = field_with 3 (t ∷ p ∷ q ∷ [])

-- source 004, Example 1, on a stack of two cells with its top in p0: thread 0 begins a pop (top p16, next p17); thread 1 pops the
-- same cell (p24, p25), frees it, is given it again and pushes it; then thread 0 goes on with its cas
abbrev pub treiber_aba : List Field
treiber_aba =
    M 1 5 0
    ∷ M 0 6 0
    ∷ field_with 5 (0 ∷ 0 ∷ 0 ∷ 1 ∷ [])
    ∷ copy_of 0 16 0
    ∷ field_with 4 (0 ∷ 17 ∷ 16 ∷ 0 ∷ [])
    ∷ copy_of 1 24 0
    ∷ field_with 4 (1 ∷ 25 ∷ 24 ∷ 0 ∷ [])
    ∷ cas_done 1 0 24 25
    ∷ field_with 2 (1 ∷ 24 ∷ [])
    ∷ field_with 1 (1 ∷ 24 ∷ 0 ∷ 0 ∷ 6 ∷ 0 ∷ [])
    ∷ copy_of 1 25 0
    ∷ field_with 5 (1 ∷ 24 ∷ 0 ∷ 25 ∷ [])
    ∷ cas_done 1 0 25 24
    ∷ cas_done 0 0 16 17
    ∷ []

-- ---- order 4: a field that says that p0 and p1 are the same, and one that says that they are not, where both are unset, and where
-- one side is
abbrev pub unset_cases : Field → Field → List Case
unset_cases same apart =
    case (same ∷ []) accepted (1 ∷ 0 ∷ 0 ∷ []) [] []
    ∷ case (apart ∷ []) refused (14 ∷ 0 ∷ 0 ∷ []) [] []
    ∷ case (M 1 5 0 ∷ same ∷ []) refused (14 ∷ 1 ∷ 11 ∷ []) [] []
    ∷ case (M 1 5 0 ∷ apart ∷ []) accepted (2 ∷ 1 ∷ 1 ∷ []) [] []
    ∷ case (M 0 5 0 ∷ same ∷ []) refused (14 ∷ 1 ∷ 11 ∷ []) [] []
    ∷ case (M 0 5 0 ∷ apart ∷ []) accepted (2 ∷ 1 ∷ 1 ∷ []) [] []
    ∷ []

abbrev pub cases : List Case
cases =
    -- A: empty
    case [] accepted (0 ∷ 0 ∷ 0 ∷ []) [] []
    -- B: M(0,5,7); free p0
    ∷ case (M 0 5 7 ∷ free_of 0 ∷ []) accepted (2 ∷ 1 ∷ 0 ∷ []) [] []
    -- C: M(0,5,7); thread 1: p24 := p0; thread 0: free p0; thread 1: x24 := p24.data
    ∷ case (handed_on ++ (late_read ∷ [])) race (3 ∷ 1 ∷ 24 ∷ 22 ∷ []) [] []
    -- D: as C, with M(1,5,7) before the last
    ∷ case (handed_on ++ (M 1 5 7 ∷ late_read ∷ [])) race (4 ∷ 1 ∷ 24 ∷ 33 ∷ []) [] []
    -- E: M(0,5,0); M(1,6,0); p0.0 := p1; free p0; M(0,5,0); p16 := p0.0
    ∷ case log_e accepted (6 ∷ 3 ∷ 2 ∷ []) (word_is (PointerWord 16) 2054 ∷ []) (word_is (PointerWord 16) 1024 ∷ [])
    -- F: E, then thread 0 asserts p16 = p1
    ∷ case (log_e ++ (field_with 9 (0 ∷ 16 ∷ 1 ∷ []) ∷ [])) race (6 ∷ 0 ∷ 16 ∷ 52 ∷ []) [] []
    -- G: M(0,5,0) twice
    ∷ case (M 0 5 0 ∷ M 0 5 0 ∷ []) refused (13 ∷ 1 ∷ 11 ∷ []) [] []
    -- H: x0 := p0.data
    ∷ case (field_with 6 (0 ∷ 0 ∷ 0 ∷ []) ∷ []) refused (12 ∷ 0 ∷ 0 ∷ []) [] []
    -- I: free p0
    ∷ case (free_of 0 ∷ []) accepted (1 ∷ 0 ∷ 0 ∷ []) [] []
    -- J: assert p0 ≠ p0
    ∷ case (field_with 10 (0 ∷ 0 ∷ 0 ∷ []) ∷ []) refused (14 ∷ 0 ∷ 0 ∷ []) [] []
    -- K: M(0,5,0); assert p0 ≠ p0
    ∷ case (M 0 5 0 ∷ field_with 10 (0 ∷ 0 ∷ 0 ∷ []) ∷ []) refused (14 ∷ 1 ∷ 11 ∷ []) [] []
    -- L: M(0,5,7); free p0; M(0,5,9); x0 := p0.data
    ∷ case (M 0 5 7 ∷ free_of 0 ∷ M 0 5 9 ∷ field_with 6 (0 ∷ 0 ∷ 0 ∷ []) ∷ []) accepted (4 ∷ 2 ∷ 1 ∷ []) (datum_is (VariableNumber 0) 7 ∷ []) (field_is 2 (M 0 1 7) ∷ [])
    -- O: M(0,5,0); free p0; M(0,5,0); thread 0: p16 := p0.0; free p16, which leaves the word that it met
    ∷ case (M 0 5 0 ∷ free_of 0 ∷ M 0 5 0 ∷ field_with 4 (0 ∷ 16 ∷ 0 ∷ 0 ∷ []) ∷ free_of 16 ∷ []) race (4 ∷ 0 ∷ 16 ∷ 34 ∷ []) (word_is (PointerWord 16) 3072 ∷ []) []
    -- P: x0 := 4294967295; x1 := 1; x2 := x0 + x1; assert x2 = x3
    ∷ case log_p accepted (4 ∷ 0 ∷ 0 ∷ []) [] []
    -- a cas that succeeds: M(0,5,7); p1 := p0; M(2,6,0); cas done p0 = p1, p0 := p2
    ∷ case (M 0 5 7 ∷ copy_of 0 1 0 ∷ M 2 6 0 ∷ cas_done 0 0 1 2 ∷ []) accepted (4 ∷ 2 ∷ 2 ∷ []) (word_is (PointerWord 0) 6 ∷ []) (field_is 3 (cas_done 0 0 1 2) ∷ word_is (PointerWord 0) 1 ∷ [])
    -- a cas whose assertion fails: M(0,5,7); M(1,6,0); cas done p0 = p1, p0 := p1
    ∷ case (M 0 5 7 ∷ M 1 6 0 ∷ cas_done 0 0 1 1 ∷ []) refused (14 ∷ 2 ∷ 22 ∷ []) (word_is (PointerWord 0) 5 ∷ []) []
    -- a failed cas, which copies nothing: M(0,5,7); M(1,6,0); cas failed p0 ≠ p1, r = p1
    ∷ case (M 0 5 7 ∷ M 1 6 0 ∷ cas_failed 0 0 1 1 ∷ []) accepted (3 ∷ 2 ∷ 2 ∷ []) (word_is (PointerWord 0) 5 ∷ []) []
    -- a failed cas whose assertion fails: M(0,5,7); cas failed p0 ≠ p0
    ∷ case (M 0 5 7 ∷ cas_failed 0 0 0 0 ∷ []) refused (14 ∷ 1 ∷ 11 ∷ []) [] []
    -- a race at p, before q: M(0,5,7); p1 := p0; free p0; cas done p1 = p0
    ∷ case (M 0 5 7 ∷ copy_of 0 1 0 ∷ free_of 0 ∷ cas_done 0 1 0 2 ∷ []) race (3 ∷ 0 ∷ 1 ∷ 22 ∷ []) [] []
    -- a race at q, p being valid: as before, but cas done p2 = p1
    ∷ case (M 0 5 7 ∷ copy_of 0 1 0 ∷ free_of 0 ∷ cas_done 0 2 1 2 ∷ []) race (3 ∷ 0 ∷ 1 ∷ 22 ∷ []) [] []
    -- an invalid r is copied: M(0,5,7); p1 := p0; free p0; M(2,6,0); p3 := p2; cas done p2 = p3, p2 := p1
    ∷ case (M 0 5 7 ∷ copy_of 0 1 0 ∷ free_of 0 ∷ M 2 6 0 ∷ copy_of 0 3 2 ∷ cas_done 0 2 3 1 ∷ []) accepted (6 ∷ 2 ∷ 1 ∷ []) (word_is (PointerWord 2) 2053 ∷ []) (word_is (PointerWord 2) 2048 ∷ [])
    -- a Treiber stack's ABA
    ∷ case treiber_aba race (13 ∷ 0 ∷ 16 ∷ 98 ∷ []) [] []
    -- unset handles in assertions, and in cas fields
    ∷ (unset_cases (field_with 9 (0 ∷ 0 ∷ 1 ∷ [])) (field_with 10 (0 ∷ 0 ∷ 1 ∷ [])) ++ unset_cases (cas_done 0 0 1 1) (cas_failed 0 0 1 1))

pub cases_hold : T (right cases)
unfolding row_of widths_of length_of field_bytes is_valid cell_of is_unset invalidated after_free fresh write store command_of same_as_wanted check_by give free count_field starting_data
cases_hold = tt

-- C as the 28 bytes that document 01 gives
abbrev pub bytes_c : List ℕ
bytes_c =
    -- M(0,5,7)
    1 ∷ 8 ∷ 0 ∷ 0 ∷ 0 ∷ 5 ∷ 0 ∷ 7 ∷ 0 ∷ 0 ∷ 0
    -- thread 1: p24 := p0
    ∷ 3 ∷ 3 ∷ 0 ∷ 1 ∷ 24 ∷ 0
    -- thread 0: free p0
    ∷ 2 ∷ 2 ∷ 0 ∷ 0 ∷ 0
    -- thread 1: x24 := p24.data
    ∷ 6 ∷ 3 ∷ 0 ∷ 1 ∷ 24 ∷ 24
    ∷ []

pub bytes_c-race : line_of (located bytes_c (run_bytes log_fields bytes_c fresh).verdict) ≡ line race (3 ∷ 1 ∷ 24 ∷ 22 ∷ [])
unfolding row_of is_tag widths_of length_of may_name field_of read_field is_valid cell_of is_unset invalidated after_free fresh write store command_of same_as_wanted check_by give free count_field
bytes_c-race = refl

-- and what is printed of it
pub text_of_c : text_of (line race (3 ∷ 1 ∷ 24 ∷ 22 ∷ [])) ≡ codes "race 3 1 24 22"
unfolding digits
text_of_c = refl
