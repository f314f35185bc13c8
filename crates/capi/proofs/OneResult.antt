-- Two results that the contract of a call allows are equal: the number returned and every buffer at exit.
-- Each contract is one equation between what the call leaves and a definition over what it was lent. Assumes nothing.
use Prim.Native.Nat.{ℕ}
use mathlib.Core.List.{List}
use mathlib.Core.Path.{◌≡◌}
use Rattle.fields.proofs.OneResult.{one_answer}
use Rattle.capi.specs.Fields.{ReadLeft, WriteLeft, read_call, write_call}
use Rattle.capi.specs.Judging.{Left, judge_call}
use Rattle.capi.specs.Replaying.{ReplayLeft, replay_call}
use Rattle.capi.specs.Showing.{ShowLeft, show_call}

pub one_judgement : (log pointers selectors variables numbers status tally answer : List ℕ) (x y : Left)
    → x ≡ judge_call log pointers selectors variables numbers status tally answer
    → y ≡ judge_call log pointers selectors variables numbers status tally answer
    → x ≡ y
one_judgement log pointers selectors variables numbers status tally answer = one_answer (judge_call log pointers selectors variables numbers status tally answer)

pub one_replay : (log out pointers selectors variables numbers status tally answer : List ℕ) (x y : ReplayLeft)
    → x ≡ replay_call log out pointers selectors variables numbers status tally answer
    → y ≡ replay_call log out pointers selectors variables numbers status tally answer
    → x ≡ y
one_replay log out pointers selectors variables numbers status tally answer = one_answer (replay_call log out pointers selectors variables numbers status tally answer)

pub one_reading : (part : List ℕ) (place : ℕ) (field : List ℕ) (x y : ReadLeft) → x ≡ read_call part place field → y ≡ read_call part place field → x ≡ y
one_reading part place field = one_answer (read_call part place field)

pub one_writing : (field out answer : List ℕ) (x y : WriteLeft) → x ≡ write_call field out answer → y ≡ write_call field out answer → x ≡ y
one_writing field out answer = one_answer (write_call field out answer)

pub one_showing : (log : List ℕ) (number : ℕ) (part : List ℕ) (x y : ShowLeft) → x ≡ show_call log number part → y ≡ show_call log number part → x ≡ y
one_showing log number part = one_answer (show_call log number part)
