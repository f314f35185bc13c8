-- The number that document 01 ("Verdicts and their order") or an order (docs/02-orders.md) gives each refusal.
-- Assumes nothing.
use Rattle.std.specs.Prelude.{ℕ}
use Rattle.fields.specs.declared.Refusal.{Refusal}
use Rattle.fields.specs.declared.Refusal.TheVariants.{LogTooLong, BufferTooShort, TooManyFields, CutShort, UnknownTag, WrongLength, UnknownThread, ForeignVariable, UnknownSelector, UnknownCell, TooManyMallocs, UnsetPointer, LiveCell, AssertionFails, OutputTooShort, FieldNotReached}

abbrev pub number_of : Refusal → ℕ
-- log longer than 45,056 bytes
number_of LogTooLong = 1
-- a heap buffer is shorter than its size
number_of BufferTooShort = 2
-- bytes remain after 4,096 fields
number_of TooManyFields = 3
-- 1 or 2 bytes remain (0 too where one field is read alone), or the value is cut short
number_of CutShort = 4
-- tag not 1 to 15
number_of UnknownTag = 5
-- length not the tag's
number_of WrongLength = 6
-- thread above 7
number_of UnknownThread = 7
-- a variable above 79, or another thread's
number_of ForeignVariable = 8
-- selector above 1
number_of UnknownSelector = 9
-- cell above 1,023
number_of UnknownCell = 10
-- malloc after 1,024 mallocs
number_of TooManyMallocs = 11
-- a valid but unset pointer is gone through
number_of UnsetPointer = 12
-- malloc of a live cell
number_of LiveCell = 13
-- an assertion does not hold
number_of AssertionFails = 14
-- output shorter than what is to be written
number_of OutputTooShort = 15
-- a field to be shown is not reached by the reading checks, or the log ends before it
number_of FieldNotReached = 16
