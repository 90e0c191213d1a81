-- Document 01, "Numbers handed back when a call is turned down", and the numbers that document 02 and the transform block add: what each
-- refusal's number is.
use Rattle.std.specs.Prelude.{ℕ, Result, Ok, Err}
use Rattle.meaning.specs.declared.refusal.Refusal.{Refusal}
use Rattle.meaning.specs.declared.refusal.Refusal.TheVariants.{Width, Height, Horizontal, Vertical, Depth, Input, Output, OutsideKept, TooLarge, CutShort, UnknownTag, FieldLength, NoShape, FileTooLong, Place, TooManyBlocks, Unwritten, TooManySteps, WorkArea, Kept, Order, TotalsFull, Residual, Header, Samples, TooManyDropped, OutOfRange, Cell, StepResult, KindOfSide, LowFrequency}

abbrev pub refusal_number : Refusal → ℕ
refusal_number Width = 1
refusal_number Height = 2
refusal_number Horizontal = 3
refusal_number Vertical = 4
refusal_number Depth = 5
refusal_number Input = 6
refusal_number Output = 7
refusal_number OutsideKept = 8
refusal_number TooLarge = 9
refusal_number CutShort = 10
refusal_number UnknownTag = 11
refusal_number FieldLength = 12
refusal_number NoShape = 13
refusal_number FileTooLong = 14
refusal_number Place = 15
refusal_number TooManyBlocks = 16
refusal_number Unwritten = 17
refusal_number TooManySteps = 18
refusal_number WorkArea = 19
refusal_number Kept = 20
refusal_number Order = 21
refusal_number TotalsFull = 22
refusal_number Residual = 23
refusal_number Header = 24
refusal_number Samples = 25
refusal_number TooManyDropped = 26
refusal_number OutOfRange = 27
refusal_number Cell = 28
refusal_number StepResult = 29
refusal_number KindOfSide = 30
refusal_number LowFrequency = 31

-- the number that is handed back of what a test says: "0" where none applies
abbrev pub number_in : Result Unit Refusal → ℕ
number_in (Ok done) = 0
number_in (Err refusal) = refusal_number refusal
