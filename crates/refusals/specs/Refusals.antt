-- The numbers of the refusals, as C gets them: 0 is accepted.
use Rattle.std.specs.Prelude.{ℕ, Result, Ok, Err}
use Rattle.refusals.specs.declared.Refusal.{Refusal}
use Rattle.refusals.specs.declared.Refusal.TheVariants.{ImageSize, ImageStructure, ImageNumber, ImageCodes, BadValue, BadLoan, NotInForm, NotLoaded, OutOfTurn, FewValues, ManyFrames, LiveFull, StoreFull, ManyHandlers}

abbrev pub number : Refusal → ℕ
number ImageSize = 1
number ImageStructure = 2
number ImageNumber = 3
number ImageCodes = 4
number BadValue = 5
number BadLoan = 6
number NotInForm = 7
number NotLoaded = 10
number OutOfTurn = 11
number FewValues = 12
number ManyFrames = 13
number LiveFull = 14
number StoreFull = 15
number ManyHandlers = 16

abbrev pub number_of : Result (Unit {0}) Refusal → ℕ
number_of (Ok _) = 0
number_of (Err r) = number r
