-- The number of each refusal.
use Rattle.std.specs.Prelude.{ℕ}
use Rattle.terms.specs.declared.refusal.Refusal.{Refusal}
use Rattle.terms.specs.declared.refusal.Refusal.TheVariants.{TooManyParties, BadParty, SpecialistNotDrawn, BadClass, WrongLength, NotWritten}

abbrev pub number_of : Refusal → ℕ
number_of TooManyParties = 3
number_of BadParty = 4
number_of SpecialistNotDrawn = 5
number_of BadClass = 7
number_of WrongLength = 16
number_of NotWritten = 17
