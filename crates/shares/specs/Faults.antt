-- What is told of each fault, and which fault a refused draw is.
use Rattle.std.specs.Prelude.{ℕ, List, codes}
use Rattle.terms.specs.declared.Refusal.{Refusal}
use Rattle.terms.specs.declared.Refusal.TheVariants.{TooManyParties, SpecialistNotDrawn}
use Rattle.shares.specs.declared.fault.Fault.{Fault}
use Rattle.shares.specs.declared.fault.Fault.TheVariants.{TooLong, Word, Number, TooFew, TooMany, Parties, Party, Specialist, Holder, Size, Twice, Full, Order, Directed}

-- what is told of a line that has it, behind the line's number
abbrev pub text_of : Fault → List ℕ
text_of TooLong = codes "is longer than 200 bytes"
text_of Word = codes "begins with none of draw, customer, maker, firm, order"
text_of Number = codes "has a field that is no number (1 to 9 digits, no leading zero)"
text_of TooFew = codes "lacks a field"
text_of TooMany = codes "has a field too many"
text_of Parties = codes "draws more than 16 parties"
text_of Party = codes "draws a party twice, or one out of 1 to 65535"
text_of Specialist = codes "names a specialist that is not drawn"
text_of Holder = codes "has a number out of range (orders to 999999, parties to 65535)"
text_of Size = codes "has a size out of 1 to 99999"
text_of Twice = codes "names a holder that stands already"
text_of Full = codes "is one entry more than the 64 that a class may have"
text_of Order = codes "has an order's size out of 1 to 999999"
text_of Directed = codes "directs the order to a party out of 1 to 65535"

-- what is wrong with a draw that is refused
abbrev pub fault_of : Refusal → Fault
fault_of TooManyParties = Parties
fault_of SpecialistNotDrawn = Specialist
fault_of _ = Party
