-- The number of each class.
use Rattle.std.specs.Prelude.{ℕ, cond, ◌==◌, Ok, Err, Result}
use Rattle.terms.specs.declared.class.Class.{Class}
use Rattle.terms.specs.declared.class.Class.TheVariants.{Customers, Makers, Firms}
use Rattle.terms.specs.declared.refusal.Refusal.{Refusal}
use Rattle.terms.specs.declared.refusal.Refusal.TheVariants.{BadClass}

abbrev pub class_number : Class → ℕ
class_number Customers = 1
class_number Makers = 2
class_number Firms = 3

-- the class of a number, or its refusal
abbrev pub class_of : ℕ → Result Class Refusal
class_of n = cond (n == 1) (Ok Customers) (cond (n == 2) (Ok Makers) (cond (n == 3) (Ok Firms) (Err BadClass)))
