-- The law of the day: what holds after every accepted Make, of every row of calls, whatever the two sharing rules.
use Rattle.std.specs.Prelude.{◌≡◌, ℕ, ◌+◌, true, ◌↔◌, List}
use Rattle.terms.specs.Numbers.{within}
use Rattle.model.specs.Accounts.{contracts_entered, contracts_filled, contracts_taken_off}
use Rattle.model.specs.Book.{Book, made, ends, after_all, day}
use Rattle.model.specs.Customers.{customer_view, customer_record}
use Rattle.model.specs.Make.{Accepted}
use Rattle.model.specs.Trading.{Rule}
use Rattle.model.specs.Words.{of, Call, tally, answered, Row, Day}
use Rattle.laws.specs.Possible.{PossibleDay}
use Rattle.laws.specs.Priority.{PriorityKept}
use Rattle.laws.specs.Tables.{TableHoldsWhatStands}

-- two days have the same customer record exactly when they show the same of their customers
abbrev pub RecordsMatchViews : (side : ℕ) → Day → Day → Type 0
RecordsMatchViews side d d' = (customer_record d ≡ customer_record d') ↔ (customer_view side d ≡ customer_view side d')

-- contracts entered = contracts filled + contracts taken off + contracts standing
abbrev pub AccountsBalance : (class standing : ℕ) → Day → Type 0
AccountsBalance class standing d = contracts_entered class d ≡ contracts_filled class d + contracts_taken_off class d + standing

module _ {S T : Type 0} (M : Rule S) (F : Rule T) where
  -- a Tally of a class would be answered, and its answer balances the accounts of the class
  pub record TallyBalances (class : ℕ) (d : Day) (book : Book S T) : Type 0 where
    pub standing : ℕ
    pub tallied : ends M F book (tally class) ≡ answered standing
    pub balance : AccountsBalance class standing d

  -- what holds of a day and the book that it leaves
  pub record Law (side : ℕ) (roster : List ℕ) (d : Day) (book : Book S T) : Type 0 where
    -- the tables hold exactly the records that stand by the day's own account
    pub tables : (class : ℕ) → within 3 class ≡ true → TableHoldsWhatStands side roster class (of class book.tables) d
    -- the customer record tells what the day shows of its customers, all of it and nothing else: the day is possible, and against
    -- every possible day, whatever its roster, specialist, rules and states, equal records are equal views
    pub possible : PossibleDay side d
    pub records : (other : Day) → PossibleDay side other → RecordsMatchViews side d other
    -- the accounts of each class balance
    pub accounts : (class : ℕ) → within 3 class ≡ true → TallyBalances class d book
    -- every Trade kept to the order of service
    pub priority : PriorityKept side d

  -- the law for all: every accepted Make, all initial states of the rules, every row of calls
  abbrev pub LawOfEveryDay : Type 0
  LawOfEveryDay =
      (side : ℕ) (roster : List ℕ) → Accepted side roster → (s : S) (t : T) (calls : Row Call) →
      Law side roster (day M F (made side roster s t) calls) (after_all M F (made side roster s t) calls)

-- the records of any two books on one side, each under its own pair of rules
abbrev pub RecordsLaw : {S T S' T' : Type 0} → Rule S → Rule T → Rule S' → Rule T' → Type 0
RecordsLaw {S} {T} {S'} {T'} M F M' F' =
    (side : ℕ) (roster roster' : List ℕ) → Accepted side roster → Accepted side roster' →
    (s : S) (t : T) (s' : S') (t' : T') (calls calls' : Row Call) →
    RecordsMatchViews side (day M F (made side roster s t) calls) (day M' F' (made side roster' s' t') calls')
