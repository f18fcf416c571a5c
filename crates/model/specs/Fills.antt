-- The fills of a Trade: who gets how much, the tables less that, and the blocks that show it.
use Rattle.std.specs.Prelude.{ℕ, ◌+◌, ◌-◌, cond, List, [], ◌∷◌, ◌++◌, ◌==◌}
use Rattle.blocks.specs.declared.Fill.{Fill}
use Rattle.blocks.specs.Blocks.{block}
use Rattle.kept.specs.Standing.{Interest, with_left}
use Rattle.model.specs.Tables.{Tables}
use Rattle.model.specs.Words.{customer, maker, firm, places, Three, Blocks}

-- the fills of each class
abbrev pub Fills : Type 0
Fills = Three (List Fill)

-- no fills
abbrev pub none : Fills
none = record { customers = []; makers = []; firms = [] }

-- fills, and then others
abbrev pub then_fills : (x y : Fills) → Fills
then_fills x y =
    record { customers = x.customers ++ y.customers; makers = x.makers ++ y.makers; firms = x.firms ++ y.firms }

-- shares beside the records that get them; a share of 0 is left out
abbrev pub fills : List Interest → (shares : List ℕ) → List Fill
fills [] shares = []
fills (r ∷ rs) [] = []
fills (r ∷ rs) (n ∷ ns) =
    let rest : List Fill = fills rs ns in cond (n == 0) rest (record { holder = r.holder; contracts = n } ∷ rest)

-- the same for each class, from its shares
abbrev pub fills_at : Tables → (to_customers to_makers to_firms : List ℕ) → Fills
fills_at here to_customers to_makers to_firms =
    record {
      customers = fills here.customers to_customers;
      makers = fills here.makers to_makers;
      firms = fills here.firms to_firms;
    }

-- the contracts that some fills give a holder
abbrev pub given_to : (holder : ℕ) → List Fill → ℕ
given_to h [] = 0
given_to h (f ∷ fs) = cond (h == f.holder) f.contracts 0 + given_to h fs

-- a record lowered to n in front of others; with nothing left it leaves
abbrev pub lowered : (n : ℕ) → Interest → List Interest → List Interest
lowered n r rs = cond (n == 0) rs (with_left n r ∷ rs)

-- a table less some fills
abbrev pub less : List Fill → List Interest → List Interest
less fs [] = []
less fs (r ∷ rs) = lowered (r.left - given_to r.holder fs) r (less fs rs)

-- the tables less a Trade's fills
abbrev pub less_all : Fills → Tables → Tables
less_all f ts =
    record { customers = less f.customers ts.customers; makers = less f.makers ts.makers; firms = less f.firms ts.firms }

-- the blocks of a Trade's fills
abbrev pub blocks_of : Fills → Blocks
blocks_of f =
    record { customers = block (places customer) f.customers; makers = block (places maker) f.makers; firms = block (places firm) f.firms }
