-- The tables of a program, as the model has them: the interest that each standing record shows.
use Rattle.std.specs.Prelude.{List, map}
use Rattle.kept.specs.Kept.{standing}
use Rattle.kept.specs.Orders.{order_shown}
use Rattle.kept.specs.Quotes.{quote_shown}
use Rattle.kept.specs.Standing.{Interest}
use Rattle.kept.specs.declared.KeptList.{KeptList}
use Rattle.kept.specs.declared.Order.{Order}
use Rattle.kept.specs.declared.Quote.{Quote}
use Rattle.kept.specs.declared.Tables.{Tables as Held}
use Rattle.model.specs.Tables.{Tables}

abbrev pub orders_shown : KeptList Order → List Interest
orders_shown l = map order_shown (standing l)

abbrev pub quotes_shown : KeptList Quote → List Interest
quotes_shown l = map quote_shown (standing l)

abbrev pub tables_shown : Held → Tables
tables_shown t = record { customers = orders_shown t.customers; makers = quotes_shown t.makers; firms = orders_shown t.firms }
