-- The whole law, for two lawful rules, and the records law for two pairs of them.
use Rattle.sharing.specs.Rule.{Lawful}
use Rattle.model.specs.Book.{made, day}
use Rattle.model.specs.Trading.{Rule}
use Rattle.laws.specs.Law.{LawOfEveryDay, RecordsLaw}
use Rattle.laws.proofs.Days.{possible_day, accounts_hold, priority_holds, tables_hold}
use Rattle.laws.proofs.Records.{records_match}

pub the_law : {S T : Type 0} (M : Rule S) (F : Rule T) → Lawful M.shares M.next → Lawful F.shares F.next → LawOfEveryDay M F
the_law M F lm lf side roster acc s f calls =
    let a = possible_day M F lm lf side roster acc s f calls in
    record {
      possible = a;
      records = λ other o. records_match side (day M F (made side roster s f) calls) other a o;
      accounts = accounts_hold M F lm lf side roster acc s f calls;
      priority = priority_holds M F lm lf side roster acc s f calls;
      tables = tables_hold M F lm lf side roster acc s f calls;
    }

pub the_records_law : {S T S' T' : Type 0} (M : Rule S) (F : Rule T) (M' : Rule S') (F' : Rule T') →
    Lawful M.shares M.next → Lawful F.shares F.next → Lawful M'.shares M'.next → Lawful F'.shares F'.next → RecordsLaw M F M' F'
the_records_law M F M' F' lm lf lm' lf' side roster roster' acc acc' s f s' f' calls calls' =
    records_match side (day M F (made side roster s f) calls) (day M' F' (made side roster' s' f') calls')
    (possible_day M F lm lf side roster acc s f calls) (possible_day M' F' lm' lf' side roster' acc' s' f' calls')
