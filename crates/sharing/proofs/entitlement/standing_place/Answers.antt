use Rattle.sharing.proofs.Finding.{stands_found}
use Rattle.sharing.proofs.entitlement.standing_place.Goals as goal

pub returns : goal.returns
returns c = stands_found c.args.party c.args.holders.now c.place.result c.if-party-eq0.false c.place.ensures.found
