-- What the code hands to a rule, as the rule's inputs.
use Rattle.sharing.specs.Rule.{Inputs, inputs}
use Rattle.sharing.specs.declared.asked.Asked.{Asked}

abbrev pub inputs_of : Asked → Inputs
inputs_of a = inputs a.holders.now a.sizes.now a.arriving a.number a.directed
