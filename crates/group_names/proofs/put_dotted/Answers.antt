-- `group_names::put_dotted` meets its contract: two pieces, one behind the other. Assumes nothing.
use Rattle.lent.specs.Model.{model}
use Rattle.group_names.proofs.Joining.{dotted_is}
use Rattle.group_names.proofs.put_dotted.Goals as goal

pub returns-clause-put : goal.returns-clause-put
returns-clause-put c = dotted_is (model c.args.m.now) c.args.k _ _ _ c.put-2.ensures.put c.put.ensures.appended
