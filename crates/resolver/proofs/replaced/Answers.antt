-- `resolver::replaced` meets its contract. A rename that is found is within its table. Assumes nothing.
use Rattle.lent.specs.Model.{model}
use Rattle.resolver.proofs.Steps.{renamed}
use Rattle.resolver.proofs.replaced.Goals as goal

pub returns : goal.returns
returns c = renamed (model c.args.m.now) c.args.«package» c.args.asking c.in-Some.row c.in-Some.is _ _ c.in-Some-find_rename.ensures c.field_at.ensures
