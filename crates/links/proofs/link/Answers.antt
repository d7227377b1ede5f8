-- `links::link` meets its contract: what it answers of the lent tables it answers of all models that have their packages. Assumes nothing.
use Rattle.lent.specs.Model.{model}
use Rattle.links.proofs.Others.{link_in_all}
use Rattle.links.proofs.link.Goals as goal

pub returns-clause-others : goal.returns-clause-others
returns-clause-others c = λ o. link_in_all (model c.args.m.now) o _ _ _ c.link.ensures
