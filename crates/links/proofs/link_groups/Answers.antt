-- `links::link_groups` meets its contract: what it writes of the lent tables are the links of all models that have their packages and E rows. Assumes nothing.
use Rattle.lent.specs.Model.{model}
use Rattle.links.proofs.Others.{linked_in_all}
use Rattle.links.proofs.link_groups.Goals as goal

pub returns-clause-others : goal.returns-clause-others
returns-clause-others c =
    λ o.
    linked_in_all (model c.args.m.now) o _ _ _ _ _ _
    (record { in-nested = c.link_features.ensures; in-extends = c.link_types.ensures.in_extends; in-inverse = c.link_types.ensures.in_inverse })
