-- `group_match::group_link` meets its contract: the link of the group that an end asks for, or of none. Assumes nothing.
use Rattle.lent.specs.Model.{model}
use Rattle.group_match.proofs.Walks.{link_missing, link_found}
use Rattle.group_match.proofs.group_link.Goals as goal

pub returns-in_err-group : goal.returns-in_err-group
returns-in_err-group c = link_missing (model c.args.m.now) c.args.component c.args.feature c.requires _ c.from_residual.ensures c.in_err-group.ensures.value

pub returns : goal.returns
returns c = link_found (model c.args.m.now) c.args.component c.args.feature c.requires _ _ c.in_ok-group.ensures.value c.link.ensures.value
