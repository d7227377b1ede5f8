-- `resolver::rename_for` meets its contract: the classifier rename, or the group rename. Assumes nothing.
use Rattle.lent.specs.Model.{model}
use Rattle.columns.specs.Reference.{ref_of}
use Rattle.resolver.proofs.Steps.{classifier_rename, group_rename}
use Rattle.resolver.proofs.rename_for.Goals as goal

pub returns-in-Some : goal.returns-in-Some
returns-in-Some c = classifier_rename (model c.args.m.now) c.args.asking (ref_of c.args.reference) _ c.in-Some.ensures

pub returns : goal.returns
returns c = group_rename (model c.args.m.now) c.args.asking (ref_of c.args.reference) c.in_default.ensures c.if-reference-ne-MISSING.false _ c.find_rename-2.ensures
