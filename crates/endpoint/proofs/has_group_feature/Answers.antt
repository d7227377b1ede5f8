-- `endpoint::has_group_feature` meets its contract. Assumes nothing.
use mathlib.Core.Path.{sym, ◌∙◌}
use Rattle.as5506.specs.Names.{key}
use Rattle.lent.specs.Model.{model}
use Rattle.endpoint.proofs.Steps.{feature_hit}
use Rattle.endpoint.proofs.has_group_feature.Goals as goal

pub returns-then-is_group_feature : goal.returns-then-is_group_feature
returns-then-is_group_feature c =
    let m = model c.args.m.now in feature_hit m c.args.component (key m c.args.feature) c.loop-i.i c.loop-i.invariant c.loop-i-test.true (sym c.is_group_feature.ensures ∙ c.if-is_group_feature.true)
