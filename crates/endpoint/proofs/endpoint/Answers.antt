-- `endpoint::endpoint` meets its contract: what it answers of the lent tables it answers of all models that have their components, packages and E rows.
-- Assumes nothing.
use Rattle.std.proofs.Common.{arith, None}
use Rattle.lent.specs.Model.{model}
use Rattle.endpoint.proofs.Steps.{endpoint_steps}
use Rattle.endpoint.proofs.Others.{endpoint_in_all}
use Rattle.endpoint.proofs.endpoint.Goals as goal

pub returns-then-not-has_group_feature-clause-others : goal.returns-then-not-has_group_feature-clause-others
returns-then-not-has_group_feature-clause-others c = λ o. endpoint_in_all (model c.args.m.now) o c.args.component c.args.feature None (grind (arith, endpoint_steps))

pub returns-in_err-row-clause-others : goal.returns-in_err-row-clause-others
returns-in_err-row-clause-others c = λ o. endpoint_in_all (model c.args.m.now) o c.args.component c.args.feature c.from_residual.result (grind (arith, endpoint_steps))

pub returns-in_err-declared_group-in-ComponentType-clause-others : goal.returns-in_err-declared_group-in-ComponentType-clause-others
returns-in_err-declared_group-in-ComponentType-clause-others c =
    λ o. endpoint_in_all (model c.args.m.now) o c.args.component c.args.feature c.from_residual-in_err-declared_group-in-ComponentType.result (grind (arith, endpoint_steps))

pub returns-in_ok-declared_group-in-ComponentType-clause-others : goal.returns-in_ok-declared_group-in-ComponentType-clause-others
returns-in_ok-declared_group-in-ComponentType-clause-others c =
    λ o. endpoint_in_all (model c.args.m.now) o c.args.component c.args.feature c.classifier.result (grind (arith, endpoint_steps))

pub returns-in-ComponentImpl : goal.returns-in-ComponentImpl
returns-in-ComponentImpl c =
    record {
      value = grind (arith, endpoint_steps);
      others = λ o. endpoint_in_all (model c.args.m.now) o c.args.component c.args.feature None (grind (arith, endpoint_steps));
    }
