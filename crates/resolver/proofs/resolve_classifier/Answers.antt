-- `resolver::resolve_classifier` meets its contract: what it answers of the lent tables it answers of all models that have their packages. Assumes nothing.
use Rattle.std.proofs.Common.{arith}
use Rattle.resolver.proofs.Steps.{resolve_steps}
use Rattle.resolver.proofs.Others.{found_in_all}
use Rattle.lent.specs.Model.{model}
use Rattle.resolver.proofs.resolve_classifier.Goals as goal

pub returns-then-reference-ne-MISSING-clause-others : goal.returns-then-reference-ne-MISSING-clause-others
returns-then-reference-ne-MISSING-clause-others c = λ o. found_in_all (model c.args.m.now) o _ _ _ (grind (arith, resolve_steps))

pub returns-in_err-asking-clause-others : goal.returns-in_err-asking-clause-others
returns-in_err-asking-clause-others c = λ o. found_in_all (model c.args.m.now) o _ _ _ (grind (arith, resolve_steps))

pub returns-clause-others : goal.returns-clause-others
returns-clause-others c = λ o. found_in_all (model c.args.m.now) o _ _ _ (grind (arith, resolve_steps))
