-- `resolver::without_package` meets its contract. A rename that is found is within its table, and what it stands for is looked up. Assumes nothing.
use mathlib.Core.Path.{sym, ◌∙◌}
use Rattle.lent.specs.Model.{model}
use Rattle.columns.specs.Reference.{ref_of}
use Rattle.resolver.proofs.Steps.{by_rename}
use Rattle.resolver.proofs.without_package.Goals as goal

pub returns : goal.returns
returns c =
    λ asks.
    by_rename (model c.args.m.now) c.args.from c.args.asking (ref_of c.args.reference) _ c.in_package-own.ensures (sym c.is_some.ensures ∙ c.if-is_some.false) _ _ _ _
    c.in-Some.ensures c.field_at.ensures c.field_at-2.ensures (c.with_package.ensures asks)
