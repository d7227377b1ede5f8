-- `resolver::in_package` meets its contract. A row that is found is within its table, and one law of Steps for each hit. Assumes nothing.
use Rattle.lent.specs.Model.{model}
use Rattle.columns.specs.Reference.{ref_of}
use Rattle.resolver.proofs.Steps.{impl_some, type_some, group_some}
use Rattle.resolver.proofs.in_package.Goals as goal

pub returns-then-reference-ne-MISSING : goal.returns-then-reference-ne-MISSING
returns-then-reference-ne-MISSING c =
    impl_some (model c.args.m.now) c.args.own c.args.«package» (ref_of c.args.reference) c.if-reference-ne-MISSING.true _ _ _ c.in_ok-row.ensures c.field_at-private.ensures c.if_visible.ensures

pub returns-in-Some : goal.returns-in-Some
returns-in-Some c =
    type_some (model c.args.m.now) c.args.own c.args.«package» (ref_of c.args.reference) c.if-reference-ne-MISSING.false _ _ _ c.in-Some.ensures c.field_at-private-in-Some.ensures c.if_visible-in-Some.ensures

pub returns : goal.returns
returns c =
    group_some (model c.args.m.now) c.args.own c.args.«package» (ref_of c.args.reference) c.if-reference-ne-MISSING.false c.in_default.ensures _ _ _ c.in_ok-row-2.ensures c.private_of-private.ensures c.if_visible-2.ensures
