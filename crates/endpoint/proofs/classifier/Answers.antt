-- `endpoint::classifier` meets its contract. One law of Steps for each package to ask from. Assumes nothing.
use Rattle.lent.specs.Model.{model}
use Rattle.columns.specs.Reference.{ref_of}
use Rattle.endpoint.proofs.Steps.{from_component, from_classifier}
use Rattle.endpoint.proofs.classifier.Goals as goal

pub returns-then-package : goal.returns-then-package
returns-then-package c =
    let r = c.classifier_of-package in from_component (model c.args.m.now) c.args.component c.args.i (ref_of r.result) r.ensures c.if-type_name.false _ c.if-package.true c.package_of-package.ensures

pub returns : goal.returns
returns c = let r = c.classifier_of-package in from_classifier (model c.args.m.now) c.args.component c.args.i (ref_of r.result) r.ensures c.if-type_name.false c.if-package.false
