-- `resolver::from_imports` meets its contract. The invariant: what the imports from `row` on give is what all give. Assumes nothing.
use Rattle.lent.specs.Model.{model}
use Rattle.columns.specs.Reference.{ref_of}
use Rattle.resolver.proofs.Steps.{Importing}
use Rattle.resolver.proofs.from_imports.Given as goal

abbrev pub invariant-loop-row : goal.invariant-loop-row
invariant-loop-row l = Importing (model l.m) l.asking (ref_of l.reference) l.row
