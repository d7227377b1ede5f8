-- `semantic::found::count` meets its contract: what is left to the iterator is counted. Assumes nothing.
use mathlib.Core.Logic.{inl}
use mathlib.Core.Path.{ap}
use native.Mathlib.Omega.{arith}
use Rattle.std.proofs.Common.{length}
use Rattle.std.proofs.lemmas.Iterator.Consumers.{YieldsList-from_shown, count_from_yields_List}
use Rattle.children.specs.Found.{children_left, GivesChild}
use Rattle.semantic.proofs.found.count.Goals as goal

pub count-requires-clause-fits : goal.count-requires-clause-fits
count-requires-clause-fits c = inl (omega (arith, c.requires))

pub returns : goal.returns
returns c = count_from_yields_List c.args.children _ c.count.ensures.ran (YieldsList-from_shown GivesChild (λ x. x) children_left (λ s t h. ap length h.0.0) (λ s x t h. h.0) c.args.children)
