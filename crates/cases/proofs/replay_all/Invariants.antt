-- Nothing is taken before a case begins.
use Rattle.std.proofs.Common.{◌≡◌, ◌⊎◌}
use Rattle.cases.specs.{Begins}
use Rattle.cases.proofs.replay_all.Given as goal

abbrev pub invariant-loop : goal.invariant-loop
invariant-loop g l = (g.R.Read.remaining l.input ≡ g.R.Read.remaining l.fn.input) ⊎ Begins (g.R.Read.remaining l.fn.input)
