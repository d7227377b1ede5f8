-- `name::strip`: what the text keeps from place i on is still to be written at place `count`. Assumes nothing.
use Rattle.name.proofs.Pattern.{Stripping}
use Rattle.name.proofs.strip.Given as goal

abbrev pub invariant-loop-b : goal.invariant-loop-b
invariant-loop-b l = Stripping l.text l.fn.out l.out l.count l.b-index
