-- `decimal::first_digit` meets its contract. The invariant: the byte has grown as often as the power was subtracted. Assumes nothing.
use Rattle.decimal.proofs.Spelt.{Subtracting}
use Rattle.decimal.proofs.first_digit.Given as goal

abbrev pub invariant-loop-rest : goal.invariant-loop-rest
invariant-loop-rest l = Subtracting l.n l.power l.byte l.rest

abbrev pub decreases-loop-rest : goal.decreases-loop-rest
decreases-loop-rest l = l.rest
