-- `decimal::put_digits` meets its contract. The invariant: the last k digits are left to print. Assumes nothing.
use Rattle.decimal.proofs.Spelt.{Spelling}
use Rattle.decimal.proofs.put_digits.Given as goal

abbrev pub invariant-loop-k : goal.invariant-loop-k
invariant-loop-k l = Spelling l.count l.n l.initial.out l.out l.k l.rest
