-- `name::same_to_the_middle` meets its contract. The invariant: of the first i bytes and of the last i, each is equal folded to the other's. Assumes nothing.
use Rattle.name.proofs.Compare.{Met}
use Rattle.name.proofs.same_to_the_middle.Given as goal

abbrev pub invariant-loop-i : goal.invariant-loop-i
invariant-loop-i l = Met l.s l.t l.i
