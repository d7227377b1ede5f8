-- `lent::slices::put_all` meets its contract. The invariant: the rest of the block, from value k on, is left to write. Assumes nothing.
use Rattle.lent.proofs.Sets.{Putting}
use Rattle.lent.proofs.slices.put_all.Given as goal

abbrev pub invariant-loop-k : goal.invariant-loop-k
invariant-loop-k g l = Putting l.initial.out l.at l.block l.out l.k
