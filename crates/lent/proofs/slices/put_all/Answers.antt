-- `lent::slices::put_all` meets its contract. Assumes nothing.
use Rattle.std.proofs.Common.{arith, sym, length, ◌≤◌}
use Rattle.lent.proofs.Sets.{sets-past, putting-end}
use Rattle.lent.proofs.slices.put_all.Goals as goal

pub returns-after-loop-k : goal.returns-after-loop-k
returns-after-loop-k g c = sym (putting-end c.loop-k.invariant (omega (arith, c.min-k-end.ensures)))

pub returns-else-at-out : goal.returns-else-at-out
returns-else-at-out g c = let a = c.args in let past : length a.out.now ≤ a.at = omega (arith, c.if-at-out.false) in sym (sets-past a.block.now a.out.now a.at past)
