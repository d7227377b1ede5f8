use Rattle.std.proofs.Common.{rules}
use Rattle.cases.proofs.Taking.{numbers-on}
use Rattle.cases.proofs.numbers.Goals as goal

pub loop-place-preserved : goal.loop-place-preserved
loop-place-preserved g c = (search rules, numbers-on _ _ _ c.loop-place.out c.loop-place.place-index _ (search rules) c.loop-place.invariant.1 c.number.ensures)
