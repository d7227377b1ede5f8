-- `child_links::fill::slot_for` meets its contract. Assumes nothing.
use Rattle.lent.specs.Model.{model}
use Rattle.child_links.proofs.Search.{Searching, links_left}
use Rattle.child_links.proofs.fill.slot_for.Given as goal

abbrev pub invariant-loop-next : goal.invariant-loop-next
invariant-loop-next l = Searching (model l.m) l.links l.i l.owner l.slot l.next

abbrev pub decreases-loop-next : goal.decreases-loop-next
decreases-loop-next l = links_left (model l.m) l.links l.i l.owner l.next
