-- `child_links::fill::link_children` meets its contract. Assumes nothing.
use mathlib.Core.Path.{◌≡◌}
use lib.ListN.{length}
use Rattle.lent.specs.Model.{model}
use Rattle.child_links.specs.Filling.{Spells}
use Rattle.child_links.proofs.fill.link_children.Given as goal

abbrev pub invariant-loop-i : goal.invariant-loop-i
invariant-loop-i l = Spells (model l.m) l.links l.i × (length l.links ≡ length l.fn.links)
