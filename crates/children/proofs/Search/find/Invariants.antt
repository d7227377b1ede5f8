use Rattle.std.proofs.Common.{◌≡◌, length}
use Rattle.as5506.specs.Links.{siblings_from}
use Rattle.child_links.specs.Linked.{Inside}
use Rattle.children.specs.Found.{found_from, tables_in}
use Rattle.children.proofs.Search.find.Given as goal

abbrev pub invariant-loop-at : goal.invariant-loop-at
invariant-loop-at l = (found_from l.self l.fn.first ≡ found_from l.self l.at) × Inside (tables_in l.self) l.at

abbrev pub decreases-loop-at : goal.decreases-loop-at
decreases-loop-at l = length (siblings_from (tables_in l.self) l.at)
