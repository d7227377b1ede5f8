-- The cycle `visit`, `expand_type` and `walk_features` meets its contracts: levels left fall from visit to visit, and a visit that is known is
-- passed over. Assumes nothing.
use Rattle.std.proofs.Common.{◌+◌, ◌*◌}
use Rattle.group_walk.proofs.Parts.{Onward}
use Rattle.group_walk.proofs.Walk.+expand_type_visit_walk_features.Given as goal

abbrev pub decreases-expand_type : goal.decreases-expand_type
decreases-expand_type l = 3 * l.at.now.left + 2

abbrev pub decreases-visit : goal.decreases-visit
decreases-visit l = 3 * l.at.now.left

abbrev pub decreases-walk_features : goal.decreases-walk_features
decreases-walk_features l = 3 * l.at.now.left + 1

abbrev pub invariant-walk_features-loop-i : goal.invariant-walk_features-loop-i
invariant-walk_features-loop-i l = Onward l.self l.row l.at l.initial.sink l.visits l.sink l.calm l.seen l.i
