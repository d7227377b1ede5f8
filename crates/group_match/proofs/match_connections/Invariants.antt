-- `group_match::match_connections` meets its contract. The invariant: the connections that are left, from what is carried, give what all give. Assumes nothing.
use mathlib.Core.Path.{◌≡◌}
use lib.ListN.{length}
use Rattle.child_links.specs.Trees.{of_tree, same_in}
use Rattle.sink.specs.Take.{held, SameBuffers}
use Rattle.group_match.proofs.Loop.{Goes}
use Rattle.group_match.proofs.match_connections.Given as goal

abbrev pub invariant-loop-row : goal.invariant-loop-row
invariant-loop-row l =
    record {
      kept : length l.kept ≡ length l.initial.kept;
      same : SameBuffers l.initial.sink l.sink;
      goes : Goes (same_in l.tree) (of_tree l.tree) (held l.initial.sink) (held l.sink) l.row;
    }
