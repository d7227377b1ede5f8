-- `group_match::group_connection` meets its contract. The rows of accepted tables are few. Assumes nothing.
use native.Mathlib.Omega.{arith}
use Rattle.child_links.specs.Trees.{same_in}
use Rattle.group_match.proofs.Connections.{row_below}
use Rattle.group_match.proofs.group_connection.Goals as goal

pub overflow_cast-result : goal.overflow_cast-result
overflow_cast-result c = omega (arith, row_below (same_in c.args.tree.now) _ c.args.row c.args.tree.now.linked.ok c.requires)
