-- `semantic::Connection::trace` meets its contract. Assumes nothing.
use Rattle.child_links.specs.Trees.{of_tree, same_in}
use Rattle.output.proofs.Writing.{wrote_none}
use Rattle.semantic.proofs.PairLaws.{rows_none}
use Rattle.semantic.proofs.Connection.trace.Goals as goal

pub returns-in-Faulty : goal.returns-in-Faulty
returns-in-Faulty c = wrote_none _ (rows_none (same_in c.args.self.now.tree.now) c.args.self.now.limit.steps (of_tree c.args.self.now.tree.now) c.args.self.now.row c.args.ends c.in-Faulty.is)
