-- `semantic::Connection::owner` meets its contract: the owner of a connection is a component. Assumes nothing.
use Rattle.as5506.proofs.Accepted.{sound}
use Rattle.semantic.proofs.Connection.owner.Goals as goal

pub returns-clause-inside : goal.returns-clause-inside
returns-clause-inside c = rw c.owner_of.ensures ((sound _ c.args.self.now.tree.now.linked.ok).owners c.args.self.now.row c.args.self.now.in_table)
