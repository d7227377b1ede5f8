-- `semantic::Connection::diagnose` meets its contract. Assumes nothing.
use Rattle.output.proofs.Writing.{wrote_none}
use Rattle.semantic.proofs.Connection.diagnose.Goals as goal

pub returns-in-Nothing : goal.returns-in-Nothing
returns-in-Nothing c = wrote_none _ (rw c.in-Nothing.is)
