-- `semantic::Connection::diagnose_unequal` meets its contract. Assumes nothing.
use Rattle.output.proofs.Writing.{wrote_none}
use Rattle.semantic.proofs.DiagLaws.{counts_equal}
use Rattle.semantic.proofs.Connection.diagnose_unequal.Goals as goal

pub returns-then-s-d : goal.returns-then-s-d
returns-then-s-d c = wrote_none _ (counts_equal _ _ _ c.if-s-d.true)
