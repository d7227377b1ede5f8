-- `semantic::Connection::diagnose_side` meets its contract. Assumes nothing.
use Rattle.output.proofs.Writing.{wrote_none, wrote_as}
use Rattle.semantic.proofs.DiagLaws.{side_some, side_none}
use Rattle.semantic.proofs.Connection.diagnose_side.Goals as goal

pub returns-then-is_some : goal.returns-then-is_some
returns-then-is_some c = wrote_none _ (side_some _ _ _ _ c.first.ensures c.if-is_some.ensures)

pub returns : goal.returns
returns c = wrote_as c.put.ensures (side_none _ _ _ _ c.first.ensures c.if-is_some.ensures c.no_child.ensures c.subcomponent_of-wanted.ensures)
