-- `semantic::Connection::put` meets its contract: the block that is put is the diagnostic's. Assumes nothing.
use mathlib.Core.Path.{refl}
use Rattle.as5506.specs.Layout.{diag_block}
use Rattle.output.proofs.Writing.{wrote_block}
use Rattle.semantic.proofs.Connection.put.Goals as goal

pub returns : goal.returns
unfolding diag_block
returns c = wrote_block c.put.ensures (rw c.code.ensures refl)
