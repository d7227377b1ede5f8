-- `trace::tracer::put_row` meets its contract: the block that is put is the row's. Assumes nothing.
use Rattle.output.proofs.Writing.{wrote_block}
use Rattle.trace.proofs.tracer.put_row.Goals as goal

pub returns : goal.returns
returns c = wrote_block c.put.ensures c.row.ensures
