-- `text::list::put_group` meets its contract. The invariant: the rows from `block` on are left to print, with the names that are left. Assumes nothing.
use Rattle.text.proofs.Pieces.{PrintingRows}
use Rattle.text.proofs.list.put_group.Given as goal

abbrev pub invariant-loop-block : goal.invariant-loop-block
invariant-loop-block l = PrintingRows l.rows l.names l.initial.out l.out l.block-index l.left
