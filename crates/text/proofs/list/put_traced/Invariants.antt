-- `text::list::put_traced` meets its contract. The invariant: the rows from `block` on are left to print. Assumes nothing.
use mathlib.Core.List.{[]}
use Rattle.lent.specs.Model.{model}
use Rattle.text.specs.Printing.{traced_text}
use Rattle.decimal.proofs.Each.{PrintingEach}
use Rattle.text.proofs.list.put_traced.Given as goal

abbrev pub invariant-loop-block : goal.invariant-loop-block
invariant-loop-block l = PrintingEach (traced_text (model l.m)) [] l.rows l.initial.out l.out l.block-index
