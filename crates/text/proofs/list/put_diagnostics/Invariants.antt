-- `text::list::put_diagnostics` meets its contract. The invariant: the diagnostics from `block` on are left to print. Assumes nothing.
use mathlib.Core.List.{[]}
use Rattle.lent.specs.Model.{model}
use Rattle.text.specs.Printing.{diagnostic_text}
use Rattle.decimal.proofs.Each.{PrintingEach}
use Rattle.text.proofs.list.put_diagnostics.Given as goal

abbrev pub invariant-loop-block : goal.invariant-loop-block
invariant-loop-block l = PrintingEach (diagnostic_text (model l.m)) [] l.list l.initial.out l.out l.block-index
