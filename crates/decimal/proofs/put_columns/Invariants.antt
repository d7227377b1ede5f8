-- `decimal::put_columns` meets its contract. The invariant: the columns of the numbers from `number` on are left to print. Assumes nothing.
use Rattle.as5506.specs.Text.{column}
use Rattle.decimal.proofs.Each.{PrintingEach}
use Rattle.decimal.proofs.put_columns.Given as goal

abbrev pub invariant-loop-number : goal.invariant-loop-number
invariant-loop-number l = PrintingEach column 0 l.numbers l.initial.out l.out l.number-index
