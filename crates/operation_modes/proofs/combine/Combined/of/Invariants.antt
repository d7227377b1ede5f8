-- `operation_modes::combine::Combined::of` meets its contract. Assumes nothing.
use Rattle.operation_modes.specs.Linked.{modes_linked}
use Rattle.operation_modes.proofs.Combining.{Combining}
use Rattle.operation_modes.proofs.combine.Combined.of.Given as goal

abbrev pub invariant-loop-i : goal.invariant-loop-i
invariant-loop-i l = Combining (modes_linked l.linked) l.count l.i l.so
