-- `operation_modes::join::put_names` meets its contract: the names that are left are still to be printed. Assumes nothing.
use lib.ListN.{drop}
use Rattle.as5506.specs.Lists.{each}
use Rattle.as5506.specs.Modes.{joined_name}
use Rattle.lent.specs.Model.{model}
use Rattle.output.proofs.Put.{Printing}
use Rattle.operation_modes.proofs.Joining.{behind}
use Rattle.operation_modes.proofs.join.put_names.Given as goal

abbrev pub invariant-loop-row : goal.invariant-loop-row
invariant-loop-row l =
    Printing (joined_name (model l.m) l.rows) l.fn.out l.out (each (behind (model l.m)) (drop l.row-index l.others))
