-- `operation_modes::choose::choose_modes` meets its contract. Assumes nothing.
use lib.Seq.{sets}
use Rattle.as5506.specs.Lists.{up_to}
use Rattle.as5506.specs.Digits.{pick}
use Rattle.operation_modes.specs.Linked.{modes_linked, modal_of}
use Rattle.operation_modes.proofs.Choosing.{Choosing}
use Rattle.operation_modes.proofs.choose.choose_modes.Given as goal

abbrev pub invariant-loop-i : goal.invariant-loop-i
invariant-loop-i l =
    let modes = modes_linked l.linked in
    Choosing modes l.fn.combined.end (sets l.initial.rows 0 (pick (modal_of modes (up_to l.fn.combined.end)) l.k)) l.i l.weight l.left l.at l.rows
