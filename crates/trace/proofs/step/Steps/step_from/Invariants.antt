-- The invariant: the steps from the first row on are those from row i on. Assumes nothing.
use Rattle.std.proofs.Common.{◌≡◌}
use Rattle.trace.specs.Steps.{steps_from}
use Rattle.trace.proofs.step.Steps.step_from.Given as goal

abbrev pub invariant-loop-i : goal.invariant-loop-i
invariant-loop-i l = steps_from l.self l.row ≡ steps_from l.self l.i
