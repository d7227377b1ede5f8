-- `operation_modes::link::Linked::mode` meets its contract. Assumes nothing.
use mathlib.Core.Path.{◌≡◌}
use lib.ListN.{get_or}
use Rattle.operation_modes.specs.Linked.{modes_linked}
use Rattle.operation_modes.proofs.link.Linked.mode.Given as goal

abbrev pub invariant-loop : goal.invariant-loop
invariant-loop l = l.mode ≡ get_or (modes_linked l.self l.i) l.counter 0
