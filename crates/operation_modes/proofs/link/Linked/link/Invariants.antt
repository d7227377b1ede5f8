-- `operation_modes::link::Linked::link` meets its contract. Assumes nothing.
use Rattle.lent.specs.Model.{model}
use Rattle.operation_modes.proofs.Linking.{Linking}
use Rattle.operation_modes.proofs.link.Linked.link.Given as goal

abbrev pub invariant-loop-i : goal.invariant-loop-i
invariant-loop-i l = Linking (model l.tables.m.now) l.i l.self
