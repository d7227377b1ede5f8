-- `operation_modes::combine::Combined::of` meets its contract. Assumes nothing.
use mathlib.Core.Path.{sym, ◌∙◌}
use Rattle.operation_modes.proofs.Combining.{combining_start, combining_turn}
use Rattle.operation_modes.proofs.combine.Combined.of.Goals as goal

pub loop-i-init : goal.loop-i-init
loop-i-init c = combining_start _ _

pub loop-i-preserved : goal.loop-i-preserved
loop-i-preserved c = combining_turn _ _ c.loop-i.invariant c.loop-i-test.true (sym c.is_over.ensures ∙ c.if-is_over.false) c.size.ensures c.with_next-so.ensures
