-- `operation_modes::choose::choose_modes` meets its contract. Assumes nothing.
use native.Mathlib.Omega.{arith}
use Rattle.operation_modes.proofs.Choosing.{choosing_none, choosing_end, weight_some, digit_less, choosing_turn}
use Rattle.operation_modes.proofs.choose.choose_modes.Goals as goal

pub loop-i-preserved-then-size-eq0 : goal.loop-i-preserved-then-size-eq0
loop-i-preserved-then-size-eq0 c = choosing_none c.loop-i.invariant c.loop-i-test.true c.size-size.ensures c.if-size-eq0.true

pub nonzero_div-left : goal.nonzero_div-left
nonzero_div-left c = omega (arith, weight_some c.loop-i.invariant c.loop-i-test.true c.size-size.ensures c.if-size-eq0.false)

pub mode-requires : goal.mode-requires
mode-requires c = digit_less c.loop-i.invariant c.loop-i-test.true c.size-size.ensures c.if-size-eq0.false

pub nonzero_rem-left : goal.nonzero_rem-left
nonzero_rem-left c = omega (arith, weight_some c.loop-i.invariant c.loop-i-test.true c.size-size.ensures c.if-size-eq0.false)

pub loop-i-preserved : goal.loop-i-preserved
loop-i-preserved c = choosing_turn c.loop-i.invariant c.loop-i-test.true c.size-size.ensures c.if-size-eq0.false c.mode.ensures c.put.ensures

pub returns : goal.returns
returns c = choosing_end c.loop-i.invariant c.loop-i-test.false
