-- `child_links::fill::slot_for` meets its contract. Assumes nothing.
use mathlib.Core.Logic.{inl, inr}
use native.Mathlib.Omega.{arith}
use Rattle.child_links.proofs.Search.{searching_start, searching_turn, searching_falls, searching_end}
use Rattle.child_links.proofs.fill.slot_for.Goals as goal

pub loop-next-init : goal.loop-next-init
loop-next-init c = searching_start c.requires.0 c.requires.1 c.requires.2 c.get_or-next.ensures

pub loop-next-smaller : goal.loop-next-smaller
loop-next-smaller c =
    searching_falls c.requires.0 c.requires.1 c.loop-next.invariant c.loop-next-test.true
    (omega (arith, c.if-place_of-place.true, c.place_of.ensures, c.place_of-place.ensures)) c.get_or-next-in-loop-next.ensures

pub loop-next-preserved : goal.loop-next-preserved
loop-next-preserved c =
    searching_turn c.requires.0 c.requires.1 c.loop-next.invariant c.loop-next-test.true
    (omega (arith, c.if-place_of-place.true, c.place_of.ensures, c.place_of-place.ensures)) c.get_or-next-in-loop-next.ensures

pub returns-else-place_of-place : goal.returns-else-place_of-place
returns-else-place_of-place c =
    searching_end c.requires.0 c.requires.1 c.loop-next.invariant (inr (omega (arith, c.if-place_of-place.false, c.place_of.ensures, c.place_of-place.ensures)))

pub returns-after-loop-next : goal.returns-after-loop-next
returns-after-loop-next c = searching_end c.requires.0 c.requires.1 c.loop-next.invariant (inl c.loop-next-test.false)
