-- The measure: whether the source is being traced, then the steps that are left to make. The loop's invariant: the rows of the steps that are left remain
-- to be written; its measure: how many those are. Assumes nothing.
use Rattle.std.proofs.Common.{◌+◌, ◌*◌, length}
use Rattle.trace.specs.Ends.{chain_places, end_of}
use Rattle.trace.specs.Steps.{after_step}
use Rattle.trace.proofs.Rows.{Going, phase}
use Rattle.trace.proofs.tracer.+trace.Given as goal

abbrev pub decreases-trace : goal.decreases-trace
decreases-trace l = phase l.side * chain_places + l.here.now.left

abbrev pub invariant-loop-next : goal.invariant-loop-next
invariant-loop-next l = Going l.steps l.conn l.other.left (end_of l.other) l.here.path l.here.left l.initial.out l.out l.next

abbrev pub decreases-loop-next : goal.decreases-loop-next
decreases-loop-next l = length (after_step l.steps l.next)
