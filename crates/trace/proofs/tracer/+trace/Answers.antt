-- `trace::tracer::trace` meets its contract. Assumes nothing.
use Rattle.trace.proofs.Rows.{ends_source, ends_destination, going_start, going_on, going_full, going_end}
use Rattle.trace.proofs.tracer.+trace.Goals as goal

pub returns-in-Source : goal.returns-in-Source
returns-in-Source t c = ends_source _ _ _ _ _ _ _ _ _ _ c.in_default.ensures.begins c.in-Source.is c.trace.ensures

pub returns-in-Destination : goal.returns-in-Destination
returns-in-Destination t c = ends_destination _ _ _ _ _ _ _ _ _ _ c.in_default.ensures.begins c.in-Destination.is c.put_row.ensures

pub loop-next-init : goal.loop-next-init
loop-next-init t c = going_start _ _ _ _ _ _ c.in-Some.ensures.within c.in-Some.ensures.begins

pub returns-in_err-trace : goal.returns-in_err-trace
returns-in_err-trace t c = going_full _ _ _ _ _ _ c.loop-next.invariant c.in-Some-next.is c.with.ensures c.trace-in-Some-next.ensures c.in_err-trace.was c.from_residual.ensures

pub loop-next-preserved : goal.loop-next-preserved
loop-next-preserved t c =
    going_on _ _ _ _ _ _ c.loop-next.invariant c.in-Some-next.is c.with.ensures c.trace-in-Some-next.ensures
    c.in_ok-trace.was c.next_step-next.ensures.within c.next_step-next.ensures.steps

pub returns : goal.returns
returns t c = going_end _ _ _ _ _ _ c.loop-next.invariant c.in_default-next.is
