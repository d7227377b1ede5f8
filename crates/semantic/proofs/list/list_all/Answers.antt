-- `semantic::list::list_all` meets its contract. Assumes nothing.
use mathlib.Core.Path.{refl, sym}
use Rattle.std.specs.Prelude.{◌+◌, ◌<◌}
use native.Mathlib.Omega.{arith}
use Rattle.as5506.specs.Tables.{x_count}
use Rattle.as5506.specs.Tracing.{traced, traced_diags}
use Rattle.child_links.specs.Trees.{of_tree}
use Rattle.output.proofs.Writing.{wrote_none, wrote_as}
use Rattle.semantic.proofs.Fronts.{front_then, front_full, front_whole, front_end, ends_rows}
use Rattle.semantic.proofs.list.list_all.Goals.{then-is_some, else-is_some}
use Rattle.semantic.proofs.list.list_all.Goals as goal

pub loop-row-init : goal.loop-row-init
loop-row-init c = record { rows = wrote_none _ refl; diagnostics = wrote_none _ refl }

pub returns-in_err-trace : goal.returns-in_err-trace
unfolding traced
returns-in_err-trace c =
    let is_row : c.loop-row.row < x_count (of_tree c.args.tree.now) = omega arith in
    let over = front_then _ c.loop-row.row c.loop-row.invariant.rows refl (wrote_as c.trace.ensures c.ends-ends.ensures.rows) c.in_err-trace.was in
    rw c.from_residual.ensures (
      front_whole _ (c.loop-row.row + 1) over refl (x_count (of_tree c.args.tree.now)) (omega arith),
      record { row = c.loop-row.row; ends = ends_rows is_row c.loop-row.invariant.rows over; told = c.loop-row.noted; wrote = c.loop-row.invariant.diagnostics },
    )

pub loop-row-preserved : goal.loop-row-preserved
loop-row-preserved c =
    record {
      rows = front_then _ c.loop-row.row c.loop-row.invariant.rows refl (wrote_as c.trace.ensures c.ends-ends.ensures.rows) c.in_ok-trace.was;
      diagnostics = elim c.if-is_some.branch [
        | then-is_some w ↦ rw (w.diagnostics-is, w.noted-is)
            (front_then _ c.loop-row.row c.loop-row.invariant.diagnostics (sym w.if-is_some.ensures) (wrote_as w.diagnose-noted.ensures c.ends-ends.ensures.diagnostics) refl)
        | else-is_some w ↦ rw (w.diagnostics-is, w.noted-is) (front_full _ c.loop-row.row c.loop-row.invariant.diagnostics (sym w.if-is_some.ensures))
      ];
    }

pub returns : goal.returns
unfolding traced traced_diags
returns c =
    let n = x_count (of_tree c.args.tree.now) in
    (front_end _ c.loop-row.row c.loop-row.invariant.rows n (omega arith), front_end _ c.loop-row.row c.loop-row.invariant.diagnostics n (omega arith))
