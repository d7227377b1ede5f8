-- `semantic::list::list_all` meets its contract. The invariant: the rows of the X rows before `row` are written, and of their diagnostics as many as find
-- room. Assumes nothing.
use Rattle.std.specs.Prelude.{Some}
use Rattle.as5506.specs.Lists.{up_to, each}
use Rattle.as5506.specs.Tracing.{rows_at, diags_at}
use Rattle.as5506.specs.Layout.{traced_block, diag_block}
use Rattle.child_links.specs.Trees.{of_tree, same_in}
use Rattle.output.specs.Blocks.{Wrote}
use Rattle.semantic.proofs.list.list_all.Given as goal

abbrev pub invariant-loop-row : goal.invariant-loop-row
invariant-loop-row l =
    let m = of_tree l.tree in
    let same = same_in l.tree in
    record {
      rows : Wrote (traced_block m) (each (rows_at same m l.limit.steps) (up_to l.row)) l.initial.rows (Some tt) l.rows;
      diagnostics : Wrote diag_block (each (diags_at same m) (up_to l.row)) l.initial.diagnostics l.noted l.diagnostics;
    }
