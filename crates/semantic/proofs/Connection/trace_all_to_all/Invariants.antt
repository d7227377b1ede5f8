-- `semantic::Connection::trace_all_to_all` meets its contract. The invariant: the rows of the source children that are left remain to be written. Assumes nothing.
use Rattle.as5506.specs.Layout.{traced_block}
use Rattle.child_links.specs.Trees.{of_tree, same_in}
use Rattle.children.specs.Found.{tables_of, children_left}
use Rattle.output.proofs.Writing.{Writing}
use Rattle.semantic.specs.Rows.{rows_all}
use mathlib.Core.Path.{◌≡◌}
use Rattle.semantic.proofs.Connection.trace_all_to_all.Given as goal

abbrev pub invariant-loop-i : goal.invariant-loop-i
invariant-loop-i l =
    let m = of_tree l.self.tree.now in
    let same = same_in l.self.tree.now in
    record {
      tables : tables_of l.i-iterator ≡ m;
      rows : Writing (traced_block m) (rows_all same l.self.limit.steps m l.self.row (children_left l.fn.sources) (children_left l.fn.destinations)) l.initial.out l.out
          (rows_all same l.self.limit.steps m l.self.row (children_left l.i-iterator) (children_left l.fn.destinations));
    }
