-- `semantic::Connection::trace_one_to_one` meets its contract. The invariant: the rows of the source and destination children, pair by pair, that are left remain to be written. Assumes nothing.
use Rattle.as5506.specs.Layout.{traced_block}
use Rattle.child_links.specs.Trees.{of_tree, same_in}
use Rattle.children.specs.Found.{tables_of, children_left}
use Rattle.std.specs.Iterator.Adapters.{zip_first, zip_second}
use Rattle.output.proofs.Writing.{Writing}
use Rattle.semantic.specs.Rows.{rows_zip}
use mathlib.Core.Path.{◌≡◌}
use Rattle.semantic.proofs.Connection.trace_one_to_one.Given as goal

abbrev pub invariant-loop-a : goal.invariant-loop-a
invariant-loop-a l =
    let m = of_tree l.self.tree.now in
    let same = same_in l.self.tree.now in
    record {
      sources : tables_of (zip_first l.a-iterator) ≡ m;
      destinations : tables_of (zip_second l.a-iterator) ≡ m;
      rows : Writing (traced_block m) (rows_zip same l.self.limit.steps m l.self.row (children_left l.initial.sources) (children_left l.initial.destinations)) l.initial.out l.out
          (rows_zip same l.self.limit.steps m l.self.row (children_left (zip_first l.a-iterator)) (children_left (zip_second l.a-iterator)));
    }
