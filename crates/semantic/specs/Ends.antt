-- What the ends of a connection say of it. Assumes nothing.
use Rattle.std.specs.Prelude.{◌≡◌}
use Rattle.as5506.specs.Tables.{Side as TheSide}
use Rattle.as5506.specs.Tracing.{named, rows_at, diags_at}
use Rattle.child_links.specs.Trees.{of_tree, same_in}
use Rattle.children.specs.declared.Children.{Children}
use Rattle.children.specs.Found.{tables_of, children_left}
use Rattle.semantic.specs.declared.Connection.{Connection}
use Rattle.semantic.specs.declared.Ends.{Ends}
use Rattle.semantic.specs.Rows.{rows_from, EndsAlong}
use Rattle.semantic.specs.Diagnostics.{diags_from}

-- an iterator has the children that a connection names on side s
pub record Names (x : Connection) (s : TheSide) (c : Children) : Type 0 where
  pub left : children_left c ≡ named (same_in x.tree.now) (of_tree x.tree.now) s x.row
  pub tables : tables_of c ≡ of_tree x.tree.now

-- the definition's rows of a connection under its limit, and its diagnostics, go by its ends, whose iterators go through its tables
pub record EndsOf (x : Connection) (e : Ends) : Type 0 where
  pub rows : rows_at (same_in x.tree.now) (of_tree x.tree.now) x.limit.steps x.row ≡ rows_from (same_in x.tree.now) x.limit.steps (of_tree x.tree.now) x.row e
  pub diagnostics : diags_at (same_in x.tree.now) (of_tree x.tree.now) x.row ≡ diags_from (of_tree x.tree.now) x.row e
  pub along : EndsAlong (of_tree x.tree.now) e
