-- `child_links::tree::Tree::next_sibling` meets its contract. Assumes nothing.
use native.Mathlib.Omega.{arith}
use Rattle.child_links.proofs.Reading.{rows-linked, next-told}
use Rattle.child_links.proofs.tree.Tree.next_sibling.Goals as goal

pub link_at-requires : goal.link_at-requires
link_at-requires c = omega (arith, c.requires, rows-linked c.args.self.now.linked)

pub returns-clause-value : goal.returns-clause-value
returns-clause-value c = (next-told c.args.self.now.linked c.requires c.link_at.ensures).0

pub returns-clause-inside : goal.returns-clause-inside
returns-clause-inside c = (next-told c.args.self.now.linked c.requires c.link_at.ensures).1
