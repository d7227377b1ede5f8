-- `group_list::match_all` meets its contract: the large room is as large as accepted tables are. Assumes nothing.
use mathlib.Core.Path.{refl}
use native.Mathlib.Omega.{arith}
use Rattle.as5506.specs.Tables.{letter_n, letter_u, letter_e}
use Rattle.child_links.specs.Trees.{of_tree}
use Rattle.tables.proofs.Facts.{facts}
use Rattle.group_list.proofs.match_all.Goals as goal

pub match_in-requires-2 : goal.match_in-requires-2
match_in-requires-2 c =
    let few = (facts (of_tree c.args.tree.now) c.args.tree.now.linked.ok).few in
    record { names = few letter_n; declared = few letter_e; types = few letter_u; few-places = omega arith; few-links = omega arith; features = refl; levels = refl }
