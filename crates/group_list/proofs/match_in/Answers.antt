-- `group_list::match_in` meets its contract: a part of a memory is as long as was asked for. Assumes nothing.
use mathlib.Core.Path.{◌≡◌}
use native.Mathlib.Omega.{arith}
use lib.ListN.{length, take, replicate, length-replicate}
use lib.Seq.{length-take-le}
use Prim.Native.Nat.{ℕ, ◌≤◌}
use Rattle.as5506.specs.Tables.{letter_n, count}
use Rattle.child_links.specs.Trees.{of_tree}
use Rattle.links.proofs.Tables.{into-linked}
use Rattle.group_list.proofs.match_in.Goals as goal

front : (n k : ℕ) → n ≤ k → length (take n (replicate {A = ℕ} k 0)) ≡ n
front n k h = length-take-le n (replicate {A = ℕ} k 0) (rw (length-replicate {A = ℕ} k 0) h)

pub match_connections-requires : goal.match_connections-requires
match_connections-requires g c =
    let k = c.requires in
    let links = length-replicate {A = ℕ} g.row.ROWS 0 in
    let names : _ ≡ count (of_tree c.args.tree.now) letter_n = front (count (of_tree c.args.tree.now) letter_n) g.row.NAMES k.names in
    record {
      linked = into-linked (of_tree c.args.tree.now) _ _ _ _ _ _ (record { fits-nested = rw links k.declared; fits-extends = rw links k.types; fits-inverse = rw links k.types }) c.link_groups.ensures.linked;
      names = omega (arith, names);
      few = omega (arith, names, k.names, k.few-places);
      room = omega (arith, names, k.names, k.features, length-replicate {A = ℕ} g.row.KEPT 0);
    }
